use Rattle.std.proofs.Common.{Some, None, sym, ◌∙◌, arith}
use Rattle.typing.proofs.Sought.{column_sought, column_past}
use Rattle.typing.proofs.binder.column_type.Goals as goal

pub returns-then-from-len : goal.returns-then-from-len
returns-then-from-len c =
    sym (column_past c.args.schemas.now c.args.schema c.args.name.now (omega arith))

pub returns : goal.returns
returns c =
    sym (column_sought c.args.schemas.now c.args.schema c.args.name.now (omega arith)
    (Some c.in_ok-found.found) (cc c.in_ok-found.was))

pub returns-in_err-found : goal.returns-in_err-found
returns-in_err-found c =
    c.from_residual.ensures
    ∙ sym (column_sought c.args.schemas.now c.args.schema c.args.name.now (omega arith) None
    (cc c.in_err-found.was))
