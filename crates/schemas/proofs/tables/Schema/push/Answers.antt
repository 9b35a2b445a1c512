use Rattle.std.proofs.Common.{rules, ◌∙◌}
use Rattle.std.proofs.lemmas.List.{take_more_set}
use Rattle.schemas.specs.Fields.{field}
use Rattle.schemas.proofs.Adding.{whole_name, pushed}
use Rattle.schemas.proofs.tables.Schema.push.Goals as goal

pub invariant_of-self : goal.invariant_of-self
invariant_of-self c =
    let column = c.new.ensures ∙ whole_name c.args.self.now c.args.name.now c.args.dtype c.requires in
    rw (c.from.ensures, column)
    (pushed c.self.inside (field c.args.name.now c.args.dtype) c.self.invariant (rw c.self.view_is c.requires))

pub returns : goal.returns
returns c =
    let column = c.new.ensures ∙ whole_name c.args.self.now c.args.name.now c.args.dtype c.requires in
    rw column (search (rules, take_more_set))
