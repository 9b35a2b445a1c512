use Rattle.std.proofs.Common.{Ok, sym, ap, ◌∙◌, subst, length-set, arith, rules}
use Rattle.std.proofs.lemmas.List.{set-get_or}
use Rattle.schemas.specs.AllSchemas.{AllDeclared, placed, added, after}
use Rattle.schemas.specs.Fields.{Field, field}
use Rattle.schemas.proofs.TableReads.{numbered_ok, answered, placed_refused, placed_granted, more_fields}
use Rattle.schemas.proofs.TableReads.{declared_with_more}
use Rattle.schemas.proofs.tables.Schemas.add.Goals as goal

pub returns-then-not-takes : goal.returns-then-not-takes
returns-then-not-takes c =
    let table = c.self.inside.table in
    let schema = c.args.schema in
    let column : Field = field c.args.name.now c.args.dtype in
    record {
      answer =
          placed_refused schema c.len-column.result column _ c.into.result
          c.len-column.ensures.value c.if-not-takes.ensures c.into.ensures
          ∙ answered schema c.in_ok-at.at (placed schema column) table c.index-table-at.result
          c.in_ok-at.ensures (omega arith)
          ∙ ap (added schema column) c.self.view_is;
      after = set-get_or table c.in_ok-at.at c.index-table-at.result ∙ c.self.view_is;
      declared =
          subst AllDeclared (sym (set-get_or table c.in_ok-at.at c.index-table-at.result))
          (omega arith, c.self.invariant);
    }

pub returns : goal.returns
returns c =
    let table = c.self.inside.table in
    let schema = c.args.schema in
    let column : Field = field c.args.name.now c.args.dtype in
    let at = c.in_ok-at.at in
    let here = c.index-table-at.result in
    let known = numbered_ok schema at c.in_ok-at.ensures in
    record {
      answer =
          placed_granted schema c.len-column.result column _ c.len-column.ensures.value c.if-not-takes.ensures
          ∙ answered schema at (placed schema column) table here c.in_ok-at.ensures (omega arith)
          ∙ ap (added schema column) c.self.view_is;
      after =
          more_fields table at here c.push.new.self column (omega arith) c.push.ensures
          ∙ rw known.0 (ap (after (Ok c.len-column.result) schema column) c.self.view_is);
      declared = (
        length-set table at c.push.new.self ∙ omega arith,
        declared_with_more table at here c.push.new.self column c.self.invariant (omega arith)
            (sym c.if-not-takes.ensures) c.push.ensures,
      );
    }

pub returns-in_err-at : goal.returns-in_err-at
returns-in_err-at c = record {
  answer = search rules;
  after = search rules;
  declared = (omega arith, c.self.invariant);
}

pub invariant_of-self-2 : goal.invariant_of-self-2
invariant_of-self-2 c =
    let known = numbered_ok c.args.schema c.in_ok-at.at c.in_ok-at.ensures in
    declared_with_more c.self.inside.table c.in_ok-at.at c.index-table-at.result c.push.new.self
    (field c.args.name.now c.args.dtype) c.self.invariant (omega arith) (sym c.if-not-takes.ensures) c.push.ensures
