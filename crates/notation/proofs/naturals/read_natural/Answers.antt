use Rattle.std.proofs.Common.{◌≡◌, rules, tests, ap, ◌∙◌, arith}
use Rattle.notation.specs.Naturals.{natural_from}
use Rattle.notation.proofs.Digits.{folded, some_digits}
use Rattle.notation.proofs.naturals.read_natural.Goals as goal

pub returns : goal.returns
returns c =
    let digits = c.args.digits.now in
    let whole : c.iter.result.rest.now ≡ digits = cc in
    let (xs, o, q, a, yields, folds, last) = c.try_fold.ensures.ran in
    folded _ _ (λ n x r q k. search (rules, tests)) _ 0 xs _ _ o q a _ (omega arith) yields folds last
    ∙ ap (natural_from 0) whole
    ∙ some_digits digits c.if-is_empty.ensures
