use Rattle.meaning.proofs.RulesKeepValue.{simplify_keeps, reduce_keeps, round_keeps}
use Rattle.meaning.proofs.laws.rewriting.rules_keep.Goals as goal

pub returns : goal.returns
returns c = record { simplify = simplify_keeps; reduce = reduce_keeps; round = round_keeps }
