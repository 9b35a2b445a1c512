use Rattle.meaning.proofs.OptimizedIsNormal.{optimized_is_normal}
use Rattle.meaning.proofs.laws.rewriting.optimized_is_normal.Goals as goal

pub returns : goal.returns
returns c = optimized_is_normal
