use Rattle.meaning.proofs.RulesKeepValue.{optimizing_keeps}
use Rattle.meaning.proofs.laws.rewriting.optimizing_keeps.Goals as goal

pub returns : goal.returns
returns c = optimizing_keeps
