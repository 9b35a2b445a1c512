use Rattle.meaning.proofs.WorkedCases.{worked_cases}
use Rattle.meaning.proofs.laws.rewriting.worked_cases.Goals as goal

pub returns : goal.returns
returns c = worked_cases
