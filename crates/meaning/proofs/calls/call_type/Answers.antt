use Rattle.std.proofs.Common.{arith}
use Rattle.meaning.proofs.Binding.{plain_type}
use Rattle.meaning.proofs.calls.call_type.Goals as goal

pub returns-clause-plain : goal.returns-clause-plain
returns-clause-plain g c =
    plain_type (g.H.Host.meaning c.args.host.now) c.args.code c.args.types.now c.type_of.result
    (g.met.H.Host.lawful c.args.host.now) (grind arith)
