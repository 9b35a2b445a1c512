use Rattle.std.proofs.Common.{Some, None, arith}
use Rattle.hosts.proofs.Replies.{replied}
use Rattle.hosts.proofs.numbers.coalesce.Goals as goal

pub returns-in-Some-clause-value : goal.returns-in-Some-clause-value
returns-in-Some-clause-value c arena row =
    replied arena row c.args.args.now (Some c.in-Some.place) (omega arith) c.in-Some.ensures.value

pub returns-in-None-clause-value : goal.returns-in-None-clause-value
returns-in-None-clause-value c arena row =
    replied arena row c.args.args.now None (omega arith) c.in-None.ensures.value
