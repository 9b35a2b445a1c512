use Rattle.arena.proofs.Calls.{calls_make, calls_rebuild, calls_make_unbound, calls_rebuild_unbound}
use Rattle.arena.proofs.laws.calls_do_as_asked.Goals as goal

pub returns : goal.returns
returns c = record {
  made = calls_make;
  rebuilt = calls_rebuild;
  made_unbound = calls_make_unbound;
  rebuilt_unbound = calls_rebuild_unbound;
}
