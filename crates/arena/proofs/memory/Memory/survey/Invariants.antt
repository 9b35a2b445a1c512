use Rattle.std.proofs.Common.{◌≡◌, ◌*◌, ◌≤◌, [], length, drop}
use Rattle.model.specs.Making.{looked_up}
use Rattle.arena.specs.Opened.{store}
use Rattle.arena.specs.Surveying.{surveyed, no_kin}
use Rattle.arena.proofs.memory.Memory.survey.Given as goal

-- what is left to look at answers for the whole
abbrev pub invariant-loop-child : goal.invariant-loop-child
invariant-loop-child l = record {
  counted : length l.types ≡ l.child-index;
  small : l.size ≤ 65535 * l.child-index;
  answers :
      surveyed (record { types = l.types; depth = l.depth; size = l.size })
      (looked_up (store [] l.self) (drop l.child-index l.first))
      ≡ surveyed no_kin (looked_up (store [] l.self) l.first);
}
