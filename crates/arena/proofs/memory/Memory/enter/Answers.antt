use Rattle.std.proofs.Common.{ℕ, [], ◌∷◌, length, ap, ◌∙◌, arith, length-append}
use Rattle.vocabulary.specs.Nodes.{BoundNode as Node}
use Rattle.arena.specs.Rooms.{Limited}
use Rattle.arena.proofs.Stands.{added_stand, added_grown}
use Rattle.arena.proofs.memory.Memory.enter.Goals as goal

pub invariant_of-self : goal.invariant_of-self
invariant_of-self c =
    let h = c.args.self.now in
    let more = c.args.more.now in
    let records = ap (λ (z : Limited Node). z.limit) c.push.ensures in
    let bytes = ap (λ (z : Limited ℕ). z.limit) c.extend.ensures in
    let one_more = ap (λ (z : Limited Node). length z.items) c.push.ensures in
    let longer = ap (λ (z : Limited ℕ). length z.items) c.extend.ensures ∙ length-append h.text.items more in
    record {
      few = omega (arith, records, one_more, length-append h.nodes.items (c.args.node ∷ []), c.requires.room);
      short = omega (arith, bytes, longer, c.requires.text_room);
      numbered = omega (arith, records, h.numbered);
      addressed = omega (arith, bytes, h.addressed);
      sound =
          added_stand h c.push.new.self.items (length c.extend.new.self.items) c.args.node more
          (ap (λ (z : Limited Node). z.items) c.push.ensures)
          longer c.requires.standing;
    }

pub returns : goal.returns
returns c = record {
  number = c.len-number.ensures.value;
  after =
      λ ss.
      added_grown ss c.args.self.now c.push.new.self c.extend.new.self c.args.node c.args.more.now c.push.ensures
      c.extend.ensures;
}
