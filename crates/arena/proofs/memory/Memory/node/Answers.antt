use Rattle.std.proofs.Common.{◌≡◌, Some, None, Option, refl, ap, ◌∙◌, Bor}
use Rattle.std.specs.Option.{ok_or, option_copied}
use Rattle.std.specs.Result.{result_map_both as both}
use Rattle.vocabulary.specs.Nodes.{BoundNode as Node}
use Rattle.vocabulary.specs.declared.refusals.MemoryRefusal.{MemoryRefusal}
use Rattle.vocabulary.specs.declared.refusals.MemoryRefusal.TheVariants.{NoSuchNode}
use Rattle.arena.proofs.Numbered.{node_got}
use Rattle.arena.proofs.memory.Memory.node.Goals as goal

copied_or : (o : Option (Bor Node)) (e : MemoryRefusal)
    → both (λ x. x.now) (λ z. z) (ok_or o e) ≡ ok_or (option_copied o) e
copied_or None e = refl
copied_or (Some x) e = refl

pub returns : goal.returns
returns c =
    let n = c.args.number in
    let e = NoSuchNode n in
    ap (both (λ (x : Bor Node). x.now) (λ (z : MemoryRefusal). z)) c.ok_or.ensures.value
    ∙ copied_or c.get.result e
    ∙ ap (λ (o : Option Node). ok_or o e) (c.get.ensures ∙ node_got c.args.self.now.nodes.items n)
