use Rattle.std.proofs.Common.{◌≡◌, ℕ, [], length, Some, Ok, Err, Result, sym, ap, ◌∙◌, arith}
use Rattle.std.proofs.lemmas.Result.{err_from_is_err_and}
use Rattle.vocabulary.specs.Nodes.{BoundNode as Node}
use Rattle.vocabulary.specs.declared.refusals.Refusal.{Refusal}
use Rattle.model.specs.Making.{entered}
use Rattle.model.specs.Stores.{Store, node_at}
use Rattle.arena.specs.Opened.{store}
use Rattle.arena.proofs.Drafts.{nodes_length}
use Rattle.arena.proofs.Remade.{made_anew, remade_is, remade_fits}
use Rattle.arena.proofs.memory.Memory.rebuild.Goals as goal

pub enter-requires : goal.enter-requires
enter-requires g c =
    let h = c.args.self.now in
    let k = c.args.node in
    let x = c.in_ok-old.field-0.now in
    let cs = c.args.children.now in
    let found : node_at (store [] h) k ≡ Some x = grind (arith, c.in_ok-old.ensures) in
    let fits =
    remade_fits [] h (g.T.Typist.typing c.args.typist.now) k x cs (length cs) found (omega arith) c.in_ok-anew.anew
    c.in_ok-anew.ensures
    in
    record { room = fits.room; text_room = fits.text_room; standing = fits.stands_there }

pub returns : goal.returns
returns g c =
    let t = g.T.Typist.typing c.args.typist.now in
    let h = c.args.self.now in
    let k = c.args.node in
    let x = c.in_ok-old.field-0.now in
    let cs = c.args.children.now in
    let n = length cs in
    let found : node_at (store [] h) k ≡ Some x = grind (arith, c.in_ok-old.ensures) in
    record {
      answers =
          λ ss. ap Ok (c.enter.ensures.number ∙ nodes_length ss h)
          ∙ ap (λ (r : Result Node Refusal). (entered [] (store ss h) r).0)
          (c.in_ok-anew.ensures ∙ remade_is ss h t k x cs n found)
          ∙ sym (ap (λ (z : Result ℕ Refusal × Store). z.0)
          (made_anew ss h t k x cs n found c.if-is_itself.ensures));
      after =
          λ ss. c.enter.ensures.after ss
          ∙ ap (λ (r : Result Node Refusal). (entered [] (store ss h) r).1)
          (c.in_ok-anew.ensures ∙ remade_is ss h t k x cs n found)
          ∙ sym (ap (λ (z : Result ℕ Refusal × Store). z.1)
          (made_anew ss h t k x cs n found c.if-is_itself.ensures));
    }

pub returns-in_err-anew : goal.returns-in_err-anew
returns-in_err-anew g c =
    let t = g.T.Typist.typing c.args.typist.now in
    let h = c.args.self.now in
    let k = c.args.node in
    let x = c.in_ok-old.field-0.now in
    let cs = c.args.children.now in
    let n = length cs in
    let found : node_at (store [] h) k ≡ Some x = grind (arith, c.in_ok-old.ensures) in
    let (e, is, from) =
    err_from_is_err_and c.from_residual-in_err-anew.result c.from_residual-in_err-anew.ensures.1
    in
    record {
      answers =
          λ ss. is ∙ ap Err from
          ∙ ap (λ (r : Result Node Refusal). (entered [] (store ss h) r).0)
          (c.in_err-anew.ensures ∙ remade_is ss h t k x cs n found)
          ∙ sym (ap (λ (z : Result ℕ Refusal × Store). z.0)
          (made_anew ss h t k x cs n found c.if-is_itself.ensures));
      after =
          λ ss. ap (λ (r : Result Node Refusal). (entered [] (store ss h) r).1)
          (c.in_err-anew.ensures ∙ remade_is ss h t k x cs n found)
          ∙ sym (ap (λ (z : Result ℕ Refusal × Store). z.1)
          (made_anew ss h t k x cs n found c.if-is_itself.ensures));
    }
