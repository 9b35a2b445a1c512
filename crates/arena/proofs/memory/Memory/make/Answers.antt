use Rattle.std.proofs.Common.{◌≡◌, ℕ, ◌+◌, true, List, [], reverse, length, Ok, Err, Result, sym}
use Rattle.std.proofs.Common.{ap, ◌∙◌, subst, arith}
use Rattle.std.proofs.lemmas.Result.{err_from_is_err_and}
use Rattle.vocabulary.specs.Nodes.{BoundNode as Node}
use Rattle.vocabulary.specs.declared.refusals.Refusal.{Refusal}
use Rattle.model.specs.Making.{entered}
use Rattle.model.specs.Stores.{grown}
use Rattle.model.specs.Wanted.{new_bytes}
use Rattle.typing.specs.Asked.{new_of}
use Rattle.arena.specs.Opened.{store}
use Rattle.arena.specs.Standing.{stands}
use Rattle.arena.proofs.Drafts.{nodes_length}
use Rattle.arena.proofs.Made.{made_is, made_fits}
use Rattle.arena.proofs.memory.Memory.make.Goals as goal

pub enter-requires : goal.enter-requires
enter-requires g c =
    let h = c.args.self.now in
    let cs = c.args.children.now in
    let same = ap length c.bytes.ensures in
    let fits =
    made_fits [] h (g.T.Typist.typing c.args.typist.now) c.args.place (new_of c.args.asked) cs (length cs)
    (omega arith) c.in_ok-node.node c.in_ok-node.ensures
    in
    record {
      room = fits.room;
      text_room = omega (arith, fits.text_room, same);
      standing =
          subst (λ (k : ℕ). stands (length h.text.items + k) (reverse h.nodes.items) c.in_ok-node.node ≡ true)
          (sym same) fits.stands_there;
    }

pub returns : goal.returns
returns g c =
    let t = g.T.Typist.typing c.args.typist.now in
    let h = c.args.self.now in
    let w = new_of c.args.asked in
    let cs = c.args.children.now in
    record {
      answers =
          λ ss. ap Ok (c.enter.ensures.number ∙ nodes_length ss h)
          ∙ ap (λ (r : Result Node Refusal). (entered (new_bytes w) (store ss h) r).0)
          (c.in_ok-node.ensures ∙ made_is ss h t c.args.place w cs (length cs));
      after =
          λ ss. c.enter.ensures.after ss
          ∙ ap (λ (bs : List ℕ). grown c.in_ok-node.node bs (store ss h)) c.bytes.ensures
          ∙ ap (λ (r : Result Node Refusal). (entered (new_bytes w) (store ss h) r).1)
          (c.in_ok-node.ensures ∙ made_is ss h t c.args.place w cs (length cs));
    }

pub returns-in_err-node : goal.returns-in_err-node
returns-in_err-node g c =
    let t = g.T.Typist.typing c.args.typist.now in
    let h = c.args.self.now in
    let w = new_of c.args.asked in
    let cs = c.args.children.now in
    let (e, is, from) = err_from_is_err_and c.from_residual.result c.from_residual.ensures.1 in
    record {
      answers =
          λ ss. is ∙ ap Err from
          ∙ ap (λ (r : Result Node Refusal). (entered (new_bytes w) (store ss h) r).0)
          (c.in_err-node.ensures ∙ made_is ss h t c.args.place w cs (length cs));
      after =
          λ ss. ap (λ (r : Result Node Refusal). (entered (new_bytes w) (store ss h) r).1)
          (c.in_err-node.ensures ∙ made_is ss h t c.args.place w cs (length cs));
    }
