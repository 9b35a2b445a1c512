-- A node that is drafted over the other children is the one that rebuilding comes to.
use Rattle.std.proofs.Common.{◌≡◌, ℕ, zero, suc, ◌+◌, ◌≤◌, min, Bool, true, false, cond, List, [], reverse, length}
use Rattle.std.proofs.Common.{Some, Ok, Option, Result, sym, refl, ap, ◌∙◌, subst, arith}
use Rattle.std.proofs.lemmas.Bool.{ne_eqb}
use Rattle.vocabulary.specs.declared.nodes.Function.{Function}
use Rattle.vocabulary.specs.declared.nodes.Function.TheVariants.{Root, Literal, GetItem, Cast, Binary, Between, Host}
use Rattle.vocabulary.specs.Nodes.{BoundNode as Node}
use Rattle.vocabulary.specs.declared.refusals.Refusal.{Refusal}
use Rattle.vocabulary.specs.Nodes.{text_of}
use Rattle.meaning.specs.Columns.{Schemas}
use Rattle.model.specs.Making.{entered}
use Rattle.model.specs.Rebuilding.{old_plan, itself_or}
use Rattle.model.specs.Stores.{Store, node_at}
use Rattle.model.specs.Wanted.{New}
use Rattle.typing.specs.Typing.{Typing}
use Rattle.arena.specs.declared.memory.Memory.{Memory as Held}
use Rattle.arena.specs.Building.{build_by, rebuilt_by, rebuild_by}
use Rattle.arena.specs.Drafting.{drafted}
use Rattle.arena.specs.Opened.{store}
use Rattle.arena.specs.Rebuilding.{again, is_itself}
use Rattle.arena.specs.Standing.{ends_within}
use Rattle.arena.proofs.Drafts.{draft_is}
use Rattle.arena.proofs.Stands.{FitsIn, build_fits, lies, stood}

itself_by : (k : ℕ) (f : Function) (n : ℕ) (s : Store) (anew : Result ℕ Refusal × Store)
    → itself_or k f n s anew ≡ cond (is_itself f n) (Ok k, s) anew
itself_by k Root zero s anew = refl
itself_by k Root (suc n) s anew =
    ap (λ (b : Bool). cond b (Ok k, s) anew) (sym (ne_eqb (suc n) 0 (λ e. omega arith)))
itself_by k (Literal t v) n s anew = refl
itself_by k (GetItem name) n s anew = refl
itself_by k (Cast t) n s anew = refl
itself_by k (Binary o) n s anew = refl
itself_by k (Between o) n s anew = refl
itself_by k (Host c) n s anew = refl

module _ (ss : Schemas) (h : Held) (typing : Typing) (k : ℕ) (x : Node) (cs : List ℕ) (n : ℕ)
    (found : node_at (store ss h) k ≡ Some x) where
  -- what the node was asked for
  abbrev asked : New
  asked = again h.text.items x.dtype x.function

  -- the record that it comes to
  abbrev anew : Result Node Refusal
  anew = build_by (typing k asked n) (old_plan k x cs n (store ss h)) (store ss h)

  rebuilt_is : rebuild_by typing k cs n (store ss h)
      ≡ cond (is_itself x.function n) (Ok k, store ss h) (entered [] (store ss h) anew)
  rebuilt_is =
      ap (λ (o : Option Node). rebuilt_by typing k o cs n (store ss h)) found
      ∙ itself_by k x.function n (store ss h) (entered [] (store ss h) anew)

  -- it is made anew where it is not itself
  pub made_anew : false ≡ is_itself x.function n
      → rebuild_by typing k cs n (store ss h) ≡ entered [] (store ss h) anew
  made_anew e =
      rebuilt_is
      ∙ ap (λ (b : Bool). cond b (Ok k, store ss h) (entered [] (store ss h) anew)) (sym e)

  -- by a draft
  pub remade_is : drafted typing h k asked (λ _. x.function) 0 cs n ≡ anew
  remade_is = draft_is ss h typing (old_plan k x cs n (store ss h)) asked (λ _. x.function) refl

  -- its record fits, since the old node's text lies inside
  pub remade_fits : min n 8 ≤ length cs → (y : Node) → Ok y ≡ drafted typing h k asked (λ _. x.function) 0 cs n
      → FitsIn h y 0
  remade_fits enough y e =
      let l = lies (length h.text.items) (reverse h.nodes.items) k x h.sound found in
      let inside = (stood (length h.text.items) l.older x l.there).inside in
      let z : length h.text.items ≡ length h.text.items + 0 = omega arith in
      build_fits (typing k asked n) ss h (old_plan k x cs n (store ss h)) y enough
      (subst (λ (j : ℕ). ends_within j (text_of x.function) ≡ true) z inside) (sym (e ∙ remade_is))
