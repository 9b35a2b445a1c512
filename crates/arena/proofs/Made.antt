-- A node that is drafted is the one that making comes to.
use Rattle.std.proofs.Common.{◌≡◌, ℕ, ◌≤◌, min, true, List, ◌++◌, length, Ok, sym, ◌∙◌, subst}
use Rattle.std.proofs.Common.{length-append}
use Rattle.vocabulary.specs.Nodes.{BoundNode as Node}
use Rattle.vocabulary.specs.Nodes.{text_of}
use Rattle.meaning.specs.Columns.{Schemas}
use Rattle.model.specs.BindingTrees.{plan_at}
use Rattle.model.specs.UnboundMaking.{any_host}
use Rattle.model.specs.Wanted.{New, new_bytes, new_function}
use Rattle.model.proofs.Plans.{new_honest}
use Rattle.typing.specs.Placing.{function_at}
use Rattle.typing.specs.Typing.{Typing}
use Rattle.typing.proofs.Behind.{function_behind}
use Rattle.arena.specs.declared.memory.Memory.{Memory as Held}
use Rattle.arena.specs.Building.{build_by}
use Rattle.arena.specs.Drafting.{drafted}
use Rattle.arena.specs.Opened.{store}
use Rattle.arena.specs.Standing.{ends_within}
use Rattle.arena.proofs.Drafts.{draft_is}
use Rattle.arena.proofs.Stands.{FitsIn, build_fits, ends_inside}

module _ (ss : Schemas) (h : Held) (typing : Typing) (place : ℕ) (w : New) (cs : List ℕ) (n : ℕ) where
  pub made_is : drafted typing h place w (λ p. function_at p w) (length (new_bytes w)) cs n
      ≡ build_by (typing place w n) (plan_at place w cs n (store ss h)) (store ss h)
  made_is =
      draft_is ss h typing (plan_at place w cs n (store ss h)) w (λ p. function_at p w)
      (function_behind (store ss h).text w)

  -- its record fits
  pub made_fits : min n 8 ≤ length cs → (x : Node)
      → Ok x ≡ drafted typing h place w (λ p. function_at p w) (length (new_bytes w)) cs n
      → FitsIn h x (length (new_bytes w))
  made_fits enough x e =
      let s = store ss h in
      let inside =
      ends_inside (s.text ++ new_bytes w) (text_of (new_function s.text w)) (new_honest any_host s w cs n).ends
      in
      let l = length-append s.text (new_bytes w) in
      build_fits (typing place w n) ss h (plan_at place w cs n s) x enough
      (subst (λ (k : ℕ). ends_within k (text_of (new_function s.text w)) ≡ true) l inside) (sym (e ∙ made_is))
