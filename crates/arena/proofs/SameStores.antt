-- Stores of equal parts are one.
use Rattle.std.proofs.Common.{◌≡◌, ℕ, List}
use Rattle.vocabulary.specs.Nodes.{BoundNode as Node}
use Rattle.meaning.specs.Columns.{Schemas}
use Rattle.model.specs.Stores.{Store}

pub same_store : (ss rr : Schemas) (a b : List Node) (t u : List ℕ) (r q n k : ℕ)
    → ss ≡ rr → a ≡ b → t ≡ u → r ≡ q → n ≡ k
    → ◌≡◌ {A = Store} (record { schemas = ss; nodes = a; text = t; records = r; bytes = n })
    (record { schemas = rr; nodes = b; text = u; records = q; bytes = k })
same_store ss rr a b t u r q n k d e f g h = cc
