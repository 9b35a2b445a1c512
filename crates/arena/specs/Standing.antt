-- What holds of the records of an arena, whatever its host and its schemas, with types or without them.
use Rattle.std.specs.Prelude.{ℕ, suc, Bool, true, false, ◌&&◌, List, [], ◌∷◌, length, Some, None, Ok, Err, Option}
use Rattle.std.specs.Prelude.{Result, ◌==◌, nat_le}
use Rattle.vocabulary.specs.declared.nodes.Node.{Node as Record}
use Rattle.vocabulary.specs.declared.values.Span.{Span}
use Rattle.vocabulary.specs.Nodes.{text_of}
use Rattle.vocabulary.specs.Values.{is_within}
use Rattle.model.specs.Making.{with_record, deepest, total_size}
use Rattle.model.specs.Shapes.{kids}
use Rattle.model.specs.Stores.{node_among}

-- the records of numbers among nodes with the newest first, or the first number that no node has
abbrev pub found_among : {T : Type 0} → List (Record T) → List ℕ → Result (List (Record T)) ℕ
found_among xs [] = Ok []
found_among xs (k ∷ ks) = with_record k (node_among xs k) (found_among xs ks)

-- the part, where there is one, ends inside a text of that length
abbrev pub ends_within : ℕ → Option Span → Bool
ends_within len None = true
ends_within len (Some p) = is_within p len

-- the record is one deeper than the deepest of its children, and larger by one than all of them, within the limits
abbrev pub measures : {T : Type 0} → Record T → Result (List (Record T)) ℕ → Bool
measures x (Err k) = false
measures x (Ok ys) =
    (x.depth == suc (deepest ys) && x.size == suc (total_size ys))
    && (nat_le x.depth 256 && nat_le x.size 4096)

-- the record x over older nodes and a text of that length: at most eight children, all of them older
abbrev pub stands : {T : Type 0} → ℕ → List (Record T) → Record T → Bool
stands len older x =
    (nat_le x.child_count 8 && length x.children == 8)
    && (measures x (found_among older (kids x)) && ends_within len (text_of x.function))

-- each of the nodes does, the newest first
abbrev pub all_stand : {T : Type 0} → ℕ → List (Record T) → Bool
all_stand len [] = true
all_stand len (x ∷ xs) = stands len xs x && all_stand len xs
