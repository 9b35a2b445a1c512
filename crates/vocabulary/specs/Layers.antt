-- The layers in the order of the refusals' numbers.
use Rattle.std.specs.Prelude.{◌≡◌, ◌-◌, ◌≤◌, List, [], ◌∷◌, map, Some}
use Rattle.std.specs.List.{slice_get}
use Rattle.vocabulary.specs.declared.refusals.Layer.{Layer}
use Rattle.vocabulary.specs.declared.refusals.Layer.TheVariants.{Memory, Binding, Walk, Rules, Evaluation}
use Rattle.vocabulary.specs.declared.refusals.Refusal.{Refusal}
use Rattle.vocabulary.specs.Refusals.{number_of, layer_of}

-- memory has 1, 3 and 9 to 11; binding 2 and 4 to 8; walks 12 and 18; the rules 13; evaluation 14 to 17
abbrev pub layers : List Layer
layers =
    Memory ∷ Binding ∷ Memory ∷ Binding ∷ Binding ∷ Binding ∷ Binding ∷ Binding ∷ Memory
    ∷ Memory ∷ Memory ∷ Walk ∷ Rules ∷ Evaluation ∷ Evaluation ∷ Evaluation ∷ Evaluation ∷ Walk ∷ []

-- a refusal's number tells its layer, and there are refusals of all numbers from 1 to 18
abbrev pub NumbersTellLayers : Type 0
NumbersTellLayers =
    ((r : Refusal) → (1 ≤ number_of r) × (slice_get layers (number_of r - 1) ≡ Some (layer_of r)))
    × ((rs : List Refusal)
    × (map number_of rs ≡ 1 ∷ 2 ∷ 3 ∷ 4 ∷ 5 ∷ 6 ∷ 7 ∷ 8 ∷ 9 ∷ 10 ∷ 11 ∷ 12 ∷ 13 ∷ 14 ∷ 15 ∷ 16 ∷ 17 ∷ 18 ∷ []))
