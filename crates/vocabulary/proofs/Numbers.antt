-- Each refusal's number, held against the layers.
use Rattle.std.proofs.Common.{◌≡◌, ◌-◌, ◌≤◌, List, [], ◌∷◌, Some, refl, lit≤}
use Rattle.std.specs.List.{slice_get}
use Rattle.vocabulary.specs.declared.refusals.MemoryRefusal.TheVariants.{OutsideLimits, NoHeap, NoSuchNode}
use Rattle.vocabulary.specs.declared.refusals.MemoryRefusal.TheVariants.{NoSuchSchema, RecordsFull, TextFull}
use Rattle.vocabulary.specs.declared.refusals.MemoryRefusal.TheVariants.{WorkShort}
use Rattle.vocabulary.specs.declared.refusals.BindingRefusal.TheVariants.{BadColumn, NoSuchCode, WrongChildCount}
use Rattle.vocabulary.specs.declared.refusals.BindingRefusal.TheVariants.{DoesNotBind, TooDeep, TooLarge}
use Rattle.vocabulary.specs.declared.refusals.WalkRefusal.TheVariants.{TooLong, VisitorFault}
use Rattle.vocabulary.specs.declared.refusals.RulesRefusal.TheVariants.{TooManyRounds}
use Rattle.vocabulary.specs.declared.refusals.EvaluationRefusal.TheVariants.{OtherSchema, UnfitValue, Arithmetic}
use Rattle.vocabulary.specs.declared.refusals.EvaluationRefusal.TheVariants.{UnlikeTypes, HostFault}
use Rattle.vocabulary.specs.declared.refusals.Refusal.{Refusal}
use Rattle.vocabulary.specs.declared.refusals.Refusal.TheVariants.{Memory, Binding, Walk, Rules, Evaluation}
use Rattle.vocabulary.specs.Layers.{layers, NumbersTellLayers}
use Rattle.vocabulary.specs.Refusals.{number_of, layer_of}

-- each refusal at its number
at_number : (r : Refusal) → (1 ≤ number_of r) × (slice_get layers (number_of r - 1) ≡ Some (layer_of r))
at_number (Memory OutsideLimits) = (lit≤ tt, refl)
at_number (Memory NoHeap) = (lit≤ tt, refl)
at_number (Binding (BadColumn s c)) = (lit≤ tt, refl)
at_number (Memory (NoSuchNode n)) = (lit≤ tt, refl)
at_number (Memory (NoSuchSchema s)) = (lit≤ tt, refl)
at_number (Binding (NoSuchCode n)) = (lit≤ tt, refl)
at_number (Binding (WrongChildCount n)) = (lit≤ tt, refl)
at_number (Binding (DoesNotBind n)) = (lit≤ tt, refl)
at_number (Binding (TooDeep n)) = (lit≤ tt, refl)
at_number (Binding (TooLarge n)) = (lit≤ tt, refl)
at_number (Memory (RecordsFull n)) = (lit≤ tt, refl)
at_number (Memory (TextFull n)) = (lit≤ tt, refl)
at_number (Memory (WorkShort n)) = (lit≤ tt, refl)
at_number (Walk (TooLong n)) = (lit≤ tt, refl)
at_number (Rules (TooManyRounds n)) = (lit≤ tt, refl)
at_number (Evaluation (OtherSchema n)) = (lit≤ tt, refl)
at_number (Evaluation (UnfitValue c)) = (lit≤ tt, refl)
at_number (Evaluation (Arithmetic n)) = (lit≤ tt, refl)
at_number (Evaluation (UnlikeTypes n)) = (lit≤ tt, refl)
at_number (Evaluation (HostFault n c)) = (lit≤ tt, refl)
at_number (Walk (VisitorFault n c)) = (lit≤ tt, refl)

-- a refusal of each number, in their order
one_of_each : List Refusal
one_of_each =
    Memory OutsideLimits
    ∷ Binding (BadColumn 0 0)
    ∷ Memory (NoSuchNode 0)
    ∷ Binding (NoSuchCode 0)
    ∷ Binding (WrongChildCount 0)
    ∷ Binding (DoesNotBind 0)
    ∷ Binding (TooDeep 0)
    ∷ Binding (TooLarge 0)
    ∷ Memory (RecordsFull 0)
    ∷ Memory (TextFull 0)
    ∷ Memory (WorkShort 0)
    ∷ Walk (TooLong 0)
    ∷ Rules (TooManyRounds 0)
    ∷ Evaluation (OtherSchema 0)
    ∷ Evaluation (Arithmetic 0)
    ∷ Evaluation (UnlikeTypes 0)
    ∷ Evaluation (HostFault 0 0)
    ∷ Walk (VisitorFault 0 0)
    ∷ []

pub numbers_tell_layers : NumbersTellLayers
unfolding one_of_each
numbers_tell_layers = (at_number, (one_of_each, refl))
