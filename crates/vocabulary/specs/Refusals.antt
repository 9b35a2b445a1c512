-- Each refusal's number, layer and place.
use Rattle.std.specs.Prelude.{ℕ}
use Rattle.vocabulary.specs.declared.refusals.MemoryRefusal.TheVariants.{OutsideLimits, NoHeap, NoSuchNode}
use Rattle.vocabulary.specs.declared.refusals.MemoryRefusal.TheVariants.{NoSuchSchema, RecordsFull, TextFull}
use Rattle.vocabulary.specs.declared.refusals.MemoryRefusal.TheVariants.{WorkShort}
use Rattle.vocabulary.specs.declared.refusals.BindingRefusal.TheVariants.{BadColumn, NoSuchCode, WrongChildCount}
use Rattle.vocabulary.specs.declared.refusals.BindingRefusal.TheVariants.{DoesNotBind, TooDeep, TooLarge}
use Rattle.vocabulary.specs.declared.refusals.WalkRefusal.TheVariants.{TooLong, VisitorFault}
use Rattle.vocabulary.specs.declared.refusals.RulesRefusal.TheVariants.{TooManyRounds}
use Rattle.vocabulary.specs.declared.refusals.EvaluationRefusal.TheVariants.{OtherSchema, UnfitValue, Arithmetic}
use Rattle.vocabulary.specs.declared.refusals.EvaluationRefusal.TheVariants.{UnlikeTypes, HostFault}
use Rattle.vocabulary.specs.declared.refusals.Refusal.{Refusal}
use Rattle.vocabulary.specs.declared.refusals.Refusal.TheVariants.{Memory, Binding, Walk, Rules, Evaluation}
use Rattle.vocabulary.specs.declared.refusals.Layer.{Layer}
use Rattle.vocabulary.specs.declared.refusals.Layer.TheVariants as layer
use Rattle.vocabulary.specs.declared.refusals.Place.{Place}
use Rattle.vocabulary.specs.declared.refusals.Place.TheVariants.{Nothing, SchemaColumn, Asked, Node, Column}
use Rattle.vocabulary.specs.declared.refusals.Place.TheVariants.{NodeCode}

abbrev pub number_of : Refusal → ℕ
number_of (Memory OutsideLimits) = 1
number_of (Memory NoHeap) = 1
number_of (Binding (BadColumn s c)) = 2
number_of (Memory (NoSuchNode n)) = 3
number_of (Memory (NoSuchSchema s)) = 3
number_of (Binding (NoSuchCode n)) = 4
number_of (Binding (WrongChildCount n)) = 5
number_of (Binding (DoesNotBind n)) = 6
number_of (Binding (TooDeep n)) = 7
number_of (Binding (TooLarge n)) = 8
number_of (Memory (RecordsFull n)) = 9
number_of (Memory (TextFull n)) = 10
number_of (Memory (WorkShort n)) = 11
number_of (Walk (TooLong n)) = 12
number_of (Rules (TooManyRounds n)) = 13
number_of (Evaluation (OtherSchema n)) = 14
number_of (Evaluation (UnfitValue c)) = 14
number_of (Evaluation (Arithmetic n)) = 15
number_of (Evaluation (UnlikeTypes n)) = 16
number_of (Evaluation (HostFault n c)) = 17
number_of (Walk (VisitorFault n c)) = 18

abbrev pub layer_of : Refusal → Layer
layer_of (Memory e) = layer.Memory
layer_of (Binding e) = layer.Binding
layer_of (Walk e) = layer.Walk
layer_of (Rules e) = layer.Rules
layer_of (Evaluation e) = layer.Evaluation

-- nothing, schema and column, the number asked, the node, the column, or the node and a code
abbrev pub place_of : Refusal → Place
place_of (Memory OutsideLimits) = Nothing
place_of (Memory NoHeap) = Nothing
place_of (Binding (BadColumn s c)) = SchemaColumn s c
place_of (Memory (NoSuchNode n)) = Asked n
place_of (Memory (NoSuchSchema s)) = Asked s
place_of (Binding (NoSuchCode n)) = Node n
place_of (Binding (WrongChildCount n)) = Node n
place_of (Binding (DoesNotBind n)) = Node n
place_of (Binding (TooDeep n)) = Node n
place_of (Binding (TooLarge n)) = Node n
place_of (Memory (RecordsFull n)) = Node n
place_of (Memory (TextFull n)) = Node n
place_of (Memory (WorkShort n)) = Node n
place_of (Walk (TooLong n)) = Node n
place_of (Rules (TooManyRounds n)) = Node n
place_of (Evaluation (OtherSchema n)) = Node n
place_of (Evaluation (UnfitValue c)) = Column c
place_of (Evaluation (Arithmetic n)) = Node n
place_of (Evaluation (UnlikeTypes n)) = Node n
place_of (Evaluation (HostFault n c)) = NodeCode n c
place_of (Walk (VisitorFault n c)) = NodeCode n c
