-- What the records of a store stand for: shapes, and the trees of numbers.
use Rattle.std.specs.Prelude.{ℕ, cond, List, [], ◌∷◌, length, take, ◌==◌, slice_index}
use Rattle.vocabulary.specs.declared.nodes.Function.{Function}
use Rattle.vocabulary.specs.declared.nodes.Function.TheVariants.{Root, Literal, GetItem, Cast, Binary, Between, Host}
use Rattle.vocabulary.specs.declared.nodes.Node.{Node as Record}
use Rattle.vocabulary.specs.Nodes.{BoundNode as Node}
use Rattle.vocabulary.specs.declared.operators.Connective.{Connective}
use Rattle.vocabulary.specs.declared.operators.Family.{Family}
use Rattle.vocabulary.specs.declared.operators.Family.TheVariants.{Compare, Connect, Compute}
use Rattle.vocabulary.specs.declared.types.DType.{DType}
use Rattle.vocabulary.specs.Operators.{family_of}
use Rattle.vocabulary.specs.Types.{carried}
use Rattle.meaning.specs.HostCode.{part, read}
use Rattle.meaning.specs.Trees.{Fn, root, literal, get_item, cast, compare, compute, between, call}
use Rattle.meaning.specs.Trees.{Expr, logic, node, Exprs, nil, cons}
use Rattle.model.specs.Stores.{Store}

-- what a node computes of its children: And or Or of them, or a function
pub data Head : Type 0 where
  join : Connective → Head
  over : Fn → Head

-- a node over the numbers of its children
pub data Shape : Type 0 where
  both : Connective → ℕ → ℕ → Shape
  on : Fn → List ℕ → Shape

-- what an operator of that family computes
abbrev pub family_head : Family → Head
family_head (Compare c) = over (compare c)
family_head (Connect o) = join o
family_head (Compute o) = over (compute o)

-- what a function computes that is recorded with that type, over the text
abbrev pub head_of : List ℕ → DType → Function → Head
head_of text t Root = over (root (carried t.kind))
head_of text t (Literal u v) = over (literal u (read text [] v))
head_of text t (GetItem name) = over (get_item (part text name))
head_of text t (Cast u) = over (cast u)
head_of text t (Binary o) = family_head (family_of o)
head_of text t (Between o) = over (between o)
head_of text t (Host c) = over (call c)

-- what a node computes
abbrev pub head : List ℕ → Node → Head
head text x = head_of text x.dtype x.function

-- the numbers of a node's children
abbrev pub kids : {T : Type 0} → Record T → List ℕ
kids x = take x.child_count x.children

-- And and Or are of the first two children
abbrev pub shaped : Head → List ℕ → Shape
shaped (join o) ks = both o (slice_index ks 0) (slice_index ks 1)
shaped (over f) ks = on f ks

-- the shape of a node
abbrev pub shape : List ℕ → Node → Shape
shape text x = shaped (head text x) (kids x)

-- the trees of numbers, left to right
abbrev pub trees_by : (ℕ → Expr) → List ℕ → Exprs
trees_by f [] = nil
trees_by f (k ∷ ks) = cons (f k) (trees_by f ks)

-- the tree of a shape, by those of its children
abbrev pub shape_tree : (ℕ → Expr) → Shape → Expr
shape_tree f (both o i j) = logic o (f i) (f j)
shape_tree f (on g ks) = node g (trees_by f ks)

-- the tree of a number among nodes with the newest first; a number of none counts as a Root
unfoldable pub tree_among : List ℕ → List Node → ℕ → Expr
tree_among text [] n = node (root 0) nil
tree_among text (x ∷ xs) n =
    cond (n == length xs) (shape_tree (tree_among text xs) (shape text x)) (tree_among text xs n)

-- the tree of a number
abbrev pub tree : Store → ℕ → Expr
tree s n = tree_among s.text s.nodes n

-- the trees of numbers
abbrev pub trees : Store → List ℕ → Exprs
trees s ks = trees_by (tree s) ks
