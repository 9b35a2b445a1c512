-- The rules, a round and optimizing keep the type, and the value wherever there is one.
use Rattle.std.specs.Prelude.{◌≡◌, ℕ, Some, Option}
use Rattle.vocabulary.specs.declared.types.DType.{DType}
use Rattle.meaning.specs.Outcomes.{value}
use Rattle.meaning.specs.Values.{Value}
use Rattle.meaning.specs.Hosts.{Meaning}
use Rattle.meaning.specs.Lawful.{Lawful}
use Rattle.meaning.specs.Trees.{Expr}
use Rattle.meaning.specs.Columns.{Schemas}
use Rattle.meaning.specs.Typing.{typed}
use Rattle.meaning.specs.Evaluating.{Env, EnvFits, eval}
use Rattle.meaning.specs.Rules.{simplify, reduce}
use Rattle.meaning.specs.Optimizing.{round, optimize}

-- d has the type t of e, and e's value wherever e has one
abbrev pub Refines : Meaning → Schemas → Env → DType → Expr → Expr → Type 0
Refines m ss r t e d = (typed m ss d ≡ Some t) × ((v : Value) → eval m r e ≡ value v → eval m r d ≡ value v)

-- what a rewrite answers refines what it was asked of
abbrev pub Keeps : (Meaning → Schemas → Expr → Option Expr) → Type 0
Keeps rewrite =
    (m : Meaning) → Lawful m
    → (ss : Schemas) (r : Env) → EnvFits ss r
    → (e d : Expr) (t : DType) → typed m ss e ≡ Some t → rewrite m ss e ≡ Some d → Refines m ss r t e d

-- simplify keeps type and value
abbrev pub SimplifyKeeps : Type 0
SimplifyKeeps = Keeps simplify

-- reduce keeps type and value
abbrev pub ReduceKeeps : Type 0
ReduceKeeps = Keeps reduce

-- a round keeps type and value
abbrev pub RoundKeeps : Type 0
RoundKeeps = Keeps round

-- optimizing keeps type and value
abbrev pub OptimizingKeeps : Type 0
OptimizingKeeps = (k : ℕ) → Keeps (λ m ss e. optimize m ss k e)
