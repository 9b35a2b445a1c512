-- Few bytes in memory of their own: the bytes in front, and the memory that holds them.
use Rattle.std.specs.Prelude.{◌≡◌, ℕ, ◌-◌, ◌≤◌, List, ◌++◌, length, take, drop, replicate}
use Rattle.std.proofs.Common.{refl, arith}
use Rattle.std.proofs.lemmas.List.{length-take-le, take-append-drop}
use Rattle.vocabulary.specs.declared.few_bytes.FewBytes.TheInside.{Inside}

-- the bytes that are held
abbrev pub in_front : {N : ℕ} → Inside N → List ℕ
in_front b = take b.len b.bytes

-- the memory of N bytes that holds them
abbrev pub filled : (N : ℕ) → List ℕ → Inside N
filled N bs = record { bytes = bs ++ replicate (N - length bs) 0; len = length bs }

-- at most N bytes, and zeros behind them
pub record ZerosBehind (N : ℕ) (b : Inside N) : Type 0 where
  pub whole : length b.bytes ≡ N
  pub few : b.len ≤ N
  pub zeros : drop b.len b.bytes ≡ replicate (N - b.len) 0

-- so the memory holds nothing but the bytes
pub refilled : (N : ℕ) (b : Inside N) → ZerosBehind N b → filled N (in_front b) ≡ b
refilled N b h =
    rw (length-take-le b.len b.bytes (omega (arith, h.whole, h.few)), ← h.zeros, take-append-drop b.len b.bytes) refl
