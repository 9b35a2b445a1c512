-- Reserving memory: what is allowed, and which answer comes.
use Rattle.std.specs.Prelude.{◌≡◌, ℕ, Bool, true, cond, ◌&&◌, [], Ok, Err, Result, nat_le}
use Rattle.vocabulary.specs.declared.refusals.MemoryRefusal.TheVariants.{OutsideLimits, NoHeap}
use Rattle.vocabulary.specs.declared.refusals.Refusal.{Refusal}
use Rattle.vocabulary.specs.declared.refusals.Refusal.TheVariants as refusal
use Rattle.arena.specs.declared.memory.Memory.{Memory}

-- 1 to 65,535 records and at most 65,536 bytes
abbrev pub allowed : ℕ → ℕ → Bool
allowed n b = nat_le 1 n && (nat_le n 65535 && nat_le b 65536)

-- empty memory with those limits, which are allowed; a refusal is the heap's just where they are
abbrev pub Reserved : ℕ → ℕ → Result Memory Refusal → Type 0
Reserved n b (Ok m) =
    (allowed n b ≡ true) × (m.nodes ≡ record { items = []; limit = n }) × (m.text ≡ record { items = []; limit = b })
Reserved n b (Err e) = e ≡ cond (allowed n b) (refusal.Memory NoHeap) (refusal.Memory OutsideLimits)
