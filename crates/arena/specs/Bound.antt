-- The schema of a Root that is asked for.
use Rattle.std.specs.Prelude.{cond, Ok, Err, Result, nat_lt}
use Rattle.vocabulary.specs.declared.refusals.MemoryRefusal.{MemoryRefusal}
use Rattle.vocabulary.specs.declared.refusals.MemoryRefusal.TheVariants.{NoSuchSchema}
use Rattle.model.specs.Wanted.{New, root, literal, get_item, cast, binary, between, host}

-- a Root's schema is one of 0 to 7
abbrev pub schema_there : New → Result (Unit {0}) MemoryRefusal
schema_there (root s) = cond (nat_lt s 8) (Ok tt) (Err (NoSuchSchema s))
schema_there (literal t v) = Ok tt
schema_there (get_item name) = Ok tt
schema_there (cast t) = Ok tt
schema_there (binary o) = Ok tt
schema_there (between o) = Ok tt
schema_there (host c) = Ok tt
