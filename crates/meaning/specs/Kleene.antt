-- Kleene's three-valued And and Or.
use Rattle.std.specs.Prelude.{Bool, true, false, not, ◌&&◌, ◌||◌, Some, None, Option}
use Rattle.vocabulary.specs.declared.operators.Connective.{Connective}
use Rattle.vocabulary.specs.declared.operators.Connective.TheVariants.{And, Or}
use Rattle.meaning.specs.Values.{Value, null, bool, signed, unsigned, text, ext, whole}

-- the truth tables; None is unknown
abbrev pub kleene_table : Connective → Option Bool → Option Bool → Option Bool
kleene_table And (Some true) (Some true) = Some true
kleene_table And (Some true) (Some false) = Some false
kleene_table And (Some true) None = None
kleene_table And (Some false) (Some true) = Some false
kleene_table And (Some false) (Some false) = Some false
kleene_table And (Some false) None = Some false
kleene_table And None (Some true) = None
kleene_table And None (Some false) = Some false
kleene_table And None None = None
kleene_table Or (Some true) (Some true) = Some true
kleene_table Or (Some true) (Some false) = Some true
kleene_table Or (Some true) None = Some true
kleene_table Or (Some false) (Some true) = Some true
kleene_table Or (Some false) (Some false) = Some false
kleene_table Or (Some false) None = None
kleene_table Or None (Some true) = Some true
kleene_table Or None (Some false) = None
kleene_table Or None None = None

-- the half of the tables where both are known
abbrev pub lut : Connective → Bool → Bool → Bool
lut And x y = x && y
lut Or x y = x || y

-- whether that truth settles the connective, whatever the other operand
abbrev pub decides : Connective → Bool → Bool
decides And b = not b
decides Or b = b

-- the truth that settles the connective
abbrev pub deciding : Connective → Bool
deciding And = false
deciding Or = true

-- a Bool value as a truth: null is unknown
abbrev pub truth : Value → Option Bool
truth null = None
truth (bool b) = Some b
truth (signed z) = None
truth (unsigned n) = None
truth (text bs) = None
truth (ext e z) = None
truth (whole s) = None

-- a truth as a Bool value: unknown is null
abbrev pub of_truth : Option Bool → Value
of_truth None = null
of_truth (Some b) = bool b

-- And and Or of Bool values
abbrev pub kleene : Connective → Value → Value → Value
kleene o v w = of_truth (kleene_table o (truth v) (truth w))
