-- Three-valued And and Or: their tables, and what one known truth decides.
use Rattle.std.proofs.Common.{◌≡◌, Bool, Some, None, Option, refl, ap, arith}
use Rattle.vocabulary.specs.declared.operators.Connective.{Connective}
use Rattle.meaning.specs.Kleene.{kleene_table, truth, of_truth}
use Rattle.meaning.specs.LawsOfValues.{KleeneCommutes, KleeneAssociates, LutIsKleene, DecidingTruths}
use Rattle.meaning.specs.Standard.{TruthTablesAgree}

table_commutes : (o : Connective) (x y : Option Bool) → kleene_table o x y ≡ kleene_table o y x
table_commutes o x y = grind arith

table_associates : (o : Connective) (x y z : Option Bool)
    → kleene_table o (kleene_table o x y) z ≡ kleene_table o x (kleene_table o y z)
table_associates o x y z = grind arith

truth_back : (x : Option Bool) → truth (of_truth x) ≡ x
truth_back None = refl
truth_back (Some b) = refl

pub kleene_commutes : KleeneCommutes
kleene_commutes o v w = ap of_truth (table_commutes o (truth v) (truth w))

pub kleene_associates : KleeneAssociates
kleene_associates o u v w = simp (truth_back, table_associates)

pub lut_is_kleene : LutIsKleene
lut_is_kleene o x y = grind arith

pub deciding_truths : DecidingTruths
deciding_truths o x w = (λ p. grind arith, λ p. grind arith)

pub truth_tables_agree : TruthTablesAgree
truth_tables_agree x y = (grind arith, grind arith)
