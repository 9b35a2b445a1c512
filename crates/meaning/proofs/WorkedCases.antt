-- The worked cases, by computing.
use Rattle.std.proofs.Common.{refl}
use Rattle.meaning.specs.Columns.{column_type}
use Rattle.meaning.specs.Comparing.{below}
use Rattle.meaning.specs.Computing.{compute_signed, compute_unsigned}
use Rattle.meaning.specs.Evaluating.{fn_value}
use Rattle.meaning.specs.Fusing.{fuse, merging}
use Rattle.meaning.specs.Optimizing.{round, rounds, optimize}
use Rattle.meaning.specs.Ranges.{range}
use Rattle.meaning.specs.Rules.{simplify, reduce}
use Rattle.meaning.specs.Typing.{fn_type}
use Rattle.meaning.specs.WorkedCases.{WorkedCases}

pub worked_cases : WorkedCases
unfolding below compute_signed compute_unsigned column_type fn_type fn_value
    simplify reduce round rounds optimize range fuse merging
worked_cases m r =
    record {
      range_pair_fuses = refl;
      swapped_pair_fuses_alike = refl;
      nested_pair_fuses = refl;
      two_lower_bounds_stay = refl;
      unlike_bounds_stay = refl;
      comparison_with_null_becomes_null = refl;
      null_and_false_is_false = refl;
      null_or_true_is_true = refl;
      null_and_true_is_null = refl;
      null_bound_leaves_false = refl;
      null_bound_leaves_null = refl;
      less_nullable_operand_is_cast = refl;
      false_drops_a_fault = refl;
      unoptimized_it_faults = refl;
      with_number_15 = refl;
      two_hundred_trues_go = refl;
      one_more_is_refused = refl;
    }
