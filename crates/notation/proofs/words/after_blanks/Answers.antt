use Rattle.std.proofs.Common.{rules, tests, ap, ◌∙◌, length, drop, not}
use Rattle.std.specs.Option.{unwrap_or}
use Rattle.std.proofs.lemmas.Iterator.{YieldsList-from_slice}
use Rattle.std.proofs.lemmas.Iterator.Search.{position_from_yields_List}
use Rattle.std.proofs.lemmas.List.{take_rest}
use Rattle.notation.specs.Words.{is_blank}
use Rattle.notation.proofs.Steps.{blanks_found}
use Rattle.notation.proofs.words.after_blanks.Goals as goal

pub returns : goal.returns
returns c =
    let xs = c.args.text.now in
    let found =
    position_from_yields_List (λ b. not (is_blank b)) _ _ _ c.position.ensures.ran (YieldsList-from_slice xs (cc))
    (λ x b q k. search (rules, tests))
    in
    take_rest xs c.unwrap_or-blanks.result
    ∙ ap (λ n. drop n xs) (c.unwrap_or-blanks.ensures ∙ ap (λ o. unwrap_or o (length xs)) found)
    ∙ blanks_found xs
