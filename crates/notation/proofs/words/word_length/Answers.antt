use Rattle.std.proofs.Common.{rules, tests, ap, ◌∙◌, length}
use Rattle.std.specs.Option.{unwrap_or}
use Rattle.std.proofs.lemmas.Iterator.{YieldsList-from_slice}
use Rattle.std.proofs.lemmas.Iterator.Search.{position_from_yields_List}
use Rattle.notation.specs.Words.{is_blank}
use Rattle.notation.proofs.Steps.{word_found}
use Rattle.notation.proofs.words.word_length.Goals as goal

pub returns-clause-value : goal.returns-clause-value
returns-clause-value c =
    let xs = c.args.text.now in
    let found =
    position_from_yields_List is_blank _ _ _ c.position.ensures.ran (YieldsList-from_slice xs (cc))
    (λ x b q k. search (rules, tests))
    in
    c.unwrap_or.ensures ∙ ap (λ o. unwrap_or o (length xs)) found ∙ word_found xs
