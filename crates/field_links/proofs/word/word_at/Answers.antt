use Rattle.std.proofs.Common.{◌≡◌, ◌-◌, List, ℕ, drop, length, length-drop, take, subst, sym, ◌∙◌, arith}
use Rattle.std.proofs.lemmas.List.{take_all}
use Rattle.field_links.specs.Words.{quoted}
use Rattle.field_links.specs.Kept.{HasFirstWord, behind_quoted, quoted_front}
use Rattle.field_links.proofs.WordLemmas.{plain_word, quoted_word}
use Rattle.field_links.proofs.word.word_at.Goals as goal

pub returns-then-is_quote : goal.returns-then-is_quote
returns-then-is_quote c =
    let units = c.args.units.now in
    let whole : take (length units - 1) (drop 1 units) ≡ drop 1 units = take_all (length units - 1) (drop 1 units)
    (omega (arith, length-drop 1 units)) in
    subst (λ (rest : List ℕ). HasFirstWord units (quoted (quoted_front rest)) (behind_quoted rest)) (sym whole)
    (quoted_word units c.requires.some c.requires.first (sym c.is_quote.ensures ∙ c.if-is_quote.true))

pub returns-else-is_quote : goal.returns-else-is_quote
returns-else-is_quote c =
    plain_word c.args.units.now c.requires.some c.requires.first (sym c.is_quote.ensures ∙ c.if-is_quote.false)
