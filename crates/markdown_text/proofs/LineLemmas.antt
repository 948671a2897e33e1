-- Markup that is gone through byte by byte.
use Rattle.std.proofs.Common.{◌≡◌, ℕ, ◌+◌, ◌<◌, List, [], ◌∷◌, ◌++◌, length, take, get_or, refl, ap, ◌∙◌}
use Rattle.std.proofs.lemmas.List.{take_more}
use Rattle.markdown_text.specs.declared.line.LineState.{LineState}
use Rattle.markdown_text.specs.Lines.{after_markup, after_markups}

pub after_markups-append : (state : LineState) (one more : List ℕ) → after_markups state (one ++ more) ≡ after_markups
    (after_markups state one) more
after_markups-append state [] more = refl
after_markups-append state (code ∷ one) more = after_markups-append (after_markup state code) one more

-- one byte more
pub after_markups-more : (state : LineState) (text : List ℕ) (i : ℕ) → i < length text →
    after_markups state (take (i + 1) text) ≡ after_markup (after_markups state (take i text)) (get_or text i 0)
after_markups-more state text i within =
    ap (after_markups state) (take_more text i 0 within)
    ∙ after_markups-append state (take i text) (get_or text i 0 ∷ [])
