-- All that is left out, one kind after the other.
use Rattle.std.proofs.Common.{◌≡◌, ◌∙◌, ap, sym, refl, ℕ, ◌==◌, Bool, true, false, List, [], ◌∷◌, ◌++◌}
use Rattle.std.specs.Prelude.{if◌then◌else◌}
use Rattle.text_losses.specs.declared.features.TextFeature.{TextFeature}
use Rattle.text_losses.specs.declared.features.TextFeature.TheVariants as has
use Rattle.doc_losses.specs.Sheets.{sheet_beyond, sheet_features}
use Rattle.doc_losses.specs.Losses.{lost_features}
use Rattle.doc_losses.proofs.BookmarkLemmas.{left_out-append}

-- bytes of the style sheet are left out

one_lost : (main_len len : ℕ) (none : Bool) → lost_features main_len (if none then [] else has.SheetBeyond len ∷ []) ≡
    (if none then [] else has.SheetBeyond len ∷ [])
one_lost main_len len true = refl
one_lost main_len len false = refl

sheet_lost : (main_len : ℕ) (part : List ℕ) → lost_features main_len (sheet_features part) ≡ sheet_features part
sheet_lost main_len part = one_lost main_len (sheet_beyond part) (sheet_beyond part == 0)

pub all_lost : (main_len : ℕ) (marks : List TextFeature) (part : List ℕ) (one two : List TextFeature) →
    one ≡ lost_features main_len marks → two ≡ one ++ sheet_features part →
    two ≡ lost_features main_len (marks ++ sheet_features part)
all_lost main_len marks part one two a b =
    let sheet : List TextFeature = sheet_features part in
    b
    ∙ (ap (λ (l : List TextFeature). l ++ sheet) a
    ∙ (ap (λ (l : List TextFeature). lost_features main_len marks ++ l) (sym (sheet_lost main_len part))
    ∙ sym (left_out-append main_len marks sheet)))

-- what is put behind nothing
pub behind_none : (before after more : List TextFeature) → before ≡ [] → after ≡ before ++ more → after ≡ more
behind_none before after more none is = is ∙ ap (λ (l : List TextFeature). l ++ more) none
