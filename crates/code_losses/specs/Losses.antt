-- The codes of the pages of a file that are left out, or of which the last one of a list counts.
use Rattle.std.specs.Prelude.{◌≡◌, ℕ, ◌==◌, ◌||◌, not, List, [], ◌∷◌, ◌++◌, if◌then◌else◌}
use Rattle.std.specs.List.{flat_map, range_with_len}
use Rattle.sprm_table.specs.Sprm.{Prl}
use Rattle.fkp_pages.specs.declared.kind.PageKind.{PageKind}
use Rattle.fkp_pages.specs.declared.kind.PageKind.TheVariants as pages
use Rattle.text_losses.specs.declared.features.ListKind.{ListKind}
use Rattle.text_losses.specs.declared.features.ListKind.TheVariants.{Chpx, Papx, Prc}
use Rattle.text_losses.specs.declared.features.TextFeature.{TextFeature}
use Rattle.text_losses.specs.declared.features.TextFeature.TheVariants.{Skipped, Repeated}
use Rattle.text_losses.specs.Features.{is_kept_code, is_added}
use Rattle.text_losses.specs.Counts.{skipped_codes, repeated_codes}
use Rattle.code_losses.specs.Tallies.{code_count}
use Rattle.code_losses.specs.Pages.{AreListsOfPages}
use Rattle.code_losses.specs.Prcs.{AreListsOfPrcs}

-- what a count of a code names
abbrev pub skipped_of : ListKind → (code count : ℕ) → List TextFeature
skipped_of kind code count =
    if is_kept_code kind code || count == 0 then [] else Skipped kind code count ∷ []

abbrev pub repeated_of : ListKind → (code count : ℕ) → List TextFeature
repeated_of kind code count =
    if not (is_added code) || count == 0 then [] else Repeated kind code count ∷ []

-- the same of the codes of 16 bits, ascending
unfoldable pub features_by_code : (ℕ → List TextFeature) → List TextFeature
features_by_code each = flat_map each (range_with_len 0 code_count)

-- what lists of a kind name
unfoldable pub codes_of : ListKind → List (List Prl) → List TextFeature
codes_of kind lists = skipped_codes kind lists ++ repeated_codes kind lists

abbrev pub list_kind : PageKind → ListKind
list_kind pages.Chpx = Chpx
list_kind pages.Papx = Papx

-- where the lists of a file are: WordDocument, the bin tables of its characters and of its paragraphs, and its Clx
pub record ListParts : Type 0 where
  pub wd : List ℕ
  pub characters : List ℕ
  pub paragraphs : List ℕ
  pub clx : List ℕ

-- the codes of the lists of the pages and of the Prcs
pub record AreCodeLosses (parts : ListParts) (features : List TextFeature) : Type 0 where
  pub chars : List (List Prl)
  pub are_chars : AreListsOfPages pages.Chpx parts.wd parts.characters chars
  pub pars : List (List Prl)
  pub are_pars : AreListsOfPages pages.Papx parts.wd parts.paragraphs pars
  pub modifiers : List (List Prl)
  pub are_modifiers : AreListsOfPrcs parts.clx modifiers
  pub named : features ≡ (codes_of Chpx chars ++ codes_of Papx pars) ++ codes_of Prc modifiers

-- they are one
abbrev pub CodeLossesAreOne : Type 0
CodeLossesAreOne =
    (parts : ListParts) (one other : List TextFeature) → AreCodeLosses parts one → AreCodeLosses parts other →
    one ≡ other
