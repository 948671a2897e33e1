-- [MS-DOC] STSH: a style sheet, as contracts see it.
use Rattle.std.specs.Prelude.{ℕ, List, Option, None, slice_index_or, refl}
use Rattle.std.specs.Coded.{Coded, code_by, coded×, coded_ℕ, coded_list, coded_option}
use Rattle.style_sheet.specs.declared.styles.Style.{Style}
use Rattle.style_sheet.specs.contracts.styles.Style as contract

-- the numbers of the Stshif after cbSTDBaseInFile, and the slots: the style of each that is not empty
pub record Sheet : Type 0 where
  pub head : List ℕ
  pub styles : List (Option Style)

-- the code of a sheet, which the `impl Model` of what holds one names
abbrev pub sheet_code : Coded Sheet
sheet_code =
    code_by (List ℕ × List (Option Style))
    (coded× (coded_list coded_ℕ) (coded_list (coded_option contract.the_row.coded)))
    (λ s. (s.head, s.styles))
    (λ p. record { head = p.0; styles = p.1 })
    (λ _. refl)

-- the style of a slot, where the slot is there and not empty
abbrev pub style_at : Sheet → ℕ → Option Style
style_at sheet istd = slice_index_or sheet.styles istd None
