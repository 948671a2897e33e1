-- Bases that are taken away: rule 65. First those that are no styles of the kind of the style that names them, and then
-- those of each style whose bases do not end all the same.
use Rattle.std.specs.Prelude.{◌≡◌, ℕ, ◌<◌, ◌==◌, Bool, false, ◌&&◌, not, List, ◌++◌, length, map, filter, nat_lt}
use Rattle.std.specs.Prelude.{Option, Some, None, All}
use Rattle.std.specs.List.{fold, Contains}
use Rattle.std.specs.List.Sorted.{IsStrictlyIncreasing}
use Rattle.doc_parts.specs.Tabulated.{tabulate}
use Rattle.style_sheet.specs.Sheet.{Sheet}
use Rattle.style_sheet.specs.Chain.{style_kind_at, base_at, HasNoChain}
use Rattle.style_sheet.specs.Changes.{base_dropped}
use Rattle.doc_model.specs.declared.document.Document.{Document}
use Rattle.doc_mends.specs.declared.mends.Mend.{Mend}
use Rattle.doc_mends.specs.declared.mends.Mend.TheVariants.{DropBase}

-- a base that is no style of this kind
abbrev pub is_other_kind : Sheet → ℕ → Option ℕ → Bool
is_other_kind sheet kind None = false
is_other_kind sheet kind (Some base) = not (style_kind_at sheet base == kind)

-- a style of paragraphs or characters that has such a base
abbrev pub has_other_base : Sheet → ℕ → Bool
has_other_base sheet istd =
    nat_lt 0 (style_kind_at sheet istd) && is_other_kind sheet (style_kind_at sheet istd) (base_at sheet istd)

abbrev pub other_bases : Sheet → List ℕ
other_bases sheet = filter (has_other_base sheet) (tabulate (λ istd. istd) (length sheet.styles))

-- the sheet with the bases of these styles gone
abbrev pub bases_dropped : List ℕ → Sheet → Sheet
bases_dropped istds sheet = fold base_dropped sheet istds

-- the styles below a number whose bases do not end, ascending
pub record AreEndless (sheet : Sheet) (count : ℕ) (istds : List ℕ) : Type 0 where
  pub below : All (λ istd. istd < count) istds
  pub each : All (HasNoChain sheet) istds
  pub all : (istd : ℕ) → istd < count → HasNoChain sheet istd → Contains istds istd
  pub ascend : IsStrictlyIncreasing istds

-- the styles whose bases are taken away
pub record IsDropOf (sheet : Sheet) (istds : List ℕ) : Type 0 where
  pub endless : List ℕ
  pub are : AreEndless (bases_dropped (other_bases sheet) sheet) (length sheet.styles) endless
  pub list : istds ≡ other_bases sheet ++ endless

-- the document after it, and its mends
pub record DropsBases (old new : Document) (mends : List Mend) : Type 0 where
  pub istds : List ℕ
  pub drop : IsDropOf old.sheet istds
  pub document : new ≡ record old { sheet = bases_dropped istds old.sheet }
  pub named : mends ≡ map DropBase istds
