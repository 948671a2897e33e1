-- [MS-DOC] sprmPHugePapx: the properties of a paragraph are in the stream Data, at the place that it names. Which ends of
-- cells and rows have it.
use Rattle.std.specs.Prelude.{◌≡◌, ℕ, ◌<◌, ◌≤◌, List, length, drop, slice_index, slice_index_or, slice_range}
use Rattle.std.specs.Prelude.{Option, None, MatchOption, ⊤}
use Rattle.doc_bits.specs.Number.{u32_at}
use Rattle.text_codes.specs.Paragraph.{cell_mark}
use Rattle.fkp_pages.specs.declared.kind.PageKind.TheVariants.{Papx}
use Rattle.fkp_pages.specs.declared.kind.RunAnswer.{RunAnswer}
use Rattle.fkp_pages.specs.declared.kind.RunAnswer.TheVariants.{Found, Empty, NoRun, BadCount, Leaves}
use Rattle.fkp_pages.specs.Bin.{IsBinTable}
use Rattle.fkp_pages.specs.Properties.{HasListAt}
use Rattle.huge_papx.specs.declared.lists.Sought.TheVariants.{HugePapx}
use Rattle.huge_papx.specs.Lists.{HasLastValue}

-- [MS-DOC] GrpPrlAndIstd: the list is behind the number of the style
pub record NamesOffset (list : List ℕ) (offset : ℕ) : Type 0 where
  pub value : List ℕ
  pub has : HasLastValue HugePapx (drop 2 list) value
  pub whole : 4 ≤ length value
  pub offset_is : offset ≡ u32_at value 0

-- the unit at the place ends a cell or a row, and the list of its paragraph names the offset
pub record IsNamedAt (wd bin : List ℕ) (fc unit offset : ℕ) : Type 0 where
  pub cell : unit ≡ cell_mark
  pub list : List ℕ
  pub has : HasListAt Papx bin wd fc list
  pub names : NamesOffset list offset

-- no list of a paragraph at the place names one
abbrev pub NamesNothing : (wd bin : List ℕ) → ℕ → Type 0
NamesNothing wd bin fc = (list : List ℕ) (offset : ℕ) → HasListAt Papx bin wd fc list → ¬ NamesOffset list offset

-- the offset at a place, where one is named
abbrev pub IsOffsetOf : (wd bin : List ℕ) → (fc unit : ℕ) → Option ℕ → Type 0
IsOffsetOf wd bin fc unit found =
    MatchOption found ((offset : ℕ) → ¬ IsNamedAt wd bin fc unit offset) (IsNamedAt wd bin fc unit)

-- of each of these places and units
pub record AreOffsets (wd bin places units : List ℕ) (offsets : List (Option ℕ)) : Type 0 where
  pub table : IsBinTable bin
  pub len : length offsets ≡ length places
  pub each :
      (k : ℕ) → k < length offsets →
      IsOffsetOf wd bin (slice_index places k) (slice_index units k) (slice_index_or offsets k None)

-- the range of an answer is in the page
abbrev pub IsInPage : List ℕ → RunAnswer → Type 0
IsInPage page (Found from to) = (from ≤ to) × (to ≤ length page)
IsInPage page Empty = ⊤
IsInPage page NoRun = ⊤
IsInPage page BadCount = ⊤
IsInPage page (Leaves entry) = ⊤

-- the list of a run that has properties
abbrev pub AnswersList : List ℕ → RunAnswer → List ℕ → Type 0
AnswersList page (Found from to) list = list ≡ slice_range page from to
AnswersList page Empty list = ⊥
AnswersList page NoRun list = ⊥
AnswersList page BadCount list = ⊥
AnswersList page (Leaves entry) list = ⊥
