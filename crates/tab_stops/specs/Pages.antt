-- [MS-DOC] PapxFkp, PlcBtePapx: the changes of tab stops in the pages of paragraphs, as places of `WordDocument`.
use Rattle.std.specs.Prelude.{◌≡◌, ◌⊎◌, ℕ, ◌+◌, ◌*◌, ◌/◌, ◌≤◌, List, [], length, slice_range, Some}
use Rattle.fkp_pages.specs.declared.kind.PageKind.TheVariants.{Papx}
use Rattle.fkp_pages.specs.Fkp.{page_run_count, IsListOf}
use Rattle.fkp_pages.specs.Bin.{page_at}
use Rattle.page_copies.specs.Places.{HasNoList}
use Rattle.page_copies.specs.Pages.{BinTables, IsSkippable, page_kind}
use Rattle.tab_stops.specs.Lists.{AreListStops, AreJoinedStops}

-- those of the list of a run, behind its style number, of a page that begins at a place
pub record AreFoundStops (page : List ℕ) (at run : ℕ) (places : List ℕ) : Type 0 where
  pub from : ℕ
  pub to : ℕ
  pub list : IsListOf Papx page run from to
  pub stops : AreListStops (slice_range page (from + 2) to) (at + (from + 2)) places

abbrev pub AreRunStops : (page : List ℕ) (at run : ℕ) → List ℕ → Type 0
AreRunStops page at run places = AreFoundStops page at run places ⊎ (HasNoList Papx page run × (places ≡ []))

-- those of all runs
abbrev pub ArePageStops : (page : List ℕ) (at : ℕ) → List ℕ → Type 0
ArePageStops page at places = AreJoinedStops (AreRunStops page at) (page_run_count page) places

-- a page that is not over the FIB, that the bin table of the paragraphs names alone, and whose lists are apart
pub record IsParagraphPage (bins : BinTables) (wd : List ℕ) (number : ℕ) : Type 0 where
  pub low : 2 ≤ number
  pub alone : page_kind bins number ≡ Some Papx
  pub apart : IsSkippable Papx (page_at wd number)

-- those of such a page; another one has none
abbrev pub AreStopsAt : BinTables → (wd : List ℕ) → ℕ → List ℕ → Type 0
AreStopsAt bins wd number places =
    (IsParagraphPage bins wd number × ArePageStops (page_at wd number) (512 * number) places)
    ⊎ ((¬ IsParagraphPage bins wd number) × (places ≡ []))

-- those of all whole pages
abbrev pub AreStopsOfPages : BinTables → (wd : List ℕ) → List ℕ → Type 0
AreStopsOfPages bins wd places = AreJoinedStops (AreStopsAt bins wd) (length wd / 512) places
