-- [MS-DOC] PlcBteChpx, PlcBtePapx: a stream in whose pages the codes that are not read are skipped, each page at its
-- own place.
use Rattle.std.specs.Prelude.{◌≡◌, ◌⊎◌, ℕ, ◌+◌, ◌*◌, ◌/◌, ◌<◌, ◌≤◌, Bool, true, false, List, length, slice_index}
use Rattle.std.specs.Prelude.{Option, Some, None}
use Rattle.fkp_pages.specs.declared.kind.PageKind.{PageKind}
use Rattle.fkp_pages.specs.declared.kind.PageKind.TheVariants.{Chpx, Papx}
use Rattle.fkp_pages.specs.Fkp.{HasRunCount}
use Rattle.fkp_pages.specs.Bin.{page_at}
use Rattle.page_copies.specs.Names.{names_page}
use Rattle.page_copies.specs.Places.{HasListsApart}
use Rattle.page_copies.specs.Copies.{IsCopyOf}

-- the codes of a page can be skipped: its last byte is a number of runs, and its lists are apart
abbrev pub IsSkippable : PageKind → List ℕ → Type 0
IsSkippable kind page = HasRunCount kind page × HasListsApart kind page

-- the copy of a page has its codes skipped where that can be, and is the page where it cannot
abbrev pub IsPageCopy : PageKind → List ℕ → List ℕ → Type 0
IsPageCopy kind old new = (IsSkippable kind old × IsCopyOf kind old new) ⊎ ((¬ IsSkippable kind old) × (new ≡ old))

-- the bin tables of the characters and of the paragraphs
pub record BinTables : Type 0 where
  pub characters : List ℕ
  pub paragraphs : List ℕ

abbrev pub bin_table_of : PageKind → BinTables → List ℕ
bin_table_of Chpx bins = bins.characters
bin_table_of Papx bins = bins.paragraphs

-- the kind of a page that one of the tables alone names: whether each of them names it
abbrev pub kind_alone : Bool → Bool → Option PageKind
kind_alone true true = None
kind_alone true false = Some Chpx
kind_alone false true = Some Papx
kind_alone false false = None

abbrev pub page_kind : BinTables → ℕ → Option PageKind
page_kind bins number = kind_alone (names_page bins.characters number) (names_page bins.paragraphs number)

-- a page of a kind is skipped, another one stays
abbrev pub SkipsPage : Option PageKind → List ℕ → List ℕ → Type 0
SkipsPage None old new = new ≡ old
SkipsPage (Some kind) old new = IsPageCopy kind old new

-- page `number` of a stream, and no byte outside of it changes
pub record PutsPage (kind : Option PageKind) (number : ℕ) (old new : List ℕ) : Type 0 where
  pub len : length new ≡ length old
  pub page : SkipsPage kind (page_at old number) (page_at new number)
  pub outside : (i : ℕ) → (i < 512 * number) ⊎ (512 * number + 512 ≤ i) → slice_index new i ≡ slice_index old i

-- all whole pages of a stream that do not lie over its FIB
pub record SkipsPages (bins : BinTables) (old new : List ℕ) : Type 0 where
  pub len : length new ≡ length old
  pub pages : (number : ℕ) → 2 ≤ number → 512 * number + 512 ≤ length old →
      SkipsPage (page_kind bins number) (page_at old number) (page_at new number)
  pub outside : (i : ℕ) → (i < 1024) ⊎ (512 * (length old / 512) ≤ i) → slice_index new i ≡ slice_index old i
