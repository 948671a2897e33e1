-- A text that reads the same as another one: it has the same counts, parts and styles, the same places and units of its
-- CPs, the same Sepxs, and at each byte place the same list, or one whose codes that are not read are skipped; or the
-- bare list in a gap.
use Rattle.std.specs.Prelude.{◌≡◌, ◌≢◌, ◌⊎◌, ℕ, ◌<◌, ◌≤◌, List, length, Some}
use Rattle.fib_form.specs.Fib.{fib_pair}
use Rattle.fib_form.specs.FibFields.{fib_fields}
use Rattle.fib_form.specs.TableParts.{pair_number}
use Rattle.fib_form.specs.declared.stories.StoryKind.{StoryKind}
use Rattle.fib_form.specs.declared.table_parts.TablePart.{TablePart}
use Rattle.fib_form.specs.declared.table_parts.TablePart.TheVariants.{Stshf, Clx, PlcfBteChpx, PlcfBtePapx}
use Rattle.fkp_pages.specs.declared.kind.PageKind.{PageKind}
use Rattle.fkp_pages.specs.Properties.{HasListAt, bare_list}
use Rattle.fkp_gaps.specs.Gaps.{IsGap}
use Rattle.page_copies.specs.Pages.{bin_table_of}
use Rattle.page_copies.specs.Laws.{HasListBefore}
use Rattle.piece_table.specs.Piece.{TextPiece, UnitPlace, place_of_cp}
use Rattle.style_sheet.specs.Sheet.{Sheet}
use Rattle.doc_parts.specs.declared.lists.Sed.{Sed}
use Rattle.doc_parts.specs.Sections.{HasSepx}
use Rattle.file_rules.specs.Units.{unit_at}
use Rattle.file_rules.specs.Source.{story_length, table_part_bytes}
use Rattle.file_rules.specs.SectionRules.{HasSections, section_fc, sepx_list}
use Rattle.file_rules.specs.SheetRules.{HasSheet}
use Rattle.file_rules.specs.ListRules.{HasLevels}
use Rattle.file_rules.specs.FormatRules.{text_count}
use Rattle.file_rules.specs.FileRules.{FileText, doc_source_of}
use Rattle.doc_meaning.specs.Skipped.{bin_tables_of}

-- the first CPs have the same places
abbrev pub KeepsPlaces : List TextPiece → List TextPiece → ℕ → Type 0
KeepsPlaces old new count = (cp : ℕ) → cp < count → place_of_cp new cp ≡ place_of_cp old cp

-- no text is before this place
abbrev pub StandsBehind : List TextPiece → ℕ → Type 0
StandsBehind pieces from = (cp : ℕ) (place : UnitPlace) → place_of_cp pieces cp ≡ Some place → from ≤ place.at

-- the first CPs have the same units
abbrev pub KeepsUnits : FileText → FileText → ℕ → Type 0
KeepsUnits old new count = (cp : ℕ) (place : UnitPlace) → cp < count → place_of_cp new.pieces cp ≡ Some place →
    unit_at new.wd place ≡ unit_at old.wd place

-- a list that is that of the place, or the bare one, where the place is a gap
abbrev pub IsListFor : PageKind → FileText → ℕ → List ℕ → Type 0
IsListFor kind old fc made =
    HasListBefore kind (bin_table_of kind (bin_tables_of old.wd old.table)) old.wd fc made
    ⊎ (IsGap kind (bin_table_of kind (bin_tables_of old.wd old.table)) old.wd fc × (made ≡ bare_list kind))

-- each list of a page that does not lie over the FIB
abbrev pub KeepsLists : PageKind → FileText → FileText → Type 0
KeepsLists kind old new = (fc : ℕ) (made : List ℕ) →
    (has : HasListAt kind (bin_table_of kind (bin_tables_of new.wd new.table)) new.wd fc made) → 2 ≤ has.number →
    IsListFor kind old fc made

-- each Sepx that is there
abbrev pub KeepsSections : FileText → FileText → Type 0
KeepsSections old new = (sections : List Sed) (k : ℕ) → HasSections (doc_source_of new) sections → k < length sections →
    HasSepx new.wd (section_fc sections k) →
    sepx_list new.wd (section_fc sections k) ≡ sepx_list old.wd (section_fc sections k)

-- a part that is no style sheet
abbrev pub IsOtherPart : TablePart → Type 0
IsOtherPart part = pair_number part ≢ pair_number Stshf

-- and not the Clx, of which the pieces alone are read
pub record IsReadPart (part : TablePart) : Type 0 where
  pub no_sheet : IsOtherPart part
  pub no_clx : pair_number part ≢ pair_number Clx

-- and no bin table, of which the lists of the places alone are read
pub record IsPlainPart (part : TablePart) : Type 0 where
  pub reads : IsReadPart part
  pub no_chpx : pair_number part ≢ pair_number PlcfBteChpx
  pub no_papx : pair_number part ≢ pair_number PlcfBtePapx

pub record ReadsTheSame (old new : FileText) : Type 0 where
  pub counts : (story : StoryKind) → story_length (doc_source_of new) story ≡ story_length (doc_source_of old) story
  pub kept : (fib_fields new.wd).kept ≡ (fib_fields old.wd).kept
  pub pairs : (part : TablePart) → IsPlainPart part →
      fib_pair new.wd (pair_number part) ≡ fib_pair old.wd (pair_number part)
  pub parts : (part : TablePart) → IsPlainPart part →
      table_part_bytes (doc_source_of new) part ≡ table_part_bytes (doc_source_of old) part
  pub sheet : (sheet : Sheet) → HasSheet (doc_source_of new) sheet → HasSheet (doc_source_of old) sheet
  pub levels : (bytes : List ℕ) → HasLevels (doc_source_of new) bytes → HasLevels (doc_source_of old) bytes
  pub places : KeepsPlaces old.pieces new.pieces (text_count (doc_source_of new))
  pub units : KeepsUnits old new (text_count (doc_source_of new))
  pub lists : (kind : PageKind) → KeepsLists kind old new
  pub sections : KeepsSections old new
