-- The streams of a file in which the codes that are not read are skipped, each at its own place: in the pages that one
-- bin table alone names, and in a style sheet that is first in the table stream.
use Rattle.std.specs.Prelude.{◌≡◌, ◌≢◌, ◌⊎◌, ℕ, ◌+◌, ◌<◌, ◌≤◌, List, length}
use Rattle.doc_bits.specs.Number.{u16_at, u32_at}
use Rattle.doc_bits.specs.Plc.{plc_entry}
use Rattle.fib_form.specs.Fib.{kept_pairs, table_part}
use Rattle.fib_form.specs.FibFields.{listed_pair}
use Rattle.fib_form.specs.TableParts.{pair_number}
use Rattle.fib_form.specs.declared.table_parts.TablePart.TheVariants.{Stshf, PlcfSed, PlcfBteChpx, PlcfBtePapx}
use Rattle.page_copies.specs.Pages.{BinTables}
use Rattle.part_skips.specs.Sheets.{PutsSheet}
use Rattle.doc_parts.specs.Table.{plc_part}
use Rattle.file_rules.specs.SectionRules.{sepx_list}

-- the bin tables of a file
abbrev pub bin_tables_of : (wd table : List ℕ) → BinTables
bin_tables_of wd table = record {
  characters = table_part wd table (pair_number PlcfBteChpx);
  paragraphs = table_part wd table (pair_number PlcfBtePapx);
}

-- where the style sheet begins and ends, by the pairs of a FIB
abbrev pub sheet_from : List (ℕ × ℕ) → ℕ
sheet_from pairs = (listed_pair pairs (pair_number Stshf)).0

abbrev pub sheet_to : List (ℕ × ℕ) → ℕ
sheet_to pairs = sheet_from pairs + (listed_pair pairs (pair_number Stshf)).1

-- a part has no bytes, or begins at this place or behind it
abbrev pub StandsFrom : ℕ → ℕ × ℕ → Type 0
StandsFrom place pair = (pair.1 ≡ 0) ⊎ (place ≤ pair.0)

-- so does part n, if it is not the style sheet
abbrev pub StandsBehind : List (ℕ × ℕ) → ℕ → ℕ → Type 0
StandsBehind pairs place n = n ≢ pair_number Stshf → StandsFrom place (listed_pair pairs n)

-- the style sheet is in the table stream, and each other part is behind it
pub record IsSheetFirst (pairs : List (ℕ × ℕ)) (table_len : ℕ) : Type 0 where
  pub within : sheet_to pairs ≤ table_len
  pub others : (n : ℕ) → n < kept_pairs → StandsBehind pairs (sheet_to pairs) n

-- such a style sheet is skipped, and the rest of the table stream stays
pub record SkipsFirst (pairs : List (ℕ × ℕ)) (old new : List ℕ) : Type 0 where
  pub first : IsSheetFirst pairs (length old)
  pub puts : PutsSheet (sheet_from pairs) (sheet_to pairs) old new

abbrev pub SkipsTable : List (ℕ × ℕ) → List ℕ → List ℕ → Type 0
SkipsTable pairs old new = SkipsFirst pairs old new ⊎ ((¬ IsSheetFirst pairs (length old)) × (new ≡ old))

-- [MS-DOC] Sed: fcSepx of each section
abbrev pub fc_sepx : List ℕ → ℕ → ℕ
fc_sepx sections k = u32_at (plc_entry (plc_part 12 sections) k) 2

-- a Sepx behind the FIB, of which the count of bytes and the list stay
abbrev pub KeepsSepx : List ℕ → List ℕ → ℕ → Type 0
KeepsSepx old new fc = 1024 ≤ fc → fc + 2 ≤ length old →
    (u16_at new fc ≡ u16_at old fc) × (sepx_list new fc ≡ sepx_list old fc)

-- those of all sections
abbrev pub KeepsSepxs : (sections old new : List ℕ) → Type 0
KeepsSepxs sections old new = (k : ℕ) → k < (plc_part 12 sections).count → KeepsSepx old new (fc_sepx sections k)

-- the sections of a file
abbrev pub plcf_sed : (wd table : List ℕ) → List ℕ
plcf_sed wd table = table_part wd table (pair_number PlcfSed)
