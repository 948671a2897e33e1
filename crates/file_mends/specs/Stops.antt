-- [MS-DOC] sprmPChgTabs (C615) that deletes no tab stop is sprmPChgTabsPapx (C60D), which docbin reads: the operands are
-- the same, so the code of the latter is at its place.
use Rattle.std.specs.Prelude.{◌≡◌, ℕ, ◌+◌, ◌<◌, List, [], ◌∷◌, ◌++◌, length, Option, Some, None}
use Rattle.doc_bits.specs.Rules.{Hold}
use Rattle.cfb_streams.specs.Contents.{Contents}
use Rattle.cfb_streams.specs.Container.{HasContents, outer_rules}
use Rattle.fib_form.specs.Fib.{fib_pair, table_part}
use Rattle.tab_stops.specs.Pages.{AreStopsOfPages}
use Rattle.tab_stops.specs.Prcs.{AreClxStops}
use Rattle.tab_stops.specs.Sheets.{AreSheetStops}
use Rattle.file_mends.specs.declared.mends.FileMend.{FileMend}
use Rattle.file_mends.specs.declared.mends.FileMend.TheVariants.{StopsRead}
use Rattle.file_mends.specs.Rewritten.{place_of_byte, with_byte}
use Rattle.file_mends.specs.Streams.{FileStreams, AreFileStreams}

-- [MS-DOC] PlcfBteChpx, PlcfBtePapx: where the codes are in the pages of paragraphs
abbrev pub AreWdStops : (wd table : List ℕ) → List ℕ → Type 0
AreWdStops wd table places =
    AreStopsOfPages (record { characters = table_part wd table 12; paragraphs = table_part wd table 13 }) wd places

-- [MS-DOC] Stshf, Clx: where they are in the styles, and then in the Prcs
pub record AreTableStops (wd table places : List ℕ) : Type 0 where
  pub sheet : List ℕ
  pub are_sheet : AreSheetStops (table_part wd table 1) (fib_pair wd 1).0 sheet
  pub prcs : List ℕ
  pub are_prcs : AreClxStops (table_part wd table 33) (fib_pair wd 33).0 prcs
  pub joined : places ≡ sheet ++ prcs

-- a stream without sectors of its own has none that are read
abbrev pub AreWithin : Option (List ℕ) → (List ℕ → Type 0) → List ℕ → Type 0
AreWithin None are places = places ≡ []
AreWithin (Some sectors) are places = are places

-- the file with the lower byte of sprmPChgTabsPapx at these places of a stream
abbrev pub with_low_bytes : (sectors places file : List ℕ) → List ℕ
with_low_bytes sectors [] file = file
with_low_bytes sectors (place ∷ places) file =
    with_low_bytes sectors places (with_byte file (place_of_byte sectors place) 0x0D)

abbrev pub with_codes : Option (List ℕ) → (places file : List ℕ) → List ℕ
with_codes None places file = file
with_codes (Some sectors) places file = with_low_bytes sectors places file

-- the codes of two streams of a file are read so: there is one at least
pub record ReadsCodes (file : List ℕ) (streams : FileStreams) (mend : FileMend) (read : List ℕ) : Type 0 where
  pub pages : List ℕ
  pub are_pages : AreWithin streams.wd_sectors (AreWdStops streams.wd streams.table) pages
  pub parts : List ℕ
  pub are_parts : AreWithin streams.table_sectors (AreTableStops streams.wd streams.table) parts
  pub some : 0 < length pages + length parts
  pub mend_is : mend ≡ StopsRead (length pages + length parts)
  pub read_is : read ≡ with_codes streams.table_sectors parts (with_codes streams.wd_sectors pages file)

-- those of a file, which breaks none of the rules 1 to 14 but for rule 10
pub record ReadsStops (file : List ℕ) (mend : FileMend) (read : List ℕ) : Type 0 where
  pub hold : Hold (outer_rules file)
  pub contents : Contents
  pub has : HasContents file contents
  pub streams : FileStreams
  pub are_streams : AreFileStreams contents streams
  pub reads : ReadsCodes file streams mend read

-- it has none
abbrev pub HasNoStops : List ℕ → Type 0
HasNoStops file = (mend : FileMend) (read : List ℕ) → ¬ ReadsStops file mend read
