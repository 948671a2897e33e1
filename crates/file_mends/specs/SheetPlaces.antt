-- Where the style sheet of a file is.
use Rattle.std.specs.Prelude.{◌≡◌, ℕ, ◌≤◌, List, length, slice_get, Some}
use Rattle.doc_bits.specs.Rules.{Hold}
use Rattle.cfb_directory.specs.Directory.{AreSameNames}
use Rattle.cfb_streams.specs.Contents.{Contents, Stream}
use Rattle.cfb_streams.specs.Container.{HasContents, outer_rules}
use Rattle.cfb_streams.specs.Names.{wd_name, table_name}
use Rattle.fib_form.specs.Fib.{fib_pair, fib_which_table, table_part}

-- where it begins in the table stream, its bytes, and the sectors of the table stream
pub record SheetPlace : Type 0 where
  pub at : ℕ
  pub part : List ℕ
  pub sectors : List ℕ

-- [MS-DOC] fcStshf, lcbStshf: a stream is the table stream of this WordDocument, with sectors of its own, and pair 1
-- names the style sheet in it
pub record IsSheetOf (stream : Stream) (wd : List ℕ) (sheet : SheetPlace) : Type 0 where
  pub named : AreSameNames stream.name (table_name (fib_which_table wd))
  pub chain : stream.chain ≡ Some sheet.sectors
  pub at_is : sheet.at ≡ (fib_pair wd 1).0
  pub part_is : sheet.part ≡ table_part wd stream.bytes 1

-- one of the streams is
pub record IsSheetIn (contents : Contents) (wd : List ℕ) (sheet : SheetPlace) : Type 0 where
  pub index : ℕ
  pub stream : Stream
  pub here : slice_get contents.streams index ≡ Some stream
  pub is : IsSheetOf stream wd sheet

-- a stream is WordDocument, with a FIB
pub record IsSheetBy (contents : Contents) (stream : Stream) (sheet : SheetPlace) : Type 0 where
  pub named : AreSameNames stream.name wd_name
  pub long : 900 ≤ length stream.bytes
  pub is : IsSheetIn contents stream.bytes sheet

-- one of the streams is
pub record IsSheetAmong (contents : Contents) (sheet : SheetPlace) : Type 0 where
  pub index : ℕ
  pub stream : Stream
  pub here : slice_get contents.streams index ≡ Some stream
  pub is : IsSheetBy contents stream sheet

-- the file breaks none of the rules 1 to 14 but for rule 10, and has such streams
pub record IsSheetPlace (file : List ℕ) (sheet : SheetPlace) : Type 0 where
  pub hold : Hold (outer_rules file)
  pub contents : Contents
  pub has : HasContents file contents
  pub among : IsSheetAmong contents sheet
