-- The rules of a file, in their order: of the container, of the FIB, of the pieces of its text, and of the parts.
use Rattle.std.specs.Prelude.{◌≡◌, ◌<◌, ◌^◌, ℕ, List, length, take, slice_get, Some}
use Rattle.doc_bits.specs.declared.places.Where.TheVariants.{File, Wd, Table}
use Rattle.doc_bits.specs.Rules.{Rules, rule, ◌then◌, given, Breaks, IsLeastOfAll}
use Rattle.doc_bits.specs.Places.{Place, Upto, IsFirstPlace, rules_in}
use Rattle.cfb_streams.specs.Contents.{Stream, Contents, HasNamed, HasNoNamed}
use Rattle.cfb_streams.specs.Container.{container_rules, HasContents}
use Rattle.cfb_streams.specs.Names.{wd_name, table_name}
use Rattle.fib_form.specs.Fib.{fib_size, fib_pair, fib_which_table, table_part}
use Rattle.fib_form.specs.FibFields.{FibFields, fib_fields, text_length}
use Rattle.fib_form.specs.FibRules.{fib_rules}
use Rattle.piece_table.specs.Piece.{TextPiece, flat_pieces}
use Rattle.piece_table.specs.Clx.{IsClx}
use Rattle.piece_table.specs.ClxRules.{clx_rules, text_bounds}
use Rattle.fib_form.specs.declared.table_parts.TablePart.TheVariants.{Clx}
use Rattle.file_rules.specs.PairRules.{BreaksPairs}
use Rattle.fib_form.specs.TableParts.{pair_number}
use Rattle.file_rules.specs.Units.{UnitText, text_of_pieces, text_units}
use Rattle.file_rules.specs.Source.{DocSource, IsSource}
use Rattle.file_rules.specs.PartRules.{part_rules}

-- the streams are short enough for 32-bit offsets
abbrev pub AreSmall : Contents → Type 0
AreSmall contents =
    (i : ℕ) (stream : Stream) → slice_get contents.streams i ≡ Some stream → length stream.bytes < 2 ^ 32

-- no stream of the root has the name; the place is where the rule says
pub record HasNoStream (contents : Contents) (name : List ℕ) (wanted place : ℕ) : Type 0 where
  pub here : place ≡ wanted
  pub none : HasNoNamed contents.streams name

-- [MS-DOC] fWhichTblStm: the name of the table stream of this WordDocument
abbrev pub table_stream_name : List ℕ → List ℕ
table_stream_name wd = table_name (fib_which_table wd)

-- the bytes of the Clx
abbrev pub clx_of : List ℕ → List ℕ → List ℕ
clx_of wd table = table_part wd table (pair_number Clx)

-- the two streams of a document, and the pieces of its text
pub record FileText : Type 0 where
  pub wd : List ℕ
  pub table : List ℕ
  pub pieces : List TextPiece

-- the streams of a file have them
pub record HasFileText (contents : Contents) (text : FileText) : Type 0 where
  pub has_wd : HasNamed contents.streams wd_name text.wd
  pub has_table : HasNamed contents.streams (table_stream_name text.wd) text.table
  pub has_pieces : IsClx (clx_of text.wd text.table) text.pieces

-- the same of this WordDocument
pub record IsFileTextOf (contents : Contents) (wd : List ℕ) (text : FileText) : Type 0 where
  pub same : text.wd ≡ wd
  pub has_table : HasNamed contents.streams (table_stream_name wd) text.table
  pub has_pieces : IsClx (clx_of wd text.table) text.pieces

-- what the rules on the parts read
abbrev pub doc_source_of : FileText → DocSource
doc_source_of text = record { wd = text.wd; table = text.table; text = text_of_pieces text.wd text.pieces }

-- the FIB and the units are those of the text
pub record IsLoaded (text : FileText) (fib : FibFields) (units : UnitText) : Type 0 where
  pub source : IsSource (doc_source_of text) fib
  pub same : units ≡ text_of_pieces text.wd text.pieces

-- rules 26 to 32, of pieces that have so many CPs
abbrev pub rules_of_pieces : List ℕ → List ℕ → ℕ → Rules Place
rules_of_pieces wd table text_len =
    rules_in Wd (rule 26 (BreaksPairs wd (length table)))
    then rules_in Table
    (clx_rules (clx_of wd table) (fib_pair wd (pair_number Clx)).0 (text_bounds (fib_size wd) (length wd)) text_len)

-- the same of as many CPs as the FIB counts
abbrev pub table_rules : List ℕ → List ℕ → Rules Place
table_rules wd table = rules_of_pieces wd table (text_length (fib_fields wd).ccps)

-- the front of the text of these streams: of the CPs of all pieces as many as the FIB counts; and the units of them all
pub record IsFrontOf (wd table : List ℕ) (text : FileText) (units : List ℕ) : Type 0 where
  pub wd_is : text.wd ≡ wd
  pub table_is : text.table ≡ table
  pub all : List TextPiece
  pub has_pieces : IsClx (clx_of wd table) all
  pub front : flat_pieces text.pieces ≡ take (text_length (fib_fields wd).ccps) (flat_pieces all)
  pub units_are : units ≡ text_units wd all

-- rules 16 to 32
abbrev pub wd_rules : Contents → List ℕ → Rules Place
wd_rules contents wd =
    rules_in Wd (fib_rules wd) then rules_in Wd (rule 25 (HasNoStream contents (table_stream_name wd) 10))
    then given (HasNamed contents.streams (table_stream_name wd)) (table_rules wd)

-- rules 15 to 32
abbrev pub loading_rules : Contents → Rules Place
loading_rules contents =
    rules_in File (rule 15 (HasNoStream contents wd_name 0))
    then given (HasNamed contents.streams wd_name) (wd_rules contents)

-- rules 15 to 57
abbrev pub contents_rules : Contents → Rules Place
contents_rules contents = loading_rules contents then given (HasFileText contents) (λ text. part_rules (doc_source_of
    text))

-- the rules of a file, 1 to 57
abbrev pub file_rules : List ℕ → Rules Place
file_rules file = rules_in File (container_rules file) then given (HasContents file) contents_rules

-- the first broken rule is the least of all broken ones, at its least place
abbrev pub FirstFileFaultIsLeast : Type 0
FirstFileFaultIsLeast =
    (file : List ℕ) (number : ℕ) (place : Place) → IsFirstPlace (file_rules file) number place →
    IsLeastOfAll Upto (Breaks (file_rules file)) number place
