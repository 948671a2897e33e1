-- [MS-DOC] FIB, the file information block that WordDocument begins with. One table has the fields with their offsets
-- and
-- widths; each field's number is read by it. `wd` is the bytes of WordDocument. It has one of two forms, of which both
-- have the same fields up to the pairs.
use Rattle.std.specs.Prelude.{ℕ, ◌+◌, ◌*◌, ◌/◌, ◌%◌, ◌^◌, ◌==◌, List, map, slice_range, if◌then◌else◌}
use Rattle.std.specs.List.{range_with_len}
use Rattle.doc_bits.specs.Number.{number_at, u32_at}
use Rattle.fib_form.specs.declared.form.Form.{Form}
use Rattle.fib_form.specs.declared.form.Form.TheVariants.{Early, Later}

-- the size of a form in bytes
abbrev pub form_size : Form → ℕ
form_size Early = 900
form_size Later = 1024

-- [MS-DOC] cbRgFcLcb of a form: the number of its pairs
abbrev pub form_pairs : Form → ℕ
form_pairs Early = 0x5D
form_pairs Later = 0x6C

-- Profile: the first 93 pairs are kept, in both forms. The later form's other pairs are dropped
abbrev pub kept_pairs : ℕ
kept_pairs = 93

-- the fields that are read, checked or written, by the standard's names: FibBase, csw and FibRgW97, cslw and FibRgLw97,
-- cbRgFcLcb, and behind the pairs cswNew, in the later form with nFibNew and cQuickSavesNew
pub data FibField : Type 0 where
  WIdent : FibField
  NFib : FibField
  Lid : FibField
  Flags : FibField
  NFibBack : FibField
  Csw : FibField
  LidFE : FibField
  Cslw : FibField
  CbMac : FibField
  CcpText : FibField
  CcpFtn : FibField
  CcpHdd : FibField
  CcpAtn : FibField
  CbRgFcLcb : FibField
  CswNew : FibField
  LaterCswNew : FibField
  NFibNew : FibField
  CQuickSavesNew : FibField

-- the offset of a field, and its width in bytes
abbrev pub field_place : FibField → ℕ × ℕ
field_place WIdent = (0, 2)
field_place NFib = (2, 2)
field_place Lid = (6, 2)
field_place Flags = (10, 2)
field_place NFibBack = (12, 2)
field_place Csw = (32, 2)
field_place LidFE = (60, 2)
field_place Cslw = (62, 2)
field_place CbMac = (64, 4)
field_place CcpText = (76, 4)
field_place CcpFtn = (80, 4)
field_place CcpHdd = (84, 4)
field_place CcpAtn = (92, 4)
field_place CbRgFcLcb = (152, 2)
field_place CswNew = (898, 2)
field_place LaterCswNew = (1018, 2)
field_place NFibNew = (1020, 2)
field_place CQuickSavesNew = (1022, 2)

abbrev pub field_offset : FibField → ℕ
field_offset field = (field_place field).0

-- the number of a field
abbrev pub fib_number : FibField → List ℕ → ℕ
fib_number field wd = number_at wd (field_place field).0 (field_place field).1

-- the form of a stream's FIB: later with cbRgFcLcb 0x6C. Whether it is 0x5D else is a rule
abbrev pub fib_form : List ℕ → Form
fib_form wd = if fib_number CbRgFcLcb wd == form_pairs Later then Later else Early

-- the size of a stream's FIB in bytes
abbrev pub fib_size : List ℕ → ℕ
fib_size wd = form_size (fib_form wd)

-- [MS-DOC] FibBase
abbrev pub fib_lid : List ℕ → ℕ
fib_lid wd = fib_number Lid wd

-- the 16-bit number that has the flags and cQuickSaves
abbrev pub fib_flags : List ℕ → ℕ
fib_flags wd = fib_number Flags wd

-- bit `place` of a number, counted from the lowest
abbrev pub bit : ℕ → ℕ → ℕ
bit place number = number / 2 ^ place % 2

abbrev pub fib_glossary : List ℕ → ℕ
fib_glossary wd = bit 1 (fib_flags wd)

abbrev pub fib_complex : List ℕ → ℕ
fib_complex wd = bit 2 (fib_flags wd)

-- the number of quick saves: cQuickSaves of the flags, in the later form cQuickSavesNew
abbrev pub quick_saves_in : Form → List ℕ → ℕ
quick_saves_in Early wd = fib_flags wd / 16 % 16
quick_saves_in Later wd = fib_number CQuickSavesNew wd

abbrev pub fib_quick_saves : List ℕ → ℕ
fib_quick_saves wd = quick_saves_in (fib_form wd) wd

abbrev pub fib_encrypted : List ℕ → ℕ
fib_encrypted wd = bit 8 (fib_flags wd)

-- which of 0Table and 1Table is the table stream
abbrev pub fib_which_table : List ℕ → ℕ
fib_which_table wd = bit 9 (fib_flags wd)

abbrev pub fib_obfuscated : List ℕ → ℕ
fib_obfuscated wd = bit 15 (fib_flags wd)

-- Profile: of the other flags fDot, fReadOnlyRecommended and fFarEast are kept, at their places
abbrev pub kept_flags : ℕ → ℕ
kept_flags flags = bit 0 flags + bit 10 flags * 0x0400 + bit 14 flags * 0x4000

-- [MS-DOC] FibRgW97
abbrev pub fib_lid_fe : List ℕ → ℕ
fib_lid_fe wd = fib_number LidFE wd

-- [MS-DOC] FibRgLw97
abbrev pub fib_cb_mac : List ℕ → ℕ
fib_cb_mac wd = fib_number CbMac wd

abbrev pub fib_ccp_text : List ℕ → ℕ
fib_ccp_text wd = fib_number CcpText wd

abbrev pub fib_ccp_ftn : List ℕ → ℕ
fib_ccp_ftn wd = fib_number CcpFtn wd

abbrev pub fib_ccp_hdd : List ℕ → ℕ
fib_ccp_hdd wd = fib_number CcpHdd wd

-- [MS-DOC] FibRgFcLcb97: where pair n is
abbrev pub fib_pair_place : ℕ → ℕ
fib_pair_place n = 154 + 8 * n

-- fc and lcb of pair n: where a part begins in the table stream, and its length in bytes
abbrev pub fib_pair : List ℕ → ℕ → ℕ × ℕ
fib_pair wd n = (u32_at wd (fib_pair_place n), u32_at wd (fib_pair_place n + 4))

-- all pairs that are kept, by their numbers
unfoldable pub fib_pairs : List ℕ → List (ℕ × ℕ)
fib_pairs wd = map (fib_pair wd) (range_with_len 0 kept_pairs)

-- the bytes of the table stream that pair n names
abbrev pub table_part : List ℕ → List ℕ → ℕ → List ℕ
table_part wd table n = slice_range table (fib_pair wd n).0 ((fib_pair wd n).0 + (fib_pair wd n).1)
