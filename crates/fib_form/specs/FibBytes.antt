-- The written form of a FIB. The fields are a table: offset, width in bytes and number; each byte between them is 0.
-- The code writes numbers over zeros; this joins the fields from the first to the last. The pairs that are dropped are
-- zeros too.
use Rattle.std.specs.Prelude.{◌≡◌, ℕ, ◌+◌, ◌-◌, ◌*◌, List, [], ◌∷◌, ◌++◌, flat_map, slice_index, if◌then◌else◌}
use Rattle.doc_bits.specs.Number.{number_bytes}
unfoldable pub use Rattle.doc_bits.specs.Number.{zeros}
use Rattle.doc_bits.specs.Rules.{Hold}
use Rattle.fib_form.specs.Fib.{FibField, WIdent, NFib, Lid, Flags, NFibBack, Csw, LidFE, Cslw, CbMac, CcpText, CcpFtn}
use Rattle.fib_form.specs.Fib.{CcpHdd, CbRgFcLcb, CswNew, LaterCswNew, NFibNew, CQuickSavesNew, field_place, form_pairs}
use Rattle.fib_form.specs.declared.form.Form.{Form}
use Rattle.fib_form.specs.declared.form.Form.TheVariants.{Early, Later}
use Rattle.fib_form.specs.FibFields.{FibFields, fib_fields, IsFib}
use Rattle.fib_form.specs.FibRules.{fib_rules}

-- a field: its offset, its width in bytes and its number
pub record Field : Type 0 where
  pub place : ℕ
  pub width : ℕ
  pub number : ℕ

abbrev pub field : FibField → ℕ → Field
field name number = record { place = (field_place name).0; width = (field_place name).1; number = number }

-- ascending fields from an offset on, with zero bytes before each
abbrev pub spelled : ℕ → List Field → List ℕ
spelled from [] = []
spelled from (f ∷ fields) = zeros (f.place - from) ++ (number_bytes f.width f.number ++ spelled (f.place + f.width)
    fields)

-- cQuickSaves: the number of quick saves, in the later form 15
abbrev pub base_saves : Form → ℕ → ℕ
base_saves Early quick_saves = quick_saves
base_saves Later quick_saves = 15

-- the flags: those that are kept, fComplex, cQuickSaves, fWhichTblStm and fExtChar
abbrev pub written_flags : FibFields → ℕ
written_flags fib =
    fib.kept.flags + (if fib.complex then 4 else 0) + base_saves fib.form fib.quick_saves * 16 + fib.which_table *
    0x0200 + 0x1000

-- the fields before the pairs: [MS-DOC] FibBase, csw, FibRgW97, cslw, FibRgLw97, cbRgFcLcb
abbrev pub written_fields : FibFields → List Field
written_fields fib =
    field WIdent 0xA5EC
    ∷ field NFib 0x00C1
    ∷ field Lid fib.kept.lid
    ∷ field Flags (written_flags fib)
    ∷ field NFibBack 0x00C1
    ∷ field Csw 14
    ∷ field LidFE fib.kept.lid_fe
    ∷ field Cslw 22
    ∷ field CbMac fib.cb_mac
    ∷ field CcpText (slice_index fib.ccps 0)
    ∷ field CcpFtn (slice_index fib.ccps 1)
    ∷ field CcpHdd (slice_index fib.ccps 2)
    ∷ field CbRgFcLcb (form_pairs fib.form)
    ∷ []

-- fc and lcb of a pair
abbrev pub fc_lcb_bytes : ℕ × ℕ → List ℕ
fc_lcb_bytes pair = number_bytes 4 pair.0 ++ number_bytes 4 pair.1

-- the fields behind the pairs: cswNew, in the later form with nFibNew and cQuickSavesNew
abbrev pub tail_fields : Form → ℕ → List Field
tail_fields Early quick_saves = field CswNew 0 ∷ []
tail_fields Later quick_saves =
    field LaterCswNew 2 ∷ field NFibNew 0x00D9 ∷ field CQuickSavesNew quick_saves ∷ []

-- the bytes of a FIB: the fields, the pairs that are kept, and from 898 on the fields behind the pairs
unfoldable pub written_fib : FibFields → List ℕ
written_fib fib =
    spelled 0 (written_fields fib) ++ (flat_map fc_lcb_bytes fib.pairs ++ spelled 898 (tail_fields fib.form
    fib.quick_saves))

-- a stream that begins with a written FIB breaks no rule on the FIB, and has the fields that were written
abbrev pub FibIsReadBack : Type 0
FibIsReadBack =
    (fib : FibFields) (more : List ℕ) → IsFib fib → Hold (fib_rules (written_fib fib ++ more)) ×
    (fib_fields (written_fib fib ++ more) ≡ fib)
