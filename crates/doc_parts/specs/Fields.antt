-- [MS-DOC] PlcFld: the field characters of a story.
use Rattle.std.specs.Prelude.{ℕ, ◌%◌, ◌<◌, ◌&&◌, List, [], ◌∷◌, slice_index, Option, Some, None, false, Bool}
use Rattle.std.specs.Prelude.{if◌then◌else◌, nat_le, map, All, IsTrue, ◌^◌}
use Rattle.doc_bits.specs.Rules.{Rules, rule, Hold}
use Rattle.doc_parts.specs.declared.lists.Fld.{Fld}
use Rattle.doc_parts.specs.declared.field_part.FieldKind.{FieldKind}
use Rattle.doc_parts.specs.declared.field_part.FieldKind.TheVariants.{Begin, Separator, End}
use Rattle.doc_parts.specs.declared.cps.CpForm.{CpForm}
use Rattle.doc_parts.specs.declared.cps.CpOrder.TheVariants.{Ascend}
use Rattle.doc_parts.specs.Cps.{AreCpsInOrder}
use Rattle.doc_parts.specs.Table.{EntryForm, plc_part, BreaksTable, AreTableEntries, IsOnly, printed_entries}

-- the unit that marks a field's begin, its separator or its end
abbrev pub field_kind_unit : FieldKind → ℕ
field_kind_unit Begin = 0x13
field_kind_unit Separator = 0x14
field_kind_unit End = 0x15

-- the unit is one of the three
abbrev pub is_field_unit : ℕ → Bool
is_field_unit unit = nat_le 0x13 unit && nat_le unit 0x15

-- [MS-DOC] Fld: the low five bits of the first byte are the kind, the second byte is the type or the flags
abbrev pub fld_of : ℕ → ℕ → ℕ → Option Fld
fld_of cp first second =
    (if is_field_unit (first % 32) then Some (record { cp = cp; unit = first % 32; byte = second }) else None)

-- Profile: the first byte is written as the unit
abbrev pub fld_form : EntryForm Fld
fld_form = record {
  size = 2;
  cp_of = λ fld. fld.cp;
  bytes_of = λ fld. (fld.unit % 256) ∷ fld.byte ∷ [];
  read_from = λ cp bytes. fld_of cp (slice_index bytes 0) (slice_index bytes 1);
}

-- the CPs ascend and are below the length of the story
abbrev pub fld_cps : ℕ → CpForm
fld_cps story_len = record { order = Ascend; from_zero = false; story_len = story_len }

-- rule 52, but for the unit in the text
abbrev pub field_rules : List ℕ → ℕ → ℕ → Rules ℕ
field_rules plc at story_len = rule 52 (BreaksTable fld_form (fld_cps story_len) plc at)

-- the list has the field characters of the part
abbrev pub AreFieldCharacters : List ℕ → ℕ → List Fld → Type 0
AreFieldCharacters plc story_len list = AreTableEntries fld_form (fld_cps story_len) (plc_part 2 plc) list

-- the part as it is printed
abbrev pub printed_fields : List Fld → ℕ → List ℕ
printed_fields = printed_entries fld_form

-- the field characters break no part of their rule in a story of this length
pub record ArePrintableFields (list : List Fld) (story_len : ℕ) : Type 0 where
  pub in_order : AreCpsInOrder (fld_cps story_len) (map (λ fld. fld.cp) list)
  pub kinds : All (λ fld. IsTrue (is_field_unit fld.unit)) list

-- printed field characters break no rule, and they alone are read back
abbrev pub FieldsAreReadBack : Type 0
FieldsAreReadBack =
    (list : List Fld) (at story_len : ℕ) → story_len < 2 ^ 32 → ArePrintableFields list story_len →
    let bytes = printed_fields list story_len in
    Hold (field_rules bytes at story_len) × IsOnly (AreFieldCharacters bytes story_len) list
