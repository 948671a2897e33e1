-- The references and the field characters of tables without a wrong entry.
use Rattle.std.proofs.Common.{◌≡◌, ◌∙◌, inr, refl, sym, ap, ℕ, ◌+◌, ◌*◌, ◌%◌, ◌<◌, Bool, true, false, cond}
use Rattle.std.proofs.Common.{List, Some, None}
use Rattle.std.specs.Prelude.{slice_get, slice_index}
use Rattle.std.specs.Option.{unwrap_or}
use Rattle.std.proofs.lemmas.Option.{slice_get_within}
use Rattle.doc_bits.specs.Plc.{plc_cp, plc_entry}
use Rattle.doc_bits.specs.Rules.{Nowhere}
use Rattle.doc_parts.specs.declared.lists.Fld.{Fld}
use Rattle.doc_parts.specs.declared.lists.NoteRef.{NoteRef}
use Rattle.doc_parts.specs.Table.{plc_part, spelled_entry, IsValidEntry, BreaksTable}
use Rattle.doc_parts.specs.Fields.{is_field_unit, fld_form, fld_cps, AreFieldCharacters}
use Rattle.doc_parts.specs.Stories.{ref_form, ref_cps, AreRefs}
use Rattle.doc_parts.proofs.Public.{entries_there}

-- the references
pub refs_there : (bytes : List ℕ) (at main_len : ℕ) → Nowhere (BreaksTable ref_form (ref_cps main_len) bytes at) →
    (list : List NoteRef) × AreRefs bytes main_len list
refs_there bytes at main_len none =
    let table = plc_part 2 bytes in
    entries_there ref_form (ref_cps main_len) table (λ cp bytes entry e. ap (λ o. (unwrap_or o entry).cp) (sym e))
    (λ k below wrong. none (at + 4 * k) (inr (record {
      entry = k;
      below = below;
      broken = record {
        here = refl;
        broken = wrong;
      };
    })))

-- a field character has the CP and the second byte
fld_is : (b : Bool) (cp unit byte : ℕ) (fld : Fld) →
    cond b (Some (record { cp = cp; unit = unit; byte = byte })) None ≡ Some fld → (fld.cp ≡ cp) × (fld.byte ≡ byte)
fld_is true cp unit byte fld e = (ap (λ o. (unwrap_or o fld).cp) (sym e), ap (λ o. (unwrap_or o fld).byte) (sym e))
fld_is false cp unit byte fld e = absurd (cc)

pub fields_there : (bytes : List ℕ) (story_len : ℕ) →
    ((k : ℕ) → k < (plc_part 2 bytes).count → ¬ ¬ (IsValidEntry fld_form (fld_cps story_len) (plc_part 2 bytes) k)) →
    (list : List Fld) × AreFieldCharacters bytes story_len list
fields_there bytes story_len right =
    entries_there fld_form (fld_cps story_len) (plc_part 2 bytes)
    (λ cp bytes entry e. (fld_is (is_field_unit (slice_index bytes 0 % 32)) cp (slice_index bytes 0 % 32) (slice_index
    bytes 1) entry e).0) right

pub fld_byte : (bytes : List ℕ) (story_len k : ℕ) (list : List Fld) (fld : Fld) → AreFieldCharacters bytes story_len
    list →
    slice_get list k ≡ Some fld → fld.byte ≡ slice_index (plc_entry (plc_part 2 bytes) k) 1
fld_byte bytes story_len k list fld are here =
    let table = plc_part 2 bytes in
    let entry = plc_entry table k in
    let cp = plc_cp bytes k in
    let there : spelled_entry fld_form table k ≡ Some fld =
    sym (are.leading.each k (slice_get_within list k fld here)) ∙ here in
    (fld_is (is_field_unit (slice_index entry 0 % 32)) cp (slice_index entry 0 % 32) (slice_index entry 1) fld there).1
