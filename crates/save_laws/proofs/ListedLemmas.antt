-- The lists of a document's parts can be printed, and what is printed is read back.
use Rattle.std.specs.Prelude.{is_some, slice_get, IsSome, IsTrue, All}
use Rattle.std.proofs.Common.{option_map, ◌≡◌, ◌∙◌, sym, ap, subst, ℕ, ◌+◌, ◌*◌, ◌^◌, ◌<◌, ◌≤◌, List, length, map}
use Rattle.std.proofs.Common.{Option, Some, None, arith, inl, inr}
use Rattle.std.proofs.lemmas.Option.{slice_get_within, same_Some, none-some}
use Rattle.std.proofs.lemmas.Bool.{cases_eq}
use Rattle.doc_bits.specs.Rules.{Hold}
use Rattle.doc_bits.proofs.Public.{map-map, there_is, from_map, All_at, All-from_slice_get}
use Rattle.prop_map.specs.Settings.{Properties}
use Rattle.doc_parts.specs.declared.lists.Sed.{Sed}
use Rattle.doc_parts.specs.declared.lists.Fld.{Fld}
use Rattle.doc_parts.specs.declared.lists.NoteRef.{NoteRef}
use Rattle.doc_parts.specs.Cps.{AreCpsInOrder}
use Rattle.doc_parts.specs.Table.{plc_part, IsEmptyOrWhole}
use Rattle.doc_parts.specs.Sections.{sed_cps, section_rules, AreSections, printed_sections, ArePrintableSections}
use Rattle.doc_parts.specs.Fields.{is_field_unit, fld_cps, field_rules, AreFieldCharacters, printed_fields}
use Rattle.doc_parts.specs.Fields.{ArePrintableFields}
use Rattle.doc_parts.specs.Stories.{ref_cps, ref_rules, AreRefs, printed_refs, cut_rules, AreCuts, printed_texts}
use Rattle.doc_parts.proofs.Public.{sections_back, fields_back, refs_back, texts_back, Rise, rise_in_order}
use Rattle.doc_parts.proofs.Public.{rise_from_zero}
use Rattle.doc_model.specs.declared.item.Item.{Item}
use Rattle.doc_model.specs.declared.item.NoteKind.{NoteKind}
use Rattle.doc_model.specs.Collected.{joined_texts, collected, field_character, fields_of, refs_of, sections_of}
use Rattle.doc_model.specs.Collected.{is_auto}
use Rattle.doc_model.specs.TextLists.{cuts_of, starts_from}
use Rattle.save_laws.specs.Saves.{HasPropertiesAt, AreSavedSections}
use Rattle.doc_model.proofs.Public.{collected_rise, collected_from, starts_rise, first_start, cuts_in_order}
use Rattle.save_laws.proofs.ItemRules.{IsSavedItem}

-- ---- what a printed part holds, wherever it is

pub record AreSectionsHeld (bytes : List ℕ) (len : ℕ) (list : List Sed) : Type 0 where
  pub rules : (at : ℕ) → Hold (section_rules bytes at len)
  pub has : AreSections bytes len list

pub record AreFieldsHeld (bytes : List ℕ) (len : ℕ) (list : List Fld) : Type 0 where
  pub rules : (at : ℕ) → Hold (field_rules bytes at len)
  pub has : AreFieldCharacters bytes len list

pub record AreRefsHeld (bytes : List ℕ) (len : ℕ) (list : List NoteRef) : Type 0 where
  pub rules : (at : ℕ) → Hold (ref_rules bytes at len)
  pub has : AreRefs bytes len list

pub record AreCutsHeld (number : ℕ) (bytes : List ℕ) (len : ℕ) (list : List ℕ) : Type 0 where
  pub rules : (at : ℕ) → Hold (cut_rules number bytes at len)
  pub has : AreCuts bytes len list

-- what is said of the printed bytes and of a length is said of those that are equal
pub said_of : (Holds : List ℕ → ℕ → Type 0) (bytes other : List ℕ) (len same : ℕ) → bytes ≡ other → len ≡ same →
    Holds other same → Holds bytes len
said_of Holds bytes other len same bytes_are len_is holds =
    subst (λ b. Holds b len) (sym bytes_are) (subst (Holds other) (sym len_is) holds)

-- ---- fields

-- the unit and the byte of an item's field
pub record HasFieldOf (item : Item) (value : ℕ × ℕ) : Type 0 where
  pub unit : value.0 ≡ item.unit
  pub byte : item.fld ≡ Some value.1

field_by : (unit : ℕ) (o : Option ℕ) (value : ℕ × ℕ) → option_map (λ byte. (unit, byte)) o ≡ Some value →
    (value.0 ≡ unit) × (o ≡ Some value.1)
field_by unit None value here = absurd (none-some value here)
field_by unit (Some byte) value here =
    let first : ℕ × ℕ = (unit, byte) in
    let same : first ≡ value = same_Some first value here in
    (ap (λ (p : ℕ × ℕ). p.0) (sym same), ap (λ (p : ℕ × ℕ). Some p.1) same)

pub field_is : (item : Item) (value : ℕ × ℕ) → field_character item ≡ Some value → HasFieldOf item value
field_is item value here =
    let found = field_by item.unit item.fld value here in record { unit = found.0; byte = found.1 }

-- a field character of a text, and its item
pub record IsFieldOf (items : List Item) (fld : Fld) : Type 0 where
  pub item : Item
  pub here : slice_get items fld.cp ≡ Some item
  pub unit : fld.unit ≡ item.unit
  pub some : IsSome item.fld

pub field_from : (items : List Item) (k : ℕ) (fld : Fld) → slice_get (fields_of items) k ≡ Some fld →
    IsFieldOf items fld
field_from items k fld here =
    let make : ℕ × (ℕ × ℕ) → Fld = λ e. record { cp = e.0; unit = e.1.0; byte = e.1.1 } in
    let found = from_map make (collected field_character 0 items) k fld here in
    let from = collected_from field_character 0 items k found.0 found.1.0 in
    let is = field_is from.item found.0.1 from.has in
    let cp : from.index ≡ fld.cp =
    (let e : from.index ≡ found.0.0 = omega (arith, from.at) in e ∙ ap (λ (f : Fld). f.cp) found.1.1) in
    record {
      item = from.item;
      here = subst (λ n. slice_get items n ≡ Some from.item) cp from.here;
      unit = sym (ap (λ (f : Fld). f.unit) found.1.1) ∙ is.unit;
      some = ap is_some is.byte;
    }

fields_printable : (items : List Item) (len : ℕ) → length items ≤ len → All IsSavedItem items →
    ArePrintableFields (fields_of items) len
fields_printable items len within saved =
    let make : ℕ × (ℕ × ℕ) → Fld = λ e. record { cp = e.0; unit = e.1.0; byte = e.1.1 } in
    let cps : map (λ (fld : Fld). fld.cp) (fields_of items) ≡ map (λ (e : ℕ × (ℕ × ℕ)). e.0)
    (collected field_character 0 items) =
    map-map (λ (fld : Fld). fld.cp) make (collected field_character 0 items) in
    record {
      in_order =
          subst (AreCpsInOrder (fld_cps len)) (sym cps)
          (rise_in_order len (map (λ (e : ℕ × (ℕ × ℕ)). e.0) (collected field_character 0 items))
          (collected_rise field_character 0 len items (omega arith)));
      kinds =
          All-from_slice_get (λ (fld : Fld). IsTrue (is_field_unit fld.unit)) (fields_of items) (λ k fld here.
          let from = field_from items k fld here in
          let is = All_at IsSavedItem items fld.cp from.item saved from.here in
          subst (λ unit. IsTrue (is_field_unit unit)) (sym from.unit) (is.field from.some));
    }

pub fields_held : (items : List Item) (len : ℕ) → len < 2 ^ 32 → length items ≤ len → All IsSavedItem items →
    AreFieldsHeld (printed_fields (fields_of items) len) len (fields_of items)
fields_held items len small within saved =
    let printable = fields_printable items len within saved in
    record {
      rules = λ at. (fields_back (fields_of items) at len small printable).0;
      has = (fields_back (fields_of items) 0 len small printable).1.0;
    }

-- ---- references

pub refs_held : (main : List Item) (len : ℕ) → len < 2 ^ 32 → length main ≤ len →
    AreRefsHeld (printed_refs (refs_of main) len) len (refs_of main)
refs_held main len small within =
    let note : Item → Option NoteKind = λ item. item.note in
    let make : ℕ × NoteKind → NoteRef = λ e. record { cp = e.0; auto = is_auto e.1 } in
    let cps : map (λ (ref : NoteRef). ref.cp) (refs_of main) ≡ map (λ (e : ℕ × NoteKind). e.0) (collected note 0 main) =
    map-map (λ (ref : NoteRef). ref.cp) make (collected note 0 main) in
    let in_order : AreCpsInOrder (ref_cps len) (map (λ (ref : NoteRef). ref.cp) (refs_of main)) =
    subst (AreCpsInOrder (ref_cps len)) (sym cps)
    (rise_in_order len (map (λ (e : ℕ × NoteKind). e.0) (collected note 0 main))
    (collected_rise note 0 len main (omega arith))) in
    record {
      rules = λ at. (refs_back (refs_of main) at len small in_order).0;
      has = (refs_back (refs_of main) 0 len small in_order).1.0;
    }

-- ---- cuts

pub cuts_held : (number : ℕ) (joined : List Item) (texts : List (List Item)) (len : ℕ) → joined ≡ joined_texts texts →
    length joined ≤ len → len < 2 ^ 32 →
    AreCutsHeld number (printed_texts (cuts_of joined texts) len) len (cuts_of joined texts)
cuts_held number joined texts len same within small =
    let in_order = cuts_in_order joined texts len same within in
    record {
      rules = λ at. (texts_back number (cuts_of joined texts) at len small in_order).0;
      has = (texts_back number (cuts_of joined texts) 0 len small in_order).1.0;
    }

-- ---- sections

small_sepx : (wd : List ℕ) (fc : ℕ) (properties : Properties) → length wd < 2 ^ 32 → HasPropertiesAt wd fc properties →
    fc < 2 ^ 32
small_sepx wd fc properties small has = elim (cases_eq fc 0xFFFFFFFF) [
  | inl none ↦ omega (arith, none)
  | inr some ↦ let within = (has.there some).within in omega (arith, within, small)
]

sections_printable : (wd : List ℕ) (main : List Item) (seds : List Sed) → length wd < 2 ^ 32 →
    0 < length (sections_of main) → AreSavedSections (sections_of main) wd seds →
    ArePrintableSections seds (length main)
sections_printable wd main seds small some saved =
    let sections = sections_of main in
    let rise : Rise 0 (length main) (map (λ (s : ℕ × Properties). s.0) sections) =
    collected_rise (λ (item : Item). item.sect) 0 (length main) main (omega arith) in
    record {
      some = omega (arith, some, saved.properties.len);
      in_order =
          subst (AreCpsInOrder (sed_cps (length main))) (sym saved.starts)
          (rise_from_zero (length main) (starts_from 0 sections) (starts_rise 0 (length main) sections rise)
          (first_start sections));
      numbers =
          All-from_slice_get (λ (sed : Sed). sed.sepx < 2 ^ 32) seds (λ k sed here.
          let below : k < length sections = omega (arith, slice_get_within seds k sed here, saved.properties.len) in
          let found = there_is sections k below in
          small_sepx wd sed.sepx found.0.1 small (saved.properties.each k sed found.0 here found.1));
    }

pub sections_held : (wd : List ℕ) (main : List Item) (seds : List Sed) → length wd < 2 ^ 32 → length main < 2 ^ 32 →
    0 < length (sections_of main) → AreSavedSections (sections_of main) wd seds →
    AreSectionsHeld (printed_sections seds (length main)) (length main) seds
sections_held wd main seds small few some saved =
    let printable = sections_printable wd main seds small some saved in
    record {
      rules = λ at. (sections_back seds at (length main) few printable).0;
      has = (sections_back seds 0 (length main) few printable).1.0;
    }

-- ---- tables

-- a table that does not break its rule by its length has the length
pub whole_table : (size : ℕ) (bytes : List ℕ) → ¬ ¬ (IsEmptyOrWhole (plc_part size bytes)) →
    IsEmptyOrWhole (plc_part size bytes)
whole_table size bytes wrong = elim (cases_eq (length bytes) 0) [
  | inl empty ↦ inl empty
  | inr some ↦ elim (cases_eq (length bytes) (4 + (plc_part size bytes).count * (4 + size))) [
    | inl whole ↦ inr whole
    | inr not_whole ↦ absurd (wrong (λ is. elim is [ inl empty ↦ some empty | inr whole ↦ not_whole whole ]))
  ]
]
