-- The sections of a file as it was read are saved sections of its document.
use Rattle.std.specs.Prelude.{slice_get, slice_index, ℕ, List, zip}
use Rattle.std.proofs.Common.{◌≡◌, ◌∙◌, ◌++◌, ◌∷◌, ◌+◌, ◌-◌, ◌<◌, ◌≤◌, [], refl, sym, ap, subst, inl, inr, zero, suc}
use Rattle.std.proofs.Common.{Option, Some, None, length, map, drop, arith}
use Rattle.std.proofs.lemmas.Bool.{cases_lt, cases_eq}
use Rattle.std.proofs.lemmas.Option.{slice_get_within, same_Some, none-some}
use Rattle.std.proofs.lemmas.List.{length-map, length-append, get_or-map, get_or_append_left, length-drop}
use Rattle.doc_bits.specs.Number.{u16_at, AreBytes}
use Rattle.doc_bits.proofs.Public.{AreBytes-range}
use Rattle.prop_map.specs.Settings.{Properties}
use Rattle.prop_map.specs.Formed.{section_groups}
use Rattle.prop_map.proofs.Public.{accepted_of}
use Rattle.fib_form.specs.declared.stories.StoryKind.TheVariants.{Main}
use Rattle.doc_parts.specs.declared.lists.Sed.{Sed}
use Rattle.doc_parts.specs.Sections.{HasSepx}
use Rattle.doc_model.specs.declared.item.Item.{Item}
use Rattle.doc_model.specs.Collected.{collected, sections_of, entry_before}
use Rattle.doc_model.specs.Entries.{entry_at_cp}
use Rattle.doc_model.proofs.Public.{entry_here, entry_later}
use Rattle.file_rules.proofs.Public.{index_of_get}
use Rattle.file_rules.specs.Source.{story_length}
use Rattle.file_rules.specs.FormatRules.{section_ends}
use Rattle.file_rules.specs.SectionRules.{section_fc, sepx_list}
use Rattle.file_rules.specs.FileRules.{doc_source_of}
use Rattle.doc_read.specs.Sections.{section_lasts, HaveProperties}
use Rattle.doc_read.proofs.Public.{some_section, ends_up, length-section_lasts, IsUpWithin, sepx-there, sepx-right}
use Rattle.save_laws.specs.Saves.{HasPropertiesAt, AreSavedSections}
use Rattle.doc_model.specs.TextLists.{starts_from}
use Rattle.doc_parts.proofs.Public.{Rise}
use Rattle.save_laws.proofs.GivenLemmas.{ReadText}

-- ---- what is collected is what is read

-- entries from a CP on have nothing below it
rise_none : {A : Type 0} (low high cp : ℕ) (entries : List (ℕ × A)) →
    Rise low high (map (λ (e : ℕ × A). e.0) entries) → cp < low → entry_at_cp entries cp ≡ None
rise_none low high cp [] rise below = refl
rise_none {A = A} low high cp (e ∷ entries) rise below =
    let first = rise.0 in
    entry_later e.0 cp e.1 entries (λ same. absurd (omega (arith, same, first, below)))
    ∙ rise_none (e.0 + 1) high cp entries rise.1.1 (omega (arith, first, below))

-- entries that ascend within the items, and that each item has at its CP, are those that are collected
pub collected_is : {A : Type 0} (what : Item → Option A) (from high : ℕ) (items : List Item) (entries : List (ℕ × A)) →
    high ≡ from + length items →
    Rise from high (map (λ (e : ℕ × A). e.0) entries) →
    ((i : ℕ) (item : Item) → slice_get items i ≡ Some item → what item ≡ entry_at_cp entries (from + i)) →
    collected what from items ≡ entries
unfolding collected
collected_is what from high [] [] long rise each = refl
collected_is what from high [] (e ∷ entries) long rise each =
    let first = rise.0 in let below = rise.1.0 in absurd (omega (arith, long, first, below))
collected_is what from high (item ∷ items) [] long rise each =
    let none : what item ≡ None = each zero item refl in
    ap (λ o. entry_before o from (collected what (from + 1) items)) none
    ∙ collected_is what (from + 1) high items [] (omega (arith, long)) tt (λ i it here. each (suc i) it here)
collected_is what from high (item ∷ items) (e ∷ entries) long rise each = elim (cases_eq e.0 from) [
  | inl same ↦
      let at : from + zero ≡ from = omega arith in
      let value : what item ≡ Some e.1 =
      each zero item refl ∙ (ap (entry_at_cp (e ∷ entries)) at ∙ entry_here e.0 from e.1 entries same) in
      let next : e.0 + 1 ≡ from + 1 = omega (arith, same) in
      let later =
      collected_is what (from + 1) high items entries (omega (arith, long))
      (subst (λ n. Rise n high (map (λ x. x.0) entries)) next rise.1.1) (λ i it here.
      let cp : from + suc i ≡ from + 1 + i = omega arith in
      each (suc i) it here
      ∙ (ap (entry_at_cp (e ∷ entries)) cp
      ∙ entry_later e.0 (from + 1 + i) e.1 entries (λ here_too. absurd (omega (arith, here_too, same))))) in
      ap (λ o. entry_before o from (collected what (from + 1) items)) value
      ∙ (ap (λ l. (from, e.1) ∷ l) later ∙ ap (λ n. (n, e.1) ∷ entries) (sym same))
  | inr other ↦
      let first = rise.0 in
      let low : from + 1 ≤ e.0 = omega (arith, first, other) in
      let moved : Rise (from + 1) high (map (λ x. x.0) (e ∷ entries)) = (low, (rise.1.0, rise.1.1)) in
      let at : from + zero ≡ from = omega arith in
      let none : what item ≡ None =
      each zero item refl ∙ (ap (entry_at_cp (e ∷ entries)) at
      ∙ rise_none (from + 1) high from (e ∷ entries) moved (omega arith)) in
      ap (λ o. entry_before o from (collected what (from + 1) items)) none
      ∙ collected_is what (from + 1) high items (e ∷ entries) (omega (arith, long)) moved (λ i it here.
      let cp : from + suc i ≡ from + 1 + i = omega arith in
      each (suc i) it here ∙ ap (entry_at_cp (e ∷ entries)) cp)
]

-- ---- CPs that ascend

rise_of : (low high : ℕ) (cps : List ℕ) → IsUpWithin low high cps → Rise low high cps
rise_of low high [] up = tt
rise_of low high (cp ∷ cps) up = (
  up.above 0 (omega arith),
  (
    up.below 0 (omega arith),
    rise_of (cp + 1) high cps (record {
      up = λ i j before below. up.up (suc i) (suc j) (omega (arith, before)) (omega (arith, below));
      above = λ k below. let first = up.up 0 (suc k) (omega arith) (omega (arith, below)) in omega (arith, first);
      below = λ k below. up.below (suc k) (omega (arith, below));
    }),
  ),
)

-- the last CPs of sections: one less than their ends
less_up : (high : ℕ) (ends : List ℕ) → IsUpWithin 1 (high + 1) ends → IsUpWithin 0 high (map (λ end. end - 1) ends)
less_up high ends up =
    let len = length-map ends (λ end. end - 1) in
    let value : (k : ℕ) → k < length ends → slice_index (map (λ end. end - 1) ends) k ≡ slice_index ends k - 1 =
    λ k below. get_or-map (λ end. end - 1) ends k 0 0 below in
    record {
      up = λ i j before below.
          let j_below : j < length ends = omega (arith, below, len) in
          let a = up.up i j before j_below in
          let b = up.above i (omega (arith, before, j_below)) in
          omega (arith, a, b, value i (omega (arith, before, j_below)), value j j_below);
      above = λ k below. omega arith;
      below = λ k below.
          let inside : k < length ends = omega (arith, below, len) in
          let a = up.below k inside in
          let b = up.above k inside in
          omega (arith, a, b, value k inside);
    }

zip_first : {A : Type 0} (cps : List ℕ) (values : List A) → length values ≡ length cps →
    map (λ (e : ℕ × A). e.0) (zip cps values) ≡ cps
zip_first [] values same = refl
zip_first (cp ∷ cps) [] same = absurd (omega (arith, same))
zip_first (cp ∷ cps) (value ∷ values) same = ap (λ l. cp ∷ l) (zip_first cps values (omega (arith, same)))

-- what is beside a CP
zip_at : {A : Type 0} (cps : List ℕ) (values : List A) (k : ℕ) (e : ℕ × A) → slice_get (zip cps values) k ≡ Some e →
    slice_get values k ≡ Some e.1
zip_at [] values k e here = absurd (none-some e here)
zip_at (cp ∷ cps) [] k e here = absurd (none-some e here)
zip_at {A = A} (cp ∷ cps) (value ∷ values) zero e here =
    let first : ℕ × A = (cp, value) in ap (λ (x : ℕ × A). Some x.1) (same_Some first e here)
zip_at (cp ∷ cps) (value ∷ values) (suc k) e here = zip_at cps values k e here

length-zip : {A : Type 0} (cps : List ℕ) (values : List A) → length values ≡ length cps →
    length (zip cps values) ≡ length cps
length-zip [] values same = refl
length-zip (cp ∷ cps) [] same = absurd (omega (arith, same))
length-zip (cp ∷ cps) (value ∷ values) same = ap suc (length-zip cps values (omega (arith, same)))

-- sections that end before the starts of the later ones begin there
starts_by : (start len : ℕ) (later : List ℕ) (maps : List Properties) → length maps ≡ length later + 1 →
    ((k : ℕ) → k < length later → 1 ≤ slice_index later k) →
    starts_from start (zip (map (λ end. end - 1) (later ++ len ∷ [])) maps) ≡ start ∷ later
unfolding starts_from
starts_by start len later [] same above = absurd (omega (arith, same))
starts_by start len [] (map_one ∷ []) same above = refl
starts_by start len [] (map_one ∷ (map_two ∷ maps)) same above = absurd (omega (arith, same))
starts_by start len (next ∷ later) (map_one ∷ maps) same above =
    let some : 1 ≤ next = above 0 (omega arith) in
    let e : next - 1 + 1 ≡ next = omega (arith, some) in
    ap (λ l. start ∷ l)
    (starts_by (next - 1 + 1) len later maps (omega (arith, same)) (λ k below. above (suc k) (omega (arith, below)))
    ∙ ap (λ n. n ∷ later) e)

-- the first start is 0
first_of : (starts : List ℕ) → 1 ≤ length starts → slice_index starts 0 ≡ 0 → 0 ∷ drop 1 starts ≡ starts
first_of [] some first = absurd (omega (arith, some))
first_of (start ∷ starts) some first = ap (λ n. n ∷ starts) (sym first)

-- ---- the sections of a file

seds_up : (r : ReadText) → IsUpWithin 1 (story_length (doc_source_of r.text) Main + 1)
    (section_ends r.lists.sections (story_length (doc_source_of r.text) Main))
seds_up r =
    let source = doc_source_of r.text in
    ends_up r.lists.sections (story_length source Main)
    (some_section source r.lists.sections r.parts_hold.0.0 r.has.has_sections) r.has.has_sections.leading.in_order

-- with properties that were read for each of them
record AreRead (r : ReadText) : Type 0 where
  bytes : AreBytes r.text.wd
  have : HaveProperties r.text.wd r.lists.sections r.maps

sections_are : (r : ReadText) → AreRead r →
    sections_of r.document.main ≡ zip (section_lasts r.lists.sections (story_length (doc_source_of r.text) Main)) r.maps
sections_are r are =
    let source = doc_source_of r.text in
    let sections = r.lists.sections in
    let main_len = story_length source Main in
    let lasts = section_lasts sections main_len in
    let some = some_section source sections r.parts_hold.0.0 r.has.has_sections in
    let len = length-section_lasts sections main_len some in
    let many : length r.maps ≡ length lasts = omega (arith, len, are.have.len) in
    let main_is = r.main.len in
    let rise : Rise 0 main_len lasts =
    rise_of 0 main_len lasts (less_up main_len (section_ends sections main_len) (seds_up r)) in
    collected_is (λ item. item.sect) 0 main_len r.document.main (zip lasts r.maps) (omega (arith, main_is))
    (subst (Rise 0 main_len) (sym (zip_first lasts r.maps many)) rise)
    (λ i item here. (r.main.each i item here).section)

-- a Sepx that is not missing is there
sepx_by : (wd : List ℕ) (fc : ℕ) → ¬ ¬ (HasSepx wd fc) → HasSepx wd fc
sepx_by wd fc wrong = record {
  after_fib = elim (cases_lt fc 1024) [
    | inl low ↦ absurd (wrong (λ has. let after = has.after_fib in omega (arith, after, low)))
    | inr high ↦ high
  ];
  within = elim (cases_lt (length wd) (fc + 2 + u16_at wd fc)) [
    | inl beyond ↦ absurd (wrong (λ has. let within = has.within in omega (arith, within, beyond)))
    | inr within ↦ within
  ];
}

-- the properties of a section are there, and their list has no fault
properties_at : (r : ReadText) → AreRead r → (k : ℕ) (map : Properties) → slice_get r.maps k ≡ Some map →
    HasPropertiesAt r.text.wd (section_fc r.lists.sections k) map
properties_at r are k map here =
    let source = doc_source_of r.text in
    let wd = r.text.wd in
    let sections = r.lists.sections in
    let fc = section_fc sections k in
    let below : k < length sections = omega (arith, slice_get_within r.maps k map here, are.have.len) in
    let lacks = sepx-there source sections k r.parts_hold.0.0 r.has.has_sections below in
    let right = sepx-right source sections k r.parts_hold.0.0 r.has.has_sections below in
    record {
      is = are.have.each k map here;
      there = λ properties. sepx_by wd fc (λ missing. lacks (record { properties = properties; missing = missing }));
      accepted = λ properties.
          accepted_of (sepx_list wd fc) section_groups (AreBytes-range wd (fc + 2) (fc + 2 + u16_at wd fc) are.bytes)
          (λ p fault. right (fc + 2 + p)
          (record { properties = properties; fault = record { offset = p; here = refl; broken = fault } }));
    }

pub given_sections : (r : ReadText) → AreBytes r.text.wd → HaveProperties r.text.wd r.lists.sections r.maps →
    AreSavedSections (sections_of r.document.main) r.text.wd r.lists.sections
given_sections r bytes have =
    let source = doc_source_of r.text in
    let sections = r.lists.sections in
    let main_len = story_length source Main in
    let are : AreRead r = record { bytes = bytes; have = have } in
    let starts = map (λ (sed : Sed). sed.start) sections in
    let lasts = section_lasts sections main_len in
    let some = some_section source sections r.parts_hold.0.0 r.has.has_sections in
    let same = sections_are r are in
    let starts_len = length-map sections (λ (sed : Sed). sed.start) in
    let later_len : length (drop 1 starts) ≡ length starts - 1 = length-drop 1 starts in
    let lasts_len = length-section_lasts sections main_len some in
    let many : length r.maps ≡ length lasts = omega (arith, lasts_len, have.len) in
    let first : slice_index starts 0 ≡ 0 =
    (r.has.has_sections.leading.in_order 0 (omega (arith, starts_len, some))).begin refl refl in
    let by =
    starts_by 0 main_len (drop 1 starts) r.maps (omega (arith, have.len, later_len, starts_len, some)) (λ k below.
    let up = (seds_up r).above k (omega (arith, below, length-append (drop 1 starts) (main_len ∷ []))) in
    let at = get_or_append_left (drop 1 starts) (main_len ∷ []) 0 k below in
    omega (arith, up, at)) in
    record {
      starts = sym (ap (starts_from 0) same ∙ (by ∙ first_of starts (omega (arith, starts_len, some)) first));
      properties = record {
        len = omega (arith, ap length same, length-zip lasts r.maps many, lasts_len);
        each = λ k sed section here there.
            let entry : slice_get (zip lasts r.maps) k ≡ Some section = ap (λ l. slice_get l k) (sym same) ∙ there in
            let map_here = zip_at lasts r.maps k section entry in
            let fc : section_fc sections k ≡ sed.sepx = index_of_get (λ (x : Sed). x.sepx) sections k sed here in
            subst (λ n. HasPropertiesAt r.text.wd n section.1) fc (properties_at r are k section.1 map_here);
      };
    }
