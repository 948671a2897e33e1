-- The CPs at which something is ascend.
use Rattle.std.proofs.Common.{◌≡◌, ◌∙◌, refl, sym, ap, subst, inl, inr, ℕ, ◌<◌, ◌≤◌, ◌+◌, ◌-◌, true, false}
use Rattle.std.proofs.Common.{List, [], ◌∷◌, ◌++◌, length, map, drop, arith, length-append, length-drop}
use Rattle.std.proofs.lemmas.Bool.{cases_lt}
use Rattle.std.proofs.lemmas.List.{length-map, map-append}
use Rattle.doc_bits.specs.declared.places.Where.TheVariants.{Table}
use Rattle.doc_bits.specs.Rules.{Hold}
use Rattle.doc_bits.proofs.Public.{map-map}
use Rattle.doc_parts.specs.declared.lists.Sed.{Sed}
use Rattle.doc_parts.specs.declared.lists.Fld.{Fld}
use Rattle.doc_parts.specs.declared.lists.NoteRef.{NoteRef}
use Rattle.doc_parts.specs.Cps.{AreCpsInOrder}
use Rattle.doc_parts.specs.Table.{plc_part}
use Rattle.doc_parts.specs.Fields.{fld_cps}
use Rattle.doc_parts.specs.Sections.{sed_cps, section_rules}
use Rattle.fib_form.specs.declared.table_parts.TablePart.TheVariants.{PlcfSed}
use Rattle.fib_form.specs.declared.stories.StoryKind.TheVariants.{Main, Notes, Heads}
use Rattle.file_rules.specs.Source.{DocSource, table_part_bytes, part_place, story_length}
use Rattle.file_rules.specs.SectionRules.{HasSections, rules_of_sections}
use Rattle.file_rules.specs.FormatRules.{section_ends}
use Rattle.file_rules.specs.PartRules.{PartLists, HasPartLists}
use Rattle.file_rules.proofs.Public.{hold_out}
use Rattle.doc_read.specs.Sections.{section_lasts}
use Rattle.doc_read.specs.Marked.{story_bytes, field_mark_bytes, note_kind, note_kind_entries}
use Rattle.doc_read.specs.Passing.{AreUp}
use Rattle.doc_read.proofs.UpLemmas.{IsUpWithin, up_in_order, up_shift, up_join, up_one, up_rest}

-- the CPs of the field characters of a story
story_cps : (begin : ℕ) (fields : List Fld) →
    map (λ cp. begin + cp) (map (λ fld. fld.cp) fields) ≡ map (λ entry. entry.0) (story_bytes begin fields)
story_cps begin fields =
    map-map (λ cp. begin + cp) (λ (fld : Fld). fld.cp) fields ∙ sym (map-map {C = ℕ} (λ (entry : ℕ × ℕ). entry.0)
    (λ (fld : Fld). (begin + fld.cp, fld.byte)) fields)

story_up : (begin len high : ℕ) (fields : List Fld) → begin + len ≤ high →
    AreCpsInOrder (fld_cps len) (map (λ fld. fld.cp) fields) →
    IsUpWithin begin high (map (λ entry. entry.0) (story_bytes begin fields))
story_up begin len high fields enough in_order =
    subst (λ l. IsUpWithin begin high l) (story_cps begin fields) (up_shift begin len high (map (λ fld. fld.cp)
    fields) enough (up_in_order false len (map (λ fld. fld.cp) fields) in_order))

-- the CPs of a list in three parts
pub three_parts : (f : ℕ × ℕ → ℕ) (xs ys zs : List (ℕ × ℕ)) →
    map f (xs ++ (ys ++ zs)) ≡ map f xs ++ (map f ys ++ map f zs)
three_parts f xs ys zs = map-append f xs (ys ++ zs) ∙ ap (λ l. map f xs ++ l) (map-append f ys zs)

pub fields_up : (source : DocSource) (lists : PartLists) → HasPartLists source lists →
    AreUp (map (λ entry. entry.0) (field_mark_bytes source lists))
fields_up source lists has =
    let one = story_length source Main in
    let two = story_length source Notes in
    let three = story_length source Heads in
    let main = story_up 0 one one lists.main_fields (omega arith) has.has_main_fields.leading.in_order in
    let notes = story_up one two (one + two) lists.note_fields (omega arith) has.has_note_fields.leading.in_order in
    let heads = story_up (one + two) three (one + two + three) lists.head_fields (omega arith)
    has.has_head_fields.leading.in_order in
    let rest = up_join one (one + two) (one + two + three) _ _ (omega arith) (omega arith) notes heads in
    let all = up_join 0 one (one + two + three) _ _ (omega arith) (omega arith) main rest in
    subst AreUp (sym (three_parts (λ entry. entry.0) (story_bytes 0 lists.main_fields) (story_bytes one
    lists.note_fields) (story_bytes (one + two) lists.head_fields))) all.up

-- those of the references to notes
pub note_cps_are : (refs : List NoteRef) → map (λ ref. ref.cp) refs ≡ map (λ entry. entry.0) (note_kind_entries refs)
note_cps_are refs = sym (map-map (λ entry. entry.0) (λ (ref : NoteRef). (ref.cp, note_kind ref.auto)) refs)

pub note_kinds_are : (refs : List NoteRef) →
    map (λ ref. note_kind ref.auto) refs ≡ map (λ entry. entry.1) (note_kind_entries refs)
note_kinds_are refs = sym (map-map (λ entry. entry.1) (λ (ref : NoteRef). (ref.cp, note_kind ref.auto)) refs)

pub notes_up : (source : DocSource) (lists : PartLists) → HasPartLists source lists →
    AreUp (map (λ entry. entry.0) (note_kind_entries lists.refs))
notes_up source lists has =
    let is =
    up_in_order false (story_length source Main) (map (λ ref. ref.cp) lists.refs) has.has_refs.leading.in_order in
    subst AreUp (note_cps_are lists.refs) is.up

-- a main text has a section
pub some_section : (source : DocSource) (sections : List Sed) → Hold (rules_of_sections source) →
    HasSections source sections → 1 ≤ length sections
some_section source sections h has =
    let plc = table_part_bytes source PlcfSed in
    let at = part_place source PlcfSed in
    let none_broken = hold_out Table (section_rules plc at (story_length source Main)) h.0 in
    let all = has.all in
    elim (cases_lt 0 (plc_part 12 plc).count) [
      | inl some ↦ omega (arith, some, all)
      | inr none ↦ absurd (none_broken at (inl (refl, λ is. let least = is.1 in omega (arith, least, none))))
    ]

-- the CPs before which a section ends
pub ends_up : (sections : List Sed) (main_len : ℕ) → 1 ≤ length sections →
    AreCpsInOrder (sed_cps main_len) (map (λ sed. sed.start) sections) →
    IsUpWithin 1 (main_len + 1) (section_ends sections main_len)
ends_up sections main_len some in_order =
    let starts = map (λ (sed : Sed). sed.start) sections in
    let is = up_in_order true main_len starts in_order in
    let there : 0 < length starts = omega (arith, length-map sections (λ (sed : Sed). sed.start)) in
    let first = is.below 0 there in
    up_join 1 main_len (main_len + 1) (drop 1 starts) (main_len ∷ []) (omega (arith, first)) (omega arith)
    (up_rest main_len starts is) (up_one main_len)

pub length-section_lasts : (sections : List Sed) (main_len : ℕ) → 1 ≤ length sections →
    length (section_lasts sections main_len) ≡ length sections
length-section_lasts sections main_len some =
    let starts = map (λ (sed : Sed). sed.start) sections in
    let one = length-map (section_ends sections main_len) (λ end. end - 1) in
    let two = length-append (drop 1 starts) (main_len ∷ []) in
    let three = length-drop 1 starts in
    let four = length-map sections (λ (sed : Sed). sed.start) in
    omega (arith, one, two, three, four)
