-- The whole text of a file is together with the slots of its document.
use Rattle.std.specs.Prelude.{slice_get, slice_index, ℕ, List}
use Rattle.std.proofs.Common.{◌≡◌, ◌∙◌, ◌++◌, ◌∷◌, ◌+◌, ◌-◌, ◌*◌, ◌/◌, ◌<◌, ◌≤◌, [], refl, sym, ap, subst, inl, inr}
use Rattle.std.proofs.Common.{zero, suc, Bool, true, false, Some, length, map, arith}
use Rattle.std.proofs.lemmas.Bool.{cases_lt}
use Rattle.std.proofs.lemmas.Option.{slice_get_within, same_Some, none-some}
use Rattle.std.proofs.lemmas.List.{length-map}
use Rattle.doc_bits.proofs.Public.{from_map, length-range, slice_get_before, range_index, from_behind}
use Rattle.doc_bits.specs.Rules.{Nowhere}
use Rattle.doc_bits.specs.declared.places.Where.TheVariants.{Wd, Table}
use Rattle.fib_form.specs.FibFields.{fib_fields, text_length}
use Rattle.fib_form.specs.declared.table_parts.TablePart.TheVariants.{PlcffndTxt, PlcfHdd}
use Rattle.fib_form.specs.declared.stories.StoryKind.{StoryKind}
use Rattle.fib_form.specs.declared.stories.StoryKind.TheVariants.{Main, Notes, Heads}
use Rattle.fib_form.proofs.Public.{sum-three}
use Rattle.piece_table.specs.Piece.{flat_pieces}
use Rattle.doc_parts.specs.Stories.{AreCuts}
use Rattle.doc_model.specs.declared.item.Item.{Item}
use Rattle.doc_model.specs.Collected.{joined_texts}
use Rattle.file_rules.specs.Source.{story_begin, table_part_bytes, part_place, story_length, story_units, story_places}
use Rattle.file_rules.specs.Units.{unit_at}
use Rattle.file_rules.specs.EndRules.{last_text_end, HasLooseUnit, BreaksEnds}
use Rattle.file_rules.specs.HeadRules.{IsHeadTable}
use Rattle.file_rules.specs.FormatRules.{text_count}
use Rattle.file_rules.specs.FileRules.{doc_source_of}
use Rattle.file_rules.proofs.Public.{sections_one, notes_one, heads_one}
use Rattle.doc_read.specs.Texts.{AreCutsWithin}
use Rattle.doc_read.specs.Items.{HoldsTexts}
use Rattle.doc_read.specs.Holds.{head_texts}
use Rattle.doc_read.proofs.Public.{notes_within, heads_within, cuts_within, note_cuts_within}
use Rattle.save_laws.specs.GivenFiles.{StandsTogether}
use Rattle.save_laws.specs.Slots.{note_slots, head_slots, story_counts, Slot, shown, loose, last, StoryEnds, loose_if}
use Rattle.save_laws.specs.Slots.{story_slots, last_slots, document_slots}
use Rattle.save_laws.proofs.SlotLemmas.{length-story_slots, length-whole}
use Rattle.save_laws.proofs.GivenLemmas.{ReadText, read_parts, place_given, StandsAt, item_shown, mark_loose}
use Rattle.save_laws.proofs.GivenLemmas.{end_count, texts_shown, end_or_mark}

-- slots that are from a CP on
abbrev AllStand : ReadText → ℕ → List Slot → Type 0
AllStand r from slots = (i : ℕ) (slot : Slot) → slice_get slots i ≡ Some slot → StandsAt r (from + i) slot

stand_joined : (r : ReadText) (from : ℕ) (xs ys : List Slot) → AllStand r from xs → AllStand r (from + length xs) ys →
    AllStand r from (xs ++ ys)
stand_joined r from xs ys first next i slot here = elim (cases_lt i (length xs)) [
  | inl low ↦ first i slot (sym (slice_get_before xs ys i low) ∙ here)
  | inr high ↦
      let n : ℕ = i - length xs in
      let e : length xs + n ≡ i = omega (arith, high) in
      let at : from + length xs + n ≡ from + i = omega (arith, e) in
      let there : slice_get ys n ≡ Some slot = sym (from_behind xs ys n) ∙ (ap (slice_get (xs ++ ys)) e ∙ here) in
      subst (λ cp. StandsAt r cp slot) at (next n slot there)
]

stand_items : (r : ReadText) (from : ℕ) (items : List Item) →
    ((i : ℕ) (item : Item) → slice_get items i ≡ Some item → StandsAt r (from + i) (shown item)) →
    AllStand r from (map shown items)
stand_items r from items each i slot here =
    let found = from_map shown items i slot here in
    subst (StandsAt r (from + i)) found.1.1 (each i found.0 found.1.0)

stand_one : (r : ReadText) (from : ℕ) (slot : Slot) → StandsAt r from slot → AllStand r from (slot ∷ [])
stand_one r from slot stands zero other here =
    let at : from ≡ from + zero = omega arith in
    subst (λ cp. StandsAt r cp other) at (subst (StandsAt r from) (same_Some slot other here) stands)
stand_one r from slot stands (suc i) other here = absurd (none-some other here)

stand_none : (r : ReadText) (from : ℕ) → AllStand r from []
stand_none r from i slot here = absurd (none-some slot here)

stand_last : (r : ReadText) (from : ℕ) (slots : List Slot) → AllStand r from (last_slots slots)
stand_last r from [] = stand_none r from
stand_last r from (slot ∷ slots) = stand_one r from last (λ place here. place_given r from place here)

-- ---- a story of texts

-- whether a mark is behind the texts of a story
record HasEnd (r : ReadText) (begin len : ℕ) (texts : List (List Item)) : Type 0 where
  end : Bool
  len_is : len ≡ length (story_slots texts end)
  stands : AllStand r (begin + length (joined_texts texts)) (loose_if end)

story_unit_at : (r : ReadText) (story : StoryKind) (i : ℕ) → i < story_length (doc_source_of r.text) story →
    slice_index (story_units (doc_source_of r.text) story) i
    ≡ slice_index (doc_source_of r.text).text.units (story_begin (doc_source_of r.text) story + i)
story_unit_at r story i below =
    let source = doc_source_of r.text in
    let begin = story_begin source story in
    range_index source.text.units begin (begin + story_length source story) i (omega (arith, below))

enough : (r : ReadText) → text_count (doc_source_of r.text) ≤ length (doc_source_of r.text).text.units
enough r =
    let source = doc_source_of r.text in
    let total = r.fits.total in
    let units = length-map (flat_pieces r.text.pieces) (unit_at r.text.wd) in
    let counted = sum-three (fib_fields r.text.wd).ccps refl in
    omega (arith, total, units, counted)

within_text : (r : ReadText) (story : StoryKind) →
    story_begin (doc_source_of r.text) story + story_length (doc_source_of r.text) story ≤ text_count (doc_source_of
    r.text)
within_text r Main = omega arith
within_text r Notes = omega arith
within_text r Heads = omega arith

length-story : (r : ReadText) (story : StoryKind) →
    length (story_units (doc_source_of r.text) story) ≡ story_length (doc_source_of r.text) story
length-story r story =
    let source = doc_source_of r.text in
    let begin = story_begin source story in
    let len = story_length source story in
    let range = length-range source.text.units begin (begin + len) (omega (arith, within_text r story, enough r)) in
    omega (arith, range)

end_of : (r : ReadText) (story : StoryKind) (texts : List (List Item)) (cuts : List ℕ) →
    last_text_end cuts ≡ length (joined_texts texts) → last_text_end cuts ≤ story_length (doc_source_of r.text) story →
    Nowhere
    (HasLooseUnit (story_places (doc_source_of r.text) story) (story_units (doc_source_of r.text) story) (last_text_end
    cuts)) →
    HasEnd r (story_begin (doc_source_of r.text) story) (story_length (doc_source_of r.text) story) texts
end_of r story texts cuts count most none =
    let source = doc_source_of r.text in
    let begin = story_begin source story in
    let long = length-story r story in
    elim (end_or_mark (story_places source story) (story_units source story) (last_text_end cuts) none
    (omega (arith, most, long))) [
      | inl ends ↦
          let len = length-story_slots texts false in
          record {
            end = false;
            len_is = omega (arith, ends, long, count, len);
            stands = stand_none r (begin + length (joined_texts texts));
          }
      | inr mark ↦
          let len = length-story_slots texts true in
          let i = length (joined_texts texts) in
          let below : i < story_length source story = omega (arith, mark.0, long, count) in
          let unit : slice_index source.text.units (begin + i) ≡ 0x0D =
          sym (story_unit_at r story i below) ∙ (ap (slice_index (story_units source story)) (sym count) ∙ mark.1) in
          record {
            end = true;
            len_is = omega (arith, mark.0, long, count, len);
            stands = stand_one r (begin + i) loose
                (mark_loose r (begin + i) (omega (arith, below, within_text r story)) unit);
          }
    ]

-- ---- cuts

first_zero : (plc : List ℕ) (len : ℕ) (cuts : List ℕ) → AreCuts plc len cuts → slice_index cuts 0 ≡ 0
first_zero plc len [] are = refl
first_zero plc len (cut ∷ cuts) are = (are.leading.in_order 0 (omega arith)).begin refl refl

note_zero : (r : ReadText) → slice_index r.lists.notes 0 ≡ 0
note_zero r = elim r.has.has_notes [
  | inl some ↦
      first_zero (table_part_bytes (doc_source_of r.text) PlcffndTxt) (story_length (doc_source_of r.text) Notes)
      r.lists.notes some.1
  | inr none ↦ ap (λ l. slice_index l 0) none.1
]

head_zero : (r : ReadText) → slice_index r.lists.heads 0 ≡ 0
head_zero r =
    first_zero (table_part_bytes (doc_source_of r.text) PlcfHdd)
    (story_length (doc_source_of r.text) Heads) r.lists.heads r.has.has_heads

last_within : (cuts : List ℕ) (len : ℕ) → AreCutsWithin 0 cuts len → last_text_end cuts ≤ len
last_within [] len within = omega arith
last_within (cut ∷ cuts) len within =
    let last_cut = within.within (length (cut ∷ cuts) - 1) (omega arith) in omega (arith, last_cut)

-- a file has no more cuts of header texts than their number and one
few_by : (bytes : List ℕ) (sections count : ℕ) → count ≡ (length bytes - 4) / 4 →
    ¬ ¬ (IsHeadTable (length bytes) sections) →
    count ≤ 6 + 6 * sections + 1
few_by bytes sections count is wrong = elim (cases_lt (6 + 6 * sections + 1) count) [
  | inr few ↦ few
  | inl many ↦ absurd (wrong (λ table. elim table [
    | inl empty ↦ omega (arith, empty, is, many)
    | inr head ↦ let cps = head.cps in let most = head.most in omega (arith, cps, most, is, many)
  ]))
]

few_heads : (r : ReadText) → length r.lists.heads ≤ head_texts r.lists + 1
few_heads r =
    let source = doc_source_of r.text in
    let heads = r.parts_hold.1.1.1.1.1.0 in
    let same = sections_one source heads.0 r.lists.sections heads.1.0 r.has.has_sections in
    let bytes = table_part_bytes source PlcfHdd in
    let many : length heads.0 ≡ length r.lists.sections = ap length same in
    let few = few_by bytes (length heads.0) (length r.lists.heads) r.has.has_heads.all
    (λ wrong. heads.1.1 (Table, part_place source PlcfHdd) (refl, inl (refl, wrong))) in
    omega (arith, few, many)

ends_none : (r : ReadText) → Nowhere (BreaksEnds (doc_source_of r.text) r.lists.notes r.lists.heads)
ends_none r place broken =
    let source = doc_source_of r.text in
    let ends = r.parts_hold.1.1.1.1.1.1.0 in
    let notes = notes_one source ends.0 r.lists.notes ends.1.0 r.has.has_notes in
    let heads = heads_one source ends.1.1.0 r.lists.heads ends.1.1.1.0 r.has.has_heads in
    ends.1.1.1.1 (Wd, place) (
      refl,
      subst (λ n. BreaksEnds source n ends.1.1.0 place) (sym notes)
          (subst (λ h. BreaksEnds source r.lists.notes h place) (sym heads) broken),
    )

-- ---- the notes and the header texts

-- what holds of a story
record IsStory (r : ReadText) (story : StoryKind) (texts : List (List Item)) : Type 0 where
  end : Bool
  len : story_length (doc_source_of r.text) story ≡ length (story_slots texts end)
  stands : AllStand r (story_begin (doc_source_of r.text) story) (story_slots texts end)

story_of : (r : ReadText) (story : StoryKind) (texts : List (List Item)) (cuts : List ℕ) (count : ℕ) →
    HoldsTexts (read_parts r) (story_begin (doc_source_of r.text) story) cuts count texts →
    AreCutsWithin (story_begin (doc_source_of r.text) story) cuts (text_count (doc_source_of r.text)) →
    AreCutsWithin 0 cuts (story_length (doc_source_of r.text) story) → slice_index cuts 0 ≡ 0 → length cuts ≤ count + 1
    →
    Nowhere
    (HasLooseUnit (story_places (doc_source_of r.text) story) (story_units (doc_source_of r.text) story) (last_text_end
    cuts)) →
    IsStory r story texts
story_of r story texts cuts count holds within own first few none =
    let source = doc_source_of r.text in
    let begin = story_begin source story in
    let number = end_count (read_parts r) begin count (text_count source) cuts texts holds within first few in
    let found = end_of r story texts cuts number (last_within cuts (story_length source story) own) none in
    let items = joined_texts texts in
    let len = length-map items shown in
    let at : begin + length items ≡ begin + length (map shown items) = omega (arith, len) in
    record {
      end = found.end;
      len = found.len_is;
      stands =
          stand_joined r begin (map shown items) (loose_if found.end)
          (stand_items r begin items (texts_shown r begin count (text_count source) cuts texts holds within first))
          (subst (λ n. AllStand r n (loose_if found.end)) at found.stands);
    }

note_story : (r : ReadText) → IsStory r Notes r.document.notes
note_story r =
    let source = doc_source_of r.text in
    story_of r Notes r.document.notes r.lists.notes (length r.lists.notes - 1) r.notes
    (notes_within source r.lists (text_count source) r.has refl)
    (note_cuts_within source 0 (story_length source Notes) r.lists.notes r.has.has_notes (omega arith)) (note_zero r)
    (omega arith) (λ place broken. ends_none r place (inl broken))

head_story : (r : ReadText) → IsStory r Heads r.document.heads
head_story r =
    let source = doc_source_of r.text in
    story_of r Heads r.document.heads r.lists.heads (head_texts r.lists) r.heads
    (heads_within source r.lists (text_count source) r.has refl)
    (cuts_within (table_part_bytes source PlcfHdd) (story_length source Heads) 0 (story_length source Heads)
    r.lists.heads
    r.has.has_heads (omega arith)) (head_zero r) (few_heads r) (λ place broken. ends_none r place (inr broken))

-- ---- the whole text

main_stands : (r : ReadText) → AllStand r 0 (map shown r.document.main)
main_stands r =
    stand_items r 0 r.document.main (λ i item here.
    let within = slice_get_within r.document.main i item here in
    let len = r.main.len in
    item_shown r (0 + i) item (omega (arith, within, len)) (r.main.each i item here))

whole_stands : (r : ReadText) (ends : StoryEnds) →
    story_length (doc_source_of r.text) Main ≡ length r.document.main →
    story_length (doc_source_of r.text) Notes ≡ length (note_slots r.document ends) →
    AllStand r (story_begin (doc_source_of r.text) Notes) (note_slots r.document ends) →
    AllStand r (story_begin (doc_source_of r.text) Heads) (head_slots r.document ends) →
    AllStand r 0 (document_slots r.document ends)
unfolding document_slots
whole_stands r ends main_is notes_are notes heads =
    let source = doc_source_of r.text in
    let main_slots : List Slot = map shown r.document.main in
    let note_list = note_slots r.document ends in
    let head_list = head_slots r.document ends in
    let rest = last_slots (note_list ++ head_list) in
    let len = length-map r.document.main shown in
    let a : story_begin source Notes ≡ 0 + length main_slots = omega (arith, main_is, len) in
    let b : story_begin source Heads ≡ 0 + length main_slots + length note_list =
    omega (arith, main_is, notes_are, len) in
    stand_joined r 0 main_slots (note_list ++ (head_list ++ rest)) (main_stands r)
    (stand_joined r (0 + length main_slots) note_list (head_list ++ rest)
    (subst (λ n. AllStand r n note_list) a notes)
    (stand_joined r (0 + length main_slots + length note_list) head_list rest
    (subst (λ n. AllStand r n head_list) b heads)
    (stand_last r (0 + length main_slots + length note_list + length head_list) (note_list ++ head_list))))

pub given_stands : (r : ReadText) → StandsTogether r.text r.document
given_stands r =
    let source = doc_source_of r.text in
    let note_is = note_story r in
    let head_is = head_story r in
    let ends : StoryEnds = record { notes = note_is.end; heads = head_is.end } in
    let main_len = r.main.len in
    let main_is : story_length source Main ≡ length r.document.main = omega (arith, main_len) in
    let all = whole_stands r ends main_is note_is.len note_is.stands head_is.stands in
    let counts : (fib_fields r.text.wd).ccps ≡ story_counts r.document ends =
    ap (λ n. n ∷ story_length source Notes ∷ story_length source Heads ∷ []) main_is
    ∙ (ap (λ n. length r.document.main ∷ n ∷ story_length source Heads ∷ []) note_is.len
    ∙ ap (λ n. length r.document.main ∷ length (note_slots r.document ends) ∷ n ∷ []) head_is.len) in
    record {
      ends = ends;
      counts = counts;
      together = record {
        len = r.fits.total ∙ (ap text_length counts ∙ sym (length-whole r.document ends));
        each = λ k place slot here there.
            let at : 0 + k ≡ k = omega arith in
            subst (λ cp. StandsAt r cp slot) at (all k slot there) place here;
      };
    }
