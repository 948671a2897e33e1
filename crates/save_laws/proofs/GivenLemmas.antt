-- The places of the text of a file represent the document that it holds.
use Rattle.std.specs.Prelude.{slice_get, slice_index, is_some, ℕ, List}
use Rattle.std.specs.Option.{ForSome, unwrap_or}
use Rattle.std.proofs.Common.{◌≡◌, ◌⊎◌, ◌∙◌, ◌∷◌, ◌+◌, ◌-◌, ◌<◌, ◌≤◌, [], refl, sym, ap, subst, inl, inr, zero}
use Rattle.std.proofs.Common.{suc, Bool, true, false, Option, Some, None, length, take, arith}
use Rattle.std.proofs.lemmas.Bool.{cases_lt, cases_eq, eq-eqb}
use Rattle.std.proofs.lemmas.Option.{slice_get_within, get_or_from_slice_get, same_Some, none-some}
use Rattle.std.proofs.lemmas.List.{get_or-map}
use Rattle.std.proofs.Math.Seq.{take-nil}
use Rattle.doc_bits.proofs.Public.{there_is, slice_get_before, from_behind}
use Rattle.doc_bits.specs.Number.{u16_at}
use Rattle.doc_bits.specs.Rules.{Hold, Nowhere}
use Rattle.prop_map.specs.Settings.{Properties}
use Rattle.prop_map.specs.declared.modifiers.Modifier.{Modifier}
use Rattle.fib_form.specs.FibFields.{fib_fields, text_length}
use Rattle.fib_form.specs.declared.stories.StoryKind.TheVariants.{Main, Notes, Heads}
use Rattle.fkp_pages.specs.declared.kind.PageKind.TheVariants.{Chpx, Papx}
use Rattle.direct_props.specs.PageRules.{IsValidPlace}
use Rattle.direct_props.proofs.Public.{right_places_have_lists}
use Rattle.piece_table.specs.Piece.{UnitPlace, flat_pieces}
use Rattle.piece_table.specs.Clx.{IsClx}
use Rattle.text_codes.specs.Paragraph.{is_paragraph_end}
use Rattle.doc_model.specs.declared.item.Item.{Item}
use Rattle.doc_model.specs.declared.item.Mark.{Mark}
use Rattle.doc_model.specs.declared.document.Document.{Document}
use Rattle.doc_model.specs.Collected.{joined_texts}
use Rattle.file_rules.specs.Source.{story_begin, story_length, DocSource}
use Rattle.file_rules.specs.Units.{unit_at}
use Rattle.file_rules.specs.EndRules.{last_text_end, IsLooseUnit, HasLooseUnit}
use Rattle.file_rules.specs.FormatRules.{text_count}
use Rattle.file_rules.specs.PartRules.{PartLists, HasPartLists, part_rules}
use Rattle.file_rules.specs.FileRules.{FileText, doc_source_of, clx_of, table_rules}
use Rattle.file_rules.proofs.Public.{place_stands}
use Rattle.doc_read.specs.Items.{TextParts, IsDirectMarkAt, IsItemAt, HoldsItems, HoldsTexts}
use Rattle.doc_read.specs.Texts.{AreCutsWithin}
use Rattle.doc_read.proofs.Public.{TextFits, parts_of, RightText, character_place, mark_place}
use Rattle.doc_read.specs.Holds.{head_texts}
use Rattle.save_laws.specs.Places.{PagedStream, given_of, GivesMark, StandsInside, GivesAt, IsMarkedAfter}
use Rattle.save_laws.specs.GivenFiles.{paged_stream_of}
use Rattle.save_laws.specs.Slots.{Slot, shown, loose, ReadsAfter, IsPlaceForSlot}
use Rattle.doc_model.proofs.Public.{length-joined, next_joined}

-- a text that was read, with what was read of it
pub record ReadText : Type 0 where
  pub text : FileText
  pub lists : PartLists
  pub maps : List Properties
  pub document : Document
  pub table : Hold (table_rules text.wd text.table)
  pub parts_hold : Hold (part_rules (doc_source_of text))
  pub clx : IsClx (clx_of text.wd text.table) text.pieces
  pub fits : TextFits text.wd text.pieces
  pub has : HasPartLists (doc_source_of text) lists
  pub main : HoldsItems (parts_of text lists maps) 0 (story_length (doc_source_of text) Main) document.main
  pub notes :
      HoldsTexts (parts_of text lists maps) (story_begin (doc_source_of text) Notes) lists.notes (length lists.notes -
      1)
      document.notes
  pub heads :
      HoldsTexts (parts_of text lists maps) (story_begin (doc_source_of text) Heads) lists.heads (head_texts lists)
      document.heads
  pub each :
      (cp : ℕ) → cp < text_count (doc_source_of text) → (item : Item) × IsItemAt (parts_of text lists maps) cp item

abbrev pub the_text : ReadText → DocSource
the_text r = doc_source_of r.text

abbrev pub read_parts : ReadText → TextParts
read_parts r = parts_of r.text r.lists r.maps

abbrev pub read_places : ReadText → List UnitPlace
read_places r = flat_pieces r.text.pieces

abbrev pub read_stream : ReadText → PagedStream
read_stream r = paged_stream_of (doc_source_of r.text)

-- ---- each place is in the stream

pub place_given : (r : ReadText) (cp : ℕ) (place : UnitPlace) → slice_get (read_places r) cp ≡ Some place →
    StandsInside (read_stream r) place.at place.wide
place_given r cp place here =
    let wd = r.text.wd in
    let by = place_stands wd r.text.table (text_length (fib_fields wd).ccps) r.text.pieces r.table r.clx cp place
    here in
    record { behind_fib = by.0; inside = by.1 }

-- the text, of which the rules on the parts hold
abbrev right_text : ReadText → RightText
right_text r = record { text = r.text; lists = r.lists; hold = r.parts_hold; has = r.has }

-- ---- an item that is read at a CP is shown there

-- what a place gives to a mark, before the modifier
record IsMarkGiven (stream : PagedStream) (at : ℕ) (modifier : Modifier) (mark : Option Mark) : Type 0 where
  before : Option Mark
  gives : ForSome before (GivesMark stream at)
  after : IsMarkedAfter modifier before mark

mark_given : (stream : PagedStream) (at : ℕ) (modifier : Modifier) (ends : Bool) (mark : Option Mark) →
    IsDirectMarkAt ends stream.wd stream.paragraphs at modifier mark →
    (ends ≡ true → IsValidPlace Papx stream.wd stream.paragraphs at) → IsMarkGiven stream at modifier mark
mark_given stream at modifier true None is right = absurd is
mark_given stream at modifier false (Some mark) is right = absurd is
mark_given stream at modifier false None is right =
    record { before = None; gives = λ mark here. absurd (none-some mark here); after = tt }
mark_given stream at modifier true (Some mark) is right =
    let before : Mark = record { istd = unwrap_or is.style (u16_at is.list 0); pap = is.made } in
    let given : GivesMark stream at before = record {
      list = is.list;
      has = right_places_have_lists Papx stream.wd stream.paragraphs at is.list (right refl) is.has;
      style = is.style;
      makes = is.makes;
      style_is = refl;
    } in
    record {
      before = Some before;
      gives = λ mark here. subst (GivesMark stream at) (same_Some before mark here) given;
      after = (is.style_is, is.modified);
    }

-- the slot is at a CP
abbrev pub StandsAt : ReadText → ℕ → Slot → Type 0
StandsAt r cp slot =
    (place : UnitPlace) → slice_get (read_places r) cp ≡ Some place →
    IsPlaceForSlot (StandsInside (read_stream r)) (GivesAt (read_stream r)) place slot

pub item_shown : (r : ReadText) (cp : ℕ) (item : Item) → cp < text_count (the_text r) →
    IsItemAt (read_parts r) cp item →
    StandsAt r cp (shown item)
item_shown r cp item below is place here =
    let stream = read_stream r in
    let same : is.place ≡ place = same_Some is.place place (sym is.here ∙ here) in
    let own : slice_get (read_places r) cp ≡ Some is.place = is.here in
    let characters = is.characters in
    let mark =
    mark_given stream is.place.at is.place.modifier (is_paragraph_end item.unit (is_some item.sect)) item.mark is.mark
    (mark_place (right_text r) r.maps cp is.place item below own is.unit is.section) in
    let read : ReadsAfter (GivesAt stream) is.place (given_of item) = record {
      before = record { unit = item.unit; chp = characters.made; mark = mark.before };
      gives = record {
        stands = place_given r cp is.place own;
        unit = is.unit;
        characters = record {
          list = characters.list;
          has =
              right_places_have_lists Chpx stream.wd stream.characters is.place.at characters.list
              (character_place (right_text r) cp is.place below own) characters.has;
          style = characters.style;
          makes = characters.makes;
        };
        mark = mark.gives;
      };
      after = record { unit = refl; characters = characters.modified; mark = mark.after };
    } in
    subst (λ p. ReadsAfter (GivesAt stream) p (given_of item)) same read

-- ---- a paragraph mark behind a story

mark_some : (modifier : Modifier) (before mark : Option Mark) → IsMarkedAfter modifier before mark →
    is_some mark ≡ true → is_some before ≡ true
mark_some modifier None None after some = some
mark_some modifier None (Some mark) after some = absurd after
mark_some modifier (Some before) mark after some = refl

mark_there : (wd bin : List ℕ) (fc : ℕ) (modifier : Modifier) (ends : Bool) (mark : Option Mark) →
    IsDirectMarkAt ends wd bin fc modifier mark → ends ≡ true → is_some mark ≡ true
mark_there wd bin fc modifier true (Some mark) is yes_ends = refl
mark_there wd bin fc modifier true None is yes_ends = absurd is
mark_there wd bin fc modifier false mark is yes_ends = absurd (cc (yes_ends))

end_unit : (unit : ℕ) (section : Bool) → unit ≡ 0x0D → is_paragraph_end unit section ≡ true
end_unit unit section e = rw (eq-eqb unit 0x0D e) refl

pub mark_loose : (r : ReadText) (cp : ℕ) → cp < text_count (the_text r) →
    slice_index (the_text r).text.units cp ≡ 0x0D → StandsAt r cp loose
mark_loose r cp below unit place here =
    let stream = read_stream r in
    let found = r.each cp below in
    let item = found.0 in
    let is = found.1 in
    let read = item_shown r cp item below is place here in
    let inside = slice_get_within (read_places r) cp place here in
    let at : slice_index (the_text r).text.units cp ≡ unit_at r.text.wd place =
    get_or-map (unit_at r.text.wd) (read_places r) cp place 0 inside
    ∙ ap (unit_at r.text.wd) (get_or_from_slice_get (read_places r) cp place place here) in
    let given_unit : read.before.unit ≡ 0x0D = read.gives.unit ∙ (sym at ∙ unit) in
    let item_unit : item.unit ≡ 0x0D = read.after.unit ∙ given_unit in
    let marked = mark_there r.text.wd (read_stream r).paragraphs is.place.at is.place.modifier
    (is_paragraph_end item.unit (is_some item.sect)) item.mark is.mark
    (end_unit item.unit (is_some item.sect) item_unit) in
    record {
      given = read.before;
      unit = given_unit;
      marked = mark_some place.modifier read.before.mark item.mark read.after.mark marked;
      gives = read.gives;
    }

-- ---- texts and their cuts

-- cuts that begin with 0 count the items before each text
pub cuts_count : (parts : TextParts) (begin count len : ℕ) (cuts : List ℕ) (texts : List (List Item)) →
    HoldsTexts parts begin cuts count texts → AreCutsWithin begin cuts len → slice_index cuts 0 ≡ 0 →
    (k : ℕ) → k < length cuts → k ≤ length texts →
    slice_index cuts k ≡ length (joined_texts (take k texts))
cuts_count parts begin count len cuts texts holds within first zero below most = first
cuts_count parts begin count len cuts texts holds within first (suc k) below most =
    let found = there_is texts k (omega (arith, most)) in
    let next : k + 1 ≡ suc k = omega arith in
    let before =
    cuts_count parts begin count len cuts texts holds within first k (omega (arith, below)) (omega (arith, most)) in
    let held = holds.there k found.0 found.1 (omega (arith, below)) in
    let order = within.order k (omega (arith, below)) in
    let more = next_joined texts k found.0 found.1 in
    subst (λ n. slice_index cuts n ≡ length (joined_texts (take n texts))) next
    (omega (arith, before, held.len, order, more))

-- texts from a number on that are empty add nothing
rest_empty : (texts : List (List Item)) (k : ℕ) →
    ((i : ℕ) (text : List Item) → slice_get texts i ≡ Some text → k ≤ i → text ≡ []) →
    length (joined_texts (take k texts)) ≡ length (joined_texts texts)
rest_empty [] k empty =
    let none : List (List Item) = [] in
    let e : take k none ≡ none = take-nil k in ap (λ l. length (joined_texts l)) e
rest_empty (text ∷ texts) zero empty =
    let first = ap length (empty zero text refl (omega arith)) in
    let rest = rest_empty texts zero (λ i t here low. empty (suc i) t here (omega arith)) in
    let len = length-joined text texts in
    omega (arith, first, rest, len)
rest_empty (text ∷ texts) (suc k) empty =
    let rest = rest_empty texts k (λ i t here low. empty (suc i) t here (omega (arith, low))) in
    let len = length-joined text texts in
    let front = length-joined text (take k texts) in
    omega (arith, rest, len, front)

pub end_count : (parts : TextParts) (begin count len : ℕ) (cuts : List ℕ) (texts : List (List Item)) →
    HoldsTexts parts begin cuts count texts → AreCutsWithin begin cuts len → slice_index cuts 0 ≡ 0 →
    length cuts ≤ count + 1 → last_text_end cuts ≡ length (joined_texts texts)
end_count parts begin count len cuts texts holds within first few = elim (cases_lt 0 (length cuts)) [
  | inl some ↦
      let k : ℕ = length cuts - 1 in
      let many = holds.len in
      cuts_count parts begin count len cuts texts holds within first k (omega (arith, some))
      (omega (arith, some, few, many))
      ∙ rest_empty texts k (λ i text here low. holds.missing i text here (omega (arith, some, low)))
  | inr none ↦
      let at : length cuts - 1 ≡ 0 = omega (arith, none) in
      let rest = rest_empty texts 0 (λ i text here low. holds.missing i text here (omega (arith, none))) in
      ap (slice_index cuts) at ∙ (first ∙ rest)
]

-- where an item of joined texts is
record IsInText (texts : List (List Item)) (i : ℕ) (item : Item) : Type 0 where
  number : ℕ
  text : List Item
  there : slice_get texts number ≡ Some text
  place : ℕ
  here : slice_get text place ≡ Some item
  at : i ≡ length (joined_texts (take number texts)) + place

in_text : (texts : List (List Item)) (i : ℕ) (item : Item) → slice_get (joined_texts texts) i ≡ Some item →
    IsInText texts i item
in_text [] i item here = absurd (none-some item here)
in_text (text ∷ texts) i item here = elim (cases_lt i (length text)) [
  | inl low ↦ record {
    number = zero;
    text = text;
    there = refl;
    place = i;
    here = sym (slice_get_before text (joined_texts texts) i low) ∙ here;
    at = let e : i ≡ 0 + i = omega arith in e;
  }
  | inr high ↦
      let n : ℕ = i - length text in
      let e : i ≡ length text + n = omega (arith, high) in
      let later : slice_get (joined_texts texts) n ≡ Some item =
      sym (from_behind text (joined_texts texts) n) ∙ (ap (slice_get (joined_texts (text ∷ texts))) (sym e) ∙ here) in
      let found = in_text texts n item later in
      let len = length-joined text (take found.number texts) in
      record {
        number = suc found.number;
        text = found.text;
        there = found.there;
        place = found.place;
        here = found.here;
        at = omega (arith, e, found.at, len);
      }
]

-- each item of a story's texts is shown at its CP
pub texts_shown : (r : ReadText) (begin count len : ℕ) (cuts : List ℕ) (texts : List (List Item)) →
    HoldsTexts (read_parts r) begin cuts count texts → AreCutsWithin begin cuts (text_count (the_text r)) →
    slice_index cuts 0 ≡ 0 → (i : ℕ) (item : Item) → slice_get (joined_texts texts) i ≡ Some item →
    StandsAt r (begin + i) (shown item)
texts_shown r begin count len cuts texts holds within first i item here =
    let found = in_text texts i item here in
    let k = found.number in
    let inside = slice_get_within found.text found.place item found.here in
    let k_below = slice_get_within texts k found.text found.there in
    elim (cases_lt (k + 1) (length cuts)) [
      | inl more ↦
          let held = holds.there k found.text found.there more in
          let order = within.order k more in
          let last = within.within (k + 1) more in
          let cut = cuts_count (read_parts r) begin count (text_count (the_text r)) cuts texts holds within first k
          (omega (arith, more)) (omega (arith, k_below)) in
          let at : begin + slice_index cuts k + found.place ≡ begin + i = omega (arith, cut, found.at) in
          item_shown r (begin + i) item (omega (arith, at, inside, held.len, order, last))
          (subst (λ cp. IsItemAt (read_parts r) cp item) at (held.each found.place item found.here))
      | inr past ↦
          let empty = ap length (holds.missing k found.text found.there past) in
          absurd (omega (arith, empty, inside))
    ]

-- ---- the ends of stories

-- behind the last text is nothing, or a paragraph mark
pub end_or_mark : (places story : List ℕ) (end : ℕ) → Nowhere (HasLooseUnit places story end) → end ≤ length story →
    (length story ≡ end) ⊎ ((length story ≡ end + 1) × (slice_index story end ≡ 0x0D))
end_or_mark places story end none within = elim (cases_lt end (length story)) [
  | inr past ↦ inl (omega (arith, past, within))
  | inl some ↦ elim (cases_eq (slice_index story end) 0x0D) [
    | inr other ↦
        let loose_unit : IsLooseUnit story end end =
        record { after = omega arith; within = some; other = λ both. other both.1 } in
        absurd (none (slice_index places end) (record {
          cp = end;
          first = record { broken = loose_unit; least = λ p w. w.after };
          here = refl;
        }))
    | inl mark ↦ elim (cases_lt (end + 1) (length story)) [
      | inr past ↦ inr (omega (arith, past, some), mark)
      | inl more ↦
          let cp : ℕ = end + 1 in
          let loose_unit : IsLooseUnit story end cp = record {
            after = omega arith;
            within = more;
            other = λ both. omega (arith, both.0);
          } in
          absurd (none (slice_index places cp) (record {
            cp = cp;
            first = record {
              broken = loose_unit;
              least = λ p w. elim (cases_eq p end) [
                | inl same ↦ absurd (w.other (same, ap (slice_index story) same ∙ mark))
                | inr differ ↦ let after = w.after in omega (arith, after, differ)
              ];
            };
            here = refl;
          }))
    ]
  ]
]
