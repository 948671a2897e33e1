-- The paragraphs of a text, one after the other.
use Rattle.std.proofs.Common.{◌≡◌, inl, inr, ℕ, ◌+◌, ◌-◌, ◌<◌, ◌≤◌, true, false, not, List, [], ◌∷◌, length}
use Rattle.std.proofs.Common.{take, drop, get_or, Option, Some, None, refl, sym, ap, ◌∙◌, subst, arith, Bor}
use Rattle.std.proofs.Common.{length-drop, get_or-take, get_or-drop}
use Rattle.std.specs.Prelude.{slice_get, slice_range, is_some, IsSome, map}
use Rattle.std.specs.Option.{MatchOption}
use Rattle.std.proofs.lemmas.Bool.{cases_lt}
use Rattle.std.proofs.lemmas.List.{drop-drop, drop_all, length-take-le, take-take, take-map, drop-map}
use Rattle.std.proofs.lemmas.Option.{slice_get_within, slice_get-get_or, get_or_from_slice_get}
use Rattle.doc_bits.proofs.Public.{got_drop}
use Rattle.doc_model.specs.declared.item.Item.{Item}
use Rattle.doc_model.specs.declared.item.Mark.{Mark}
use Rattle.doc_model.specs.declared.document.Document.{Document}
use Rattle.doc_model.specs.Paragraphs.{IsParagraphEnd, HasNoParagraphEnd}
use Rattle.doc_model.specs.Settings.{is_inside}
use Rattle.plain_doc.specs.Sound.{IsSound}
use Rattle.doc_model.specs.Stretches.{stretches, joins_next, joins_at, BeginsStretch}
use Rattle.plain_doc.proofs.Public.{some_end, sound_is_valid}
use Rattle.doc_model.proofs.Public.{one_more, stretches-first, stretches-nil}
use Rattle.doc_columns.proofs.Public.{EndsAt}
use Rattle.list_numbers.specs.Places.{paragraphs, ParagraphEndsBefore}
use Rattle.list_numbers.specs.Outline.{bare_units}

-- a paragraph that ends at the last place before one ends before it
pub ends_before : (items : List Item) (at end : ℕ) (found : Option (Bor Mark)) →
    MatchOption found (HasNoParagraphEnd items at) (λ mark. EndsAt items at (end - 1) mark.now)
    → MatchOption found (HasNoParagraphEnd items at) (λ mark. ParagraphEndsBefore items at end mark.now)
ends_before items at end None none = none
ends_before items at end (Some mark) there =
    record { is_end = there.is_end; marked = record { item = there.item; here = there.here; has = there.has } }

-- a paragraph of the main text of a sound document ends with a mark
pub mark_there : (document : Document) (items : List Item) (at end : ℕ) (found : Option (Bor Mark)) → IsSound document →
    items ≡ document.main → at < length document.main →
    MatchOption found (HasNoParagraphEnd items at) (λ mark. ParagraphEndsBefore items at end mark.now) → IsSome found
mark_there document items at end None sound same low m =
    absurd (some_end document at (sound_is_valid document sound) low (subst (λ is. HasNoParagraphEnd is at) same m))
mark_there document items at end (Some mark) sound same low m = refl

pub mark_taken : (items : List Item) (at end : ℕ) (found : Option (Bor Mark)) (mark : Bor Mark) → found ≡ Some mark →
    MatchOption found (HasNoParagraphEnd items at) (λ mark. ParagraphEndsBefore items at end mark.now) →
    ParagraphEndsBefore items at end mark.now
mark_taken items at end found mark is m =
    subst (λ o. MatchOption o (HasNoParagraphEnd items at) (λ mark. ParagraphEndsBefore items at end mark.now)) is m

-- so its paragraph ends there
pub end_there : (document : Document) (items : List Item) (at end : ℕ) (found : Option (Bor Mark)) → IsSound document →
    items ≡ document.main → at < length document.main →
    MatchOption found (HasNoParagraphEnd items at) (λ mark. ParagraphEndsBefore items at end mark.now) →
    IsParagraphEnd document.main at (end - 1)
end_there document items at end None sound same low m =
    absurd (some_end document at (sound_is_valid document sound) low (subst (λ is. HasNoParagraphEnd is at) same m))
end_there document items at end (Some mark) sound same low m =
    subst (λ is. IsParagraphEnd is at (end - 1)) same m.is_end

-- ---- a paragraph is a stretch

not_ended : (items : List Item) (at end k : ℕ) (item : Item) → IsParagraphEnd items at end → at ≤ k → k < end →
    slice_get items k ≡ Some item → is_some item.mark ≡ false
not_ended items at end k item h after before there =
    elim (is_some item.mark) as (λ b. is_some item.mark ≡ b → is_some item.mark ≡ false) [
      | true ↦ λ e. absurd (let l = h.least k after (record { item = item; here = there; marked = e }) in omega arith)
      | false ↦ λ e. e
    ] refl

ends_here : (item : Item) (next : Option Item) → is_some item.mark ≡ true → joins_next is_inside (Some item) next ≡
    false
ends_here item None marked = refl
ends_here item (Some next) marked = ap not marked

-- what is in the rest of a text
in_rest : (items : List Item) (at k : ℕ) (d : Item) → at + k < length items →
    slice_get (drop at items) k ≡ Some (get_or items (at + k) d)
in_rest items at k d low =
    let within : k < length (drop at items) = omega (arith, length-drop at items) in
    slice_get-get_or (drop at items) k d within ∙ ap Some (get_or-drop at items k d)

pub begins_stretch : (items : List Item) (at end : ℕ) → IsParagraphEnd items at end →
    BeginsStretch is_inside (drop at items) (end + 1 - at)
begins_stretch items at end h =
    let after : at ≤ end = h.after in
    let last : Item = h.ends.item in
    let there = h.ends.here in
    let within : end < length items = slice_get_within items end last there in
    record {
      some = omega arith;
      within = omega (arith, length-drop at items);
      joined = λ k low.
          let x : Item = get_or items (at + k) last in
          let bare : is_some x.mark ≡ false = not_ended items at end (at + k) x h (omega arith) (omega arith)
          (slice_get-get_or items (at + k) last (omega arith)) in
          let next : Option Item = slice_get (drop at items) (k + 1) in
          ap (λ o. joins_next is_inside o next) (in_rest items at k last (omega arith))
          ∙ (ap (joins_next is_inside (Some x)) (in_rest items at (k + 1) last (omega arith)) ∙ ap not bare);
      ends =
          let e : end + 1 - at - 1 ≡ end - at = omega arith in
          let back : at + (end - at) ≡ end = omega arith in
          let next : Option Item = slice_get (drop at items) (end - at + 1) in
          let here : slice_get (drop at items) (end - at) ≡ Some last =
          in_rest items at (end - at) last (subst (λ n. n < length items) (sym back) within)
          ∙ (ap (λ n. Some (get_or items n last)) back ∙ ap Some (get_or_from_slice_get items end last last there)) in
          ap (joins_at is_inside (drop at items)) e ∙ (ap (λ o. joins_next is_inside o next) here
          ∙ ends_here last next h.ends.marked);
    }

-- ---- the paragraphs from a place on

-- the text from a place on has the paragraphs from one on
pub record BeginsParagraph (items : List Item) (at number : ℕ) : Type 0 where
  pub within : at ≤ length items
  pub rest : stretches is_inside (drop at items) ≡ drop number (paragraphs items)

pub first_begins : (items : List Item) → BeginsParagraph items 0 0
first_begins items = record { within = omega arith; rest = refl }

-- the items of the paragraph that begins there
abbrev pub paragraph_from : List Item → ℕ → ℕ → List Item
paragraph_from items at end = take (end + 1 - at) (drop at items)

cut_first : (items : List Item) (at number end : ℕ) → BeginsParagraph items at number → IsParagraphEnd items at end →
    drop number (paragraphs items) ≡ paragraph_from items at end ∷ stretches is_inside (drop (end + 1) items)
cut_first items at number end h ends =
    let after = ends.after in
    let e : at + (end + 1 - at) ≡ end + 1 = omega arith in
    let rest : drop (end + 1 - at) (drop at items) ≡ drop (end + 1) items = drop-drop (end + 1 - at) at items
    ∙ ap (λ n. drop n items) e in
    sym h.rest ∙ (stretches-first is_inside (drop at items) (end + 1 - at) (begins_stretch items at end ends)
    ∙ ap (λ l. paragraph_from items at end ∷ stretches is_inside l) rest)

pub paragraph_there : (items : List Item) (at number end : ℕ) → BeginsParagraph items at number →
    IsParagraphEnd items at end → slice_get (paragraphs items) number ≡ Some (paragraph_from items at end)
paragraph_there items at number end h ends =
    let here : slice_get (drop number (paragraphs items)) 0 ≡ Some (paragraph_from items at end) =
    ap (λ l. slice_get l 0) (cut_first items at number end h ends) in
    let e : number + 0 ≡ number = omega arith in
    subst (λ n. slice_get (paragraphs items) n ≡ Some (paragraph_from items at end)) e
    (got_drop number (paragraphs items) 0 (paragraph_from items at end) here)

pub next_begins : (items : List Item) (at number end : ℕ) → BeginsParagraph items at number →
    IsParagraphEnd items at end → BeginsParagraph items (end + 1) (number + 1)
next_begins items at number end h ends =
    let within = slice_get_within items end ends.ends.item ends.ends.here in
    record {
      within = omega arith;
      rest =
          sym (ap (drop 1) (cut_first items at number end h ends)) ∙ drop-drop 1 number (paragraphs items);
    }

-- the paragraphs from one on are that one and those behind it
pub one_and_others : (items : List Item) (at number end : ℕ) → BeginsParagraph items at number →
    IsParagraphEnd items at end →
    drop number (paragraphs items) ≡ paragraph_from items at end ∷ drop (number + 1) (paragraphs items)
one_and_others items at number end h ends =
    cut_first items at number end h ends ∙ ap (λ more. paragraph_from items at end ∷ more) (next_begins items at number
    end h ends).rest

-- where the text is used up there are no more paragraphs
pub none_left : (items : List Item) (at number : ℕ) → BeginsParagraph items at number → length items ≤ at →
    length (paragraphs items) ≤ number
none_left items at number h past =
    let none : drop number (paragraphs items) ≡ [] = sym h.rest ∙ (ap (stretches is_inside) (drop_all at items past)
    ∙ stretches-nil is_inside) in
    let size = ap length none in
    omega (arith, length-drop number (paragraphs items), size)

-- where there is one paragraph more, there is text
pub text_left : (items : List Item) (at number : ℕ) → BeginsParagraph items at number →
    number < length (paragraphs items) → at < length items
text_left items at number h more = elim (cases_lt at (length items)) [
  | inl low ↦ low
  | inr past ↦ absurd (let few = none_left items at number h past in omega arith)
]

-- a text has no more paragraphs than items
pub few_paragraphs : (items : List Item) → length (paragraphs items) ≤ length items
unfolding stretches
few_paragraphs [] = omega arith
few_paragraphs (item ∷ more) =
    let rest = few_paragraphs more in
    let one = one_more is_inside item (stretches is_inside more) in
    omega arith

-- ---- the last item of a paragraph

pub last_of_paragraph : (items : List Item) (at end : ℕ) (item : Item) → at ≤ end → slice_get items end ≡ Some item →
    slice_get (paragraph_from items at end) (length (paragraph_from items at end) - 1) ≡ Some item
last_of_paragraph items at end item after there =
    let within : end < length items = slice_get_within items end item there in
    let part : List Item = paragraph_from items at end in
    let long : length part ≡ end + 1 - at =
    length-take-le (end + 1 - at) (drop at items) (omega (arith, length-drop at items)) in
    let last : length part - 1 ≡ end - at = omega arith in
    let back : at + (end - at) ≡ end = omega arith in
    ap (slice_get part) last ∙ (slice_get-get_or part (end - at) item (omega arith)
    ∙ ap Some (get_or-take (end + 1 - at) (drop at items) (end - at) item (omega arith)
    ∙ (get_or-drop at items (end - at) item ∙ (ap (λ n. get_or items n item) back
    ∙ get_or_from_slice_get items end item item there))))

-- ---- the units of a paragraph before its mark

pub bare_units_from : (items : List Item) (at end : ℕ) → at ≤ end → end < length items →
    bare_units (paragraph_from items at end) ≡ slice_range (map (λ item. item.unit) items) at end
bare_units_from items at end after within =
    let unit : Item → ℕ = λ (item : Item). item.unit in
    let rest : List Item = drop at items in
    let long : length (paragraph_from items at end) ≡ end + 1 - at =
    length-take-le (end + 1 - at) rest (omega (arith, length-drop at items)) in
    let last : length (paragraph_from items at end) - 1 ≡ end - at = omega arith in
    let part : take (length (paragraph_from items at end) - 1) (paragraph_from items at end) ≡ take (end - at) rest =
    ap (λ n. take n (paragraph_from items at end)) last ∙ take-take (end - at) (end + 1 - at) rest (omega arith) in
    ap (map unit) part
    ∙ sym (take-map unit (end - at) rest)
    ∙ ap (take (end - at)) (sym (drop-map unit at items))
