-- The slots of a sheet, skipped one after the other.
use Rattle.std.proofs.Common.{◌≡◌, ◌↔◌, ◌⊎◌, inl, inr, ℕ, zero, suc, ◌+◌, ◌-◌, ◌<◌, ◌≤◌, List, length, Option}
use Rattle.std.proofs.Common.{Some, None, slice_index, slice_range, take, drop, ◌++◌, refl, sym, ap, ◌∙◌, subst, arith}
use Rattle.std.proofs.Common.{add-zero, add-one}
use Rattle.std.proofs.lemmas.Bool.{cases_lt}
use Rattle.doc_bits.specs.Number.{number_at, u16_at}
use Rattle.doc_bits.proofs.Public.{number_at-same, length-range}
use borrow.Rule.Slice.PartMut.{put_mid}
use Rattle.std.proofs.lemmas.List.{drop-drop}
use Rattle.prl_skips.proofs.Public.{range_same, put_length, put_before, put_after, put_range}
use Rattle.style_sheet.specs.declared.styles.Style.{Style}
use Rattle.style_sheet.specs.Sheet.{Sheet, style_at}
use Rattle.style_sheet.specs.Counted.{even_up, counted_end, counted_bytes, IsCountedPart}
use Rattle.style_sheet.specs.StyleDefinition.{IsStd}
use Rattle.style_sheet.specs.Stsh.{cstd, std_base, slot_place, stshi_words, HasStshif, IsSlotAt, AreSlots}
use Rattle.style_sheet.specs.Stsh.{SpellsSlotAt, HasStyleSheet}
use Rattle.part_skips.specs.Sheets.{SkipsStd, PutsSlot, SkipsSlotAt, IsInNoStyle, SkipsSlots, SkipsSheet}
use Rattle.part_skips.specs.Sheets.{PutsSheet}
use Rattle.part_skips.proofs.StyleLemmas.{style_before, style_after}

-- ---- places of slots

-- a slot is behind those before it
slots_up : (part : List ℕ) (i n : ℕ) → slot_place part i ≤ slot_place part (i + n)
slots_up part i zero = rw (add-zero i) (omega arith)
slots_up part i (suc n) =
    let before = slots_up part i n in
    let place : i + suc n ≡ suc (i + n) = omega arith in
    rw place (omega arith)

pub slot_low : (part : List ℕ) (i j : ℕ) → i ≤ j → slot_place part i ≤ slot_place part j
slot_low part i j low =
    let place : i + (j - i) ≡ j = omega arith in
    subst (λ k. slot_place part i ≤ slot_place part k) place (slots_up part i (j - i))

-- and behind the end of each
pub slot_behind : (part : List ℕ) (i j : ℕ) → i < j → counted_end part (slot_place part i) ≤ slot_place part j
slot_behind part i j low =
    let next = slot_low part (suc i) j (omega arith) in
    omega arith

-- ---- what is at a place in two parts

pub word_there : (old new : List ℕ) (at : ℕ) →
    ((i : ℕ) → i < 2 → slice_index new (at + i) ≡ slice_index old (at + i)) → u16_at new at ≡ u16_at old at
word_there old new at same = number_at-same new old at at 2 same

-- the bytes of a slot that did not change
bytes_there : (old new : List ℕ) (place : ℕ) → length new ≡ length old → IsCountedPart old place →
    ((i : ℕ) → place ≤ i → i < counted_end old place → slice_index new i ≡ slice_index old i) →
    counted_bytes new place ≡ counted_bytes old place
bytes_there old new place len within same =
    let count = word_there old new place (λ i low. same (place + i) (omega arith) (omega arith)) in
    ap (λ n. slice_range new (place + 2) (place + 2 + n)) count
    ∙ range_same new old (place + 2) (counted_end old place) (omega arith) within
    (λ i low high. same i (omega arith) high)

-- ---- slots skipped so far

pub record SlotsFront (old now : List ℕ) (count place : ℕ) : Type 0 where
  pub few : count ≤ cstd old
  pub len : length now ≡ length old
  pub place_is : place ≡ slot_place old count
  pub front : (i : ℕ) → i < slot_place old 0 → slice_index now i ≡ slice_index old i
  pub rest : (i : ℕ) → place ≤ i → slice_index now i ≡ slice_index old i
  pub done : (istd : ℕ) → istd < count → SkipsSlotAt (std_base old) (slot_place old istd) old now
  pub outside : (i : ℕ) → IsInNoStyle old count i → slice_index now i ≡ slice_index old i

pub slots_none : (old : List ℕ) (place : ℕ) → place ≡ slot_place old 0 → SlotsFront old old 0 place
slots_none old place is = record {
  few = omega arith;
  len = refl;
  place_is = is;
  front = λ i low. refl;
  rest = λ i low. refl;
  done = λ istd low. absurd (omega arith);
  outside = λ i out. refl;
}

-- the next slot is as it was
pub next_slot : (old now : List ℕ) (count place : ℕ) → SlotsFront old now count place → AreSlots old →
    count < cstd old → IsSlotAt now (std_base old) place
next_slot old now count place front are low =
    let slot = are count low in
    let place_is = front.place_is in
    let within : IsCountedPart old place = subst (IsCountedPart old) (sym place_is) slot.within in
    let len = front.len in
    let word = word_there old now place (λ i below. front.rest (place + i) (omega arith)) in
    let bytes = bytes_there old now place len within (λ i low high. front.rest i low) in
    record {
      within = omega arith;
      style = λ some. subst (λ l. IsStd l (std_base old)) (sym bytes ∙ refl)
          (subst (λ p. IsStd (counted_bytes old p) (std_base old)) (sym place_is) (slot.style
          (subst (λ p. 0 < u16_at old p) place_is (omega arith))));
    }

-- one slot more
pub slots_more : (old now new : List ℕ) (count place next : ℕ) → SlotsFront old now count place → AreSlots old →
    count < cstd old → next ≡ even_up (counted_end now place) → PutsSlot (std_base old) place now new →
    SlotsFront old new (count + 1) next
slots_more old now new count place next front are low next_is puts =
    let slot = are count low in
    let place_is = front.place_is in
    let within : IsCountedPart old place = subst (IsCountedPart old) (sym place_is) slot.within in
    let len = front.len in
    let new_len = puts.len in
    let word = word_there old now place (λ i below. front.rest (place + i) (omega arith)) in
    let end : counted_end now place ≡ counted_end old place = ap (λ n. place + 2 + n) word in
    let first = slot_low old 0 count (omega arith) in
    let after : next ≡ slot_place old (suc count) =
    next_is ∙ (ap even_up end ∙ ap (λ p. even_up (counted_end old p)) place_is) in
    let next_place : next ≡ slot_place old (count + 1) =
    subst (λ i. next ≡ slot_place old i) (sym (add-one count)) after in
    record {
      few = omega (arith, low);
      len = new_len ∙ len;
      place_is = next_place;
      front = λ i below. puts.outside i (inl (omega arith)) ∙ front.front i below;
      rest = λ i high. puts.outside i (inr (omega arith)) ∙ front.rest i (omega arith);
      done = λ istd below. elim (cases_lt istd count) [
        | inl before ↦
            let was = front.done istd before in
            let p = slot_place old istd in
            let behind = slot_behind old istd count before in
            let inside = (are istd (omega arith)).within in
            let count_was = was.count in
            let now_end : counted_end now p ≡ counted_end old p = ap (λ n. p + 2 + n) count_was in
            let same = bytes_there now new p new_len (omega arith) (λ i lo hi. puts.outside i (inl (omega arith))) in
            record {
              count = word_there now new p (λ i lo. puts.outside (p + i) (inl (omega arith))) ∙ was.count;
              std = λ some. subst (SkipsStd (std_base old) (counted_bytes old p)) (sym same) (was.std some);
            }
        | inr here ↦
            let is : istd ≡ count = omega arith in
            let p_is : slot_place old istd ≡ place = ap (slot_place old) is ∙ sym place_is in
            let bytes = bytes_there old now place len within (λ i lo hi. front.rest i lo) in
            subst (λ p. SkipsSlotAt (std_base old) p old new) (sym p_is) (record {
              count = word_there now new place (λ i lo. puts.outside (place + i) (inl (omega arith))) ∙ word;
              std = λ some. subst (λ l. SkipsStd (std_base old) l (counted_bytes new place)) bytes
                  (puts.std (omega arith));
            })
      ];
      outside = λ i out.
          let here : (i < place + 2) ⊎ (counted_end now place ≤ i) =
          subst (λ e. (i < place + 2) ⊎ (e ≤ i)) (sym end)
          (subst (λ p. (i < p + 2) ⊎ (counted_end old p ≤ i)) (sym place_is) (out count (omega arith))) in
          puts.outside i here ∙ front.outside i (λ istd below. out istd (omega arith));
    }

pub slots_all : (old now : List ℕ) (count place : ℕ) → SlotsFront old now count place → HasStshif old → AreSlots old →
    cstd old ≤ count → SkipsSlots old now
slots_all old now count place front stshif are all = record {
  stshif = stshif;
  are = are;
  len = front.len;
  front = front.front;
  slots = λ istd low. front.done istd (omega arith);
  outside = λ i out. front.outside i (λ istd below. out istd (omega (arith, below, front.few)));
}

-- ---- what the sheet is

-- the words of the Stshif
pub head_word : (old new : List ℕ) (at : ℕ) → SkipsSlots old new → at + 2 ≤ 20 → u16_at new at ≡ u16_at old at
head_word old new at s low =
    let size = s.stshif.size in
    word_there old new at (λ i below. s.front (at + i) (omega arith))

head_same : (old new : List ℕ) → SkipsSlots old new → stshi_words new ≡ stshi_words old
head_same old new s =
    let six = head_word old new 6 s (omega arith) in
    let eight = head_word old new 8 s (omega arith) in
    let ten = head_word old new 10 s (omega arith) in
    let twelve = head_word old new 12 s (omega arith) in
    let fourteen = head_word old new 14 s (omega arith) in
    let sixteen = head_word old new 16 s (omega arith) in
    let eighteen = head_word old new 18 s (omega arith) in
    rw (six, eight, ten, twelve, fourteen, sixteen, eighteen) refl

pub place_same : (old new : List ℕ) (istd : ℕ) → SkipsSlots old new → istd ≤ cstd old →
    slot_place new istd ≡ slot_place old istd
place_same old new zero s low = ap (λ n. even_up (2 + n)) (head_word old new 0 s (omega arith))
place_same old new (suc istd) s low =
    let before = place_same old new istd s (omega arith) in
    let slot = s.slots istd (omega arith) in
    ap even_up (ap (counted_end new) before ∙ ap (λ n. slot_place old istd + 2 + n) slot.count)

pub base_high : (part : List ℕ) → HasStshif part → 8 < std_base part
base_high part h = elim h.base [ inl ten ↦ omega arith | inr more ↦ omega arith ]

slot_before : (old new : List ℕ) (istd : ℕ) (slot : Option Style) → SkipsSlots old new → istd < cstd old →
    SpellsSlotAt new (std_base old) (slot_place old istd) slot →
    SpellsSlotAt old (std_base old) (slot_place old istd) slot
slot_before old new istd None s low is = sym (s.slots istd low).count ∙ is
slot_before old new istd (Some style) s low is =
    let slot = s.slots istd low in
    let some : 0 < u16_at old (slot_place old istd) = omega (arith, slot.count, is.0) in (
      some,
      style_before (std_base old) (counted_bytes old (slot_place old istd)) (counted_bytes new (slot_place old istd))
          style ((s.are istd low).style some) (base_high old s.stshif) (slot.std some) is.1,
    )

slot_after : (old new : List ℕ) (istd : ℕ) (slot : Option Style) → SkipsSlots old new → istd < cstd old →
    SpellsSlotAt old (std_base old) (slot_place old istd) slot →
    SpellsSlotAt new (std_base old) (slot_place old istd) slot
slot_after old new istd None s low is = (s.slots istd low).count ∙ is
slot_after old new istd (Some style) s low is =
    let slot = s.slots istd low in (
      omega (arith, slot.count, is.0),
      style_after (std_base old) (counted_bytes old (slot_place old istd)) (counted_bytes new (slot_place old istd))
          style ((s.are istd low).style is.0) (base_high old s.stshif) (slot.std is.0) is.1,
    )

slots_before : (old new : List ℕ) (sheet : Sheet) → SkipsSlots old new → HasStyleSheet new sheet →
    HasStyleSheet old sheet
slots_before old new sheet s is =
    let count = head_word old new 2 s (omega arith) in
    let base = head_word old new 4 s (omega arith) in
    record {
      head = is.head ∙ head_same old new s;
      slots = is.slots ∙ count;
      styles = λ istd low. slot_before old new istd (style_at sheet istd) s low
          (subst (λ b. SpellsSlotAt new b (slot_place old istd) (style_at sheet istd)) base
          (subst (λ p. SpellsSlotAt new (std_base new) p (style_at sheet istd))
          (place_same old new istd s (omega arith))
          (is.styles istd (omega arith))));
    }

slots_after : (old new : List ℕ) (sheet : Sheet) → SkipsSlots old new → HasStyleSheet old sheet →
    HasStyleSheet new sheet
slots_after old new sheet s is =
    let count = head_word old new 2 s (omega arith) in
    let base = head_word old new 4 s (omega arith) in
    record {
      head = is.head ∙ sym (head_same old new s);
      slots = is.slots ∙ sym count;
      styles = λ istd low.
          let below : istd < cstd old = omega arith in
          subst (λ p. SpellsSlotAt new (std_base new) p (style_at sheet istd))
          (sym (place_same old new istd s (omega arith)))
          (subst (λ b. SpellsSlotAt new b (slot_place old istd) (style_at sheet istd)) (sym base)
          (slot_after old new istd (style_at sheet istd) s below (is.styles istd below)));
    }

pub sheet_skips : (old new : List ℕ) (sheet : Sheet) → SkipsSheet old new →
    (HasStyleSheet new sheet ↔ HasStyleSheet old sheet)
sheet_skips old new sheet skips = elim skips [
  | inl s ↦ (slots_before old new sheet s, slots_after old new sheet s)
  | inr stays ↦ rw stays.same (λ h. h, λ h. h)
]

-- ---- one slot

-- what is written over the style of a slot
pub slot_put : (base place count : ℕ) (old mid : List ℕ) → IsCountedPart old place → count ≡ u16_at old place →
    SkipsStd base (slice_range old (place + 2) (place + 2 + count)) mid →
    length mid ≡ length (slice_range old (place + 2) (place + 2 + count)) →
    PutsSlot base place old (put_mid (place + 2) (place + 2 + count - (place + 2)) old mid)
slot_put base place count old mid within is skips len =
    let from = place + 2 in
    let to = place + 2 + count in
    let new = put_mid from (to - from) old mid in
    let ordered : from ≤ to = omega arith in
    let inside : to ≤ length old = omega arith in
    let width = length-range old from to inside in
    let size : length mid ≡ to - from = len ∙ width in
    let end : from + (to - from) ≡ to = omega arith in
    let put : new ≡ take from old ++ (mid ++ drop to old) =
    ap (λ l. take from old ++ (mid ++ l)) (drop-drop (to - from) from old ∙ ap (λ n. drop n old) end) in
    let word : u16_at new place ≡ u16_at old place =
    word_there old new place (λ i low. put_before old new mid from to (place + i) (omega arith) (omega arith) put) in
    let ends : counted_end new place ≡ to = ap (λ n. place + 2 + n) (word ∙ sym is) in
    let bytes : counted_bytes new place ≡ mid =
    ap (slice_range new from) ends ∙ put_range old new mid from to ordered inside size put in
    record {
      len = put_length old new mid from to ordered inside size put;
      outside = λ i out. elim out [
        | inl low ↦ put_before old new mid from to i (omega arith) low put
        | inr high ↦ put_after old new mid from to i ordered inside size (omega arith) put
      ];
      std = λ some. subst (SkipsStd base (counted_bytes old place)) (sym bytes)
          (subst (λ n. SkipsStd base (slice_range old from (from + n)) mid) is skips);
    }

-- ---- a sheet in a stream

pub sheet_put : (old sheet : List ℕ) (from to : ℕ) → from ≤ to → to ≤ length old →
    SkipsSheet (slice_range old from to) sheet → length sheet ≡ length (slice_range old from to) →
    PutsSheet from to old (put_mid from (to - from) old sheet)
sheet_put old sheet from to ordered within skips len =
    let end : from + (to - from) ≡ to = omega arith in
    record {
      sheet = sheet;
      skips = skips;
      len = len;
      put = ap (λ l. take from old ++ (sheet ++ l)) (drop-drop (to - from) from old ∙ ap (λ n. drop n old) end);
    }
