-- A sheet as it is written is read back.
use Rattle.std.proofs.Common.{◌≡◌, ℕ, ◌+◌, ◌*◌, ◌<◌, ◌≤◌, inl, inr, List, [], ◌∷◌, ◌++◌, Option, Some, None, length}
use Rattle.std.proofs.Common.{slice_index, slice_index_or, refl, sym, ◌∙◌, ap, subst, arith, length-append}
use Rattle.std.proofs.Common.{append_assoc}
use Rattle.std.specs.List.{All, flat_map}
use Rattle.doc_bits.specs.Number.{u16_at}
use Rattle.style_sheet.specs.declared.styles.Style.{Style}
use Rattle.style_sheet.specs.Sheet.{Sheet, style_at}
use Rattle.style_sheet.specs.Formed.{IsFormedSlot, IsFormedSheet}
use Rattle.style_sheet.specs.Counted.{counted_place, counted_bytes, written_counted}
use Rattle.style_sheet.specs.StyleDefinition.{IsStd, SpellsStyle}
use Rattle.style_sheet.specs.Stsh.{slot_place, stshi_words, IsSlotAt, HasUpxFault, SpellsSlotAt}
use Rattle.style_sheet.specs.Written.{word, written_slot, written_slots, written_front, written_sheet, SheetIsReadBack}
use Rattle.style_sheet.proofs.WordLemmas.{length-word, length-words, word_front, word_after, words_at, IsItemAt}
use Rattle.style_sheet.proofs.WordLemmas.{items_at}
use Rattle.style_sheet.proofs.StdLemmas.{small_words}
use Rattle.style_sheet.proofs.LengthLemmas.{style_len}
use Rattle.style_sheet.proofs.SlotLemmas.{length-written_slots, written_slots_at}
use Rattle.style_sheet.proofs.ReadLemmas.{number_at-past}
use Rattle.style_sheet.proofs.ChangeLemmas.{slot_formed}
use Rattle.style_sheet.proofs.StyleBackLemmas.{std_back}

-- a list of seven numbers
seven : (xs : List ℕ) → length xs ≡ 7 → xs ≡ slice_index xs 0 ∷ slice_index xs 1 ∷ slice_index xs 2 ∷ slice_index xs 3
    ∷ slice_index xs 4 ∷ slice_index xs 5 ∷ slice_index xs 6 ∷ []
seven (a ∷ b ∷ c ∷ d ∷ e ∷ f ∷ g ∷ []) h = refl
seven (a ∷ b ∷ c ∷ d ∷ e ∷ f ∷ g ∷ x ∷ xs) h = absurd (omega arith)
seven (a ∷ b ∷ c ∷ d ∷ e ∷ f ∷ []) h = absurd (omega arith)
seven (a ∷ b ∷ c ∷ d ∷ e ∷ []) h = absurd (omega arith)
seven (a ∷ b ∷ c ∷ d ∷ []) h = absurd (omega arith)
seven (a ∷ b ∷ c ∷ []) h = absurd (omega arith)
seven (a ∷ b ∷ []) h = absurd (omega arith)
seven (a ∷ []) h = absurd (omega arith)
seven [] h = absurd (omega arith)

-- the words before the slots
record AreFrontWords (part : List ℕ) (sheet : Sheet) : Type 0 where
  pub stshi : u16_at part 0 ≡ 18
  pub count : u16_at part 2 ≡ length sheet.styles
  pub base : u16_at part 4 ≡ 10
  pub head : sheet.head ≡ stshi_words part

front_words : (sheet : Sheet) (more : List ℕ) → IsFormedSheet sheet →
    AreFrontWords (word 18 ++ (word (length sheet.styles) ++ (word 10 ++ (flat_map word sheet.head ++ more)))) sheet
front_words sheet more f =
    let n = length sheet.styles in
    let r3 = flat_map word sheet.head ++ more in
    let r2 = word 10 ++ r3 in
    let r1 = word n ++ r2 in
    let few = f.few in
    let seven_words = f.head in
    let small = small_words sheet.head f.words in
    let at : (k : ℕ) → k < length sheet.head → u16_at (word 18 ++ r1) (6 + 2 * k) ≡ slice_index sheet.head k = λ k h.
    let p1 : 6 + 2 * k ≡ 2 + (4 + 2 * k) = omega arith in
    let p2 : 4 + 2 * k ≡ 2 + (2 + 2 * k) = omega arith in
    ap (u16_at (word 18 ++ r1)) p1 ∙ (word_after 18 r1 (4 + 2 * k)
    ∙ (ap (u16_at r1) p2 ∙ (word_after n r2 (2 + 2 * k)
    ∙ (word_after 10 r3 (2 * k) ∙ words_at sheet.head more k small h)))) in
    let a = at 0 (omega arith) in let b = at 1 (omega arith) in let c = at 2 (omega arith) in
    let d = at 3 (omega arith) in
    let e = at 4 (omega arith) in let g = at 5 (omega arith) in let h = at 6 (omega arith) in
    record {
      stshi = word_front 18 r1 (omega arith);
      count = word_after 18 r1 0 ∙ word_front n r2 (omega arith);
      base = word_after 18 r1 2 ∙ (word_after n r2 0 ∙ word_front 10 r3 (omega arith));
      head = seven sheet.head f.head ∙ (λ i. sym a i ∷ sym b i ∷ sym c i ∷ sym d i ∷ sym e i ∷ sym g i ∷ sym h i ∷ []);
    }

sheet_split : (sheet : Sheet) → word 18 ++ (word (length sheet.styles) ++ (word 10 ++ (flat_map word sheet.head ++
    flat_map written_counted (written_slots 0 sheet.styles)))) ≡ written_sheet sheet
sheet_split sheet = sym (simp append_assoc)

length-front : (sheet : Sheet) → length sheet.head ≡ 7 → length (written_front sheet) ≡ 20
length-front sheet h =
    let hs = flat_map word sheet.head in
    let a = length-append (word 18) (word (length sheet.styles) ++ (word 10 ++ hs)) in
    let b = length-append (word (length sheet.styles)) (word 10 ++ hs) in
    let c = length-append (word 10) hs in
    let x = length-word 18 in let y = length-word (length sheet.styles) in let z = length-word 10 in
    let w = length-words sheet.head in
    omega arith

-- the STD in a slot
slot_std : (istd : ℕ) (slot : Option Style) → IsFormedSlot slot → length (written_slot istd slot) ≤ 32767 →
    0 < length (written_slot istd slot) → IsStd (written_slot istd slot) 10
slot_std istd None f short some = absurd (omega arith)
slot_std istd (Some style) f short some = (std_back istd style f short).std

slot_spelt : (part : List ℕ) (place istd : ℕ) (slot : Option Style) → IsFormedSlot slot →
    length (written_slot istd slot) ≤ 32767 → IsItemAt part place (written_slot istd slot) → SpellsSlotAt part 10
    place slot
slot_spelt part place istd None f short item = item.count
slot_spelt part place istd (Some style) f short item =
    let count = item.count in
    let len = style_len istd style in
    (omega arith, subst (λ b. SpellsStyle b 10 style) (sym item.bytes_are) (std_back istd style f short).spelt)

slot_sound : (istd : ℕ) (slot : Option Style) (offset : ℕ) → IsFormedSlot slot → length (written_slot istd slot) ≤
    32767 → HasUpxFault (written_slot istd slot) 10 offset → ⊥
slot_sound istd None offset f short fault =
    let none = number_at-past [] 2 2 (omega arith) in
    elim fault [
      | inl w ↦ let e = w.0 in absurd (omega arith)
      | inr w ↦ let e = w.0 in absurd (omega arith)
    ]
slot_sound istd (Some style) offset f short fault = (std_back istd style f short).sound offset fault

pub sheet_back : SheetIsReadBack
sheet_back sheet f short =
    let part = written_sheet sheet in
    let front = written_front sheet in
    let stds = written_slots 0 sheet.styles in
    let words = subst (λ b. AreFrontWords b sheet) (sheet_split sheet) (front_words sheet (flat_map written_counted
    stds) f) in
    let stshi = words.stshi in
    let count = words.count in
    let base = words.base in
    let some = f.some in
    let few = f.few in
    let twenty = length-front sheet f.head in
    let many = length-written_slots 0 sheet.styles in
    let len = length-append front (flat_map written_counted stds) in
    let is_slot : (k : ℕ) (d : List ℕ) → k < length sheet.styles → slice_index_or stds k d ≡ written_slot k
    (style_at sheet k) = λ k d h.
    let e : 0 + k ≡ k = omega arith in
    written_slots_at 0 sheet.styles k d h ∙ ap (λ n. written_slot n (style_at sheet k)) e in
    let all_short : All (λ item. length item < 65536) stds = λ k d h.
    let e = ap length (is_slot k d (omega arith)) in
    let low = short k in omega arith in
    let start : length front ≡ 2 + u16_at part 0 = omega arith in
    let items : (k : ℕ) → k < length sheet.styles → IsItemAt part (slot_place part k) (written_slot k (style_at sheet
    k)) = λ k h.
    let it = items_at front stds k [] (omega arith) all_short (omega arith) in
    subst (λ p. IsItemAt part (counted_place part p k) (written_slot k (style_at sheet k))) start
    (subst (λ x. IsItemAt part (counted_place part (length front) k) x) (is_slot k [] h) it) in
    let formed : (k : ℕ) → IsFormedSlot (style_at sheet k) = λ k. slot_formed sheet k f.styles in
    let slots : (k : ℕ) → k < length sheet.styles → IsSlotAt part 10 (slot_place part k) = λ k h.
    let item = items k h in
    let size = item.count in
    record {
      within = item.within;
      style = λ full. subst (λ b. IsStd b 10) (sym item.bytes_are) (slot_std k (style_at sheet k) (formed k) (short k)
          (omega arith));
    } in
    record {
      rules = λ at. (
        λ p w. w.1 (record {
          long = omega arith;
          size = omega arith;
          some = omega arith;
          few = omega arith;
          base = inl base;
        }),
        (
          λ p w. w.broken.wrong (subst (λ b. IsSlotAt part b (slot_place part w.entry)) (sym base) (slots w.entry
              (let low = w.below in omega arith))),
          λ p w.
              let fault = w.broken in
              let item = items w.entry (let low = w.below in omega arith) in
              slot_sound w.entry (style_at sheet w.entry) fault.offset (formed w.entry) (short w.entry)
              (subst (λ b. HasUpxFault b 10 fault.offset) item.bytes_are (subst (λ b. HasUpxFault (counted_bytes
              part (slot_place part w.entry)) b fault.offset) base fault.broken)),
        ),
      );
      held = record {
        head = words.head;
        slots = sym count;
        styles = λ k h. subst (λ b. SpellsSlotAt part b (slot_place part k) (style_at sheet k)) (sym base)
            (slot_spelt part (slot_place part k) k (style_at sheet k) (formed k) (short k) (items k (omega arith)));
      };
    }
