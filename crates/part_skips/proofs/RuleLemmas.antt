-- A style sheet whose lists are skipped breaks none of the rules 49 to 51 where the sheet breaks none.
use Rattle.std.specs.Prelude.{slice_range}
use Rattle.std.proofs.Common.{◌≡◌, ◌⊎◌, ◌∙◌, inl, inr, ℕ, ◌+◌, ◌-◌, ◌*◌, ◌%◌, ◌<◌, ◌≤◌, List, [], length, take, drop}
use Rattle.std.proofs.Common.{refl, sym, ap, subst, arith}
use Rattle.std.proofs.lemmas.Bool.{cases_lt}
use Rattle.doc_bits.specs.Number.{u16_at}
use Rattle.doc_bits.specs.Rules.{Hold, Nowhere}
use Rattle.sprm_table.specs.Sprm.{HasSprmFaultAt}
use Rattle.prop_map.specs.Formed.{character_groups, paragraph_groups}
use Rattle.prl_skips.proofs.Public.{right_skips}
use Rattle.style_sheet.specs.Counted.{even_up, counted_end, counted_bytes, IsCountedPart}
use Rattle.style_sheet.specs.StyleDefinition.{stk, cupx, style_name_len, upxes_start, upx_place, upx, paragraph_list}
use Rattle.style_sheet.specs.StyleDefinition.{IsStd}
use Rattle.style_sheet.specs.Stsh.{cb_stshi, cstd, std_base, slot_place, std_of, HasStshif, IsSlotAt, IsSlot}
use Rattle.style_sheet.specs.Stsh.{IsParagraphFault, IsCharacterFault, HasUpxFault, stsh_rules}
use Rattle.part_skips.specs.Sheets.{SkipsStd, SkipsSlots, SkipsSheet}
use Rattle.part_skips.proofs.StyleLemmas.{upxes_low, SameFront, word_same, first_same, first_end, second_same, stk_same}
use Rattle.part_skips.proofs.StyleLemmas.{HasBothLists, both_lists, HasOneList, one_list}
use Rattle.part_skips.proofs.SheetLemmas.{head_word, place_same, base_high}

-- ---- a style

-- with the front and the length of another one, where its upxes are within it and fill it
std_like : (base : ℕ) (old new : List ℕ) → IsStd old base → 8 < base → SameFront base old new →
    length new ≡ length old → ((k : ℕ) → k < cupx old → IsCountedPart new (upx_place new base k)) →
    upx_place new base (cupx old) ≡ upx_place old base (cupx old) → IsStd new base
std_like base old new std high same len within last =
    let low = upxes_low old base in
    let word : (at : ℕ) → at + 2 ≤ upx_place old base 0 + 2 → u16_at new at ≡ u16_at old at =
    λ at below. word_same old new at (upx_place old base 0 + 2) same below in
    let kind : stk new ≡ stk old = stk_same base old new same in
    let count : cupx new ≡ cupx old = ap (λ n. n % 16) (word 4 (omega (arith, low, high))) in
    let name : style_name_len new base ≡ style_name_len old base = word base (omega (arith, low)) in
    let first : u16_at new (upx_place new base 0) ≡ u16_at old (upx_place old base 0) =
    ap (u16_at new) (first_same base old new same) ∙ word (upx_place old base 0) (omega arith) in
    record {
      name = record {
        count = omega (arith, len, std.name.count);
        units = omega (arith, len, std.name.units, name);
        ended =
            ap (λ n. u16_at new (base + 2 + 2 * n)) name
            ∙ (word (base + 2 + 2 * style_name_len old base) (omega arith) ∙ std.name.ended);
      };
      kind = record {
        some = omega (arith, kind, std.kind.some);
        most = omega (arith, kind, std.kind.most);
        para = λ is. count ∙ std.kind.para (sym kind ∙ is);
        char = λ is. count ∙ std.kind.char (sym kind ∙ is);
      };
      upxes = record {
        within = λ k below. within k (omega (arith, below, count));
        all = subst (λ n. length new ≤ upx_place new base n) (sym count)
            (omega (arith, len, last, std.upxes.all));
      };
      istd = λ is. omega (arith, first, std.istd (sym kind ∙ is));
    }

-- a style of paragraphs
para_std : (base : ℕ) (old new : List ℕ) → IsStd old base → 8 < base → stk old ≡ 1 → HasBothLists base old new →
    IsStd new base
para_std base old new std high para has =
    let two = std.kind.para para in
    let q = upx_place old base 1 in
    let len = has.len in
    let first : counted_end new (upx_place new base 0) ≡ counted_end old (upx_place old base 0) =
    first_end base old new has.front in
    let second : counted_end new (upx_place new base 1) ≡ counted_end old q =
    ap (counted_end new) (second_same base old new has.front) ∙ ap (λ n. q + 2 + n) has.second in
    let one : IsCountedPart new (upx_place new base 0) =
    omega (arith, len, first, std.upxes.within 0 (omega (arith, two))) in
    let other : IsCountedPart new (upx_place new base 1) =
    omega (arith, len, second, std.upxes.within 1 (omega (arith, two))) in
    std_like base old new std high has.front len
    (λ k below. elim (cases_lt k 1) [
      | inl low ↦
          let is : 0 ≡ k = omega (arith, low) in subst (λ j. IsCountedPart new (upx_place new base j)) is one
      | inr up ↦
          let is : 1 ≡ k = omega (arith, up, below, two) in
          subst (λ j. IsCountedPart new (upx_place new base j)) is other
    ])
    (subst (λ n. upx_place new base n ≡ upx_place old base n) (sym two) (ap even_up second))

-- a style of characters
char_std : (base : ℕ) (old new : List ℕ) → IsStd old base → 8 < base → stk old ≡ 2 → HasOneList base old new →
    IsStd new base
char_std base old new std high char has =
    let one = std.kind.char char in
    let len = has.len in
    let first : counted_end new (upx_place new base 0) ≡ counted_end old (upx_place old base 0) =
    first_end base old new has.front in
    let only : IsCountedPart new (upx_place new base 0) =
    omega (arith, len, first, std.upxes.within 0 (omega (arith, one))) in
    std_like base old new std high has.front len
    (λ k below.
    let is : 0 ≡ k = omega (arith, below, one) in subst (λ j. IsCountedPart new (upx_place new base j)) is only)
    (subst (λ n. upx_place new base n ≡ upx_place old base n) (sym one) (ap even_up first))

std_after : (base : ℕ) (old new : List ℕ) → IsStd old base → 8 < base → SkipsStd base old new → IsStd new base
std_after base old new std high (inl para) =
    para_std base old new std high para.para (both_lists base old new std para)
std_after base old new std high (inr (inl char)) =
    char_std base old new std high char.char (one_list base old new std char)
std_after base old new std high (inr (inr stays)) = subst (λ (l : List ℕ). IsStd l base) (sym stays.same) std

-- ---- its lists

para_right : (base : ℕ) (old new : List ℕ) → stk old ≡ 1 → HasBothLists base old new →
    Nowhere (HasUpxFault old base) → Nowhere (HasUpxFault new base)
para_right base old new para has none =
    let kind : stk new ≡ stk old = stk_same base old new has.front in
    let pap : Nowhere (HasSprmFaultAt (paragraph_list new base) paragraph_groups) =
    right_skips (paragraph_list old base) (paragraph_list new base) paragraph_groups has.pap
    (λ place fault. none (upx_place old base 0 + 4 + place)
    (inl (para, inl (record { offset = place; here = refl; broken = fault })))) in
    let chp : Nowhere (HasSprmFaultAt (upx new base 1) character_groups) =
    right_skips (upx old base 1) (upx new base 1) character_groups has.chp
    (λ place fault. none (upx_place old base 1 + 2 + place)
    (inl (para, inr (record { offset = place; here = refl; broken = fault })))) in
    λ place broken. elim broken [
      | inl lists ↦ elim lists.1 [
        | inl fault ↦ pap fault.offset fault.broken
        | inr fault ↦ chp fault.offset fault.broken
      ]
      | inr list ↦ absurd (omega (arith, kind, para, list.0))
    ]

char_right : (base : ℕ) (old new : List ℕ) → stk old ≡ 2 → HasOneList base old new → Nowhere (HasUpxFault old base) →
    Nowhere (HasUpxFault new base)
char_right base old new char has none =
    let kind : stk new ≡ stk old = stk_same base old new has.front in
    let chp : Nowhere (HasSprmFaultAt (upx new base 0) character_groups) =
    right_skips (upx old base 0) (upx new base 0) character_groups has.chp
    (λ place fault. none (upx_place old base 0 + 2 + place)
    (inr (char, record { offset = place; here = refl; broken = fault }))) in
    λ place broken. elim broken [
      | inl lists ↦ absurd (omega (arith, kind, char, lists.0))
      | inr list ↦ chp list.1.offset list.1.broken
    ]

std_right : (base : ℕ) (old new : List ℕ) → IsStd old base → SkipsStd base old new → Nowhere (HasUpxFault old base) →
    Nowhere (HasUpxFault new base)
std_right base old new std (inl para) = para_right base old new para.para (both_lists base old new std para)
std_right base old new std (inr (inl char)) = char_right base old new char.char (one_list base old new std char)
std_right base old new std (inr (inr stays)) =
    subst (λ (l : List ℕ). Nowhere (HasUpxFault l base)) (sym stays.same)

-- ---- slots

slot_after : (old new : List ℕ) (istd : ℕ) → SkipsSlots old new → istd < cstd old → IsSlot new istd
slot_after old new istd s low =
    let p = slot_place old istd in
    let slot = s.slots istd low in
    let was = s.are istd low in
    let count = slot.count in
    let len = s.len in
    let here : IsSlotAt new (std_base old) p = record {
      within = omega (arith, count, len, was.within);
      style = λ some.
          let there : 0 < u16_at old p = omega (arith, some, count) in
          std_after (std_base old) (counted_bytes old p) (counted_bytes new p) (was.style there)
          (base_high old s.stshif) (slot.std there);
    } in
    subst (λ b. IsSlotAt new b (slot_place new istd)) (sym (head_word old new 4 s (omega arith)))
    (subst (λ q. IsSlotAt new (std_base old) q) (sym (place_same old new istd s (omega (arith, low)))) here)

-- a slot of no bytes
no_std : (part : List ℕ) (place : ℕ) → u16_at part place ≡ 0 → counted_bytes part place ≡ []
no_std part place none =
    let width : counted_end part place - (place + 2) ≡ 0 = omega (arith, none) in
    ap (λ n. take n (drop (place + 2) part)) width

slot_right : (old new : List ℕ) (istd : ℕ) → SkipsSlots old new → istd < cstd old →
    Nowhere (HasUpxFault (std_of old istd) (std_base old)) → Nowhere (HasUpxFault (std_of new istd) (std_base new))
slot_right old new istd s low none =
    let p = slot_place old istd in
    let slot = s.slots istd low in
    let count = slot.count in
    let here : Nowhere (HasUpxFault (counted_bytes new p) (std_base old)) = elim (cases_lt 0 (u16_at old p)) [
      | inl some ↦
          std_right (std_base old) (counted_bytes old p) (counted_bytes new p) ((s.are istd low).style some)
          (slot.std some) none
      | inr empty ↦
          let was = no_std old p (omega (arith, empty)) in
          let is = no_std new p (omega (arith, empty, count)) in
          subst (λ (b : List ℕ). Nowhere (HasUpxFault b (std_base old))) (was ∙ sym is) none
    ] in
    subst (λ b. Nowhere (HasUpxFault (std_of new istd) b)) (sym (head_word old new 4 s (omega arith)))
    (subst (λ q. Nowhere (HasUpxFault (counted_bytes new q) (std_base old)))
    (sym (place_same old new istd s (omega (arith, low)))) here)

-- ---- the sheet

stshif_after : (old new : List ℕ) → SkipsSlots old new → HasStshif new
stshif_after old new s =
    let size = head_word old new 0 s (omega arith) in
    let count = head_word old new 2 s (omega arith) in
    let base = head_word old new 4 s (omega arith) in
    let was = s.stshif in
    record {
      long = omega (arith, s.len, was.long);
      size = omega (arith, size, was.size);
      some = omega (arith, count, was.some);
      few = omega (arith, count, was.few);
      base = subst (λ n. (n ≡ 10) ⊎ (n ≡ 18)) (sym base) was.base;
    }

slots_hold : (old new : List ℕ) (at : ℕ) → SkipsSlots old new → Hold (stsh_rules old at) → Hold (stsh_rules new at)
slots_hold old new at s (stshif, (slots, faults)) =
    let count : cstd new ≡ cstd old = head_word old new 2 s (omega arith) in
    let right : (istd : ℕ) → istd < cstd old → Nowhere (HasUpxFault (std_of old istd) (std_base old)) =
    λ istd low offset fault. faults (at + (slot_place old istd + 2) + offset) (record {
      entry = istd;
      below = low;
      broken = record { offset = offset; here = refl; broken = fault };
    }) in (
      λ p broken. broken.1 (stshif_after old new s),
      (
        λ p wrong. wrong.broken.wrong
            (slot_after old new wrong.entry s (omega (arith, wrong.below, count))),
        λ p fault.
            let low : fault.entry < cstd old = omega (arith, fault.below, count) in
            slot_right old new fault.entry s low (right fault.entry low) fault.broken.offset fault.broken.broken,
      ),
    )

pub sheet_holds : (old new : List ℕ) (at : ℕ) → SkipsSheet old new → Hold (stsh_rules old at) →
    Hold (stsh_rules new at)
sheet_holds old new at (inl slots) = slots_hold old new at slots
sheet_holds old new at (inr stays) = subst (λ (l : List ℕ). Hold (stsh_rules l at)) (sym stays.same)
