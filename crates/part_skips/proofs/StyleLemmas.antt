-- A style whose lists are skipped.
use Rattle.std.proofs.Common.{◌≡◌, ◌≢◌, ◌↔◌, inl, inr, ℕ, ◌+◌, ◌-◌, ◌*◌, ◌%◌, ◌/◌, ◌<◌, ◌≤◌, List, length, take, drop}
use Rattle.std.proofs.Common.{slice_index, slice_range, map, refl, sym, ap, ◌∙◌, subst, arith}
use Rattle.doc_bits.specs.Number.{number_at, u16_at}
use Rattle.doc_bits.proofs.Public.{number_at-same}
use Rattle.sprm_table.specs.Sprm.{SpellsSprmList}
use Rattle.sprm_table.proofs.Public.{spelt_unique}
use Rattle.std.specs.FinMap.{empty}
use Rattle.prop_map.specs.Settings.{Properties}
use Rattle.prop_map.specs.Acting.{ArePropertiesAfter}
use Rattle.prop_map.specs.Formed.{character_groups, paragraph_groups}
use Rattle.prl_skips.specs.Skips.{skipped, SkipsOrStays, PutsSkipped, HoldsNoPictures}
use Rattle.prl_skips.proofs.Public.{make_skips, range_same, drop_range, put_length, put_before, put_after, put_range}
use Rattle.style_sheet.specs.declared.styles.Style.{Style}
use Rattle.style_sheet.specs.declared.styles.Kind.{Kind}
use Rattle.style_sheet.specs.declared.styles.Kind.TheVariants.{Para, Char, Other}
use Rattle.style_sheet.specs.Counted.{even_up, counted_end, counted_bytes, IsCountedPart}
use Rattle.style_sheet.specs.StyleDefinition.{stk, cupx, style_name_len, upxes_start, upx_place, upx, paragraph_list}
use Rattle.style_sheet.specs.StyleDefinition.{IsStd, IsMapOf, SpellsKind, SpellsStyle, istd_base}
use Rattle.part_skips.specs.Sheets.{SkipsCounted, SkipsBothLists, SkipsOneList, StaysOther, SkipsStd}

-- ---- maps

pub map_before : (old new : List ℕ) (groups : ℕ) (made : Properties) → HoldsNoPictures groups → SkipsOrStays old new →
    IsMapOf new groups made → IsMapOf old groups made
map_before old new groups made none skips is = elim skips [
  | inr stays ↦ subst (λ l. IsMapOf l groups made) stays.1 is
  | inl s ↦
      let same = spelt_unique new is.list (map skipped s.prls) is.spelt s.skips in
      record {
        list = s.prls;
        spelt = s.spelt;
        acted = (make_skips s.prls groups empty made none).0
            (subst (λ l. ArePropertiesAfter l groups empty made) same is.acted);
      }
]

pub map_after : (old new : List ℕ) (groups : ℕ) (made : Properties) → HoldsNoPictures groups → SkipsOrStays old new →
    IsMapOf old groups made → IsMapOf new groups made
map_after old new groups made none skips is = elim skips [
  | inr stays ↦ subst (λ l. IsMapOf l groups made) (sym stays.1) is
  | inl s ↦
      let same = spelt_unique old is.list s.prls is.spelt s.spelt in
      record {
        list = map skipped s.prls;
        spelt = s.skips;
        acted = (make_skips s.prls groups empty made none).1
            (subst (λ l. ArePropertiesAfter l groups empty made) same is.acted);
      }
]

-- ---- a list that is put

-- outside of a range the bytes stay, and in it they are skipped
pub record IsPut (old new : List ℕ) (from to : ℕ) : Type 0 where
  pub len : length new ≡ length old
  pub below : (i : ℕ) → i < from → slice_index new i ≡ slice_index old i
  pub above : (i : ℕ) → to ≤ i → slice_index new i ≡ slice_index old i
  pub skips : SkipsOrStays (slice_range old from to) (slice_range new from to)

pub is_put : (old new : List ℕ) (from to : ℕ) → from ≤ to → to ≤ length old → PutsSkipped old new from to →
    IsPut old new from to
is_put old new from to ordered within p =
    let inside : from ≤ length old = omega arith in
    record {
      len = put_length old new p.mid from to ordered within p.len p.put;
      below = λ i low. put_before old new p.mid from to i inside low p.put;
      above = λ i high. put_after old new p.mid from to i ordered within p.len high p.put;
      skips = subst (SkipsOrStays (slice_range old from to))
          (sym (put_range old new p.mid from to ordered within p.len p.put)) p.skips;
    }

-- ---- numbers and places

pub word_same : (old new : List ℕ) (at n : ℕ) → ((i : ℕ) → i < n → slice_index new i ≡ slice_index old i) → at + 2 ≤ n →
    u16_at new at ≡ u16_at old at
word_same old new at n same low = number_at-same new old at at 2 (λ i below. same (at + i) (omega arith))

-- the upxes begin behind the name
pub upxes_low : (std : List ℕ) (base : ℕ) → base + 4 ≤ upx_place std base 0
upxes_low std base = omega arith

-- the front of a style is that of another one, up to the count of its first upx
abbrev pub SameFront : ℕ → List ℕ → List ℕ → Type 0
SameFront base old new = (i : ℕ) → i < upx_place old base 0 + 2 → slice_index new i ≡ slice_index old i

pub first_same : (base : ℕ) (old new : List ℕ) → SameFront base old new → upx_place new base 0 ≡ upx_place old base 0
first_same base old new same =
    let low = upxes_low old base in
    ap (λ n. even_up (base + 4 + 2 * n)) (word_same old new base (upx_place old base 0 + 2) same (omega arith))

-- where the first upx ends
pub first_end : (base : ℕ) (old new : List ℕ) → SameFront base old new →
    counted_end new (upx_place new base 0) ≡ counted_end old (upx_place old base 0)
first_end base old new same =
    let place = first_same base old new same in
    ap (counted_end new) place
    ∙ ap (λ n. upx_place old base 0 + 2 + n)
    (word_same old new (upx_place old base 0) (upx_place old base 0 + 2) same (omega arith))

pub second_same : (base : ℕ) (old new : List ℕ) → SameFront base old new → upx_place new base 1 ≡ upx_place old base 1
second_same base old new same = ap even_up (first_end base old new same)

pub stk_same : (base : ℕ) (old new : List ℕ) → SameFront base old new → stk new ≡ stk old
stk_same base old new same =
    let low = upxes_low old base in
    ap (λ n. n % 16) (word_same old new 2 (upx_place old base 0 + 2) same (omega arith))

back_front : (base : ℕ) (old new : List ℕ) → SameFront base old new → SameFront base new old
back_front base old new same =
    λ i low. let place = first_same base old new same in sym (same i (omega arith))

-- ---- a style of paragraphs

pub record HasBothLists (base : ℕ) (old new : List ℕ) : Type 0 where
  pub len : length new ≡ length old
  pub front : SameFront base old new
  pub second : u16_at new (upx_place old base 1) ≡ u16_at old (upx_place old base 1)
  pub pap : SkipsOrStays (paragraph_list old base) (paragraph_list new base)
  pub chp : SkipsOrStays (upx old base 1) (upx new base 1)

pub both_lists : (base : ℕ) (old new : List ℕ) → IsStd old base → SkipsBothLists base old new →
    HasBothLists base old new
both_lists base old new std s =
    let p = upx_place old base 0 in
    let q = upx_place old base 1 in
    let two = std.kind.para s.para in
    let first_within = std.upxes.within 0 (omega (arith, two)) in
    let second_within = std.upxes.within 1 (omega (arith, two)) in
    let istd = std.istd s.para in
    let end = counted_end old p in
    let order : p + 2 + 2 ≤ end = omega arith in
    let one = is_put old s.mid (p + 2 + 2) end order first_within s.first in
    let behind : end ≤ q = omega arith in
    let count : u16_at s.mid q ≡ u16_at old q =
    number_at-same s.mid old q q 2 (λ i low. one.above (q + i) (omega arith)) in
    let mid_end : counted_end s.mid q ≡ counted_end old q = ap (λ n. q + 2 + n) count in
    let len = one.len in
    let none : q + 2 + 0 ≡ q + 2 = omega arith in
    let other = is_put s.mid new (q + 2) (counted_end s.mid q) (omega arith) (omega arith)
    (subst (λ n. PutsSkipped s.mid new n (counted_end s.mid q)) none s.second) in
    let front : SameFront base old new = λ i low. other.below i (omega arith) ∙ one.below i (omega arith) in
    let all = other.len in
    let new_p = first_same base old new front in
    let new_end = first_end base old new front in
    let new_q = second_same base old new front in
    let pap_old : paragraph_list old base ≡ slice_range old (p + 2 + 2) end =
    drop_range old (p + 2) end 2 order in
    let pap_mid : slice_range new (p + 2 + 2) end ≡ slice_range s.mid (p + 2 + 2) end =
    range_same new s.mid (p + 2 + 2) end (omega arith) (omega arith) (λ i low high. other.below i (omega arith)) in
    let pap_new : paragraph_list new base ≡ slice_range new (p + 2 + 2) end =
    ap (drop 2) (ap (λ n. slice_range new (n + 2) (counted_end new (upx_place new base 0))) new_p
    ∙ ap (slice_range new (p + 2)) new_end) ∙ drop_range new (p + 2) end 2 order in
    let chp_count : u16_at new q ≡ u16_at s.mid q =
    number_at-same new s.mid q q 2 (λ i low. other.below (q + i) (omega arith)) in
    let chp_end : counted_end new q ≡ counted_end s.mid q = ap (λ n. q + 2 + n) chp_count in
    let chp_new : upx new base 1 ≡ slice_range new (q + 2) (counted_end s.mid q) =
    ap (counted_bytes new) new_q ∙ ap (slice_range new (q + 2)) chp_end in
    let chp_old : upx old base 1 ≡ slice_range s.mid (q + 2) (counted_end s.mid q) =
    sym (range_same s.mid old (q + 2) (counted_end old q) (omega arith) second_within
    (λ i low high. one.above i (omega arith))) ∙ ap (slice_range s.mid (q + 2)) (sym mid_end) in
    record {
      len = all ∙ len;
      front = front;
      second = chp_count ∙ count;
      pap = subst (λ l. SkipsOrStays l (paragraph_list new base)) (sym pap_old)
          (subst (SkipsOrStays (slice_range old (p + 2 + 2) end)) (sym (pap_new ∙ pap_mid)) one.skips);
      chp = subst (λ l. SkipsOrStays l (upx new base 1)) (sym chp_old)
          (subst (SkipsOrStays (slice_range s.mid (q + 2) (counted_end s.mid q))) (sym chp_new) other.skips);
    }

-- the second list is still counted where the first is skipped
pub second_counted : (base : ℕ) (old mid : List ℕ) → IsStd old base → stk old ≡ 1 →
    SkipsCounted (upx_place old base 0) 2 old mid → IsCountedPart mid (upx_place old base 1)
second_counted base old mid std para first =
    let p = upx_place old base 0 in
    let q = upx_place old base 1 in
    let two = std.kind.para para in
    let first_within = std.upxes.within 0 (omega (arith, two)) in
    let second_within = std.upxes.within 1 (omega (arith, two)) in
    let istd = std.istd para in
    let end = counted_end old p in
    let order : p + 2 + 2 ≤ end = omega arith in
    let one = is_put old mid (p + 2 + 2) end order first_within first in
    let behind : end ≤ q = omega arith in
    let count : u16_at mid q ≡ u16_at old q =
    number_at-same mid old q q 2 (λ i low. one.above (q + i) (omega arith)) in
    let len = one.len in
    omega arith

-- ---- a style of characters

pub record HasOneList (base : ℕ) (old new : List ℕ) : Type 0 where
  pub len : length new ≡ length old
  pub front : SameFront base old new
  pub chp : SkipsOrStays (upx old base 0) (upx new base 0)

pub one_list : (base : ℕ) (old new : List ℕ) → IsStd old base → SkipsOneList base old new → HasOneList base old new
one_list base old new std s =
    let p = upx_place old base 0 in
    let one = std.kind.char s.char in
    let within = std.upxes.within 0 (omega (arith, one)) in
    let end = counted_end old p in
    let none : p + 2 + 0 ≡ p + 2 = omega arith in
    let put = is_put old new (p + 2) end (omega arith) within (subst (λ n. PutsSkipped old new n end) none s.list) in
    let front : SameFront base old new = λ i low. put.below i (omega arith) in
    let new_p = first_same base old new front in
    let new_end = first_end base old new front in
    let chp_new : upx new base 0 ≡ slice_range new (p + 2) end =
    ap (λ n. slice_range new (n + 2) (counted_end new (upx_place new base 0))) new_p
    ∙ ap (slice_range new (p + 2)) new_end in
    record { len = put.len; front = front; chp = subst (SkipsOrStays (upx old base 0)) (sym chp_new) put.skips }

-- ---- what a style is

-- a style that another one's front and kind has
style_like : (base : ℕ) (old new : List ℕ) (style : Style) → SameFront base old new →
    (SpellsKind old base style.kind → SpellsKind new base style.kind) → SpellsStyle old base style → 8 < base →
    SpellsStyle new base style
style_like base old new style same kinds is high =
    let low = upxes_low old base in
    let word : (at : ℕ) → at + 2 ≤ upx_place old base 0 + 2 → u16_at new at ≡ u16_at old at =
    λ at below. word_same old new at (upx_place old base 0 + 2) same below in
    let first = word 0 (omega arith) in
    let len = word base (omega arith) in
    let count = is.name.count in
    record {
      sti = is.sti ∙ ap (λ n. n % 4096) (sym first);
      flags = is.flags ∙ ap (λ n. n / 4096) (sym first);
      base = is.base ∙ ap (λ n. istd_base (n / 16)) (sym (word 2 (omega arith)));
      next = is.next ∙ ap (λ n. n / 16) (sym (word 4 (omega arith)));
      grfstd = is.grfstd ∙ sym (word 8 (omega arith));
      name = record {
        count = count ∙ sym len;
        each = λ i below. is.name.each i (omega arith) ∙ sym (word (base + 2 + 2 * i) (omega arith));
      };
      kind = kinds is.kind;
    }

para_kind : (base : ℕ) (old new : List ℕ) (kind : Kind) → stk old ≡ 1 → stk new ≡ 1 →
    ((made : Properties) → IsMapOf (paragraph_list old base) paragraph_groups made → IsMapOf (paragraph_list new base)
    paragraph_groups made) →
    ((made : Properties) → IsMapOf (upx old base 1) character_groups made → IsMapOf (upx new base 1) character_groups
    made) → SpellsKind old base kind → SpellsKind new base kind
para_kind base old new (Para pap chp) was now paps chps is = (now, (paps pap is.1.0, chps chp is.1.1))
para_kind base old new (Char chp) was now paps chps is = absurd (let two = is.0 in omega arith)
para_kind base old new (Other number upxes) was now paps chps is = absurd (let three = is.1.0 in omega arith)

char_kind : (base : ℕ) (old new : List ℕ) (kind : Kind) → stk old ≡ 2 → stk new ≡ 2 →
    ((made : Properties) → IsMapOf (upx old base 0) character_groups made → IsMapOf (upx new base 0) character_groups
    made) → SpellsKind old base kind → SpellsKind new base kind
char_kind base old new (Para pap chp) was now chps is = absurd (let one = is.0 in omega arith)
char_kind base old new (Char chp) was now chps is = (now, chps chp is.1)
char_kind base old new (Other number upxes) was now chps is = absurd (let three = is.1.0 in omega arith)

pub style_before : (base : ℕ) (old new : List ℕ) (style : Style) → IsStd old base → 8 < base →
    SkipsStd base old new → SpellsStyle new base style → SpellsStyle old base style
style_before base old new style std high skips is = elim skips [
  | inl para ↦
      let has = both_lists base old new std para in
      let back = back_front base old new has.front in
      let now = stk_same base old new has.front ∙ para.para in
      style_like base new old style back
      (para_kind base new old style.kind now para.para
      (λ made. map_before (paragraph_list old base) (paragraph_list new base) paragraph_groups made refl has.pap)
      (λ made. map_before (upx old base 1) (upx new base 1) character_groups made refl has.chp)) is high
  | inr others ↦ elim others [
    | inl char ↦
        let has = one_list base old new std char in
        let back = back_front base old new has.front in
        let now = stk_same base old new has.front ∙ char.char in
        style_like base new old style back
        (char_kind base new old style.kind now char.char
        (λ made. map_before (upx old base 0) (upx new base 0) character_groups made refl has.chp)) is high
    | inr stays ↦ subst (λ l. SpellsStyle l base style) stays.same is
  ]
]

pub style_after : (base : ℕ) (old new : List ℕ) (style : Style) → IsStd old base → 8 < base →
    SkipsStd base old new → SpellsStyle old base style → SpellsStyle new base style
style_after base old new style std high skips is = elim skips [
  | inl para ↦
      let has = both_lists base old new std para in
      let now = stk_same base old new has.front ∙ para.para in
      style_like base old new style has.front
      (para_kind base old new style.kind para.para now
      (λ made. map_after (paragraph_list old base) (paragraph_list new base) paragraph_groups made refl has.pap)
      (λ made. map_after (upx old base 1) (upx new base 1) character_groups made refl has.chp)) is high
  | inr others ↦ elim others [
    | inl char ↦
        let has = one_list base old new std char in
        let now = stk_same base old new has.front ∙ char.char in
        style_like base old new style has.front
        (char_kind base old new style.kind char.char now
        (λ made. map_after (upx old base 0) (upx new base 0) character_groups made refl has.chp)) is high
    | inr stays ↦ subst (λ l. SpellsStyle l base style) (sym stays.same) is
  ]
]
