-- A style sheet and the Prcs of a Clx are skipped in one way.
use Rattle.std.specs.Prelude.{slice_range}
use Rattle.std.proofs.Common.{◌≡◌, inl, inr, ℕ, suc, ◌+◌, ◌-◌, ◌<◌, ◌≤◌, List, [], ◌∷◌, ◌++◌, length, take, drop}
use Rattle.std.proofs.Common.{slice_index, flat_map, refl, sym, ap, ◌∙◌, subst, arith}
use Rattle.std.proofs.lemmas.Bool.{cases_lt, cases_eq}
use Rattle.std.proofs.lemmas.List.{ext_get_or, length-append, drop-drop}
use borrow.Rule.Slice.PartMut.{put_mid}
use Rattle.prl_skips.proofs.Public.{byte_of_range, puts_one, or_one}
use Rattle.doc_bits.specs.Number.{u16_at}
use Rattle.piece_table.specs.Clx.{prc_bytes}
use Rattle.piece_table.proofs.Public.{prcs_unique}
use Rattle.style_sheet.specs.Counted.{counted_end, counted_bytes}
use Rattle.style_sheet.specs.StyleDefinition.{upx_place}
use Rattle.style_sheet.specs.Stsh.{cstd, std_base, slot_place}
use Rattle.part_skips.specs.Sheets.{SkipsBothLists, SkipsStd, IsInNoStyle, SkipsSlots, SkipsSheet, SkipsCounted}
use Rattle.part_skips.specs.Sheets.{PutsSheet}
use Rattle.part_skips.specs.Prcs.{AreListsSkipped, SkipsPrcs, PutsPrcs}
use Rattle.part_skips.proofs.PrcLemmas.{length-prc}

both_one : (base : ℕ) (old a b : List ℕ) → SkipsBothLists base old a → SkipsBothLists base old b → a ≡ b
both_one base old a b one other =
    let p = upx_place old base 0 in
    let q = upx_place old base 1 in
    let mid : one.mid ≡ other.mid =
    puts_one old one.mid other.mid (p + 2 + 2) (counted_end old p) one.first other.first in
    puts_one other.mid a b (q + 2 + 0) (counted_end other.mid q) (subst (λ m. SkipsCounted q 0 m a) mid one.second)
    other.second

std_one : (base : ℕ) (old a b : List ℕ) → SkipsStd base old a → SkipsStd base old b → a ≡ b
std_one base old a b (inl one) (inl other) = both_one base old a b one other
std_one base old a b (inl one) (inr (inl other)) = absurd (omega (arith, one.para, other.char))
std_one base old a b (inl one) (inr (inr other)) = absurd (other.no_para one.para)
std_one base old a b (inr (inl one)) (inl other) = absurd (omega (arith, one.char, other.para))
std_one base old a b (inr (inl one)) (inr (inl other)) =
    let p = upx_place old base 0 in
    puts_one old a b (p + 2 + 0) (counted_end old p) one.list other.list
std_one base old a b (inr (inl one)) (inr (inr other)) = absurd (other.no_char one.char)
std_one base old a b (inr (inr one)) (inl other) = absurd (one.no_para other.para)
std_one base old a b (inr (inr one)) (inr (inl other)) = absurd (one.no_char other.char)
std_one base old a b (inr (inr one)) (inr (inr other)) = one.same ∙ sym other.same

-- a byte of a style
style_byte : (old a b : List ℕ) (istd i : ℕ) → SkipsSlots old a → SkipsSlots old b → istd < cstd old →
    slot_place old istd + 2 ≤ i → i < counted_end old (slot_place old istd) → slice_index a i ≡ slice_index b i
style_byte old a b istd i one other below from to =
    let p = slot_place old istd in
    let mine = one.slots istd below in
    let its = other.slots istd below in
    let some : 0 < u16_at old p = omega (arith, from, to) in
    let a_end : counted_end a p ≡ counted_end old p = ap (λ n. p + 2 + n) mine.count in
    let b_end : counted_end b p ≡ counted_end old p = ap (λ n. p + 2 + n) its.count in
    let std : counted_bytes a p ≡ counted_bytes b p =
    std_one (std_base old) (counted_bytes old p) (counted_bytes a p) (counted_bytes b p) (mine.std some)
    (its.std some) in
    byte_of_range a b (p + 2) (counted_end old p) i from to
    (sym (ap (slice_range a (p + 2)) a_end) ∙ (std ∙ ap (slice_range b (p + 2)) b_end))

-- a byte that two skipped sheets have not alike would be in no style
slots_byte : (old a b : List ℕ) (i : ℕ) → SkipsSlots old a → SkipsSlots old b → slice_index a i ≡ slice_index b i
slots_byte old a b i one other = elim (cases_eq (slice_index a i) (slice_index b i)) [
  | inl same ↦ same
  | inr differ ↦
      let none : IsInNoStyle old (cstd old) i = λ istd below. elim (cases_lt i (slot_place old istd + 2)) [
        | inl before ↦ inl before
        | inr after ↦ elim (cases_lt i (counted_end old (slot_place old istd))) [
          | inr behind ↦ inr behind
          | inl inside ↦ absurd (differ (style_byte old a b istd i one other below after inside))
        ]
      ] in
      one.outside i none ∙ sym (other.outside i none)
]

pub sheet_one : (old a b : List ℕ) → SkipsSheet old a → SkipsSheet old b → a ≡ b
sheet_one old a b (inl one) (inl other) =
    ext_get_or 0 a b (one.len ∙ sym other.len) (λ i low. slots_byte old a b i one other)
sheet_one old a b (inl one) (inr stays) = absurd (stays.wrong (one.stshif, one.are))
sheet_one old a b (inr stays) (inl other) = absurd (stays.wrong (other.stshif, other.are))
sheet_one old a b (inr one) (inr other) = one.same ∙ sym other.same

-- so is one in a stream
pub puts_sheet_one : (from to : ℕ) (old a b : List ℕ) → PutsSheet from to old a → PutsSheet from to old b → a ≡ b
puts_sheet_one from to old a b one other =
    let sheet : one.sheet ≡ other.sheet =
    sheet_one (slice_range old from to) one.sheet other.sheet one.skips other.skips in
    one.put ∙ (ap (λ l. take from old ++ (l ++ drop to old)) sheet ∙ sym other.put)

-- ---- Prcs

-- the lists behind the first one
left_lists : (list made : List ℕ) (lists others : List (List ℕ)) → AreListsSkipped (list ∷ lists) (made ∷ others) →
    AreListsSkipped lists others
left_lists list made lists others are = record {
  count = omega (arith, are.count);
  each = λ k one other there here. are.each (suc k) one other there here;
}

lists_one : (lists a b : List (List ℕ)) → AreListsSkipped lists a → AreListsSkipped lists b → a ≡ b
lists_one [] [] [] one other = refl
lists_one [] [] (q ∷ b) one other = absurd (omega (arith, other.count))
lists_one [] (p ∷ a) b one other = absurd (omega (arith, one.count))
lists_one (list ∷ lists) [] b one other = absurd (omega (arith, one.count))
lists_one (list ∷ lists) (p ∷ a) [] one other = absurd (omega (arith, other.count))
lists_one (list ∷ lists) (p ∷ a) (q ∷ b) one other =
    let first : p ≡ q =
    or_one list p q (one.each 0 list p refl refl).skips (other.each 0 list q refl refl).skips in
    let rest : a ≡ b = lists_one lists a b (left_lists list p lists a one) (left_lists list q lists b other) in
    λ i. first i ∷ rest i

-- Prcs are skipped in one way
pub prcs_one : (old a b : List ℕ) → SkipsPrcs old a → SkipsPrcs old b → a ≡ b
prcs_one old a b one other =
    let same = prcs_unique one.prcs other.prcs one.rest other.rest one.sizes other.sizes (sym one.was ∙ other.was)
    one.no_more other.no_more in
    let made : one.made ≡ other.made =
    lists_one other.prcs one.made other.made (subst (λ l. AreListsSkipped l one.made) same.0 one.skips) other.skips in
    one.is ∙ ((λ i. flat_map prc_bytes (made i) ++ same.1 i) ∙ sym other.is)

-- as many bytes as before
lists_length : (lists made : List (List ℕ)) → AreListsSkipped lists made →
    length (flat_map prc_bytes made) ≡ length (flat_map prc_bytes lists)
lists_length [] [] are = refl
lists_length [] (p ∷ made) are = absurd (omega (arith, are.count))
lists_length (list ∷ lists) [] are = absurd (omega (arith, are.count))
lists_length (list ∷ lists) (p ∷ made) are =
    let first = (are.each 0 list p refl refl).len in
    let heads : length (prc_bytes p) ≡ length (prc_bytes list) =
    length-prc p ∙ (ap (λ n. 3 + n) first ∙ sym (length-prc list)) in
    let rest = lists_length lists made (left_lists list p lists made are) in
    length-append (prc_bytes p) (flat_map prc_bytes made)
    ∙ ((λ i. heads i + rest i) ∙ sym (length-append (prc_bytes list) (flat_map prc_bytes lists)))

pub prcs_length : (old new : List ℕ) → SkipsPrcs old new → length new ≡ length old
prcs_length old new skips =
    omega (
      arith,
      ap length skips.is,
      ap length skips.was,
      length-append (flat_map prc_bytes skips.made) skips.rest,
      length-append (flat_map prc_bytes skips.prcs) skips.rest,
      lists_length skips.prcs skips.made skips.skips,
    )

-- those of a Clx in a stream
pub prcs_put : (old clx : List ℕ) (from to : ℕ) → from ≤ to → to ≤ length old →
    SkipsPrcs (slice_range old from to) clx → PutsPrcs from to old (put_mid from (to - from) old clx)
prcs_put old clx from to ordered within skips =
    let end : from + (to - from) ≡ to = omega (arith, ordered) in
    record {
      clx = clx;
      skips = skips;
      len = prcs_length (slice_range old from to) clx skips;
      put = ap (λ l. take from old ++ (clx ++ l)) (drop-drop (to - from) from old ∙ ap (λ n. drop n old) end);
    }

pub puts_prcs_one : (from to : ℕ) (old a b : List ℕ) → PutsPrcs from to old a → PutsPrcs from to old b → a ≡ b
puts_prcs_one from to old a b one other =
    let clx : one.clx ≡ other.clx =
    prcs_one (slice_range old from to) one.clx other.clx one.skips other.skips in
    one.put ∙ (ap (λ l. take from old ++ (l ++ drop to old)) clx ∙ sym other.put)
