-- The pages of a stream, skipped one after the other.
use Rattle.std.proofs.Common.{◌≡◌, ◌≢◌, ◌⊎◌, inl, inr, ℕ, ◌+◌, ◌-◌, ◌*◌, ◌/◌, ◌<◌, ◌≤◌, Bool, true, false, List, ◌++◌}
use Rattle.std.proofs.Common.{length, take, drop, slice_index, Some, None, refl, sym, ap, ◌∙◌}
use Rattle.std.proofs.Common.{subst, arith}
use Rattle.std.proofs.lemmas.Bool.{cases_lt}
use Rattle.std.proofs.lemmas.List.{drop-drop}
use borrow.Rule.Slice.PartMut.{put_mid}
use Rattle.doc_bits.proofs.Public.{length-range}
use Rattle.prl_skips.proofs.Public.{range_same, put_length, put_before, put_after, put_range}
use Rattle.fkp_pages.specs.declared.kind.PageKind.{PageKind}
use Rattle.fkp_pages.specs.declared.kind.PageKind.TheVariants.{Chpx, Papx}
use Rattle.fkp_pages.specs.Bin.{page_at}
use Rattle.page_copies.specs.Names.{named_flag}
use Rattle.page_copies.specs.Pages.{BinTables, IsPageCopy, kind_alone, page_kind, SkipsPage, PutsPage, SkipsPages}

-- ---- the kind of a page by its marks

pub alike : (c p : Bool) → named_flag c ≡ named_flag p → kind_alone c p ≡ None
alike true true e = refl
alike true false e = absurd (omega (arith, e))
alike false true e = absurd (omega (arith, e))
alike false false e = refl

pub first_alone : (c p : Bool) → named_flag c ≢ named_flag p → named_flag c ≡ 1 → kind_alone c p ≡ Some Chpx
first_alone true true differ e = absurd (differ refl)
first_alone true false differ e = refl
first_alone false p differ e = absurd (omega (arith, e))

pub second_alone : (c p : Bool) → named_flag c ≢ named_flag p → named_flag c ≢ 1 → kind_alone c p ≡ Some Papx
second_alone true p differ other = absurd (other refl)
second_alone false true differ other = refl
second_alone false false differ other = absurd (differ refl)

-- ---- one page

-- a page that two streams have alike
pub page_same : (old new : List ℕ) (number : ℕ) → length new ≡ length old → 512 * number + 512 ≤ length old →
    ((i : ℕ) → 512 * number ≤ i → i < 512 * number + 512 → slice_index new i ≡ slice_index old i) →
    page_at new number ≡ page_at old number
page_same old new number len within same =
    range_same new old (512 * number) (512 * number + 512) (omega (arith, len, within)) within same

-- a page without a kind stays
pub page_stays : (number : ℕ) (old : List ℕ) → PutsPage None number old old
page_stays number old = record { len = refl; page = refl; outside = λ i out. refl }

-- what is written over a page
pub page_put : (kind : PageKind) (number : ℕ) (old mid : List ℕ) → 512 * number + 512 ≤ length old →
    IsPageCopy kind (page_at old number) mid → length mid ≡ length (page_at old number) →
    PutsPage (Some kind) number old (put_mid (512 * number) (512 * number + 512 - 512 * number) old mid)
page_put kind number old mid within copy len =
    let from = 512 * number in
    let to = 512 * number + 512 in
    let new = put_mid from (to - from) old mid in
    let ordered : from ≤ to = omega arith in
    let width = length-range old from to within in
    let size : length mid ≡ to - from = len ∙ width in
    let end : from + (to - from) ≡ to = omega arith in
    let put : new ≡ take from old ++ (mid ++ drop to old) =
    ap (λ l. take from old ++ (mid ++ l)) (drop-drop (to - from) from old ∙ ap (λ n. drop n old) end) in
    record {
      len = put_length old new mid from to ordered within size put;
      page = subst (IsPageCopy kind (page_at old number)) (sym (put_range old new mid from to ordered within size put))
          copy;
      outside = λ i out. elim out [
        | inl low ↦ put_before old new mid from to i (omega arith) low put
        | inr high ↦ put_after old new mid from to i ordered within size high put
      ];
    }

-- ---- the pages below a number

pub record PagesFront (bins : BinTables) (old now : List ℕ) (count : ℕ) : Type 0 where
  pub low : 2 ≤ count
  pub len : length now ≡ length old
  pub done : (number : ℕ) → 2 ≤ number → number < count → 512 * number + 512 ≤ length old →
      SkipsPage (page_kind bins number) (page_at old number) (page_at now number)
  pub rest : (i : ℕ) → 512 * count ≤ i → slice_index now i ≡ slice_index old i
  pub outside : (i : ℕ) → (i < 1024) ⊎ (512 * (length old / 512) ≤ i) → slice_index now i ≡ slice_index old i

pub pages_none : (bins : BinTables) (old : List ℕ) → PagesFront bins old old 2
pages_none bins old = record {
  low = omega arith;
  len = refl;
  done = λ number low below within. absurd (omega (arith, low, below));
  rest = λ i high. refl;
  outside = λ i out. refl;
}

pub pages_more : (bins : BinTables) (old now new : List ℕ) (count : ℕ) → PagesFront bins old now count →
    512 * count + 512 ≤ length old → PutsPage (page_kind bins count) count now new →
    PagesFront bins old new (count + 1)
pages_more bins old now new count front inside puts =
    let low = front.low in
    let len = front.len in
    let now_inside : 512 * count + 512 ≤ length now = omega (arith, len, inside) in
    let was : page_at now count ≡ page_at old count =
    page_same old now count len inside (λ i from to. front.rest i from) in
    record {
      low = omega (arith, low);
      len = puts.len ∙ len;
      done = λ number from below within. elim (cases_lt number count) [
        | inl before ↦
            let stays : page_at new number ≡ page_at now number =
            page_same now new number puts.len (omega (arith, len, within)) (λ i a b.
            puts.outside i (inl (omega (arith, before, b)))) in
            subst (SkipsPage (page_kind bins number) (page_at old number)) (sym stays)
            (front.done number from before within)
        | inr after ↦
            let here : number ≡ count = omega (arith, after, below) in
            subst (λ n. SkipsPage (page_kind bins n) (page_at old n) (page_at new n)) (sym here)
            (subst (λ p. SkipsPage (page_kind bins count) p (page_at new count)) was puts.page)
      ];
      rest = λ i high. puts.outside i (inr (omega (arith, high))) ∙ front.rest i (omega (arith, high));
      outside = λ i out.
          puts.outside i (elim out [
            | inl first ↦ inl (omega (arith, first, low))
            | inr last ↦ inr (omega (arith, last, inside))
          ]) ∙ front.outside i out;
    }

pub pages_all : (bins : BinTables) (old now : List ℕ) (count : ℕ) → PagesFront bins old now count →
    length old / 512 ≤ count → SkipsPages bins old now
pages_all bins old now count front all = record {
  len = front.len;
  pages = λ number low within. front.done number low (omega (arith, within, all)) within;
  outside = front.outside;
}
