-- Bases that are taken away, one after the other.
use Rattle.std.proofs.Common.{◌≡◌, ◌∙◌, ap, sym, refl, subst, ℕ, ◌+◌, ◌<◌, inl, inr}
use Rattle.std.proofs.Common.{Bool, true, false, List, [], ◌∷◌, ◌++◌, length, length-set, slice_set, arith, Option, Some, None}
use Rattle.std.proofs.Common.{slice_get, get_or, take}
use Rattle.std.specs.Prelude.{All, IsTrue, ◌↔◌, slice_index_or, if◌then◌else◌, filter}
use Rattle.std.proofs.lemmas.Bool.{cases_lt, cases_eq}
use Rattle.std.proofs.lemmas.Bool.Decides.{nat_tests}
use Rattle.std.proofs.lemmas.List.{get_or-set_same, get_or-set_other, get_or_append_left, length-append, append-nil}
use Rattle.std.proofs.Math.Seq.{get_or-append_seam}
use Rattle.std.specs.List.{Contains}
use Rattle.std.specs.List.Sorted.{IsStrictlyIncreasing}
use Rattle.std.proofs.lemmas.List.Elements.{All-nil, All-get_or, Contains-append_left, Contains-push}
use Rattle.std.proofs.lemmas.List.Sums.{fold-append, fold_more}
use Rattle.std.proofs.lemmas.List.Elements.{All-push, All-weaker}
use Rattle.std.proofs.lemmas.Option.{get_or_from_slice_get}
use Rattle.style_sheet.specs.declared.styles.Style.{Style}
use Rattle.style_sheet.specs.Sheet.{Sheet, style_at}
use Rattle.style_sheet.specs.Chain.{style_kind_at, style_kind_in, HasNoChain}
use Rattle.style_sheet.specs.Changes.{as_root, put_as_root, base_dropped, with_style}
use Rattle.doc_mends.specs.Bases.{has_other_base, bases_dropped, AreEndless}
use Rattle.doc_bits.proofs.Public.{get_or-behind}

-- ---- kinds and numbers of slots stay

within : (styles : List (Option Style)) (istd : ℕ) (style : Style) → slice_index_or styles istd None ≡ Some style →
    istd < length styles
within styles istd style is = elim (cases_lt istd (length styles)) [
  | inl low ↦ low
  | inr behind ↦ absurd (cc (sym (get_or-behind styles istd None behind) ∙ is))
]

kind_stays : (sheet : Sheet) (istd other : ℕ) (style : Style) → style_at sheet istd ≡ Some style →
    style_kind_at (with_style sheet istd (as_root style)) other ≡ style_kind_at sheet other
kind_stays sheet istd other style is = elim (cases_eq other istd) [
  | inl same ↦
      let low = within sheet.styles istd style is in
      ap style_kind_in (ap (λ (n : ℕ). get_or (slice_set sheet.styles istd (Some (as_root style))) n None) same
      ∙ get_or-set_same sheet.styles istd (Some (as_root style)) None low)
      ∙ (sym (ap style_kind_in is) ∙ ap (style_kind_at sheet) (sym same))
  | inr apart ↦ ap style_kind_in (get_or-set_other sheet.styles istd other (Some (as_root style)) None apart)
]

by_style : (sheet : Sheet) (istd other : ℕ) (o : Option Style) → style_at sheet istd ≡ o →
    style_kind_at (put_as_root sheet istd o) other ≡ style_kind_at sheet other
by_style sheet istd other None is = refl
by_style sheet istd other (Some style) is = kind_stays sheet istd other style is

pub kinds_stay : (sheet : Sheet) (istd other : ℕ) → style_kind_at (base_dropped sheet istd) other ≡ style_kind_at sheet
    other
kinds_stay sheet istd other = by_style sheet istd other (style_at sheet istd) refl

pub all_kinds_stay : (istds : List ℕ) (sheet : Sheet) (other : ℕ) → style_kind_at (bases_dropped istds sheet) other ≡
    style_kind_at
    sheet other
all_kinds_stay [] sheet other = refl
all_kinds_stay (istd ∷ istds) sheet other =
    all_kinds_stay istds (base_dropped sheet istd) other ∙ kinds_stay sheet istd other

slots_by_style : (sheet : Sheet) (istd : ℕ) (o : Option Style) → length (put_as_root sheet istd o).styles ≡ length
    sheet.styles
slots_by_style sheet istd None = refl
slots_by_style sheet istd (Some style) = length-set sheet.styles istd (Some (as_root style))

pub slots_stay : (istds : List ℕ) (sheet : Sheet) → length (bases_dropped istds sheet).styles ≡ length sheet.styles
slots_stay [] sheet = refl
slots_stay (istd ∷ istds) sheet =
    slots_stay istds (base_dropped sheet istd) ∙ slots_by_style sheet istd (style_at sheet istd)

-- ---- one more

pub dropped_more : (istds : List ℕ) (sheet : Sheet) (k istd : ℕ) → k < length istds → slice_get istds k ≡ Some istd →
    bases_dropped (take (k + 1) istds) sheet ≡ base_dropped (bases_dropped (take k istds) sheet) istd
dropped_more istds sheet k istd low is =
    fold_more base_dropped sheet istds k 0 low
    ∙ ap (base_dropped (bases_dropped (take k istds) sheet)) (get_or_from_slice_get istds k istd 0 is)

pub drops_joined : (one more : List ℕ) (sheet : Sheet) → bases_dropped (one ++ more) sheet ≡ bases_dropped more
    (bases_dropped one sheet)
drops_joined one more sheet = fold-append base_dropped sheet one more

pub other_kind : (sheet : Sheet) (istd : ℕ) → has_other_base sheet istd ≡ true → 0 < style_kind_at sheet istd
other_kind sheet istd is = grind (arith, nat_tests)

-- ---- styles whose bases do not end

pub none_endless : (sheet : Sheet) → AreEndless sheet 0 []
none_endless sheet = record {
  below = All-nil (λ (istd : ℕ). istd < 0);
  each = All-nil (HasNoChain sheet);
  all = λ istd low none. absurd (omega (arith, low));
  ascend = λ k low. absurd (omega (arith, low));
}

more_below : (count : ℕ) (istds : List ℕ) → All (λ istd. istd < count) istds → All (λ istd. istd < count + 1) istds
more_below count istds below =
    All-weaker (λ (istd : ℕ). istd < count) (λ (istd : ℕ). istd < count + 1) (λ istd low. omega (arith, low)) istds below

pub one_ends : (sheet : Sheet) (count : ℕ) (istds : List ℕ) → AreEndless sheet count istds →
    ¬ (HasNoChain sheet count) → AreEndless sheet (count + 1) istds
one_ends sheet count istds were ends = record {
  below = more_below count istds were.below;
  each = were.each;
  all = λ istd low none. elim (cases_lt istd count) [
    | inl before ↦ were.all istd before none
    | inr here ↦
        let same : istd ≡ count = omega (arith, low, here) in
        absurd (ends (subst (HasNoChain sheet) same none))
  ];
  ascend = were.ascend;
}

ascends_more : (count : ℕ) (istds : List ℕ) → All (λ istd. istd < count) istds → IsStrictlyIncreasing istds →
    IsStrictlyIncreasing (istds ++ count ∷ [])
ascends_more count istds below ascend k low = elim (cases_lt (k + 1) (length istds)) [
  | inl before ↦
      let here : get_or (istds ++ count ∷ []) k 0 ≡ get_or istds k 0 =
      get_or_append_left istds (count ∷ []) 0 k (omega (arith, before)) in
      let next : get_or (istds ++ count ∷ []) (k + 1) 0 ≡ get_or istds (k + 1) 0 =
      get_or_append_left istds (count ∷ []) 0 (k + 1) before in
      let up : get_or istds k 0 < get_or istds (k + 1) 0 = ascend k before in
      omega (arith, here, next, up)
  | inr behind ↦
      let len : length (istds ++ count ∷ []) ≡ length istds + 1 = length-append istds (count ∷ []) in
      let last : k + 1 ≡ length istds = omega (arith, low, behind, len) in
      let inside : k < length istds = omega (arith, last) in
      let here : get_or (istds ++ count ∷ []) k 0 ≡ get_or istds k 0 =
      get_or_append_left istds (count ∷ []) 0 k inside in
      let next : get_or (istds ++ count ∷ []) (k + 1) 0 ≡ count =
      ap (λ (n : ℕ). get_or (istds ++ count ∷ []) n 0) last ∙ get_or-append_seam istds count [] 0 in
      let up : get_or istds k 0 < count = All-get_or (λ (istd : ℕ). istd < count) istds k 0 inside below in
      omega (arith, here, next, up)
]

pub one_endless : (sheet : Sheet) (count : ℕ) (istds : List ℕ) → AreEndless sheet count istds →
    HasNoChain sheet count → AreEndless sheet (count + 1) (istds ++ count ∷ [])
one_endless sheet count istds were endless = record {
  below =
      All-push (λ (istd : ℕ). istd < count + 1) istds count (more_below count istds were.below) (omega arith);
  each = All-push (HasNoChain sheet) istds count were.each endless;
  all = λ istd low none. elim (cases_lt istd count) [
    | inl before ↦ Contains-append_left istds (count ∷ []) istd (were.all istd before none)
    | inr here ↦
        let same : count ≡ istd = omega (arith, low, here) in
        subst (Contains (istds ++ count ∷ [])) same (Contains-push istds count)
  ];
  ascend = ascends_more count istds were.below were.ascend;
}

-- ---- a style more

one_or_none : (sheet : Sheet) (count : ℕ) (istds : List ℕ) (is : Bool) → AreEndless sheet count istds →
    (is ≡ true → HasNoChain sheet count) → (is ≡ false → ¬ (HasNoChain sheet count)) →
    AreEndless sheet (count + 1) (istds ++ (if is then count ∷ [] else []))
one_or_none sheet count istds true were endless ends = one_endless sheet count istds were (endless refl)
one_or_none sheet count istds false were endless ends =
    subst (AreEndless sheet (count + 1)) (sym (append-nil istds)) (one_ends sheet count istds were (ends refl))

pub judged_one : (sheet : Sheet) (count : ℕ) (istds : List ℕ) (is : Bool) → AreEndless sheet count istds →
    (IsTrue is ↔ HasNoChain sheet count) → AreEndless sheet (count + 1) (istds ++ (if is then count ∷ [] else []))
judged_one sheet count istds is were judged =
    one_or_none sheet count istds is were (λ yes. judged.0 yes)
    (λ no none. let yes : is ≡ true = judged.1 none in absurd (cc (sym yes ∙ no)))

pub kinds_one : (P : ℕ → Type 0) (istds : List ℕ) (istd : ℕ) (is : Bool) → All P istds → (is ≡ true → P istd) →
    All P (istds ++ (if is then istd ∷ [] else []))
kinds_one P istds istd true all here = All-push P istds istd all (here refl)
kinds_one P istds istd false all here = subst (All P) (sym (append-nil istds)) all

pub one_filtered : (p : ℕ → Bool) (istd : ℕ) (is : Bool) → is ≡ p istd →
    (if is then istd ∷ [] else []) ≡ filter p (istd ∷ [])
one_filtered p istd true is = rw (← is) refl
one_filtered p istd false is = rw (← is) refl
