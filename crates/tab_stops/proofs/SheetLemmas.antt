-- The slots of a sheet, and the list of a style.
use Rattle.std.specs.Prelude.{slice_range}
use Rattle.std.proofs.Common.{◌≡◌, ◌≢◌, ◌∙◌, refl, sym, ap, subst, inl, inr, ℕ, suc, ◌+◌, ◌<◌, ◌≤◌, List, arith, drop, Some}
use Rattle.doc_bits.specs.Number.{u16_at}
use Rattle.doc_bits.specs.Rules.{Among, LeastOrNone}
use Rattle.prl_skips.proofs.Public.{drop_range}
use Rattle.style_sheet.specs.Counted.{counted_bytes, counted_end, even_up}
use Rattle.style_sheet.specs.StyleDefinition.{stk, upx_place, paragraph_list}
use Rattle.style_sheet.specs.Stsh.{cstd, std_base, slot_place, IsWrongSlot}
use Rattle.tab_stops.specs.Lists.{AreListStops, PushesStops}
use Rattle.tab_stops.specs.Sheets.{AreStyleStops, AreSlotStops, AreSheetStops}
use Rattle.tab_stops.proofs.ListLemmas.{pushes_none}

-- the next slot is where the next count is
pub next_slot : (part : List ℕ) (k place next : ℕ) → place ≡ slot_place part k → next ≡ even_up (counted_end part place) →
    next ≡ slot_place part (k + 1)
next_slot part k place next here is =
    let count : suc k ≡ k + 1 = omega arith in
    is ∙ (ap (λ p. even_up (counted_end part p)) here ∙ ap (slot_place part) count)

-- a slot by its number
pub slot_here : (part : List ℕ) (at base place istd : ℕ) (old new : List ℕ) → base ≡ std_base part →
    place ≡ slot_place part istd → PushesStops (AreSlotStops part at base place) old new →
    PushesStops (λ here. AreSlotStops part at (std_base part) (slot_place part istd) here) old new
slot_here part at base place istd old new same here pushes = record {
  stops = pushes.stops;
  are_stops = subst (λ p. AreSlotStops part at (std_base part) p pushes.stops) here
      (subst (λ b. AreSlotStops part at b place pushes.stops) same pushes.are_stops);
  pushed = pushes.pushed;
}

-- the style in a slot
pub slot_some : (part std : List ℕ) (at base place begin : ℕ) (old new : List ℕ) → 0 < u16_at part place →
    std ≡ counted_bytes part place → begin ≡ at + (place + 2) → PushesStops (AreStyleStops std begin base) old new →
    PushesStops (AreSlotStops part at base place) old new
slot_some part std at base place begin old new some same here pushes = record {
  stops = pushes.stops;
  are_stops = inl (
    some,
    subst (λ n. AreStyleStops (counted_bytes part place) n base pushes.stops) here
        (subst (λ s. AreStyleStops s begin base pushes.stops) same pushes.are_stops),
  );
  pushed = pushes.pushed;
}

pub slot_none : (part : List ℕ) (at base place : ℕ) (old : List ℕ) → u16_at part place ≡ 0 →
    PushesStops (AreSlotStops part at base place) old old
slot_none part at base place old none = pushes_none (AreSlotStops part at base place) old (inr (none, refl))

-- the list of a style of paragraphs
pub style_some : (std list : List ℕ) (at base upx from to begin : ℕ) (old new : List ℕ) → stk std ≡ 1 →
    upx ≡ upx_place std base 0 → from ≡ upx + 4 → to ≡ counted_end std upx → list ≡ slice_range std from to →
    begin ≡ at + from → upx + 4 ≤ counted_end std upx → PushesStops (AreListStops list begin) old new → PushesStops (AreStyleStops std at base) old new
style_some std list at base upx from to begin old new para here first last same place room pushes =
    let four : upx + 4 ≡ upx + 2 + 2 = omega arith in
    let bytes : slice_range std (upx + 4) (counted_end std upx) ≡ drop 2 (counted_bytes std upx) =
    ap (λ f. slice_range std f (counted_end std upx)) four
    ∙ sym (drop_range std (upx + 2) (counted_end std upx) 2 (omega (arith, room))) in
    let behind : list ≡ paragraph_list std base =
    same
    ∙ (ap (λ f. slice_range std f to) first
    ∙ (ap (λ t. slice_range std (upx + 4) t) last ∙ (bytes ∙ ap (λ u. drop 2 (counted_bytes std u)) here))) in
    let begins : begin ≡ at + (upx_place std base 0 + 4) =
    place ∙ (ap (λ f. at + f) first ∙ ap (λ u. at + (u + 4)) here) in
    record {
      stops = pushes.stops;
      are_stops = inl (
        para,
        subst (λ n. AreListStops (paragraph_list std base) n pushes.stops) begins
            (subst (λ l. AreListStops l begin pushes.stops) behind pushes.are_stops),
      );
      pushed = pushes.pushed;
    }

pub style_none : (std : List ℕ) (at base : ℕ) (old : List ℕ) → stk std ≢ 1 →
    PushesStops (AreStyleStops std at base) old old
style_none std at base old other = pushes_none (AreStyleStops std at base) old (inr (other, refl))

-- a slot leaves the sheet, or holds no style
pub sheet_wrong : (part : List ℕ) (at place : ℕ) (old : List ℕ) →
    LeastOrNone (Among (cstd part) (IsWrongSlot part 0)) (Some place) → PushesStops (AreSheetStops part at) old old
sheet_wrong part at place old first =
    let among = first.broken in
    let wrong = among.broken in
    pushes_none (AreSheetStops part at) old (inr ((λ is. wrong.wrong (is.1 among.entry among.below)), refl))
