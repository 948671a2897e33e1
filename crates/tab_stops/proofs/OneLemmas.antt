-- The changes of tab stops are in one list of places.
use Rattle.std.specs.Prelude.{slice_range}
use Rattle.std.proofs.Common.{◌≡◌, ◌∙◌, sym, ap, subst, inl, inr, ℕ, zero, suc, ◌+◌, ◌*◌, ◌/◌, List, [], ◌∷◌, ◌++◌, length, arith}
use Rattle.prl_skips.proofs.Public.{spelt_accepted}
use Rattle.sprm_table.proofs.Public.{spelt_unique}
use Rattle.style_sheet.specs.Counted.{counted_bytes}
use Rattle.style_sheet.specs.StyleDefinition.{upx_place, paragraph_list}
use Rattle.style_sheet.specs.Stsh.{cstd, std_base, slot_place}
use Rattle.piece_table.proofs.Public.{prcs_unique, front_of_prc}
use Rattle.fkp_pages.specs.Fkp.{page_run_count}
use Rattle.fkp_pages.specs.Bin.{page_at}
use Rattle.page_copies.specs.Pages.{BinTables}
use Rattle.tab_stops.specs.Lists.{AreListStops, AreJoinedStops, stop_places}
use Rattle.tab_stops.specs.Pages.{AreRunStops, AreStopsAt, AreStopsOfPages}
use Rattle.tab_stops.specs.Prcs.{ArePrcStops, AreClxStops}
use Rattle.tab_stops.specs.Sheets.{AreStyleStops, AreSlotStops, AreSheetStops}

list_one : (bytes : List ℕ) (from : ℕ) (a b : List ℕ) → AreListStops bytes from a → AreListStops bytes from b → a ≡ b
list_one bytes from a b (inl x) (inl y) =
    x.places_are ∙ (ap (stop_places from) (spelt_unique bytes x.prls y.prls x.spelt y.spelt) ∙ sym y.places_are)
list_one bytes from a b (inl x) (inr y) = absurd (y.0 (spelt_accepted bytes x.prls x.spelt))
list_one bytes from a b (inr x) (inl y) = absurd (x.0 (spelt_accepted bytes y.prls y.spelt))
list_one bytes from a b (inr x) (inr y) = x.1 ∙ sym y.1

joined_one : (are : ℕ → List ℕ → Type 0) (count : ℕ) (a b : List ℕ) →
    ((k : ℕ) (x y : List ℕ) → are k x → are k y → x ≡ y) → AreJoinedStops are count a → AreJoinedStops are count b →
    a ≡ b
joined_one are zero a b one x y = x ∙ sym y
joined_one are (suc k) a b one (before, (here, (x, (is, joined)))) (others, (there, (y, (other, together)))) =
    joined
    ∙ (ap (λ l. l ++ here) (joined_one are k before others one x y)
    ∙ (ap (λ l. others ++ l) (one k here there is other) ∙ sym together))

-- ---- styles

style_one : (std : List ℕ) (at base : ℕ) (a b : List ℕ) → AreStyleStops std at base a → AreStyleStops std at base b →
    a ≡ b
style_one std at base a b (inl x) (inl y) =
    list_one (paragraph_list std base) (at + (upx_place std base 0 + 4)) a b x.1 y.1
style_one std at base a b (inl x) (inr y) = absurd (y.0 x.0)
style_one std at base a b (inr x) (inl y) = absurd (x.0 y.0)
style_one std at base a b (inr x) (inr y) = x.1 ∙ sym y.1

slot_one : (part : List ℕ) (at base place : ℕ) (a b : List ℕ) → AreSlotStops part at base place a →
    AreSlotStops part at base place b → a ≡ b
slot_one part at base place a b (inl x) (inl y) =
    style_one (counted_bytes part place) (at + (place + 2)) base a b x.1 y.1
slot_one part at base place a b (inl x) (inr y) = let some = x.0 in let none = y.0 in absurd (omega (arith, some, none))
slot_one part at base place a b (inr x) (inl y) = let some = y.0 in let none = x.0 in absurd (omega (arith, some, none))
slot_one part at base place a b (inr x) (inr y) = x.1 ∙ sym y.1

pub sheet_one : (part : List ℕ) (at : ℕ) (a b : List ℕ) → AreSheetStops part at a → AreSheetStops part at b → a ≡ b
sheet_one part at a b (inl x) (inl y) =
    joined_one (λ istd here. AreSlotStops part at (std_base part) (slot_place part istd) here) (cstd part) a b
    (λ istd one other. slot_one part at (std_base part) (slot_place part istd) one other) x.1 y.1
sheet_one part at a b (inl x) (inr y) = absurd (y.0 x.0)
sheet_one part at a b (inr x) (inl y) = absurd (x.0 y.0)
sheet_one part at a b (inr x) (inr y) = x.1 ∙ sym y.1

-- ---- Prcs

prcs_one : (from : ℕ) (prcs : List (List ℕ)) (a b : List ℕ) → ArePrcStops from prcs a → ArePrcStops from prcs b → a ≡ b
prcs_one from [] a b x y = x ∙ sym y
prcs_one from (prc ∷ prcs) a b (here, (rest, (is, (x, joined)))) (there, (others, (other, (y, together)))) =
    joined
    ∙ (ap (λ l. l ++ rest) (list_one prc (from + 3) here there is other)
    ∙ (ap (λ l. there ++ l) (prcs_one (from + (3 + length prc)) prcs rest others x y) ∙ sym together))

pub clx_one : (clx : List ℕ) (begin : ℕ) (a b : List ℕ) → AreClxStops clx begin a → AreClxStops clx begin b → a ≡ b
clx_one clx begin a b x y =
    let same = prcs_unique x.prcs y.prcs _ _ x.are.are.sizes y.are.are.sizes
    (sym x.are.are.spelt ∙ y.are.are.spelt) (front_of_prc _ x.are.none) (front_of_prc _ y.are.none) in
    prcs_one begin y.prcs a b (subst (λ (p : List (List ℕ)). ArePrcStops begin p a) same.0 x.stops) y.stops

-- ---- pages

run_one : (page : List ℕ) (at run : ℕ) (a b : List ℕ) → AreRunStops page at run a → AreRunStops page at run b → a ≡ b
run_one page at run a b (inl x) (inl y) =
    let from : y.from ≡ x.from = y.list.starts ∙ sym x.list.starts in
    let to : y.to ≡ x.to = y.list.ends ∙ sym x.list.ends in
    list_one (slice_range page (x.from + 2) x.to) (at + (x.from + 2)) a b x.stops
    (subst (λ t. AreListStops (slice_range page (x.from + 2) t) (at + (x.from + 2)) b) to
    (subst (λ f. AreListStops (slice_range page (f + 2) y.to) (at + (f + 2)) b) from y.stops))
run_one page at run a b (inl x) (inr y) = absurd (y.0 x.from x.to x.list)
run_one page at run a b (inr x) (inl y) = absurd (x.0 y.from y.to y.list)
run_one page at run a b (inr x) (inr y) = x.1 ∙ sym y.1

page_one : (bins : BinTables) (wd : List ℕ) (number : ℕ) (a b : List ℕ) → AreStopsAt bins wd number a →
    AreStopsAt bins wd number b → a ≡ b
page_one bins wd number a b (inl x) (inl y) =
    let page = page_at wd number in
    joined_one (AreRunStops page (512 * number)) (page_run_count page) a b (run_one page (512 * number)) x.1 y.1
page_one bins wd number a b (inl x) (inr y) = absurd (y.0 x.0)
page_one bins wd number a b (inr x) (inl y) = absurd (x.0 y.0)
page_one bins wd number a b (inr x) (inr y) = x.1 ∙ sym y.1

pub pages_one : (bins : BinTables) (wd a b : List ℕ) → AreStopsOfPages bins wd a → AreStopsOfPages bins wd b → a ≡ b
pages_one bins wd a b x y = joined_one (AreStopsAt bins wd) (length wd / 512) a b (page_one bins wd) x y
