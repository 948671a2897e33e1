-- The font of a level, property by property.
use Rattle.std.proofs.Common.{◌≡◌, ◌∙◌, refl, sym, ap, ℕ, zero, suc, ◌+◌, ◌-◌, ◌<◌, ◌≤◌, Bool, true, false, ◌||◌, List, []}
use Rattle.std.proofs.Common.{◌∷◌, length, map, Option, Some, None, arith}
use Rattle.std.specs.Prelude.{if◌then◌else◌, nat_lt}
use Rattle.std.proofs.lemmas.Bool.{lt-ltb}
use Rattle.symbol_fonts.specs.declared.characters.SymbolFont.{SymbolFont}
use Rattle.symbol_fonts.specs.Characters.{shown_unit}
use Rattle.list_numbers.specs.LevelFonts.{prls_end_at, font_by, font_from, prl_end}
use Rattle.doc_bits.proofs.Public.{or_true, ltb_false}

pub nothing_left : (list : List ℕ) (count at : ℕ) (font : Option ℕ) → count ≡ 0 → font ≡ font_from count list at font
unfolding font_from
nothing_left list count at font none = sym (ap (λ n. font_from n list at font) none)

one_more : (list : List ℕ) (count at : ℕ) (font : Option ℕ) → font_from (suc count) list at font
    ≡ (if prls_end_at list at then font else font_from count list (prl_end list at) (font_by list at font))
unfolding font_from
one_more list count at font = refl

suc_of : (count : ℕ) → 0 < count → count ≡ suc (count - 1)
suc_of count some = omega (arith, some)

-- the list ends at the place
ended : (list : List ℕ) (count at : ℕ) (font : Option ℕ) → 0 < count → prls_end_at list at ≡ true →
    font ≡ font_from count list at font
ended list count at font some ends =
    sym (ap (λ n. font_from n list at font) (suc_of count some) ∙ (one_more list (count - 1) at font
    ∙ (λ i. if ends i then font else font_from (count - 1) list (prl_end list at) (font_by list at font))))

off : (b : Bool) → (true || b) ≡ true
off b = refl

pub cut_code : (list : List ℕ) (count at : ℕ) (font : Option ℕ) → 0 < count → length list < at + 2 →
    font ≡ font_from count list at font
cut_code list count at font some cut =
    ended list count at font some ((λ i. lt-ltb (length list) (at + 2) cut i || nat_lt (length list) (prl_end list at))
    ∙ off (nat_lt (length list) (prl_end list at)))

pub cut_operand : (list : List ℕ) (count at : ℕ) (font : Option ℕ) → 0 < count → length list < prl_end list at →
    font ≡ font_from count list at font
cut_operand list count at font some cut =
    ended list count at font some ((λ i. nat_lt (length list) (at + 2) || lt-ltb (length list) (prl_end list at) cut i)
    ∙ or_true (nat_lt (length list) (at + 2)))

-- a property more
pub next_font : (list : List ℕ) (count at end : ℕ) (font : Option ℕ) → 0 < count → at + 2 ≤ length list →
    end ≡ prl_end list at → end ≤ length list →
    font_from count list at font ≡ font_from (count - 1) list end (font_by list at font)
next_font list count at end font some code is whole =
    let ends : prls_end_at list at ≡ false =
    λ i. ltb_false (length list) (at + 2) code i || ltb_false (length list) (prl_end list at) (omega (arith, is, whole))
    i
    in
    ap (λ n. font_from n list at font) (suc_of count some) ∙ (one_more list (count - 1) at font
    ∙ ((λ i. if ends i then font else font_from (count - 1) list (prl_end list at) (font_by list at font))
    ∙ ap (λ e. font_from (count - 1) list e (font_by list at font)) (sym is)))

-- ---- units in no symbol font

same_units : (units : List ℕ) → units ≡ map (shown_unit None) units
same_units [] = refl
same_units (unit ∷ units) = ap (λ us. unit ∷ us) (same_units units)

pub none_shown : (font : Option SymbolFont) (units : List ℕ) → font ≡ None → units ≡ map (shown_unit font) units
none_shown font units none = same_units units ∙ ap (λ f. map (shown_unit f) units) (sym none)
