-- The styles of the blank document break no rule, and how many bytes they are written as.
use Rattle.std.proofs.Common.{◌≡◌, ◌∙◌, ◌⊎◌, inl, inr, refl, sym, ap, subst, ℕ, zero, suc, ◌+◌, ◌*◌, ◌<◌, ◌≤◌, List}
use Rattle.std.proofs.Common.{[], ◌∷◌, ◌++◌, length, Option, Some, None, arith}
use Rattle.std.specs.Prelude.{slice_index}
use Rattle.std.specs.List.{flat_map}
use Rattle.std.specs.Ordering.{nat_cmp}
use Rattle.std.specs.Cmp.{nat_cmp_total}
use Rattle.std.specs.FinMap.{empty, put, entries-insert}
use Rattle.std.proofs.lemmas.Option.{same_Some, none-some}
use Rattle.doc_bits.specs.Number.{number_bytes}
use Rattle.sprm_table.specs.Sprm.{spelling}
use Rattle.prop_map.specs.Printing.{printed_list}
use Rattle.prop_map.proofs.Public.{entries-empty}
use Rattle.style_sheet.specs.declared.styles.Style.{Style}
use Rattle.style_sheet.specs.Sheet.{style_at}
use Rattle.style_sheet.specs.Chain.{style_kind_at, style_kind_in, base_at, AreOfOneKind, IsBaseChain, HasSoundBases}
use Rattle.style_sheet.specs.Counted.{written_counted}
use Rattle.style_sheet.specs.Written.{word, written_stk, written_base, written_slot, written_front, written_sheet}
use Rattle.style_sheet.specs.Written.{IsWritable}
use Rattle.doc_model.specs.Blank.{one_property, normal_style, heading_style, default_font_style, blank_sheet}
use Rattle.plain_doc.specs.RulesOfSheet.{HasShortKind, HasShortStyle}

-- ---- the bytes of their properties

pub none_printed : printed_list empty ≡ []
none_printed = ap (flat_map spelling) entries-empty

pub one_printed : (code byte : ℕ) → printed_list (one_property code byte) ≡ flat_map spelling ((code, byte ∷ []) ∷ [])
one_printed code byte =
    ap (flat_map spelling)
    (entries-insert nat_cmp_total empty code (byte ∷ []) ∙ ap (put nat_cmp code (byte ∷ [])) entries-empty)

-- ---- the slots

-- the styles are in the slots 0, 1 and 10
abbrev IsSlot : ℕ → Type 0
IsSlot istd = (istd ≡ 0) ⊎ ((istd ≡ 1) ⊎ ((istd ≡ 10) ⊎ (style_at blank_sheet istd ≡ None)))

slot : (istd : ℕ) → IsSlot istd
slot zero = inl refl
slot (suc zero) = inr (inl refl)
slot (suc (suc zero)) = inr (inr (inr refl))
slot (suc (suc (suc zero))) = inr (inr (inr refl))
slot (suc (suc (suc (suc zero)))) = inr (inr (inr refl))
slot (suc (suc (suc (suc (suc zero))))) = inr (inr (inr refl))
slot (suc (suc (suc (suc (suc (suc zero)))))) = inr (inr (inr refl))
slot (suc (suc (suc (suc (suc (suc (suc zero))))))) = inr (inr (inr refl))
slot (suc (suc (suc (suc (suc (suc (suc (suc zero)))))))) = inr (inr (inr refl))
slot (suc (suc (suc (suc (suc (suc (suc (suc (suc zero))))))))) = inr (inr (inr refl))
slot (suc (suc (suc (suc (suc (suc (suc (suc (suc (suc zero)))))))))) = inr (inr (inl refl))
slot (suc (suc (suc (suc (suc (suc (suc (suc (suc (suc (suc zero))))))))))) = inr (inr (inr refl))
slot (suc (suc (suc (suc (suc (suc (suc (suc (suc (suc (suc (suc zero)))))))))))) = inr (inr (inr refl))
slot (suc (suc (suc (suc (suc (suc (suc (suc (suc (suc (suc (suc (suc zero))))))))))))) = inr (inr (inr refl))
slot (suc (suc (suc (suc (suc (suc (suc (suc (suc (suc (suc (suc (suc (suc zero)))))))))))))) = inr (inr (inr refl))
slot (suc (suc (suc (suc (suc (suc (suc (suc (suc (suc (suc (suc (suc (suc (suc more))))))))))))))) = inr
    (inr (inr refl))

-- ---- the bases end

one_kind : (istd i : ℕ) → 0 < style_kind_at blank_sheet istd → i < 1 →
    AreOfOneKind blank_sheet istd (slice_index (istd ∷ []) i)
one_kind istd zero some low = record { properties = some; same = refl }
one_kind istd (suc i) some low = absurd (omega (arith, low))

root_chain : (istd : ℕ) → base_at blank_sheet istd ≡ None → 0 < style_kind_at blank_sheet istd →
    IsBaseChain blank_sheet istd (istd ∷ [])
root_chain istd none some = record {
  some = omega arith;
  last = refl;
  root = none;
  links = λ i low. absurd (omega (arith, low));
  kind = λ i low. one_kind istd i some low;
  once = λ i j less low same. absurd (omega (arith, less, low));
}

two_links : (i : ℕ) → i + 1 < 2 →
    base_at blank_sheet (slice_index (0 ∷ 1 ∷ []) (i + 1)) ≡ Some (slice_index (0 ∷ 1 ∷ []) i)
two_links zero low = refl
two_links (suc i) low = absurd (omega (arith, low))

two_kinds : (i : ℕ) → i < 2 → AreOfOneKind blank_sheet 1 (slice_index (0 ∷ 1 ∷ []) i)
two_kinds zero low = record { properties = omega arith; same = refl }
two_kinds (suc zero) low = record { properties = omega arith; same = refl }
two_kinds (suc (suc i)) low = absurd (omega (arith, low))

two_once : (i j : ℕ) → i < j → j < 2 → slice_index (0 ∷ 1 ∷ []) i ≡ slice_index (0 ∷ 1 ∷ []) j → ⊥
two_once zero zero less low same = absurd (omega (arith, less))
two_once zero (suc zero) less low same = absurd (omega (arith, same))
two_once zero (suc (suc j)) less low same = absurd (omega (arith, low))
two_once (suc i) j less low same = absurd (omega (arith, less, low))

heading_chain : IsBaseChain blank_sheet 1 (0 ∷ 1 ∷ [])
heading_chain = record {
  some = omega arith;
  last = refl;
  root = refl;
  links = two_links;
  kind = two_kinds;
  once = two_once;
}

abbrev HasChain : ℕ → Type 0
HasChain istd = (chain : List ℕ) × IsBaseChain blank_sheet istd chain

chain_at : (istd : ℕ) → IsSlot istd → 0 < style_kind_at blank_sheet istd → HasChain istd
chain_at istd (inl is) some = subst HasChain (sym is) (0 ∷ [], root_chain 0 refl (omega arith))
chain_at istd (inr (inl is)) some = subst HasChain (sym is) (0 ∷ 1 ∷ [], heading_chain)
chain_at istd (inr (inr (inl is))) some = subst HasChain (sym is) (10 ∷ [], root_chain 10 refl (omega arith))
chain_at istd (inr (inr (inr none))) some =
    let kind : style_kind_at blank_sheet istd ≡ 0 = ap style_kind_in none in absurd (omega (arith, some, kind))

pub blank_bases : HasSoundBases blank_sheet
blank_bases = record { normal = refl; chains = λ istd some. chain_at istd (slot istd) some }

-- ---- their properties are short

normal_short : HasShortKind normal_style.kind
normal_short = let none = ap length none_printed in (omega (arith, none), omega (arith, none))

heading_short : HasShortKind heading_style.kind
unfolding number_bytes
heading_short =
    let level : length (printed_list (one_property 0x2640 0)) ≡ 3 = ap length (one_printed 0x2640 0) in
    let bold : length (printed_list (one_property 0x0835 1)) ≡ 3 = ap length (one_printed 0x0835 1) in
    (omega (arith, level), omega (arith, bold))

font_short : HasShortKind default_font_style.kind
font_short = let none = ap length none_printed in omega (arith, none)

short_of : (style found : Style) (istd : ℕ) → style_at blank_sheet istd ≡ Some style →
    style_at blank_sheet istd ≡ Some found → HasShortKind style.kind → HasShortKind found.kind
short_of style found istd is here short =
    subst (λ (s : Style). HasShortKind s.kind) (same_Some style found (sym is ∙ here)) short

short_at : (istd : ℕ) → IsSlot istd → HasShortStyle blank_sheet istd
short_at istd (inl is) style here = short_of normal_style style istd (ap (style_at blank_sheet) is) here normal_short
short_at istd (inr (inl is)) style here = short_of heading_style style istd (ap (style_at blank_sheet) is) here
    heading_short
short_at istd (inr (inr (inl is))) style here = short_of default_font_style style istd (ap (style_at blank_sheet) is)
    here font_short
short_at istd (inr (inr (inr none))) style here = absurd (none-some style (sym none ∙ here))

pub blank_short : (istd : ℕ) → HasShortStyle blank_sheet istd
blank_short istd = short_at istd (slot istd)

-- ---- their bytes

-- an STD with such upxes
abbrev rest_with : Style → List (List ℕ) → List ℕ
rest_with style upxes =
    word (length style.name) ++ (flat_map word style.name ++ (word 0 ++ flat_map written_counted upxes))

abbrev std_with : Style → List (List ℕ) → List ℕ
std_with style upxes =
    word (style.sti + 4096 * style.flags)
    ++ (word (written_stk style.kind + 16 * written_base style.base)
    ++ (word (length upxes + 16 * style.next)
    ++ (word (10 + length (rest_with style upxes))
    ++ (word style.grfstd ++ rest_with style upxes))))

abbrev normal_std : List ℕ
normal_std = std_with normal_style ((word 0 ++ []) ∷ [] ∷ [])

normal_is : written_slot 0 (Some normal_style) ≡ normal_std
normal_is = λ i. std_with normal_style ((word 0 ++ none_printed i) ∷ none_printed i ∷ [])

abbrev heading_std : List ℕ
heading_std =
    std_with heading_style
    ((word 1 ++ flat_map spelling ((0x2640, 0 ∷ []) ∷ [])) ∷ flat_map spelling ((0x0835, 1 ∷ []) ∷ []) ∷ [])

heading_is : written_slot 1 (Some heading_style) ≡ heading_std
heading_is =
    let level = one_printed 0x2640 0 in
    let bold = one_printed 0x0835 1 in
    λ i. std_with heading_style ((word 1 ++ level i) ∷ bold i ∷ [])

abbrev font_std : List ℕ
font_std = std_with default_font_style ([] ∷ [])

font_is : written_slot 10 (Some default_font_style) ≡ font_std
font_is = λ i. std_with default_font_style (none_printed i ∷ [])

abbrev IsShortSlot : ℕ → Type 0
IsShortSlot istd = length (written_slot istd (style_at blank_sheet istd)) ≤ 32767

few_normal : length normal_std ≤ 32767
unfolding number_bytes
few_normal = let len : length normal_std ≡ 32 = refl in omega (arith, len)

few_heading : length heading_std ≤ 32767
unfolding number_bytes
few_heading = let len : length heading_std ≡ 46 = refl in omega (arith, len)

few_font : length font_std ≤ 32767
unfolding number_bytes
few_font = let len : length font_std ≡ 60 = refl in omega (arith, len)

writable_at : (istd : ℕ) → IsSlot istd → IsShortSlot istd
writable_at istd (inl is) = subst IsShortSlot (sym is) (subst (λ xs. length xs ≤ 32767) (sym normal_is) few_normal)
writable_at istd (inr (inl is)) = subst IsShortSlot (sym is)
    (subst (λ xs. length xs ≤ 32767) (sym heading_is) few_heading)
writable_at istd (inr (inr (inl is))) = subst IsShortSlot (sym is)
    (subst (λ xs. length xs ≤ 32767) (sym font_is) few_font)
writable_at istd (inr (inr (inr none))) =
    subst (λ (slot : Option Style). length (written_slot istd slot) ≤ 32767) (sym none) (omega arith)

pub blank_writable : IsWritable blank_sheet
blank_writable istd = writable_at istd (slot istd)

-- the sheet
abbrev sheet_of : List ℕ → List ℕ → List ℕ → List ℕ
sheet_of normal heading font =
    written_front blank_sheet
    ++ flat_map written_counted
    (normal ∷ heading ∷ [] ∷ [] ∷ [] ∷ [] ∷ [] ∷ [] ∷ [] ∷ [] ∷ font ∷ [] ∷ [] ∷ [] ∷ [] ∷ [])

sheet_is : written_sheet blank_sheet ≡ sheet_of normal_std heading_std font_std
sheet_is = λ i. sheet_of (normal_is i) (heading_is i) (font_is i)

pub length-blank_sheet : length (written_sheet blank_sheet) ≡ 188
unfolding number_bytes
length-blank_sheet = ap length sheet_is
