-- The fonts of a table, one behind the other.
use Rattle.std.proofs.Common.{◌≡◌, ◌∙◌, refl, sym, ap, subst, ℕ, zero, suc, ◌+◌, ◌-◌, ◌<◌, ◌≤◌, Bool, true, false, List}
use Rattle.std.proofs.Common.{[], ◌∷◌, length, take, drop, Option, Some, None, get_or, arith, length-drop, drop-cons}
use Rattle.std.specs.Prelude.{nat_le, if◌then◌else◌, slice_index, slice_range}
use Rattle.std.proofs.lemmas.Bool.{le-leb}
use Rattle.std.proofs.lemmas.Bool.Decides.{nat_tests}
use Rattle.std.proofs.lemmas.List.{drop-drop}
use Rattle.doc_bits.specs.Number.{u16_at}
use Rattle.symbol_fonts.specs.Fonts.{first_named, fonts_in, is_font_named, records}

-- what is looked for from a place on, where so many fonts are left
abbrev pub named_from : List ℕ → List ℕ → ℕ → ℕ → ℕ → Option ℕ
named_from name table number left at = first_named name number (records left (drop at table))

-- ---- no font is there

no_records : (count : ℕ) → records count [] ≡ []
unfolding records
no_records zero = refl
no_records (suc count) = refl

no_bytes : (xs : List ℕ) (at : ℕ) → length xs ≤ at → drop at xs ≡ []
no_bytes [] zero h = refl
no_bytes [] (suc at) h = refl
no_bytes (x ∷ xs) zero h = absurd (omega (arith, h))
no_bytes (x ∷ xs) (suc at) h = no_bytes xs at (omega (arith, h))

pub none_behind : (name table : List ℕ) (number left at : ℕ) → length table ≤ at →
    None ≡ named_from name table number left at
unfolding first_named
none_behind name table number left at behind =
    sym (ap (λ fonts. first_named name number fonts) (ap (records left) (no_bytes table at behind) ∙ no_records left))

pub none_left : (name table : List ℕ) (number left at : ℕ) → left ≡ 0 → None ≡ named_from name table number left at
unfolding first_named records
none_left name table number left at none =
    sym (ap (λ n. first_named name number (records n (drop at table))) none)

-- ---- a font more

bytes_at : (table : List ℕ) (at : ℕ) → at < length table → drop at table ≡ slice_index table at ∷ drop (at + 1) table
bytes_at table at within =
    let up : suc at ≡ at + 1 = omega arith in
    drop-cons table at 0 within ∙ ap (λ n. get_or table at 0 ∷ drop n table) up

one_record : (count len : ℕ) (rest : List ℕ) (whole : Bool) → nat_le len (length rest) ≡ whole →
    records (suc count) (len ∷ rest) ≡ (if whole then take len rest ∷ records count (drop len rest) else [])
unfolding records
one_record count len rest whole is = λ i. if is i then take len rest ∷ records count (drop len rest) else []

records_at : (table : List ℕ) (left rest at : ℕ) (whole : Bool) → left ≡ suc rest → at < length table →
    nat_le (slice_index table at) (length (drop (at + 1) table)) ≡ whole →
    records left (drop at table)
    ≡ (if whole then take (slice_index table at) (drop (at + 1) table)
    ∷ records rest (drop (slice_index table at) (drop (at + 1) table)) else [])
records_at table left rest at whole more within is =
    (λ i. records (more i) (bytes_at table at within i))
    ∙ one_record rest (slice_index table at) (drop (at + 1) table) whole is

too_long : (len left : ℕ) → left < len → nat_le len left ≡ false
too_long len left h = grind (arith, nat_tests)

-- one that is cut off
none_cut : (name table : List ℕ) (number left at : ℕ) → 0 < left → at < length table →
    length table < at + 1 + slice_index table at → None ≡ named_from name table number left at
unfolding first_named
none_cut name table number left at some within cut =
    sym (ap (λ fonts. first_named name number fonts)
    (records_at table left (left - 1) at false (omega (arith, some)) within
    (too_long (slice_index table at) (length (drop (at + 1) table))
    (omega (arith, cut, within, length-drop (at + 1) table)))))

named_more : (name : List ℕ) (number : ℕ) (font : List ℕ) (more : List (List ℕ)) →
    first_named name number (font ∷ more)
    ≡ (if is_font_named name font then Some number else first_named name (number + 1) more)
unfolding first_named
named_more name number font more = refl

-- one that is whole
named_whole : (name table : List ℕ) (number left at : ℕ) → 0 < left → at < length table →
    at + 1 + slice_index table at ≤ length table → named_from name table number left at
    ≡ (if is_font_named name (slice_range table (at + 1) (at + 1 + slice_index table at)) then Some number else
    named_from name table (number + 1) (left - 1) (at + 1 + slice_index table at))
named_whole name table number left at some within whole =
    let len = slice_index table at in
    let fits : nat_le len (length (drop (at + 1) table)) ≡ true =
    le-leb len (length (drop (at + 1) table)) (omega (arith, whole, within, length-drop (at + 1) table)) in
    let width : len ≡ at + 1 + len - (at + 1) = omega arith in
    let behind : drop len (drop (at + 1) table) ≡ drop (at + 1 + len) table = drop-drop len (at + 1) table in
    ap (λ fonts. first_named name number fonts)
    (records_at table left (left - 1) at true (omega (arith, some)) within fits)
    ∙ (named_more name number (take len (drop (at + 1) table)) (records (left - 1) (drop len (drop (at + 1) table)))
    ∙ (λ i. if is_font_named name (take (width i) (drop (at + 1) table)) then Some number else
    first_named name (number + 1) (records (left - 1) (behind i))))

-- the font of a number, of so many, at a place, with the place behind it

pub none_whole : (name table : List ℕ) (count number at next : ℕ) → number < count → at < length table →
    next ≡ at + 1 + slice_index table at → length table < next → None ≡ named_from name table number (count - number) at
none_whole name table count number at next more within is cut =
    none_cut name table number (count - number) at (omega (arith, more)) within (omega (arith, is, cut))

pub named_here : (name table : List ℕ) (count number at next : ℕ) → number < count → at < length table →
    next ≡ at + 1 + slice_index table at → next ≤ length table →
    is_font_named name (slice_range table (at + 1) next) ≡ true → Some number ≡ named_from name table number (count -
    number) at
named_here name table count number at next more within is whole named =
    let same : is_font_named name (slice_range table (at + 1) (at + 1 + slice_index table at)) ≡ true =
    subst (λ n. is_font_named name (slice_range table (at + 1) n) ≡ true) is named in
    sym (named_whole name table number (count - number) at (omega (arith, more)) within (omega (arith, is, whole))
    ∙ (λ i. if same i then Some number else
    named_from name table (number + 1) (count - number - 1) (at + 1 + slice_index table at)))

pub named_later : (name table : List ℕ) (count number at next : ℕ) → number < count → at < length table →
    next ≡ at + 1 + slice_index table at → next ≤ length table →
    is_font_named name (slice_range table (at + 1) next) ≡ false →
    named_from name table number (count - number) at ≡ named_from name table (number + 1) (count - (number + 1)) next
named_later name table count number at next more within is whole named =
    let same : is_font_named name (slice_range table (at + 1) (at + 1 + slice_index table at)) ≡ false =
    subst (λ n. is_font_named name (slice_range table (at + 1) n) ≡ false) is named in
    let left : count - number - 1 ≡ count - (number + 1) = omega (arith, more) in
    named_whole name table number (count - number) at (omega (arith, more)) within (omega (arith, is, whole))
    ∙ (λ i. if same i then Some number else
    named_from name table (number + 1) (count - number - 1) (at + 1 + slice_index table at))
    ∙ (λ i. named_from name table (number + 1) (left i) (sym is i))
