-- Numbers of two and of four bytes, and how many lists have bytes.
use Rattle.std.proofs.Common.{◌≡◌, refl, sym, ap, ℕ, suc, ◌+◌, ◌*◌, Bool, List, ◌++◌, arith}
use Rattle.std.proofs.Common.{add-one, cond}
use Rattle.std.specs.Prelude.{slice_index}
use Rattle.std.specs.List.{count_by}
use Rattle.std.proofs.lemmas.List.Sums.{sum_by-append}
use Rattle.doc_bits.specs.Number.{number_at, u16_at, u32_at}
use Rattle.doc_bits.proofs.Public.{number_at-first}
use Rattle.style_sheet.specs.Counted.{even_up}
use Rattle.style_sheet.specs.Stsh.{slot_place}

nothing_at : (bytes : List ℕ) (at : ℕ) → number_at bytes at 0 ≡ 0
unfolding number_at
nothing_at bytes at = refl

pub word_is : (bytes : List ℕ) (at : ℕ) → u16_at bytes at ≡ slice_index bytes at + slice_index bytes (at + 1) * 256
word_is bytes at =
    let first : u16_at bytes at ≡ slice_index bytes at + 256 * number_at bytes (suc at) 1 = number_at-first bytes at 1 in
    let second : number_at bytes (suc at) 1 ≡ slice_index bytes (suc at) + 256 * number_at bytes (suc (suc at)) 0 =
    number_at-first bytes (suc at) 0 in
    let third = nothing_at bytes (suc (suc at)) in
    let next : slice_index bytes (suc at) ≡ slice_index bytes (at + 1) =
    ap (λ (n : ℕ). slice_index bytes n) (sym (add-one at)) in
    omega (arith, first, second, third, next)

pub long_is : (bytes : List ℕ) (at : ℕ) → u32_at bytes at ≡ u16_at bytes at + u16_at bytes (at + 2) * 65536
long_is bytes at =
    let two : suc (suc at) ≡ at + 2 = omega arith in
    let first : u32_at bytes at ≡ slice_index bytes at + 256 * number_at bytes (suc at) 3 = number_at-first bytes at 3 in
    let second : number_at bytes (suc at) 3 ≡ slice_index bytes (suc at) + 256 * number_at bytes (suc (suc at)) 2 =
    number_at-first bytes (suc at) 2 in
    let rest : number_at bytes (suc (suc at)) 2 ≡ u16_at bytes (at + 2) = ap (λ (n : ℕ). u16_at bytes n) two in
    let next : slice_index bytes (suc at) ≡ slice_index bytes (at + 1) =
    ap (λ (n : ℕ). slice_index bytes n) (sym (add-one at)) in
    let low = word_is bytes at in
    omega (arith, first, second, rest, low, next)

pub count_by-append : {A : Type 0} (p : A → Bool) (xs ys : List A) → count_by p (xs ++ ys) ≡ count_by p xs + count_by p ys
count_by-append p xs ys = sum_by-append (λ x. cond (p x) 1 0) xs ys

pub slot_next : (part : List ℕ) (istd : ℕ) → slot_place part (istd + 1) ≡ even_up (slot_place part istd + 2 + u16_at part
    (slot_place part istd))
slot_next part istd = ap (slot_place part) (add-one istd)
