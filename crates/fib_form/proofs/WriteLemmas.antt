-- What the puts of a FIB leave.
use Rattle.std.proofs.Common.{◌≡◌, ℕ, List, [], ◌++◌, ◌-◌, ◌+◌, ◌≤◌, length, take, drop, replicate, flat_map, refl}
use Rattle.std.proofs.Common.{sym, ap, subst, ◌∙◌, arith}
use Rattle.std.proofs.Common.{append_assoc, length-append, zero-add}
use Rattle.std.proofs.lemmas.List.{take-append-drop, length-take}
use Rattle.std.proofs.Math.Seq.{take-append_seam, drop-append_seam}
use Rattle.fib_form.specs.Fib.{kept_pairs, form_size}
use Rattle.fib_form.specs.declared.form.Form.{Form}
use Rattle.fib_form.specs.declared.form.Form.TheVariants.{Early, Later}
use Rattle.fib_form.specs.FibFields.{FibFields}
use Rattle.fib_form.specs.FibBytes.{written_fib, written_fields, tail_fields, spelled, fc_lcb_bytes, zeros}
use Rattle.fib_form.proofs.FieldLemmas.{Puts, end_of, puts-spelled, no_zeros, zeros-add, length-zeros, length-spelled}
use Rattle.fib_form.proofs.FibLemmas.{followed, followed_tail, form_size-least, length-tail_fields}
use Rattle.fib_form.proofs.PairLemmas.{length-flat_map-pair_bytes}

-- fields that are put over zeros
pub puts_fields : (fib : FibFields) (before after : List ℕ) → before ≡ zeros 154 ++ drop 154 before →
    Puts (written_fields fib) before after → after ≡ spelled 0 (written_fields fib) ++ drop 154 before
puts_fields fib before after clear puts =
    let e = puts-spelled (written_fields fib) 0 154 [] (drop 154 before) before after refl (followed fib) clear puts in
    rw (no_zeros (drop 154 before)) at e

tail_ends : (form : Form) (quick_saves : ℕ) → form_size form - end_of 898 (tail_fields form quick_saves) ≡ 0
tail_ends Early quick_saves = refl
tail_ends Later quick_saves = refl

-- the fields behind the pairs, put over zeros
pub tail_put : (form : Form) (quick_saves : ℕ) (before after : List ℕ) → form_size form ≤ length before →
    drop 898 before ≡ zeros (form_size form - 898) ++ drop (form_size form) before →
    Puts (tail_fields form quick_saves) before after →
    after ≡ take 898 before ++ (spelled 898 (tail_fields form quick_saves) ++ drop (form_size form) before)
tail_put form quick_saves before after long clear puts =
    let front = take 898 before in
    let tail = drop (form_size form) before in
    let size : length front ≡ 898 = omega (arith, length-take 898 before, form_size-least form) in
    let whole : before ≡ front ++ (zeros (form_size form - 898) ++ tail) = sym (take-append-drop 898 before) ∙
    ap (λ l. front ++ l) clear in
    let e = puts-spelled (tail_fields form quick_saves) 898 (form_size form) front tail before after size
    (followed_tail form quick_saves) whole puts in
    rw (tail_ends form quick_saves, no_zeros tail) at e

-- bytes that were filled with 0
pub filled_zeros : (part filled : List ℕ) (n : ℕ) → length part ≡ n → filled ≡ replicate (length part) 0 →
    filled ≡ zeros n
unfolding zeros
filled_zeros part filled n size e = rw (e, size) refl

pub length-fields : (fib : FibFields) → length (spelled 0 (written_fields fib)) ≡ 154
length-fields fib = sym (zero-add (length (spelled 0 (written_fields fib)))) ∙ length-spelled (written_fields fib) 0
    154 (followed fib)

-- a written FIB has its size
pub length-written_fib : (fib : FibFields) → length fib.pairs ≡ kept_pairs → length (written_fib fib) ≡ form_size
    fib.form
unfolding written_fib
length-written_fib fib count =
    let tail = spelled 898 (tail_fields fib.form fib.quick_saves) in
    let fields = length-fields fib in
    let pairs = length-flat_map-pair_bytes fib.pairs in
    let last = length-tail_fields fib.form fib.quick_saves in
    omega (
      arith,
      length-append (spelled 0 (written_fields fib)) (flat_map fc_lcb_bytes fib.pairs ++ tail),
      length-append (flat_map fc_lcb_bytes fib.pairs) tail,
    )

-- what lies behind a front of that length
pub drop_front : (front tail : List ℕ) (n : ℕ) → length front ≡ n → drop n (front ++ tail) ≡ tail
drop_front front tail n size = rw (← size) (drop-append_seam front tail)

pub take_front : (front tail : List ℕ) (n : ℕ) → length front ≡ n → take n (front ++ tail) ≡ front
take_front front tail n size = rw (← size) (take-append_seam front tail)

-- zeros for the fields, for the pairs, and for what is behind them
pub zeros_apart : (filled tail : List ℕ) (size : ℕ) → 898 ≤ size → filled ≡ zeros size →
    filled ++ tail ≡ zeros 154 ++ (zeros 744 ++ (zeros (size - 898) ++ tail))
zeros_apart filled tail size least e =
    let parts : size ≡ 154 + (744 + (size - 898)) = omega arith in
    let apart : zeros size ≡ zeros 154 ++ (zeros 744 ++ zeros (size - 898)) = ap zeros parts ∙ (zeros-add 154
    (744 + (size - 898)) ∙ ap (λ l. zeros 154 ++ l) (zeros-add 744 (size - 898))) in
    rw (e, apart) (simp append_assoc)

pub clear_before : (filled tail : List ℕ) (size : ℕ) → 898 ≤ size → filled ≡ zeros size →
    filled ++ tail ≡ zeros 154 ++ drop 154 (filled ++ tail)
clear_before filled tail size least e =
    let rest = zeros 744 ++ (zeros (size - 898) ++ tail) in
    rw (zeros_apart filled tail size least e, drop_front (zeros 154) rest 154 (length-zeros 154)) refl

-- what is after the fields were put
pub fields_put : (fields filled tail next : List ℕ) (size : ℕ) → 898 ≤ size → filled ≡ zeros size →
    next ≡ fields ++ drop 154 (filled ++ tail) → next ≡ fields ++ (zeros 744 ++ (zeros (size - 898) ++ tail))
fields_put fields filled tail next size least e put =
    let rest = zeros 744 ++ (zeros (size - 898) ++ tail) in
    rw (put, zeros_apart filled tail size least e, drop_front (zeros 154) rest 154 (length-zeros 154)) refl

-- what is behind fields and the 744 bytes of the pairs
pub behind_pairs : (fields pairs rest whole : List ℕ) → length fields ≡ 154 → length pairs ≡ 744 →
    whole ≡ fields ++ (pairs ++ rest) → drop 898 whole ≡ rest
behind_pairs fields pairs rest whole size size_pairs e = rw (e, ← append_assoc fields pairs rest) (drop_front
    (fields ++ pairs) rest 898 (omega (arith, length-append fields pairs)))

pub clear_after : (fields rest next : List ℕ) → length fields ≡ 154 → next ≡ fields ++ (zeros 744 ++ rest) →
    drop 154 next ≡ zeros 744 ++ drop 898 next
clear_after fields rest next size e =
    rw (behind_pairs fields (zeros 744) rest next size (length-zeros 744) e, e) (drop_front fields (zeros 744 ++ rest)
    154 size)

-- the fields, then the pairs
pub pairs_put : (fields pairs rest next last : List ℕ) → length fields ≡ 154 →
    next ≡ fields ++ (zeros 744 ++ rest) → last ≡ take 154 next ++ (pairs ++ drop 898 next) →
    last ≡ fields ++ (pairs ++ rest)
pairs_put fields pairs rest next last size e put =
    let front : take 154 next ≡ fields = rw e (take_front fields (zeros 744 ++ rest) 154 size) in
    rw (put, front, behind_pairs fields (zeros 744) rest next size (length-zeros 744) e) refl

-- what the pairs leave: the fields, the pairs, and zeros up to the end of the FIB
pub pairs_left : (fib : FibFields) (size : ℕ) (pairs : List (ℕ × ℕ)) (filled tail next last : List ℕ) → 898 ≤ size →
    filled ≡ zeros size → pairs ≡ fib.pairs →
    next ≡ spelled 0 (written_fields fib) ++ drop 154 (filled ++ tail) →
    last ≡ take 154 next ++ (flat_map fc_lcb_bytes pairs ++ drop 898 next) →
    last ≡ spelled 0 (written_fields fib) ++ (flat_map fc_lcb_bytes fib.pairs ++ (zeros (size - 898) ++ tail))
pairs_left fib size pairs filled tail next last least zeroed same put put_pairs =
    let fields = spelled 0 (written_fields fib) in
    let fields_left = fields_put fields filled tail next size least zeroed put in
    let left = pairs_put fields (flat_map fc_lcb_bytes pairs) (zeros (size - 898) ++ tail) next last (length-fields fib)
    fields_left put_pairs in
    rw same at left

-- zeros are behind the pairs up to the end of the FIB
pub clear_tail : (fields pairs tail last : List ℕ) (size : ℕ) → 898 ≤ size → length fields ≡ 154 →
    length pairs ≡ 744 → last ≡ fields ++ (pairs ++ (zeros (size - 898) ++ tail)) →
    (drop size last ≡ tail) × (drop 898 last ≡ zeros (size - 898) ++ drop size last)
clear_tail fields pairs tail last size least size_fields size_pairs e =
    let behind : drop size last ≡ tail = rw (
      e,
      ← append_assoc pairs (zeros (size - 898)) tail,
      ← append_assoc fields (pairs ++ zeros (size - 898)) tail,
    ) (drop_front (fields ++ (pairs ++ zeros (size - 898))) tail size (omega (
      arith,
      length-append fields (pairs ++ zeros (size - 898)),
      length-append pairs (zeros (size - 898)),
      length-zeros (size - 898),
    ))) in (
      behind,
      rw behind (behind_pairs fields pairs (zeros (size - 898) ++ tail) last size_fields size_pairs e),
    )

-- the fields, then the pairs, then the fields behind them
pub whole_put : (fib : FibFields) (size : ℕ) (old last whole : List ℕ) → 898 ≤ size → size ≡ form_size fib.form →
    length fib.pairs ≡ kept_pairs → last ≡ spelled 0 (written_fields fib) ++ (flat_map fc_lcb_bytes fib.pairs ++ (zeros
    (size - 898) ++ drop size old)) → whole ≡ take 898 last ++ (spelled 898 (tail_fields fib.form fib.quick_saves) ++
    drop (form_size fib.form) last) → whole ≡ written_fib fib ++ drop (form_size fib.form) old
unfolding written_fib
whole_put fib size old last whole least size_is count e put =
    let fields = spelled 0 (written_fields fib) in
    let pairs = flat_map fc_lcb_bytes fib.pairs in
    let rest = zeros (size - 898) ++ drop size old in
    let size_fields = length-fields fib in
    let size_pairs : length pairs ≡ 744 = omega (arith, length-flat_map-pair_bytes fib.pairs) in
    let clear = clear_tail fields pairs (drop size old) last size least size_fields size_pairs e in
    let behind : drop (form_size fib.form) last ≡ drop (form_size fib.form) old = subst (λ n. drop n last ≡ drop n old)
    size_is clear.0 in
    let front : take 898 last ≡ fields ++ pairs = rw (e, ← append_assoc fields pairs rest) (take_front (fields ++
    pairs) rest 898 (omega (arith, length-append fields pairs))) in
    rw (put, front, behind) (simp append_assoc)
