-- Fields that are put over zeros, and read again.
use Rattle.std.proofs.Common.{◌≡◌, ℕ, zero, suc, ◌+◌, ◌-◌, ◌^◌, ◌<◌, ◌≤◌, List, [], ◌∷◌, ◌++◌, length, take, drop}
use Rattle.std.proofs.Common.{replicate, get_or, refl, sym, ap, ◌∙◌, subst, arith, append_assoc, length-append}
use Rattle.std.proofs.Common.{add-zero}
use Rattle.std.proofs.Math.Seq.{take-append_seam, drop-append_seam}
use Rattle.std.proofs.lemmas.List.{length-replicate, get_or_append_left, get_or-replicate}
use Rattle.doc_bits.specs.Number.{number_at, number_bytes}
use Rattle.doc_bits.proofs.Public.{number_at-after, number_at-read_back, length-number_bytes}
pub use Rattle.doc_bits.proofs.Public.{zeros-add, length-zeros}
use Rattle.fib_form.specs.FibBytes.{Field, zeros, spelled}

pub no_zeros : (tail : List ℕ) → zeros 0 ++ tail ≡ tail
unfolding zeros
no_zeros tail = refl

-- a number that is put over the first zeros
pub put_over_zeros : (front tail before : List ℕ) (place width rest number : ℕ) → place ≡ length front →
    before ≡ front ++ (zeros (width + rest) ++ tail) → take place before ++ (number_bytes width number ++ drop
    (place + width) before) ≡ front ++ (number_bytes width number ++ (zeros rest ++ tail))
put_over_zeros front tail before place width rest number here e =
    let apart : before ≡ front ++ (zeros width ++ (zeros rest ++ tail)) = rw (
      e,
      zeros-add width rest,
      append_assoc (zeros width) (zeros rest) tail,
    ) refl in
    let head : take place before ≡ front = rw (apart, here) (take-append_seam front (zeros width ++ (zeros rest ++
    tail))) in
    let same : place + width ≡ length (front ++ zeros width) = omega (
      arith,
      length-append front (zeros width),
      length-zeros width,
    ) in
    let back : drop (place + width) before ≡ zeros rest ++ tail =
    rw (apart, same, ← append_assoc front (zeros width) (zeros rest ++ tail)) (drop-append_seam (front ++ zeros width)
    (zeros rest ++ tail)) in
    rw (head, back) refl

-- fields that are one after the other, from an offset on and to another at most
abbrev pub Follow : ℕ → List Field → ℕ → Type 0
Follow from [] end = from ≤ end
Follow from (f ∷ fields) end = (from ≤ f.place) × Follow (f.place + f.width) fields end

-- the numbers of the fields are put one after the other
abbrev pub Puts : List Field → List ℕ → List ℕ → Type 0
Puts [] before after = after ≡ before
Puts (f ∷ fields) before after =
    (next : List ℕ) × ((next ≡ take f.place before ++ (number_bytes f.width f.number ++ drop (f.place + f.width)
    before)) × Puts fields next after)

-- where the last field ends
abbrev pub end_of : ℕ → List Field → ℕ
end_of from [] = from
end_of from (f ∷ fields) = end_of (f.place + f.width) fields

pub end_of-within : (from end : ℕ) (fields : List Field) → Follow from fields end → end_of from fields ≤ end
end_of-within from end [] h = h
end_of-within from end (f ∷ fields) h = end_of-within (f.place + f.width) end fields h.1

pub follow_up : (from end : ℕ) (fields : List Field) → Follow from fields end → from ≤ end
follow_up from end [] h = h
follow_up from end (f ∷ fields) h = let low = h.0 in let rest = follow_up (f.place + f.width) end fields h.1 in
    omega arith

-- fields that are put over zeros are spelled
pub puts-spelled : (fields : List Field) (from end : ℕ) (front tail before after : List ℕ) → length front ≡ from →
    Follow from fields end → before ≡ front ++ (zeros (end - from) ++ tail) → Puts fields before after →
    after ≡ front ++ (spelled from fields ++ (zeros (end - end_of from fields) ++ tail))
puts-spelled [] from end front tail before after len follow e puts = puts ∙ e
puts-spelled (f ∷ fields) from end front tail before after len follow e puts =
    let gap = f.place - from in
    let low = follow.0 in
    let high = end_of-within (f.place + f.width) end fields follow.1 in
    let more : f.place + f.width ≤ end = follow_up (f.place + f.width) end fields follow.1 in
    let size : length (front ++ zeros gap) ≡ f.place = omega (
      arith,
      length-append front (zeros gap),
      length-zeros gap,
    ) in
    let zeros_left : end - from ≡ gap + (f.width + (end - (f.place + f.width))) = omega arith in
    let apart : before ≡ (front ++ zeros gap) ++ (zeros (f.width + (end - (f.place + f.width))) ++ tail) =
    rw (e, zeros_left, zeros-add gap (f.width + (end - (f.place + f.width)))) (simp append_assoc) in
    let put = put_over_zeros (front ++ zeros gap) tail before f.place f.width (end - (f.place + f.width)) f.number
    (sym size) apart in
    let front_now = (front ++ zeros gap) ++ number_bytes f.width f.number in
    let len_now : length front_now ≡ f.place + f.width = omega (
      arith,
      length-append (front ++ zeros gap)
          (number_bytes f.width f.number),
      length-number_bytes f.width f.number,
    ) in
    let next_is : puts.0 ≡ front_now ++ (zeros (end - (f.place + f.width)) ++ tail) = puts.1.0 ∙
    (put ∙ sym (append_assoc (front ++ zeros gap) (number_bytes f.width f.number)
    (zeros (end - (f.place + f.width)) ++ tail))) in
    let rest = puts-spelled fields (f.place + f.width) end front_now tail puts.0 after len_now follow.1 next_is
    puts.1.1 in
    rest ∙ simp append_assoc

-- the field is that number of the list
abbrev pub Has : ℕ → List Field → Field → Type 0
Has k [] f = ⊥
Has zero (g ∷ fields) f = g ≡ f
Has (suc k) (g ∷ fields) f = Has k fields f

-- where the zero bytes before that field begin
abbrev pub gap_of : ℕ → ℕ → List Field → ℕ
gap_of zero from fields = from
gap_of (suc k) from [] = from
gap_of (suc k) from (f ∷ fields) = gap_of k (f.place + f.width) fields

-- the bytes before a field, and the field
pub spelled_apart : (front tail : List ℕ) (from : ℕ) (f : Field) (fields : List Field) →
    front ++ (spelled from (f ∷ fields) ++ tail) ≡ (front ++ (zeros (f.place - from) ++ number_bytes f.width
    f.number)) ++ (spelled (f.place + f.width) fields ++ tail)
spelled_apart front tail from f fields = simp append_assoc

-- a number that is somewhere is read
pub read_here : (front after whole : List ℕ) (place width number : ℕ) → place ≡ length front → whole ≡ front ++
    (number_bytes width number ++ after) → number < 256 ^ width → number_at whole place width ≡ number
read_here front after whole place width number here e fits = rw (e, here) (number_at-read_back width number front
    after fits)

-- a field is read as its number
pub read_field : (k : ℕ) (fields : List Field) (f : Field) (from end : ℕ) (front tail : List ℕ) →
    length front ≡ from → Follow from fields end → Has k fields f → f.number < 256 ^ f.width →
    number_at (front ++ (spelled from fields ++ tail)) f.place f.width ≡ f.number
read_field k [] f from end front tail len follow has fits = absurd has
read_field zero (g ∷ fields) f from end front tail len follow has fits =
    let low = follow.0 in
    let size : length (front ++ zeros (g.place - from)) ≡ g.place = omega (
      arith,
      length-append front
          (zeros (g.place - from)),
      length-zeros (g.place - from),
    ) in
    let fits_g : g.number < 256 ^ g.width = subst (λ x. x.number < 256 ^ x.width) (sym has) fits in
    let at_g = read_here (front ++ zeros (g.place - from)) (spelled (g.place + g.width) fields ++ tail)
    (front ++ (spelled from (g ∷ fields) ++ tail)) g.place g.width g.number (sym size) (simp append_assoc) fits_g in
    subst (λ x. number_at (front ++ (spelled from (g ∷ fields) ++ tail)) x.place x.width ≡ x.number) has at_g
read_field (suc k) (g ∷ fields) f from end front tail len follow has fits =
    let low = follow.0 in
    let front_now = front ++ (zeros (g.place - from) ++ number_bytes g.width g.number) in
    let len_now : length front_now ≡ g.place + g.width =
    omega (
      arith,
      length-append front (zeros (g.place - from) ++ number_bytes g.width g.number),
      length-append (zeros (g.place - from)) (number_bytes g.width g.number),
      length-zeros (g.place - from),
      length-number_bytes g.width g.number,
    ) in
    rw (spelled_apart front tail from g fields) (read_field k fields f (g.place + g.width) end front_now tail len_now
    follow.1 has fits)

-- a byte of zeros
zero_byte : (tail : List ℕ) (n i : ℕ) → i < n → get_or (zeros n ++ tail) i 0 ≡ 0
unfolding zeros
zero_byte tail n i h =
    let within : i < length (replicate n 0) = omega (arith, length-replicate {A = ℕ} n 0) in
    get_or_append_left (replicate n 0) tail 0 i within ∙ get_or-replicate n i 0 0 h

zeros_read : (tail : List ℕ) (n i k : ℕ) → i + k ≤ n → number_at (zeros n ++ tail) i k ≡ 0
unfolding number_at
zeros_read tail n i zero h = refl
zeros_read tail n i (suc k) h = rw (zeros_read tail n i k (omega arith), zero_byte tail n (i + k) (omega arith))
    (omega arith)

-- bytes of zeros are read as 0
pub read_zeros : (front tail : List ℕ) (n place k : ℕ) → length front ≤ place → place + k ≤ length front + n →
    number_at (front ++ (zeros n ++ tail)) place k ≡ 0
read_zeros front tail n place k low high =
    let here : place ≡ length front + (place - length front) = omega arith in
    rw here (number_at-after front (zeros n ++ tail) (place - length front) k ∙ zeros_read tail n (place - length
    front) k (omega arith))

-- the bytes before a field are read as 0
pub read_gap : (k : ℕ) (fields : List Field) (f : Field) (from end place width : ℕ) (front tail : List ℕ) →
    length front ≡ from → Follow from fields end → Has k fields f → gap_of k from fields ≤ place → place + width ≤
    f.place → number_at (front ++ (spelled from fields ++ tail)) place width ≡ 0
read_gap k [] f from end place width front tail len follow has low high = absurd has
read_gap zero (g ∷ fields) f from end place width front tail len follow has low high =
    let order = follow.0 in
    let e : g.place ≡ f.place = ap (λ x. x.place) has in
    let apart : front ++ (spelled from (g ∷ fields) ++ tail) ≡ front ++ (zeros (g.place - from) ++ (number_bytes
    g.width g.number ++ (spelled (g.place + g.width) fields ++ tail))) = simp append_assoc in
    rw apart (read_zeros front (number_bytes g.width g.number ++ (spelled (g.place + g.width) fields ++ tail))
    (g.place - from) place width (omega arith) (omega arith))
read_gap (suc k) (g ∷ fields) f from end place width front tail len follow has low high =
    let order = follow.0 in
    let front_now = front ++ (zeros (g.place - from) ++ number_bytes g.width g.number) in
    let len_now : length front_now ≡ g.place + g.width =
    omega (
      arith,
      length-append front (zeros (g.place - from) ++ number_bytes g.width g.number),
      length-append (zeros (g.place - from)) (number_bytes g.width g.number),
      length-zeros (g.place - from),
      length-number_bytes g.width g.number,
    ) in
    rw (spelled_apart front tail from g fields) (read_gap k fields f (g.place + g.width) end place width front_now
    tail len_now follow.1 has low high)

-- the length of spelled fields
pub length-spelled : (fields : List Field) (from end : ℕ) → Follow from fields end → from + length (spelled from
    fields) ≡ end_of from fields
length-spelled [] from end follow = add-zero from
length-spelled (f ∷ fields) from end follow =
    let low = follow.0 in
    let rest = length-spelled fields (f.place + f.width) end follow.1 in
    omega (
      arith,
      length-append (zeros (f.place - from)) (number_bytes f.width f.number ++ spelled (f.place + f.width)
          fields),
      length-append (number_bytes f.width f.number) (spelled (f.place + f.width) fields),
      length-zeros (f.place - from),
      length-number_bytes f.width f.number,
    )
