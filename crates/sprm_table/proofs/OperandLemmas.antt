-- Operands: how their bytes tell where the value ends.
use Rattle.std.proofs.Common.{◌≡◌, ℕ, zero, suc, ◌+◌, ◌-◌, ◌*◌, ◌/◌, ◌%◌, ◌<◌, ◌≤◌, ◌==◌, false, List, [], ◌∷◌, ◌++◌}
use Rattle.std.proofs.Common.{length, take, drop}
use Rattle.std.proofs.Common.{get_or, refl, sym, ap, ◌∙◌, arith, append_assoc, length-append}
use Rattle.std.proofs.lemmas.List.{drop-drop, append_cancel_left}
use Rattle.std.specs.Prelude.{slice_range}
use Rattle.doc_bits.specs.Number.{number_at, u16_at, number_bytes}
use Rattle.doc_bits.proofs.Public.{number_at-number_bytes, length-number_bytes}
use Rattle.sprm_table.specs.declared.operands.OperandSize.{OperandSize}
use Rattle.sprm_table.specs.declared.operands.OperandSize.TheVariants.{Fixed, CountedByByte, CountedByWord}
use Rattle.sprm_table.proofs.CodeLemmas.{apart}
use Rattle.sprm_table.specs.Operands.{size_of, fixed_operand_len, counted, IsSizeOf, operand_bytes, IsOperandAt}
use Rattle.sprm_table.specs.Operands.{HasNoOperand}
pub use Rattle.doc_bits.specs.Number.{AreBytes}
pub use Rattle.doc_bits.proofs.Public.{same_front, three_parts, length-range}

-- the first byte of a list
pub take_one : (xs : List ℕ) → 0 < length xs → take 1 xs ≡ get_or xs 0 0 ∷ []
take_one [] h = absurd (omega arith)
take_one (x ∷ xs) h = refl

-- the first two bytes of a list
pub take_two : (xs : List ℕ) → 2 ≤ length xs → take 2 xs ≡ get_or xs 0 0 ∷ get_or xs 1 0 ∷ []
take_two [] h = absurd (omega arith)
take_two (x ∷ []) h = absurd (omega arith)
take_two (x ∷ y ∷ xs) h = refl

-- two bytes are those of the number that they spell
pub number_bytes-u16_at : (xs : List ℕ) → AreBytes xs → 2 ≤ length xs → number_bytes 2 (u16_at xs 0) ≡ take 2 xs
unfolding number_bytes number_at
number_bytes-u16_at xs bytes h =
    let low = bytes 0 in
    let high = bytes 1 in
    let first : (0 + get_or xs 0 0 * 1 + get_or xs 1 0 * 256) % 256 ≡ get_or xs 0 0 = omega arith in
    let second : (0 + get_or xs 0 0 * 1 + get_or xs 1 0 * 256) / 256 % 256 ≡ get_or xs 1 0 = omega arith in
    let two = take_two xs h in
    cc (first, second, two)

-- where the count of an operand of this size says that the value ends: `len` bytes after the count
abbrev pub IsExtent : OperandSize → List ℕ → ℕ → Type 0
IsExtent (Fixed size) rest len = (len ≡ size) × (len ≤ length rest)
IsExtent CountedByByte rest len = (len ≡ get_or rest 0 0) × (1 + len ≤ length rest)
IsExtent CountedByWord rest len = (len + 1 ≡ u16_at rest 0) × (2 + len ≤ length rest)

-- an operand's bytes have the extent that its count says
pub extent : (size : OperandSize) (rest value more : List ℕ) → IsSizeOf size (length value) → rest ≡ operand_bytes
    size value ++ more → IsExtent size rest (length value)
extent (Fixed size) rest value more fits e = (fits, omega (arith, ap length e, length-append value more))
extent CountedByByte rest value more fits e = rw e (refl, omega (arith, length-append value more))
extent CountedByWord rest value more fits e =
    let whole : rest ≡ number_bytes 2 (length value + 1) ++ (value ++ more) = e ∙ append_assoc (number_bytes 2
    (length value + 1)) value more in
    let read : u16_at (number_bytes 2 (length value + 1) ++ (value ++ more)) 0 ≡ length value + 1 =
    number_at-number_bytes 2 (length value + 1) (value ++ more) (omega arith) in (
      rw whole (sym read),
      omega (
        arith,
        ap length whole,
        length-append (number_bytes 2 (length value + 1)) (value ++ more),
        length-append value more,
        length-number_bytes 2 (length value + 1),
      ),
    )

-- the extent is the only one
pub extent_unique : (size : OperandSize) (rest : List ℕ) (a b : ℕ) → IsExtent size rest a → IsExtent size rest b → a ≡ b
extent_unique (Fixed size) rest a b one other = cc
extent_unique CountedByByte rest a b one other = cc
extent_unique CountedByWord rest a b one other = let f = one.0 in let s = other.0 in omega arith

-- values of one length have one count
counted_same : (size : OperandSize) (v w x y : List ℕ) → length v ≡ length w → operand_bytes size v ++ x ≡
    operand_bytes size w ++ y → (v ≡ w) × (x ≡ y)
counted_same (Fixed size) v w x y same e = same_front v w x y same e
counted_same CountedByByte v w x y same e = same_front v w x y same (let tail : v ++ x ≡ w ++ y = cc in tail)
counted_same CountedByWord v w x y same e =
    let count = number_bytes 2 (length v + 1) in
    let left : count ++ (v ++ x) ≡ (count ++ v) ++ x = sym (append_assoc count v x) in
    let right : (number_bytes 2 (length w + 1) ++ w) ++ y ≡ count ++ (w ++ y) = rw same (append_assoc (number_bytes 2
    (length w + 1)) w y) in
    same_front v w x y same (append_cancel_left count (v ++ x) (w ++ y) (left ∙ e ∙ right))

-- an operand's value and the bytes after it are the only ones
pub operand_unique : (size : OperandSize) (v w x y : List ℕ) → IsSizeOf size (length v) → IsSizeOf size (length w) →
    operand_bytes size v ++ x ≡ operand_bytes size w ++ y → (v ≡ w) × (x ≡ y)
operand_unique size v w x y first second e =
    let one = extent size (operand_bytes size v ++ x) v x first refl in
    let other = extent size (operand_bytes size v ++ x) w y second e in
    counted_same size v w x y (extent_unique size (operand_bytes size v ++ x) (length v) (length w) one other) e

-- how many bytes the count has
abbrev pub count_len : OperandSize → ℕ
count_len (Fixed size) = 0
count_len CountedByByte = 1
count_len CountedByWord = 2

-- where the extent is within the bytes the operand is there
pub operand_at : (size : OperandSize) (rest : List ℕ) (len : ℕ) → AreBytes rest → IsExtent size rest len →
    IsSizeOf size len → IsOperandAt size rest (count_len size) (count_len size + len)
operand_at (Fixed size) rest len bytes here fits =
    let e = here.0 in
    let h = here.1 in
    record {
      order = omega arith;
      within = omega arith;
      fits = omega arith;
      spelt = three_parts rest 0 (0 + len) (omega arith);
    }
operand_at CountedByByte rest len bytes here fits =
    let e = here.0 in
    let h = here.1 in
    let long = length-range rest 1 (1 + len) (omega arith) in
    let count : take 1 rest ≡ length (slice_range rest 1 (1 + len)) ∷ [] = take_one rest (omega arith) ∙ ap
    (λ n. n ∷ []) (omega arith) in
    record {
      order = omega arith;
      within = omega arith;
      fits = omega arith;
      spelt = rw count at (three_parts rest 1 (1 + len) (omega arith));
    }
operand_at CountedByWord rest len bytes here fits =
    let e = here.0 in
    let h = here.1 in
    let long = length-range rest 2 (2 + len) (omega arith) in
    let number : length (slice_range rest 2 (2 + len)) + 1 ≡ u16_at rest 0 = omega arith in
    let count : take 2 rest ≡ number_bytes 2 (length (slice_range rest 2 (2 + len)) + 1) = sym (ap (number_bytes 2)
    number ∙ number_bytes-u16_at rest bytes (omega arith)) in
    record {
      order = omega arith;
      within = omega arith;
      fits = omega arith;
      spelt =
          three_parts rest 2 (2 + len) (omega arith)
          ∙ ap (λ front. front ++ (slice_range rest 2 (2 + len) ++ drop (2 + len) rest)) count
          ∙ sym (append_assoc (number_bytes 2 (length (slice_range rest 2 (2 + len)) + 1)) (slice_range rest 2
          (2 + len)) (drop (2 + len) rest));
    }

-- where no extent fits there is no operand
pub no_operand : (size : OperandSize) (rest : List ℕ) → ((len : ℕ) → IsSizeOf size len → ¬ (IsExtent size rest len)) →
    HasNoOperand size rest
no_operand size rest none = λ value more fits e. none (length value) fits (extent size rest value more fits e)

-- a part of what is left of a list
pub range_moved : (bytes rest : List ℕ) (at from to : ℕ) → rest ≡ drop at bytes → slice_range bytes (at + from)
    (at + to) ≡ slice_range rest from to
range_moved bytes rest at from to e =
    let len : at + to - (at + from) ≡ to - from = omega arith in
    let part : drop (at + from) bytes ≡ drop from rest = sym (ap (drop from) e ∙ drop-drop from at bytes) in
    rw (len, part) refl

-- ---- sizes by the spra

not_counted : (code spra : ℕ) → code / 8192 ≡ spra → ¬ (spra ≡ 6) → (code == 0xD608) ≡ false
not_counted code spra e other = apart code 0xD608 (λ same. other (omega arith))

by_spra : (code spra : ℕ) → code / 8192 ≡ spra → spra < 8 → ¬ (fixed_operand_len code ≡ 0) →
    Fixed (fixed_operand_len code) ≡ size_of code
by_spra code zero e lt some = rw (not_counted code 0 e (λ s. omega arith), e) refl
by_spra code (suc zero) e lt some = rw (not_counted code 1 e (λ s. omega arith), e) refl
by_spra code (suc (suc zero)) e lt some = rw (not_counted code 2 e (λ s. omega arith), e) refl
by_spra code (suc (suc (suc zero))) e lt some = rw (not_counted code 3 e (λ s. omega arith), e) refl
by_spra code (suc (suc (suc (suc zero)))) e lt some = rw (not_counted code 4 e (λ s. omega arith), e) refl
by_spra code (suc (suc (suc (suc (suc zero))))) e lt some = rw (not_counted code 5 e (λ s. omega arith), e) refl
by_spra code (suc (suc (suc (suc (suc (suc zero)))))) e lt some = absurd (some (rw e refl))
by_spra code (suc (suc (suc (suc (suc (suc (suc zero))))))) e lt some =
    rw (not_counted code 7 e (λ s. omega arith), e) refl
by_spra code (suc (suc (suc (suc (suc (suc (suc (suc n)))))))) e lt some = absurd (omega arith)

-- an operand of some bytes has this size
pub fixed_size : (code : ℕ) → code < 65536 → ¬ (fixed_operand_len code ≡ 0) → Fixed (fixed_operand_len code) ≡ size_of
    code
fixed_size code word some = by_spra code (code / 8192) refl (omega arith) some

by_count : (code spra : ℕ) → code / 8192 ≡ spra → spra < 8 → fixed_operand_len code ≡ 0 → counted code ≡ size_of code
by_count code zero e lt none = absurd (let f : 1 ≡ 0 = rw e at none in omega arith)
by_count code (suc zero) e lt none = absurd (let f : 1 ≡ 0 = rw e at none in omega arith)
by_count code (suc (suc zero)) e lt none = absurd (let f : 2 ≡ 0 = rw e at none in omega arith)
by_count code (suc (suc (suc zero))) e lt none = absurd (let f : 4 ≡ 0 = rw e at none in omega arith)
by_count code (suc (suc (suc (suc zero)))) e lt none = absurd (let f : 2 ≡ 0 = rw e at none in omega arith)
by_count code (suc (suc (suc (suc (suc zero))))) e lt none = absurd (let f : 2 ≡ 0 = rw e at none in omega arith)
by_count code (suc (suc (suc (suc (suc (suc zero)))))) e lt none = rw e refl
by_count code (suc (suc (suc (suc (suc (suc (suc zero))))))) e lt none = absurd (let f : 3 ≡ 0 = rw e at none in
    omega arith)
by_count code (suc (suc (suc (suc (suc (suc (suc (suc n)))))))) e lt none = absurd (omega arith)

-- where there are none, it is counted
pub counted_size : (code : ℕ) → code < 65536 → fixed_operand_len code ≡ 0 → counted code ≡ size_of code
counted_size code word none = by_count code (code / 8192) refl (omega arith) none
