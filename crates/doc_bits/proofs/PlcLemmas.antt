-- CP tables as they are printed.
use Rattle.std.proofs.Common.{◌≡◌, ℕ, zero, suc, ◌+◌, ◌-◌, ◌*◌, ◌^◌, ◌<◌, List, [], ◌∷◌, ◌++◌, length, take, drop}
use Rattle.std.proofs.Common.{Some, sym, ap, ◌∙◌, subst, arith, length-append}
use Rattle.std.specs.Prelude.{All, slice_get}
use Rattle.std.specs.List.{flat_map}
use Rattle.std.proofs.lemmas.List.{take_at, drop_at, drop-drop}
use Rattle.std.proofs.lemmas.List.Elements.{All-head, All-tail}
use Rattle.doc_bits.specs.Number.{number_at, number_bytes, u32_list_bytes}
use Rattle.doc_bits.proofs.NumberLemmas.{length-numbers, number_at-numbers, number_at-read_back, length-number_bytes}
use Rattle.doc_bits.specs.Plc.{printed_plc, HasPlc}

-- parts end to end
abbrev pub joined : List (List ℕ) → List ℕ
joined parts = flat_map (λ part. part) parts

pub length-joined : (size : ℕ) (parts : List (List ℕ)) → All (λ part. length part ≡ size) parts →
    length (joined parts) ≡ length parts * size
length-joined size [] sized = omega arith
length-joined size (part ∷ parts) sized =
    let ih = length-joined size parts (All-tail (λ part. length part ≡ size) part parts sized) in
    let one : length part ≡ size = All-head (λ part. length part ≡ size) part parts sized in
    omega (arith, length-append part (joined parts))

-- beyond a front
pub drop-front : (front rest : List ℕ) (n k : ℕ) → length front ≡ n → drop (n + k) (front ++ rest) ≡ drop k rest
drop-front front rest n k h = sym (drop-drop k n (front ++ rest)) ∙ ap (drop k) (drop_at front rest n h)

-- each part is at its place times the size
pub slice_get-joined : (size : ℕ) (parts : List (List ℕ)) (k : ℕ) → All (λ part. length part ≡ size) parts →
    k < length parts → slice_get parts k ≡ Some (take size (drop (size * k) (joined parts)))
slice_get-joined size [] k sized h = absurd (omega arith)
slice_get-joined size (part ∷ parts) zero sized h =
    let one : length part ≡ size = All-head (λ part. length part ≡ size) part parts sized in
    let none : size * 0 ≡ 0 = omega arith in
    rw none (ap (λ x. Some x) (sym (take_at part (joined parts) size one)))
slice_get-joined size (part ∷ parts) (suc k) sized h =
    let one : length part ≡ size = All-head (λ part. length part ≡ size) part parts sized in
    let place : size * suc k ≡ size + size * k = omega arith in
    rw (place, drop-front part (joined parts) size (size * k) one)
    (slice_get-joined size parts k (All-tail (λ part. length part ≡ size) part parts sized) (omega arith))

-- a printed table is read back
pub printed-HasPlc : (size : ℕ) (starts : List ℕ) (end : ℕ) (parts : List (List ℕ)) → 0 < length starts →
    length parts ≡ length starts → All (λ cp. cp < 2 ^ 32) starts → end < 2 ^ 32 → All (λ part. length part ≡ size)
    parts → HasPlc (printed_plc starts end parts) size starts end parts
printed-HasPlc size [] end parts some same small last sized = absurd (omega arith)
printed-HasPlc size (cp ∷ cps) end parts some same small last sized =
    let starts : List ℕ = cp ∷ cps in
    let front = length-numbers starts in
    let four = length-number_bytes 4 end in
    let tail = length-joined size parts sized in
    record {
      whole =
          let a = length-append (u32_list_bytes starts) (number_bytes 4 end ++ joined parts) in
          let b = length-append (number_bytes 4 end) (joined parts) in
          let product : length parts * size ≡ length starts * size = ap (λ n. n * size) same in
          omega arith;
      cps = λ k h. number_at-numbers starts (number_bytes 4 end ++ joined parts) k h (small k 0 h);
      last = subst (λ place. number_at (u32_list_bytes starts ++ (number_bytes 4 end ++ joined parts)) place 4 ≡ end)
          front
          (number_at-read_back 4 end (u32_list_bytes starts) (joined parts) last);
      entries = λ k h.
          let from : ℕ = 4 * (length starts + 1) + size * k in
          let width : from + size - from ≡ size = omega arith in
          let place : from ≡ 4 * length starts + (4 + size * k) = omega arith in
          let cut : drop from (u32_list_bytes starts ++ (number_bytes 4 end ++ joined parts)) ≡ drop (size * k)
          (joined parts) =
          rw place (drop-front (u32_list_bytes starts) (number_bytes 4 end ++ joined parts) (4 * length starts)
          (4 + size * k) front ∙ drop-front (number_bytes 4 end) (joined parts) 4 (size * k) four) in
          rw (width, cut) (slice_get-joined size parts k sized (omega arith));
    }
