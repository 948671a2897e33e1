-- Streams of which one has other bytes.
use Rattle.std.proofs.Common.{ℕ, zero, suc, refl, ap, subst, arith, ◌≡◌, ◌≢◌, ◌+◌, ◌^◌, ◌<◌, ◌≤◌, List, [], ◌∷◌}
use Rattle.std.proofs.Common.{length, Some, length-set, get_or, inl, inr}
use Rattle.std.specs.Prelude.{slice_get}
use Rattle.std.specs.List.{sum_by}
use Rattle.std.specs.Option.{option_map, unwrap_or}
use Rattle.std.proofs.lemmas.List.Sums.{sum_by-set}
use Rattle.std.proofs.lemmas.List.{set_past}
use Rattle.std.proofs.lemmas.Bool.{cases_lt}
use Rattle.cfb_streams.specs.Contents.{NamedBytes, AreStreams}
use Rattle.cfb_directory.specs.Directory.{IsNameBefore}
use Rattle.doc_model.specs.Carried.{IsCarriedName, AreCarriedStreams, with_bytes}

-- names stay
pub with_bytes-name : (streams : List NamedBytes) (i : ℕ) (bytes : List ℕ) (k : ℕ) →
    option_map (λ s. s.name) (slice_get (with_bytes streams i bytes) k) ≡ option_map (λ s. s.name) (slice_get streams k)
with_bytes-name [] i bytes k = refl
with_bytes-name (x ∷ xs) zero bytes zero = refl
with_bytes-name (x ∷ xs) zero bytes (suc k) = refl
with_bytes-name (x ∷ xs) (suc i) bytes zero = refl
with_bytes-name (x ∷ xs) (suc i) bytes (suc k) = with_bytes-name xs i bytes k

-- the bytes of the one are these
pub with_bytes-here : (streams : List NamedBytes) (i : ℕ) (bytes : List ℕ) → i < length streams →
    option_map (λ s. s.bytes) (slice_get (with_bytes streams i bytes) i) ≡ Some bytes
with_bytes-here [] i bytes within = absurd (omega arith)
with_bytes-here (x ∷ xs) zero bytes within = refl
with_bytes-here (x ∷ xs) (suc i) bytes within = with_bytes-here xs i bytes (omega arith)

-- all others are as they were
pub with_bytes-other : (streams : List NamedBytes) (i : ℕ) (bytes : List ℕ) (k : ℕ) → k ≢ i →
    slice_get (with_bytes streams i bytes) k ≡ slice_get streams k
with_bytes-other [] i bytes k other = refl
with_bytes-other (x ∷ xs) zero bytes zero other = absurd (other refl)
with_bytes-other (x ∷ xs) zero bytes (suc k) other = refl
with_bytes-other (x ∷ xs) (suc i) bytes zero other = refl
with_bytes-other (x ∷ xs) (suc i) bytes (suc k) other = with_bytes-other xs i bytes k (λ same. other (ap suc same))

pub length-with_bytes : (streams : List NamedBytes) (i : ℕ) (bytes : List ℕ) →
    length (with_bytes streams i bytes) ≡ length streams
length-with_bytes streams i bytes = length-set streams i _

-- each stream has the name of one that was at its place
pub named_before : (streams : List NamedBytes) (i : ℕ) (bytes : List ℕ) (k : ℕ) (stream : NamedBytes) →
    slice_get (with_bytes streams i bytes) k ≡ Some stream →
    (old : NamedBytes) × ((slice_get streams k ≡ Some old) × (old.name ≡ stream.name))
named_before [] i bytes k stream here = absurd (cc)
named_before (x ∷ xs) zero bytes zero stream here = (x, (refl, ap (λ o. (unwrap_or o x).name) here))
named_before (x ∷ xs) zero bytes (suc k) stream here = (stream, (here, refl))
named_before (x ∷ xs) (suc i) bytes zero stream here = (x, (refl, ap (λ o. (unwrap_or o x).name) here))
named_before (x ∷ xs) (suc i) bytes (suc k) stream here = named_before xs i bytes k stream here

-- all bytes are at most those that were there and the new ones
pub with_bytes-total : (streams : List NamedBytes) (i : ℕ) (bytes : List ℕ) →
    sum_by (λ stream. length stream.bytes) (with_bytes streams i bytes)
    ≤ sum_by (λ stream. length stream.bytes) streams + length bytes
with_bytes-total streams i bytes =
    let none : NamedBytes = record { name = []; bytes = [] } in
    let new : NamedBytes = record { name = (get_or streams i none).name; bytes = bytes } in
    let size : NamedBytes → ℕ = λ stream. length stream.bytes in
    elim (cases_lt i (length streams)) [
      | inl low ↦
          let sum : sum_by size (with_bytes streams i bytes) + length (get_or streams i none).bytes
          ≡ sum_by size streams + length bytes =
          sum_by-set size streams i new none low in
          omega (arith, sum)
      | inr high ↦
          let same : with_bytes streams i bytes ≡ streams = set_past streams i new high in
          let sum : sum_by size (with_bytes streams i bytes) ≡ sum_by size streams = ap (sum_by size) same in
          omega (arith, sum)
    ]

-- streams with names of 1 to 31 units in their order stay so
pub with_bytes-AreStreams : (streams : List NamedBytes) (i : ℕ) (bytes : List ℕ) → AreStreams streams →
    sum_by (λ stream. length stream.bytes) (with_bytes streams i bytes) < 2 ^ 48 → AreStreams (with_bytes streams i
    bytes)
with_bytes-AreStreams streams i bytes are total = record {
  some =
      λ k stream here. let old = named_before streams i bytes k stream here in
      subst (λ name. 1 ≤ length name) old.1.1 (are.some k old.0 old.1.0);
  short =
      λ k stream here. let old = named_before streams i bytes k stream here in
      subst (λ name. length name ≤ 31) old.1.1 (are.short k old.0 old.1.0);
  order =
      λ k l stream later less here there. let old = named_before streams i bytes k stream here in
      let other = named_before streams i bytes l later there in
      subst (λ name. IsNameBefore stream.name name) other.1.1
      (subst (λ name. IsNameBefore name other.0.name) old.1.1 (are.order k l old.0 other.0 less old.1.0 other.1.0));
  total = total;
}

-- streams that a document may carry stay so where there is room
pub with_bytes-carried : (streams : List NamedBytes) (i : ℕ) (bytes : List ℕ) → AreCarriedStreams streams →
    sum_by (λ stream. length stream.bytes) streams + length bytes < 2 ^ 40
    → AreCarriedStreams (with_bytes streams i bytes)
with_bytes-carried streams i bytes are room = record {
  few = omega (arith, are.few, length-with_bytes streams i bytes);
  total = omega (arith, with_bytes-total streams i bytes);
  names =
      λ k stream here. let old = named_before streams i bytes k stream here in
      subst IsCarriedName old.1.1 (are.names k old.0 old.1.0);
}
