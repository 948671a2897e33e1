-- The streams that a document carries: where they are in the file, their order and their number.
use Rattle.std.proofs.Common.{◌≡◌, inl, inr, ℕ, zero, suc, ◌+◌, ◌<◌, ◌≤◌, true, false, cond, List, [], ◌∷◌}
use Rattle.std.proofs.Common.{Some, length, map, filter, slice_get, refl, sym, ap, subst, arith}
use Rattle.std.proofs.lemmas.Bool.{cases_Bool}
use Rattle.std.proofs.lemmas.Option.{none-some, same_Some}
use Rattle.cfb_streams.specs.Contents.{Stream, NamedBytes}
use Rattle.cfb_directory.specs.Directory.{IsNameBefore}
use Rattle.doc_read.specs.CarriedParts.{is_carried, carried_streams}

-- where a carried stream is in the file
pub record IsFrom (streams : List Stream) (named : NamedBytes) : Type 0 where
  pub index : ℕ
  pub stream : Stream
  pub here : slice_get streams index ≡ Some stream
  pub carried : is_carried stream.name ≡ true
  pub name : named.name ≡ stream.name
  pub bytes : named.bytes ≡ stream.bytes

-- a stream without its chain
abbrev pub without_chain : Stream → NamedBytes
without_chain stream = record { name = stream.name; bytes = stream.bytes }

-- the first stream is carried or left out
cons-carried : (stream : Stream) (streams : List Stream) → is_carried stream.name ≡ true →
    carried_streams (stream ∷ streams) ≡ without_chain stream ∷ carried_streams streams
cons-carried stream streams carried = ap (λ b. map without_chain (cond b (stream ∷ filter (λ s. is_carried s.name)
    streams) (filter (λ s. is_carried s.name) streams))) carried

cons-left_out : (stream : Stream) (streams : List Stream) → is_carried stream.name ≡ false →
    carried_streams (stream ∷ streams) ≡ carried_streams streams
cons-left_out stream streams left = ap (λ b. map without_chain (cond b (stream ∷ filter (λ s. is_carried s.name)
    streams) (filter (λ s. is_carried s.name) streams))) left

-- with one more stream in front
from-later : (stream : Stream) (streams : List Stream) (named : NamedBytes) → IsFrom streams named →
    IsFrom (stream ∷ streams) named
from-later stream streams named from = record {
  index = suc from.index;
  stream = from.stream;
  here = from.here;
  carried = from.carried;
  name = from.name;
  bytes = from.bytes;
}

from-cons : (stream : Stream) (streams : List Stream) (i : ℕ) (named : NamedBytes) → is_carried stream.name ≡ true →
    ((k : ℕ) → slice_get (carried_streams streams) k ≡ Some named → IsFrom streams named)
    → slice_get (without_chain stream ∷ carried_streams streams) i ≡ Some named → IsFrom (stream ∷ streams) named
from-cons stream streams zero named carried tail here =
    let same : named ≡ without_chain stream = sym (same_Some _ _ here) in
    record {
      index = zero;
      stream = stream;
      here = refl;
      carried = carried;
      name = ap (λ (n : NamedBytes). n.name) same;
      bytes = ap (λ (n : NamedBytes). n.bytes) same;
    }
from-cons stream streams (suc i) named carried tail here = from-later stream streams named (tail i here)

pub carried-from : (streams : List Stream) (i : ℕ) (named : NamedBytes) →
    slice_get (carried_streams streams) i ≡ Some named → IsFrom streams named
carried-from [] i named here = absurd (none-some named here)
carried-from (stream ∷ streams) i named here = elim (cases_Bool (is_carried stream.name)) [
  | inl carried ↦ from-cons stream streams i named carried (λ k there. carried-from streams k named there)
      (subst (λ xs. slice_get xs i ≡ Some named) (cons-carried stream streams carried) here)
  | inr left ↦ from-later stream streams named (carried-from streams i named (subst (λ xs. slice_get xs i ≡ Some
      named) (cons-left_out stream streams left) here))
]

-- names that ascend
abbrev pub Ascend : List Stream → Type 0
Ascend streams = (i j : ℕ) (stream later : Stream) → i < j → slice_get streams i ≡ Some stream → slice_get streams j ≡
    Some later → IsNameBefore stream.name later.name

abbrev pub AscendNamed : List NamedBytes → Type 0
AscendNamed streams = (i j : ℕ) (named later : NamedBytes) → i < j → slice_get streams i ≡ Some named →
    slice_get streams j ≡ Some later → IsNameBefore named.name later.name

order-cons : (stream : Stream) (streams : List Stream) → Ascend (stream ∷ streams) →
    AscendNamed (carried_streams streams) → AscendNamed (without_chain stream ∷ carried_streams streams)
order-cons stream streams order tail zero zero named later less here there = absurd (omega arith)
order-cons stream streams order tail zero (suc j) named later less here there =
    let from = carried-from streams j later there in
    let first : stream.name ≡ named.name = ap (λ (n : NamedBytes). n.name) (same_Some _ _ here) in
    subst (λ name. IsNameBefore name later.name) first
    (subst (λ name. IsNameBefore stream.name name) (sym from.name) (order zero (suc from.index) stream from.stream
    (omega arith) refl from.here))
order-cons stream streams order tail (suc i) zero named later less here there = absurd (omega arith)
order-cons stream streams order tail (suc i) (suc j) named later less here there =
    tail i j named later (omega arith) here there

-- they stay in their order
pub carried-order : (streams : List Stream) → Ascend streams → AscendNamed (carried_streams streams)
carried-order [] order = λ i j named later less here there. absurd (none-some named here)
carried-order (stream ∷ streams) order =
    let tail : AscendNamed (carried_streams streams) = carried-order streams (λ i j one other less here there. order
    (suc i) (suc j) one other (omega arith) here there) in
    elim (cases_Bool (is_carried stream.name)) [
      | inl carried ↦ subst AscendNamed (sym (cons-carried stream streams carried)) (order-cons stream streams order
          tail)
      | inr left ↦ subst AscendNamed (sym (cons-left_out stream streams left)) tail
    ]

-- no stream is added
pub carried-count : (streams : List Stream) → length (carried_streams streams) ≤ length streams
carried-count [] = omega arith
carried-count (stream ∷ streams) =
    let count = carried-count streams in
    elim (cases_Bool (is_carried stream.name)) [
      | inl carried ↦ let first = ap length (cons-carried stream streams carried) in omega arith
      | inr left ↦ let first = ap length (cons-left_out stream streams left) in omega arith
    ]

-- so many streams at least are left out of those behind the first, and of all
left_out-later : (stream : Stream) (streams : List Stream) (count : ℕ) →
    length (carried_streams streams) + count ≤ length streams →
    length (carried_streams (stream ∷ streams)) + count ≤ length (stream ∷ streams)
left_out-later stream streams count rest = elim (cases_Bool (is_carried stream.name)) [
  | inl carried ↦ let first = ap length (cons-carried stream streams carried) in omega arith
  | inr left ↦ let first = ap length (cons-left_out stream streams left) in omega arith
]

left_out-first : (stream : Stream) (streams : List Stream) (count : ℕ) → is_carried stream.name ≡ false →
    length (carried_streams streams) + count ≤ length streams
    → length (carried_streams (stream ∷ streams)) + (count + 1) ≤ length (stream ∷ streams)
left_out-first stream streams count left rest = let first = ap length (cons-left_out stream streams left) in omega arith

-- a stream that is not carried is left out, and so are two
left_out-one : (streams : List Stream) (i : ℕ) (stream : Stream) → slice_get streams i ≡ Some stream →
    is_carried stream.name ≡ false → length (carried_streams streams) + 1 ≤ length streams
left_out-one [] i stream here left = absurd (none-some stream here)
left_out-one (first ∷ streams) zero stream here left =
    let count = carried-count streams in
    left_out-first first streams 0 (subst (λ (s : Stream). is_carried s.name ≡ false) (sym (same_Some _ _ here)) left)
    (omega arith)
left_out-one (first ∷ streams) (suc i) stream here left =
    left_out-later first streams 1 (left_out-one streams i stream here left)

pub left_out-two : (streams : List Stream) (i j : ℕ) (stream later : Stream) → i < j →
    slice_get streams i ≡ Some stream → slice_get streams j ≡ Some later → is_carried stream.name ≡ false →
    is_carried later.name ≡ false
    → length (carried_streams streams) + 2 ≤ length streams
left_out-two [] i j stream later less here there left not_later = absurd (none-some stream here)
left_out-two (first ∷ streams) zero zero stream later less here there left not_later = absurd (omega arith)
left_out-two (first ∷ streams) zero (suc j) stream later less here there left not_later =
    left_out-first first streams 1 (subst (λ (s : Stream). is_carried s.name ≡ false) (sym (same_Some _ _ here)) left)
    (left_out-one streams j later there not_later)
left_out-two (first ∷ streams) (suc i) zero stream later less here there left not_later = absurd (omega arith)
left_out-two (first ∷ streams) (suc i) (suc j) stream later less here there left not_later =
    left_out-later first streams 2 (left_out-two streams i j stream later (omega arith) here there left not_later)
