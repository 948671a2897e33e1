-- For who saves in a container's own sectors: that a change may be put there, and what the file after has.
use Rattle.std.proofs.Common.{◌≡◌, ◌≢◌, ℕ, ◌^◌, ◌<◌, ◌≤◌, List, Some, length, slice_get, refl, sym, ap, ◌∙◌}
use Rattle.std.proofs.Common.{subst, arith}
use Rattle.cfb_streams.specs.Names.{wd_name}
use Rattle.cfb_streams.specs.Contents.{Stream, Contents, HasNamed}
use Rattle.cfb_streams.specs.Container.{HasContents}
use Rattle.cfb_in_place.specs.Change.{StreamChange, grown_bytes}
use Rattle.cfb_in_place.specs.InPlace.{StaysInPlace}
use Rattle.cfb_in_place.specs.Contract.{IsNamed, CanBePutInPlace, IsSavedInPlace}
use Rattle.cfb_in_place.proofs.InPlaceLemmas.{same_stream}
use Rattle.cfb_streams.proofs.Public.{named_place}
use Rattle.cfb_in_place.proofs.ContentsAgain.{save_stays, grown_bytes_are}

-- a stream by its name
pub is_named : (contents : Contents) (name bytes : List ℕ) (has : HasNamed contents.streams name bytes) →
    IsNamed contents
    has.index name
is_named contents name bytes has = record { stream = has.stream; here = has.here; named = has.named }

-- a file has one stream of a name
named_index : (file : List ℕ) (contents : Contents) (name : List ℕ) (i j : ℕ) → HasContents file contents → IsNamed
    contents i name → IsNamed contents j name → i ≡ j
named_index file contents name i j has one other =
    named_place file contents has name i j one.stream other.stream one.here other.here one.named other.named

-- and it has these bytes
pub named_bytes : (file : List ℕ) (contents : Contents) (name bytes : List ℕ) (i : ℕ) → HasContents file contents →
    HasNamed contents.streams name bytes → (is : IsNamed contents i name) → is.stream.bytes ≡ bytes
named_bytes file contents name bytes i has named is =
    let e = named_index file contents name i named.index has is (is_named contents name bytes named) in
    let here : slice_get contents.streams i ≡ Some named.stream = ap (λ k. slice_get contents.streams k) e ∙ named.here
    in
    ap (λ (s : Stream). s.bytes) (same_stream contents.streams i is.stream named.stream is.here here) ∙ sym named.same

-- a change of these lengths may be put into a file that has the two streams
pub can_append : (file : List ℕ) (contents : Contents) (change : StreamChange) (name wd table : List ℕ) →
    HasContents file
    contents → HasNamed contents.streams wd_name wd → HasNamed contents.streams name table → length name ≢ length
    wd_name → 4096 ≤ length wd → length change.fib ≤ 4096 → 4096 ≤ length change.table → length (grown_bytes change wd)
    < 2 ^ 31 → length change.table < 2 ^ 31 → CanBePutInPlace contents change name
can_append file contents change name wd table has one other apart long fib least grown short = record {
  two = record {
    main = (one.index, is_named contents wd_name wd one);
    other = (other.index, is_named contents name table other);
    apart = λ i j a b e.
        let here : slice_get contents.streams i ≡ Some b.stream = ap (λ k. slice_get contents.streams k) e ∙ b.here in
        let same = same_stream contents.streams i a.stream b.stream a.here here in
        let first = a.named.long in
        let second = b.named.long in
        let names = ap (λ (s : Stream). length s.name) same in
        apart (omega arith);
    long = λ i is. subst (λ (xs : List ℕ). 4096 ≤ length xs) (sym (named_bytes file contents wd_name wd i has one is))
        long;
  };
  fib = fib;
  table = least;
  grown_short = λ i is. subst (λ (xs : List ℕ). length (grown_bytes change xs) < 2 ^ 31) (sym (named_bytes file contents
      wd_name wd i has one is)) grown;
  table_short = short;
}

-- the stream with the FIB stays in its place
pub stays_in_place : (old new : List ℕ) (contents : Contents) (change : StreamChange) (name wd : List ℕ) →
    IsSavedInPlace
    old new contents change name → HasNamed contents.streams wd_name wd → StaysInPlace wd_name (length change.fib) old
    new wd
stays_in_place old new contents change name wd is one =
    subst (λ (xs : List ℕ). StaysInPlace wd_name (length change.fib) old new xs)
    (named_bytes old contents wd_name wd is.are.grown is.has one is.main)
    (save_stays old new contents is.after is.has is.chains change is.save is.are wd_name is.main.stream is.main.here
    is.main.named)

-- the two streams after
pub has_grown : (old new : List ℕ) (contents : Contents) (change : StreamChange) (name wd : List ℕ) → (is :
    IsSavedInPlace old new contents change name) → HasNamed contents.streams wd_name wd → HasNamed is.after.streams
    wd_name (grown_bytes change wd)
has_grown old new contents change name wd is one =
    let bytes = sym (grown_bytes_are old new contents is.after is.has is.chains change is.save is.are is.main.stream
    is.main.here) ∙ named_bytes old contents wd_name wd is.are.grown is.has one is.main in
    record {
      index = is.are.grown;
      stream = _;
      here = is.are.streams.grown_is is.main.stream is.main.here;
      named = is.main.named;
      same = ap (λ (xs : List ℕ). grown_bytes change xs) (sym bytes);
    }

pub has_table : (old new : List ℕ) (contents : Contents) (change : StreamChange) (name : List ℕ) → (is : IsSavedInPlace
    old new contents change name) → HasNamed is.after.streams name change.table
has_table old new contents change name is = record {
  index = is.are.table;
  stream = _;
  here = is.are.streams.table_is is.other.stream is.other.here;
  named = is.other.named;
  same = refl;
}
