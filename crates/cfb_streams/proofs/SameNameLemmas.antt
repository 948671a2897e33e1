-- Names that are compared: as a test and as a relation. A file has one stream of a name.
use Rattle.std.proofs.Common.{◌≡◌, ◌↔◌, ℕ, zero, suc, ◌+◌, ◌<◌, Bool, true, false, ◌==◌, IsTrue, List, length}
use Rattle.std.proofs.Common.{slice_index, slice_get, Some, inl, inr, refl, sym, subst, arith, eq-eqb, eqb-true}
use Rattle.std.specs.List.{list_all, range_with_len}
use Rattle.std.proofs.lemmas.Bool.{and_from, and_parts, false_from_ne_true, cases_order}
use Rattle.std.proofs.lemmas.Option.{slice_get_within}
use Rattle.cfb_directory.specs.Directory.{upper_case, AreSameNames}
use Rattle.cfb_directory.specs.Reach.{entry_place}
use Rattle.cfb_directory.proofs.Public.{ComesBefore-entries, same_not_before}
use Rattle.cfb_streams.specs.Names.{is_same_name}
use Rattle.cfb_streams.specs.Contents.{Stream, Contents}
use Rattle.cfb_streams.specs.Container.{HasContents}

-- a test that all numbers of a range pass
all-from : (test : ℕ → Bool) (from count : ℕ) → ((i : ℕ) → i < count → test (from + i) ≡ true) →
    list_all test (range_with_len from count) ≡ true
all-from test from zero passes = refl
all-from test from (suc count) passes =
    and_from (test from) (list_all test (range_with_len (from + 1) count))
    (subst (λ k. test k ≡ true) (let e : from + 0 ≡ from = omega arith in e) (passes 0 (omega arith)))
    (all-from test (from + 1) count
    (λ i below. subst (λ k. test k ≡ true) (let e : from + suc i ≡ from + 1 + i = omega arith in e)
    (passes (suc i) (omega arith))))

all-at : (test : ℕ → Bool) (from count : ℕ) → list_all test (range_with_len from count) ≡ true → (i : ℕ) → i < count →
    test (from + i) ≡ true
all-at test from zero all i below = absurd (omega arith)
all-at test from (suc count) all zero below =
    subst (λ k. test k ≡ true) (let e : from ≡ from + 0 = omega arith in e)
    (and_parts (test from) (list_all test (range_with_len (from + 1) count)) all).0
all-at test from (suc count) all (suc i) below =
    subst (λ k. test k ≡ true) (let e : from + 1 + i ≡ from + suc i = omega arith in e)
    (all-at test (from + 1) count (and_parts (test from) (list_all test (range_with_len (from + 1) count)) all).1 i
    (omega arith))

-- the test says what the relation says
pub same_name-is : (name other : List ℕ) → IsTrue (is_same_name name other) ↔ AreSameNames name other
same_name-is name other =
    let test : ℕ → Bool = λ i. upper_case (slice_index name i) == upper_case (slice_index other i) in
    let long : Bool = length name == length other in
    let all : Bool = list_all test (range_with_len 0 (length name)) in (
      (λ same.
          let parts = and_parts long all same in
          record {
            long = eqb-true (length name) (length other) parts.0;
            units = λ i below. eqb-true (upper_case (slice_index name i)) (upper_case (slice_index other i))
                (subst (λ k. test k ≡ true) (let e : 0 + i ≡ i = omega arith in e)
                (all-at test 0 (length name) parts.1 i below));
          }),
      (λ are. and_from long all (eq-eqb (length name) (length other) are.long)
          (all-from test 0 (length name)
          (λ i below. subst (λ k. test k ≡ true) (let e : i ≡ 0 + i = omega arith in e)
          (eq-eqb (upper_case (slice_index name i)) (upper_case (slice_index other i)) (are.units i below))))),
    )

pub same_name-false : (name other : List ℕ) → ¬ AreSameNames name other → false ≡ is_same_name name other
same_name-false name other apart = sym
    (false_from_ne_true (is_same_name name other) (λ same. apart ((same_name-is name other).0 same)))

-- a test that decides the relation is this one
pub same_name-test : (name other : List ℕ) (b : Bool) → (IsTrue b ↔ AreSameNames name other) →
    b ≡ is_same_name name other
same_name-test name other true is = sym ((same_name-is name other).1 (is.0 refl))
same_name-test name other false is = same_name-false name other (λ are. absurd (cc (is.1 are)))

-- of two streams of a file the later one has not the name of the other
pub named_once : (file : List ℕ) (contents : Contents) (has : HasContents file contents) (name : List ℕ) (i j : ℕ)
    (s t : Stream) → i < j → slice_get contents.streams i ≡ Some s → slice_get contents.streams j ≡ Some t →
    AreSameNames s.name name → ¬ AreSameNames t.name name
named_once file contents has name i j s t less a b one other =
    let low = slice_get_within contents.streams j t b in
    let len = has.streams.len in
    let first = has.streams.each i s a in
    let second = has.streams.each j t b in
    let order = has.lists.order i j less (omega arith) in
    same_not_before s.name t.name name one other
    (ComesBefore-entries file (entry_place has.parts.directory (slice_index has.entries i)) (entry_place
    has.parts.directory (slice_index has.entries j)) s.name t.name first.name second.name order)

-- so streams with one name are at one place
pub named_place : (file : List ℕ) (contents : Contents) (has : HasContents file contents) (name : List ℕ) (i j : ℕ)
    (s t : Stream) → slice_get contents.streams i ≡ Some s → slice_get contents.streams j ≡ Some t →
    AreSameNames s.name name → AreSameNames t.name name → i ≡ j
named_place file contents has name i j s t a b one other = elim (cases_order i j) [
  | inl same ↦ same
  | inr apart ↦ elim apart [
    | inl less ↦ absurd (named_once file contents has name i j s t less a b one other)
    | inr more ↦ absurd (named_once file contents has name j i t s more b a other one)
  ]
]
