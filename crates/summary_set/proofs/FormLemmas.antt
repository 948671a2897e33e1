-- The conditions on the head of a stream and on its pairs, as facts and as rules.
use Rattle.std.proofs.Common.{◌≡◌, ◌≢◌, ◌∙◌, inl, inr, ℕ, ◌+◌, ◌*◌, ◌<◌, ◌≤◌, Bool, true, false, not, ◌&&◌}
use Rattle.std.proofs.Common.{List, length, refl, sym, subst, arith}
use Rattle.std.proofs.lemmas.Bool.{cases_lt, cases_eq, false≢true, ne_eqb}
use Rattle.std.specs.Ordering.{nat_cmp, is_eq}
use Rattle.std.specs.Prelude.{nat_lt, eqb, if◌then◌else◌, ◌⊎◌}
use Rattle.std.specs.declared.cmp.Ordering.TheVariants.{Less, Equal, Greater}
use Rattle.doc_bits.specs.Number.{u16_at, u32_at}
use Rattle.doc_bits.specs.Rules.{Nowhere, IsLeast, Hold}
use Rattle.doc_bits.proofs.Public.{first_among, none_among, stable_le, stable_eq}
use Rattle.summary_set.specs.declared.fault.SetFault.TheVariants.{Form}
use Rattle.summary_set.specs.PropertySet.{first_set_begin, first_set_size, pair_count, pair_place, pair_at}
use Rattle.summary_set.specs.Form.{HasHead, Unless, BeginsWithin, IsSized, IsValidPair, head_rules, pair_rules}
use Rattle.summary_set.specs.Form.{IsFaultOf}

unless_hold : (place : ℕ) (holds : Type 0) → holds → Nowhere (Unless place holds)
unless_hold place holds h = λ p w. w.1 h

unless_first : (place : ℕ) (holds : Type 0) → ¬ holds → IsLeast (λ a b. a ≤ b) (Unless place holds) place
unless_first place holds none = record { broken = (refl, none); least = λ p w. let e = w.0 in omega arith }

-- where they hold, no rule on the head is broken
pub head_holds : (b : List ℕ) → HasHead b → Hold (head_rules b)
head_holds b h = (
  unless_hold (length b) (56 ≤ length b) h.long,
  (
    unless_hold 0 (u16_at b 0 ≡ 0xFFFE) h.mark,
    (
      unless_hold 24 (u32_at b 24 ≡ 1) h.one,
      (unless_hold 44 (BeginsWithin b) h.begins, unless_hold (first_set_begin b) (IsSized b) h.sized),
    ),
  ),
)

-- and where no rule is broken they hold
pub head_of_rules : (b : List ℕ) → Hold (head_rules b) → HasHead b
head_of_rules b h = record {
  long = stable_le 56 (length b) (λ none. h.0 (length b) (refl, none));
  mark = stable_eq (u16_at b 0) 0xFFFE (λ none. h.1.0 0 (refl, none));
  one = stable_eq (u32_at b 24) 1 (λ none. h.1.1.0 24 (refl, none));
  begins = record {
    behind_head = stable_le 48 (first_set_begin b) (λ none. h.1.1.1.0 44 (refl, λ x. none x.behind_head));
    numbers = stable_le (first_set_begin b + 8) (length b) (λ none. h.1.1.1.0 44 (refl, λ x. none x.numbers));
  };
  sized = record {
    pairs = stable_le (8 + 8 * pair_count b) (first_set_size b) (λ none. h.1.1.1.1 (first_set_begin b) (
      refl,
      λ x. none
          x.pairs,
    ));
    within = stable_le (first_set_begin b + first_set_size b) (length b) (λ none. h.1.1.1.1 (first_set_begin b) (
      refl,
      λ x. none
          x.within,
    ));
  };
}

pub is_short : (b : List ℕ) → ¬ (56 ≤ length b) → IsFaultOf (head_rules b) (Form (length b))
is_short b none = (1, inl (refl, unless_first (length b) (56 ≤ length b) none))

pub other_mark : (b : List ℕ) → 56 ≤ length b → u16_at b 0 ≢ 0xFFFE → IsFaultOf (head_rules b) (Form 0)
other_mark b long none = (
  2,
  inr (
    unless_hold (length b) (56 ≤ length b) long,
    inl (refl, unless_first 0 (u16_at b 0 ≡ 0xFFFE) none),
  ),
)

pub other_count : (b : List ℕ) → 56 ≤ length b → u16_at b 0 ≡ 0xFFFE → u32_at b 24 ≢ 1 → IsFaultOf (head_rules b)
    (Form 24)
other_count b long mark none = (
  3,
  inr (
    unless_hold (length b) (56 ≤ length b) long,
    inr (unless_hold 0 (u16_at b 0 ≡ 0xFFFE) mark, inl (refl, unless_first 24 (u32_at b 24 ≡ 1) none)),
  ),
)

pub other_begin : (b : List ℕ) → 56 ≤ length b → u16_at b 0 ≡ 0xFFFE → u32_at b 24 ≡ 1 → ¬ BeginsWithin b →
    IsFaultOf (head_rules b) (Form 44)
other_begin b long mark one none = (
  4,
  inr (
    unless_hold (length b) (56 ≤ length b) long,
    inr (
      unless_hold 0 (u16_at b 0 ≡ 0xFFFE) mark,
      inr (unless_hold 24 (u32_at b 24 ≡ 1) one, inl (refl, unless_first 44 (BeginsWithin b) none)),
    ),
  ),
)

pub other_size : (b : List ℕ) → 56 ≤ length b → u16_at b 0 ≡ 0xFFFE → u32_at b 24 ≡ 1 → BeginsWithin b →
    ¬ IsSized b → IsFaultOf (head_rules b) (Form (first_set_begin b))
other_size b long mark one begins none = (
  5,
  inr (
    unless_hold (length b) (56 ≤ length b) long,
    inr (
      unless_hold 0 (u16_at b 0 ≡ 0xFFFE) mark,
      inr (
        unless_hold 24 (u32_at b 24 ≡ 1) one,
        inr (
          unless_hold 44 (BeginsWithin b) begins,
          (refl, unless_first (first_set_begin b) (IsSized b) none),
        ),
      ),
    ),
  ),
)

-- ---- pairs

-- the first wrong pair is the place
pub wrong_pair : (b : List ℕ) (i : ℕ) → i < pair_count b → ((j : ℕ) → j < i → IsValidPair b j) → ¬ IsValidPair b i →
    IsFaultOf (pair_rules b) (Form (pair_place b i))
wrong_pair b i below before none = (
  6,
  (
    refl,
    first_among (λ k. Unless (pair_place b k) (IsValidPair b k)) (pair_count b) i (pair_place b i)
        (λ j k a c h x y. let p = x.0 in let q = y.0 in omega arith) below
        (λ k h. unless_hold (pair_place b k) (IsValidPair b k) (before k h))
        (unless_first (pair_place b i) (IsValidPair b i) none),
  ),
)

pub right_pairs : (b : List ℕ) → ((j : ℕ) → j < pair_count b → IsValidPair b j) → Hold (pair_rules b)
right_pairs b right = none_among (λ k. Unless (pair_place b k) (IsValidPair b k)) (pair_count b)
    (λ k h. unless_hold (pair_place b k) (IsValidPair b k) (right k h))

-- each pair of a set is right
pub pair_of_rules : (b : List ℕ) (i : ℕ) → Hold (pair_rules b) → i < pair_count b → IsValidPair b i
pair_of_rules b i h below =
    let twice : ¬ ¬ IsValidPair b i = λ none. h (pair_place b i) (record {
      entry = i;
      below = below;
      broken = (refl, none);
    }) in
    record {
      behind_pairs = stable_le (8 + 8 * pair_count b) (pair_at b i).offset (λ none. twice (λ x. none x.behind_pairs));
      within = stable_le ((pair_at b i).offset + 4) (first_set_size b) (λ none. twice (λ x. none x.within));
      new_id = λ j low e. twice (λ x. x.new_id j low e);
      new_offset = λ j low e. twice (λ x. x.new_offset j low e);
    }

-- ---- numbers that were met

-- a set of numbers has the first n of a series and no other
pub record Knows (has : ℕ → Bool) (number : ℕ → ℕ) (n : ℕ) : Type 0 where
  pub some : (q : ℕ) → has q ≡ true → (j : ℕ) × ((j < n) × (number j ≡ q))
  pub none : (q : ℕ) → has q ≡ false → (j : ℕ) → j < n → number j ≢ q

apart_case : (less equal : Bool) → equal ≡ false → is_eq (if less then Less else (if equal then Equal else Greater)) ≡
    false
apart_case true equal h = refl
apart_case false equal h = rw h refl

apart : (x y : ℕ) → x ≢ y → is_eq (nat_cmp x y) ≡ false
apart x y ne = apart_case (nat_lt x y) (eqb x y) (ne_eqb x y ne)

-- one number more
pub knows_more : (old new : ℕ → Bool) (number : ℕ → ℕ) (n key : ℕ) → number n ≡ key → Knows old number n →
    new key ≡ true → ((q : ℕ) → is_eq (nat_cmp key q) ≡ false → new q ≡ old q) → Knows new number (n + 1)
knows_more old new number n key here knows has others = record {
  some = λ q h. elim (cases_eq key q) [
    | inl e ↦ (n, (omega arith, here ∙ e))
    | inr differ ↦
        let w = knows.some q (sym (others q (apart key q differ)) ∙ h) in
        let low = w.1.0 in
        (w.0, (omega arith, w.1.1))
  ];
  none = λ q h j low e. elim (cases_eq key q) [
    | inl same ↦ absurd (false≢true (sym h ∙ subst (λ x. new x ≡ true) same has))
    | inr differ ↦ elim (cases_lt j n) [
      | inl below ↦ knows.none q (sym (others q (apart key q differ)) ∙ h) j below e
      | inr high ↦
          let last : n ≡ j = omega arith in
          absurd (differ (sym here ∙ (subst (λ k. number k ≡ q) (sym last) e)))
    ]
  ];
}

both_new : (a b : Bool) → (not a && not b) ≡ true → (a ≡ false) × (b ≡ false)
both_new true b h = absurd (false≢true h)
both_new false true h = absurd (false≢true h)
both_new false false h = (refl, refl)

one_seen : (a b : Bool) → (not a && not b) ≡ false → (a ≡ true) ⊎ (b ≡ true)
one_seen true b h = inl refl
one_seen false true h = inr refl
one_seen false false h = absurd (false≢true (sym h))

-- a pair of which neither number was met is right
pub new_pair : (b : List ℕ) (i : ℕ) (ids offsets : ℕ → Bool) → Knows ids (λ j. (pair_at b j).id) i →
    Knows offsets (λ j. (pair_at b j).offset) i → (not (ids (pair_at b i).id) && not (offsets (pair_at b i).offset)) ≡
    true → 8 + 8 * pair_count b ≤ (pair_at b i).offset → (pair_at b i).offset + 4 ≤ first_set_size b → IsValidPair b i
new_pair b i ids offsets known known_offsets h behind within =
    let new = both_new (ids (pair_at b i).id) (offsets (pair_at b i).offset) h in
    record {
      behind_pairs = behind;
      within = within;
      new_id = known.none (pair_at b i).id new.0;
      new_offset = known_offsets.none (pair_at b i).offset new.1;
    }

-- any other is wrong
pub seen_pair : (b : List ℕ) (i : ℕ) (ids offsets : ℕ → Bool) → Knows ids (λ j. (pair_at b j).id) i →
    Knows offsets (λ j. (pair_at b j).offset) i → (not (ids (pair_at b i).id) && not (offsets (pair_at b i).offset)) ≡
    false → ¬ IsValidPair b i
seen_pair b i ids offsets known known_offsets h right =
    elim (one_seen (ids (pair_at b i).id) (offsets (pair_at b i).offset) h) [
      | inl x ↦ let w = known.some (pair_at b i).id x in right.new_id w.0 w.1.0 w.1.1
      | inr y ↦ let w = known_offsets.some (pair_at b i).offset y in right.new_offset w.0 w.1.0 w.1.1
    ]
