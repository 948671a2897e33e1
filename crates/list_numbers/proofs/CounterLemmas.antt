-- Counters, one paragraph on.
use Rattle.std.proofs.Common.{◌≡◌, ◌≢◌, inl, inr, ℕ, ◌+◌, ◌*◌, ◌<◌, ◌≤◌, List, [], ◌∷◌, ◌++◌, length}
use Rattle.std.proofs.Common.{set, replicate, Option, Some, None, refl, sym, ap, ◌∙◌, subst, arith, eq-eqb, length-set}
use Rattle.std.proofs.lemmas.List.{length-replicate, get_or-replicate}
use Rattle.std.proofs.Common.{get_or-set_same, get_or-set_other, length-append}
use Rattle.std.proofs.lemmas.Bool.{lt-ltb, le-ltb, ne_eqb, cases_lt}
use Rattle.std.specs.Prelude.{slice_index}
use Rattle.list_numbers.specs.declared.list_place.ListPlace.{ListPlace}
use Rattle.list_numbers.specs.Counts.{count_at}
use Rattle.list_numbers.specs.Counters.{counter, CountsParagraph, HaveCounted}
use Rattle.list_numbers.proofs.CountLemmas.{count_more}

-- ---- the loop that clears

-- one place has one more, and those behind it up to another are cleared
pub record IsClearing (old now : List ℕ) (at upto : ℕ) : Type 0 where
  pub size : length now ≡ length old
  pub own : slice_index now at ≡ slice_index old at + 1
  pub cleared : (i : ℕ) → at < i → i < upto → slice_index now i ≡ 0
  pub before : (i : ℕ) → i < at → slice_index now i ≡ slice_index old i
  pub after : (i : ℕ) → upto ≤ i → slice_index now i ≡ slice_index old i

pub begins_clearing : (old : List ℕ) (at : ℕ) → at < length old →
    IsClearing old (set old at (slice_index old at + 1)) at (at + 1)
begins_clearing old at low = record {
  size = length-set old at (slice_index old at + 1);
  own = get_or-set_same old at (slice_index old at + 1) 0 low;
  cleared = λ i above under. absurd (omega arith);
  before = λ i under. get_or-set_other old at i (slice_index old at + 1) 0 (λ e. omega arith);
  after = λ i above. get_or-set_other old at i (slice_index old at + 1) 0 (λ e. omega arith);
}

pub clears_next : (old now : List ℕ) (at upto : ℕ) → IsClearing old now at upto → at < upto → upto < length old →
    IsClearing old (set now upto 0) at (upto + 1)
clears_next old now at upto h low within = record {
  size = length-set now upto 0 ∙ h.size;
  own = get_or-set_other now upto at 0 0 (λ e. omega arith) ∙ h.own;
  cleared = λ i above under. elim (cases_lt i upto) [
    | inl less ↦ get_or-set_other now upto i 0 0 (λ e. omega arith) ∙ h.cleared i above less
    | inr same ↦
        let e : i ≡ upto = omega arith in
        let long : upto < length now = subst (λ n. upto < n) (sym h.size) within in
        rw e (get_or-set_same now upto 0 0 long)
  ];
  before = λ i under. get_or-set_other now upto i 0 0 (λ e. omega arith) ∙ h.before i under;
  after = λ i above. get_or-set_other now upto i 0 0 (λ e. omega arith) ∙ h.after i (omega arith);
}

pub cleared_all : (place : ListPlace) (old now : List ℕ) → place.level < 9 →
    IsClearing old now (9 * place.list + place.level) (9 * place.list + 9) → CountsParagraph place old now
cleared_all place old now low h = record {
  size = h.size;
  own = h.own;
  above = λ level above under. h.cleared (9 * place.list + level) (omega arith) (omega arith);
  below = λ level under. h.before (9 * place.list + level) (omega arith);
  others = λ list level under other. elim (cases_lt list place.list) [
    | inl less ↦ h.before (9 * list + level) (omega arith)
    | inr more ↦
        let apart : place.list < list = elim (cases_lt place.list list) as (λ _. place.list < list) [
          | inl far ↦ far
          | inr near ↦ absurd (other (omega arith))
        ] in
        h.after (9 * list + level) (omega arith)
  ];
}

-- ---- counts after one paragraph more

count_here : (places : List (Option ListPlace)) (place : ListPlace) (list level : ℕ) → place.list ≡ list →
    place.level ≡ level → count_at (places ++ Some place ∷ []) list level ≡ count_at places list level + 1
count_here places place list level l v =
    count_more places (Some place) list level
    ∙ rw (eq-eqb place.list list l, le-ltb place.level level (omega arith), eq-eqb place.level level v) (omega arith)

count_above : (places : List (Option ListPlace)) (place : ListPlace) (list level : ℕ) → place.list ≡ list →
    place.level < level → count_at (places ++ Some place ∷ []) list level ≡ 0
count_above places place list level l v =
    count_more places (Some place) list level ∙ rw (eq-eqb place.list list l, lt-ltb place.level level v) refl

count_lower : (places : List (Option ListPlace)) (place : ListPlace) (list level : ℕ) → place.list ≡ list →
    level < place.level → count_at (places ++ Some place ∷ []) list level ≡ count_at places list level
count_lower places place list level l v =
    count_more places (Some place) list level
    ∙ rw (eq-eqb place.list list l, le-ltb place.level level (omega arith), ne_eqb place.level level (λ e. omega arith))
    (omega arith)

count_other : (places : List (Option ListPlace)) (place : ListPlace) (list level : ℕ) → place.list ≢ list →
    count_at (places ++ Some place ∷ []) list level ≡ count_at places list level
count_other places place list level l =
    count_more places (Some place) list level ∙ rw (ne_eqb place.list list l) (omega arith)

count_none : (places : List (Option ListPlace)) (list level : ℕ) → count_at (places ++ None ∷ []) list level ≡ count_at
    places list level
count_none places list level = count_more places None list level ∙ (omega arith)

-- ---- all counters

pub none_counted : (lists : ℕ) → HaveCounted [] lists (replicate (9 * lists) 0)
unfolding count_at
none_counted lists = record {
  size = length-replicate (9 * lists) 0;
  each = λ list level low under. (get_or-replicate (9 * lists) (9 * list + level) 0 0 (omega arith), omega arith);
}

pub zeros_have_counted : (lists : ℕ) (counts : List ℕ) → counts ≡ replicate (9 * lists) 0 → HaveCounted [] lists counts
zeros_have_counted lists counts e = rw e (none_counted lists)

pub paragraph_counted : (places : List (Option ListPlace)) (place : ListPlace) (lists : ℕ) (old new : List ℕ) →
    HaveCounted places lists old → CountsParagraph place old new → HaveCounted (places ++ Some place ∷ []) lists new
paragraph_counted places place lists old new h c = record {
  size = c.size ∙ h.size;
  each = λ list level low under.
      let more = length-append places (Some place ∷ []) in
      let before = h.each list level low under in
      let most = before.1 in
      elim (cases_lt list place.list) [
        | inl less ↦
            let other : list ≢ place.list = (λ e. omega arith) in
            let is = count_other places place list level (λ e. omega arith) in
            (c.others list level under other ∙ (before.0 ∙ sym is), omega arith)
        | inr up ↦ elim (cases_lt place.list list) [
          | inl less ↦
              let other : list ≢ place.list = (λ e. omega arith) in
              let is = count_other places place list level (λ e. omega arith) in
              (c.others list level under other ∙ (before.0 ∙ sym is), omega arith)
          | inr same ↦
              let l : place.list ≡ list = omega arith in
              elim (cases_lt level place.level) [
                | inl lower ↦
                    let is = count_lower places place list level l lower in (
                      ap (λ k. counter new k level) (sym l) ∙ (c.below level lower ∙ (ap (λ k. counter old k level) l
                          ∙ (before.0 ∙ sym is))),
                      omega arith,
                    )
                | inr upper ↦ elim (cases_lt place.level level) [
                  | inl higher ↦
                      let is = count_above places place list level l higher in
                      (ap (λ k. counter new k level) (sym l) ∙ (c.above level higher under ∙ sym is), omega arith)
                  | inr level_same ↦
                      let v : place.level ≡ level = omega arith in
                      let is = count_here places place list level l v in (
                        ap (λ k. counter new k level) (sym l) ∙ (ap (counter new place.list) (sym v) ∙ (c.own
                            ∙ (ap (λ n. n + 1) (ap (counter old place.list) v ∙ (ap (λ k. counter old k level) l
                            ∙ before.0)) ∙ sym is))),
                        omega arith,
                      )
                ]
              ]
        ]
      ];
}

-- a paragraph of no list counts nowhere
pub other_counted : (places : List (Option ListPlace)) (lists : ℕ) (counts : List ℕ) → HaveCounted places lists counts →
    HaveCounted (places ++ None ∷ []) lists counts
other_counted places lists counts h = record {
  size = h.size;
  each = λ list level low under.
      let more = length-append places (None ∷ []) in
      let before = h.each list level low under in
      let most = before.1 in
      let is = count_none places list level in
      (before.0 ∙ sym is, omega arith);
}
