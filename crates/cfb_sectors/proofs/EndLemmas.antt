-- Ends of paths that are remembered.
use Rattle.std.proofs.Common.{◌≡◌, ◌≢◌, inl, inr, ℕ, zero, suc, ◌+◌, ◌-◌, ◌<◌, ◌≤◌, ◌^◌, Option, Some, None}
use Rattle.std.proofs.Common.{MatchOption, false, true}
use Rattle.std.proofs.Common.{List, [], ◌∷◌, length, set, slice_index, refl, sym, ap, ◌∙◌, subst, arith, length-set}
use Rattle.std.specs.Prelude.{IfSome, is_some}
use Rattle.std.proofs.lemmas.Bool.{cases_lt, cases_eq}
use Rattle.std.proofs.lemmas.List.{get_or-set_same, get_or-set_other}
use Rattle.cfb_sectors.specs.declared.ends.End.{End}
use Rattle.cfb_sectors.specs.SectorChain.{HasSector, IsSectorPath, IsFullPath, last_of}
use Rattle.cfb_sectors.proofs.ChainLemmas.{path_short}
use Rattle.cfb_sectors.specs.Ends.{IsEnd, KnownEnds, IsKnownEndAt, end_at, with_known_end, Remembers, GoesOnAtKnown}
use Rattle.cfb_sectors.specs.Ends.{before}

-- a sector before a list
cons_within : (s : ℕ) (ys : List ℕ) (valid : ℕ) → s < valid → ((i : ℕ) → i < length ys → slice_index ys i < valid) →
    (i : ℕ) → i < length (s ∷ ys) → slice_index (s ∷ ys) i < valid
cons_within s ys valid low each zero h = low
cons_within s ys valid low each (suc i) h = each i (omega arith)

cons_distinct : (s : ℕ) (ys : List ℕ) → ¬ HasSector ys s →
    ((i j : ℕ) → i < j → j < length ys → slice_index ys i ≢ slice_index ys j) →
    (i j : ℕ) → i < j → j < length (s ∷ ys) → slice_index (s ∷ ys) i ≢ slice_index (s ∷ ys) j
cons_distinct s ys out apart zero zero less h e = omega arith
cons_distinct s ys out apart zero (suc j) less h e = out (record { index = j; inside = omega arith; here = sym e })
cons_distinct s ys out apart (suc i) zero less h e = omega arith
cons_distinct s ys out apart (suc i) (suc j) less h e = apart i j (omega arith) (omega arith) e

cons_links : (entry : ℕ → ℕ) (s : ℕ) (ys : List ℕ) → entry s ≡ slice_index ys 0 →
    ((i : ℕ) → i + 1 < length ys → entry (slice_index ys i) ≡ slice_index ys (i + 1)) →
    (i : ℕ) → i + 1 < length (s ∷ ys) → entry (slice_index (s ∷ ys) i) ≡ slice_index (s ∷ ys) (i + 1)
cons_links entry s ys first links zero h = first
cons_links entry s ys first links (suc i) h =
    let e : suc (i + 1) ≡ suc i + 1 = omega arith in
    subst (λ k. entry (slice_index ys i) ≡ slice_index (s ∷ ys) k) e (links i (omega arith))

last_cons : (s : ℕ) (ys : List ℕ) → 0 < length ys → last_of (s ∷ ys) ≡ last_of ys
last_cons s ys some =
    let e : length (s ∷ ys) - 1 ≡ suc (length ys - 1) = omega arith in ap (λ k. slice_index (s ∷ ys) k) e

-- a sector before a full path that does not have it
pub full_cons : (entry : ℕ → ℕ) (valid s : ℕ) (ys : List ℕ) → s < valid → IsFullPath entry valid (entry s) ys →
    ¬ HasSector ys s → IsFullPath entry valid s (s ∷ ys)
full_cons entry valid s ys low f out =
    let last = last_cons s ys f.path.some in
    record {
      path = record {
        some = omega arith;
        first = refl;
        within = cons_within s ys valid low f.path.within;
        distinct = cons_distinct s ys out f.path.distinct;
        links = cons_links entry s ys (sym f.path.first) f.path.links;
      };
      stops = elim f.stops [
        | inl over ↦ inl (subst (λ t. valid ≤ entry t) (sym last) over)
        | inr again ↦ inr (record {
          index = suc again.index;
          inside = (let a = again.inside in omega arith);
          here = again.here ∙ sym (ap entry last);
        })
      ];
    }

-- a sector whose entry is not valid
pub full_one : (entry : ℕ → ℕ) (valid s : ℕ) → s < valid → valid ≤ entry s → IsFullPath entry valid s (s ∷ [])
full_one entry valid s low over = record {
  path = record {
    some = omega arith;
    first = refl;
    within = cons_within s [] valid low (λ i h. absurd (omega arith));
    distinct = cons_distinct s [] (λ h. let a = h.inside in omega arith) (λ i j less h. absurd (omega arith));
    links = λ i h. absurd (omega arith);
  };
  stops = inl over;
}

-- all sectors of the path from a known one are known
pub known_all : (entry : ℕ → ℕ) (valid : ℕ) (known : KnownEnds) (s : ℕ) (xs : List ℕ) → Remembers entry valid known →
    IsKnownEndAt known s → IsSectorPath entry valid s xs → (i : ℕ) → i < length xs → IsKnownEndAt known (slice_index xs
    i)
known_all entry valid known s xs r is p zero h = subst (IsKnownEndAt known) (sym p.first) is
known_all entry valid known s xs r is p (suc i) h =
    let e : i + 1 ≡ suc i = omega arith in
    let link = p.links i (omega arith) in
    let low = p.within (i + 1) (omega arith) in
    subst (λ k. IsKnownEndAt known (slice_index xs k)) e
    (subst (IsKnownEndAt known) link
    (r.closed (slice_index xs i) (known_all entry valid known s xs r is p i (omega arith))
    (subst (λ t. t < valid) (sym link) low)))

-- the end of the path from a sector that is not known
pub end_step : (entry : ℕ → ℕ) (valid : ℕ) (known : KnownEnds) (s : ℕ) (rest : Option End) →
    Remembers entry valid known → s < valid → ¬ IsKnownEndAt known s → (entry s < valid → IsKnownEndAt known (entry s))
    →
    MatchOption rest (¬ IsKnownEndAt known (entry s)) (λ end. IsKnownEndAt known (entry s) × (end ≡ end_at known (entry
    s))) →
    IsEnd entry valid s (before s rest)
end_step entry valid known s None r low new goes none = record {
  sectors = s ∷ [];
  full = full_one entry valid s low (elim (cases_lt (entry s) valid) [
    | inl in_range ↦ absurd (none (goes in_range))
    | inr over ↦ over
  ]);
  count = refl;
  last = refl;
}
end_step entry valid known s (Some end) r low new goes found =
    let is = r.ends (entry s) found.0 in
    let e = found.1 in
    let count : end.count ≡ length is.sectors = ap (λ x. x.count) e ∙ is.count in
    record {
      sectors = s ∷ is.sectors;
      full = full_cons entry valid s is.sectors low is.full
          (λ h. new (subst (IsKnownEndAt known) h.here
          (known_all entry valid known (entry s) is.sectors r found.0 is.full.path h.index h.inside)));
      count = omega arith;
      last = ap (λ x. x.last) e ∙ (is.last ∙ sym (last_cons s is.sectors is.full.path.some));
    }

-- what is known stays known
pub kept_known : (known : KnownEnds) (s t : ℕ) (end : End) → s < length known.counts → 0 < end.count → IsKnownEndAt
    known t →
    IsKnownEndAt (with_known_end known s end) t
kept_known known s t end low some is = elim (cases_eq t s) [
  | inl same ↦ subst (λ n. 0 < n) (sym (ap (λ k. slice_index (set known.counts s end.count) k) same
      ∙ get_or-set_same known.counts s end.count 0 low)) some
  | inr other ↦ subst (λ n. 0 < n) (sym (get_or-set_other known.counts s t end.count 0 other)) is
]

-- the sector itself is known then
pub put_known : (known : KnownEnds) (s : ℕ) (end : End) → s < length known.counts → 0 < end.count →
    IsKnownEndAt (with_known_end known s end) s
put_known known s end low some = subst (λ n. 0 < n) (sym (get_or-set_same known.counts s end.count 0 low)) some

-- no other sector becomes known
pub only_known : (known : KnownEnds) (s t : ℕ) (end : End) → t ≢ s → IsKnownEndAt (with_known_end known s end) t →
    IsKnownEndAt known t
only_known known s t end other is = subst (λ n. 0 < n) (get_or-set_other known.counts s t end.count 0 other) is

-- one end more is right
pub put_ends : (entry : ℕ → ℕ) (valid : ℕ) (known : KnownEnds) (s : ℕ) (end : End) → s < length known.counts →
    s < length known.lasts → ((t : ℕ) → IsKnownEndAt known t → IsEnd entry valid t (end_at known t)) →
    IsEnd entry valid s end → (t : ℕ) → IsKnownEndAt (with_known_end known s end) t →
    IsEnd entry valid t (end_at (with_known_end known s end) t)
put_ends entry valid known s end inside inside_lasts ends is t h = elim (cases_eq t s) [
  | inl same ↦
      let e : end_at (with_known_end known s end) s ≡ end =
      ap (λ c. record { count = c; last = slice_index (set known.lasts s end.last) s })
      (get_or-set_same known.counts s end.count 0 inside)
      ∙ ap (λ l. record { count = end.count; last = l }) (get_or-set_same known.lasts s end.last 0 inside_lasts) in
      subst (λ k. IsEnd entry valid k (end_at (with_known_end known s end) k)) (sym same)
      (subst (IsEnd entry valid s) (sym e) is)
  | inr other ↦
      let e : end_at (with_known_end known s end) t ≡ end_at known t =
      ap (λ c. record { count = c; last = slice_index (set known.lasts s end.last) t })
      (get_or-set_other known.counts s t end.count 0 other)
      ∙ ap (λ l. record { count = slice_index known.counts t; last = l })
      (get_or-set_other known.lasts s t end.last 0 other) in
      subst (IsEnd entry valid t) (sym e) (ends t (only_known known s t end other h))
]

-- one end more is remembered
pub put_step : (entry : ℕ → ℕ) (valid : ℕ) (known : KnownEnds) (s : ℕ) (end : End) → Remembers entry valid known →
    s < valid → (entry s < valid → IsKnownEndAt known (entry s)) → 0 < end.count → IsEnd entry valid s end →
    Remembers entry valid (with_known_end known s end)
put_step entry valid known s end r low goes some is =
    let counts = r.counts_len in
    let lasts = r.lasts_len in
    let n = length-set known.counts s end.count in
    let m = length-set known.lasts s end.last in
    let inside : s < length known.counts = omega arith in
    let inside_lasts : s < length known.lasts = omega arith in
    record {
      counts_len = omega arith;
      lasts_len = omega arith;
      ends = put_ends entry valid known s end inside inside_lasts r.ends is;
      closed = λ t h less. elim (cases_eq t s) [
        | inl same ↦
            subst (λ k. IsKnownEndAt (with_known_end known s end) (entry k)) (sym same)
            (kept_known known s (entry s) end inside some (goes (subst (λ k. entry k < valid) same less)))
        | inr other ↦ kept_known known s (entry t) end inside some (r.closed t (only_known known s t end other h) less)
      ];
    }

pub before_some : (s : ℕ) (rest : Option End) → 0 < (before s rest).count
before_some s None = omega arith
before_some s (Some end) = omega arith

-- the sectors behind are remembered, besides those that were
pub record IsRemembered (entry : ℕ → ℕ) (valid : ℕ) (old known : KnownEnds) (path : List ℕ) (count : ℕ) : Type 0 where
  pub remembers : Remembers entry valid known
  pub kept : (s : ℕ) → IsKnownEndAt old s → IsKnownEndAt known s
  pub behind : (k : ℕ) → length path ≤ k + count → k < length path → IsKnownEndAt known (slice_index path k)

pub remembered_none : (entry : ℕ → ℕ) (valid : ℕ) (old : KnownEnds) (path : List ℕ) → Remembers entry valid old →
    IsRemembered entry valid old old path 0
remembered_none entry valid old path r = record {
  remembers = r;
  kept = λ s h. h;
  behind = λ k h low. absurd (omega arith);
}

-- what follows the sector before them is known
pub remembered_next : (entry : ℕ → ℕ) (valid : ℕ) (old known : KnownEnds) (path : List ℕ) (i s : ℕ) →
    ((k : ℕ) → k + 1 < length path → entry (slice_index path k) ≡ slice_index path (k + 1)) →
    GoesOnAtKnown entry valid old path → i < length path → s ≡ slice_index path (length path - 1 - i) →
    IsRemembered entry valid old known path i → entry s < valid → IsKnownEndAt known (entry s)
remembered_next entry valid old known path i s links goes_on low is r less = elim (cases_eq i 0) [
  | inl none ↦
      let e : length path - 1 - i ≡ length path - 1 = omega arith in
      let last : s ≡ last_of path = is ∙ ap (λ j. slice_index path j) e in
      subst (λ t. IsKnownEndAt known (entry t)) (sym last)
      (r.kept (entry (last_of path)) (goes_on (subst (λ t. entry t < valid) last less)))
  | inr some ↦
      let link = links (length path - 1 - i) (omega arith) in
      subst (IsKnownEndAt known) (sym (ap entry is ∙ link))
      (r.behind (length path - 1 - i + 1) (omega arith) (omega arith))
]

-- one sector more
pub remember_step : (entry : ℕ → ℕ) (valid : ℕ) (old known new : KnownEnds) (path : List ℕ) (i s : ℕ) →
    i < length path → s ≡ slice_index path (length path - 1 - i) → IsRemembered entry valid old known path i →
    Remembers entry valid new → ((t : ℕ) → IsKnownEndAt known t → IsKnownEndAt new t) → IsKnownEndAt new s →
    IsRemembered entry valid old new path (i + 1)
remember_step entry valid old known new path i s low is r remembers kept here = record {
  remembers = remembers;
  kept = λ t h. kept t (r.kept t h);
  behind = λ j h less. elim (cases_eq j (length path - 1 - i)) [
    | inl same ↦ subst (IsKnownEndAt new) (is ∙ ap (λ m. slice_index path m) (sym same)) here
    | inr other ↦ kept (slice_index path j) (r.behind j (omega arith) less)
  ];
}

-- the ends are small numbers
pub end_few : (entry : ℕ → ℕ) (valid : ℕ) (known : KnownEnds) (s : ℕ) (rest : Option End) →
    Remembers entry valid known →
    valid < 2 ^ 31 → MatchOption rest (¬ IsKnownEndAt known s) (λ end. IsKnownEndAt known s × (end ≡ end_at known s)) →
    IfSome rest (λ end. end.count < 2 ^ 32 - 1)
end_few entry valid known s None r few found = tt
end_few entry valid known s (Some end) r few found =
    let is = r.ends s found.0 in
    let short = path_short entry valid s is.sectors is.full.path in
    let count : end.count ≡ length is.sectors = ap (λ x. x.count) found.1 ∙ is.count in
    omega arith

-- a sector whose end is not found is not known
pub not_known : (known : KnownEnds) (s : ℕ) (rest : Option End) →
    MatchOption rest (¬ IsKnownEndAt known s) (λ end. IsKnownEndAt known s × (end ≡ end_at known s)) → is_some rest ≡
    false →
    ¬ IsKnownEndAt known s
not_known known s None found none = found
not_known known s (Some end) found none = absurd (cc none)

-- and one whose end is found is
pub is_known : (known : KnownEnds) (s : ℕ) (rest : Option End) →
    MatchOption rest (¬ IsKnownEndAt known s) (λ end. IsKnownEndAt known s × (end ≡ end_at known s)) → is_some rest ≡
    true →
    IsKnownEndAt known s
is_known known s None found some = absurd (cc some)
is_known known s (Some end) found some = found.0
