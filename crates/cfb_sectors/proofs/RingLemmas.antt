-- Sectors in a ring: the full path from each of them has all of them, and ends before it.
use Rattle.std.proofs.Common.{◌≡◌, ◌⊎◌, inl, inr, ℕ, suc, ◌+◌, ◌-◌, ◌<◌, ◌≤◌, List, [], ◌∷◌, ◌++◌, length, drop}
use Rattle.std.proofs.Common.{slice_index, refl, sym, ap, ◌∙◌, subst, arith, length-set}
use Rattle.std.proofs.lemmas.Bool.{cases_lt, cases_eq}
use Rattle.std.proofs.lemmas.List.{get_or-drop, length-drop}
use Rattle.cfb_sectors.specs.declared.ends.End.{End}
use Rattle.cfb_sectors.specs.SectorChain.{HasSector, IsSectorPath, last_of}
use Rattle.cfb_sectors.specs.Ends.{IsEnd, KnownEnds, IsKnownEndAt, end_at, with_known_end, Remembers, IsFreshPath}
use Rattle.cfb_sectors.specs.Ends.{IsRing, IsRingEnd}
use Rattle.cfb_sectors.proofs.ChainLemmas.{pushed_before, pushed_last, length_pushed}
use Rattle.cfb_sectors.proofs.EndLemmas.{kept_known, put_known, only_known, put_ends}

-- the ring from the sector that follows
rotated : (entry : ℕ → ℕ) (valid at count : ℕ) (ys : List ℕ) → IsRing entry valid at ys → count ≡ length ys →
    IsRingEnd entry valid (entry at) (record { count = count; last = at })
rotated entry valid at count [] ring len = absurd (let some = ring.path.some in omega arith)
rotated entry valid at count (y ∷ zs) ring len =
    let same : y ≡ at = ring.path.first in
    let n = length_pushed zs at in
    record {
      sectors = zs ++ at ∷ [];
      ring = record {
        path = record {
          some = omega arith;
          first = elim (cases_eq (length zs) 0) [
            | inl empty ↦
                let one : length (y ∷ zs) - 1 ≡ 0 = omega arith in
                let last : last_of (y ∷ zs) ≡ at = ap (λ k. slice_index (y ∷ zs) k) one ∙ same in
                pushed_last zs at 0 (sym empty) ∙ sym (sym (ap entry last) ∙ ring.back)
            | inr some ↦
                let link : entry y ≡ slice_index zs 0 = ring.path.links 0 (omega arith) in
                pushed_before zs at 0 (omega arith) ∙ (sym link ∙ ap entry same)
          ];
          within = λ i h. elim (cases_lt i (length zs)) [
            | inl lo ↦ rw (pushed_before zs at i lo) (ring.path.within (suc i) (omega arith))
            | inr hi ↦ rw (pushed_last zs at i (omega arith))
                (subst (λ k. k < valid) same (ring.path.within 0 (omega arith)))
          ];
          distinct = λ i j less h e. elim (cases_lt j (length zs)) [
            | inl lo ↦ ring.path.distinct (suc i) (suc j) (omega arith) (omega arith)
                (sym (pushed_before zs at i (omega arith)) ∙ (e ∙ pushed_before zs at j lo))
            | inr hi ↦ ring.path.distinct 0 (suc i) (omega arith) (omega arith)
                (same ∙ sym (sym (pushed_before zs at i (omega arith)) ∙ (e ∙ pushed_last zs at j (omega arith))))
          ];
          links = λ i h. elim (cases_lt (i + 1) (length zs)) [
            | inl lo ↦
                let e : suc i + 1 ≡ suc (i + 1) = omega arith in
                rw (pushed_before zs at i (omega arith), pushed_before zs at (i + 1) lo)
                (subst (λ k. entry (slice_index zs i) ≡ slice_index (y ∷ zs) k) e
                (ring.path.links (suc i) (omega arith)))
            | inr hi ↦
                let e : length (y ∷ zs) - 1 ≡ suc i = omega arith in
                let last : last_of (y ∷ zs) ≡ slice_index zs i = ap (λ k. slice_index (y ∷ zs) k) e in
                rw (pushed_before zs at i (omega arith), pushed_last zs at (i + 1) (omega arith))
                (sym (ap entry last) ∙ ring.back)
          ];
        };
        back = ap entry (pushed_last zs at (length (zs ++ at ∷ []) - 1) (omega arith));
      };
      count = omega arith;
      last = sym (pushed_last zs at (length (zs ++ at ∷ []) - 1) (omega arith));
    }

pub ring_next : (entry : ℕ → ℕ) (valid at : ℕ) (end : End) → IsRingEnd entry valid at end →
    IsRingEnd entry valid (entry at) (record { count = end.count; last = at })
ring_next entry valid at end r = rotated entry valid at end.count r.sectors r.ring r.count

-- the ring from a sector is its full path
pub ring_end : (entry : ℕ → ℕ) (valid at : ℕ) (end : End) → IsRingEnd entry valid at end → IsEnd entry valid at end
ring_end entry valid at end r = record {
  sectors = r.sectors;
  full = record {
    path = r.ring.path;
    stops = inr (record { index = 0; inside = r.ring.path.some; here = r.ring.path.first ∙ sym r.ring.back });
  };
  count = r.count;
  last = r.last;
}

-- the first `count` sectors of a ring are remembered, and no others besides those that were
pub record IsRingFront (entry : ℕ → ℕ) (valid : ℕ) (old known : KnownEnds) (start : ℕ) (end : End)
    (count at last : ℕ) : Type 0 where
  pub sectors : List ℕ
  pub ring : IsRing entry valid start sectors
  pub len : end.count ≡ length sectors
  pub counts_len : length known.counts ≡ valid
  pub lasts_len : length known.lasts ≡ valid
  pub ends : (s : ℕ) → IsKnownEndAt known s → IsEnd entry valid s (end_at known s)
  pub kept : (s : ℕ) → IsKnownEndAt old s → IsKnownEndAt known s
  pub front : (k : ℕ) → k < count → k < length sectors → IsKnownEndAt known (slice_index sectors k)
  pub only : (s : ℕ) → IsKnownEndAt known s → IsKnownEndAt old s ⊎ HasSector sectors s
  pub here : count < length sectors → at ≡ slice_index sectors count
  pub turned : IsRingEnd entry valid at (record { count = end.count; last = last })

pub ring_none : (entry : ℕ → ℕ) (valid : ℕ) (old : KnownEnds) (start : ℕ) (end : End) → Remembers entry valid old →
    IsRingEnd entry valid start end → IsRingFront entry valid old old start end 0 start end.last
ring_none entry valid old start end r is = record {
  sectors = is.sectors;
  ring = is.ring;
  len = is.count;
  counts_len = r.counts_len;
  lasts_len = r.lasts_len;
  ends = r.ends;
  kept = λ s h. h;
  front = λ k h low. absurd (omega arith);
  only = λ s h. inl h;
  here = λ h. sym is.ring.path.first;
  turned = record { sectors = is.sectors; ring = is.ring; count = is.count; last = is.last };
}

-- the sector at which it goes on is valid
pub ring_inside : (entry : ℕ → ℕ) (valid : ℕ) (old known : KnownEnds) (start : ℕ) (end : End) (count at last : ℕ) →
    IsRingFront entry valid old known start end count at last → at < valid
ring_inside entry valid old known start end count at last f =
    subst (λ k. k < valid) f.turned.ring.path.first (f.turned.ring.path.within 0 f.turned.ring.path.some)

-- one sector more
pub ring_step : (entry : ℕ → ℕ) (valid : ℕ) (old known : KnownEnds) (start : ℕ) (end : End) (count at last : ℕ) →
    count < end.count → IsRingFront entry valid old known start end count at last →
    IsRingFront entry valid old (with_known_end known at (record { count = end.count; last = last })) start end (count +
    1)
    (entry at) at
ring_step entry valid old known start end count at last low f =
    let inside = ring_inside entry valid old known start end count at last f in
    let counts = f.counts_len in
    let lasts = f.lasts_len in
    let len = f.len in
    let n = length-set known.counts at end.count in
    let m = length-set known.lasts at last in
    let within : at < length known.counts = omega arith in
    let within_lasts : at < length known.lasts = omega arith in
    let more : count < length f.sectors = omega arith in
    record {
      sectors = f.sectors;
      ring = f.ring;
      len = f.len;
      counts_len = omega arith;
      lasts_len = omega arith;
      ends = put_ends entry valid known at (record { count = end.count; last = last }) within within_lasts f.ends
          (ring_end entry valid at (record { count = end.count; last = last }) f.turned);
      kept = λ s h. kept_known known at s (record { count = end.count; last = last }) within (omega arith) (f.kept s h);
      front = λ k h less. elim (cases_eq k count) [
        | inl same ↦ subst (IsKnownEndAt (with_known_end known at (record { count = end.count; last = last })))
            (f.here more ∙ ap (λ i. slice_index f.sectors i) (sym same))
            (put_known known at (record { count = end.count; last = last }) within (omega arith))
        | inr other ↦ kept_known known at (slice_index f.sectors k) (record { count = end.count; last = last }) within
            (omega arith) (f.front k (omega arith) less)
      ];
      only = λ s h. elim (cases_eq s at) [
        | inl same ↦ inr (record { index = count; inside = more; here = sym (f.here more) ∙ sym same })
        | inr other ↦ f.only s (only_known known at s (record { count = end.count; last = last }) other h)
      ];
      here = λ less. ap entry (f.here more) ∙ f.ring.path.links count less;
      turned = ring_next entry valid at (record { count = end.count; last = last }) f.turned;
    }

-- the whole ring is remembered
pub ring_done : (entry : ℕ → ℕ) (valid : ℕ) (old known : KnownEnds) (start : ℕ) (end : End) (count at last : ℕ) →
    end.count ≤ count → Remembers entry valid old → IsRingFront entry valid old known start end count at last →
    Remembers entry valid known
ring_done entry valid old known start end count at last all r f =
    let len = f.len in
    record {
      counts_len = f.counts_len;
      lasts_len = f.lasts_len;
      ends = f.ends;
      closed = λ s h less. elim (f.only s h) [
        | inl was ↦ f.kept (entry s) (r.closed s was less)
        | inr has ↦
            let inside = has.inside in
            elim (cases_lt (has.index + 1) (length f.sectors)) [
              | inl lo ↦ subst (IsKnownEndAt known) (sym (f.ring.path.links has.index lo) ∙ ap entry has.here)
                  (f.front (has.index + 1) (omega arith) lo)
              | inr hi ↦
                  let e : length f.sectors - 1 ≡ has.index = omega arith in
                  let last : last_of f.sectors ≡ s = ap (λ k. slice_index f.sectors k) e ∙ has.here in
                  subst (IsKnownEndAt known) (f.ring.path.first ∙ (sym f.ring.back ∙ ap entry last))
                  (f.front 0 (omega arith) f.ring.path.some)
            ]
      ];
    }

pub ring_known : (entry : ℕ → ℕ) (valid : ℕ) (old known : KnownEnds) (start : ℕ) (end : End) (count at last : ℕ) →
    end.count ≤ count → IsRingFront entry valid old known start end count at last → IsKnownEndAt known start
ring_known entry valid old known start end count at last all f =
    let len = f.len in
    let some = f.ring.path.some in
    subst (IsKnownEndAt known) f.ring.path.first (f.front 0 (omega arith) f.ring.path.some)

-- a path that goes on at a valid sector that is not known comes back to itself
pub fresh_turns : (entry : ℕ → ℕ) (valid : ℕ) (known : KnownEnds) (start next : ℕ) (path : List ℕ) →
    IsFreshPath entry valid known start path → next ≡ entry (last_of path) → next < valid → ¬ IsKnownEndAt known next →
    HasSector path next
fresh_turns entry valid known start next path fresh is low new = elim fresh.stops [
  | inl out ↦ absurd (omega arith)
  | inr more ↦ elim more [
    | inl has ↦ subst (HasSector path) (sym is) has
    | inr old ↦ absurd (new (subst (IsKnownEndAt known) (sym is) old))
  ]
]

-- the sectors of a path from one on, at their places
behind_at : (xs : List ℕ) (k i j : ℕ) → j ≡ k + i → slice_index (drop k xs) i ≡ slice_index xs j
behind_at xs k i j e = get_or-drop k xs i 0 ∙ ap (λ n. slice_index xs n) (sym e)

-- a path that comes back to one of its sectors has a ring from there on
pub path_ring : (entry : ℕ → ℕ) (valid start next : ℕ) (xs : List ℕ) (count : ℕ) → IsSectorPath entry valid start xs →
    0 < count → count ≤ length xs → slice_index xs (length xs - count) ≡ next → entry (last_of xs) ≡ next →
    IsRingEnd entry valid next (record { count = count; last = last_of xs })
path_ring entry valid start next xs count p some most here back =
    let len = length-drop (length xs - count) xs in
    let at : (i : ℕ) → slice_index (drop (length xs - count) xs) i ≡ slice_index xs (length xs - count + i) =
    λ i. behind_at xs (length xs - count) i (length xs - count + i) refl in
    let last : last_of (drop (length xs - count) xs) ≡ last_of xs =
    behind_at xs (length xs - count) (length (drop (length xs - count) xs) - 1) (length xs - 1) (omega arith) in
    record {
      sectors = drop (length xs - count) xs;
      ring = record {
        path = record {
          some = omega arith;
          first = behind_at xs (length xs - count) 0 (length xs - count) (omega arith) ∙ here;
          within = λ i h. rw (at i) (p.within (length xs - count + i) (omega arith));
          distinct = λ i j less h e. p.distinct (length xs - count + i) (length xs - count + j) (omega arith)
              (omega arith) (sym (at i) ∙ (e ∙ at j));
          links = λ i h.
              let next_at = behind_at xs (length xs - count) (i + 1) (length xs - count + i + 1) (omega arith) in
              rw (at i, next_at) (p.links (length xs - count + i) (omega arith));
        };
        back = ap entry last ∙ back;
      };
      count = omega arith;
      last = sym last;
    }
