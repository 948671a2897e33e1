-- Paths and chains of sectors: the walk's step, its length, and that there is one path from a start.
use Rattle.std.proofs.Common.{◌≡◌, ◌≢◌, inl, inr, ℕ, ◌+◌, ◌-◌, ◌<◌, ◌≤◌, zero, suc, Bool, true, false, List, [], ◌∷◌}
use Rattle.std.proofs.Common.{◌++◌, length, slice_index, refl, sym, ◌∙◌, ap, subst, arith, length-append}
use Rattle.std.proofs.Common.{set}
use Rattle.std.specs.Prelude.{slice_index_or}
use Rattle.std.proofs.lemmas.Bool.{cases_lt, cases_eq, false≢true}
use Rattle.std.proofs.lemmas.List.{get_or_append_left, get_or-set_same, get_or-set_other, ext_get_or}
use Rattle.std.proofs.Math.Seq.{get_or-append_seam}
pub use Rattle.doc_bits.proofs.Public.{length_below}
use Rattle.cfb_sectors.specs.Marks.{IsMarked}
pub use Rattle.cfb_sectors.specs.Walk.{IsChainWalk}
use Rattle.cfb_sectors.specs.SectorChain.{HasSector, IsSectorPath, IsSectorChain, IsFullPath, last_of, end_of_chain}

-- a number put last, and the numbers before it
pub pushed_before : (xs : List ℕ) (x i : ℕ) → i < length xs → slice_index (xs ++ x ∷ []) i ≡ slice_index xs i
pushed_before xs x i h = get_or_append_left xs (x ∷ []) 0 i h

pub pushed_last : (xs : List ℕ) (x i : ℕ) → i ≡ length xs → slice_index (xs ++ x ∷ []) i ≡ x
pushed_last xs x i h = rw h (get_or-append_seam xs x [] 0)

pub length_pushed : (xs : List ℕ) (x : ℕ) → length (xs ++ x ∷ []) ≡ length xs + 1
length_pushed xs x = length-append xs (x ∷ [])

-- the sectors of the path are those that are marked
pub record IsMet (marks : List Bool) (sectors : List ℕ) : Type 0 where
  pub marked : (i : ℕ) → i < length sectors → IsMarked marks (slice_index sectors i)
  pub found : (s : ℕ) → IsMarked marks s → HasSector sectors s

-- the path goes on by one valid sector that it does not have
pub walk_step : (entry : ℕ → ℕ) (valid start at : ℕ) (sectors : List ℕ) → IsChainWalk entry valid start at sectors →
    at < valid → ((i : ℕ) → i < length sectors → slice_index sectors i ≢ at) →
    IsChainWalk entry valid start (entry at) (sectors ++ at ∷ [])
walk_step entry valid start at sectors w low apart =
    let n = length_pushed sectors at in
    record {
      begins = λ e. absurd (omega arith);
      first = λ _. elim (cases_lt 0 (length sectors)) [
        | inl h ↦ pushed_before sectors at 0 h ∙ w.first h
        | inr h ↦ pushed_last sectors at 0 (omega arith) ∙ w.begins (omega arith)
      ];
      within = λ i h. elim (cases_lt i (length sectors)) [
        | inl lo ↦ rw (pushed_before sectors at i lo) (w.within i lo)
        | inr hi ↦ rw (pushed_last sectors at i (omega arith)) low
      ];
      distinct = λ i j h below e. elim (cases_lt j (length sectors)) [
        | inl lo ↦ w.distinct i j h lo
            (sym (pushed_before sectors at i (omega arith)) ∙ (e ∙ pushed_before sectors at j lo))
        | inr hi ↦ apart i (omega arith)
            (sym (pushed_before sectors at i (omega arith)) ∙ (e ∙ pushed_last sectors at j (omega arith)))
      ];
      links = λ i h. elim (cases_lt (i + 1) (length sectors)) [
        | inl lo ↦ rw (pushed_before sectors at i (omega arith), pushed_before sectors at (i + 1) lo) (w.links i lo)
        | inr hi ↦
            let e : length sectors - 1 ≡ i = omega arith in
            rw (pushed_before sectors at i (omega arith), pushed_last sectors at (i + 1) (omega arith))
            (subst (λ k. entry (slice_index sectors k) ≡ at) e (w.next (omega arith)))
      ];
      next = λ _. ap entry (pushed_last sectors at (length (sectors ++ at ∷ []) - 1) (omega arith));
    }

-- so many valid sectors there are at most
pub walk_room : (entry : ℕ → ℕ) (valid start at : ℕ) (sectors : List ℕ) → IsChainWalk entry valid start at sectors →
    at < valid → ((i : ℕ) → i < length sectors → slice_index sectors i ≢ at) → length sectors < valid
walk_room entry valid start at sectors w low apart =
    let next = walk_step entry valid start at sectors w low apart in
    let most = length_below (sectors ++ at ∷ []) valid next.within next.distinct in
    let n = length_pushed sectors at in omega arith

-- a sector that is not marked is not on the path
pub met_apart : (marks : List Bool) (sectors : List ℕ) (at : ℕ) → IsMet marks sectors →
    slice_index_or marks at false ≡ false → (i : ℕ) → i < length sectors → slice_index sectors i ≢ at
met_apart marks sectors at met fresh i h e =
    false≢true (sym fresh ∙ (ap (λ k. slice_index_or marks k false) (sym e) ∙ met.marked i h))

-- the mark of the sector that is put last
pub met_step : (at : ℕ) (marks : List Bool) (sectors : List ℕ) → IsMet marks sectors → at < length marks →
    IsMet (set marks at true) (sectors ++ at ∷ [])
met_step at marks sectors h low =
    let n = length_pushed sectors at in
    let here : IsMarked (set marks at true) at = get_or-set_same marks at true false low in
    record {
      marked = λ i below. elim (cases_lt i (length sectors)) [
        | inl lo ↦ rw (pushed_before sectors at i lo) (elim (cases_eq (slice_index sectors i) at) [
          | inl e ↦ rw e here
          | inr e ↦ get_or-set_other marks at (slice_index sectors i) true false e ∙ h.marked i lo
        ])
        | inr hi ↦ rw (pushed_last sectors at i (omega arith)) here
      ];
      found = λ s e. elim (cases_eq s at) [
        | inl same ↦ record {
          index = length sectors;
          inside = omega arith;
          here = pushed_last sectors at (length sectors) refl ∙ sym
              same;
        }
        | inr other ↦
            let old = h.found s (sym (get_or-set_other marks at s true false other) ∙ e) in
            let below = old.inside in
            record {
              index = old.index;
              inside = omega arith;
              here = pushed_before sectors at old.index old.inside
                  ∙ old.here;
            }
      ];
    }

-- two paths from one start have the same sectors
pub paths_agree : (entry : ℕ → ℕ) (valid start : ℕ) (xs ys : List ℕ) → IsSectorPath entry valid start xs →
    IsSectorPath entry valid start ys → (i : ℕ) → i < length xs → i < length ys → slice_index xs i ≡ slice_index ys i
paths_agree entry valid start xs ys p q zero h k = p.first ∙ sym q.first
paths_agree entry valid start xs ys p q (suc i) h k =
    let e : i + 1 ≡ suc i = omega arith in
    subst (λ n. slice_index xs n ≡ slice_index ys n) e
    (sym (p.links i (omega arith))
    ∙ (ap entry (paths_agree entry valid start xs ys p q i (omega arith) (omega arith)) ∙ q.links i (omega arith)))

-- no path from the start is longer than a full one
pub full_longest : (entry : ℕ → ℕ) (valid start : ℕ) (xs ys : List ℕ) → IsFullPath entry valid start xs →
    IsSectorPath entry valid start ys → length ys ≤ length xs
full_longest entry valid start xs ys f q = elim (cases_lt (length xs) (length ys)) [
  | inr h ↦ h
  | inl h ↦
      let some = f.path.some in
      let last : slice_index ys (length xs - 1) ≡ last_of xs = sym
      (paths_agree entry valid start xs ys f.path q (length xs - 1) (omega arith) (omega arith)) in
      let place : length xs - 1 + 1 ≡ length xs = omega arith in
      let next : entry (last_of xs) ≡ slice_index ys (length xs) =
      sym (ap entry last) ∙ (q.links (length xs - 1) (omega arith) ∙ ap (λ k. slice_index ys k) place) in
      absurd (elim f.stops [
        | inl out ↦ let low = q.within (length xs) h in absurd (omega arith)
        | inr again ↦ q.distinct again.index (length xs) again.inside h
            (sym (paths_agree entry valid start xs ys f.path q again.index again.inside
            (let a = again.inside in omega arith)) ∙ (again.here ∙ next))
      ])
]

-- there is one full path from a start
pub full_unique : (entry : ℕ → ℕ) (valid start : ℕ) (xs ys : List ℕ) → IsFullPath entry valid start xs →
    IsFullPath entry valid start ys → xs ≡ ys
full_unique entry valid start xs ys f g =
    let a = full_longest entry valid start xs ys f g.path in
    let b = full_longest entry valid start ys xs g f.path in
    let e : length xs ≡ length ys = omega arith in
    ext_get_or 0 xs ys e (λ i h. paths_agree entry valid start xs ys f.path g.path i h (omega arith))

-- a chain is a full path, where ENDOFCHAIN is no valid sector number
pub chain_full : (entry : ℕ → ℕ) (valid start : ℕ) (xs : List ℕ) → valid ≤ end_of_chain →
    IsSectorChain entry valid start xs → IsFullPath entry valid start xs
chain_full entry valid start xs low c = record { path = c.path; stops = inl (let e = c.ends in omega arith) }

-- there is one chain from a start
pub chain_unique : (entry : ℕ → ℕ) (valid start : ℕ) (xs ys : List ℕ) → valid ≤ end_of_chain →
    IsSectorChain entry valid start xs → IsSectorChain entry valid start ys → xs ≡ ys
chain_unique entry valid start xs ys low c d = full_unique entry valid start xs ys
    (chain_full entry valid start xs low c) (chain_full entry valid start ys low d)

-- tables with the same entries have the same paths and chains
pub path_same : (entry other : ℕ → ℕ) (valid start : ℕ) (xs : List ℕ) → ((s : ℕ) → s < valid → entry s ≡ other s) →
    IsSectorPath entry valid start xs → IsSectorPath other valid start xs
path_same entry other valid start xs same p = record {
  some = p.some;
  first = p.first;
  within = p.within;
  distinct = p.distinct;
  links = λ i h. sym (same (slice_index xs i) (p.within i (omega arith))) ∙ p.links i h;
}

pub last_within : (entry : ℕ → ℕ) (valid start : ℕ) (xs : List ℕ) → IsSectorPath entry valid start xs →
    last_of xs < valid
last_within entry valid start xs p = let some = p.some in p.within (length xs - 1) (omega arith)

-- a path has no more sectors than there are
pub path_short : (entry : ℕ → ℕ) (valid start : ℕ) (xs : List ℕ) → IsSectorPath entry valid start xs → length xs ≤ valid
path_short entry valid start xs p = length_below xs valid p.within p.distinct
