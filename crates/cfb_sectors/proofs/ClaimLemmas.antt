-- Owners that take the sectors of whole chains, walked as far as they are not marked.
use Rattle.std.proofs.Common.{◌≡◌, ◌≢◌, ◌⊎◌, inl, inr, ℕ, zero, suc, ◌+◌, ◌-◌, ◌<◌, ◌≤◌, Bool, true, false}
use Rattle.std.proofs.Common.{Option, List, []}
use Rattle.std.proofs.Common.{◌∷◌, ◌++◌, length, set, slice_index, refl, sym, ap, ◌∙◌, subst, arith}
use Rattle.std.specs.Prelude.{slice_index_or}
use Rattle.std.proofs.lemmas.Bool.{cases_lt, cases_eq, false≢true}
use Rattle.std.proofs.lemmas.List.{get_or-set_same, get_or-set_other, ext_get_or}
use Rattle.doc_bits.specs.Rules.{Nowhere, LeastOrNone, Among}
use Rattle.doc_bits.proofs.Public.{least_same}
use Rattle.cfb_sectors.specs.declared.chain.Walked.{Walked}
use Rattle.cfb_sectors.specs.Marks.{IsMarked, IsVisitedSince}
use Rattle.cfb_sectors.specs.Chain.{Table, ChainHead, HoldsChain, BreaksChain}
use Rattle.cfb_sectors.specs.SectorChain.{HasSector, IsSectorChain, IsFullPath, last_of, end_of_chain}
use Rattle.cfb_sectors.specs.Walk.{IsChainWalk}
use Rattle.cfb_sectors.specs.Claims.{HasFront, Claimed, TakesSectors, AreClosedMarks, IsClosedClaim, TakesWalked}
use Rattle.cfb_sectors.specs.Claims.{IsSharedPlace}
use Rattle.cfb_sectors.proofs.ChainLemmas.{walk_step, pushed_before, pushed_last, length_pushed, length_below}
use Rattle.cfb_sectors.proofs.JudgeLemmas.{full_whole, whole_start}

-- a sector that is not marked is not on the path
pub since_apart : (old new : List Bool) (path : List ℕ) (at : ℕ) → IsVisitedSince old new path →
    slice_index_or new at false ≡ false → (i : ℕ) → i < length path → slice_index path i ≢ at
since_apart old new path at met fresh i h e =
    false≢true (sym fresh ∙ (ap (λ k. slice_index_or new k false) (sym e) ∙ met.met i h))

-- the mark of the sector that is put last
pub since_step : (old new : List Bool) (path : List ℕ) (at : ℕ) → IsVisitedSince old new path →
    slice_index_or new at false ≡ false → at < length new → IsVisitedSince old (set new at true) (path ++ at ∷ [])
since_step old new path at m fresh low =
    let n = length_pushed path at in
    let here : IsMarked (set new at true) at = get_or-set_same new at true false low in
    let keep : (s : ℕ) → IsMarked new s → IsMarked (set new at true) s = λ s h. elim (cases_eq s at) [
      | inl e ↦ rw e here
      | inr e ↦ get_or-set_other new at s true false e ∙ h
    ] in
    record {
      kept = λ s h. keep s (m.kept s h);
      met = λ i h. elim (cases_lt i (length path)) [
        | inl lo ↦ rw (pushed_before path at i lo) (keep (slice_index path i) (m.met i lo))
        | inr hi ↦ rw (pushed_last path at i (omega arith)) here
      ];
      free = λ i h. elim (cases_lt i (length path)) [
        | inl lo ↦ rw (pushed_before path at i lo) (m.free i lo)
        | inr hi ↦ rw (pushed_last path at i (omega arith)) (λ was. false≢true (sym fresh ∙ m.kept at was))
      ];
      only = λ s h. elim (cases_eq s at) [
        | inl same ↦ inr (record {
          index = length path;
          inside = omega arith;
          here = pushed_last path at (length path) refl ∙ sym same;
        })
        | inr other ↦ elim (m.only s (sym (get_or-set_other new at s true false other) ∙ h)) [
          | inl was ↦ inl was
          | inr has ↦
              let below = has.inside in
              inr (record {
                index = has.index;
                inside = omega arith;
                here = pushed_before path at has.index has.inside ∙ has.here;
              })
        ]
      ];
    }

-- a walk that cannot go on is a full path
pub walk_full : (entry : ℕ → ℕ) (valid start at : ℕ) (xs : List ℕ) → IsChainWalk entry valid start at xs → 0 < length xs
    →
    (valid ≤ at) ⊎ HasSector xs at → IsFullPath entry valid start xs
walk_full entry valid start at xs w some stops =
    let next : entry (last_of xs) ≡ at = w.next some in
    record {
      path = record
          { some = some; first = w.first some; within = w.within; distinct = w.distinct; links = w.links };
      stops = subst (λ t. (valid ≤ t) ⊎ HasSector xs t) (sym next) stops;
    }

-- a walk over all sectors is a full path
pub fresh_full : (entry : ℕ → ℕ) (valid start next : ℕ) (path : List ℕ) (old new : List Bool) → start < valid →
    ((s : ℕ) → ¬ IsMarked old s) → IsChainWalk entry valid start next path → IsVisitedSince old new path →
    (valid ≤ next) ⊎ IsMarked new next → IsFullPath entry valid start path
fresh_full entry valid start next path old new low none w m stops =
    let has : (valid ≤ next) ⊎ HasSector path next = elim stops [
      | inl out ↦ inl out
      | inr marked ↦ elim (m.only next marked) [ inl was ↦ absurd (none next was) | inr again ↦ inr again ]
    ] in
    walk_full entry valid start next path w
    (elim (cases_eq (length path) 0) [
      | inl empty ↦
          let first = w.begins empty in
          elim has [ inl out ↦ absurd (omega arith) | inr again ↦ let inside = again.inside in absurd (omega arith) ]
      | inr some ↦ omega arith
    ])
    has

-- tables with the same entries have the same walks
pub walk_same : (entry other : ℕ → ℕ) (valid start at : ℕ) (xs : List ℕ) →
    ((s : ℕ) → s < valid → entry s ≡ other s) → IsChainWalk entry valid start at xs → IsChainWalk other valid start at
    xs
walk_same entry other valid start at xs same w = record {
  begins = w.begins;
  first = w.first;
  within = w.within;
  distinct = w.distinct;
  links = λ i h. sym (same (slice_index xs i) (w.within i (omega arith))) ∙ w.links i h;
  next = λ some. sym (same (slice_index xs (length xs - 1)) (w.within (length xs - 1) (omega arith))) ∙ w.next some;
}

-- a sector before a list of others
apart_cons : (x : ℕ) (xs : List ℕ) (s : ℕ) → x ≢ s → ((i : ℕ) → i < length xs → slice_index xs i ≢ s) →
    (i : ℕ) → i < length (x ∷ xs) → slice_index (x ∷ xs) i ≢ s
apart_cons x xs s ne none zero h = ne
apart_cons x xs s ne none (suc i) h = none i (omega arith)

-- a list has a sector, or none of its sectors is that one
has_or_not : (xs : List ℕ) (s : ℕ) → HasSector xs s ⊎ ((i : ℕ) → i < length xs → slice_index xs i ≢ s)
has_or_not [] s = inr (λ i h. absurd (omega arith))
has_or_not (x ∷ xs) s = elim (cases_eq x s) [
  | inl e ↦ inl (record { index = 0; inside = omega arith; here = e })
  | inr ne ↦ elim (has_or_not xs s) [
    | inl has ↦ inl (record { index = suc has.index; inside = (let a = has.inside in omega arith); here = has.here })
    | inr none ↦ inr (apart_cons x xs s ne none)
  ]
]

-- from each valid sector there is a full path
full_from : (entry : ℕ → ℕ) (valid start : ℕ) (n at : ℕ) (xs : List ℕ) → start < valid →
    IsChainWalk entry valid start at xs → valid < length xs + n → (ys : List ℕ) × IsFullPath entry valid start ys
full_from entry valid start zero at xs low w more =
    absurd (let most = length_below xs valid w.within w.distinct in omega arith)
full_from entry valid start (suc n) at xs low w more = elim (cases_lt at valid) [
  | inr out ↦ (
    xs,
    walk_full entry valid start at xs w
        (elim (cases_eq (length xs) 0) [
          | inl empty ↦ let first = w.begins empty in absurd (omega arith)
          | inr some ↦ omega arith
        ])
        (inl out),
  )
  | inl inside ↦ elim (has_or_not xs at) [
    | inl has ↦ (xs, walk_full entry valid start at xs w (let a = has.inside in omega arith) (inr has))
    | inr apart ↦
        let len = length_pushed xs at in
        full_from entry valid start n (entry at) (xs ++ at ∷ []) low
        (walk_step entry valid start at xs w inside apart) (omega arith)
  ]
]

pub full_exists : (entry : ℕ → ℕ) (valid start : ℕ) → start < valid →
    (ys : List ℕ) × IsFullPath entry valid start ys
full_exists entry valid start low = full_from entry valid start (valid + 1) start [] low
    (record {
      begins = λ e. refl;
      first = λ some. absurd (omega arith);
      within = λ i h. absurd (omega arith);
      distinct = λ i j less h. absurd (omega arith);
      links = λ i h. absurd (omega arith);
      next = λ some. absurd (omega arith);
    })
    (omega arith)

-- where no chain is broken there is the chain
pub whole_chain : (table : Table) (head : ChainHead) → table.valid ≤ end_of_chain → Nowhere (BreaksChain table head) →
    (xs : List ℕ) × HoldsChain table head xs
whole_chain table head range none =
    let full = full_exists table.entry table.valid head.start (whole_start table head none) in
    (full.0, full_whole table head full.0 range full.1 none)

-- the sector is the one at an index of the chain, or the chain has ended
record IsAt (xs : List ℕ) (valid index at : ℕ) : Type 0 where
  inside : index < length xs → slice_index xs index ≡ at
  out : length xs ≤ index → valid ≤ at

-- what follows a sector of a chain
next_at : (entry : ℕ → ℕ) (valid first : ℕ) (xs : List ℕ) (i j : ℕ) → valid ≤ end_of_chain →
    IsSectorChain entry valid first xs → i < length xs → j ≡ i + 1 → IsAt xs valid j (entry (slice_index xs i))
next_at entry valid first xs i j range chain low is = record {
  inside = λ h. subst (λ k. slice_index xs k ≡ entry (slice_index xs i)) (sym is)
      (sym (chain.path.links i (omega arith)));
  out = λ h.
      let last : i ≡ length xs - 1 = omega arith in
      let ends : entry (slice_index xs i) ≡ end_of_chain = ap (λ k. entry (slice_index xs k)) last ∙ chain.ends in
      omega arith;
}

-- the sectors of a walk that begins at a chain's sector are those that follow there
along : (entry : ℕ → ℕ) (valid first start next : ℕ) (xs path : List ℕ) (from : ℕ) → valid ≤ end_of_chain →
    IsSectorChain entry valid first xs → IsAt xs valid from start → IsChainWalk entry valid start next path →
    (i j : ℕ) → j ≡ from + i → i < length path → (j < length xs) × (slice_index xs j ≡ slice_index path i)
along entry valid first start next xs path from range chain at w zero j is h =
    let here : j ≡ from = omega arith in
    let begin = w.first h in
    let low = w.within 0 h in
    elim (cases_lt j (length xs)) [
      | inl lo ↦ (lo, ap (λ k. slice_index xs k) here ∙ (at.inside (omega arith) ∙ sym begin))
      | inr hi ↦ let out = at.out (omega arith) in absurd (omega arith)
    ]
along entry valid first start next xs path from range chain at w (suc i) j is h =
    let before = along entry valid first start next xs path from range chain at w i (from + i) refl (omega arith) in
    let place : i + 1 ≡ suc i = omega arith in
    let link : entry (slice_index path i) ≡ slice_index path (suc i) =
    subst (λ k. entry (slice_index path i) ≡ slice_index path k) place (w.links i (omega arith)) in
    let same : entry (slice_index xs (from + i)) ≡ slice_index path (suc i) = ap entry before.1 ∙ link in
    let low = w.within (suc i) h in
    let there = next_at entry valid first xs (from + i) j range chain before.0 (omega arith) in
    elim (cases_lt j (length xs)) [
      | inl lo ↦ (lo, there.inside lo ∙ same)
      | inr hi ↦ let out = there.out hi in absurd (omega arith)
    ]

-- and where it stops it is at the sector that follows them
along_end : (entry : ℕ → ℕ) (valid first start next : ℕ) (xs path : List ℕ) (from j : ℕ) → valid ≤ end_of_chain →
    IsSectorChain entry valid first xs → IsAt xs valid from start → IsChainWalk entry valid start next path →
    j ≡ from + length path → IsAt xs valid j next
along_end entry valid first start next xs path from j range chain at w is = elim (cases_eq (length path) 0) [
  | inl empty ↦
      let here : from ≡ j = omega arith in
      subst (λ k. IsAt xs valid k next) here (subst (IsAt xs valid from) (sym (w.begins empty)) at)
  | inr some ↦
      let last = along entry valid first start next xs path from range chain at w (length path - 1)
      (from + (length path - 1)) refl (omega arith) in
      subst (IsAt xs valid j) (ap entry last.1 ∙ w.next (omega arith))
      (next_at entry valid first xs (from + (length path - 1)) j range chain last.0 (omega arith))
]

-- the sectors behind those of the walk were marked before it
behind : (entry : ℕ → ℕ) (valid first start next : ℕ) (xs path : List ℕ) (from : ℕ) (old new : List Bool) →
    valid ≤ end_of_chain → IsSectorChain entry valid first xs → IsAt xs valid from start →
    IsChainWalk entry valid start next path → IsVisitedSince old new path → (valid ≤ next) ⊎ IsMarked new next →
    AreClosedMarks entry valid old → (d j : ℕ) → j ≡ from + length path + d → j < length xs →
    IsMarked old (slice_index xs j)
behind entry valid first start next xs path from old new range chain at w m stops closed zero j is h =
    let end = along_end entry valid first start next xs path from j range chain at w (omega arith) in
    let here = end.inside h in
    let low = chain.path.within j h in
    elim stops [
      | inl out ↦ absurd (omega arith)
      | inr marked ↦ elim (m.only next marked) [
        | inl was ↦ subst (IsMarked old) (sym here) was
        | inr again ↦
            let there = along entry valid first start next xs path from range chain at w again.index
            (from + again.index) refl again.inside in
            let inside = again.inside in
            absurd (chain.path.distinct (from + again.index) j (omega arith) h
            (there.1 ∙ (again.here ∙ sym here)))
      ]
    ]
behind entry valid first start next xs path from old new range chain at w m stops closed (suc d) j is h =
    let before = behind entry valid first start next xs path from old new range chain at w m stops closed d
    (from + length path + d) refl (omega arith) in
    let place : from + length path + d + 1 ≡ j = omega arith in
    let link : entry (slice_index xs (from + length path + d)) ≡ slice_index xs j =
    subst (λ k. entry (slice_index xs (from + length path + d)) ≡ slice_index xs k) place
    (chain.path.links (from + length path + d) (omega arith)) in
    let low = chain.path.within j h in
    subst (IsMarked old) link (closed (slice_index xs (from + length path + d)) before (omega arith))

-- a walk over what is free, and one from there over what is not shared, take the chain
pub walks_take : (entry : ℕ → ℕ) (valid start : ℕ) (xs : List ℕ) (old new : Claimed) (free shared : Walked) →
    valid ≤ end_of_chain → AreClosedMarks entry valid old.taken → AreClosedMarks entry valid old.shared →
    IsChainWalk entry valid start free.next free.path.items → IsVisitedSince old.taken new.taken free.path.items →
    (valid ≤ free.next) ⊎ IsMarked new.taken free.next →
    IsChainWalk entry valid free.next shared.next shared.path.items → IsVisitedSince old.shared new.shared
    shared.path.items
    →
    (valid ≤ shared.next) ⊎ IsMarked new.shared shared.next → IsSectorChain entry valid start xs →
    TakesWalked xs valid old new free
walks_take entry valid start xs old new free shared range closed closed_shared w m stops v n halts chain =
    let some = chain.path.some in
    let begin : IsAt xs valid 0 start = record { inside = λ h. chain.path.first; out = λ h. absurd (omega arith) } in
    let on : (i : ℕ) → i < length free.path.items →
    (i < length xs) × (slice_index xs i ≡ slice_index free.path.items i) =
    λ i h. along entry valid start start free.next xs free.path.items 0 range chain begin w i i (omega arith) h in
    let end : IsAt xs valid (length free.path.items) free.next =
    along_end entry valid start start free.next xs free.path.items 0 (length free.path.items) range chain begin w
    (omega arith) in
    let was : (j : ℕ) → length free.path.items ≤ j → j < length xs → IsMarked old.taken (slice_index xs j) =
    λ j le h. behind entry valid start start free.next xs free.path.items 0 old.taken new.taken range chain begin w m
    stops closed (j - length free.path.items) j (omega arith) h in
    let next : (i : ℕ) → i < length shared.path.items →
    (length free.path.items + i < length xs)
    × (slice_index xs (length free.path.items + i) ≡ slice_index shared.path.items i) =
    λ i h. along entry valid start free.next shared.next xs shared.path.items (length free.path.items) range chain end v
    i (length free.path.items + i) refl h in
    let was_shared : (j : ℕ) → length free.path.items + length shared.path.items ≤ j → j < length xs →
    IsMarked old.shared (slice_index xs j) =
    λ j le h. behind entry valid start free.next shared.next xs shared.path.items (length free.path.items) old.shared
    new.shared range chain end v n halts closed_shared
    (j - (length free.path.items + length shared.path.items)) j (omega arith) h in
    let add : (s : ℕ) → IsMarked old.taken s → HasSector xs s → IsMarked new.shared s = λ s taken has.
    elim (cases_lt has.index (length free.path.items)) [
      | inl lo ↦ absurd (m.free has.index lo (subst (IsMarked old.taken) (sym has.here ∙ (on has.index lo).1) taken))
      | inr hi ↦ elim (cases_lt has.index (length free.path.items + length shared.path.items)) [
        | inl less ↦
            let low : has.index - length free.path.items < length shared.path.items = omega arith in
            let place : length free.path.items + (has.index - length free.path.items) ≡ has.index = omega arith in
            subst (IsMarked new.shared)
            (sym (next (has.index - length free.path.items) low).1 ∙ (ap (λ k. slice_index xs k) place ∙ has.here))
            (n.met (has.index - length free.path.items) low)
        | inr more ↦ n.kept s (subst (IsMarked old.shared) has.here (was_shared has.index more has.inside))
      ]
    ] in
    record {
      takes = record {
        kept = m.kept;
        added = λ s has. elim (cases_lt has.index (length free.path.items)) [
          | inl lo ↦ subst (IsMarked new.taken) (sym (on has.index lo).1 ∙ has.here) (m.met has.index lo)
          | inr hi ↦ m.kept s (subst (IsMarked old.taken) has.here (was has.index hi has.inside))
        ];
        only = λ s h. elim (m.only s h) [
          | inl before ↦ inl before
          | inr has ↦ inr (record {
            index = has.index;
            inside = (on has.index has.inside).0;
            here = (on has.index has.inside).1 ∙ has.here;
          })
        ];
        kept_shared = n.kept;
        added_shared = add;
        only_shared = λ s h. elim (n.only s h) [
          | inl before ↦ inl before
          | inr has ↦
              let there = next has.index has.inside in
              let here : slice_index xs (length free.path.items + has.index) ≡ s = there.1 ∙ has.here in
              inr (
                subst (IsMarked old.taken) here (was (length free.path.items + has.index) (omega arith) there.0),
                record { index = length free.path.items + has.index; inside = there.0; here = here },
              )
        ];
      };
      free = λ out.
          let least : length xs ≤ length free.path.items = elim (cases_lt (length free.path.items) (length xs)) [
            | inl lo ↦
                let here = end.inside lo in
                let low = chain.path.within (length free.path.items) lo in absurd (omega arith)
            | inr hi ↦ hi
          ] in
          let most : length free.path.items ≤ length xs = elim (cases_eq (length free.path.items) 0) [
            | inl empty ↦ omega arith
            | inr there ↦ let last = (on (length free.path.items - 1) (omega arith)).0 in omega arith
          ] in
          ext_get_or 0 free.path.items xs (omega arith) (λ i h. sym (on i h).1);
      met = λ low. elim (cases_lt (length free.path.items) (length xs)) [
        | inl lo ↦
            let here = end.inside lo in
            add free.next (subst (IsMarked old.taken) here (was (length free.path.items) (omega arith) lo))
            (record { index = length free.path.items; inside = lo; here = here })
        | inr hi ↦ let out = end.out hi in absurd (omega arith)
      ];
    }

-- a chain's sectors are followed by its own
pub chain_closed : (entry : ℕ → ℕ) (valid start : ℕ) (xs : List ℕ) → valid ≤ end_of_chain →
    IsSectorChain entry valid start xs → (s : ℕ) → HasSector xs s → entry s < valid → HasSector xs (entry s)
chain_closed entry valid start xs range chain s has low =
    let there = next_at entry valid start xs has.index (has.index + 1) range chain has.inside refl in
    let at : IsAt xs valid (has.index + 1) (entry s) = subst (λ k. IsAt xs valid (has.index + 1) (entry k)) has.here
    there in
    elim (cases_lt (has.index + 1) (length xs)) [
      | inl lo ↦ record { index = has.index + 1; inside = lo; here = at.inside lo }
      | inr hi ↦ let out = at.out hi in absurd (omega arith)
    ]

-- where whole chains were taken, and one more is
pub takes_closed : (table : Table) (owns : ℕ → Type 0) (old new : Claimed) →
    ((s : ℕ) → owns s → table.entry s < table.valid → owns (table.entry s)) → TakesSectors owns old new → IsClosedClaim
    table old →
    IsClosedClaim table new
takes_closed table owns old new follows t c = record {
  taken = λ s h low. elim (t.only s h) [
    | inl was ↦ t.kept (table.entry s) (c.taken s was low)
    | inr own ↦ t.added (table.entry s) (follows s own low)
  ];
  shared = λ s h low. elim (t.only_shared s h) [
    | inl was ↦ t.kept_shared (table.entry s) (c.shared s was low)
    | inr both ↦ t.added_shared (table.entry s) (c.taken s both.0 low) (follows s both.1 low)
  ];
}

-- at first nothing is taken
pub closed_none : (table : Table) (claimed : Claimed) → ((s : ℕ) → ¬ IsMarked claimed.taken s) →
    ((s : ℕ) → ¬ IsMarked claimed.shared s) → IsClosedClaim table claimed
closed_none table claimed none none_shared = record {
  taken = λ s h low. absurd (none s h);
  shared = λ s h low. absurd (none_shared s h);
}

-- a mark that is set leaves the others
set_kept : (marks : List Bool) (sector s : ℕ) → sector < length marks → IsMarked marks s →
    IsMarked (set marks sector true) s
set_kept marks sector s low h = elim (cases_eq s sector) [
  | inl e ↦ subst (IsMarked (set marks sector true)) (sym e) (get_or-set_same marks sector true false low)
  | inr ne ↦ get_or-set_other marks sector s true false ne ∙ h
]

-- one sector is taken, which was taken already, or was not
pub take_again : (old : Claimed) (sector : ℕ) → IsMarked old.taken sector → sector < length old.shared →
    TakesSectors (λ s. s ≡ sector) old (record { taken = old.taken; shared = set old.shared sector true })
take_again old sector was low = record {
  kept = λ s h. h;
  added = λ s e. subst (IsMarked old.taken) (sym e) was;
  only = λ s h. inl h;
  kept_shared = λ s h. set_kept old.shared sector s low h;
  added_shared = λ s h e. subst (IsMarked (set old.shared sector true)) (sym e)
      (get_or-set_same old.shared sector true false low);
  only_shared = λ s h. elim (cases_eq s sector) [
    | inl e ↦ inr (subst (IsMarked old.taken) (sym e) was, e)
    | inr ne ↦ inl (sym (get_or-set_other old.shared sector s true false ne) ∙ h)
  ];
}

pub take_free : (old : Claimed) (sector : ℕ) → slice_index_or old.taken sector false ≡ false →
    sector < length old.taken →
    TakesSectors (λ s. s ≡ sector) old (record { taken = set old.taken sector true; shared = old.shared })
take_free old sector free low = record {
  kept = λ s h. set_kept old.taken sector s low h;
  added = λ s e. subst (IsMarked (set old.taken sector true)) (sym e) (get_or-set_same old.taken sector true false low);
  only = λ s h. elim (cases_eq s sector) [
    | inl e ↦ inr e
    | inr ne ↦ inl (sym (get_or-set_other old.taken sector s true false ne) ∙ h)
  ];
  kept_shared = λ s h. h;
  added_shared = λ s h e. absurd (false≢true (sym free ∙ subst (IsMarked old.taken) e h));
  only_shared = λ s h. inl h;
}

-- at first none of the sectors is taken
pub takes_front : (sectors : List ℕ) (claimed : Claimed) → TakesSectors (HasFront sectors 0) claimed claimed
takes_front sectors claimed = record {
  kept = λ s h. h;
  added = λ s own. absurd (let low = own.below in omega arith);
  only = λ s h. inl h;
  kept_shared = λ s h. h;
  added_shared = λ s h own. absurd (let low = own.below in omega arith);
  only_shared = λ s h. inl h;
}

-- one sector more
pub takes_step : (sectors : List ℕ) (count : ℕ) (old mid new : Claimed) →
    ((i j : ℕ) → i < j → j < length sectors → slice_index sectors i ≢ slice_index sectors j) → count < length sectors →
    TakesSectors (HasFront sectors count) old mid → TakesSectors (λ s. s ≡ slice_index sectors count) mid new →
    TakesSectors (HasFront sectors (count + 1)) old new
takes_step sectors count old mid new distinct low t u =
    let more : (s : ℕ) → HasFront sectors count s → HasFront sectors (count + 1) s = λ s own. record
    { index = own.index; below = (let b = own.below in omega arith); here = own.here } in
    let last : (s : ℕ) → s ≡ slice_index sectors count → HasFront sectors (count + 1) s = λ s e. record
    { index = count; below = omega arith; here = sym e } in
    let split : (s : ℕ) → HasFront sectors (count + 1) s →
    HasFront sectors count s ⊎ (s ≡ slice_index sectors count) = λ s own. elim (cases_lt own.index count) [
      | inl lo ↦ inl (record { index = own.index; below = lo; here = own.here })
      | inr hi ↦
          let below = own.below in
          let same : own.index ≡ count = omega arith in
          inr (sym own.here ∙ ap (λ k. slice_index sectors k) same)
    ] in
    record {
      kept = λ s h. u.kept s (t.kept s h);
      added = λ s own. elim (split s own) [ inl before ↦ u.kept s (t.added s before) | inr e ↦ u.added s e ];
      only = λ s h. elim (u.only s h) [
        | inl before ↦ elim (t.only s before) [ inl was ↦ inl was | inr own ↦ inr (more s own) ]
        | inr e ↦ inr (last s e)
      ];
      kept_shared = λ s h. u.kept_shared s (t.kept_shared s h);
      added_shared = λ s h own. elim (split s own) [
        | inl before ↦ u.kept_shared s (t.added_shared s h before)
        | inr e ↦ u.added_shared s (t.kept s h) e
      ];
      only_shared = λ s h. elim (u.only_shared s h) [
        | inl before ↦ elim (t.only_shared s before) [ inl was ↦ inl was | inr both ↦ inr (both.0, more s both.1) ]
        | inr both ↦ elim (t.only s both.0) [
          | inl was ↦ inr (was, last s both.1)
          | inr own ↦ absurd (distinct own.index count own.below low (own.here ∙ both.1))
        ]
      ];
    }

-- what one says of its sectors another word can say too
pub takes_same : (A B : ℕ → Type 0) (old new : Claimed) → ((s : ℕ) → A s → B s) → ((s : ℕ) → B s → A s) →
    TakesSectors A old new → TakesSectors B old new
takes_same A B old new to from t = record {
  kept = t.kept;
  added = λ s h. t.added s (from s h);
  only = λ s h. elim (t.only s h) [ inl was ↦ inl was | inr owned ↦ inr (to s owned) ];
  kept_shared = t.kept_shared;
  added_shared = λ s h own. t.added_shared s h (from s own);
  only_shared = λ s h. elim (t.only_shared s h) [ inl was ↦ inl was | inr both ↦ inr (both.0, to s both.1) ];
}

-- the place of a shared sector is that of one of the first `count`, which are all
pub shared_among : (claimed : Claimed) (place_of : ℕ → ℕ) (count : ℕ) (o : Option ℕ) →
    ((s : ℕ) → IsMarked claimed.shared s → s < count) →
    LeastOrNone (Among count (λ s place. IsMarked claimed.shared s × (place ≡ place_of s))) o →
    LeastOrNone (IsSharedPlace claimed place_of) o
shared_among claimed place_of count o inside =
    least_same (Among count (λ s place. IsMarked claimed.shared s × (place ≡ place_of s)))
    (IsSharedPlace claimed place_of) o
    (λ p w. record { sector = w.entry; shared = w.broken.0; here = w.broken.1 })
    (λ p w. record { entry = w.sector; below = inside w.sector w.shared; broken = (w.shared, w.here) })
