-- Pages are counted where runs for which nothing is written share one.
use Rattle.std.proofs.Common.{◌≡◌, ◌⊎◌, ◌∙◌, refl, ap, inl, inr, ℕ, zero, suc, ◌+◌, ◌<◌, ◌≤◌, Bool, true}
use Rattle.std.proofs.Common.{false}
use Rattle.std.proofs.Common.{cond, List, [], ◌∷◌, ◌++◌, length, map, arith, length-append}
use Rattle.std.proofs.lemmas.Bool.{cases_Bool}
use Rattle.std.proofs.lemmas.List.{length-map}
use Rattle.fkp_pages.specs.declared.kind.PageKind.TheVariants.{Papx}
use Rattle.fkp_pages.specs.declared.lists.Run.{Run}
use Rattle.fkp_pages.specs.Fkp.{spelled_list}
use Rattle.fkp_pages.specs.Runs.{run_list}
use Rattle.fkp_pages.specs.Written.{is_bare_run, run_bytes_written}
use Rattle.fkp_pages.specs.PageBytes.{lowered, limit_after, first_limit, entries_end}
use Rattle.fkp_pages.specs.Pages.{first_fc}
use Rattle.fkp_pages.specs.Packed.{fits_page, packed_from, packed}
use Rattle.fkp_pages.proofs.Public.{limit_after-append, limit_after-none, limit_after-one, fits_page-Decides}
use Rattle.save_laws.specs.SharedPages.{pages_begun, BareRunsShare}

-- ---- a page that is open

-- nothing is written for a bare run
written-bare : (run : Run) → is_bare_run Papx run ≡ true → run_bytes_written Papx run ≡ []
unfolding run_bytes_written
written-bare run bare = ap (λ b. cond b [] (spelled_list Papx (run_list Papx run))) bare

-- so the limit stays
limit_after-bare : (front : List Run) (run : Run) → is_bare_run Papx run ≡ true →
    limit_after Papx first_limit (front ++ run ∷ []) ≡ limit_after Papx first_limit front
limit_after-bare front run bare =
    limit_after-append Papx first_limit front (run ∷ [])
    ∙ (limit_after-one Papx (limit_after Papx first_limit front) run
    ∙ ap (lowered (limit_after Papx first_limit front)) (written-bare run bare))

-- a page has room for so many further bare runs
record HasRoomFor (left : ℕ) (front : List Run) : Type 0 where
  room : entries_end Papx (length front + left) ≤ limit_after Papx first_limit front
  few : length front + left ≤ 29

bare_fits : (left : ℕ) (front : List Run) (run : Run) → is_bare_run Papx run ≡ true → HasRoomFor (suc left) front →
    fits_page Papx (front ++ run ∷ []) ≡ true
bare_fits left front run bare has =
    let room = has.room in
    let few = has.few in
    let limit = limit_after-bare front run bare in
    let len = length-append front (run ∷ []) in
    (fits_page-Decides Papx (front ++ run ∷ [])).1
    (record { room = omega (arith, room, limit, len); few = omega (arith, few, len) })

room_behind : (left : ℕ) (front : List Run) (run : Run) → is_bare_run Papx run ≡ true → HasRoomFor (suc left) front →
    HasRoomFor left (front ++ run ∷ [])
room_behind left front run bare has =
    let room = has.room in
    let few = has.few in
    let limit = limit_after-bare front run bare in
    let len = length-append front (run ∷ []) in
    record { room = omega (arith, room, limit, len); few = omega (arith, few, len) }

-- behind one bare run there is room for 28
room_behind_one : (left : ℕ) (run : Run) → left ≤ 28 → is_bare_run Papx run ≡ true → HasRoomFor left (run ∷ [])
room_behind_one left run few bare =
    let limit = limit_after-bare [] run bare in
    let first = limit_after-none Papx first_limit in
    record { room = omega (arith, limit, first, few); few = omega (arith, few) }

-- ---- the pages from one that is open on

abbrev bare_of : List Run → List Bool
bare_of runs = map (is_bare_run Papx) runs

-- the open one may have room for those that are reckoned onto it; or one page more was reckoned already
record ArePagesFew (front runs : List Run) (left : ℕ) : Type 0 where
  here : (0 < left → HasRoomFor left front) → length (packed_from Papx front runs) ≤ 1 + pages_begun left (bare_of runs)
  ahead : left ≤ 28 → length (packed_from Papx front runs) ≤ 2 + pages_begun left (bare_of runs)

-- pages of which the next run is on the open one, or begins one
abbrev pages_on : List Run → Run → List Run → Bool → ℕ
pages_on front run runs b =
    length (cond b (packed_from Papx (front ++ run ∷ []) runs) (front ∷ packed_from Papx (run ∷ []) runs))

packed_on : (front : List Run) (run : Run) (runs : List Run) →
    length (packed_from Papx front (run ∷ runs)) ≡ pages_on front run runs (fits_page Papx (front ++ run ∷ []))
unfolding packed_from
packed_on front run runs = refl

next_page : (front : List Run) (run : Run) (runs : List Run) →
    (length (packed_from Papx front (run ∷ runs)) ≡ length (packed_from Papx (front ++ run ∷ []) runs))
    ⊎ (length (packed_from Papx front (run ∷ runs)) ≡ 1 + length (packed_from Papx (run ∷ []) runs))
next_page front run runs = elim (cases_Bool (fits_page Papx (front ++ run ∷ []))) [
  | inl fits ↦ inl (packed_on front run runs ∙ ap (pages_on front run runs) fits)
  | inr full ↦ inr (omega (arith, packed_on front run runs, ap (pages_on front run runs) full))
]

same_page : (left : ℕ) (front : List Run) (run : Run) (runs : List Run) → is_bare_run Papx run ≡ true →
    HasRoomFor (suc left) front →
    length (packed_from Papx front (run ∷ runs)) ≡ length (packed_from Papx (front ++ run ∷ []) runs)
same_page left front run runs bare has =
    packed_on front run runs ∙ ap (pages_on front run runs) (bare_fits left front run bare has)

-- a run that is not bare
begun-full : (left : ℕ) (run : Run) (runs : List Run) → is_bare_run Papx run ≡ false →
    pages_begun left (bare_of (run ∷ runs)) ≡ 1 + pages_begun 0 (bare_of runs)
unfolding pages_begun
begun-full left run runs full = ap (λ b. pages_begun left (b ∷ bare_of runs)) full

begun-first : (run : Run) (runs : List Run) → is_bare_run Papx run ≡ true →
    pages_begun 0 (bare_of (run ∷ runs)) ≡ 1 + pages_begun 28 (bare_of runs)
unfolding pages_begun
begun-first run runs bare = ap (λ b. pages_begun 0 (b ∷ bare_of runs)) bare

begun-next : (left : ℕ) (run : Run) (runs : List Run) → is_bare_run Papx run ≡ true →
    pages_begun (suc left) (bare_of (run ∷ runs)) ≡ pages_begun left (bare_of runs)
unfolding pages_begun
begun-next left run runs bare = ap (λ b. pages_begun (suc left) (b ∷ bare_of runs)) bare

module _ (front : List Run) (run : Run) (runs : List Run) (few : (open_one : List Run) (left : ℕ) →
    ArePagesFew open_one runs left) where
  full_next : (left : ℕ) → is_bare_run Papx run ≡ false → ArePagesFew front (run ∷ runs) left
  full_next left full =
      let begun = begun-full left run runs full in
      let on = (few (front ++ run ∷ []) 0).here (λ some. absurd (omega (arith, some))) in
      let anew = (few (run ∷ []) 0).here (λ some. absurd (omega (arith, some))) in
      elim (next_page front run runs) [
        | inl same ↦ record {
          here = λ room. omega (arith, begun, on, same);
          ahead = λ small. omega (arith, begun, on, same);
        }
        | inr next ↦ record {
          here = λ room. omega (arith, begun, anew, next);
          ahead = λ small. omega (arith, begun, anew, next);
        }
      ]

  bare_first : is_bare_run Papx run ≡ true → ArePagesFew front (run ∷ runs) 0
  bare_first bare =
      let begun = begun-first run runs bare in
      let on = (few (front ++ run ∷ []) 28).ahead (omega arith) in
      let anew = (few (run ∷ []) 28).here (λ some. room_behind_one 28 run (omega arith) bare) in
      elim (next_page front run runs) [
        | inl same ↦ record {
          here = λ room. omega (arith, begun, on, same);
          ahead = λ small. omega (arith, begun, on, same);
        }
        | inr next ↦ record {
          here = λ room. omega (arith, begun, anew, next);
          ahead = λ small. omega (arith, begun, anew, next);
        }
      ]

  ahead_next : (left : ℕ) → is_bare_run Papx run ≡ true → suc left ≤ 28 →
      length (packed_from Papx front (run ∷ runs)) ≤ 2 + pages_begun (suc left) (bare_of (run ∷ runs))
  ahead_next left bare small =
      let begun = begun-next left run runs bare in
      let low : left ≤ 28 = omega (arith, small) in
      let on = (few (front ++ run ∷ []) left).ahead low in
      let anew = (few (run ∷ []) left).here (λ some. room_behind_one left run low bare) in
      elim (next_page front run runs) [
        | inl same ↦ omega (arith, begun, on, same)
        | inr next ↦ omega (arith, begun, anew, next)
      ]

  bare_next : (left : ℕ) → is_bare_run Papx run ≡ true → ArePagesFew front (run ∷ runs) (suc left)
  bare_next left bare = record {
    here = λ room.
        let has = room (omega arith) in
        let on = (few (front ++ run ∷ []) left).here (λ some. room_behind left front run bare has) in
        omega (arith, on, begun-next left run runs bare, same_page left front run runs bare has);
    ahead = λ small. ahead_next left bare small;
  }

pages_few : (runs front : List Run) (left : ℕ) → ArePagesFew front runs left
unfolding packed_from pages_begun
pages_few [] front left = record { here = λ room. omega arith; ahead = λ small. omega arith }
pages_few (run ∷ runs) front zero =
    let few : (open_one : List Run) (left : ℕ) → ArePagesFew open_one runs left = λ o l. pages_few runs o l in
    elim (cases_Bool (is_bare_run Papx run)) [
      | inl bare ↦ bare_first front run runs few bare
      | inr full ↦ full_next front run runs few 0 full
    ]
pages_few (run ∷ runs) front (suc left) =
    let few : (open_one : List Run) (left : ℕ) → ArePagesFew open_one runs left = λ o l. pages_few runs o l in
    elim (cases_Bool (is_bare_run Papx run)) [
      | inl bare ↦ bare_next front run runs few left bare
      | inr full ↦ full_next front run runs few (suc left) full
    ]

packed_few : (runs : List Run) → length (packed Papx runs) ≤ pages_begun 0 (bare_of runs)
packed_few [] = omega arith
packed_few (run ∷ runs) = elim (cases_Bool (is_bare_run Papx run)) [
  | inl bare ↦
      let few = (pages_few runs (run ∷ []) 28).here (λ some. room_behind_one 28 run (omega arith) bare) in
      omega (arith, few, begun-first run runs bare)
  | inr full ↦
      let few = (pages_few runs (run ∷ []) 0).here (λ some. absurd (omega (arith, some))) in
      omega (arith, few, begun-full 0 run runs full)
]

pub bare_runs_share : BareRunsShare
bare_runs_share runs = omega (arith, packed_few runs, length-map (packed Papx runs) first_fc)
