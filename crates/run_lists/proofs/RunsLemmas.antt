-- What the calls on runs do, in terms of the runs that they see.
use Rattle.std.proofs.Common.{◌≡◌, inl, inr, ℕ, ◌+◌, ◌-◌, ◌<◌, ◌≤◌, ◌^◌, List, [], ◌∷◌, ◌++◌, length, take, drop, set}
use Rattle.std.proofs.Common.{get_or, Some, sym, ◌∙◌, ap, subst, arith, length-append}
use Rattle.std.specs.Prelude.{slice_get, replicate}
use Rattle.std.specs.List.{insert, splice}
use Rattle.std.proofs.lemmas.Bool.{cases_lt}
use Rattle.std.proofs.lemmas.List.{length-replicate, length-take-le, length-drop, get_or_default}
use Rattle.std.proofs.lemmas.List.Edits.{get_or-insert_below}
use Rattle.std.proofs.lemmas.Option.{slice_get-get_or, slice_get_within}
use Rattle.run_lists.specs.declared.runs.Run.{Run}
use Rattle.run_lists.specs.declared.cut.Spot.{Spot}
use Rattle.run_lists.specs.Spread.{expanded, total_len}
use Rattle.run_lists.specs.Places.{IsFoundSpot, AreCutRuns}
use Rattle.run_lists.proofs.SpreadLemmas.{length-spread, extent_all, count_within, spread_push}
use Rattle.run_lists.proofs.CutLemmas.{same_in_two, cut_in_two, value_in_run, last_grows, spliced}

-- ---- a place

-- the length of the value
pub extent_of : {T : Type 0} (runs : List (Run T)) (value : List T) → expanded runs ≡ value → total_len runs ≡ length
    value
extent_of runs value is = sym (length-spread runs) ∙ ap length is

-- a place before the end is in a run
pub spot_inside : {T : Type 0} (runs : List (Run T)) (begin place : ℕ) (spot : Spot) → IsFoundSpot runs begin place spot
    →
    total_len (take begin runs) + place < total_len runs → spot.run < length runs
spot_inside runs begin place spot found before = elim (cases_lt spot.run (length runs)) [
  | inl inside ↦ inside
  | inr past ↦
      let end : spot.run ≡ length runs = omega (arith, found.there) in
      let none : spot.left ≡ 0 = found.ended end in
      absurd (omega (arith, found.here, extent_all runs spot.run past))
]

-- and so is one that does not begin a run
pub spot_partial : {T : Type 0} (runs : List (Run T)) (begin place : ℕ) (spot : Spot) → IsFoundSpot runs begin place
    spot →
    (spot.left ≡ 0 → ⊥) → spot.run < length runs
spot_partial runs begin place spot found some = elim (cases_lt spot.run (length runs)) [
  | inl inside ↦ inside
  | inr past ↦ (let end : spot.run ≡ length runs = omega (arith, found.there) in absurd (some (found.ended end)))
]

-- how far into it
pub left_inside : {T : Type 0} (runs : List (Run T)) (begin place : ℕ) (spot : Spot) (d : Run T) →
    IsFoundSpot runs begin place spot → spot.run < length runs → spot.left < (get_or runs spot.run d).count
left_inside {T = T} runs begin place spot d found inside =
    let there = found.inside inside in
    let whole : Some (get_or runs spot.run d) ≡ Some there.0 =
    sym (slice_get-get_or runs spot.run d inside) ∙ there.1 in
    let is : get_or runs spot.run d ≡ there.0 = cc in
    subst (λ (run : Run T). spot.left < run.count) (sym is) there.2

-- it is no farther than the run is long
pub left_of : {T : Type 0} (runs : List (Run T)) (begin place : ℕ) (spot : Spot) (run : Run T) →
    IsFoundSpot runs begin place spot → slice_get runs spot.run ≡ Some run → spot.left ≤ run.count
left_of {T = T} runs begin place spot run found is =
    let there = found.inside (slice_get_within runs spot.run run is) in
    let same : run ≡ there.0 = (let whole : Some run ≡ Some there.0 = sym is ∙ there.1 in cc) in
    let count : run.count ≡ there.0.count = ap (λ (r : Run T). r.count) same in
    let less : spot.left < there.0.count = there.2 in
    omega arith

-- a walk over runs that has something left is in one of them
pub number_inside : {T : Type 0} (runs : List (Run T)) (number skipped left to : ℕ) → 0 < left →
    total_len (take number runs) + (skipped + left) ≡ to → to ≤ total_len runs → number < length runs
number_inside runs number skipped left to some place within = elim (cases_lt number (length runs)) [
  | inl inside ↦ inside
  | inr past ↦ absurd (omega (arith, extent_all runs number past))
]

-- the value there
pub found_value : {T : Type 0} (runs : List (Run T)) (begin place : ℕ) (spot : Spot) (d : Run T) →
    IsFoundSpot runs begin place spot → total_len (take begin runs) + place < total_len runs
    → slice_get (expanded runs) (total_len (take begin runs) + place) ≡ Some (get_or runs spot.run d).value
found_value {T = T} runs begin place spot d found before =
    let inside = spot_inside runs begin place spot found before in
    subst (λ (n : ℕ). slice_get (expanded runs) n ≡ Some (get_or runs spot.run d).value) found.here
    (value_in_run runs spot.run spot.left (get_or runs spot.run d) (slice_get-get_or runs spot.run d inside)
    (left_inside runs begin place spot d found inside))

-- ---- a cut

-- what a cut inside a run sees: the run, the run again, what was put behind it, and what is before that then
pub record CutsRun {T : Type 0} (runs inserted : List (Run T)) (k left : ℕ) (one again rest front : Run T) : Type 0
  where
    pub within : k < length runs
    pub first : one ≡ get_or runs k one
    pub second : again ≡ get_or runs k again
    pub put : inserted ≡ insert runs (k + 1) rest
    pub third : front ≡ get_or inserted k front
    pub value : rest.value ≡ one.value
    pub count : rest.count ≡ again.count - left
    pub short : left ≤ again.count

front_is : {T : Type 0} (runs inserted : List (Run T)) (k left : ℕ) (one again rest front : Run T) →
    CutsRun runs inserted k left one again rest front → front ≡ get_or runs k one
front_is {T = T} runs inserted k left one again rest front cuts =
    let within = cuts.within in
    cuts.third
    ∙ ap (λ (t : List (Run T)). get_or t k front) cuts.put
    ∙ get_or-insert_below runs (k + 1) rest front k (omega arith) (omega arith)
    ∙ get_or_default runs k front one within

again_is : {T : Type 0} (runs inserted : List (Run T)) (k left : ℕ) (one again rest front : Run T) →
    CutsRun runs inserted k left one again rest front → again ≡ get_or runs k one
again_is runs inserted k left one again rest front cuts =
    cuts.second ∙ get_or_default runs k again one cuts.within

pub cut_same : {T : Type 0} (runs inserted : List (Run T)) (k left : ℕ) (one again rest front new : Run T) →
    CutsRun runs inserted k left one again rest front → new.count ≡ left → new.value ≡ front.value
    → expanded (set inserted k new) ≡ expanded runs
cut_same {T = T} runs inserted k left one again rest front new cuts count value =
    let run = get_or runs k one in
    let here : again ≡ run = again_is runs inserted k left one again rest front cuts in
    let counts : again.count ≡ run.count = ap (λ (r : Run T). r.count) here in
    let sum : new.count + rest.count ≡ run.count = omega (arith, cuts.count, cuts.short, counts, count) in
    ap (λ (t : List (Run T)). expanded (set t k new)) cuts.put
    ∙ same_in_two runs k run new rest (slice_get-get_or runs k one cuts.within)
    (value ∙ ap (λ (r : Run T). r.value) (front_is runs inserted k left one again rest front cuts))
    (cuts.value ∙ ap (λ (r : Run T). r.value) cuts.first) sum

pub cut_is : {T : Type 0} (runs inserted : List (Run T)) (begin place : ℕ) (spot : Spot)
    (one again rest front new : Run T) → CutsRun runs inserted spot.run spot.left one again rest front →
    IsFoundSpot runs begin place spot → new.count ≡ spot.left
    → AreCutRuns runs (set inserted spot.run new) begin place (spot.run + 1)
cut_is {T = T} runs inserted begin place spot one again rest front new cuts found count =
    subst (λ (t : List (Run T)). AreCutRuns runs (set t spot.run new) begin place (spot.run + 1)) (sym cuts.put)
    (cut_in_two runs begin place spot.run new rest found.begun cuts.within (omega (arith, found.here, count)))

-- ---- more values

-- the last run has no place for more than the list
pub last_fits : {T : Type 0} (runs : List (Run T)) (value : List T) (k more : ℕ) (one : Run T) → k < length runs →
    one ≡ get_or runs k one → expanded runs ≡ value → length value + more < 2 ^ 32 → one.count + more < 2 ^ 32
last_fits {T = T} runs value k more one within here is few =
    let count : one.count ≡ (get_or runs k one).count = ap (λ (r : Run T). r.count) here in
    omega (arith, count, count_within runs k one within, extent_of runs value is)

-- the last run has more
pub grown : {T : Type 0} (runs : List (Run T)) (value : List T) (k more : ℕ) (one other new : Run T) (x : T) →
    k + 1 ≡ length runs → one ≡ get_or runs k one → other ≡ get_or runs k other → other.value ≡ x
    → new.count ≡ one.count + more → new.value ≡ one.value → expanded runs ≡ value
    → expanded (set runs k new) ≡ value ++ replicate more x
grown {T = T} runs value k more one other new x end here there same count new_value is =
    let within : k < length runs = omega (arith, end) in
    let run = get_or runs k one in
    let counts : one.count ≡ run.count = ap (λ (r : Run T). r.count) here in
    let values : one.value ≡ run.value = ap (λ (r : Run T). r.value) here in
    let others : other ≡ run = there ∙ get_or_default runs k other one within in
    let last : run.value ≡ x = sym (ap (λ (r : Run T). r.value) others) ∙ same in
    last_grows runs k more run new end (slice_get-get_or runs k one within) (omega (arith, count, counts))
    (new_value ∙ values)
    ∙ ap (λ (t : List T). t ++ replicate more run.value) is
    ∙ ap (λ (y : T). value ++ replicate more y) last

-- one run more
pub pushed : {T : Type 0} (runs new : List (Run T)) (value : List T) (run : Run T) → new ≡ runs ++ run ∷ [] →
    expanded runs ≡ value → expanded new ≡ value ++ replicate run.count run.value
pushed {T = T} runs new value run put is =
    ap expanded put ∙ spread_push runs run ∙ ap (λ (t : List T). t ++ replicate run.count run.value) is

-- so many more
pub length_more : {T : Type 0} (all value : List T) (more : ℕ) (x : T) → all ≡ value ++ replicate more x →
    length value + more < 2 ^ 32 → length all < 2 ^ 32
length_more all value more x is few =
    omega (arith, ap length is, length-append value (replicate more x), length-replicate more x)

-- ---- a splice

pub spliced_is : {T : Type 0} (old mid last new fresh_runs : List (Run T)) (value fresh : List T) (from to i j : ℕ) →
    from ≤ to → expanded old ≡ value → expanded fresh_runs ≡ fresh → expanded mid ≡ expanded old → expanded last ≡
    expanded mid
    → AreCutRuns old mid 0 from i → AreCutRuns mid last i (to - from) j → new ≡ splice last i j fresh_runs
    → expanded new ≡ splice value from to fresh
spliced_is {T = T} old mid last new fresh_runs value fresh from to i j ordered old_is fresh_is same again first second
    is =
    ap expanded is
    ∙ spliced old mid last fresh_runs from to i j ordered same again first second
    ∙ ap (λ (t : List T). splice t from to (expanded fresh_runs)) old_is
    ∙ ap (λ (t : List T). splice value from to t) fresh_is

pub spliced_short : {T : Type 0} (all value fresh : List T) (from to : ℕ) → all ≡ splice value from to fresh →
    from ≤ to → to ≤ length value → length value + length fresh < 2 ^ 32 + (to - from) → length all < 2 ^ 32
spliced_short all value fresh from to is ordered within few =
    omega (
      arith,
      ap length is,
      length-append (take from value) (fresh ++ drop to value),
      length-append fresh (drop to value),
      length-take-le from value (omega arith),
      length-drop to value,
    )
