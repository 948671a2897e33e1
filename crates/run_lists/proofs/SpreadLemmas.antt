-- What lists of runs represent, part by part.
use Rattle.std.proofs.Common.{◌≡◌, ℕ, refl, sym, ap, ◌∙◌, ◌+◌, ◌<◌, ◌≤◌, List, [], ◌∷◌, ◌++◌, length, take, get_or}
use Rattle.std.proofs.Common.{arith, length-append}
use Rattle.std.specs.Prelude.{replicate}
use Rattle.std.proofs.lemmas.List.{length-replicate, append-nil, take_all, take_more}
use Rattle.std.proofs.lemmas.List.Concat.{flat_map-cons}
use Rattle.std.proofs.lemmas.List.Sums.{sum_by-cons, sum_by_push, sum_by-take-le}
use Rattle.std.proofs.lemmas.Grind.{flat_map-append}
use Rattle.run_lists.specs.declared.runs.Run.{Run}
use Rattle.run_lists.specs.Spread.{expanded, total_len}

-- no runs are the empty list
pub spread-nil : (T : Type 0) → expanded {T = T} [] ≡ []
unfolding expanded
spread-nil T = refl

-- the first run is first
pub spread-cons : {T : Type 0} (run : Run T) (runs : List (Run T)) →
    expanded (run ∷ runs) ≡ replicate run.count run.value ++ expanded runs
unfolding expanded
spread-cons run runs = flat_map-cons (λ run. replicate run.count run.value) run runs

-- what is behind runs comes behind their list
pub spread-append : {T : Type 0} (front back : List (Run T)) → expanded (front ++ back) ≡ expanded front ++ expanded
    back
unfolding expanded
spread-append front back = flat_map-append (λ run. replicate run.count run.value) front back

-- the empty list has no length
pub extent-nil : (T : Type 0) → total_len {T = T} [] ≡ 0
unfolding total_len
extent-nil T = refl

-- the first run counts
pub extent-cons : {T : Type 0} (run : Run T) (runs : List (Run T)) → total_len (run ∷ runs) ≡ run.count + total_len runs
unfolding total_len
extent-cons run runs = sum_by-cons (λ run. run.count) run runs

-- a run more
pub extent_push : {T : Type 0} (runs : List (Run T)) (run : Run T) → total_len (runs ++ run ∷ []) ≡ total_len runs +
    run.count
unfolding total_len
extent_push runs run = sum_by_push (λ run. run.count) runs run

-- a front is no longer
pub extent-take : {T : Type 0} (runs : List (Run T)) (k : ℕ) → total_len (take k runs) ≤ total_len runs
unfolding total_len
extent-take runs k = sum_by-take-le (λ run. run.count) runs k

-- the list has as many values as its runs say
pub length-spread : {T : Type 0} (runs : List (Run T)) → length (expanded runs) ≡ total_len runs
length-spread {T = T} [] = ap length (spread-nil T) ∙ sym (extent-nil T)
length-spread (run ∷ runs) =
    rw (
      spread-cons run runs,
      extent-cons run runs,
      length-append (replicate run.count run.value) (expanded runs),
      length-replicate run.count run.value,
      length-spread runs,
    ) refl

-- a run more of a front
pub extent_more : {T : Type 0} (runs : List (Run T)) (k : ℕ) (d : Run T) → k < length runs →
    total_len (take (k + 1) runs) ≡ total_len (take k runs) + (get_or runs k d).count
extent_more runs k d within = rw (take_more runs k d within) (extent_push (take k runs) (get_or runs k d))

-- all of a front
pub extent_all : {T : Type 0} (runs : List (Run T)) (k : ℕ) → length runs ≤ k → total_len (take k runs) ≡ total_len runs
extent_all runs k all = ap total_len (take_all k runs all)

-- a run is no longer than the list
pub count_within : {T : Type 0} (runs : List (Run T)) (k : ℕ) (d : Run T) → k < length runs →
    total_len (take k runs) + (get_or runs k d).count ≤ total_len runs
count_within runs k d within = omega (arith, extent_more runs k d within, extent-take runs (k + 1))

-- one run is its values
pub spread-one : {T : Type 0} (run : Run T) → expanded (run ∷ []) ≡ replicate run.count run.value
spread-one {T = T} run =
    spread-cons run [] ∙ ap (λ (t : List T). replicate run.count run.value ++ t) (spread-nil T)
    ∙ append-nil (replicate run.count run.value)

-- a run more puts its values last
pub spread_push : {T : Type 0} (runs : List (Run T)) (run : Run T) →
    expanded (runs ++ run ∷ []) ≡ expanded runs ++ replicate run.count run.value
spread_push runs run = rw (spread-append runs (run ∷ []), spread-one run) refl
