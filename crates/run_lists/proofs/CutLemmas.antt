-- Runs in two parts, and a run in two.
use Rattle.std.proofs.Common.{◌≡◌, ℕ, zero, suc, refl, sym, ap, subst, ◌∙◌, ◌+◌, ◌-◌, ◌<◌, ◌≤◌, List, [], ◌∷◌, ◌++◌}
use Rattle.std.proofs.Common.{length, take, drop, set, get_or, arith, append_assoc, add-one, length-append}
use Rattle.std.proofs.Common.{length-take-le, drop-cons, Some}
use Rattle.std.specs.Prelude.{slice_get, slice_range, replicate}
use Rattle.std.specs.List.{All, insert, splice}
use Rattle.std.proofs.lemmas.List.{length-replicate, replicate-append-replicate, get_or-replicate, take_more}
use Rattle.std.proofs.lemmas.List.{take-append-drop, take-append-le, take_at, length-set, set_split, drop_all}
use Rattle.std.proofs.Math.Seq.{set-append_seam, drop-append_seam}
use Rattle.std.proofs.lemmas.List.Edits.{length-insert}
use Rattle.std.proofs.lemmas.List.Concat.{get_or-flat_map}
use Rattle.std.proofs.lemmas.List.Elements.{All-nil, All-append, All-replicate}
use Rattle.std.proofs.lemmas.Option.{slice_get_within, slice_get-get_or, get_or_from_slice_get, same_Some}
use Rattle.doc_bits.proofs.Public.{range_mid, All_at}
use Rattle.run_lists.specs.declared.runs.Run.{Run}
use Rattle.run_lists.specs.Spread.{expanded, total_len}
use Rattle.run_lists.specs.declared.cursor.Cursor.{Cursor}
use Rattle.run_lists.specs.Places.{IsAtRunBegin, AreCutRuns}
use Rattle.run_lists.proofs.SpreadLemmas.{spread-nil, spread-append, spread-cons, spread_push, length-spread}
use Rattle.run_lists.proofs.SpreadLemmas.{extent-nil, extent_push, extent_more, extent-take}

-- ---- a front and the rest

-- the values of a front
pub spread-take : {T : Type 0} (runs : List (Run T)) (k n : ℕ) → total_len (take k runs) ≡ n →
    expanded (take k runs) ≡ take n (expanded runs)
spread-take runs k n long =
    sym (ap (take n) (sym (ap expanded (take-append-drop k runs)) ∙ spread-append (take k runs) (drop k runs))
    ∙ take_at (expanded (take k runs)) (expanded (drop k runs)) n (length-spread (take k runs) ∙ long))

-- the values behind it
pub spread-drop : {T : Type 0} (runs : List (Run T)) (k n : ℕ) → total_len (take k runs) ≡ n →
    expanded (drop k runs) ≡ drop n (expanded runs)
spread-drop runs k n long =
    let parts = sym (ap expanded (take-append-drop k runs)) ∙ spread-append (take k runs) (drop k runs) in
    let seam = drop-append_seam (expanded (take k runs)) (expanded (drop k runs)) in
    sym (ap (drop n) parts
    ∙ subst (λ (m : ℕ). drop m (expanded (take k runs) ++ expanded (drop k runs)) ≡ expanded (drop k runs))
    (length-spread (take k runs) ∙ long) seam)

-- a front of a front
pub same_front : {A : Type 0} (xs ys : List A) (k begin : ℕ) → begin ≤ k → k ≤ length xs →
    take begin (take k xs ++ ys) ≡ take begin xs
same_front xs ys k begin le within =
    let short : begin ≤ length (take k xs) = omega (arith, length-take-le k xs within) in
    take-append-le begin (take k xs) ys short
    ∙ sym (take-append-le begin (take k xs) (drop k xs) short)
    ∙ ap (take begin) (take-append-drop k xs)

-- ---- a run in two

-- a run, and those behind it
pub run_and_rest : {A : Type 0} (xs : List A) (k : ℕ) (x : A) → slice_get xs k ≡ Some x → drop k xs ≡ x ∷ drop (k + 1)
    xs
run_and_rest {A = A} xs k x is =
    let within = slice_get_within xs k x is in
    subst (λ (n : ℕ). drop k xs ≡ x ∷ drop n xs) (sym (add-one k))
    (drop-cons xs k x within ∙ ap (λ (y : A). y ∷ drop (suc k) xs) (get_or_from_slice_get xs k x x is))

-- two runs of one value are one run
two_runs : {T : Type 0} (front back run : Run T) (rest : List (Run T)) → front.value ≡ run.value →
    back.value ≡ run.value → front.count + back.count ≡ run.count → expanded (front ∷ back ∷ rest) ≡ expanded (run ∷
    rest)
two_runs front back run rest front_is back_is counts =
    rw (
      spread-cons front (back ∷ rest),
      spread-cons back rest,
      spread-cons run rest,
      front_is,
      back_is,
      ← append_assoc (replicate front.count run.value) (replicate back.count run.value) (expanded rest),
      replicate-append-replicate front.count back.count run.value,
      counts,
    ) refl

-- the runs, with two in place of one
pub parts_in_two : {A : Type 0} (xs : List A) (k : ℕ) (front back : A) → k < length xs →
    set (insert xs (k + 1) back) k front ≡ take k xs ++ (front ∷ back ∷ drop (k + 1) xs)
parts_in_two {A = A} xs k front back within =
    let one = get_or xs k front in
    let rest = drop (k + 1) xs in
    let inserted : insert xs (k + 1) back ≡ take k xs ++ (one ∷ back ∷ rest) =
    ap (λ (ys : List A). ys ++ (back ∷ rest)) (take_more xs k front within)
    ∙ append_assoc (take k xs) (one ∷ []) (back ∷ rest) in
    ap (λ (ys : List A). set ys k front) inserted
    ∙ subst (λ (n : ℕ). set (take k xs ++ (one ∷ back ∷ rest)) n front ≡ take k xs ++ (front ∷ back ∷ rest))
    (length-take-le k xs (omega arith)) (set-append_seam (take k xs) one (back ∷ rest) front)

-- the list is the same
pub same_in_two : {T : Type 0} (runs : List (Run T)) (k : ℕ) (run front back : Run T) → slice_get runs k ≡ Some run →
    front.value ≡ run.value → back.value ≡ run.value → front.count + back.count ≡ run.count
    → expanded (set (insert runs (k + 1) back) k front) ≡ expanded runs
same_in_two {T = T} runs k run front back is front_is back_is counts =
    let within = slice_get_within runs k run is in
    let rest = drop (k + 1) runs in
    let old : runs ≡ take k runs ++ (run ∷ rest) =
    sym (take-append-drop k runs) ∙ ap (λ (t : List (Run T)). take k runs ++ t) (run_and_rest runs k run is) in
    ap expanded (parts_in_two runs k front back within)
    ∙ spread-append (take k runs) (front ∷ back ∷ rest)
    ∙ ap (λ (t : List T). expanded (take k runs) ++ t) (two_runs front back run rest front_is back_is counts)
    ∙ sym (spread-append (take k runs) (run ∷ rest))
    ∙ sym (ap expanded old)

-- the second of the two begins behind the first
pub cut_in_two : {T : Type 0} (runs : List (Run T)) (begin place k : ℕ) (front back : Run T) → begin ≤ k →
    k < length runs → total_len (take k runs) + front.count ≡ total_len (take begin runs) + place
    → AreCutRuns runs (set (insert runs (k + 1) back) k front) begin place (k + 1)
cut_in_two {T = T} runs begin place k front back le within here =
    let rest = drop (k + 1) runs in
    let parts = parts_in_two runs k front back within in
    let short : k ≤ length runs = omega arith in
    let long : length (take k runs ++ front ∷ []) ≡ k + 1 =
    length-append (take k runs) (front ∷ []) ∙ ap (λ (n : ℕ). n + 1) (length-take-le k runs short) in
    let first : take (k + 1) (set (insert runs (k + 1) back) k front) ≡ take k runs ++ front ∷ [] =
    ap (take (k + 1)) (parts ∙ sym (append_assoc (take k runs) (front ∷ []) (back ∷ rest)))
    ∙ take_at (take k runs ++ front ∷ []) (back ∷ rest) (k + 1) long in
    record {
      begun = omega arith;
      there =
          omega (arith, length-set (insert runs (k + 1) back) k front, length-insert runs (k + 1) back (omega arith));
      here = ap total_len first ∙ extent_push (take k runs) front ∙ here;
      before = ap (take begin) parts ∙ same_front runs (front ∷ back ∷ rest) k begin le short;
    }

-- ---- values

All-copies : {T : Type 0} (P : T → Type 0) (count : ℕ) (value : T) → (0 < count → P value) →
    All P (replicate count value)
All-copies P zero value holds = All-nil P
All-copies P (suc count) value holds = All-replicate P (suc count) value (holds (omega arith))

-- the value at a place of a run
pub value_in_run : {T : Type 0} (runs : List (Run T)) (k left : ℕ) (run : Run T) → slice_get runs k ≡ Some run →
    left < run.count → slice_get (expanded runs) (total_len (take k runs) + left) ≡ Some run.value
unfolding expanded
value_in_run {T = T} runs k left run is inside =
    let within = slice_get_within runs k run is in
    let here : get_or runs k run ≡ run = get_or_from_slice_get runs k run run is in
    let more = extent_more runs k run within in
    let place : length (expanded (take k runs)) ≡ total_len (take k runs) = length-spread (take k runs) in
    let count : (get_or runs k run).count ≡ run.count = ap (λ (r : Run T). r.count) here in
    let short : total_len (take k runs) + left < length (expanded runs) =
    omega (arith, length-spread runs, extent-take runs (k + 1), more, count) in
    let long : left < length (replicate (get_or runs k run).count (get_or runs k run).value) =
    omega (arith, length-replicate (get_or runs k run).count (get_or runs k run).value, count) in
    let read = get_or-flat_map (λ (r : Run T). replicate r.count r.value) runs k left run run.value within long in
    slice_get-get_or (expanded runs) (total_len (take k runs) + left) run.value short
    ∙ ap Some (subst (λ (n : ℕ). get_or (expanded runs) (n + left) run.value ≡ run.value) place
    (read ∙ subst (λ (r : Run T). get_or (replicate r.count r.value) left run.value ≡ run.value) (sym here)
    (get_or-replicate run.count left run.value run.value inside)))

-- the values of the cursor's run from a place on
pub values_at : {T : Type 0} (runs : List (Run T)) (cursor : Cursor) (place k : ℕ) (run : Run T) (value : T) →
    IsAtRunBegin runs cursor → cursor.begin ≤ place → slice_get runs cursor.run ≡ Some run →
    place < cursor.begin + run.count → slice_get (expanded runs) place ≡ Some value → place ≤ k →
    k < cursor.begin + run.count → slice_get (expanded runs) k ≡ Some value
values_at {T = T} runs cursor place k run value at ahead there inside is le until =
    let begin = total_len (take cursor.run runs) in
    let own : (n : ℕ) → cursor.begin ≤ n → n < cursor.begin + run.count → slice_get (expanded runs) n ≡ Some run.value =
    λ n low high. subst (λ m. slice_get (expanded runs) m ≡ Some run.value) (omega (arith, at.begins, low))
    (value_in_run runs cursor.run (n - cursor.begin) run there (omega (arith, low, high))) in
    let same : run.value ≡ value = same_Some run.value value (sym (own place ahead inside) ∙ is) in
    own k (omega (arith, ahead, le)) until ∙ ap (λ (x : T). Some x) same

-- the list around one run
pub run_parts : {T : Type 0} (runs : List (Run T)) (k : ℕ) (run : Run T) → slice_get runs k ≡ Some run →
    expanded runs ≡ expanded (take k runs) ++ (replicate run.count run.value ++ expanded (drop (k + 1) runs))
run_parts {T = T} runs k run is =
    let rest = drop (k + 1) runs in
    ap expanded (sym (take-append-drop k runs) ∙ ap (λ (t : List (Run T)). take k runs ++ t) (run_and_rest runs k run
    is))
    ∙ spread-append (take k runs) (run ∷ rest)
    ∙ ap (λ (t : List T). expanded (take k runs) ++ t) (spread-cons run rest)

-- the values of one run
pub run_range : {T : Type 0} (runs : List (Run T)) (k : ℕ) (run : Run T) → slice_get runs k ≡ Some run →
    slice_range (expanded runs) (total_len (take k runs)) (total_len (take k runs) + run.count) ≡ replicate run.count
    run.value
run_range runs k run is =
    let front : total_len (take k runs) ≡ length (expanded (take k runs)) = sym (length-spread (take k runs)) in
    range_mid (expanded runs) (expanded (take k runs)) (replicate run.count run.value) (expanded (drop (k + 1) runs))
    (total_len (take k runs)) (total_len (take k runs) + run.count) (run_parts runs k run is) front
    (omega (arith, front, length-replicate run.count run.value))

-- ---- what holds of each value

-- it holds of the value of each run that has some
pub All-runs : {T : Type 0} (P : T → Type 0) (runs : List (Run T)) → All P (expanded runs) → (k : ℕ) (run : Run T) →
    slice_get runs k ≡ Some run → 0 < run.count → P run.value
All-runs P runs every k run is some =
    All_at P (expanded runs) (total_len (take k runs) + 0) run.value every (value_in_run runs k 0 run is some)

-- and back
pub All-spread : {T : Type 0} (P : T → Type 0) (runs : List (Run T)) →
    ((k : ℕ) (run : Run T) → slice_get runs k ≡ Some run → 0 < run.count → P run.value) → All P (expanded runs)
All-spread {T = T} P [] each = subst (All P) (sym (spread-nil T)) (All-nil P)
All-spread P (run ∷ runs) each =
    subst (All P) (sym (spread-cons run runs))
    (All-append P (replicate run.count run.value) (expanded runs)
    (All-copies P run.count run.value (each zero run refl))
    (All-spread P runs (λ k one is. each (suc k) one is)))

-- ---- a splice

-- whole runs in place of those between two cuts
pub spliced : {T : Type 0} (old mid new fresh : List (Run T)) (from to i j : ℕ) → from ≤ to →
    expanded mid ≡ expanded old → expanded new ≡ expanded mid → AreCutRuns old mid 0 from i → AreCutRuns mid new i (to -
    from) j
    → expanded (splice new i j fresh) ≡ splice (expanded old) from to (expanded fresh)
spliced {T = T} old mid new fresh from to i j ordered same same_again first second =
    let nothing : total_len (take 0 old) ≡ 0 = extent-nil T in
    let front : total_len (take i new) ≡ from = omega (arith, ap total_len second.before, first.here, nothing) in
    let back : total_len (take j new) ≡ to = omega (arith, second.here, first.here, nothing) in
    let all = same_again ∙ same in
    spread-append (take i new) (fresh ++ drop j new)
    ∙ rw (
      spread-append fresh (drop j new),
      spread-take new i from front,
      spread-drop new j to back,
      all,
    ) refl

-- ---- an end

-- the last run is longer
pub last_grows : {T : Type 0} (runs : List (Run T)) (k more : ℕ) (last new : Run T) → k + 1 ≡ length runs →
    slice_get runs k ≡ Some last → new.count ≡ last.count + more → new.value ≡ last.value
    → expanded (set runs k new) ≡ expanded runs ++ replicate more last.value
last_grows {T = T} runs k more last new end is count value =
    let within = slice_get_within runs k last is in
    let front = take k runs in
    let none : drop (k + 1) runs ≡ [] = drop_all (k + 1) runs (omega arith) in
    let old : runs ≡ front ++ last ∷ [] =
    sym (take-append-drop k runs) ∙ ap (λ (t : List (Run T)). front ++ t) (run_and_rest runs k last is
    ∙ ap (λ (t : List (Run T)). last ∷ t) none) in
    let changed : set runs k new ≡ front ++ new ∷ [] =
    set_split runs k new within ∙ ap (λ (n : ℕ). front ++ new ∷ drop n runs) (sym (add-one k))
    ∙ ap (λ (t : List (Run T)). front ++ new ∷ t) none in
    let joined :
    expanded front ++ replicate new.count new.value
    ≡ (expanded front ++ replicate last.count last.value) ++ replicate more last.value =
    rw (
      value,
      count,
      ← replicate-append-replicate last.count more last.value,
      append_assoc (expanded front) (replicate last.count last.value) (replicate more last.value),
    ) refl in
    ap expanded changed ∙ spread_push front new ∙ joined
    ∙ ap (λ (t : List T). t ++ replicate more last.value) (sym (ap expanded old ∙ spread_push front last))
