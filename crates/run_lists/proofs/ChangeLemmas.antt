-- A range of a list of runs, run by run.
use Rattle.std.proofs.Common.{◌≡◌, ℕ, zero, suc, refl, sym, ap, subst, ◌∙◌, ◌+◌, ◌-◌, ◌≤◌, List, [], ◌∷◌, ◌++◌}
use Rattle.std.proofs.Common.{length, take, drop, arith, append_assoc, length-append, Some}
use Rattle.std.specs.Prelude.{slice_get, slice_range, replicate}
use Rattle.std.proofs.Math.Seq.{take-add}
use Rattle.std.proofs.lemmas.List.{length-replicate, replicate-append-replicate, drop-drop}
use Rattle.std.proofs.lemmas.List.Elements.{All-replicate}
use Rattle.std.proofs.lemmas.Option.{slice_get_within}
use Rattle.doc_bits.proofs.Public.{range_mid, All_at, together_joined}
use Rattle.doc_bits.specs.Together.{AreTogether}
use Rattle.run_lists.specs.declared.runs.Run.{Run}
use Rattle.run_lists.specs.Spread.{expanded, total_len}
use Rattle.run_lists.proofs.SpreadLemmas.{length-spread}
use Rattle.run_lists.proofs.CutLemmas.{run_parts}

-- the values of a part of a run
pub part_range : {T : Type 0} (runs : List (Run T)) (k skipped count : ℕ) (run : Run T) → slice_get runs k ≡ Some run →
    skipped + count ≤ run.count
    → slice_range (expanded runs) (total_len (take k runs) + skipped) (total_len (take k runs) + skipped + count)
    ≡ replicate count run.value
part_range {T = T} runs k skipped count run is within =
    let front = expanded (take k runs) in
    let skip = replicate skipped run.value in
    let some = replicate count run.value in
    let rest = replicate (run.count - (skipped + count)) run.value in
    let back = expanded (drop (k + 1) runs) in
    let sum : skipped + (count + (run.count - (skipped + count))) ≡ run.count = omega arith in
    let run_is : replicate run.count run.value ≡ skip ++ (some ++ rest) =
    ap (λ (n : ℕ). replicate n run.value) (sym sum)
    ∙ sym (replicate-append-replicate skipped (count + (run.count - (skipped + count))) run.value)
    ∙ ap (λ (t : List T). skip ++ t)
    (sym (replicate-append-replicate count (run.count - (skipped + count)) run.value)) in
    let whole : expanded runs ≡ (front ++ skip) ++ (some ++ (rest ++ back)) =
    run_parts runs k run is
    ∙ ap (λ (t : List T). front ++ (t ++ back)) run_is
    ∙ ap (λ (t : List T). front ++ t) (append_assoc skip (some ++ rest) back
    ∙ ap (λ (t : List T). skip ++ t) (append_assoc some rest back))
    ∙ sym (append_assoc front skip (some ++ (rest ++ back))) in
    let long : total_len (take k runs) + skipped ≡ length (front ++ skip) =
    omega (
      arith,
      length-append front skip,
      length-spread (take k runs),
      length-replicate skipped run.value,
    ) in
    range_mid (expanded runs) (front ++ skip) some (rest ++ back) (total_len (take k runs) + skipped)
    (total_len (take k runs) + skipped + count) whole long (omega (arith, long, length-replicate count run.value))

-- a range goes on
pub range_more : {A : Type 0} (xs : List A) (from at count : ℕ) → from ≤ at →
    slice_range xs from (at + count) ≡ slice_range xs from at ++ slice_range xs at (at + count)
range_more {A = A} xs from at count le =
    let first : at + count - from ≡ (at - from) + count = omega arith in
    let second : at + count - at ≡ count = omega arith in
    let place : from + (at - from) ≡ at = omega arith in
    ap (λ (n : ℕ). take n (drop from xs)) first
    ∙ take-add (at - from) count (drop from xs)
    ∙ ap (λ (t : List A). take (at - from) (drop from xs) ++ take count t)
    (drop-drop (at - from) from xs ∙ ap (λ (n : ℕ). drop n xs) place)
    ∙ ap (λ (n : ℕ). take (at - from) (drop from xs) ++ take n (drop at xs)) (sym second)

-- equal values become equal ones
pub together_copies : {T : Type 0} (becomes : T → T → Type 0) (count : ℕ) (before after : T) → becomes before after →
    AreTogether becomes (replicate count before) (replicate count after)
together_copies {T = T} becomes count before after is = record {
  len = length-replicate count before ∙ sym (length-replicate count after);
  each = λ k x y here there.
      let one : before ≡ x =
      All_at (λ (z : T). before ≡ z) (replicate count before) k x (All-replicate (λ (z : T). before ≡ z) count before
      refl)
      here in
      let other : after ≡ y =
      All_at (λ (z : T). after ≡ z) (replicate count after) k y (All-replicate (λ (z : T). after ≡ z) count after refl)
      there in
      subst (λ (z : T). becomes z y) one (subst (becomes before) other is);
}

-- lists whose values are the same are one list
pub together_same : {T : Type 0} (xs ys : List T) → AreTogether (λ before after. after ≡ before) xs ys → ys ≡ xs
together_same [] [] together = refl
together_same [] (y ∷ ys) together = absurd (let e = together.len in omega (arith, e))
together_same (x ∷ xs) [] together = absurd (let e = together.len in omega (arith, e))
together_same {T = T} (x ∷ xs) (y ∷ ys) together =
    let first : y ≡ x = together.each zero x y refl refl in
    let rest : ys ≡ xs =
    together_same xs ys (record {
      len = let e = together.len in omega (arith, e);
      each = λ k before after here there. together.each (suc k) before after here there;
    }) in
    ap (λ (z : T). z ∷ ys) first ∙ ap (λ (t : List T). x ∷ t) rest

-- ---- a walk over the range

-- nothing is changed yet
pub none_changed : {T : Type 0} (becomes : T → T → Type 0) (xs fresh : List T) (from end : ℕ) → end ≡ from →
    fresh ≡ [] → AreTogether becomes (slice_range xs from end) fresh
none_changed {T = T} becomes xs fresh from end at none =
    let zero_long : end - from ≡ 0 = omega arith in
    let nothing : slice_range xs from end ≡ [] = ap (λ (n : ℕ). take n (drop from xs)) zero_long in
    record {
      len = ap length nothing ∙ sym (ap length none);
      each = λ k x y here there.
          let missing : slice_get {X = T} [] k ≡ Some x = sym (ap (λ (t : List T). slice_get t k) nothing) ∙ here in
          absurd (let within = slice_get_within [] k x missing in omega (arith, within));
    }

-- a part of a run more
pub changed_more : {T : Type 0} (becomes : T → T → Type 0) (runs : List (Run T)) (from to left number skipped count : ℕ)
    (run : Run T) (made : T) (fresh new : List T) →
    AreTogether becomes (slice_range (expanded runs) from (to - left)) fresh → new ≡ fresh ++ replicate count made
    → slice_get runs number ≡ Some run → becomes run.value made
    → total_len (take number runs) + (skipped + left) ≡ to → count ≤ left → skipped + count ≤ run.count
    → from + left ≤ to → AreTogether becomes (slice_range (expanded runs) from (to - (left - count))) new
changed_more {T = T} becomes runs from to left number skipped count run made fresh new so_far put is changes place few
    within before =
    let at = total_len (take number runs) + skipped in
    let here : to - left ≡ at = omega arith in
    let next : to - (left - count) ≡ at + count = omega arith in
    let long : from ≤ at = omega arith in
    let joined =
    together_joined becomes (slice_range (expanded runs) from at) fresh (replicate count run.value) (replicate count
    made)
    (subst (λ (n : ℕ). AreTogether becomes (slice_range (expanded runs) from n) fresh) here so_far)
    (together_copies becomes count run.value made changes) in
    let range : slice_range (expanded runs) from (to - (left - count))
    ≡ slice_range (expanded runs) from at ++ replicate count run.value =
    ap (slice_range (expanded runs) from) next
    ∙ range_more (expanded runs) from at count long
    ∙ ap (λ (t : List T). slice_range (expanded runs) from at ++ t)
    (part_range runs number skipped count run is within) in
    subst (λ (t : List T). AreTogether becomes t new) (sym range)
    (subst (AreTogether becomes (slice_range (expanded runs) from at ++ replicate count run.value)) (sym put) joined)
