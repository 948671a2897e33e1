-- Runs that are closed as a text is gone through.
use Rattle.std.proofs.Common.{◌≡◌, ◌≤◌, ◌<◌, ◌+◌, ◌-◌, ◌*◌, ◌∙◌, ap, refl, sym, inl, inr, ℕ, Bool, true, false}
use Rattle.std.proofs.Common.{List, [], ◌∷◌, ◌++◌, length, slice_get, arith}
use Rattle.std.proofs.lemmas.List.{append_assoc, length-append, append-nil, nil_from_length}
use Rattle.std.proofs.lemmas.Bool.{cases_lt}
use Rattle.std.proofs.Math.Seq.{take-append_seam, drop-append_seam}
use Rattle.doc_bits.proofs.Public.{slice_get_push, slice_get_before, from_behind}
use Rattle.fkp_pages.specs.declared.kind.PageKind.{PageKind}
use Rattle.fkp_pages.specs.declared.lists.Run.{Run}
use Rattle.doc_model.specs.declared.item.Item.{Item}
use Rattle.doc_model.specs.Stretches.{stretches, IsJoinedStretch, goes_over, BeginsStretch}
use Rattle.doc_model.proofs.Public.{stretches-first, stretches-nil, joins_nothing}
use Rattle.full_save.specs.Runs.{joins_run, run_at, runs_from, text_runs}
use Rattle.full_save.specs.RunsSoFar.{AreRunsSoFar}

-- a part whose elements join, and whose last one does not join what follows, is the first stretch
pub first_cut :
    {A : Type 0} (joins : A → A → Bool) (part more : List A) → 1 ≤ length part → IsJoinedStretch joins part →
    goes_over joins part more ≡ false → stretches joins (part ++ more) ≡ part ∷ stretches joins more
first_cut joins part more some joined ends =
    let last : length part - 1 < length part = omega arith in
    let next : length part - 1 + 1 ≡ length part + 0 = omega arith in
    let begins : BeginsStretch joins (part ++ more) (length part) = record {
      some = some;
      within = omega (arith, length-append part more);
      joined = λ k h.
          let here : k < length part = omega arith in
          rw (slice_get_before part more k here, slice_get_before part more (k + 1) h) (joined k h);
      ends =
          rw (slice_get_before part more (length part - 1) last, next, from_behind part more 0) ends;
    } in
    stretches-first joins (part ++ more) (length part) begins
    ∙ rw (take-append_seam part more, drop-append_seam part more) refl

-- a joined part with one element more
pub joined_more :
    {A : Type 0} (joins : A → A → Bool) (part : List A) (x : A) → IsJoinedStretch joins part →
    (1 ≤ length part → goes_over joins part (x ∷ []) ≡ true) → IsJoinedStretch joins (part ++ x ∷ [])
joined_more joins part x joined last k h =
    let len = length-append part (x ∷ []) in
    elim (cases_lt (k + 1) (length part)) [
      | inl within ↦
          let here : k < length part = omega arith in
          rw (slice_get_before part (x ∷ []) k here, slice_get_before part (x ∷ []) (k + 1) within) (joined k within)
      | inr end ↦
          let here : k < length part = omega arith in
          let at : k ≡ length part - 1 = omega arith in
          let next : k + 1 ≡ length part = omega arith in
          rw (next, slice_get_push part x, slice_get_before part (x ∷ []) k here, at) (last (omega arith))
    ]

-- one item more in the last run
pub grow_part :
    (kind : PageKind) (at : ℕ) (done : List Item) (closed : List Run) (from : ℕ) (part : List Item) (x : Item) →
    IsJoinedStretch (joins_run kind) (part ++ x ∷ []) →
    AreRunsSoFar kind at done (record { closed = closed; from = from; part = part }) →
    AreRunsSoFar kind at (done ++ x ∷ []) (record { closed = closed; from = from; part = part ++ x ∷ [] })
grow_part kind at done closed from part x joined runs = record {
  joined = joined;
  stands = let s = runs.stands in omega (arith, length-append part (x ∷ []), length-append done (x ∷ []));
  goes_on = λ more. rw (append_assoc part (x ∷ []) more, append_assoc done (x ∷ []) more) (runs.goes_on (x ∷ more));
}

-- the last run is closed before what it does not join
pub close_part :
    (kind : PageKind) (closed : List Run) (from : ℕ) (part more : List Item) → 1 ≤ length part →
    IsJoinedStretch (joins_run kind) part → goes_over (joins_run kind) part more ≡ false →
    (closed ++ run_at kind from part ∷ []) ++ runs_from kind (from + 2 * length part) (stretches (joins_run kind) more)
    ≡ closed ++ runs_from kind from (stretches (joins_run kind) (part ++ more))
unfolding runs_from
close_part kind closed from part more some joined ends =
    rw (first_cut (joins_run kind) part more some joined ends)
    (append_assoc closed (run_at kind from part ∷ []) (runs_from kind (from + 2 * length part)
    (stretches (joins_run kind) more)))

-- before an item that begins the next run
pub close_before :
    (kind : PageKind) (at : ℕ) (done : List Item) (closed : List Run) (from end : ℕ) (part : List Item) (x : Item) →
    1 ≤ length part → goes_over (joins_run kind) part (x ∷ []) ≡ false → end ≡ at + 2 * length done →
    AreRunsSoFar kind at done (record { closed = closed; from = from; part = part }) →
    AreRunsSoFar kind at (done ++ x ∷ [])
    (record { closed = closed ++ run_at kind from part ∷ []; from = end; part = x ∷ [] })
close_before kind at done closed from end part x some ends here runs =
    let s = runs.stands in
    let place : end ≡ from + 2 * length part = omega arith in
    record {
      joined = λ k h. absurd (omega arith);
      stands = omega (arith, length-append done (x ∷ []));
      goes_on = λ more.
          rw (place, append_assoc done (x ∷ []) more, close_part kind closed from part (x ∷ more) some runs.joined ends)
          (runs.goes_on (x ∷ more));
    }

-- behind its last item
pub close_behind :
    (kind : PageKind) (at : ℕ) (done : List Item) (closed : List Run) (from end : ℕ) (part : List Item) →
    1 ≤ length part → ((more : List Item) → goes_over (joins_run kind) part more ≡ false) →
    end ≡ at + 2 * length done →
    AreRunsSoFar kind at done (record { closed = closed; from = from; part = part }) →
    AreRunsSoFar kind at done (record { closed = closed ++ run_at kind from part ∷ []; from = end; part = [] })
close_behind kind at done closed from end part some ends here runs =
    let s = runs.stands in
    let place : end ≡ from + 2 * length part = omega arith in
    record {
      joined = λ k h. absurd (omega arith);
      stands = omega arith;
      goes_on = λ more. rw (place, close_part kind closed from part more some runs.joined (ends more)) (runs.goes_on
          more);
    }

-- all runs are closed at the end of a text
pub all_closed :
    (kind : PageKind) (at : ℕ) (done : List Item) (closed : List Run) (from : ℕ) (part : List Item) →
    length part ≡ 0 → AreRunsSoFar kind at done (record { closed = closed; from = from; part = part }) →
    closed ≡ text_runs kind at done
unfolding runs_from
all_closed kind at done closed from part none runs =
    let empty : part ≡ [] = nil_from_length part none in
    let whole = runs.goes_on [] in
    let nothing : stretches (joins_run kind) (part ++ []) ≡ [] = rw empty (stretches-nil (joins_run kind)) in
    sym (append-nil closed) ∙ (ap (λ parts. closed ++ runs_from kind from parts) (sym nothing)
    ∙ (whole ∙ ap (λ items. text_runs kind at items) (append-nil done)))

-- the last run is closed at the end of a text
pub last_closed :
    (kind : PageKind) (at : ℕ) (done : List Item) (closed : List Run) (from : ℕ) (part : List Item) → 1 ≤ length part →
    AreRunsSoFar kind at done (record { closed = closed; from = from; part = part }) →
    closed ++ run_at kind from part ∷ [] ≡ text_runs kind at done
unfolding runs_from
last_closed kind at done closed from part some runs =
    let none = joins_nothing (joins_run kind) (slice_get part (length part - 1)) in
    let cut = close_part kind closed from part [] some runs.joined none in
    let nothing = stretches-nil (joins_run kind) in
    sym (append-nil (closed ++ run_at kind from part ∷ []))
    ∙ (ap (λ parts. (closed ++ run_at kind from part ∷ []) ++ runs_from kind (from + 2 * length part) parts)
    (sym nothing)
    ∙ (cut ∙ (runs.goes_on [] ∙ ap (λ items. text_runs kind at items) (append-nil done))))
