-- The limit of a page as it goes down, and which runs fit.
use Rattle.std.proofs.Common.{◌≡◌, ℕ, zero, suc, ◌+◌, ◌-◌, ◌*◌, ◌/◌, ◌<◌, ◌≤◌, ◌↔◌, Bool, true, false, List, [], ◌∷◌}
use Rattle.std.proofs.Common.{◌++◌, length, take, get_or, refl, sym, ap, ◌∙◌, subst, arith, length-append}
use Rattle.std.proofs.Common.{length-take}
use Rattle.std.proofs.Math.Nat.{mul-le-mul_left}
use Rattle.std.proofs.lemmas.List.{take_more}
use Rattle.std.specs.Prelude.{All, IsTrue}
use Rattle.std.proofs.lemmas.List.Elements.{All-head}
use Rattle.fkp_pages.specs.declared.kind.PageKind.{PageKind}
use Rattle.fkp_pages.specs.declared.kind.PageKind.TheVariants.{Chpx, Papx}
use Rattle.fkp_pages.specs.declared.lists.Run.{Run}
use Rattle.fkp_pages.specs.Fkp.{run_entry_size, most_runs}
use Rattle.fkp_pages.specs.Runs.{IsWritableRun}
use Rattle.fkp_pages.specs.Written.{run_bytes_written}
use Rattle.fkp_pages.specs.Packing.{FitsFromFront}
use Rattle.fkp_pages.specs.PageBytes.{lowered, limit_after, first_limit, entries_end, half_offset, FitsPage}
use Rattle.fkp_pages.proofs.WrittenLemmas.{most_written, most-written}

-- ---- one run

pub lowered-some : (limit : ℕ) (bytes : List ℕ) → 0 < length bytes → lowered limit bytes ≡ (limit - length bytes) / 2
    * 2
lowered-some limit [] h = absurd (omega arith)
lowered-some limit (byte ∷ bytes) h = refl

pub half_offset-none : (limit : ℕ) (bytes : List ℕ) → length bytes ≡ 0 → half_offset limit bytes ≡ 0
half_offset-none limit [] h = refl
half_offset-none limit (byte ∷ bytes) h = absurd (omega arith)

pub half_offset-some : (limit : ℕ) (bytes : List ℕ) → 0 < length bytes → half_offset limit bytes ≡ lowered limit bytes
    / 2
half_offset-some limit [] h = absurd (omega arith)
half_offset-some limit (byte ∷ bytes) h = refl

pub lowered_upto : (limit : ℕ) (bytes : List ℕ) → lowered limit bytes ≤ limit
lowered_upto limit [] = omega arith
lowered_upto limit (byte ∷ bytes) = omega arith

-- there is room for the bytes where the limit has not come down to 0
pub lowered_room : (limit : ℕ) (bytes : List ℕ) → 0 < lowered limit bytes → lowered limit bytes + length bytes ≤ limit
lowered_room limit [] h = omega arith
lowered_room limit (byte ∷ bytes) h = omega arith

-- at most one byte stays free
pub lowered_least : (limit : ℕ) (bytes : List ℕ) → limit ≤ lowered limit bytes + length bytes + 1
lowered_least limit [] = omega arith
lowered_least limit (byte ∷ bytes) = omega arith

-- ---- some runs

pub limit_after-none : (kind : PageKind) (limit : ℕ) → limit_after kind limit [] ≡ limit
unfolding limit_after
limit_after-none kind limit = refl

pub limit_after-one : (kind : PageKind) (limit : ℕ) (run : Run) → limit_after kind limit (run ∷ []) ≡ lowered limit
    (run_bytes_written kind run)
unfolding limit_after
limit_after-one kind limit run = refl

pub limit_after-append : (kind : PageKind) (limit : ℕ) (front more : List Run) → limit_after kind limit
    (front ++ more) ≡ limit_after kind (limit_after kind limit front) more
unfolding limit_after
limit_after-append kind limit [] more = refl
limit_after-append kind limit (run ∷ runs) more = limit_after-append kind (lowered limit (run_bytes_written kind run))
    runs more

pub limit_after_upto : (kind : PageKind) (limit : ℕ) (runs : List Run) → limit_after kind limit runs ≤ limit
unfolding limit_after
limit_after_upto kind limit [] = omega arith
limit_after_upto kind limit (run ∷ runs) =
    let one = lowered_upto limit (run_bytes_written kind run) in
    let others = limit_after_upto kind (lowered limit (run_bytes_written kind run)) runs in
    omega arith

-- more runs bring it no higher
pub limit_after_falls : (kind : PageKind) (limit : ℕ) (front more : List Run) → limit_after kind limit (front ++ more)
    ≤ limit_after kind limit front
limit_after_falls kind limit front more = rw (limit_after-append kind limit front more) (limit_after_upto kind
    (limit_after kind limit front) more)

-- one run more
pub limit_after-more : (kind : PageKind) (limit : ℕ) (runs : List Run) (i : ℕ) (run : Run) → i < length runs →
    limit_after kind limit (take (i + 1) runs) ≡ lowered (limit_after kind limit (take i runs)) (run_bytes_written kind
    (get_or runs i run))
limit_after-more kind limit runs i run h =
    ap (limit_after kind limit) (take_more runs i run h)
    ∙ (limit_after-append kind limit (take i runs) (get_or runs i run ∷ []) ∙ limit_after-one kind (limit_after kind
    limit (take i runs)) (get_or runs i run))

-- the same of a limit that is known
pub next_limit : (kind : PageKind) (runs : List Run) (i limit next : ℕ) (run : Run) → i < length runs →
    limit ≡ limit_after kind first_limit (take i runs) → run ≡ get_or runs i run → next ≡ lowered limit
    (run_bytes_written kind
    run) → next ≡ limit_after kind first_limit (take (i + 1) runs)
next_limit kind runs i limit next run within l r n =
    n ∙ (ap (λ m. lowered m (run_bytes_written kind run)) l
    ∙ (ap (λ x. lowered (limit_after kind first_limit (take i runs)) (run_bytes_written kind x)) r ∙ sym
    (limit_after-more kind
    first_limit runs i run within)))

pub entries_end_rises : (kind : PageKind) (few many : ℕ) → few ≤ many → entries_end kind few ≤ entries_end kind many
entries_end_rises kind few many h = let product : run_entry_size kind * few ≤ run_entry_size kind * many =
    mul-le-mul_left
    (run_entry_size kind) h in omega arith

-- where runs fit, the first ones of them do
pub fits_front : (kind : PageKind) → FitsFromFront (FitsPage kind)
fits_front kind front more h =
    let len = length-append front more in
    let up = entries_end_rises kind (length front) (length (front ++ more)) (omega arith) in
    let falls = limit_after_falls kind first_limit front more in
    let room = h.room in
    let few = h.few in
    record { room = omega arith; few = omega arith }

-- no runs fit
pub fits_none : (kind : PageKind) → FitsPage kind []
fits_none Chpx = record { room = rw (limit_after-none Chpx first_limit) (omega arith); few = omega arith }
fits_none Papx = record { room = rw (limit_after-none Papx first_limit) (omega arith); few = omega arith }

room_for_one : (kind : PageKind) (limit : ℕ) → 511 ≤ limit + most_written kind + 1 → (entries_end kind 1 ≤ limit) ×
    (1 ≤ most_runs kind)
room_for_one Chpx limit h = (omega arith, omega arith)
room_for_one Papx limit h = (omega arith, omega arith)

-- a run alone fits
pub fits_one : (kind : PageKind) (run : Run) → IsWritableRun kind run → FitsPage kind (run ∷ [])
fits_one kind run h =
    let most = most-written kind run h in
    let least = lowered_least first_limit (run_bytes_written kind run) in
    let one = room_for_one kind (lowered first_limit (run_bytes_written kind run)) (omega arith) in
    record { room = rw (limit_after-one kind first_limit run) one.0; few = one.1 }

-- what is tested of the first runs
pub fits_first : (kind : PageKind) (runs : List Run) (count limit : ℕ) → count ≤ length runs → limit ≡ limit_after
    kind first_limit (take count runs) → ((count ≤ most_runs kind) × (entries_end kind count ≤ limit)) →
    FitsPage kind (take count runs)
fits_first kind runs count limit within e h =
    let len : length (take count runs) ≡ count = omega (arith, length-take count runs) in
    let few = h.0 in
    let room : entries_end kind count ≤ limit_after kind first_limit (take count runs) = subst (λ n. entries_end kind
    count ≤ n) e h.1 in
    record {
      room = subst (λ n. entries_end kind n ≤ limit_after kind first_limit (take count runs)) (sym len) room;
      few = omega arith;
    }

pub fits_no_more : (kind : PageKind) (runs : List Run) (count limit : ℕ) → count ≤ length runs → limit ≡ limit_after
    kind first_limit (take count runs) → FitsPage kind (take count runs) → (count ≤ most_runs kind) × (entries_end
    kind count ≤ limit)
fits_no_more kind runs count limit within e h =
    let len : length (take count runs) ≡ count = omega (arith, length-take count runs) in
    let few = h.few in
    let room : entries_end kind count ≤ limit_after kind first_limit (take count runs) = subst (λ n. entries_end kind
    n ≤ limit_after kind first_limit (take count runs)) len h.room in
    (omega arith, subst (λ n. entries_end kind count ≤ n) (sym e) room)

-- the first run of a list fits
pub fits_first_run : (kind : PageKind) (runs : List Run) → All (IsWritableRun kind) runs → 0 < length runs →
    FitsPage kind (take 1 runs)
fits_first_run kind [] all some = absurd (omega arith)
fits_first_run kind (run ∷ runs) all some = fits_one kind run (All-head (IsWritableRun kind) run runs all)

-- what is refused by the test does not fit
pub refused_not_fits : (kind : PageKind) (runs : List Run) (count limit : ℕ) (test : Bool) → count ≤ length runs →
    limit ≡ limit_after kind first_limit (take count runs) → (IsTrue test ↔ ((count ≤ most_runs kind) × (entries_end
    kind count ≤ limit))) → test ≡ false → FitsPage kind (take count runs) → ⊥
refused_not_fits kind runs count limit test within e h failed fits = let yes : test ≡ true = h.1 (fits_no_more kind
    runs count limit within e fits) in absurd (cc)

-- so it has some runs before it
pub some_before : (kind : PageKind) (runs : List Run) (i limit : ℕ) (test : Bool) → All (IsWritableRun kind) runs →
    i < length runs → limit ≡ limit_after kind first_limit (take (i + 1) runs) →
    (IsTrue test ↔ ((i + 1 ≤ most_runs kind) × (entries_end kind (i + 1) ≤ limit))) → test ≡ false → 0 < i
some_before kind runs zero limit test all within e h failed = absurd (refused_not_fits kind runs 1 limit test
    (omega arith) e h failed (fits_first_run kind runs all (omega arith)))
some_before kind runs (suc i) limit test all within e h failed = omega arith
