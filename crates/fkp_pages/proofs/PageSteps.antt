-- A page as it is written, run by run.
use Rattle.std.proofs.Common.{◌≡◌, ℕ, ◌+◌, ◌-◌, ◌/◌, ◌<◌, ◌≤◌, ◌==◌, Bool, false, List, [], ◌∷◌, ◌++◌, length, take}
use Rattle.std.proofs.Common.{drop, get_or, refl, sym, ap, ◌∙◌, arith, append_assoc, length-append}
use Rattle.std.specs.Prelude.{if◌then◌else◌}
use Rattle.std.proofs.lemmas.List.{append-nil, take_all, drop-append-le, drop-replicate, length-replicate}
use Rattle.std.proofs.lemmas.Bool.{ne_eqb}
use Rattle.fkp_pages.specs.declared.kind.PageKind.{PageKind}
use Rattle.fkp_pages.specs.declared.lists.Run.{Run}
use Rattle.fkp_pages.specs.Fkp.{run_entry_size}
use Rattle.fkp_pages.specs.Written.{run_bytes_written}
use Rattle.fkp_pages.specs.PageBytes.{zeros, lowered, limit_after, first_limit, entries_end, half_offset, FitsPage}
use Rattle.fkp_pages.specs.PageBytes.{page_fcs, page_entries, page_lists, page_bytes}
use Rattle.fkp_pages.proofs.LimitLemmas.{limit_after-none, limit_after-more}
use Rattle.fkp_pages.proofs.PageLemmas.{padded, page_entries-none, page_entries-more, page_lists-none}
use Rattle.fkp_pages.proofs.PageLemmas.{page_lists-more, put_below, room_in_page}

-- the state of a page with the first runs on it: the limit, the bytes after those that stood before, and the area of
-- the lists
pub record HasFirstRuns (kind : PageKind) (runs : List Run) (i : ℕ) (before bytes area : List ℕ) (limit : ℕ) : Type 0
  where
    pub limit_is : limit ≡ limit_after kind first_limit (take i runs)
    pub entries : bytes ≡ before ++ page_entries kind first_limit (take i runs)
    pub lists : area ≡ zeros limit ++ page_lists kind first_limit (take i runs)

pub no_runs_yet : (kind : PageKind) (runs : List Run) (before area : List ℕ) → area ≡ zeros 511 → HasFirstRuns kind
    runs 0 before before area 511
no_runs_yet kind runs before area e = record {
  limit_is = sym (limit_after-none kind first_limit);
  entries = sym (ap (λ l. before ++ l) (page_entries-none kind first_limit) ∙ append-nil before);
  lists = e ∙ sym (ap (λ l. zeros 511 ++ l) (page_lists-none kind first_limit) ∙ append-nil (zeros 511));
}

-- what an entry says
pub half_is : (limit offset : ℕ) (list : List ℕ) (bare : Bool) → bare ≡ (length list == 0) → offset ≡ lowered limit
    list → (if bare then 0 else offset / 2) ≡ half_offset limit list
half_is limit offset [] bare b o = rw b refl
half_is limit offset (byte ∷ bytes) bare b o = let some : bare ≡ false = b ∙ ne_eqb (length (byte ∷ bytes)) 0
    (omega arith) in rw some (ap (λ n. n / 2) o)

-- there is room for the next list
pub next_room : (kind : PageKind) (runs : List Run) (i : ℕ) (before bytes area : List ℕ) (limit offset : ℕ)
    (run : Run) (list : List ℕ) → HasFirstRuns kind runs i before bytes area limit → FitsPage kind runs →
    i < length runs → run ≡ get_or runs i run → list ≡ run_bytes_written kind run → offset ≡ lowered limit list →
    offset + length list ≤ limit
next_room kind runs i before bytes area limit offset run list h fits within r w o =
    let room = room_in_page kind runs i run fits within in
    let same : list ≡ run_bytes_written kind (get_or runs i run) = w ∙ ap (run_bytes_written kind) r in
    rw (o, same, h.limit_is) room

-- the area is as long as it was
pub area_len : (kind : PageKind) (runs : List Run) (i : ℕ) (before bytes area : List ℕ) (limit : ℕ) →
    HasFirstRuns kind runs i before bytes area limit → limit ≤ length area
area_len kind runs i before bytes area limit h =
    let len : length (zeros limit) ≡ limit = length-replicate limit 0 in
    let whole = ap length h.lists in
    omega (arith, length-append (zeros limit) (page_lists kind first_limit (take i runs)))

-- one run more
pub next_run : (kind : PageKind) (runs : List Run) (i : ℕ) (before bytes area : List ℕ) (limit offset : ℕ) (run : Run)
    (list entry area2 : List ℕ) → HasFirstRuns kind runs i before bytes area limit → FitsPage kind runs →
    i < length runs → run ≡ get_or runs i run → list ≡ run_bytes_written kind run → offset ≡ lowered limit list →
    entry ≡ half_offset limit list ∷ zeros (run_entry_size kind - 1) → area2 ≡ take offset area ++ (list ++ drop
    (offset + length list) area) → HasFirstRuns kind runs (i + 1) before (bytes ++ entry) area2 offset
next_run kind runs i before bytes area limit offset run list entry area2 h fits within r w o e a =
    let now = limit_after kind first_limit (take i runs) in
    let own = run_bytes_written kind (get_or runs i run) in
    let same : list ≡ own = w ∙ ap (run_bytes_written kind) r in
    let room = next_room kind runs i before bytes area limit offset run list h fits within r w o in
    let half : half_offset limit list ≡ half_offset now own = ap (λ n. half_offset n list) h.limit_is ∙ ap
    (half_offset now) same in
    let low : offset ≡ lowered now own = o ∙ (ap (λ n. lowered n list) h.limit_is ∙ ap (lowered now) same) in
    let pad : list ++ zeros (limit - (offset + length list)) ≡ padded now own = rw (same, low, h.limit_is) refl in
    record {
      limit_is = low ∙ sym (limit_after-more kind first_limit runs i run within);
      entries =
          ap (λ l. l ++ entry) h.entries
          ∙ (append_assoc before (page_entries kind first_limit (take i runs)) entry
          ∙ ap (λ l. before ++ l)
          (ap (λ l. page_entries kind first_limit (take i runs) ++ l) (e ∙ ap (λ n. n ∷ zeros (run_entry_size kind - 1))
          half)
          ∙ sym (page_entries-more kind first_limit runs i run within)));
      lists =
          a ∙ (put_below limit offset area list (page_lists kind first_limit (take i runs)) room h.lists
          ∙ ap (λ l. zeros offset ++ l)
          (ap (λ l. l ++ page_lists kind first_limit (take i runs)) pad ∙ sym (page_lists-more kind first_limit runs i
          run within)));
    }

-- the whole page
pub page_done : (kind : PageKind) (runs : List Run) (i : ℕ) (before old bytes area : List ℕ) (limit end : ℕ) →
    HasFirstRuns kind runs i before bytes area limit → FitsPage kind runs → length runs ≤ i → end ≡ entries_end kind
    (length runs) → before ≡ old ++ page_fcs runs → (bytes ++ drop end area) ++ length runs ∷ [] ≡ old ++ page_bytes
    kind runs
page_done kind runs i before old bytes area limit end h fits past e b =
    let all : take i runs ≡ runs = take_all i runs past in
    let entries = page_entries kind first_limit runs in
    let lists = page_lists kind first_limit runs in
    let least = limit_after kind first_limit runs in
    let limit_is : limit ≡ least = h.limit_is ∙ ap (limit_after kind first_limit) all in
    let len : length (zeros least) ≡ least = length-replicate least 0 in
    let room = fits.room in
    let area_is : area ≡ zeros least ++ lists = h.lists ∙ (ap (λ n. zeros n ++ page_lists kind first_limit
    (take i runs)) limit_is ∙ ap (λ l. zeros least ++ page_lists kind first_limit l) all) in
    let free = zeros (least - entries_end kind (length runs)) in
    let cut : drop end area ≡ free ++ lists =
    rw (area_is, e) (drop-append-le (entries_end kind (length runs)) (zeros least) lists (omega arith) ∙ ap
    (λ l. l ++ lists) (drop-replicate (entries_end kind (length runs)) least 0)) in
    let bytes_is : bytes ≡ (old ++ page_fcs runs) ++ entries = h.entries ∙ (ap (λ l. l ++ page_entries kind
    first_limit (take i runs)) b ∙ ap (λ l. (old ++ page_fcs runs) ++ page_entries kind first_limit l) all) in
    rw (bytes_is, cut) (simp append_assoc)
