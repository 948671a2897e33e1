-- The parts of a page, one run more.
use Rattle.std.proofs.Common.{◌≡◌, ℕ, ◌+◌, ◌-◌, ◌<◌, ◌≤◌, List, [], ◌∷◌, ◌++◌, length, take, drop, get_or, refl, sym}
use Rattle.std.proofs.Common.{ap, ◌∙◌, subst, arith, append_assoc}
use Rattle.std.proofs.lemmas.List.{take_more, append-nil, take-append-le, drop-append-le, take-replicate}
use Rattle.std.proofs.lemmas.List.{drop-replicate, length-replicate, take-append-drop}
use Rattle.fkp_pages.specs.declared.kind.PageKind.{PageKind}
use Rattle.fkp_pages.specs.declared.lists.Run.{Run}
use Rattle.fkp_pages.specs.Fkp.{run_entry_size}
use Rattle.fkp_pages.specs.Written.{run_bytes_written}
use Rattle.fkp_pages.specs.PageBytes.{zeros, lowered, limit_after, first_limit, half_offset, FitsPage, page_entries}
use Rattle.fkp_pages.specs.PageBytes.{page_lists}
use Rattle.fkp_pages.proofs.LimitLemmas.{limit_after-more, limit_after_falls, lowered_room}

pub page_entries-none : (kind : PageKind) (limit : ℕ) → page_entries kind limit [] ≡ []
unfolding page_entries
page_entries-none kind limit = refl

pub page_entries-cons : (kind : PageKind) (limit : ℕ) (run : Run) (runs : List Run) → page_entries kind limit
    (run ∷ runs) ≡ (half_offset limit (run_bytes_written kind run) ∷ zeros (run_entry_size kind - 1)) ++ page_entries
    kind
    (lowered limit (run_bytes_written kind run)) runs
unfolding page_entries
page_entries-cons kind limit run runs = refl

pub page_entries-append : (kind : PageKind) (limit : ℕ) (front more : List Run) → page_entries kind limit
    (front ++ more) ≡ page_entries kind limit front ++ page_entries kind (limit_after kind limit front) more
unfolding page_entries limit_after
page_entries-append kind limit [] more = refl
page_entries-append kind limit (run ∷ runs) more =
    let one = half_offset limit (run_bytes_written kind run) ∷ zeros (run_entry_size kind - 1) in
    let below = lowered limit (run_bytes_written kind run) in
    ap (λ l. one ++ l) (page_entries-append kind below runs more)
    ∙ sym (append_assoc one (page_entries kind below runs) (page_entries kind (limit_after kind below runs) more))

pub page_lists-none : (kind : PageKind) (limit : ℕ) → page_lists kind limit [] ≡ []
unfolding page_lists
page_lists-none kind limit = refl

-- the bytes of one run, and the free byte behind them
abbrev pub padded : ℕ → List ℕ → List ℕ
padded limit bytes = bytes ++ zeros (limit - (lowered limit bytes + length bytes))

pub page_lists-cons : (kind : PageKind) (limit : ℕ) (run : Run) (runs : List Run) → page_lists kind limit (run ∷ runs)
    ≡ page_lists kind (lowered limit (run_bytes_written kind run)) runs ++ padded limit (run_bytes_written kind run)
unfolding page_lists
page_lists-cons kind limit run runs = refl

pub page_lists-append : (kind : PageKind) (limit : ℕ) (front more : List Run) → page_lists kind limit (front ++ more)
    ≡ page_lists kind (limit_after kind limit front) more ++ page_lists kind limit front
unfolding page_lists limit_after
page_lists-append kind limit [] more = sym (append-nil (page_lists kind limit more))
page_lists-append kind limit (run ∷ runs) more =
    let below = lowered limit (run_bytes_written kind run) in
    ap (λ l. l ++ padded limit (run_bytes_written kind run)) (page_lists-append kind below runs more)
    ∙ append_assoc (page_lists kind (limit_after kind below runs) more) (page_lists kind below runs) (padded limit
    (run_bytes_written kind run))

-- one entry more
pub page_entries-more : (kind : PageKind) (limit : ℕ) (runs : List Run) (i : ℕ) (run : Run) → i < length runs →
    page_entries kind limit (take (i + 1) runs) ≡ page_entries kind limit (take i runs) ++ (half_offset (limit_after
    kind limit (take i runs)) (run_bytes_written kind (get_or runs i run)) ∷ zeros (run_entry_size kind - 1))
page_entries-more kind limit runs i run h =
    let now = limit_after kind limit (take i runs) in
    let one = half_offset now (run_bytes_written kind (get_or runs i run)) ∷ zeros (run_entry_size kind - 1) in
    let last : page_entries kind now (get_or runs i run ∷ []) ≡ one =
    page_entries-cons kind now (get_or runs i run) [] ∙ (ap (λ l. one ++ l) (page_entries-none kind (lowered now
    (run_bytes_written kind (get_or runs i run)))) ∙ append-nil one) in
    ap (page_entries kind limit) (take_more runs i run h)
    ∙ (page_entries-append kind limit (take i runs) (get_or runs i run ∷ []) ∙ ap (λ l. page_entries kind limit
    (take i runs) ++ l) last)

-- one list more
pub page_lists-more : (kind : PageKind) (limit : ℕ) (runs : List Run) (i : ℕ) (run : Run) → i < length runs →
    page_lists kind limit (take (i + 1) runs) ≡ padded (limit_after kind limit (take i runs)) (run_bytes_written kind
    (get_or runs i run)) ++ page_lists kind limit (take i runs)
page_lists-more kind limit runs i run h =
    let now = limit_after kind limit (take i runs) in
    let bytes = run_bytes_written kind (get_or runs i run) in
    let last : page_lists kind now (get_or runs i run ∷ []) ≡ padded now bytes =
    page_lists-cons kind now (get_or runs i run) [] ∙ ap (λ l. l ++ padded now bytes) (page_lists-none kind
    (lowered now bytes)) in
    ap (page_lists kind limit) (take_more runs i run h)
    ∙ (page_lists-append kind limit (take i runs) (get_or runs i run ∷ []) ∙ ap (λ l. l ++ page_lists kind limit
    (take i runs)) last)

-- bytes put before others into an area of zeros
pub put_below : (limit offset : ℕ) (area bytes below : List ℕ) → offset + length bytes ≤ limit → area ≡ zeros limit ++
    below → take offset area ++ (bytes ++ drop (offset + length bytes) area) ≡ zeros offset ++
    ((bytes ++ zeros (limit - (offset + length bytes))) ++ below)
put_below limit offset area bytes below h e =
    let len : length (zeros limit) ≡ limit = length-replicate limit 0 in
    let end = offset + length bytes in
    let front : take offset (zeros limit ++ below) ≡ zeros offset =
    take-append-le offset (zeros limit) below (omega arith) ∙ take-replicate offset limit 0 (omega arith) in
    let rest : drop end (zeros limit ++ below) ≡ zeros (limit - end) ++ below =
    drop-append-le end (zeros limit) below (omega arith) ∙ ap (λ l. l ++ below) (drop-replicate end limit 0) in
    rw (e, front, rest) (ap (λ l. zeros offset ++ l) (sym (append_assoc bytes (zeros (limit - end)) below)))

-- there is room for a run of a page that fits
pub room_in_page : (kind : PageKind) (runs : List Run) (i : ℕ) (run : Run) → FitsPage kind runs → i < length runs →
    let limit = limit_after kind first_limit (take i runs) in lowered limit (run_bytes_written kind (get_or runs i run))
    +
    length (run_bytes_written kind (get_or runs i run)) ≤ limit
room_in_page kind runs i run fits h =
    let limit = limit_after kind first_limit (take i runs) in
    let bytes = run_bytes_written kind (get_or runs i run) in
    let whole : limit_after kind first_limit runs ≤ limit_after kind first_limit (take (i + 1) runs) =
    subst (λ l. limit_after kind first_limit l ≤ limit_after kind first_limit (take (i + 1) runs)) (take-append-drop
    (i + 1) runs) (limit_after_falls kind first_limit (take (i + 1) runs) (drop (i + 1) runs)) in
    let one = limit_after-more kind first_limit runs i run h in
    let room = fits.room in
    lowered_room limit bytes (omega arith)
