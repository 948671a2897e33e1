-- Where the parts of a page are.
use Rattle.std.proofs.Common.{◌≡◌, ℕ, suc, ◌+◌, ◌-◌, ◌*◌, ◌<◌, List, [], ◌∷◌, ◌++◌, length, refl, ap, ◌∙◌, arith}
use Rattle.std.proofs.Common.{append_assoc, length-append}
use Rattle.std.specs.Prelude.{slice_index}
use Rattle.std.specs.List.{flat_map}
use Rattle.std.proofs.lemmas.List.{length-replicate, get_or_at}
use Rattle.doc_bits.specs.Number.{number_bytes}
use Rattle.doc_bits.proofs.Public.{length-number_bytes}
use Rattle.fkp_pages.specs.declared.kind.PageKind.{PageKind}
use Rattle.fkp_pages.specs.declared.kind.PageKind.TheVariants.{Chpx, Papx}
use Rattle.fkp_pages.specs.declared.lists.Run.{Run}
use Rattle.fkp_pages.specs.Fkp.{run_entry_size, page_run_count}
use Rattle.fkp_pages.specs.Written.{run_bytes_written}
use Rattle.fkp_pages.specs.PageBytes.{zeros, lowered, limit_after, first_limit, entries_end, half_offset, FitsPage}
use Rattle.fkp_pages.specs.PageBytes.{last_fc, page_fcs, page_entries, page_lists, page_bytes}
use Rattle.fkp_pages.proofs.LimitLemmas.{limit_after-none, limit_after-append, limit_after_upto, lowered_room}
use Rattle.fkp_pages.proofs.PageLemmas.{padded, page_entries-none, page_entries-cons, page_entries-append}
use Rattle.fkp_pages.proofs.PageLemmas.{page_lists-none, page_lists-cons, page_lists-append}

-- ---- lengths

pub length-zeros : (n : ℕ) → length (zeros n) ≡ n
length-zeros n = length-replicate n 0

pub length-starts : (runs : List Run) → length (flat_map (λ run. number_bytes 4 run.from) runs) ≡ 4 * length runs
length-starts [] = refl
length-starts (run ∷ runs) =
    let four = length-number_bytes 4 run.from in
    let ih = length-starts runs in
    omega (arith, length-append (number_bytes 4 run.from) (flat_map (λ run. number_bytes 4 run.from) runs))

pub length-page_fcs : (runs : List Run) → length (page_fcs runs) ≡ 4 * (length runs + 1)
length-page_fcs runs =
    let four = length-number_bytes 4 (last_fc runs) in
    let starts = length-starts runs in
    omega (arith, length-append (flat_map (λ run. number_bytes 4 run.from) runs) (number_bytes 4 (last_fc runs)))

entry_len : (kind : PageKind) (count : ℕ) → 1 + (run_entry_size kind - 1) + run_entry_size kind * count ≡ run_entry_size
    kind *
    suc count
entry_len Chpx count = omega arith
entry_len Papx count = omega arith

pub length-page_entries : (kind : PageKind) (limit : ℕ) (runs : List Run) → length (page_entries kind limit runs) ≡
    run_entry_size kind * length runs
length-page_entries kind limit [] = ap length (page_entries-none kind limit) ∙ omega arith
length-page_entries kind limit (run ∷ runs) =
    let rest = page_entries kind (lowered limit (run_bytes_written kind run)) runs in
    let one = half_offset limit (run_bytes_written kind run) ∷ zeros (run_entry_size kind - 1) in
    let ih : length rest ≡ run_entry_size kind * length runs = length-page_entries kind (lowered limit
    (run_bytes_written kind run))
    runs in
    let len = length-zeros (run_entry_size kind - 1) in
    let sum : length (one ++ rest) ≡ 1 + (run_entry_size kind - 1) + run_entry_size kind * length runs = omega (
      arith,
      length-append one rest,
    ) in
    ap length (page_entries-cons kind limit run runs) ∙ (sum ∙ entry_len kind (length runs))

pub limit_after-cons : (kind : PageKind) (limit : ℕ) (run : Run) (runs : List Run) → limit_after kind limit
    (run ∷ runs) ≡ limit_after kind (lowered limit (run_bytes_written kind run)) runs
unfolding limit_after
limit_after-cons kind limit run runs = refl

-- the lists reach from the limit after them to the limit before them
pub length-page_lists : (kind : PageKind) (limit : ℕ) (runs : List Run) → 0 < limit_after kind limit runs →
    limit_after kind limit runs + length (page_lists kind limit runs) ≡ limit
length-page_lists kind limit [] h = rw (limit_after-none kind limit, page_lists-none kind limit) (omega arith)
length-page_lists kind limit (run ∷ runs) h =
    let bytes = run_bytes_written kind run in
    let offset = lowered limit bytes in
    let same = limit_after-cons kind limit run runs in
    let more : 0 < limit_after kind offset runs = omega arith in
    let ih = length-page_lists kind offset runs more in
    let upto = limit_after_upto kind offset runs in
    let room = lowered_room limit bytes (omega arith) in
    let pad = length-zeros (limit - (offset + length bytes)) in
    let one : length (padded limit bytes) ≡ length bytes + (limit - (offset + length bytes)) = length-append bytes
    (zeros (limit - (offset + length bytes))) ∙ ap (λ n. length bytes + n) pad in
    let all : length (page_lists kind limit (run ∷ runs)) ≡ length (page_lists kind offset runs) + length
    (padded limit bytes) =
    ap length (page_lists-cons kind limit run runs) ∙ length-append (page_lists kind offset runs) (padded limit bytes)
    in
    omega arith

-- ---- the whole page

-- the bytes between the entries and the lists
abbrev pub free_bytes : PageKind → List Run → ℕ
free_bytes kind runs = limit_after kind first_limit runs - entries_end kind (length runs)

-- the page before its count
abbrev pub before_count : PageKind → List Run → List ℕ
before_count kind runs = page_fcs runs ++ (page_entries kind first_limit runs ++ (zeros (free_bytes kind runs) ++
    page_lists kind first_limit runs))

pub length-before_count : (kind : PageKind) (runs : List Run) → FitsPage kind runs → length (before_count kind runs) ≡
    511
length-before_count kind runs fits =
    let room = fits.room in
    let fcs = length-page_fcs runs in
    let entries = length-page_entries kind first_limit runs in
    let free = length-zeros (free_bytes kind runs) in
    let lists = length-page_lists kind first_limit runs (omega arith) in
    let a = length-append (zeros (free_bytes kind runs)) (page_lists kind first_limit runs) in
    let b = length-append (page_entries kind first_limit runs) (zeros (free_bytes kind runs) ++ page_lists kind
    first_limit runs) in
    let c = length-append (page_fcs runs) (page_entries kind first_limit runs ++ (zeros (free_bytes kind runs) ++
    page_lists kind first_limit runs)) in
    omega arith

pub page_is : (kind : PageKind) (runs : List Run) → page_bytes kind runs ≡ before_count kind runs ++ length runs ∷ []
page_is kind runs = simp append_assoc

-- a page has 512 bytes
pub length-page : (kind : PageKind) (runs : List Run) → FitsPage kind runs → length (page_bytes kind runs) ≡ 512
length-page kind runs fits = ap length (page_is kind runs) ∙ (length-append (before_count kind runs) (length runs ∷
    []) ∙ ap (λ n. n + 1) (length-before_count kind runs fits))

-- the last one is the number of runs
pub page_count-page : (kind : PageKind) (runs : List Run) → FitsPage kind runs → page_run_count (page_bytes kind runs) ≡
    length runs
page_count-page kind runs fits =
    ap (λ page. slice_index page 511) (page_is kind runs) ∙ get_or_at (before_count kind runs) (length runs) [] 0 511
    (length-before_count kind runs fits)

-- ---- one run of it

-- the entry of a run
pub entry-page : (kind : PageKind) (front back : List Run) (run : Run) → let runs = front ++ run ∷ back in
    slice_index (page_bytes kind runs) (4 * (length runs + 1) + run_entry_size kind * length front) ≡ half_offset
    (limit_after kind first_limit front) (run_bytes_written kind run)
entry-page kind front back run =
    let runs = front ++ run ∷ back in
    let now = limit_after kind first_limit front in
    let byte = half_offset now (run_bytes_written kind run) in
    let others = page_entries kind (lowered now (run_bytes_written kind run)) back in
    let behind = zeros (free_bytes kind runs) ++ (page_lists kind first_limit runs ++ length runs ∷ []) in
    let entries : page_entries kind first_limit runs ≡ page_entries kind first_limit front ++
    ((byte ∷ zeros (run_entry_size kind - 1)) ++ others) =
    page_entries-append kind first_limit front (run ∷ back) ∙ ap (λ l. page_entries kind first_limit front ++ l)
    (page_entries-cons kind now run back) in
    let split : page_bytes kind runs ≡ (page_fcs runs ++ page_entries kind first_limit front) ++ byte ∷
    (zeros (run_entry_size kind - 1) ++ (others ++ behind)) =
    ap (λ l. page_fcs runs ++ (l ++ behind)) entries ∙ simp append_assoc in
    let fcs = length-page_fcs runs in
    let before = length-page_entries kind first_limit front in
    let place : length (page_fcs runs ++ page_entries kind first_limit front) ≡ 4 * (length runs + 1) + run_entry_size
    kind * length front =
    omega (arith, length-append (page_fcs runs) (page_entries kind first_limit front)) in
    ap (λ page. slice_index page (4 * (length runs + 1) + run_entry_size kind * length front)) split
    ∙ get_or_at (page_fcs runs ++ page_entries kind first_limit front) byte (zeros (run_entry_size kind - 1) ++
    (others ++ behind)) 0 (4 * (length runs + 1) + run_entry_size kind * length front) place

-- the bytes before and behind a part of a page
pub record HasPart (page bytes : List ℕ) (at : ℕ) : Type 0 where
  pub before : List ℕ
  pub behind : List ℕ
  pub joined : page ≡ before ++ (bytes ++ behind)
  pub place : length before ≡ at

-- what is written for a run
pub list-page : (kind : PageKind) (front back : List Run) (run : Run) → FitsPage kind (front ++ run ∷ back) →
    HasPart (page_bytes kind (front ++ run ∷ back)) (run_bytes_written kind run) (lowered (limit_after kind first_limit
    front)
    (run_bytes_written kind run))
list-page kind front back run fits =
    let runs = front ++ run ∷ back in
    let now = limit_after kind first_limit front in
    let bytes = run_bytes_written kind run in
    let offset = lowered now bytes in
    let pad = zeros (now - (offset + length bytes)) in
    let lower = page_lists kind offset back in
    let earlier = page_lists kind first_limit front in
    let lists : page_lists kind first_limit runs ≡ (lower ++ (bytes ++ pad)) ++ earlier =
    page_lists-append kind first_limit front (run ∷ back) ∙ ap (λ l. l ++ earlier) (page_lists-cons kind now run back)
    in
    let ahead = page_fcs runs ++ (page_entries kind first_limit runs ++ (zeros (free_bytes kind runs) ++ lower)) in
    let least : limit_after kind first_limit runs ≡ limit_after kind offset back =
    limit_after-append kind first_limit front (run ∷ back) ∙ limit_after-cons kind now run back in
    let room = fits.room in
    let fcs = length-page_fcs runs in
    let entries = length-page_entries kind first_limit runs in
    let free = length-zeros (free_bytes kind runs) in
    let below = length-page_lists kind offset back (omega arith) in
    let a = length-append (zeros (free_bytes kind runs)) lower in
    let b = length-append (page_entries kind first_limit runs) (zeros (free_bytes kind runs) ++ lower) in
    let c = length-append (page_fcs runs) (page_entries kind first_limit runs ++ (zeros (free_bytes kind runs) ++
    lower)) in
    record {
      before = ahead;
      behind = pad ++ (earlier ++ length runs ∷ []);
      joined =
          ap (λ l. page_fcs runs ++ (page_entries kind first_limit runs ++ (zeros (free_bytes kind runs) ++
          (l ++ length runs ∷ [])))) lists
          ∙ simp append_assoc;
      place = omega arith;
    }
