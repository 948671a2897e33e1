-- Runs whose pages are in a row: the table of the row, and the list of a run through it.
use Rattle.std.proofs.Common.{sym, ap, subst, ℕ, ◌-◌, ◌^◌, ◌<◌, ◌≤◌, List, All, length, drop, arith}
use Rattle.std.proofs.lemmas.Option.{get_or_from_slice_get}
use Rattle.doc_bits.proofs.Public.{All_at, there_is}
use Rattle.sprm_table.specs.Sprm.{IsAcceptedList}
use Rattle.fkp_pages.specs.declared.kind.PageKind.{PageKind}
use Rattle.fkp_pages.specs.declared.kind.PageKind.TheVariants.{Chpx, Papx}
use Rattle.fkp_pages.specs.declared.lists.Run.{Run}
use Rattle.fkp_pages.specs.Bin.{ArePrintableBins, IsBinPage, IsBinTableOf}
use Rattle.fkp_pages.specs.Fkp.{least_list}
use Rattle.fkp_pages.specs.Properties.{HasListAt}
use Rattle.fkp_pages.specs.Runs.{run_groups, run_list, IsWritableRun, HasRunNumbers}
use Rattle.fkp_pages.specs.PageBytes.{last_fc}
use Rattle.fkp_pages.specs.InARow.{row_placement}
use Rattle.fkp_pages.specs.Rows.{IsInRun, IsPageRow, row_bins, row_table}
use Rattle.fkp_pages.proofs.FoundLemmas.{lists_have_properties}
use Rattle.fkp_pages.proofs.FoundPages.{places_have_lists}
use Rattle.fkp_pages.proofs.OrderLemmas.{last_fc_is}
use Rattle.fkp_pages.proofs.PrintedBinLemmas.{printed_page, printed_table}
use Rattle.fkp_pages.proofs.RowLemmas.{length-numbered_bins, page_is, pages_stand_in_a_row, row_is_printable}

-- a run's list has no fault behind a paragraph's style number
pub run_list_accepted : (kind : PageKind) (run : Run) → IsWritableRun kind run → run.istd < 2 ^ 16 →
    IsAcceptedList (drop (least_list kind) (run_list kind run)) (run_groups kind)
run_list_accepted Chpx run writable small =
    (lists_have_properties Chpx run writable small).properties.accepted (run_groups Chpx)
run_list_accepted Papx run writable small =
    (lists_have_properties Papx run writable small).properties.accepted (run_groups Papx)

-- ---- a row

-- what a row's own table names is none of the first two pages
pub row_low : (kind : PageKind) (wd : List ℕ) (runs : List Run) (first fc number : ℕ) (row : IsPageRow kind wd runs
    first) →
    IsBinTableOf (row_bins row) (last_fc runs) (row_table row) → ArePrintableBins (row_bins row) (last_fc runs) →
    IsBinPage (row_table row) fc number → 2 ≤ number
row_low kind wd runs first fc number row table printable page =
    let bins = row_bins row in
    let below : page.entry < length bins = omega (arith, page.range.below, table.count) in
    let many = length-numbered_bins first row.pages.starts in
    let at = printed_page bins (last_fc runs) page.entry printable below in
    let number_is = page_is first row.pages.starts page.entry (omega (arith, below, many)) in
    let low = row.low in
    omega (arith, page.page, at, number_is, low)

last_small : (runs : List Run) → All HasRunNumbers runs → 0 < length runs → last_fc runs < 2 ^ 32
last_small runs numbers some =
    let found = there_is runs (length runs - 1) (omega (arith, some)) in
    let last = last_fc_is runs found.0 some in
    let is = get_or_from_slice_get runs (length runs - 1) found.0 found.0 found.1 in
    let small = (All_at HasRunNumbers runs (length runs - 1) found.0 numbers found.1).to in
    omega (arith, last, ap (λ (run : Run). run.to) is, small)

-- the table of a row
pub record IsRowTable (kind : PageKind) (wd : List ℕ) (runs : List Run) (first : ℕ) (row : IsPageRow kind wd runs first)
    :
    Type 0 where
  pub printable : ArePrintableBins (row_bins row) (last_fc runs)
  pub small : last_fc runs < 2 ^ 32
  pub table : IsBinTableOf (row_bins row) (last_fc runs) (row_table row)

pub table_of_row : (kind : PageKind) (wd : List ℕ) (runs : List Run) (first : ℕ) (row : IsPageRow kind wd runs first) →
    IsRowTable kind wd runs first row
table_of_row kind wd runs first row =
    let printable = row_is_printable kind runs row.pages first row.right row.pages_are row.some row.high in
    let small = last_small runs row.numbers row.some in
    record { printable = printable; small = small; table = printed_table (row_bins row) (last_fc runs) printable small }

-- the list of a run, through the table of its row alone
pub row_list : (kind : PageKind) (wd : List ℕ) (runs : List Run) (first fc : ℕ) (run : Run)
    (row : IsPageRow kind wd runs first) →
    IsInRun runs fc run → HasListAt kind (row_table row) wd fc (run_list kind run)
row_list kind wd runs first fc run row in_run =
    let placement = row_placement runs row.pages first row.before row.behind in
    let placed =
    pages_stand_in_a_row kind runs row.pages first row.before row.behind row.right row.pages_are row.begins in
    subst (λ stream. HasListAt kind (row_table row) stream fc (run_list kind run)) (sym row.there)
    (places_have_lists kind runs row.pages placement (row_table row) in_run.number run fc row.right
    row.numbers row.pages_are
    placed (table_of_row kind wd runs first row).table in_run.there in_run.from in_run.to)

-- a run of a row can be written
pub row_run : (kind : PageKind) (wd : List ℕ) (runs : List Run) (first fc : ℕ) (run : Run) → IsPageRow kind wd runs
    first →
    IsInRun runs fc run → IsWritableRun kind run × HasRunNumbers run
row_run kind wd runs first fc run row in_run = (
  All_at (IsWritableRun kind) runs in_run.number run row.right.writable in_run.there,
  All_at HasRunNumbers runs in_run.number run row.numbers in_run.there,
)
