-- Pages in a row give each place of a run a right list, also through a table that names other pages too.
use Rattle.std.specs.Prelude.{slice_range}
use Rattle.std.proofs.Common.{◌≡◌, ◌∙◌, ap, subst, ℕ, ◌+◌, ◌≤◌, List, drop, arith}
use Rattle.doc_bits.proofs.Public.{All_at}
use Rattle.sprm_table.specs.Sprm.{IsAcceptedList}
use Rattle.sprm_table.proofs.Public.{accepted_no_fault}
use Rattle.fkp_pages.specs.declared.kind.PageKind.{PageKind}
use Rattle.fkp_pages.specs.declared.kind.RunAnswer.{RunAnswer}
use Rattle.fkp_pages.specs.declared.kind.RunAnswer.TheVariants.{Found, Empty, NoRun, BadCount, Leaves}
use Rattle.fkp_pages.specs.declared.lists.Run.{Run}
use Rattle.fkp_pages.specs.Bin.{page_at}
use Rattle.fkp_pages.specs.Fkp.{HasRunAnswer, least_list}
use Rattle.fkp_pages.specs.Properties.{IsListAnswered}
use Rattle.fkp_pages.specs.Runs.{run_groups, run_list, IsWritableRun, HasRunNumbers}
use Rattle.fkp_pages.specs.Rows.{IsInRun, IsPageRow, NamesRow}
use Rattle.fkp_pages.proofs.Public.{run_list_accepted, row_low, table_of_row, row_list}
use Rattle.direct_props.proofs.Public.{cut_rest}
use Rattle.direct_props.specs.Stretches.{HasValidList}
use Rattle.direct_props.specs.RightLists.{HasValidListAt}

-- an answered list without a fault is a right one
right_answer : (kind : PageKind) (page : List ℕ) (fc : ℕ) (answer : RunAnswer) (list : List ℕ) →
    HasRunAnswer kind page fc answer → IsListAnswered kind page answer list →
    IsAcceptedList (drop (least_list kind) list) (run_groups kind) → HasValidList kind page answer
right_answer kind page fc (Found from to) list answers answered accepted =
    let is = answers.1.answers in
    let room : from + least_list kind ≤ to = omega (arith, is.within.room, is.starts, is.ends) in
    let sprms : drop (least_list kind) list ≡ slice_range page (from + least_list kind) to =
    ap (drop (least_list kind)) answered ∙ cut_rest page from to (least_list kind) room in
    record {
      room = room;
      within = omega (arith, is.within.within, is.ends);
      sprms = λ place fault.
          accepted_no_fault (slice_range page (from + least_list kind) to) (run_groups kind) place
          (subst (λ bytes. IsAcceptedList bytes (run_groups kind)) sprms accepted) fault;
    }
right_answer kind page fc Empty list answers answered accepted = tt
right_answer kind page fc NoRun list answers answered accepted = absurd answered
right_answer kind page fc BadCount list answers answered accepted = absurd answered
right_answer kind page fc (Leaves entry) list answers answered accepted = absurd answered

-- the list of a run, through a table that names the pages of the row
pub row_gives : (kind : PageKind) (wd table : List ℕ) (runs : List Run) (first fc : ℕ) (run : Run)
    (row : IsPageRow kind wd runs first) → NamesRow row table → IsInRun runs fc run →
    HasValidListAt kind wd table fc (run_list kind run)
row_gives kind wd table runs first fc run row names in_run =
    let own = table_of_row kind wd runs first row in
    let has = row_list kind wd runs first fc run row in_run in
    let writable = All_at (IsWritableRun kind) runs in_run.number run row.right.writable in_run.there in
    let numbers = All_at HasRunNumbers runs in_run.number run row.numbers in_run.there in
    record {
      number = has.number;
      named = names fc has.number has.named;
      low = row_low kind wd runs first fc has.number row own.table own.printable has.named;
      within = has.within;
      answer = has.answer;
      answers = has.answers;
      right =
          right_answer kind (page_at wd has.number) fc has.answer (run_list kind run) has.answers has.answered
          (run_list_accepted kind run writable numbers.istd);
      answered = has.answered;
    }
