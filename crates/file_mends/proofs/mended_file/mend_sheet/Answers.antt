use Rattle.file_mends.proofs.PlaceLemmas.{sheet_renewed, sheet_stays}
use Rattle.file_mends.proofs.mended_file.mend_sheet.Goals as goal

pub returns-in_default : goal.returns-in_default
returns-in_default c =
    sheet_stays c.args.file.now c.bytes.result.now c.args.rule c.args.offset c.args.mended.now c.bytes.ensures
    c.requires (rw c.in_default.is at c.in_ok-found.ensures)

pub returns : goal.returns
returns c =
    sheet_renewed c.args.file.now c.bytes.result.now c.in-Some.made.copy.items c.args.rule c.args.offset
    c.args.mended.now c.renew.new.self c.in-Some.made.mend c.bytes.ensures
    (rw c.in-Some.is at c.in_ok-found.ensures) c.in_ok-renew.ensures
