use Rattle.file_mends.proofs.PlaceLemmas.{emptied, stays}
use Rattle.file_mends.proofs.mended_file.mend_part.Goals as goal

pub returns-in_default : goal.returns-in_default
returns-in_default c =
    stays c.args.file.now c.bytes.result.now c.args.rule c.args.offset c.args.mended.now c.bytes.ensures c.requires
    (rw c.in_default.is at c.in_ok-found.ensures)

pub returns : goal.returns
returns c =
    emptied c.args.file.now c.bytes.result.now c.args.rule c.args.offset c.args.mended.now c.empty.new.self
    c.in-Some.place c.in_ok-mend.mend c.bytes.ensures (rw c.in-Some.is at c.in_ok-found.ensures)
    c.in_ok-mend.ensures.bytes
    c.in_ok-mend.ensures.list c.in_ok-mend.ensures.mend
