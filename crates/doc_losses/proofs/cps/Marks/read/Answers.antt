use Rattle.doc_losses.proofs.ReferenceLemmas.{marks_of_file}
use Rattle.doc_losses.proofs.cps.Marks.read.Goals as goal

pub returns : goal.returns
returns c =
    marks_of_file c.args.fib.now c.args.table.now _ c.in_ok-comments.ensures c.in_ok-endnotes.ensures
    c.in_ok-boxes.ensures c.in_ok-head_boxes.ensures
