-- The mark is found beside the last item of the paragraph.
use Rattle.std.proofs.Common.{◌≡◌, ◌-◌, length, arith}
use Rattle.run_lists.specs.Spread.{expanded, total_len}
use Rattle.doc_columns.specs.Attached.{attached_of}
use Rattle.doc_columns.proofs.Public.{start_at, column_long, end_attached}
use Rattle.doc_show.proofs.ParagraphLemmas.{mark_from}
use Rattle.doc_show.proofs.properties.mark_from.Goals as goal

pub paragraph_end-end-requires-clause-long : goal.paragraph_end-end-requires-clause-long
paragraph_end-end-requires-clause-long c =
    column_long c.attachments-attachments.result.now c.args.columns.now attached_of c.len-len.result
    c.attachments-attachments.ensures
    c.len-len.ensures.len

pub paragraph_end-end-requires-clause-at : goal.paragraph_end-end-requires-clause-at
paragraph_end-end-requires-clause-at c = start_at c.attachments-attachments.result.now c.new-marks.result
    c.new-marks.ensures

pub seek-last-requires-clause-within : goal.seek-last-requires-clause-within
seek-last-requires-clause-within c =
    let long : total_len c.attachments-attachments.result.now ≡ c.len-len.result =
    column_long c.attachments-attachments.result.now c.args.columns.now attached_of c.len-len.result
    c.attachments-attachments.ensures
    c.len-len.ensures.len in
    omega (arith, long, c.paragraph_end-end.ensures.some, c.paragraph_end-end.ensures.within)

pub returns : goal.returns
returns c =
    let found = c.paragraph_end-end.ensures in
    let long : c.len-len.result ≡ length c.args.columns.now = c.len-len.ensures.len in
    mark_from c.args.columns.now c.args.pos (c.paragraph_end-end.result - 1) c.as_ref.result
    (end_attached c.args.columns.now (expanded c.attachments-attachments.result.now) c.args.pos
    c.paragraph_end-end.result
    c.seek-last.result.now c.as_ref.result c.attachments-attachments.ensures found.some
    (omega (arith, found.within, long)) found.inside (λ more. found.ends (omega (arith, more, long)))
    c.seek-last.ensures.value c.as_ref.ensures.value)
