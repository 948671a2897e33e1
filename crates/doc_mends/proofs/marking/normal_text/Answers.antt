use Rattle.doc_mends.proofs.NormalLemmas.{normal_kept, normal_made}
use Rattle.doc_mends.proofs.marking.normal_text.Goals as goal

pub change_attachments-requires-clause-kept : goal.change_attachments-requires-clause-kept
change_attachments-requires-clause-kept c = normal_kept c.args.sheet.now

pub returns : goal.returns
returns c =
    normal_made c.args.sheet.now c.len-len.result c.args.text c.in_ok-made.made c.len-len.ensures.len c.in_ok-made.ensures
