use Rattle.json_doc.proofs.JudgedLemmas.{judged_told}
use Rattle.json_doc.proofs.reading.check_read.Goals as goal

pub returns : goal.returns
returns c =
    judged_told c.args.document c.verdict_on-verdict.result c.keep_if_ok.result c.verdict_on-verdict.ensures
    c.keep_if_ok.ensures
