use Rattle.document_commands.proofs.SummaryLemmas.{changed_seen}
use Rattle.document_commands.proofs.retitle.with_summary.Goals as goal

pub returns : goal.returns
returns c =
    changed_seen _ c.args.document c.args.bytes.now c.summary_place-place.result c.in_ok-carried.carried
    c.document.view_is c.summary_place-place.ensures c.in_ok-carried.ensures c.requires.room
