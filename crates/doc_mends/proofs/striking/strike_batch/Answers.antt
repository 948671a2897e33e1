use Rattle.doc_mends.proofs.BatchLemmas.{batch_put}
use Rattle.doc_mends.proofs.striking.strike_batch.Goals as goal

pub returns : goal.returns
returns c =
    batch_put c.args.batch.now.story c.args.batch.now.ranges.now c.args.document.now c.put_text.new.document
    c.in_ok-made.made c.requires.ascend c.requires.there c.in_ok-made.ensures c.put_text.ensures
