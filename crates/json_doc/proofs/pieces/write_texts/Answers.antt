use Rattle.std.proofs.Common.{arith}
use Rattle.json_doc.specs.Pieces.{text_json}
use Rattle.json_doc.proofs.WrittenLemmas.{where_ok, next_placed, all_placed}
use Rattle.json_doc.proofs.pieces.write_texts.Goals as goal

pub loop-i-preserved : goal.loop-i-preserved
loop-i-preserved c =
    next_placed text_json c.args.texts.now c.loop-i.i c.get.result.now c.get.ensures c.loop-i.invariant
    c.in_ok-push_comma.ensures
    c.in_ok-write_text.ensures

pub returns : goal.returns
returns c =
    where_ok c.push-2.result (all_placed text_json c.args.texts.now c.loop-i.i (omega arith) c.loop-i.invariant)
    c.push-2.ensures.ok
