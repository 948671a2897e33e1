use Rattle.std.proofs.Common.{None, get_or, arith}
use Rattle.std.proofs.lemmas.Option.{slice_get-get_or}
use Rattle.json_doc.specs.Styles.{slot_json}
use Rattle.json_doc.proofs.WrittenLemmas.{where_ok, next_placed, all_placed}
use Rattle.json_doc.proofs.styles.write_slots.Goals as goal

pub loop-i-preserved : goal.loop-i-preserved
loop-i-preserved c =
    next_placed slot_json c.args.sheet.now.styles c.loop-i.i (get_or c.args.sheet.now.styles c.loop-i.i None)
    (slice_get-get_or c.args.sheet.now.styles c.loop-i.i None (omega (
      arith,
      c.loop-i-test.true,
      c.slots-i-end.ensures.count,
    ))) c.loop-i.invariant c.in_ok-push_comma.ensures c.in_ok-write_slot.ensures

pub returns : goal.returns
returns c =
    where_ok c.push-2.result (all_placed slot_json c.args.sheet.now.styles c.loop-i.i (omega (
      arith,
      c.slots-i-end.ensures.count,
    )) c.loop-i.invariant) c.push-2.ensures.ok
