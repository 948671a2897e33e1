use Rattle.std.proofs.Common.{get_or, arith}
use Rattle.std.proofs.lemmas.Option.{slice_get-get_or}
use Rattle.json_values.specs.Rows.{number_json}
use Rattle.json_doc.proofs.WrittenLemmas.{where_ok, next_placed, all_placed}
use Rattle.json_doc.proofs.styles.write_numbers.Goals as goal

pub loop-i-preserved : goal.loop-i-preserved
loop-i-preserved c =
    next_placed number_json c.args.numbers.now c.loop-i.i (get_or c.args.numbers.now c.loop-i.i 0)
    (slice_get-get_or c.args.numbers.now c.loop-i.i 0 c.loop-i-test.true) c.loop-i.invariant
    c.in_ok-push_comma.ensures c.in_ok-write_short.ensures

pub returns : goal.returns
returns c =
    where_ok c.push-2.result (all_placed number_json c.args.numbers.now c.loop-i.i (omega arith) c.loop-i.invariant)
    c.push-2.ensures.ok
