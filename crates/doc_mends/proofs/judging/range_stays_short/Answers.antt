use Rattle.std.proofs.Common.{◌≤◌, length, sym, arith}
use Rattle.prop_map.specs.Formed.{IsPropertyMap, character_groups}
use Rattle.run_lists.specs.Spread.{expanded}
use Rattle.run_lists.proofs.Public.{length-spread}
use Rattle.doc_bits.proofs.Public.{All_at}
use Rattle.doc_mends.proofs.MendLemmas.{none_passed, more_pass, all_passed, one_long}
use Rattle.doc_mends.proofs.judging.range_stays_short.Goals as goal

pub loop-at-init : goal.loop-at-init
loop-at-init c = record {
  cursor_at = c.requires.at;
  ahead = c.requires.ahead;
  within = omega (arith, c.requires.ordered, c.requires.within);
  pass = none_passed (expanded c.args.runs.now) c.args.range.from;
}

pub stays_short-requires-clause-chp : goal.stays_short-requires-clause-chp
stays_short-requires-clause-chp c =
    All_at (IsPropertyMap character_groups) (expanded c.args.runs.now) c.loop-at.at c.value_until-end.result.0.now
    c.requires.maps (c.value_until-end.ensures.values c.loop-at.at (omega arith) c.value_until-end.ensures.some)

pub returns-then-not-branch-clause-short : goal.returns-then-not-branch-clause-short
returns-then-not-branch-clause-short c =
    let long = length-spread c.args.runs.now in
    let within : c.args.range.to ≤ length (expanded c.args.runs.now) = omega (arith, long, c.requires.within) in
    sym (one_long (expanded c.args.runs.now) c.args.range.from c.loop-at.at c.args.range.to
    c.value_until-end.result.0.now c.in_ok-stays_short.field-0 c.loop-at.invariant.pass.from_there
    c.loop-at-test.true within
    (c.value_until-end.ensures.values c.loop-at.at (omega arith) c.value_until-end.ensures.some)
    c.in_ok-stays_short.ensures c.if-not-branch.true)

pub loop-at-preserved : goal.loop-at-preserved
loop-at-preserved c =
    let ends = c.value_until-end.ensures in
    record {
      cursor_at = ends.at;
      ahead = omega (arith, ends.ahead, ends.some);
      within = ends.within;
      pass = more_pass (expanded c.args.runs.now) c.args.range.from c.loop-at.at c.value_until-end.result.1
          c.value_until-end.result.0.now c.in_ok-stays_short.field-0 c.loop-at.invariant.pass ends.some ends.values
          c.in_ok-stays_short.ensures c.if-not-branch.false;
    }

pub returns-clause-short : goal.returns-clause-short
returns-clause-short c =
    let long = length-spread c.args.runs.now in
    let within : c.args.range.to ≤ length (expanded c.args.runs.now) = omega (arith, long, c.requires.within) in
    sym (all_passed (expanded c.args.runs.now) c.args.range.from c.loop-at.at c.args.range.to c.loop-at.invariant.pass
    c.loop-at-test.false within)
