use Rattle.std.proofs.Common.{◌≡◌, ◌∙◌, ◌≤◌, ◌++◌, ℕ, length, arith, ap, List}
use Rattle.std.specs.Prelude.{slice_range}
use Rattle.prop_map.specs.Settings.{Properties}
use Rattle.run_lists.specs.Spread.{expanded}
use Rattle.run_lists.proofs.Public.{length-spread}
use Rattle.doc_mends.specs.Striking.{part_values}
use Rattle.doc_mends.proofs.StruckLemmas.{part_none, part_long, part_more}
use Rattle.doc_mends.proofs.struck_runs.add_part.Goals as goal

pub loop-at-init : goal.loop-at-init
loop-at-init c = record {
  cursor_at = c.requires.at;
  ahead = c.requires.ahead;
  begun = omega arith;
  within = c.requires.ordered;
  made = part_none c.args.part.struck (expanded c.args.runs.now) c.args.made.now c.args.part.from;
}

pub add-requires : goal.add-requires
add-requires c =
    let values : List Properties = expanded c.args.runs.now in
    let at = c.loop-at.at in
    let all = length-spread c.args.runs.now in
    let inside : at ≤ length values = omega (arith, all, c.loop-at.invariant.within, c.requires.within) in
    let long = part_long c.args.part.struck values c.args.made.now c.loop-at.made c.args.part.from at
    c.loop-at.invariant.begun inside c.requires.long c.loop-at.invariant.made in
    omega (arith, long, c.min-end.ensures, c.value_until-run_end.ensures.some, c.requires.within, c.requires.few)

pub loop-at-preserved : goal.loop-at-preserved
loop-at-preserved c =
    let values : List Properties = expanded c.args.runs.now in
    let ends = c.value_until-run_end.ensures in
    let at = c.loop-at.at in
    let end = c.min-end.result in
    let all = length-spread c.args.runs.now in
    let past : at ≤ end = omega (arith, ends.some, c.min-end.ensures, c.loop-at-test.true) in
    let inside : end ≤ c.args.part.to = omega (arith, c.min-end.ensures) in
    record {
      cursor_at = ends.at;
      ahead = omega (arith, ends.ahead, past);
      begun = omega (arith, c.loop-at.invariant.begun, past);
      within = inside;
      made = part_more c.args.part.struck values c.args.made.now c.loop-at.made c.add.new.self c.args.part.from at end
          c.value_until-run_end.result.0.now c.in_ok-value.value c.loop-at.invariant.begun past
          (omega (arith, all, inside, c.requires.within))
          (λ k low high. ends.values k low (omega (arith, high, c.min-end.ensures))) c.loop-at.invariant.made
          c.in_ok-value.ensures c.in_ok-add.ensures.ok;
    }

pub returns : goal.returns
returns c =
    let values : List Properties = expanded c.args.runs.now in
    let all = length-spread c.args.runs.now in
    let end : c.loop-at.at ≡ c.args.part.to = omega (arith, c.loop-at-test.false, c.loop-at.invariant.within) in
    let made : c.loop-at.made ≡
    c.args.made.now ++ part_values c.args.part.struck (slice_range values c.args.part.from c.args.part.to) =
    c.loop-at.invariant.made
    ∙ ap (λ (n : ℕ). c.args.made.now ++ part_values c.args.part.struck (slice_range values c.args.part.from n)) end in
    record {
      at = c.loop-at.invariant.cursor_at;
      ahead = omega (arith, c.loop-at.invariant.ahead, end);
      long = part_long c.args.part.struck values c.args.made.now c.loop-at.made c.args.part.from c.args.part.to
          c.requires.ordered (omega (arith, all, c.requires.within)) c.requires.long made;
      made = made;
    }
