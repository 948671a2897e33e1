use Rattle.std.proofs.Common.{◌≡◌, ◌∙◌, ◌≤◌, ap, sym, subst, arith, ℕ, List, ◌++◌, length, map, take, drop, slice_range}
use Rattle.std.proofs.lemmas.List.{take_all}
use Rattle.std.proofs.lemmas.Slice.{between_to_end}
use Rattle.prop_map.specs.Settings.{Properties}
use Rattle.run_lists.specs.declared.cursor.Cursor.{Cursor}
use Rattle.run_lists.specs.Places.{IsAtRunBegin}
use Rattle.run_lists.specs.Spread.{expanded}
use Rattle.run_lists.proofs.Public.{extent-nil, length-spread, run_and_rest}
use Rattle.doc_bits.proofs.Public.{All_at}
use Rattle.doc_mends.specs.declared.mends.DeletedRange.{DeletedRange}
use Rattle.doc_mends.specs.Batches.{RangesAscend}
use Rattle.doc_mends.specs.Striking.{struck_chp, chps_struck, range_struck, IsRangeWithin}
use Rattle.doc_mends.proofs.StruckLemmas.{struck_more, range_more}
use Rattle.doc_mends.proofs.struck_runs.strike_chps.Goals as goal

pub loop-k-init : goal.loop-k-init
loop-k-init c =
    let values : List Properties = expanded c.args.runs.now in
    record {
      cursor_at = subst (IsAtRunBegin c.args.runs.now) (sym c.new-cursor.ensures) (record {
        there = omega arith;
        begins = extent-nil Properties;
      });
      ahead = omega (arith, ap (λ (cursor : Cursor). cursor.begin) c.new-cursor.ensures);
      within = omega arith;
      ascend = c.requires.ascend;
      long = ap length c.new-made.ensures;
      made = ap (λ (t : List Properties). t ++ values) c.new-made.ensures;
    }

pub add_part-requires-clause-ordered : goal.add_part-requires-clause-ordered
add_part-requires-clause-ordered c =
    let ranges : List DeletedRange = c.args.batch.now.ranges.now in
    let step = run_and_rest ranges c.loop-k.k c.range_at-range.result c.range_at-range.ensures in
    (subst (RangesAscend c.args.batch.now.story c.loop-k.at) step c.loop-k.invariant.ascend).0.ahead

pub add_part-requires-clause-within : goal.add_part-requires-clause-within
add_part-requires-clause-within c =
    let ranges : List DeletedRange = c.args.batch.now.ranges.now in
    let has = All_at (IsRangeWithin c.args.len) ranges c.loop-k.k c.range_at-range.result c.requires.ranges
    c.range_at-range.ensures in
    omega (arith, has.0, has.1, c.requires.len)

pub loop-k-preserved : goal.loop-k-preserved
loop-k-preserved c =
    let ranges : List DeletedRange = c.args.batch.now.ranges.now in
    let values : List Properties = expanded c.args.runs.now in
    let at = c.loop-k.at in
    let k = c.loop-k.k in
    let range = c.range_at-range.result in
    let is = c.range_at-range.ensures in
    let next = subst (RangesAscend c.args.batch.now.story at) (run_and_rest ranges k range is) c.loop-k.invariant.ascend
    in
    let has = All_at (IsRangeWithin c.args.len) ranges k range c.requires.ranges is in
    let all = length-spread c.args.runs.now in
    let mid : List Properties = slice_range values range.from range.to in
    record {
      cursor_at = c.in_ok-add_part-2.ensures.at;
      ahead = c.in_ok-add_part-2.ensures.ahead;
      within = has.1;
      ascend = next.1;
      long = c.in_ok-add_part-2.ensures.long;
      made = ap (λ (t : List Properties). t ++ drop range.to values) (c.in_ok-add_part-2.ensures.made
          ∙ ap (λ (t : List Properties). t ++ map struck_chp mid) c.in_ok-add_part.ensures.made)
          ∙ (struck_more struck_chp values c.loop-k.made at range.from range.to c.loop-k.invariant.long next.0.ahead
          has.0 (omega (arith, all, has.1, c.requires.len))
          ∙ (ap (λ (t : List Properties). range_struck t range) c.loop-k.invariant.made
          ∙ sym (range_more ranges values k range is)));
    }

pub returns : goal.returns
returns c =
    let ranges : List DeletedRange = c.args.batch.now.ranges.now in
    let values : List Properties = expanded c.args.runs.now in
    let at = c.loop-k.at in
    let all = length-spread c.args.runs.now in
    let rest : slice_range values at c.args.len ≡ drop at values =
    between_to_end values at c.args.len (omega (arith, all, c.requires.len)) in
    let whole : take c.loop-k.k ranges ≡ ranges =
    take_all c.loop-k.k ranges (omega (arith, c.loop-k-test.false)) in
    c.in_ok-add_part-3.ensures.made
    ∙ (ap (λ (t : List Properties). c.loop-k.made ++ t) rest
    ∙ (c.loop-k.invariant.made ∙ ap (λ (l : List DeletedRange). chps_struck l values) whole))
