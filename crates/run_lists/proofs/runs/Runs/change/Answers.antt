-- The changed values are spliced in.
use Rattle.std.proofs.Common.{◌≡◌, ◌∙◌, [], length, ap, arith}
use Rattle.run_lists.specs.Spread.{total_len}
use Rattle.run_lists.proofs.SpreadLemmas.{length-spread, extent-nil}
use Rattle.run_lists.proofs.RunsLemmas.{extent_of}
use Rattle.run_lists.proofs.runs.Runs.change.Goals as goal

pub find-spot-requires-clause-within : goal.find-spot-requires-clause-within
find-spot-requires-clause-within g c =
    let nothing : total_len {T = g.row.T.Denot} [] ≡ 0 = extent-nil g.row.T.Denot in
    let all : total_len c.deref.result.now ≡ length c.args.self.now =
    ap total_len c.deref.ensures.value ∙ extent_of c.self.inside.runs.items c.args.self.now c.self.view_is in
    omega (arith, nothing, all, c.requires.ordered, c.requires.within)

pub change_range-requires-clause-within : goal.change_range-requires-clause-within
change_range-requires-clause-within g c =
    let all : total_len c.deref-2.result.now ≡ length c.args.self.now =
    ap total_len c.deref-2.ensures.value ∙ extent_of c.self.inside.runs.items c.args.self.now c.self.view_is in
    omega (arith, c.requires.within)

pub change_range-requires-clause-few : goal.change_range-requires-clause-few
change_range-requires-clause-few g c =
    omega (
      arith,
      ap total_len c.deref-2.ensures.value,
      length-spread c.self.inside.runs.items,
      c.self.invariant,
    )
