-- What stays as it is is the range.
use Rattle.std.proofs.Common.{◌≡◌, ◌∙◌, [], List, length, ap, subst, arith}
use Rattle.std.specs.Prelude.{slice_range}
use Rattle.doc_bits.specs.Together.{AreTogether}
use Rattle.run_lists.specs.Spread.{expanded, total_len}
use Rattle.run_lists.proofs.SpreadLemmas.{length-spread, extent-nil}
use Rattle.run_lists.proofs.RunsLemmas.{extent_of}
use Rattle.run_lists.proofs.ChangeLemmas.{together_same}
use Rattle.run_lists.proofs.runs.Runs.copy.Goals as goal

pub find-spot-requires-clause-within : goal.find-spot-requires-clause-within
find-spot-requires-clause-within g c =
    let nothing : total_len {T = g.row.T.Denot} [] ≡ 0 = extent-nil g.row.T.Denot in
    let all : total_len c.deref.result.now ≡ length c.args.self.now =
    ap total_len c.deref.ensures.value ∙ extent_of c.self.inside.runs.items c.args.self.now c.self.view_is in
    omega (arith, nothing, all, c.requires.ordered, c.requires.within)

pub change_range-requires-clause-within : goal.change_range-requires-clause-within
change_range-requires-clause-within g c =
    let all : total_len c.deref-2.result.now ≡ length c.args.self.now =
    ap total_len c.deref-2.ensures.value ∙ extent_of c.self.inside.runs.items c.args.self.now c.self.view_is in
    omega (arith, c.requires.within)

pub change_range-requires-clause-few : goal.change_range-requires-clause-few
change_range-requires-clause-few g c =
    omega (
      arith,
      ap total_len c.deref-2.ensures.value,
      length-spread c.self.inside.runs.items,
      c.self.invariant,
    )

pub returns : goal.returns
returns g c =
    let is : expanded c.deref-2.result.now ≡ c.args.self.now = ap expanded c.deref-2.ensures.value ∙ c.self.view_is in
    together_same (slice_range c.args.self.now c.args.from c.args.to) c.in_ok-copy.copy
    (subst (λ (v : List g.row.T.Denot). AreTogether (λ before after. after ≡ before)
    (slice_range v c.args.from c.args.to) c.in_ok-copy.copy) is c.in_ok-copy.ensures)
