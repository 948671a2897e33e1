-- The places are in the runs, and whole runs are spliced.
use Rattle.std.proofs.Common.{◌≡◌, ◌∙◌, [], arith}
use Rattle.run_lists.specs.Spread.{expanded, total_len}
use Rattle.run_lists.proofs.SpreadLemmas.{extent-nil}
use Rattle.run_lists.proofs.RunsLemmas.{extent_of, spliced_is, spliced_short}
use Rattle.run_lists.proofs.runs.Runs.splice.Goals as goal

pub cut-requires-clause-within : goal.cut-requires-clause-within
cut-requires-clause-within g c =
    let nothing : total_len {T = g.row.T.Denot} [] ≡ 0 = extent-nil g.row.T.Denot in
    let all = extent_of c.self.inside.runs.items c.args.self.now c.self.view_is in
    omega (arith, all, c.requires.ordered, c.requires.within)

pub cut-requires-2-clause-within : goal.cut-requires-2-clause-within
cut-requires-2-clause-within g c =
    let nothing : total_len {T = g.row.T.Denot} [] ≡ 0 = extent-nil g.row.T.Denot in
    let cut = c.in_ok-first.ensures.cut in
    let all =
    extent_of c.cut.new.runs.items c.args.self.now (c.in_ok-first.ensures.same ∙ c.self.view_is) in
    omega (arith, all, cut.here, c.requires.ordered, c.requires.within)

pub invariant_of-self-2 : goal.invariant_of-self-2
invariant_of-self-2 g c =
    spliced_short (expanded c.splice_list.new.list.items) c.args.self.now c.args.fresh c.args.from c.args.to
    (spliced_is c.self.inside.runs.items c.cut.new.runs.items c.cut-2.new.runs.items c.splice_list.new.list.items
    c.fresh.inside.runs.items c.args.self.now c.args.fresh c.args.from c.args.to c.in_ok-first.first c.in_ok-end.end
    c.requires.ordered c.self.view_is c.fresh.view_is c.in_ok-first.ensures.same c.in_ok-end.ensures.same
    c.in_ok-first.ensures.cut c.in_ok-end.ensures.cut c.in_ok-splice_list.ensures.ok)
    c.requires.ordered c.requires.within c.requires.few

pub returns-clause-ok : goal.returns-clause-ok
returns-clause-ok g c =
    spliced_is c.self.inside.runs.items c.cut.new.runs.items c.cut-2.new.runs.items c.splice_list.new.list.items
    c.fresh.inside.runs.items c.args.self.now c.args.fresh c.args.from c.args.to c.in_ok-first.first c.in_ok-end.end
    c.requires.ordered c.self.view_is c.fresh.view_is c.in_ok-first.ensures.same c.in_ok-end.ensures.same
    c.in_ok-first.ensures.cut c.in_ok-end.ensures.cut c.in_ok-splice_list.ensures.ok
