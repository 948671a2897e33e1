use Rattle.std.proofs.Common.{sym, subst}
use Rattle.std.specs.FinMap.{entries, entries_sorted}
use Rattle.prop_map.proofs.Public.{true_of}
use Rattle.char_formats.proofs.LaidLemmas.{HasLaid, laid-none, laid-next, laid-whole}
use Rattle.char_formats.proofs.change.Change.lay_all.Goals as goal

pub loop-code-init : goal.loop-code-init
loop-code-init c =
    laid-none (entries c.args.map.now) c.entries-left.result c.args.self.now (sym c.entries-left.ensures)

pub loop-code-preserved : goal.loop-code-preserved
loop-code-preserved c =
    let all = entries c.args.map.now in
    laid-next all c.next.new.self c.args.self.now c.loop-code.self c.lay.new.self c.in-Some.code.0 c.in-Some.value.now
    (true_of _ (entries_sorted c.args.map.now))
    (subst (λ es. HasLaid all es c.args.self.now c.loop-code.self) c.in-Some.ensures c.loop-code.invariant)
    c.lay.ensures

pub returns : goal.returns
returns c =
    let all = entries c.args.map.now in
    laid-whole c.args.map.now c.args.self.now c.loop-code.self (subst (λ es. HasLaid all es c.args.self.now
    c.loop-code.self) c.in_default.ensures.0 c.loop-code.invariant)
