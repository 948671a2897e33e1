use Rattle.std.proofs.Common.{◌≡◌, ◌∙◌, ◌<◌, ◌≤◌, false, length, take, take_all, sym, ap, arith}
use Rattle.markdown_page.specs.Runs.{has_emphasis}
use Rattle.markdown_page.proofs.RunLemmas.{emphasis_next}
use Rattle.markdown_page.proofs.shape.has_emphasis.Goals as goal

pub loop-i-preserved : goal.loop-i-preserved
loop-i-preserved c =
    let old = c.loop-i in
    let len = c.len-i-end.ensures.len in
    emphasis_next c.args.path.now old.i c.get.result (omega (arith, len)) old.invariant c.get.ensures (sym
    c.if-is_emphasis_in.ensures)

pub returns : goal.returns
returns c = λ is.
    let path = c.args.path.now in
    let len = c.len-i-end.ensures.len in
    sym (ap has_emphasis (take_all c.loop-i.i path (omega (arith, len)))) ∙ c.loop-i.invariant
