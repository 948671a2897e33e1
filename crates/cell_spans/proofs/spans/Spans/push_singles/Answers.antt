use Rattle.std.proofs.Common.{◌≡◌, Bool, Option, Some, ap, arith}
use Rattle.view_places.specs.declared.element.Span.{Span}
use Rattle.doc_bits.proofs.Public.{there_is}
use Rattle.cell_spans.specs.Spans.{single}
use Rattle.cell_spans.proofs.WalkLemmas.{mapped_step}
use Rattle.cell_spans.proofs.spans.Spans.push_singles.Goals as goal

pub loop-blank-preserved : goal.loop-blank-preserved
loop-blank-preserved c =
    let k = c.loop-blank.blank-index in
    let blanks = c.args.blanks.now in
    let one = there_is blanks k (omega arith) in
    let span : Option Span = Some c.single.result in
    let same : span ≡ Some single = ap (λ (s : Span). Some s) c.single.ensures in
    mapped_step (λ (blank : Bool). Some single) c.args.self.now c.loop-blank.self c.push.new.self blanks k one.0 span
    one.1 c.loop-blank.invariant same c.in_ok-push.ensures
