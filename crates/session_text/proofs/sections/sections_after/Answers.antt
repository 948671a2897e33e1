use Rattle.std.proofs.Common.{◌∙◌, sym, ap, subst, arith, rules}
use Rattle.doc_model.specs.declared.document.Document.{Document}
use Rattle.session_text.specs.SectionPlans.{FitsPlan, plan_after}
use Rattle.session_text.proofs.PlanLemmas.{nothing_planned, planned_fits, planned_more, all_planned}
use Rattle.session_text.proofs.sections.sections_after.Goals as goal

pub loop-k-init : goal.loop-k-init
loop-k-init c =
    nothing_planned c.args.document.now c.args.changes.now c.args.places.now _ c.requires.steps c.requires.count
    (search rules)

pub section_step-requires : goal.section_step-requires
section_step-requires c =
    subst (λ (d : Document). FitsPlan d.main c.loop-k.new.items c.get.result.now) (sym c.document.view_is)
    (planned_fits c.args.document.now c.args.changes.now c.args.places.now c.loop-k.k c.loop-k.new.items
    c.get.result.now c.loop-k.invariant c.get.ensures)

pub loop-k-preserved : goal.loop-k-preserved
loop-k-preserved c =
    planned_more c.args.document.now c.args.changes.now c.args.places.now c.loop-k.k c.loop-k.new.items _
    c.get.result.now c.loop-k.invariant c.get.ensures
    (c.in_ok-new.ensures
    ∙ ap (λ (d : Document). plan_after d.main c.loop-k.new.items c.get.result.now) c.document.view_is)

pub returns : goal.returns
returns c =
    all_planned c.args.document.now c.args.changes.now c.args.places.now c.loop-k.k _ c.loop-k.invariant
    (omega (arith, c.len-k-end.ensures))
