use Rattle.std.proofs.Common.{length, drop, take, ◌-◌, subst, refl, arith, ap, length-drop}
use Rattle.std.proofs.lemmas.List.{take_rest}
use Rattle.sprm_table.specs.Sprm.{EndsSprmList}
use Rattle.sprm_table.specs.declared.faults.SprmFault.TheVariants.{Short, Refused}
use Rattle.sprm_table.proofs.FaultLemmas.{passed_end, passed_step, accepted_no_fault, short_first, refused_first}
use Rattle.sprm_table.proofs.FaultLemmas.{fault_not_accepted}
use Rattle.sprm_table.proofs.lists.list_fault.Goals as goal

pub returns-in-End-clause-first : goal.returns-in-End-clause-first
returns-in-End-clause-first c = λ place fault.
    let list = c.args.list.now in
    let at = c.loop-code.at in
    accepted_no_fault list c.args.groups place (passed_end list c.args.groups at c.loop-code.invariant.passed
    (subst EndsSprmList (take_rest list at) c.in-End.ensures)) fault

pub returns-in-Short-clause-accepted : goal.returns-in-Short-clause-accepted
returns-in-Short-clause-accepted c =
    let list = c.args.list.now in
    let at = c.loop-code.at in
    let first = short_first list (take (length list - at) (drop at list)) c.args.groups at (take_rest list at)
    c.loop-code.invariant.passed c.in-Short.ensures in
    (λ none. absurd (cc (none)), λ accepted. absurd (fault_not_accepted list c.args.groups (Short at) first accepted))

pub returns-in-Short-clause-first : goal.returns-in-Short-clause-first
returns-in-Short-clause-first c =
    let list = c.args.list.now in
    let at = c.loop-code.at in
    short_first list (take (length list - at) (drop at list)) c.args.groups at (take_rest list at)
    c.loop-code.invariant.passed c.in-Short.ensures

pub returns-then-is_refused-clause-accepted : goal.returns-then-is_refused-clause-accepted
returns-then-is_refused-clause-accepted c =
    let list = c.args.list.now in
    let at = c.loop-code.at in
    let first = refused_first list (take (length list - at) (drop at list)) c.args.groups at c.in-Prl.code.0
    c.in-Prl.field-1 c.in-Prl.to (take_rest list at) c.loop-code.invariant.passed c.in-Prl.ensures
    (c.if-is_refused.ensures.0 refl) in
    (λ none. absurd (cc (none)), λ accepted. absurd (fault_not_accepted list c.args.groups (Refused at) first accepted))

pub returns-then-is_refused-clause-first : goal.returns-then-is_refused-clause-first
returns-then-is_refused-clause-first c =
    let list = c.args.list.now in
    let at = c.loop-code.at in
    refused_first list (take (length list - at) (drop at list)) c.args.groups at c.in-Prl.code.0 c.in-Prl.field-1
    c.in-Prl.to (take_rest list at) c.loop-code.invariant.passed c.in-Prl.ensures (c.if-is_refused.ensures.0 refl)

pub loop-code-preserved : goal.loop-code-preserved
loop-code-preserved c =
    let list = c.args.list.now in
    let at = c.loop-code.at in
    record {
      within = omega (arith, c.in-Prl.ensures.within, length-drop at list, ap length (take_rest list at));
      passed =
          passed_step list (take (length list - at) (drop at list)) c.args.groups at c.in-Prl.code.0 c.in-Prl.field-1
          c.in-Prl.to (take_rest list at) c.loop-code.invariant.passed c.in-Prl.ensures
          (λ is_refused. let is = c.if-is_refused.ensures.1 is_refused in absurd (cc (is)));
    }
