use Rattle.std.proofs.Common.{◌+◌, ◌≤◌, sym, subst}
use Rattle.doc_bits.specs.Rules.{IsLeast, From}
use Rattle.doc_bits.proofs.Public.{least_from}
use Rattle.sprm_table.specs.Sprm.{HasSprmFaultAt, fault_place}
use Rattle.style_sheet.proofs.definition.fault_in.Goals as goal

pub returns-in-None-clause-first : goal.returns-in-None-clause-first
returns-in-None-clause-first c = λ p w. c.in-None.ensures.first w.offset w.broken

pub returns-in-Some-clause-first : goal.returns-in-Some-clause-first
returns-in-Some-clause-first c =
    let breaks = HasSprmFaultAt c.args.list.now c.args.groups in
    let least = least_from breaks c.args.offset (fault_place c.in-Some.fault) c.in-Some.ensures.first.least in
    subst (λ k. IsLeast (λ a b. a ≤ b) (From c.args.offset breaks) (c.args.offset + k)) (sym c.at.ensures) least
