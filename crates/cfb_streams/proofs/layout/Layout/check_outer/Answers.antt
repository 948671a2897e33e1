use Rattle.std.proofs.Common.{◌∙◌, sym, subst}
use Rattle.std.proofs.lemmas.Result.{err_from_is_err_and}
use Rattle.doc_bits.specs.Rules.{Hold}
use Rattle.cfb_sectors.specs.Opening.{opening_rules}
use Rattle.cfb_sectors.specs.HeaderRules.{header_rules}
use Rattle.cfb_streams.specs.Container.{outer_entry_rules}
use Rattle.cfb_streams.proofs.LoadLemmas.{front_fault, found_fault, same_fault, outer_tree_first, outer_behind_fault}
use Rattle.cfb_streams.proofs.layout.Layout.check_outer.Goals as goal

pub returns-in_err-check_front : goal.returns-in_err-check_front
returns-in_err-check_front c =
    let p = err_from_is_err_and c.from_residual.result c.from_residual.ensures.1 in
    rw (p.1, p.2)
    (front_fault c.args.file.now (outer_entry_rules c.args.file.now) c.in_err-check_front.field-0.0
    c.in_err-check_front.ensures)

pub returns-in_err-entries : goal.returns-in_err-entries
returns-in_err-entries c =
    let p = err_from_is_err_and c.from_residual-in_err-entries.result c.from_residual-in_err-entries.ensures.1 in
    rw (p.1, p.2)
    (found_fault c.args.file.now (outer_entry_rules c.args.file.now) c.in_err-entries.field-0.0
    (outer_tree_first c.args.file.now) c.in_ok-check_front.ensures.0 c.in_ok-check_front.ensures.1
    c.in_err-entries.ensures.judged)

pub returns-in_err-layout : goal.returns-in_err-layout
returns-in_err-layout c =
    let are = c.in_ok-entries.ensures.judged in
    let p = err_from_is_err_and c.from_residual-in_err-layout.result c.from_residual-in_err-layout.ensures.1 in
    rw (p.1, p.2)
    (same_fault c.args.file.now c.in_ok-entries.entries outer_entry_rules c.in_err-layout.field-0.0 are.0
    c.in_ok-check_front.ensures.0 c.in_ok-check_front.ensures.1 are.1
    (outer_behind_fault c.in_ok-entries.entries c.in_err-layout.field-0.0 are.1 c.in_err-layout.ensures))

pub returns : goal.returns
returns c =
    let of = c.in_ok-layout.ensures in
    (of.file ∙ c.in_ok-entries.ensures.judged.0, of.is_layout)

pub of-requires-clause-opening : goal.of-requires-clause-opening
of-requires-clause-opening c =
    subst (λ f. Hold (opening_rules f)) (sym c.in_ok-entries.ensures.judged.0) c.in_ok-check_front.ensures.0

pub of-requires-clause-header : goal.of-requires-clause-header
of-requires-clause-header c =
    subst (λ f. Hold (header_rules f)) (sym c.in_ok-entries.ensures.judged.0) c.in_ok-check_front.ensures.1
