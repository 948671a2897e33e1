use Rattle.std.proofs.Common.{sym, subst}
use Rattle.std.proofs.lemmas.Result.{err_from_is_err_and}
use Rattle.doc_bits.specs.Rules.{Nowhere, rule}
use Rattle.cfb_streams.specs.StreamRules.{BreaksStream, BreaksSharing}
use Rattle.cfb_streams.specs.Container.{HasContents}
use Rattle.cfb_sectors.specs.Judged.{IsCfbFault}
use Rattle.cfb_streams.proofs.LoadLemmas.{chains_fault, sharing_fault}
use Rattle.cfb_streams.proofs.layout.Layout.contents.Goals as goal

pub gather-requires : goal.gather-requires
gather-requires c =
    subst (λ q. Nowhere (BreaksStream q.file q.parts.directory q.parts.mini_fat))
    (sym c.in_ok-check_streams.ensures.kept) c.in_ok-check_streams.ensures.judged

pub returns-in_err-check_streams-clause-judged : goal.returns-in_err-check_streams-clause-judged
returns-in_err-check_streams-clause-judged c =
    let old = c.args.self.now in
    let p = err_from_is_err_and c.from_residual.result
    c.from_residual.ensures.1 in
    rw (p.1, p.2)
    (chains_fault old.file old.parts.directory old.parts.mini_fat old.parts.mini_stream
    c.in_err-check_streams.field-0.0 c.in_err-check_streams.ensures.judged)

pub returns-in_err-container-clause-judged : goal.returns-in_err-container-clause-judged
returns-in_err-container-clause-judged c =
    let old = c.args.self.now in
    let first = subst (λ q. IsCfbFault (rule 14 (BreaksSharing q.file q.parts)) c.in_err-container.field-0.0)
    c.in_ok-check_streams.ensures.kept c.in_err-container.ensures in
    let p = err_from_is_err_and c.from_residual-in_err-container.result c.from_residual-in_err-container.ensures.1 in
    rw (p.1, p.2)
    (sharing_fault old.file old.parts c.in_err-container.field-0.0 c.in_ok-check_streams.ensures.judged first)

pub returns-clause-judged : goal.returns-clause-judged
returns-clause-judged c =
    let kept = c.in_ok-check_streams.ensures.kept in
    let sharing = subst (λ q. Nowhere (BreaksSharing q.file q.parts)) kept c.in_ok-container.ensures.0 in
    let has = subst (λ q. HasContents q.file c.in_ok-container.container) kept c.in_ok-container.ensures.1 in
    ((c.in_ok-check_streams.ensures.judged, sharing), has)
