use Rattle.std.proofs.Common.{◌∙◌, sym, subst, List, ℕ, arith}
use Rattle.std.proofs.lemmas.Result.{err_from_is_err_and}
use Rattle.doc_bits.specs.Number.{AreBytes}
use Rattle.doc_model.specs.declared.document.Document.{Document}
use Rattle.fast_save.specs.Session.{IsSession, IsSessionCounted}
use Rattle.fast_save.specs.Started.{IsStarted}
use Rattle.fast_save.proofs.OpenLemmas.{file_whole}
use Rattle.fast_save.proofs.StartLemmas.{parts_handed_out, started}
use Rattle.fast_save.proofs.CountLemmas.{counted_at_start}
use Rattle.fast_save.proofs.session.Session.begin.Goals as goal

pub of_file-made-requires : goal.of_file-made-requires
of_file-made-requires c =
    let bytes : AreBytes c.args.file.now = λ i. omega (arith, c.type_inv.file i) in
    let is = c.into_parts-document.ensures in
    (parts_handed_out c.args.file.now c.args.opened c.into_parts-document.result.0 c.into_parts-document.result.1
    c.into_parts-document.result.2 c.into_parts-document.result.3.pieces bytes c.requires.opened is.document is.fib
    is.contents is.pieces).opening

pub counts_of-counts-requires : goal.counts_of-counts-requires
counts_of-counts-requires c =
    let whole = file_whole c.args.file.now c.requires.opened.holds.rules in
    let least = whole.least in
    omega (arith, least)

pub returns-in_err-document : goal.returns-in_err-document
returns-in_err-document c =
    let p = err_from_is_err_and c.from_residual.result c.from_residual.ensures.1 in
    rw (p.1, p.2) tt

pub invariant_of-result : goal.invariant_of-result
invariant_of-result c =
    let bytes : AreBytes c.args.file.now = λ i. omega (arith, c.type_inv.file i) in
    let is = c.into_parts-document.ensures in
    let both = c.in_ok-document.ensures in
    let handed =
    parts_handed_out c.args.file.now c.args.opened c.into_parts-document.result.0 c.into_parts-document.result.1
    c.into_parts-document.result.2 c.into_parts-document.result.3.pieces bytes c.requires.opened is.document is.fib
    is.contents is.pieces in
    let parts = c.in_ok-document.parts in
    let counts = c.counts_of-counts.result in
    let begun = rw both.1 at c.of_file-made.ensures.session in
    let fresh = rw both.1 at c.of_file-made.ensures.fresh in
    let written = rw both.1 at c.of_file-made.ensures.written in
    let opened : IsSession c.args.file.now c.into_parts-document.result.0 parts =
    subst (λ (file : List ℕ). IsSession file c.into_parts-document.result.0 parts) handed.file_is (begun handed.opening)
    in
    let session : IsSession c.args.file.now c.in_ok-document.document parts =
    subst (λ (document : Document). IsSession c.args.file.now document parts) (sym both.0) opened in
    let counted : IsSessionCounted c.args.file.now parts counts =
    counted_at_start c.args.file.now parts counts (file_whole c.args.file.now c.requires.opened.holds.rules)
    c.counts_of-counts.ensures fresh written in
    subst (λ (file : List ℕ). IsSession file c.in_ok-document.document parts × IsSessionCounted file parts counts)
    (sym c.requires.bytes) (session, counted)

pub returns : goal.returns
returns c =
    let is = c.into_parts-document.ensures in
    let both = c.in_ok-document.ensures in
    let parts = c.in_ok-document.parts in
    let counts = c.counts_of-counts.result in
    let pieces = rw both.1 at c.of_file-made.ensures.pieces in
    let fib = rw both.1 at c.of_file-made.ensures.fib in
    let begun =
    started c.args.file.now c.args.opened parts.text.pieces.pieces parts.fib counts c.requires.opened
    (pieces ∙ is.pieces) (fib ∙ is.fib) c.counts_of-counts.ensures in
    subst
    (λ (bytes : List ℕ).
    IsStarted c.args.file.now (record {
      bytes = bytes;
      document = c.in_ok-document.document;
      counts = counts;
      quick_saves = parts.fib.quick_saves;
    }))
    (sym c.requires.bytes)
    (subst
    (λ (document : Document).
    IsStarted c.args.file.now (record {
      bytes = c.args.file.now;
      document = document;
      counts = counts;
      quick_saves = parts.fib.quick_saves;
    }))
    (sym (both.0 ∙ is.document)) begun)
