use Rattle.std.proofs.Common.{sym, subst, Option, MatchOption}
use Rattle.std.proofs.lemmas.Result.{err_from_is_err_and}
use Rattle.doc_bits.specs.Rules.{Hold}
use Rattle.cfb_streams.specs.Contents.{Contents}
use Rattle.file_rules.specs.Faults.{IsReadFault}
use Rattle.file_rules.specs.Source.{DocSource}
use Rattle.file_rules.specs.FormatRules.{rules_of_formats}
use Rattle.file_rules.specs.PartRules.{PartLists}
use Rattle.file_rules.specs.FileRules.{FileText, doc_source_of}
use Rattle.file_rules.proofs.Public.{all_hold, formats_refused}
use Rattle.doc_read.specs.declared.document.DocumentParts.{DocumentParts}
use Rattle.doc_read.specs.ReadParts.{AreDocumentParts}
use Rattle.doc_read.proofs.column_file.read_text.Goals as goal

pub returns-in_err-parts : goal.returns-in_err-parts
returns-in_err-parts c =
    let p = err_from_is_err_and c.from_residual.result c.from_residual.ensures.1 in
    rw (p.1, p.2) (rw c.source-source.ensures at c.in_err-parts.ensures)

pub read_document_parts-requires-clause-rules : goal.read_document_parts-requires-clause-rules
read_document_parts-requires-clause-rules c = rw c.source-source.ensures at c.in_ok-parts.ensures.0

pub read_document_parts-requires-clause-lists : goal.read_document_parts-requires-clause-lists
read_document_parts-requires-clause-lists c = rw c.source-source.ensures at c.in_ok-parts.ensures.1

-- what is read of the parts
abbrev IsReadOf : Contents → FileText → PartLists → Option DocumentParts → Type 0
IsReadOf contents text lists read =
    MatchOption read (¬ (Hold (rules_of_formats (doc_source_of text))))
    (λ (r : DocumentParts). Hold (rules_of_formats (doc_source_of text)) × AreDocumentParts contents text lists r)

pub format_fault-requires-clause-layout : goal.format_fault-requires-clause-layout
format_fault-requires-clause-layout c = c.in_ok-parts.ensures.0.layout

pub format_fault-requires-clause-wrong : goal.format_fault-requires-clause-wrong
format_fault-requires-clause-wrong c =
    let none = subst (IsReadOf c.args.container.now c.args.text.now c.in_ok-parts.parts) c.in_default.is
    c.in_ok-read.ensures in
    subst (λ (source : DocSource). ¬ (Hold (rules_of_formats source))) (sym c.source-source.ensures) none

pub returns-in_default : goal.returns-in_default
returns-in_default c =
    let but = rw c.source-source.ensures at c.in_ok-parts.ensures.0 in
    let formats = subst (λ (s : DocSource). IsReadFault (rules_of_formats s) c.format_fault.result)
    c.source-source.ensures c.format_fault.ensures in
    formats_refused (doc_source_of c.args.text.now) c.format_fault.result but.layout formats

pub returns : goal.returns
returns c =
    let text = c.args.text.now in
    let read = subst (IsReadOf c.args.container.now text c.in_ok-parts.parts) c.in-Some.is c.in_ok-read.ensures in
    let but = rw c.source-source.ensures at c.in_ok-parts.ensures.0 in
    let lists = rw c.source-source.ensures at c.in_ok-parts.ensures.1 in (
      all_hold (doc_source_of text) but read.0,
      record { lists = c.in_ok-parts.parts; has_lists = lists; are = read.1 },
    )
