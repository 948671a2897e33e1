use Rattle.std.proofs.Common.{sym, subst, ℕ, List, length}
use Rattle.fib_form.specs.FibFields.{FibFields, fib_fields}
use Rattle.file_rules.specs.FormatRules.{judged_units}
use Rattle.file_rules.specs.FileRules.{doc_source_of}
use Rattle.doc_read.specs.ReadParts.{FitUnits}
use Rattle.doc_read.specs.ReadTexts.{AreCutsOf, IsDocumentOfUnits}
use Rattle.doc_read.proofs.column_file.found_of.Goals as goal

pub document_with-requires-clause-units : goal.document_with-requires-clause-units
document_with-requires-clause-units c =
    subst (λ (us : List ℕ). FitUnits us c.args.parts.columns) (sym c.into_loaded-fib.ensures.units)
    c.requires.units

pub document_with-requires-clause-cuts : goal.document_with-requires-clause-cuts
document_with-requires-clause-cuts c =
    let made = c.into_loaded-fib in
    let cuts = c.args.parts.cuts in
    subst (λ (fib : FibFields). AreCutsOf fib cuts (length made.result.2.items)) (sym made.ensures.fib)
    (subst (λ (us : List ℕ). AreCutsOf (fib_fields c.args.text.wd) cuts (length us)) (sym made.ensures.units)
    c.requires.cuts)

pub returns-clause-document : goal.returns-clause-document
returns-clause-document c =
    let made = c.into_loaded-fib in
    let parts = c.args.parts in
    let document = c.in_ok-document.document in
    let with_units = subst (λ (us : List ℕ). IsDocumentOfUnits made.result.0 us parts document) made.ensures.units
    c.in_ok-document.ensures in
    subst (λ (fib : FibFields). IsDocumentOfUnits fib (judged_units (doc_source_of c.args.text)) parts document)
    made.ensures.fib with_units
