-- The parts are those of the streams, the text and the lists.
use Rattle.std.proofs.Common.{refl, sym, subst, Option, MatchOption}
use Rattle.doc_bits.specs.Rules.{Hold}
use Rattle.cfb_streams.specs.Contents.{Contents}
use Rattle.file_rules.specs.FormatRules.{rules_of_formats}
use Rattle.file_rules.specs.FileRules.{FileText, doc_source_of}
use Rattle.file_rules.specs.PartRules.{PartLists}
use Rattle.doc_read.specs.declared.document.ReadFromText.{ReadFromText}
use Rattle.doc_read.specs.ReadParts.{AreDocumentParts, IsReadFromText}
use Rattle.doc_read.proofs.document.read_document_parts.Goals as goal

-- what is read of the text
abbrev IsReadOf : Contents → FileText → PartLists → Option ReadFromText → Type 0
IsReadOf contents text lists read =
    MatchOption read (¬ (Hold (rules_of_formats (doc_source_of text))))
    (λ (r : ReadFromText). Hold (rules_of_formats (doc_source_of text)) × IsReadFromText contents text lists r)

pub returns-in-Err : goal.returns-in-Err
returns-in-Err c = rw c.drop_then.ensures tt

pub returns-in_default : goal.returns-in_default
returns-in_default c =
    rw c.drop_then-in_default.ensures
    (subst (IsReadOf c.args.container.now c.args.text.now c.args.parts) c.in_default.is c.in-Ok.ensures)

pub returns : goal.returns
returns c =
    let contents = c.args.container.now in
    let text = c.args.text.now in
    let lists = c.args.parts in
    let read = subst (IsReadOf contents text lists) c.in-Some.is c.in-Ok.ensures in (
      read.0,
      subst (AreDocumentParts contents text lists) (sym c.parts_of.ensures) (record {
        sections = read.1.sections;
        has_sections = read.1.has_sections;
        columns_are = read.1.columns_are;
        cuts_are = refl;
        sheet_is = refl;
        carried_is = read.1.carried_is;
        bookmarks_are = refl;
      }),
    )
