-- The columns are those of the text and the lists.
use Rattle.std.proofs.Common.{◌≡◌, ap, subst, Option, MatchOption}
use Rattle.doc_bits.specs.Rules.{Hold}
use Rattle.file_rules.specs.Source.{DocSource}
use Rattle.file_rules.specs.FormatRules.{rules_of_formats}
use Rattle.file_rules.specs.FileRules.{doc_source_of}
use Rattle.file_rules.specs.PartRules.{PartLists}
use Rattle.doc_read.specs.declared.columns.ReadColumns.{ReadColumns}
use Rattle.doc_read.specs.Items.{TextParts}
use Rattle.doc_read.specs.ReadParts.{AreColumnsOf}
use Rattle.doc_read.specs.Sections.{AreSectionMaps}
use Rattle.doc_read.proofs.document.read_from_text.Goals as goal

-- what is read of the columns
abbrev IsReadOf : DocSource → TextParts → Option ReadColumns → Type 0
IsReadOf source parts read =
    MatchOption read (¬ (Hold (rules_of_formats source)))
    (λ (r : ReadColumns). Hold (rules_of_formats source) × AreColumnsOf parts r)

pub returns-in_default : goal.returns-in_default
returns-in_default c =
    let source = doc_source_of c.args.text.now in
    let parts : TextParts = record {
      source = source;
      pieces = c.args.text.now.pieces;
      lists = c.args.parts.now;
      sections = c.in_ok-sections.sections;
    } in
    subst (IsReadOf source parts) c.in_default.is c.in_ok-columns.ensures

pub returns : goal.returns
returns c =
    let source = doc_source_of c.args.text.now in
    let parts : TextParts = record {
      source = source;
      pieces = c.args.text.now.pieces;
      lists = c.args.parts.now;
      sections = c.in_ok-sections.sections;
    } in
    let read = subst (IsReadOf source parts) c.in-Some.is c.in_ok-columns.ensures in
    let sections : c.parts.inside.sections ≡ c.args.parts.now.sections = ap (λ (p : PartLists). p.sections)
    c.parts.view_is in (
      read.0,
      record {
        sections = c.in_ok-sections.sections;
        has_sections =
            subst (λ list. AreSectionMaps c.args.text.now.wd list c.in_ok-sections.sections) sections
            c.in_ok-sections.ensures;
        columns_are = read.1;
        carried_is = c.in_ok-carried.ensures;
      },
    )
