use Rattle.std.proofs.Common.{◌≡◌, ◌∙◌, ℕ, Option, MatchOption, subst}
use Rattle.doc_bits.specs.Rules.{Rules, Hold, IsFirstOffset}
use Rattle.direct_props.specs.declared.rules.PageFault.{PageFault}
use Rattle.doc_bits.specs.declared.places.Where.TheVariants.{Wd}
use Rattle.doc_bits.proofs.Public.{hold_in}
use Rattle.fkp_pages.specs.declared.kind.PageKind.TheVariants.{Papx}
use Rattle.direct_props.specs.PageRules.{page_rules}
use Rattle.fib_form.specs.declared.table_parts.TablePart.TheVariants.{PlcfBtePapx}
use Rattle.file_rules.specs.Source.{table_part_bytes}
use Rattle.file_rules.specs.FormatRules.{paragraph_end_places}
use Rattle.file_rules.proofs.RefusalLemmas.{refused-page}
use Rattle.file_rules.proofs.RightPlaces.{bin_tables}
use Rattle.file_rules.proofs.formats.check_marks.Goals as goal

-- what a check of these rules answers
abbrev IsJudged : Rules ℕ → Option PageFault → Type 0
IsJudged rules fault = MatchOption fault (Hold rules) (λ (f : PageFault). IsFirstOffset rules f.rule f.offset)

pub check_places-requires-clause-table : goal.check_places-requires-clause-table
check_places-requires-clause-table c = rw c.part-paragraphs.ensures.bytes (bin_tables c.args.source.now
    c.requires.bins).1

pub returns-in-None : goal.returns-in-None
returns-in-None c =
    let source = c.args.source.now in
    let rules = page_rules Papx source.wd (table_part_bytes source PlcfBtePapx) (paragraph_end_places source
    c.args.sections.now) in
    let ends : c.deref.result.now ≡ paragraph_end_places source c.args.sections.now = c.deref.ensures.value ∙
    c.in_ok-ends.ensures in
    let judged = subst (IsJudged (page_rules Papx c.wd.result.now c.part-paragraphs.result.now c.deref.result.now))
    c.in-None.is c.in_ok-wrong.ensures.judged in
    hold_in Wd rules (rw (c.part-paragraphs.ensures.bytes, c.wd.ensures.bytes, ends) at judged)

pub returns : goal.returns
returns c =
    let source = c.args.source.now in
    let rules = page_rules Papx source.wd (table_part_bytes source PlcfBtePapx) (paragraph_end_places source
    c.args.sections.now) in
    let ends : c.deref.result.now ≡ paragraph_end_places source c.args.sections.now = c.deref.ensures.value ∙
    c.in_ok-ends.ensures in
    let judged = subst (IsJudged (page_rules Papx c.wd.result.now c.part-paragraphs.result.now c.deref.result.now))
    c.in-Some.is c.in_ok-wrong.ensures.judged in
    let first = rw (c.part-paragraphs.ensures.bytes, c.wd.ensures.bytes, ends) at judged in
    rw c.refused_page.ensures (refused-page rules c.in-Some.fault first)
