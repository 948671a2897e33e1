use Rattle.std.proofs.Common.{ℕ, Option, MatchOption, subst}
use Rattle.doc_bits.specs.Rules.{Rules, Hold, IsFirstOffset}
use Rattle.direct_props.specs.declared.rules.PageFault.{PageFault}
use Rattle.doc_bits.specs.declared.places.Where.TheVariants.{Wd}
use Rattle.doc_bits.proofs.Public.{hold_in}
use Rattle.fkp_pages.specs.declared.kind.PageKind.TheVariants.{Chpx}
use Rattle.direct_props.specs.PageRules.{page_rules}
use Rattle.fib_form.specs.declared.table_parts.TablePart.TheVariants.{PlcfBteChpx}
use Rattle.file_rules.specs.Source.{table_part_bytes}
use Rattle.file_rules.specs.FormatRules.{judged_places}
use Rattle.file_rules.proofs.RefusalLemmas.{refused-page}
use Rattle.file_rules.proofs.RightPlaces.{bin_tables}
use Rattle.file_rules.proofs.formats.check_characters.Goals as goal

-- what a check of these rules answers
abbrev IsJudged : Rules ℕ → Option PageFault → Type 0
IsJudged rules fault = MatchOption fault (Hold rules) (λ (f : PageFault). IsFirstOffset rules f.rule f.offset)

pub check_rows-requires-clause-table : goal.check_rows-requires-clause-table
check_rows-requires-clause-table c = rw c.part-characters.ensures.bytes (bin_tables c.args.source.now c.requires).0

pub returns-in-None : goal.returns-in-None
returns-in-None c =
    let source = c.args.source.now in
    let rules = page_rules Chpx source.wd (table_part_bytes source PlcfBteChpx) (judged_places source) in
    let judged = subst (IsJudged (page_rules Chpx c.wd.result.now c.part-characters.result.now
    c.judged_places-all.result)) c.in-None.is c.in_ok-wrong.ensures.judged in
    hold_in Wd rules (rw (c.part-characters.ensures.bytes, c.wd.ensures.bytes, c.judged_places-all.ensures.places) at
    judged)

pub returns-in-Some : goal.returns-in-Some
returns-in-Some c =
    let source = c.args.source.now in
    let rules = page_rules Chpx source.wd (table_part_bytes source PlcfBteChpx) (judged_places source) in
    let judged = subst (IsJudged (page_rules Chpx c.wd.result.now c.part-characters.result.now
    c.judged_places-all.result)) c.in-Some.is c.in_ok-wrong.ensures.judged in
    let first = rw (c.part-characters.ensures.bytes, c.wd.ensures.bytes, c.judged_places-all.ensures.places) at judged
    in
    rw c.refused_page.ensures (refused-page rules c.in-Some.fault first)
