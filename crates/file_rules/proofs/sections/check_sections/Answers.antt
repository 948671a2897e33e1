use Rattle.std.proofs.Common.{inl, inr, subst}
use Rattle.doc_bits.specs.Rules.{LeastOrNone}
use Rattle.doc_bits.specs.declared.places.Where.TheVariants.{Wd, Table}
use Rattle.fib_form.specs.declared.table_parts.TablePart.TheVariants.{PlcfSed}
use Rattle.fib_form.specs.declared.stories.StoryKind.TheVariants.{Main}
use Rattle.file_rules.specs.Source.{part_place, story_units}
use Rattle.file_rules.specs.SectionRules.{BreaksSectionMarks, BreaksSepxs, BreaksSepxLists}
use Rattle.file_rules.proofs.RefusalLemmas.{refused-rule, holds-rule}
use Rattle.file_rules.proofs.sections.check_sections.Goals as goal

pub returns-in-Some : goal.returns-in-Some
returns-in-Some c =
    let source = c.args.source.now in
    let marks = BreaksSectionMarks (story_units source Main) c.args.list.now (part_place source PlcfSed) in
    inl (refused-rule Table 34 marks c.in-Some.offset c.in-Some.ensures)

pub returns-in-Some-missing_sepx : goal.returns-in-Some-missing_sepx
returns-in-Some-missing_sepx c =
    let source = c.args.source.now in
    let list = c.args.list.now in
    let at = part_place source PlcfSed in
    let marks = BreaksSectionMarks (story_units source Main) list at in
    let sepxs = BreaksSepxs source.wd list at in
    inr (
      holds-rule Table 34 marks c.in_default.ensures,
      inl (refused-rule Table 35 sepxs c.in-Some-missing_sepx.offset
          c.in-Some-missing_sepx.ensures),
    )

pub returns-in-Some-2 : goal.returns-in-Some-2
returns-in-Some-2 c =
    let source = c.args.source.now in
    let list = c.args.list.now in
    let at = part_place source PlcfSed in
    let marks = BreaksSectionMarks (story_units source Main) list at in
    let sepxs = BreaksSepxs source.wd list at in
    let lists = BreaksSepxLists source.wd list in
    inr (
      holds-rule Table 34 marks c.in_default.ensures,
      inr (
        holds-rule Table 35 sepxs
            c.in_default-missing_sepx.ensures,
        refused-rule Wd 36 lists c.in-Some-2.offset
            (subst (LeastOrNone lists) c.in-Some-2.is c.in_ok-offset.ensures),
      ),
    )

pub returns : goal.returns
returns c =
    let source = c.args.source.now in
    let list = c.args.list.now in
    let at = part_place source PlcfSed in (
      holds-rule Table 34 (BreaksSectionMarks (story_units source Main) list at) c.in_default.ensures,
      (
        holds-rule Table 35 (BreaksSepxs source.wd list at) c.in_default-missing_sepx.ensures,
        holds-rule Wd 36 (BreaksSepxLists source.wd list)
            (subst (LeastOrNone (BreaksSepxLists source.wd list)) c.in_default-2.is c.in_ok-offset.ensures),
      ),
    )
