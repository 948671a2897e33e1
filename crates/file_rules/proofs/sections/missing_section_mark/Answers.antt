use Rattle.std.proofs.Common.{◌≡◌, ◌+◌, ◌*◌, length, below_more, arith}
use Rattle.doc_parts.specs.declared.lists.Sed.{Sed}
use Rattle.fib_form.specs.declared.table_parts.TablePart.TheVariants.{PlcfSed}
use Rattle.fib_form.specs.declared.stories.StoryKind.TheVariants.{Main}
use Rattle.file_rules.specs.Source.{part_place, table_part_bytes, story_length, story_units}
use Rattle.file_rules.specs.SectionRules.{section_begin, BeginsElsewhere}
use Rattle.file_rules.proofs.RowLemmas.{first_row, index_of_get}
use Rattle.file_rules.proofs.SectionLemmas.{section_within, section_later}
use Rattle.file_rules.proofs.sections.missing_section_mark.Goals as goal

pub overflow_sub-start : goal.overflow_sub-start
overflow_sub-start c =
    let source = c.args.source.now in
    let list = c.args.list.now in
    let begin : section_begin list c.loop-k.k ≡ c.get-start.result.0 = index_of_get (λ (sed : Sed). sed.start) list
    c.loop-k.k _ c.get-start.ensures in
    let later = section_later (table_part_bytes source PlcfSed) (story_length source Main) list c.requires c.loop-k.k
    (omega (arith, c.len-k-end.ensures)) (omega arith) in
    omega arith

pub bounds-units-start : goal.bounds-units-start
bounds-units-start c =
    let source = c.args.source.now in
    let list = c.args.list.now in
    let begin : section_begin list c.loop-k.k ≡ c.get-start.result.0 = index_of_get (λ (sed : Sed). sed.start) list
    c.loop-k.k _ c.get-start.ensures in
    let later = section_later (table_part_bytes source PlcfSed) (story_length source Main) list c.requires c.loop-k.k
    (omega (arith, c.len-k-end.ensures)) (omega arith) in
    let within = section_within (table_part_bytes source PlcfSed) (story_length source Main) list c.requires c.loop-k.k
    (omega (arith, c.len-k-end.ensures)) in
    omega (arith, c.units-units.ensures.count)

pub returns-then-units-start-ne-SECTION_MARK : goal.returns-then-units-start-ne-SECTION_MARK
returns-then-units-start-ne-SECTION_MARK c =
    let source = c.args.source.now in
    let list = c.args.list.now in
    let at = part_place source PlcfSed in
    let begin : section_begin list c.loop-k.k ≡ c.get-start.result.0 = index_of_get (λ (sed : Sed). sed.start) list
    c.loop-k.k _ c.get-start.ensures in
    let wrong : BeginsElsewhere (story_units source Main) list c.loop-k.k = record {
      later = c.loop-k.auto.k;
      other = rw (begin, ← c.units-units.ensures.units) c.if-units-start-ne-SECTION_MARK.true;
    } in
    rw c.place-at.ensures.place
    (first_row (λ k. at + 4 * k) (BeginsElsewhere (story_units source Main) list) (length list) c.loop-k.k
    (λ j k less. omega arith) (omega (arith, c.len-k-end.ensures)) c.loop-k.invariant wrong)

pub loop-k-preserved : goal.loop-k-preserved
loop-k-preserved c =
    let source = c.args.source.now in
    let list = c.args.list.now in
    let begin : section_begin list c.loop-k.k ≡ c.get-start.result.0 = index_of_get (λ (sed : Sed). sed.start) list
    c.loop-k.k _ c.get-start.ensures in
    below_more (λ k. ¬ (BeginsElsewhere (story_units source Main) list k)) c.loop-k.k c.loop-k.invariant
    (λ wrong. wrong.other (rw (begin, ← c.units-units.ensures.units) c.if-units-start-ne-SECTION_MARK.false))
