use Rattle.std.proofs.Common.{◌≡◌, ◌<◌, refl, length, below_more, arith}
use Rattle.std.proofs.lemmas.Bool.{false≢true}
use Rattle.doc_parts.specs.declared.lists.Sed.{Sed}
use Rattle.doc_parts.specs.Sections.{place_of_fc_sepx}
use Rattle.fib_form.specs.declared.table_parts.TablePart.TheVariants.{PlcfSed}
use Rattle.fib_form.specs.declared.stories.StoryKind.TheVariants.{Main}
use Rattle.file_rules.specs.Source.{part_place, table_part_bytes, story_length}
use Rattle.file_rules.specs.SectionRules.{section_fc, LacksSepx}
use Rattle.file_rules.proofs.RowLemmas.{first_row, index_of_get}
use Rattle.file_rules.proofs.SectionLemmas.{sections_fit}
use Rattle.file_rules.proofs.sections.missing_sepx.Goals as goal

pub fc_sepx_place-requires-clause-addressed : goal.fc_sepx_place-requires-clause-addressed
fc_sepx_place-requires-clause-addressed c =
    let source = c.args.source.now in
    let list = c.args.list.now in
    let some : 0 < length list = omega (arith, c.len-k-end.ensures) in
    let fit = sections_fit (table_part_bytes source PlcfSed) (story_length source Main) list c.requires some in
    omega (arith, c.place-at.ensures.addressed, c.place-at.ensures.place, c.len.ensures)

pub returns-then-lacks_sepx : goal.returns-then-lacks_sepx
returns-then-lacks_sepx c =
    let source = c.args.source.now in
    let list = c.args.list.now in
    let at = part_place source PlcfSed in
    let fc : section_fc list c.loop-k.k ≡ c.get-fc.result.1 = index_of_get (λ (sed : Sed). sed.sepx) list c.loop-k.k _
    c.get-fc.ensures in
    let lacks : LacksSepx source.wd (section_fc list c.loop-k.k) = rw (fc, ← c.wd-wd.ensures.bytes)
    (c.if-lacks_sepx.ensures.0 refl) in
    rw (c.fc_sepx_place.ensures, c.place-at.ensures.place, c.len.ensures)
    (first_row (place_of_fc_sepx at (length list)) (λ k. LacksSepx source.wd (section_fc list k)) (length list)
    c.loop-k.k (λ j k less. omega arith) (omega (arith, c.len-k-end.ensures)) c.loop-k.invariant lacks)

pub loop-k-preserved : goal.loop-k-preserved
loop-k-preserved c =
    let source = c.args.source.now in
    let list = c.args.list.now in
    let fc : section_fc list c.loop-k.k ≡ c.get-fc.result.1 = index_of_get (λ (sed : Sed). sed.sepx) list c.loop-k.k _
    c.get-fc.ensures in
    below_more (λ k. ¬ (LacksSepx source.wd (section_fc list k))) c.loop-k.k c.loop-k.invariant
    (λ lacks. false≢true (c.if-lacks_sepx.ensures.1 (rw (c.wd-wd.ensures.bytes, ← fc) lacks)))
