use Rattle.std.proofs.Common.{refl, arith}
use Rattle.doc_model.specs.Collected.{joined_texts}
use Rattle.save_laws.specs.Slots.{note_slots}
use Rattle.save_laws.specs.Ends.{ends_of}
use Rattle.session_text.proofs.StepLemmas.{head_spliced, spliced_count, some_any, story_slots_counted}
use Rattle.session_text.proofs.steps.head_step.Goals as goal

pub returns-clause-step : goal.returns-clause-step
returns-clause-step c document heads are spliced =
    let stories = c.args.stories in
    let ends = ends_of stories.ends in
    let other = note_slots document ends in
    let counted = spliced_count document.heads heads c.args.from c.args.to c.args.fresh spliced in
    let slots =
    story_slots_counted document.notes stories.ends.notes stories.notes c.slots_of-notes.result are.notes
    c.slots_of-notes.ensures.count in
    let cut =
    c.cut-cut.ensures (joined_texts document.heads) (joined_texts heads) other (record {
      count = are.heads;
      others = some_any other c.slots_of-notes.result slots;
    }) (omega (arith, counted, c.len-count.ensures.len)) in
    head_spliced document stories _ _ c.cut-cut.result heads c.args.from c.args.to c.len-count.result c.args.fresh are
    spliced c.len-count.ensures.len (omega (arith, are.main, slots)) refl cut refl
