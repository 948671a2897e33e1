use Rattle.std.proofs.Common.{refl, arith}
use Rattle.doc_model.specs.Collected.{joined_texts}
use Rattle.save_laws.specs.Slots.{head_slots}
use Rattle.save_laws.specs.Ends.{ends_of}
use Rattle.session_text.proofs.StepLemmas.{note_spliced, spliced_count, some_any, story_slots_counted}
use Rattle.session_text.proofs.steps.note_step.Goals as goal

pub returns-clause-step : goal.returns-clause-step
returns-clause-step c document notes are spliced =
    let stories = c.args.stories in
    let ends = ends_of stories.ends in
    let other = head_slots document ends in
    let counted = spliced_count document.notes notes c.args.from c.args.to c.args.fresh spliced in
    let slots =
    story_slots_counted document.heads stories.ends.heads stories.heads c.slots_of-heads.result are.heads
    c.slots_of-heads.ensures.count in
    let cut =
    c.cut-cut.ensures (joined_texts document.notes) (joined_texts notes) other (record {
      count = are.notes;
      others = some_any other c.slots_of-heads.result slots;
    }) (omega (arith, counted, c.len-count.ensures.len)) in
    note_spliced document stories _ _ c.cut-cut.result notes c.args.from c.args.to c.len-count.result c.args.fresh are
    spliced c.len-count.ensures.len refl refl cut refl
