use Rattle.file_rules.proofs.notes.judged_refs.Goals as goal

pub returns-in-Ok : goal.returns-in-Ok
returns-in-Ok c = (
  rw (c.part-plc.ensures.bytes, c.place-at.ensures.place, c.story_len.ensures.count) at c.in-Ok.ensures.0,
  λ _. rw (c.part-plc.ensures.bytes, c.story_len.ensures.count) at c.in-Ok.ensures.1,
)
