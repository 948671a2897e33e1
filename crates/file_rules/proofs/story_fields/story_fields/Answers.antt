use Rattle.file_rules.proofs.story_fields.story_fields.Goals as goal

pub returns : goal.returns
returns c =
    rw (
      c.units.ensures.count,
      c.units.ensures.units,
      c.place.ensures.place,
      c.part.ensures.bytes,
      c.fields_of-part.ensures,
    ) at c.judged_fields.ensures
