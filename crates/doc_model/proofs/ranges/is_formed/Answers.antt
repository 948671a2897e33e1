use Rattle.doc_model.proofs.ranges.is_formed.Goals as goal

pub returns : goal.returns
returns c =
    record {
      maps = c.requires;
      unit = c.is_word.ensures;
      style = c.has_style_number.ensures;
      field =
          c.has_field_byte.ensures;
    }
