use Rattle.doc_columns.proofs.ranges.is_ranged.Goals as goal

pub returns : goal.returns
returns c = record { style = c.has_style_number.ensures; field = c.has_field_byte.ensures }
