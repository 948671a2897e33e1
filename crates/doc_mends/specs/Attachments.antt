-- What is beside a unit, where its mark gets style 0.
use Rattle.std.specs.Prelude.{◌≡◌, option_map}
use Rattle.style_sheet.specs.Sheet.{Sheet}
use Rattle.doc_columns.specs.declared.attached.Attached.{Attached}
use Rattle.doc_mends.specs.NormalMarks.{normal_mark}

abbrev pub BecomesNormal : Sheet → Attached → Attached → Type 0
BecomesNormal sheet before after = after ≡ record before { mark = option_map (normal_mark sheet) before.mark }
