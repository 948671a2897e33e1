-- What is beside the units of a joined document.
use Rattle.std.specs.Prelude.{◌<◌, option_map}
use Rattle.std.specs.Option.{ForSome}
use Rattle.doc_columns.specs.declared.attached.Attached.{Attached}
use Rattle.doc_join.specs.declared.renumbering.Renumbering.{Renumbering}
use Rattle.doc_join.specs.Texts.{renumbered_mark}

-- with the style of its mark renumbered
abbrev pub renumbered_attached : Renumbering → Attached → Attached
renumbered_attached numbers attached = record attached { mark = option_map (renumbered_mark numbers) attached.mark }

-- the style of its mark is within the sheet
abbrev pub HasOwnMark : Renumbering → Attached → Type 0
HasOwnMark numbers attached = ForSome attached.mark (λ mark. mark.istd < numbers.slots)
