-- The style sheet of a joined document: the slots of the first, and then those of the second.
use Rattle.std.specs.Prelude.{ℕ, List, ◌++◌, length, map, Option, option_map}
use Rattle.std.specs.List.{range_with_len}
use Rattle.style_sheet.specs.declared.styles.Style.{Style}
use Rattle.style_sheet.specs.declared.styles.Kind.{Kind}
use Rattle.style_sheet.specs.Sheet.{Sheet, style_at}
use Rattle.style_sheet.specs.Changes.{kind_characters, with_characters, with_kind}
use Rattle.doc_join.specs.declared.renumbering.Renumbering.{Renumbering}
use Rattle.doc_join.specs.Numbers.{base_behind, renumbered_next, numbers_of_first, numbers_of_second}
use Rattle.doc_join.specs.Settings.{renumbered_chp}

-- the properties of a style
abbrev pub renumbered_kind : Renumbering → Kind → Kind
renumbered_kind numbers kind = with_characters kind (renumbered_chp numbers (kind_characters kind))

-- a style of the first document. Profile: a base or a next that was beyond its sheet stays as it is
abbrev pub style_from_first : Renumbering → Style → Style
style_from_first numbers style = with_kind style (renumbered_kind numbers style.kind)

-- a style of the second document, which had this number
abbrev pub style_from_second : Renumbering → ℕ → Style → Style
style_from_second numbers istd style = record style {
  base = base_behind numbers style.base;
  next = renumbered_next numbers istd style.next;
  kind = renumbered_kind numbers style.kind;
}

abbrev pub slot_from_first : Renumbering → Option Style → Option Style
slot_from_first numbers slot = option_map (style_from_first numbers) slot

abbrev pub slot_from_second : Renumbering → ℕ → Option Style → Option Style
slot_from_second numbers istd slot = option_map (style_from_second numbers istd) slot

-- the slots of the first document
abbrev pub slots_from_first : Renumbering → Sheet → List (Option Style)
slots_from_first numbers first = map (slot_from_first numbers) first.styles

-- the slots of the second document up to before a number
abbrev pub slots_from_second : Renumbering → Sheet → ℕ → List (Option Style)
slots_from_second numbers second count =
    map (λ istd. slot_from_second numbers istd (style_at second istd)) (range_with_len 0 count)

-- the header is that of the first
abbrev pub joined_sheet : Sheet → Sheet → Sheet
joined_sheet first second = record {
  head = first.head;
  styles =
      slots_from_first (numbers_of_first first) first
      ++ slots_from_second (numbers_of_second first second) second (length second.styles);
}
