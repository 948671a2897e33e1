-- How a paragraph looks apart from its text, by the values in effect of its mark. Notes have no values here.
use Rattle.std.specs.Prelude.{ℕ, ◌+◌, ◌==◌, nat_le, nat_lt, Bool, false, not, ◌&&◌, ◌||◌, List, [], length, Option, Some, None}
use Rattle.std.specs.Prelude.{is_some, min, if◌then◌else◌}
use Rattle.list_numbers.specs.declared.paragraph_values.ListLabel.{ListLabel}
use Rattle.list_numbers.specs.declared.paragraph_values.ParagraphValues.{ParagraphValues}
use Rattle.doc_view.specs.Layout.{is_in_table}
use Rattle.doc_view.specs.Seen.{Paragraph}
use Rattle.doc_places.specs.declared.lists.ListItem.{ListItem}
use Rattle.doc_places.specs.declared.looks.Look.{Look}

-- [MS-DOC] sprmPOutLvl: 0 to 8 are the levels of headings
abbrev pub level_of_outline : Option ℕ → ℕ
level_of_outline None = 0
level_of_outline (Some outline) = if nat_lt outline 9 then outline + 1 else 0

-- a heading is outside of tables and has more than its mark
abbrev pub heading_level : Option ℕ → Bool → Bool → ℕ
heading_level outline in_table is_text = if is_text && not in_table then level_of_outline outline else 0

-- the item that a paragraph with this label is. Profile: one of a level behind the sixth is at the sixth
abbrev pub labelled_item : Option ListLabel → Option ListItem
labelled_item None = None
labelled_item (Some label) = Some (record { level = min label.level 5; is_ordered = not label.is_bullet })

-- an item is outside of tables and no heading
abbrev pub item_of_label : Option ListLabel → Bool → ℕ → Option ListItem
item_of_label label in_table level = if in_table || not (level == 0) then None else labelled_item label

-- by its values, where they are in a table or not, and have more than a mark or not
abbrev pub look_of : Option ParagraphValues → Bool → Bool → Look
look_of None in_table is_text = record { level = 0; right_to_left = false; breaks_page = false; item = None }
look_of (Some values) in_table is_text = record {
  level = heading_level values.outline in_table is_text;
  right_to_left = values.right_to_left;
  breaks_page = values.breaks_page && not in_table;
  item = item_of_label values.label in_table (heading_level values.outline in_table is_text);
}

abbrev pub look_in : Paragraph → Look
look_in paragraph = look_of paragraph.values (is_in_table paragraph.standing) (nat_le 2 (length paragraph.items))

-- the item of a list that a paragraph is
abbrev pub item_in : Paragraph → Option ListItem
item_in paragraph = (look_in paragraph).item

-- the units of a label that are shown: a bullet is that of the list itself where the paragraph is an item
abbrev pub shown_label_units : Option ListItem → Option ListLabel → List ℕ
shown_label_units item None = []
shown_label_units item (Some label) = if is_some item && label.is_bullet then [] else label.units

abbrev pub label_units : Option ListItem → Option ParagraphValues → List ℕ
label_units item None = []
label_units item (Some values) = shown_label_units item values.label

abbrev pub units_of_label : Paragraph → List ℕ
units_of_label paragraph = label_units (item_in paragraph) paragraph.values
