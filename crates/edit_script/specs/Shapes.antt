-- The seventeen shapes: what each command has besides its word, key by key.
use Rattle.std.specs.Prelude.{ℕ, ◌&&◌, ◌==◌, List, bytes_eq, codes, Option, Some, None, if◌then◌else◌}
use Rattle.serde_json.specs.Data.{Data}
use Rattle.serde_json.specs.Find.{as_bool, as_str}
use Rattle.edit_script.specs.declared.commands.Command.{Command}
use Rattle.edit_script.specs.declared.commands.Command.TheVariants.{Insert, Erase, Char, Plain, Para, Style, Field}
use Rattle.edit_script.specs.declared.commands.Command.TheVariants.{Note, Split, Merge, Sect, Row, StyleChar}
use Rattle.edit_script.specs.declared.commands.Command.TheVariants.{StylePara, Bookmark, Unmark, Save}
use Rattle.edit_script.specs.Json.{◌>>=◌}
use Rattle.edit_script.specs.Keys.{key, keys_in}
use Rattle.edit_script.specs.Values.{position, short_number, byte_number, story_of, string_units, cell_texts_of}
use Rattle.edit_script.specs.Values.{properties_of}
use Rattle.edit_script.specs.Values.{mode_of}

abbrev pub insert_of : Data → Option Command
insert_of value = do
  story ← key (codes "story") story_of value
  at ← key (codes "at") position value
  text ← key (codes "text") string_units value
  Some (Insert story at text)

abbrev pub erase_of : Data → Option Command
erase_of value = do
  story ← key (codes "story") story_of value
  from ← key (codes "from") position value
  to ← key (codes "to") position value
  Some (Erase story from to)

abbrev pub char_of : Data → Option Command
char_of value = do
  story ← key (codes "story") story_of value
  from ← key (codes "from") position value
  to ← key (codes "to") position value
  set ← key (codes "set") properties_of value
  Some (Char story from to set)

abbrev pub plain_of : Data → Option Command
plain_of value = do
  story ← key (codes "story") story_of value
  from ← key (codes "from") position value
  to ← key (codes "to") position value
  Some (Plain story from to)

abbrev pub para_of : Data → Option Command
para_of value = do
  story ← key (codes "story") story_of value
  at ← key (codes "at") position value
  set ← key (codes "set") properties_of value
  Some (Para story at set)

abbrev pub style_command_of : Data → Option Command
style_command_of value = do
  story ← key (codes "story") story_of value
  at ← key (codes "at") position value
  istd ← key (codes "istd") short_number value
  Some (Style story at istd)

abbrev pub field_of : Data → Option Command
field_of value = do
  story ← key (codes "story") story_of value
  at ← key (codes "at") position value
  kind ← key (codes "type") byte_number value
  code ← key (codes "code") string_units value
  result ← key (codes "result") string_units value
  Some (Field story at kind code result)

abbrev pub note_of : Data → Option Command
note_of value = do
  at ← key (codes "at") position value
  text ← key (codes "text") string_units value
  Some (Note at text)

abbrev pub split_of : Data → Option Command
split_of value = do
  story ← key (codes "story") story_of value
  at ← key (codes "at") position value
  Some (Split story at)

abbrev pub merge_of : Data → Option Command
merge_of value = do
  story ← key (codes "story") story_of value
  at ← key (codes "at") position value
  Some (Merge story at)

abbrev pub sect_of : Data → Option Command
sect_of value = do
  at ← key (codes "at") position value
  new ← key (codes "new") as_bool value
  set ← key (codes "set") properties_of value
  Some (Sect at new set)

abbrev pub row_of : Data → Option Command
row_of value = do
  story ← key (codes "story") story_of value
  at ← key (codes "at") position value
  width ← key (codes "width") short_number value
  cells ← key (codes "cells") cell_texts_of value
  Some (Row story at width cells)

abbrev pub style_char_of : Data → Option Command
style_char_of value = do
  istd ← key (codes "istd") short_number value
  set ← key (codes "set") properties_of value
  Some (StyleChar istd set)

abbrev pub style_para_of : Data → Option Command
style_para_of value = do
  istd ← key (codes "istd") short_number value
  set ← key (codes "set") properties_of value
  Some (StylePara istd set)

abbrev pub bookmark_of : Data → Option Command
bookmark_of value = do
  name ← key (codes "name") string_units value
  from ← key (codes "from") position value
  to ← key (codes "to") position value
  Some (Bookmark name from to)

abbrev pub unmark_of : Data → Option Command
unmark_of value = do
  name ← key (codes "name") string_units value
  Some (Unmark name)

abbrev pub save_of : Data → Option Command
save_of value = do
  mode ← key (codes "mode") mode_of value
  Some (Save mode)

-- the command of this name: its object has the keys of the shape and `do`, so many and so no other
abbrev pub command_with_name : List ℕ → Data → Option Command
command_with_name name value =
    if bytes_eq name (codes "insert") && keys_in value == 4 then insert_of value else
    if bytes_eq name (codes "erase") && keys_in value == 4 then erase_of value else
    if bytes_eq name (codes "char") && keys_in value == 5 then char_of value else
    if bytes_eq name (codes "plain") && keys_in value == 4 then plain_of value else
    if bytes_eq name (codes "para") && keys_in value == 4 then para_of value else
    if bytes_eq name (codes "style") && keys_in value == 4 then style_command_of value else
    if bytes_eq name (codes "field") && keys_in value == 6 then field_of value else
    if bytes_eq name (codes "note") && keys_in value == 3 then note_of value else
    if bytes_eq name (codes "split") && keys_in value == 3 then split_of value else
    if bytes_eq name (codes "merge") && keys_in value == 3 then merge_of value else
    if bytes_eq name (codes "sect") && keys_in value == 4 then sect_of value else
    if bytes_eq name (codes "row") && keys_in value == 5 then row_of value else
    if bytes_eq name (codes "stylechar") && keys_in value == 3 then style_char_of value else
    if bytes_eq name (codes "stylepara") && keys_in value == 3 then style_para_of value else
    if bytes_eq name (codes "bookmark") && keys_in value == 4 then bookmark_of value else
    if bytes_eq name (codes "unmark") && keys_in value == 2 then unmark_of value else
    if bytes_eq name (codes "save") && keys_in value == 2 then save_of value else
    None

-- the command that a value spells
abbrev pub command_of : Data → Option Command
command_of value = do
  name ← key (codes "do") as_str value
  command_with_name name value
