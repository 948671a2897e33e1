-- How the field characters of a text are gone through: which fields are open after each. Nesting says what it comes to.
use Rattle.std.specs.Prelude.{ℕ, ◌==◌, nat_lt, Bool, true, false, List, [], ◌∷◌, length, Option, Some, None}
use Rattle.std.specs.Prelude.{if◌then◌else◌, is_some}
use Rattle.doc_model.specs.declared.item.Item.{Item}

-- for each open field, the innermost first, whether its separator has been met
abbrev pub Open : Type 0
Open = List Bool

-- after a beginning, 0x13, where one field more may be open
abbrev pub begun : ℕ → Open → Option Open
begun limit fields = if nat_lt (length fields) limit then Some (false ∷ fields) else None

-- after a separator, 0x14, of which a field has one
abbrev pub separated : Open → Option Open
separated [] = None
separated (true ∷ fields) = None
separated (false ∷ fields) = Some (true ∷ fields)

-- after an end, 0x15
abbrev pub field_ended : Open → Option Open
field_ended [] = None
field_ended (field ∷ fields) = Some fields

-- after a field character
abbrev pub after_field_character : ℕ → ℕ → Open → Option Open
after_field_character limit unit fields =
    if unit == 0x13 then begun limit fields else
    if unit == 0x14 then separated fields else
    if unit == 0x15 then field_ended fields else None

-- after a field character where none was wrong before it
abbrev pub after_next : ℕ → ℕ → Option Open → Option Open
after_next limit unit None = None
after_next limit unit (Some fields) = after_field_character limit unit fields

-- after all of these field characters
abbrev pub after_all : ℕ → List ℕ → Option Open → Option Open
after_all limit [] fields = fields
after_all limit (unit ∷ units) fields = after_all limit units (after_next limit unit fields)

-- after an item, which is a field character where it has a byte
abbrev pub after_item : ℕ → Item → Open → Option Open
after_item limit item fields = if is_some item.fld then after_field_character limit item.unit fields else Some fields
