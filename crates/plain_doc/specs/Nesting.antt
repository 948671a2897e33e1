-- [MS-DOC] Fields: 0x13, an instruction, perhaps 0x14 and a result, 0x15. Fields may be in both parts. No stack is
-- walked here: the field characters of a text are fields one after another, at most so deep.
use Rattle.std.specs.Prelude.{◌≡◌, ◌⊎◌, ℕ, suc, zero, ◌+◌, ◌<◌, List, [], ◌∷◌, ◌++◌, length, take, map, filter}
use Rattle.std.specs.Prelude.{is_some, Option, Some, None}
use Rattle.std.specs.List.{All, flat_map}
use Rattle.doc_model.specs.declared.item.Item.{Item}

-- the result of a field, after its separator 0x14, where there is one
abbrev pub result_part : Option (List ℕ) → List ℕ
result_part None = []
result_part (Some result) = 0x14 ∷ result

-- a field, whose instruction and result are such
pub record IsField (such : List ℕ → Type 0) (units : List ℕ) : Type 0 where
  pub instruction : List ℕ
  pub result : Option (List ℕ)
  pub instruction_is : such instruction
  pub result_is : (inner : List ℕ) → result ≡ Some inner → such inner
  pub spelt : units ≡ 0x13 ∷ (instruction ++ (result_part result ++ 0x15 ∷ []))

-- fields one after another
pub record JoinsFields (such : List ℕ → Type 0) (units : List ℕ) : Type 0 where
  pub fields : List (List ℕ)
  pub each : All (IsField such) fields
  pub joined : units ≡ flat_map (λ field. field) fields

-- fields one after another, with at most so many open at once
unfoldable pub AreNestedFields : ℕ → List ℕ → Type 0
AreNestedFields zero units = units ≡ []
AreNestedFields (suc depth) units = JoinsFields (AreNestedFields depth) units

-- units that begin such fields
pub record CanBecomeFields (depth : ℕ) (units : List ℕ) : Type 0 where
  pub rest : List ℕ
  pub nests : AreNestedFields depth (units ++ rest)

-- Profile: the most fields that are open at once
abbrev pub most_open : ℕ
most_open = 128

-- the units of the items that have a field byte; others, also 0x13 to 0x15, are text
abbrev pub field_characters : List Item → List ℕ
field_characters text = map (λ item. item.unit) (filter (λ item. is_some item.fld) text)

-- an item from which on no items could come that complete the fields, or the end of a text that leaves one open
abbrev pub BreaksNesting : List Item → ℕ → Type 0
BreaksNesting text place =
    ((place < length text) × ¬ (CanBecomeFields most_open (field_characters (take (place + 1) text)))) ⊎
    ((place ≡ length text) × ¬ (AreNestedFields most_open (field_characters text)))
