-- Rule 52: the field characters of the three stories. Each is checked by its table, and by the unit at its CP.
use Rattle.std.specs.Prelude.{◌≡◌, ◌⊎◌, ℕ, ◌+◌, ◌*◌, List, length, slice_get, slice_index, IfSome}
use Rattle.doc_bits.specs.declared.places.Where.TheVariants as stands
use Rattle.doc_bits.specs.Plc.{PlcPart}
use Rattle.doc_bits.specs.Rules.{Rules, rule}
use Rattle.doc_bits.specs.Places.{Place, rules_in}
use Rattle.doc_parts.specs.declared.lists.Fld.{Fld}
use Rattle.doc_parts.specs.Table.{plc_part, IsEmptyOrWhole, IsMalformedPart, IsValidEntry, spelled_entry}
use Rattle.doc_parts.specs.Fields.{fld_form, fld_cps, AreFieldCharacters}
use Rattle.fib_form.specs.declared.table_parts.TablePart.{TablePart}
use Rattle.fib_form.specs.declared.table_parts.TablePart.TheVariants.{PlcfFldMom, PlcfFldHdr, PlcfFldFtn}
use Rattle.fib_form.specs.declared.stories.StoryKind.{StoryKind}
use Rattle.fib_form.specs.declared.stories.StoryKind.TheVariants.{Main, Notes, Heads}
use Rattle.file_rules.specs.Source.{DocSource, part_place, table_part_bytes, story_length, story_units}
use Rattle.file_rules.specs.Rows.{HasWrongRow}

-- an entry is in order, and the unit that it says is at its CP of the story
pub record IsFieldThere (story : List ℕ) (table : PlcPart) (k : ℕ) : Type 0 where
  pub right : IsValidEntry fld_form (fld_cps (length story)) table k
  pub unit : IfSome (spelled_entry fld_form table k) (λ fld. slice_index story fld.cp ≡ fld.unit)

-- an entry is not so, at the place of its CP
abbrev pub HasWrongField : List ℕ → PlcPart → ℕ → ℕ → Type 0
HasWrongField story table at = HasWrongRow table.count (λ k. at + 4 * k) (λ k. ¬ (IsFieldThere story table k))

-- the table of a story breaks the rule
abbrev pub BreaksFields : List ℕ → List ℕ → ℕ → ℕ → Type 0
BreaksFields story bytes at place =
    let table = plc_part 2 bytes in IsMalformedPart (IsEmptyOrWhole table) at place ⊎ HasWrongField story table at place

-- the tables: PlcfFldMom, PlcfFldFtn, PlcfFldHdr
abbrev pub field_part : StoryKind → TablePart
field_part Main = PlcfFldMom
field_part Notes = PlcfFldFtn
field_part Heads = PlcfFldHdr

abbrev pub BreaksStoryFields : DocSource → StoryKind → ℕ → Type 0
BreaksStoryFields source story =
    let part = field_part story in
    BreaksFields (story_units source story) (table_part_bytes source part) (part_place source part)

-- one of the three does; they are in any order
abbrev pub BreaksAllFields : DocSource → ℕ → Type 0
BreaksAllFields source place =
    BreaksStoryFields source Main place ⊎ (BreaksStoryFields source Notes place ⊎ BreaksStoryFields source Heads place)

abbrev pub rules_of_fields : DocSource → Rules Place
rules_of_fields source = rules_in stands.Table (rule 52 (BreaksAllFields source))

-- the field characters of a story
abbrev pub HasStoryFields : DocSource → StoryKind → List Fld → Type 0
HasStoryFields source story = AreFieldCharacters (table_part_bytes source (field_part story)) (story_length source
    story)

-- an entry of a list of them names another unit than the one in the text
abbrev pub HasOtherUnit : List ℕ → List Fld → ℕ → Type 0
HasOtherUnit story list k = ¬ (IfSome (slice_get list k) (λ fld. slice_index story fld.cp ≡ fld.unit))
