-- A file that is accepted names no place of Data, so no row of its document gets cells.
use Rattle.std.specs.Prelude.{IsTrue, slice_index, slice_index_or, slice_range, slice_get, MatchOption, is_some, replicate}
use Rattle.std.proofs.Common.{◌≡◌, ◌∙◌, sym, ap, subst, refl, inl, inr, ℕ, ◌+◌, ◌-◌, ◌<◌, ◌≤◌, ◌==◌, Bool, true, false, ◌||◌}
use Rattle.std.proofs.Common.{List, [], ◌∷◌, ◌++◌, length, map, take, drop, get_or, Option, Some, None, arith}
use Rattle.std.specs.Option.{option_and_then, unwrap_or}
use Rattle.std.specs.FinMap.{empty}
use Rattle.std.proofs.lemmas.Bool.{cases_lt, eqb-true}
use Rattle.std.proofs.lemmas.Option.{slice_get-get_or}
use Rattle.std.proofs.lemmas.List.{get_or-take, get_or-drop, get_or-replicate, get_or_past}
use Rattle.std.proofs.lemmas.List.{length-map, length-replicate, length-take, drop-take, drop-drop}
use Rattle.doc_bits.specs.Rules.{Nowhere}
use Rattle.doc_bits.specs.declared.places.Story.{Story}
use Rattle.doc_bits.specs.declared.places.Story.TheVariants.{Main}
use Rattle.text_codes.specs.Paragraph.{cell_mark, paragraph_mark, is_paragraph_end}
use Rattle.sprm_table.specs.Sprm.{Prl, HasSprmFaultAt}
use Rattle.sprm_table.specs.Codes.{IsRefusedIn}
use Rattle.prop_map.specs.Formed.{paragraph_groups}
use Rattle.prop_map.specs.Modifiers.{no_modifier}
use Rattle.fib_form.specs.declared.table_parts.TablePart.TheVariants.{PlcfBtePapx}
use Rattle.fib_form.specs.declared.stories.StoryKind.TheVariants as stories
use Rattle.fkp_pages.specs.declared.kind.PageKind.TheVariants.{Papx}
use Rattle.fkp_pages.specs.declared.kind.RunAnswer.{RunAnswer}
use Rattle.fkp_pages.specs.declared.kind.RunAnswer.TheVariants.{Found, Empty, NoRun, BadCount, Leaves}
use Rattle.fkp_pages.specs.Bin.{page_at}
use Rattle.fkp_pages.specs.Properties.{IsListAnswered}
use Rattle.direct_props.specs.PageRules.{IsValidPlace}
use Rattle.direct_props.specs.Stretches.{HasValidList}
use Rattle.direct_props.proofs.Public.{right_places_have_lists}
use Rattle.piece_table.specs.Piece.{UnitPlace, flat_pieces}
use Rattle.doc_model.specs.declared.item.Item.{Item}
use Rattle.doc_model.specs.Entries.{entry_at_cp}
use Rattle.doc_model.specs.declared.document.Document.{Document}
use Rattle.plain_doc.specs.declared.rules_texts.Side.{Side}
use Rattle.plain_doc.specs.declared.rules_texts.Side.TheVariants.{Notes, Heads}
use Rattle.file_rules.specs.Source.{table_part_bytes, story_length}
use Rattle.file_rules.specs.Units.{unit_at, text_units}
use Rattle.file_rules.specs.FormatRules.{text_count, judged_places}
use Rattle.file_rules.specs.FileRules.{doc_source_of}
use Rattle.doc_read.specs.Sections.{section_marks}
use Rattle.doc_read.proofs.Public.{RightText, mark_place, read_at_place}
use Rattle.doc_patch.specs.Changes.{all_changed}
use Rattle.doc_mends.specs.declared.mends.Mend.{Mend}
use Rattle.doc_mends.specs.Sides.{side_name}
use Rattle.deleted_text.specs.declared.ranges.StoryBegins.{StoryBegins}
use Rattle.deleted_text.specs.Ranges.{begins_of, items_before}
use Rattle.deleted_text.proofs.Public.{struck_none, refused_there, none_listed, none_joined}
use Rattle.huge_papx.specs.declared.lists.Sought.{Sought}
use Rattle.huge_papx.specs.declared.lists.Sought.TheVariants.{HugePapx}
use Rattle.huge_papx.specs.declared.definitions.RowDefinition.{RowDefinition}
use Rattle.huge_papx.specs.declared.rows.DefinedRow.{DefinedRow}
use Rattle.huge_papx.specs.Lists.{is_sought, last_value, HasLastValue}
use Rattle.huge_papx.specs.Definitions.{IsDefinitionOf, AreDefinitions}
use Rattle.huge_papx.specs.Offsets.{NamesOffset, IsNamedAt, IsOffsetOf}
use Rattle.huge_papx.specs.Rows.{row_with, item_mark_at, defined_row_at, text_rows, texts_rows, document_rows}
use Rattle.huge_papx.specs.Data.{data_of}
use Rattle.huge_papx.specs.Defined.{definition_change, definition_mend, most_defined, AreRowsOf}
use Rattle.huge_papx.specs.Texts.{AreTextOffsets, IsDefinedText, IsStruckDefined}
use Rattle.huge_papx.proofs.OffsetLemmas.{bare_names_none}

-- ---- a list that names an offset has a fault

-- an entry of the code, among the others
record HasHugePapx (prls : List Prl) : Type 0 where
  before : List Prl
  entry : Prl
  after : List Prl
  joined : prls ≡ before ++ entry ∷ after
  code : is_sought HugePapx entry.0 ≡ true

huge_there : (prls : List Prl) (value : List ℕ) → last_value HugePapx prls ≡ Some value → HasHugePapx prls
huge_there [] value last = absurd (cc last)
huge_there (prl ∷ prls) value last =
    by_code (is_sought HugePapx prl.0) refl (λ rest. huge_there prls value rest)
  where
    by_code : (is : Bool) → is_sought HugePapx prl.0 ≡ is →
        (last_value HugePapx prls ≡ Some value → HasHugePapx prls) → HasHugePapx (prl ∷ prls)
    by_code true is there =
        record { before = []; entry = prl; after = prls; joined = refl; code = is }
    by_code false is there =
        let rest = there (rw is at last) in
        record {
          before = prl ∷ rest.before;
          entry = rest.entry;
          after = rest.after;
          joined = ap (λ (l : List Prl). prl ∷ l) rest.joined;
          code = rest.code;
        }

either_code : (one other : Bool) (code : ℕ) → (code == 0x6646) ≡ one → (code == 0x6645) ≡ other →
    (one || other) ≡ true → IsRefusedIn paragraph_groups code
either_code true other code is_one is_other is =
    subst (IsRefusedIn paragraph_groups) (sym (eqb-true code 0x6646 is_one)) (refl, refl)
either_code false true code is_one is_other is =
    subst (IsRefusedIn paragraph_groups) (sym (eqb-true code 0x6645 is_other)) (refl, refl)
either_code false false code is_one is_other is = absurd (cc is)

-- the group of paragraphs has the code, and it is not read
refused_code : (code : ℕ) → is_sought HugePapx code ≡ true → IsRefusedIn paragraph_groups code
refused_code code is = either_code (code == 0x6646) (code == 0x6645) code refl refl is

fault_there : (list value : List ℕ) → HasLastValue HugePapx list value →
    Nowhere (HasSprmFaultAt list paragraph_groups) → ⊥
fault_there list value has none =
    let found = huge_there has.prls value has.last in
    refused_there list paragraph_groups has.prls found.before found.entry found.after has.spelt found.joined
    (refused_code found.entry.0 found.code) none

drop_range : (page : List ℕ) (from to : ℕ) → from + 2 ≤ to → drop 2 (slice_range page from to) ≡ slice_range page (from + 2) to
drop_range page from to room =
    let all : to - from ≡ 2 + (to - (from + 2)) = omega (arith, room) in
    ap (λ n. drop 2 (take n (drop from page))) all
    ∙ (drop-take 2 (to - (from + 2)) (drop from page)
    ∙ ap (take (to - (from + 2))) (drop-drop 2 from page))

-- a right place has an accepted list
right_names : (wd bin : List ℕ) (fc unit offset : ℕ) → IsValidPlace Papx wd bin fc →
    IsNamedAt wd bin fc unit offset → ⊥
right_names wd bin fc unit offset right named =
    let found = right_places_have_lists Papx wd bin fc named.list right named.has in
    by_answer wd found.number found.answer named.list found.right found.answered named.names
  where
    by_answer : (wd : List ℕ) (number : ℕ) (answer : RunAnswer) (list : List ℕ) →
        HasValidList Papx (page_at wd number) answer → IsListAnswered Papx (page_at wd number) answer list →
        NamesOffset list offset → ⊥
    by_answer wd number (Found from to) list right is names =
        let page = page_at wd number in
        let behind : drop 2 list ≡ slice_range page (from + 2) to =
        ap (drop 2) is ∙ drop_range page from to right.room in
        fault_there (slice_range page (from + 2) to) names.value
        (subst (λ (l : List ℕ). HasLastValue HugePapx l names.value) behind names.has) right.sprms
    by_answer wd number Empty list right is names =
        bare_names_none offset (subst (λ (l : List ℕ). NamesOffset l offset) is names)
    by_answer wd number NoRun list right is names = absurd right
    by_answer wd number BadCount list right is names = absurd right
    by_answer wd number (Leaves entry) list right is names = absurd right

-- ---- the text of a file that breaks none of the rules 1 to 57

abbrev AreNone : {A : Type 0} → List (Option A) → Type 0
AreNone list = (k : ℕ) → get_or list k None ≡ None

cell_ends : (unit : ℕ) (section : Bool) → unit ≡ cell_mark → is_paragraph_end unit section ≡ true
cell_ends unit section is = ap (λ u. is_paragraph_end u section) is

no_place : UnitPlace
no_place = record { at = 0; wide = false; modifier = no_modifier }

-- each end of a cell or of a row is at a right place
cell_right : (r : RightText) (k : ℕ) → k < length (judged_places (doc_source_of r.text)) →
    slice_index (text_units r.text.wd r.text.pieces) k ≡ cell_mark →
    IsValidPlace Papx r.text.wd (table_part_bytes (doc_source_of r.text) PlcfBtePapx)
    (slice_index (judged_places (doc_source_of r.text)) k)
cell_right r k low cell =
    let source = doc_source_of r.text in
    let flat = flat_pieces r.text.pieces in
    let places = length-take (text_count source) source.text.places in
    let all = length-map flat (λ (p : UnitPlace). p.at) in
    let count : k < text_count source = omega (arith, low, places) in
    let inside : k < length flat = omega (arith, low, places, all) in
    let place : UnitPlace = get_or flat k no_place in
    let here = slice_get-get_or flat k no_place inside in
    let at = read_at_place (λ (p : UnitPlace). p.at) r.text.pieces k (text_count source) place here count in
    let read = read_at_place (unit_at r.text.wd) r.text.pieces k (text_count source) place here count in
    let own = get_or-take (text_count source) source.text.units k 0 count in
    let unit : unit_at r.text.wd place ≡ cell_mark = sym read ∙ (own ∙ cell) in
    let section = entry_at_cp (section_marks r.lists.sections (story_length source stories.Main) []) k in
    let item : Item = record {
      unit = unit_at r.text.wd place;
      fld = None;
      note = None;
      chp = empty;
      mark = None;
      sect = section;
    } in
    subst (IsValidPlace Papx r.text.wd (table_part_bytes source PlcfBtePapx)) (sym at)
    (mark_place r [] k place item count here refl refl
    (cell_ends (unit_at r.text.wd place) (is_some section) unit))

held_none : (r : RightText) (offsets : List (Option ℕ)) → AreTextOffsets r.text offsets → AreNone offsets
held_none r offsets are = λ k. elim (cases_lt k (length offsets)) [
  | inr past ↦ get_or_past offsets k None past
  | inl low ↦
      let source = doc_source_of r.text in
      none_some (slice_index_or offsets k None) (are.each k low) (λ offset named.
      right_names source.wd (table_part_bytes source PlcfBtePapx) (slice_index (judged_places source) k)
      (slice_index (text_units r.text.wd r.text.pieces) k) offset
      (cell_right r k (omega (arith, low, are.len)) named.cell) named)
]
  where
    none_some : {P : ℕ → Type 0} (o : Option ℕ) → MatchOption o ((x : ℕ) → ¬ P x) P → ((x : ℕ) → P x → ⊥) → o ≡ None
    none_some None is none = refl
    none_some (Some x) is none = absurd (none x is)

-- ---- no offset, no row

definition_none : (stream : List ℕ) (offset : Option ℕ) (found : Option RowDefinition) → IsDefinitionOf stream offset found →
    offset ≡ None → found ≡ None
definition_none stream None found is none = is
definition_none stream (Some at) found is none = absurd (cc none)

definitions_none : (stream : List ℕ) (offsets : List (Option ℕ)) (found : List (Option RowDefinition)) →
    AreDefinitions stream offsets found → AreNone offsets → AreNone found
definitions_none stream offsets found are none = λ k. elim (cases_lt k (length offsets)) [
  | inl low ↦ definition_none stream (slice_index_or offsets k None) (slice_index_or found k None) (are.each k low) (none k)
  | inr past ↦ get_or_past found k None (omega (arith, past, are.len))
]

back_none : {A : Type 0} (list : List (Option A)) (n : ℕ) → AreNone list → AreNone (drop n list)
back_none list n none = λ k. get_or-drop n list k None ∙ none (n + k)

no_row : (story : Story) (found : List (Option RowDefinition)) (text : List Item) (at : ℕ) → AreNone found →
    defined_row_at story found text at ≡ None
no_row story found text at none = ap (option_and_then (row_with story at (item_mark_at text at))) (none at)

text_none : (story : Story) (found : List (Option RowDefinition)) (text : List Item) → AreNone found →
    text_rows story found text ≡ []
text_none story found text none =
    none_listed (defined_row_at story found text) (length text) (λ at. no_row story found text at none)

texts_none : (side : Side) (found : List (Option RowDefinition)) (texts : List (List Item)) → AreNone found →
    texts_rows side found texts ≡ []
texts_none side found texts none =
    none_joined
    (λ i. text_rows (side_name side i) (drop (items_before texts i) found) (unwrap_or (slice_get texts i) []))
    (length texts)
    (λ i. text_none (side_name side i) (drop (items_before texts i) found) (unwrap_or (slice_get texts i) [])
    (back_none found (items_before texts i) none))

rows_none : (begins : StoryBegins) (found : List (Option RowDefinition)) (document : Document) → AreNone found →
    document_rows begins found document ≡ []
rows_none begins found document none =
    let main = text_none Main found document.main none in
    let notes = texts_none Notes (drop begins.notes found) document.notes (back_none found begins.notes none) in
    let heads = texts_none Heads (drop begins.heads found) document.heads (back_none found begins.heads none) in
    λ i. main i ++ (notes i ++ heads i)

-- where no place is named, no row gets cells
pub no_row_of : (begins : StoryBegins) (offsets : List (Option ℕ)) (document : Document) → AreNone offsets →
    AreRowsOf begins offsets document []
no_row_of begins offsets document none =
    let found : List (Option RowDefinition) = replicate (length offsets) None in
    let size : length found ≡ length offsets = length-replicate (length offsets) None in
    let nothing : AreNone found = λ k. elim (cases_lt k (length offsets)) [
      | inl low ↦ get_or-replicate (length offsets) k None None low
      | inr past ↦ get_or_past found k None (omega (arith, past, size))
    ] in
    record {
      definitions = found;
      are = record {
        len = size;
        each = λ k low.
            subst (λ (o : Option ℕ). IsDefinitionOf (data_of document.carried.streams) o (slice_index_or found k None))
            (sym (none k)) (nothing k);
      };
      rows_are = sym (rows_none begins found document nothing);
    }

defined_none : (r : RightText) (before after : Document) (mends : List Mend) →
    IsDefinedText r.text before after mends → (after ≡ before) × (mends ≡ [])
defined_none r before after mends is =
    let of = is.is.are in
    let found = definitions_none _ is.offsets of.definitions of.are (held_none r is.offsets is.named) in
    let none : is.is.rows ≡ [] = of.rows_are ∙ rows_none (begins_of r.text.wd) of.definitions before found in (
      is.is.document_is
          ∙ ap (λ (l : List DefinedRow). all_changed (map definition_change (take most_defined l)) before) none,
      is.is.mends_are ∙ ap (λ (l : List DefinedRow). map definition_mend (take most_defined l)) none,
    )

pub struck_defined_none : (r : RightText) (meant after : Document) (mends : List Mend) →
    IsStruckDefined r.text meant after mends → (after ≡ meant) × (mends ≡ [])
struck_defined_none r meant after mends is =
    let struck = struck_none r meant is.struck is.strikes is.struck_is in
    let defined = defined_none r is.struck after is.definitions is.defined_is in
    (defined.0 ∙ struck.0, is.mends_are ∙ (λ i. struck.1 i ++ defined.1 i))
