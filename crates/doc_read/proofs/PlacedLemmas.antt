-- The items that were read are those of the text.
use Rattle.std.proofs.Common.{◌≡◌, ◌∙◌, sym, ap, subst, inl, inr, zero-add, ℕ, ◌<◌, ◌≤◌, ◌+◌, ◌-◌}
use Rattle.std.proofs.Common.{List, length, map, take, Some, slice_get, min, arith}
use Rattle.std.specs.Prelude.{slice_index, is_some}
use Rattle.std.proofs.lemmas.Bool.{cases_lt}
use Rattle.std.proofs.lemmas.List.{length-take}
use Rattle.std.proofs.lemmas.Option.{slice_get_within}
use Rattle.prop_map.specs.Settings.{Properties}
use Rattle.direct_props.specs.Direct.{IsDirectCharacter}
use Rattle.piece_table.specs.Piece.{TextPiece, UnitPlace, flat_pieces, total_length}
use Rattle.doc_model.specs.declared.item.Item.{Item}
use Rattle.fib_form.specs.declared.table_parts.TablePart.TheVariants.{PlcfBteChpx, PlcfBtePapx}
use Rattle.file_rules.specs.Units.{unit_at}
use Rattle.file_rules.specs.Source.{DocSource, table_part_bytes}
use Rattle.file_rules.specs.FileRules.{FileText, doc_source_of}
use Rattle.file_rules.specs.FormatRules.{text_count, judged_units, judged_places}
use Rattle.text_codes.specs.Paragraph.{is_paragraph_end}
use Rattle.file_rules.specs.PartRules.{PartLists}
use Rattle.file_rules.proofs.Public.{total-more, length-text_units}
use Rattle.doc_read.specs.Marked.{field_mark_bytes, note_kind_entries}
use Rattle.doc_read.specs.Items.{TextParts, IsItemAt, HoldsItems, IsDirectMarkAt}
use Rattle.doc_read.specs.Passing.{AddsEach}
use Rattle.doc_read.specs.Reading.{MarkLists, AreMarkListsOf, TextView, IsItemReadAt, IsPlacedItem, ArePlacedItems}
use Rattle.doc_read.specs.Reading.{section_at}
use Rattle.doc_read.proofs.EntryLemmas.{entry_of_parts}
use Rattle.doc_read.proofs.PlaceLemmas.{place_at, place_in_piece, read_at_place}
use Rattle.doc_read.proofs.ReadableLemmas.{view_of}

-- the item of a CP
pub item_of : (text : FileText) (source : DocSource) (lists : PartLists) (marks : MarkLists) (maps : List Properties)
    (cp : ℕ) (item : Item) →
    source ≡ doc_source_of text → AreMarkListsOf source lists marks → cp < text_count source →
    IsPlacedItem (view_of source marks maps) text.pieces cp item →
    IsItemAt (record { source = source; pieces = text.pieces; lists = lists; sections = maps }) cp item
item_of text source lists marks maps cp item same is below placed =
    let pieces = text.pieces in
    let flat = flat_pieces pieces in
    let count = text_count source in
    let place = placed.place in
    let read = placed.read in
    let wd_is : text.wd ≡ source.wd = ap (λ (s : DocSource). s.wd) (sym same) in
    let units_are : source.text.units ≡ map (unit_at source.wd) flat =
    ap (λ (s : DocSource). s.text.units) same ∙ ap (λ wd. map (unit_at wd) flat) wd_is in
    let places_are : source.text.places ≡ map (λ (place : UnitPlace). place.at) flat =
    ap (λ (s : DocSource). s.text.places) same in
    let place_is : slice_index (judged_places source) cp ≡ place.at = ap (λ l. slice_index (take count l) cp)
    places_are ∙ read_at_place (λ (place : UnitPlace). place.at) pieces cp count place placed.here below in
    record {
      place = place;
      here = placed.here;
      unit = read.unit_is ∙ (ap (λ l. slice_index (take count l) cp) units_are ∙ read_at_place (unit_at source.wd)
          pieces cp count place placed.here below);
      characters = subst (λ fc. IsDirectCharacter source.wd (table_part_bytes source PlcfBteChpx) fc place.modifier
          item.chp) place_is read.characters;
      section = read.sect_is ∙ ap (λ l. section_at l maps cp) is.sections;
      mark =
          (subst (λ fc. IsDirectMarkAt (is_paragraph_end item.unit (is_some item.sect)) source.wd (table_part_bytes
          source
          PlcfBtePapx) fc place.modifier item.mark) place_is read.mark_is);
      field = read.fld_is ∙ entry_of_parts (field_mark_bytes source lists) marks.field_cps marks.field_bytes cp
          is.fields
          is.bytes;
      note = read.note_is ∙ entry_of_parts (note_kind_entries lists.refs) marks.note_cps marks.note_kinds cp is.notes
          is.kinds;
    }

-- the items of one piece more
pub placed_more : (view : TextView) (pieces : List TextPiece) (i added count : ℕ) (piece : TextPiece) (old new : List
    Item) →
    slice_get pieces i ≡ Some piece → length old ≡ min (total_length (take i pieces)) count →
    added ≡ min piece.len (count - length old) → ArePlacedItems view pieces old →
    AddsEach (IsItemReadAt view piece.modifier) added old new → ArePlacedItems view pieces new
placed_more view pieces i added count piece old new here len added_is so_far adds cp item there =
    elim (cases_lt cp (length old)) [
      | inl lower ↦ so_far cp item (sym (adds.kept cp lower) ∙ there)
      | inr upper ↦
          let within = slice_get_within new cp item there in
          let all = adds.len in
          let front = total_length (take i pieces) in
          let j : ℕ = cp - front in
          let cp_is : cp ≡ front + j = omega (arith, within, all, len, added_is) in
          let below : j < piece.len = omega (arith, within, all, len, added_is, cp_is) in
          record {
            place = place_at piece j;
            here = place_in_piece pieces i j cp piece here below cp_is;
            read = adds.each cp item upper there;
          }
    ]

-- and their number
pub length-more : (pieces : List TextPiece) (i added count : ℕ) (piece : TextPiece) (old new : ℕ) →
    slice_get pieces i ≡ Some piece → old ≡ min (total_length (take i pieces)) count →
    added ≡ min piece.len (count - old) → new ≡ old + added → new ≡ min (total_length (take (i + 1) pieces)) count
length-more pieces i added count piece old new here len added_is new_is =
    let more = total-more pieces i piece here in omega (arith, more, len, added_is, new_is)

take_within : (n : ℕ) (xs : List ℕ) → length (take n xs) ≤ length xs
take_within n xs = omega (arith, length-take n xs)

-- the pieces have a place for each unit
pub enough_units : (text : FileText) (source : DocSource) (units : List ℕ) (pieces : List TextPiece) →
    units ≡ judged_units source → source ≡ doc_source_of text → pieces ≡ text.pieces → length units ≤ total_length
    pieces
enough_units text source units pieces units_are same pieces_are =
    let some = take_within (text_count source) source.text.units in
    let one : length units ≡ length (judged_units source) = ap length units_are in
    let two : length source.text.units ≡ total_length text.pieces =
    ap (λ (s : DocSource). length s.text.units) same ∙ length-text_units text.wd text.pieces in
    let three : total_length pieces ≡ total_length text.pieces = ap total_length pieces_are in
    omega (arith, some, one, two, three)

-- all items
pub held : (text : FileText) (source : DocSource) (lists : PartLists) (marks : MarkLists) (maps : List Properties)
    (items : List Item) →
    source ≡ doc_source_of text → AreMarkListsOf source lists marks → length items ≡ text_count source →
    ArePlacedItems (view_of source marks maps) text.pieces items
    → HoldsItems (record { source = source; pieces = text.pieces; lists = lists; sections = maps }) 0
    (text_count source) items
held text source lists marks maps items same is len placed =
    let parts : TextParts = record { source = source; pieces = text.pieces; lists = lists; sections = maps } in
    record {
      len = omega (arith, len);
      each = λ i item here.
          let within = slice_get_within items i item here in
          subst (λ n. IsItemAt parts n item) (sym (zero-add i)) (item_of text source lists marks maps i item same is
          (omega (arith, within, len)) (placed i item here));
    }
