-- The units of one text after all mends, where the lists of the mends have what was found in it.
use Rattle.std.proofs.Common.{◌≡◌, ◌∙◌, ap, sym, refl, ℕ, ◌<◌, Bool, true, false, not}
use Rattle.std.proofs.Common.{List, [], ◌∷◌, ◌++◌, length, arith, Some, slice_get}
use Rattle.std.specs.Prelude.{slice_index, if◌then◌else◌}
use Rattle.std.specs.List.{flat_map, list_any}
use Rattle.std.proofs.lemmas.List.{length-map}
use Rattle.std.proofs.lemmas.Option.{get_or_from_slice_get, same_Some, slice_get_within}
use Rattle.doc_bits.specs.declared.places.Story.{Story}
use Rattle.doc_bits.proofs.Public.{get-map, there_is}
use Rattle.doc_parts.specs.Tabulated.{tabulate}
use Rattle.style_sheet.specs.Sheet.{Sheet}
use Rattle.doc_model.specs.declared.item.Item.{Item}
use Rattle.doc_mends.specs.NormalMarks.{normal_text}
use Rattle.doc_mends.specs.BrokenRows.{text_broken_rows}
use Rattle.doc_mends.specs.PlainRows.{plain_unit}
use Rattle.doc_mends.specs.Cuts.{unflagged}
use Rattle.doc_mends.specs.Ends.{is_ended, with_end}
use Rattle.doc_mends.specs.UnitsStay.{MendLists, is_story, is_reference_at, has_place, unit_left, units_left}
use Rattle.doc_mends.proofs.PlainUnitLemmas.{covers, placed_length, placed_text, placed_unit, units}
use Rattle.doc_mends.proofs.UnitLemmas.{ArePartsOf, end_mark, end_units, part_left, parts_joined}

-- what the lists have of a text, which has these items before any mend
pub record AreListsOf (lists : MendLists) (story : Story) (sheet : Sheet) (text : List Item) (flags : List Bool)
    (is_head : Bool) : Type 0 where
  pub rows :
      (at : ℕ) →
      list_any (has_place story at) lists.rows
      ≡ list_any (covers at) (text_broken_rows story (normal_text sheet text))
  pub len : length flags ≡ length text
  pub cut : (at : ℕ) → at < length text → slice_get flags at ≡ Some (list_any (is_reference_at story at) lists.cut)
  pub ended :
      list_any (λ ended. is_story ended story) lists.ended
      ≡ not (is_ended is_head (unflagged flags (placed_text sheet text)))

cut_units : (flags : List Bool) (text : List Item) → units (unflagged flags text) ≡ unflagged flags (units text)
unfolding unflagged
cut_units flags [] = refl
cut_units [] (item ∷ items) = refl
cut_units (true ∷ flags) (item ∷ items) = cut_units flags items
cut_units (false ∷ flags) (item ∷ items) = ap (λ (l : List ℕ). item.unit ∷ l) (cut_units flags items)

parts_are : (lists : MendLists) (story : Story) (sheet : Sheet) (text : List Item) (flags : List Bool)
    (is_head : Bool) → AreListsOf lists story sheet text flags is_head →
    ArePartsOf flags (units (placed_text sheet text))
    (λ at. unit_left lists story at (slice_index (units text) at))
parts_are lists story sheet text flags is_head are = record {
  len = are.len ∙ sym (length-map (placed_text sheet text) (λ (i : Item). i.unit) ∙ placed_length sheet text);
  each = λ at flag unit here there.
      let low : at < length text = let len = are.len in omega (arith, slice_get_within flags at flag here, len) in
      let it = there_is text at low in
      let made = placed_unit sheet story text at it.0 it.1 in
      let before : slice_index (units text) at ≡ it.0.unit =
      get_or_from_slice_get (units text) at it.0.unit 0 (get-map (λ (i : Item). i.unit) text at it.0 it.1) in
      let after : unit ≡ made.0.unit =
      same_Some unit made.0.unit
      (sym there ∙ get-map (λ (i : Item). i.unit) (placed_text sheet text) at made.0 made.1.0) in
      let cut : list_any (is_reference_at story at) lists.cut ≡ flag =
      same_Some (list_any (is_reference_at story at) lists.cut) flag (sym (are.cut at low) ∙ here) in
      let row : Bool = list_any (covers at) (text_broken_rows story (normal_text sheet text)) in
      ap (λ (u : ℕ). unit_left lists story at u) before
      ∙ (ap (λ (b : Bool). if b then [] else
      if list_any (has_place story at) lists.rows then plain_unit it.0.unit ∷ [] else it.0.unit ∷ []) cut
      ∙ (ap (λ (b : Bool). if flag then [] else if b then plain_unit it.0.unit ∷ [] else it.0.unit ∷ []) (are.rows at)
      ∙ part_left flag row it.0.unit unit (after ∙ made.1.1)));
}

pub text_left : (lists : MendLists) (story : Story) (sheet : Sheet) (text : List Item) (flags : List Bool)
    (is_head : Bool) → AreListsOf lists story sheet text flags is_head →
    units (with_end is_head (unflagged flags (placed_text sheet text))) ≡ units_left lists story (units text)
text_left lists story sheet text flags is_head are =
    let placed : List Item = placed_text sheet text in
    let long : length (units text) ≡ length (units placed) =
    length-map text (λ (i : Item). i.unit)
    ∙ sym (length-map placed (λ (i : Item). i.unit) ∙ placed_length sheet text) in
    end_units is_head (unflagged flags placed)
    ∙ (ap (λ (l : List ℕ). l ++ end_mark (not (is_ended is_head (unflagged flags placed))))
    (cut_units flags placed
    ∙ sym (parts_joined flags (units placed) (λ (at : ℕ). unit_left lists story at (slice_index (units text) at))
    (length (units text)) (parts_are lists story sheet text flags is_head are) long))
    ∙ ap (λ (b : Bool). flat_map (λ (l : List ℕ). l) (tabulate (λ (at : ℕ). unit_left lists story at
    (slice_index (units text) at)) (length (units text))) ++ end_mark b) (sym are.ended))
