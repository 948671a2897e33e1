-- The properties of the units and what is beside them meet in the items.
use Rattle.std.proofs.Common.{◌≡◌, ◌∙◌, sym, ap, subst, ℕ, zero, suc, ◌<◌, ◌≤◌, ◌+◌, ◌-◌, List, [], ◌∷◌, ◌++◌}
use Rattle.std.proofs.Common.{length, get_or, Some, is_some, arith, length-append}
use Rattle.std.specs.Prelude.{slice_get, slice_index, slice_range}
use Rattle.std.specs.List.{All}
use Rattle.std.proofs.lemmas.Option.{slice_get_within, slice_get-get_or, get_or_from_slice_get}
use Rattle.doc_bits.proofs.Public.{slice_get_before, All_at, length-range, there_is, range_index, from_behind}
use Rattle.prop_map.specs.Settings.{Properties}
use Rattle.prop_map.specs.declared.modifiers.Modifier.{Modifier}
use Rattle.prop_map.specs.Modifiers.{IsFormedModifier}
use Rattle.prop_map.specs.Formed.{IsPropertyMap, character_groups}
use Rattle.direct_props.specs.Direct.{IsDirectCharacter}
use Rattle.direct_props.specs.Stretches.{AddsCharacters}
use Rattle.text_codes.specs.Paragraph.{is_paragraph_end}
use Rattle.piece_table.specs.Piece.{TextPiece}
use Rattle.doc_model.specs.declared.item.Item.{Item}
use Rattle.doc_model.specs.Document.{HasPropertyMaps}
use Rattle.doc_columns.specs.declared.attached.Attached.{Attached}
use Rattle.doc_columns.specs.Attached.{attached_of}
use Rattle.doc_columns.specs.Columns.{items_of}
use Rattle.doc_columns.proofs.Public.{item_at, has_parts}
use Rattle.doc_read.specs.Items.{IsDirectMarkAt}
use Rattle.doc_read.specs.Passing.{AddsEach}
use Rattle.doc_read.specs.Reading.{TextView, IsItemReadAt, IsReadCharacter, ArePlacedItems}
use Rattle.doc_read.specs.Attached.{IsAttachedAt}

-- ---- the properties of a piece

-- those of the places of a stretch are those of its CPs
pub adds_characters : (view : TextView) (modifier : Modifier) (from to : ℕ) (old new : List Properties) →
    length old ≡ from → from ≤ to → to ≤ length view.places → IsFormedModifier modifier
    → AddsCharacters view.wd view.characters (slice_range view.places from to) modifier old new
    → AddsEach (IsReadCharacter view modifier) (to - from) old new
adds_characters view modifier from to old new here ordered within formed adds =
    let places = view.places in
    let long = length-append old adds.added in
    let added_long = adds.len in
    let range_long = length-range places from to within in
    record {
      len = omega (arith, ap length adds.joined, long, added_long, range_long);
      kept = λ k lower. ap (λ (l : List Properties). slice_get l k) adds.joined ∙ slice_get_before old adds.added k
          lower;
      each = λ k chp upper at.
          let there : slice_get (old ++ adds.added) k ≡ Some chp =
          ap (λ (l : List Properties). slice_get l k) (sym adds.joined) ∙ at in
          let inside = slice_get_within (old ++ adds.added) k chp there in
          let j : ℕ = k - from in
          let place : length old + j ≡ k = omega (arith, here, upper) in
          let fresh : slice_get adds.added j ≡ Some chp =
          sym (from_behind old adds.added j) ∙ ap (λ (n : ℕ). slice_get (old ++ adds.added) n) place ∙ there in
          let below : j < to - from = omega (arith, here, inside, upper, long, added_long, range_long) in
          let cp_is : from + j ≡ k = omega (arith, here, upper) in
          let fc : slice_index (slice_range places from to) j ≡ slice_index places k =
          range_index places from to j below ∙ ap (slice_index places) cp_is in
          record {
            is =
                subst (λ (n : ℕ). IsDirectCharacter view.wd view.characters n modifier chp) fc
                (adds.each j chp fresh);
            formed =
                All_at (IsPropertyMap character_groups) adds.added j chp (adds.formed formed) fresh;
          };
    }

-- ---- the item of a CP

-- by its three parts
read_of : (view : TextView) (modifier : Modifier) (cp : ℕ) (item : Item) → item.unit ≡ slice_index view.units cp →
    IsReadCharacter view modifier cp item.chp → IsAttachedAt view modifier cp (attached_of item)
    → IsItemReadAt view modifier cp item
read_of view modifier cp item unit_is characters stands = record {
  unit_is = unit_is;
  characters = characters.is;
  sect_is = stands.sect_is;
  mark_is =
      subst
      (λ (u : ℕ). IsDirectMarkAt (is_paragraph_end u (is_some item.sect)) view.wd view.paragraphs (slice_index
      view.places cp)
      modifier item.mark)
      (sym unit_is) stands.mark_is;
  fld_is = stands.fld_is;
  note_is = stands.note_is;
  maps = record { chp = characters.formed; pap = stands.maps.pap; sect = stands.maps.sect };
}

-- ---- the items of columns that grow

-- as many as there are properties, where there are more units
pub length-read : (units : List ℕ) (chps : List Properties) (attachments : List Attached) (n : ℕ) → length chps ≡ n →
    length attachments ≡ n → n ≤ length units → length (items_of units chps attachments) ≡ n
length-read [] chps attachments n c b le = omega (arith, le)
length-read (unit ∷ units) [] attachments n c b le = c
length-read (unit ∷ units) (chp ∷ chps) [] n c b le = b
length-read (unit ∷ units) (chp ∷ chps) (attached ∷ attachments) zero c b le = absurd (omega (arith, c))
length-read (unit ∷ units) (chp ∷ chps) (attached ∷ attachments) (suc n) c b le =
    ap suc (length-read units chps attachments n (omega (arith, c)) (omega (arith, b)) (omega (arith, le)))

-- properties and what is beside came, so items came
pub adds_items : (view : TextView) (modifier : Modifier) (cp count : ℕ) (chps more_chps : List Properties)
    (attachments more_attachments : List Attached) → length chps ≡ cp → length attachments ≡ cp → cp + count ≤ length
    view.units
    → AddsEach (IsReadCharacter view modifier) count chps more_chps
    → AddsEach (IsAttachedAt view modifier) count attachments more_attachments
    → AddsEach (IsItemReadAt view modifier) count (items_of view.units chps attachments)
    (items_of view.units more_chps more_attachments)
adds_items view modifier cp count chps more_chps attachments more_attachments cs bs within characters stands =
    let units = view.units in
    let old = items_of units chps attachments in
    let new = items_of units more_chps more_attachments in
    let old_long : length old ≡ cp = length-read units chps attachments cp cs bs (omega (arith, within)) in
    let new_long : length new ≡ cp + count =
    length-read units more_chps more_attachments (cp + count) (omega (arith, characters.len, cs))
    (omega (arith, stands.len, bs)) within in
    record {
      len = omega (arith, old_long, new_long);
      kept = λ k lower.
          let there = there_is old k lower in
          let item = there.0 in
          let parts = has_parts units chps attachments k item there.1 in
          let chp_at : slice_get more_chps k ≡ Some item.chp =
          characters.kept k (omega (arith, lower, old_long, cs)) ∙ parts.chp in
          let attached_at : slice_get more_attachments k ≡ Some (attached_of item) =
          stands.kept k (omega (arith, lower, old_long, bs)) ∙ parts.attached in
          item_at units more_chps more_attachments k item.unit item.chp (attached_of item) parts.unit chp_at attached_at
          ∙ sym there.1;
      each = λ k item upper here.
          let parts = has_parts units more_chps more_attachments k item here in
          read_of view modifier k item (sym (get_or_from_slice_get units k item.unit 0 parts.unit))
          (characters.each k item.chp (omega (arith, upper, old_long, cs)) parts.chp)
          (stands.each k (attached_of item) (omega (arith, upper, old_long, bs)) parts.attached);
    }

-- no items are placed right
pub none_placed : (view : TextView) (pieces : List TextPiece) (items : List Item) → length items ≡ 0 →
    ArePlacedItems view pieces items
none_placed view pieces items none cp item here =
    absurd (let within = slice_get_within items cp item here in omega (arith, within, none))

-- the maps of items that are placed right
pub placed_maps : (view : TextView) (pieces : List TextPiece) (items : List Item) → ArePlacedItems view pieces items →
    All HasPropertyMaps items
placed_maps view pieces items placed =
    λ k d below. (placed k (get_or items k d) (slice_get-get_or items k d below)).read.maps
