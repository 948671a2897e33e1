-- A text is read from its stretches, and from no other pieces.
use Rattle.std.proofs.Common.{◌≡◌, ◌+◌, ◌-◌, ◌<◌, ◌≤◌, ◌^◌, ℕ, zero, suc, Bool, true, false, not, ◌&&◌, ◌||◌}
use Rattle.std.proofs.Common.{List, [], ◌∷◌, ◌++◌, Option, Some, None, is_some, length, map, get_or, slice_get}
use Rattle.std.proofs.Common.{length-append}
use Rattle.std.proofs.Common.{refl, sym, ap, ◌∙◌, subst, arith, All}
use Rattle.std.proofs.Common.{inl, inr, slice_index}
use Rattle.std.proofs.lemmas.Bool.{cases_Bool}
use Rattle.std.proofs.lemmas.List.{length-map, get_or-map}
use Rattle.std.proofs.lemmas.Option.{same_Some, slice_get_read}
use Rattle.serde_json.specs.Data.{Data}
use Rattle.prop_map.specs.Settings.{Properties}
use Rattle.doc_model.specs.declared.item.Item.{Item}
use Rattle.doc_model.specs.Document.{HasPropertyMaps, IsFormedItem}
use Rattle.doc_model.specs.Settings.{same_properties}
use Rattle.doc_model.specs.Stretches.{joins_next, joins_at, IsJoinedStretch, goes_over}
use Rattle.doc_model.proofs.Public.{same_properties-Decides}
use Rattle.doc_columns.specs.Specials.{is_special_item}
use Rattle.doc_columns.specs.Attached.{nothing}
use Rattle.doc_columns.specs.Columns.{item_of, bare_items}
use Rattle.json_doc.specs.declared.pieces.Piece.{Piece}
use Rattle.json_doc.specs.Pieces.{is_one_piece, piece_from, piece_json, stretch_json}
use Rattle.json_doc.specs.PieceReading.{piece_of, piece_items, item_with, is_special_piece, IsValidPiece}
use Rattle.json_doc.specs.PieceReading.{IsFormedPiece}
use Rattle.json_doc.specs.PieceReading.{IsNoPiece, MayFollow, EndsByPiece, are_joined, joins_last_piece}
use Rattle.json_doc.proofs.PieceReadLemmas.{pieces_one, piece_spelt}
use Rattle.doc_bits.proofs.Public.{neither, not_true, both_true, none_is, from_behind}

-- ---- items that join

-- the units of items
abbrev pub units_of : List Item → List ℕ
units_of items = map (λ item. item.unit) items

-- the item with another unit
abbrev with_unit : Item → ℕ → Item
with_unit item unit = record item { unit = unit }

-- a bare item is its unit and its properties
record IsBare (item : Item) : Type 0 where
  mark : item.mark ≡ None
  sect : item.sect ≡ None
  fld : item.fld ≡ None
  note : item.note ≡ None

bare : (item : Item) → is_special_item item ≡ false → IsBare item
bare item e =
    let a = neither (is_some item.mark) (is_some item.sect || (is_some item.fld || is_some item.note)) e in
    let b = neither (is_some item.sect) (is_some item.fld || is_some item.note) a.1 in
    let c = neither (is_some item.fld) (is_some item.note) b.1 in
    record {
      mark = none_is item.mark a.0;
      sect = none_is item.sect b.0;
      fld = none_is item.fld c.0;
      note = none_is item.note c.1;
    }

record AreJoined (item next : Item) : Type 0 where
  bare_item : is_special_item item ≡ false
  bare_next : is_special_item next ≡ false
  properties : item.chp ≡ next.chp

joined : (item next : Item) → is_one_piece item next ≡ true → AreJoined item next
joined item next e =
    let a = both_true (not (is_special_item item)) (not (is_special_item next) && same_properties item.chp next.chp) e
    in
    let b = both_true (not (is_special_item next)) (same_properties item.chp next.chp) a.1 in
    record {
      bare_item = not_true (is_special_item item) a.0;
      bare_next = not_true (is_special_item next) b.0;
      properties = (same_properties-Decides item.chp next.chp).0 b.1;
    }

-- an item that joins the next one differs in its unit alone
same_but_unit : (item next : Item) → is_one_piece item next ≡ true → next ≡ with_unit item next.unit
same_but_unit item next e =
    let j = joined item next e in
    let a = bare item j.bare_item in
    let b = bare next j.bare_next in
    λ i. record {
      unit = next.unit;
      fld = (b.fld ∙ sym a.fld) i;
      note = (b.note ∙ sym a.note) i;
      chp = sym j.properties i;
      mark = (b.mark ∙ sym a.mark) i;
      sect = (b.sect ∙ sym a.sect) i;
    }

-- the rest of a stretch is one
joined_rest : (x y : Item) (more : List Item) → IsJoinedStretch is_one_piece (x ∷ y ∷ more) → IsJoinedStretch
    is_one_piece (y ∷ more)
joined_rest x y more j k less =
    let next : suc k + 1 ≡ suc (k + 1) = omega arith in
    ap (λ i. joins_next is_one_piece (slice_get (y ∷ more) k) (slice_get (x ∷ y ∷ more) i)) (sym next)
    ∙ j (suc k) (omega (arith, less))

-- the items of a stretch are its first one with their units
pub stretch_same : (item : Item) (more : List Item) → IsJoinedStretch is_one_piece (item ∷ more) →
    map (with_unit item) (units_of more) ≡ more
stretch_same item [] j = refl
stretch_same item (y ∷ more) j =
    let first = same_but_unit item y (j 0 (omega arith)) in
    let rest : map (with_unit item) (units_of more) ≡ more =
    ap (λ z. map (with_unit z) (units_of more)) (sym first) ∙ stretch_same y more (joined_rest item y more j) in
    λ i. sym first i ∷ rest i

-- a special item is a stretch of its own
alone : (item : Item) (more : List Item) → IsJoinedStretch is_one_piece (item ∷ more) → is_special_item item ≡ true →
    more ≡ []
alone item [] j special = refl
alone item (y ∷ more) j special = absurd (cc (special, (joined item y (j 0 (omega arith))).bare_item))

-- the piece of a stretch has its items
pub from_items : (item : Item) (more : List Item) → IsJoinedStretch is_one_piece (item ∷ more) →
    piece_items (piece_from item more) ≡ item ∷ more
from_items item more j = ap (λ rest. item ∷ rest) (stretch_same item more j)

-- ---- a piece behind items

-- the last of two lists is the last of the second
pub over_behind : (xs ys zs : List Item) → 0 < length ys →
    goes_over is_one_piece (xs ++ ys) zs ≡ goes_over is_one_piece ys zs
over_behind xs ys zs some =
    let len = length-append xs ys in
    let last : length (xs ++ ys) - 1 ≡ length xs + (length ys - 1) = omega (arith, len, some) in
    ap (λ o. joins_next is_one_piece o (slice_get zs 0))
    (ap (slice_get (xs ++ ys)) last ∙ from_behind xs ys (length ys - 1))

first_with : (piece : Piece) (units : List ℕ) → 1 ≤ length units →
    (unit : ℕ) × (slice_get (map (item_with piece) units) 0 ≡ Some (item_with piece unit))
first_with piece [] some = absurd (omega (arith, some))
first_with piece (u ∷ us) some = (u, refl)

pub goes_over_is : (items : List Item) (last : Item) (piece : Piece) (b : Bool) → 0 < length items →
    last ≡ get_or items (length items - 1) last → 1 ≤ length piece.units →
    ((unit : ℕ) → b ≡ is_one_piece last (item_with piece unit)) → b ≡ goes_over is_one_piece items (piece_items piece)
goes_over_is items last piece b some is units test =
    let first = first_with piece piece.units units in
    let here = slice_get_read items (length items) (length items - 1) last refl (omega (arith, some)) is in
    test first.0 ∙ (λ i. joins_next is_one_piece (sym here i) (sym first.1 i))

-- a text goes on in a piece where its last one does
pub over_end : (front : List Item) (last piece : Piece) → 1 ≤ length last.units → 1 ≤ length piece.units →
    goes_over is_one_piece (front ++ piece_items last) (piece_items piece) ≡ are_joined last piece
over_end front last piece filled units =
    let items = piece_items last in
    let count = length-map {B = Item} last.units in
    let some : 0 < length items = omega (arith, filled, count) in
    let place : length items - 1 < length last.units = omega (arith, filled, count) in
    let unit = get_or last.units (length items - 1) 0 in
    let own : item_with last unit ≡ get_or items (length items - 1) (item_with last unit) =
    sym (get_or-map (item_with last) last.units (length items - 1) 0 (item_with last unit) place) in
    over_behind front items (piece_items piece) some
    ∙ sym (goes_over_is items (item_with last unit) piece (are_joined last piece) some own units (λ other. refl))

-- the text of no items goes on in none
pub none_over : (text : List Item) → text ≡ [] → EndsByPiece text None
none_over text is piece units = ap (λ xs. goes_over is_one_piece xs (piece_items piece)) is

-- a piece that was read and may not follow is no piece that may
pub not_put : (value : Data) (old : List Item) (piece : Piece) → piece_of value ≡ Some piece →
    (MayFollow old piece → ⊥) → IsNoPiece value old
not_put value old piece read not_there other right may e =
    let same : other ≡ piece = same_Some other piece (sym (pieces_one.back other (piece_spelt other right))
    ∙ ap piece_of (sym e) ∙ read) in
    not_there (subst (MayFollow old) same may)

-- the items of a piece that has nothing beside its properties
pub bare_piece : (piece : Piece) (units : List ℕ) → is_special_piece piece ≡ false →
    bare_items piece.chp units ≡ map (item_with piece) units
bare_piece piece [] e = refl
bare_piece piece (u ∷ us) e =
    let b = bare (item_with piece u) e in
    let first : item_of u piece.chp nothing ≡ item_with piece u =
    λ i. record {
      unit = u;
      fld = sym b.fld i;
      note = sym b.note i;
      chp = piece.chp;
      mark = sym b.mark i;
      sect = sym b.sect i;
    } in
    let rest = bare_piece piece us e in
    λ i. first i ∷ rest i

-- that of a special piece
one_item : (piece : Piece) (units : List ℕ) → length units ≡ 1 →
    item_with piece (get_or units 0 0) ∷ [] ≡ map (item_with piece) units
one_item piece [] one = absurd (omega (arith, one))
one_item piece (u ∷ []) one = refl
one_item piece (u ∷ v ∷ more) one = absurd (omega (arith, one))

pub special_piece : (piece : Piece) → IsFormedPiece piece → is_special_piece piece ≡ true →
    item_with piece (get_or piece.units 0 0) ∷ [] ≡ piece_items piece
special_piece piece formed special =
    let some = formed.0.some in
    let alone = formed.0.alone special in
    one_item piece piece.units (omega (arith, some, alone))

pub piece_maps : (piece : Piece) (unit : ℕ) → IsFormedPiece piece → HasPropertyMaps (item_with piece unit)
piece_maps piece unit formed = record { chp = formed.0.chp; pap = formed.0.pap; sect = formed.0.sect }

-- a text may not be followed by a piece that it goes on in
pub may_not : (text : List Item) (last : Option Piece) (piece : Piece) → EndsByPiece text last → 1 ≤ length piece.units
    →
    joins_last_piece last piece ≡ true → MayFollow text piece → ⊥
may_not text last piece ends some over may = cc (sym over ∙ (sym (ends piece some) ∙ may.apart))

-- ---- formed items and formed pieces

-- the items of a formed piece
pub formed_items : (piece : Piece) → IsFormedPiece piece → All IsFormedItem (piece_items piece)
formed_items piece formed k d within =
    let inside : k < length piece.units = omega (arith, within, length-map {B = Item} piece.units) in
    subst IsFormedItem (sym (get_or-map (item_with piece) piece.units k 0 d inside)) (record {
      maps = record { chp = formed.0.chp; pap = formed.0.pap; sect = formed.0.sect };
      unit = subst (λ u. u < 2 ^ 16) refl (formed.1.units k);
      style = formed.1.style;
      field = formed.1.field;
    })

-- they join
same_self : (set : Properties) → same_properties set set ≡ true
same_self set = (same_properties-Decides set set).1 refl

joins_self : (piece : Piece) (u v : ℕ) → is_special_piece piece ≡ false →
    is_one_piece (item_with piece u) (item_with piece v) ≡ true
joins_self piece u v bare = rw (bare, same_self piece.chp) refl

pairs_join : (piece : Piece) (units : List ℕ) (k : ℕ) → k + 1 < length units → is_special_piece piece ≡ false →
    joins_at is_one_piece (map (item_with piece) units) k ≡ true
pairs_join piece [] k less bare = absurd (omega (arith, less))
pairs_join piece (u ∷ []) k less bare = absurd (omega (arith, less))
pairs_join piece (u ∷ v ∷ more) zero less bare = joins_self piece u v bare
pairs_join piece (u ∷ v ∷ more) (suc k) less bare =
    let next : suc k + 1 ≡ suc (k + 1) = omega arith in
    ap (λ i. joins_next is_one_piece (slice_get (map (item_with piece) (v ∷ more)) k) (slice_get (map (item_with piece)
    (u ∷ v ∷ more)) i)) next
    ∙ pairs_join piece (v ∷ more) k (omega (arith, less)) bare

pub items_joined : (piece : Piece) → IsValidPiece piece → IsJoinedStretch is_one_piece (piece_items piece)
items_joined piece right k less = elim (cases_Bool (is_special_piece piece)) [
  | inl special ↦ let one = right.alone special in
      absurd (omega (arith, one, less, length-map {B = Item} piece.units))
  | inr bare ↦ pairs_join piece piece.units k (omega (arith, less, length-map {B = Item} piece.units)) bare
]

-- a piece that has units is that of its items
units_back : (piece : Piece) (units : List ℕ) → units_of (map (item_with piece) units) ≡ units
units_back piece [] = refl
units_back piece (u ∷ us) = ap (λ more. u ∷ more) (units_back piece us)

again : (piece : Piece) (units : List ℕ) → piece.units ≡ units → 1 ≤ length units →
    piece_json piece ≡ stretch_json (map (item_with piece) units)
again piece [] is some = absurd (omega (arith, some))
again piece (u ∷ us) is some =
    ap (λ units. piece_json (record piece { units = units })) (is ∙ ap (λ more. u ∷ more) (sym (units_back piece us)))

pub units_again : (piece : Piece) → IsValidPiece piece → piece_json piece ≡ stretch_json (piece_items piece)
units_again piece right = again piece piece.units refl right.some

-- the piece of a stretch of formed items is formed
units_small : (items : List Item) → All IsFormedItem items → (i : ℕ) → slice_index (units_of items) i < 2 ^ 16
units_small [] formed i = omega arith
units_small (x ∷ xs) formed zero = (formed zero x (omega arith)).unit
units_small (x ∷ xs) formed (suc i) = units_small xs (λ k d less. formed (suc k) d (omega (arith, less))) i

pub formed_from : (item : Item) (more : List Item) → IsJoinedStretch is_one_piece (item ∷ more) →
    All IsFormedItem (item ∷ more) → IsFormedPiece (piece_from item more)
formed_from item more joined formed =
    let first = formed zero item (omega arith) in (
      record {
        chp = first.maps.chp;
        pap = first.maps.pap;
        sect = first.maps.sect;
        some = omega arith;
        alone = λ special.
            let none = alone item more joined special in
            let count = ap length none in
            omega (arith, count, length-map {B = ℕ} more);
      },
      record { units = units_small (item ∷ more) formed; style = first.style; field = first.field },
    )
