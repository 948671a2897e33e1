-- The values of pieces at new places.
use Rattle.std.specs.Prelude.{slice_get, slice_range, is_some, min}
use Rattle.std.specs.Option.{option_map}
use Rattle.std.specs.List.{All, take-map, drop-map}
use Rattle.std.proofs.Common.{◌≡◌, ◌∙◌, ◌++◌, ◌∷◌, ◌+◌, ◌-◌, ◌<◌, ◌≤◌, [], ℕ, List, refl, sym, ap}
use Rattle.std.proofs.Common.{Option, Some, None, zero, suc, length, map, take, drop, get_or}
use Rattle.std.proofs.Common.{arith, append_assoc}
use Rattle.std.proofs.lemmas.List.{append-nil, length-append, length-map, map-append, length-take}
use Rattle.std.proofs.lemmas.List.{length-drop, drop-drop}
use Rattle.std.proofs.lemmas.List.Elements.{All-append, All-nil, All-weaker}
use Rattle.std.proofs.lemmas.List.Sums.{sum_by-cons, sum_by-append, sum_by-take-le}
use Rattle.std.proofs.lemmas.Option.{slice_get_within, slice_get-get_or, same_Some, none-some}
use Rattle.prop_map.specs.Settings.{Properties}
use Rattle.chunked_list.proofs.Public.{range-append, range_clamped}
use Rattle.piece_table.specs.declared.pieces.Piece.{Piece}
use Rattle.piece_table.specs.Piece.{TextPiece, bare_piece, total_length}
use Rattle.doc_model.specs.declared.item.Item.{Item}
use Rattle.doc_model.specs.Document.{HasPropertyMaps, IsFormedItem, IsFormedText}
use Rattle.doc_model.proofs.Public.{take_next}
use Rattle.doc_columns.specs.declared.attached.Attached.{Attached}
use Rattle.doc_columns.specs.Attached.{attached_of}
use Rattle.doc_columns.specs.Columns.{items_of}
use Rattle.doc_columns.proofs.Public.{items_of-maps}
use Rattle.session_text.specs.declared.picked.Stretch.{Stretch}
use Rattle.session_text.specs.WrittenAgain.{renewed_values, values_for}
use Rattle.session_text.specs.Picked.{IsNextStretch}
use Rattle.session_text.proofs.TextLemmas.{All-front, All-back}

-- ---- a piece more

pub renewed_values-push : {A : Type 0} (places : List (Option ℕ)) (pieces : List TextPiece) (place : Option ℕ)
    (piece : TextPiece) (values : List A) → length places ≡ length pieces →
    renewed_values (places ++ place ∷ []) (pieces ++ piece ∷ []) values
    ≡ renewed_values places pieces values
    ++ values_for (is_some place) (slice_range values (total_length pieces) (total_length pieces + piece.len))
renewed_values-push [] [] place piece values len =
    let e : piece.len ≡ 0 + piece.len - 0 = omega arith in
    append-nil (values_for (is_some place) (take piece.len values))
    ∙ ap (λ n. values_for (is_some place) (take n values)) e
renewed_values-push [] (front ∷ pieces) place piece values len = absurd (omega (arith, len))
renewed_values-push (first ∷ places) [] place piece values len = absurd (omega (arith, len))
renewed_values-push {A = A} (first ∷ places) (front ∷ pieces) place piece values len =
    let one : List A = values_for (is_some first) (take front.len values) in
    let rest : List A = drop front.len values in
    let total : ℕ = total_length pieces in
    let begin : total_length (front ∷ pieces) ≡ front.len + total =
    sum_by-cons (λ (p : TextPiece). p.len) front pieces in
    let width : total + piece.len - total ≡ total_length (front ∷ pieces) + piece.len - total_length (front ∷ pieces) =
    omega arith in
    let range : slice_range rest total (total + piece.len) ≡ slice_range values (total_length (front ∷ pieces))
    (total_length (front ∷ pieces) + piece.len) =
    ap (take (total + piece.len - total)) (drop-drop total front.len values ∙ ap (λ n. drop n values) (sym begin))
    ∙ ap (λ n. take n (drop (total_length (front ∷ pieces)) values)) width in
    ap (λ l. one ++ l)
    (renewed_values-push places pieces place piece rest (omega (arith, len))
    ∙ ap (λ l. renewed_values places pieces rest ++ values_for (is_some place) l) range)
    ∙ sym (append_assoc one (renewed_values places pieces rest) (values_for (is_some place) (slice_range values
    (total_length (front ∷ pieces)) (total_length (front ∷ pieces) + piece.len))))

-- no more values than units
pub renewed_few : {A : Type 0} (places : List (Option ℕ)) (pieces : List TextPiece) (values : List A) →
    length (renewed_values places pieces values) ≤ total_length pieces
renewed_few [] pieces values = omega arith
renewed_few (place ∷ places) [] values = omega arith
renewed_few (Some at ∷ places) (piece ∷ pieces) values =
    omega (
      arith,
      renewed_few places pieces (drop piece.len values),
      length-append (take piece.len values) (renewed_values places pieces (drop piece.len values)),
      length-take piece.len values,
      sum_by-cons (λ (p : TextPiece). p.len) piece pieces,
    )
renewed_few (None ∷ places) (piece ∷ pieces) values =
    omega (
      arith,
      renewed_few places pieces (drop piece.len values),
      sum_by-cons (λ (p : TextPiece). p.len) piece pieces,
    )

pub renewed_all : {A : Type 0} (P : A → Type 0) (places : List (Option ℕ)) (pieces : List TextPiece)
    (values : List A) → All P values → All P (renewed_values places pieces values)
renewed_all P [] pieces values all = All-nil P
renewed_all P (place ∷ places) [] values all = All-nil P
renewed_all P (Some at ∷ places) (piece ∷ pieces) values all =
    All-append P (take piece.len values) (renewed_values places pieces (drop piece.len values))
    (All-front P piece.len values all)
    (renewed_all P places pieces (drop piece.len values) (All-back P piece.len values all))
renewed_all P (None ∷ places) (piece ∷ pieces) values all =
    renewed_all P places pieces (drop piece.len values) (All-back P piece.len values all)

renewed_map : {A B : Type 0} (what : A → B) (places : List (Option ℕ)) (pieces : List TextPiece) (values : List A) →
    renewed_values places pieces (map what values) ≡ map what (renewed_values places pieces values)
renewed_map what [] pieces values = refl
renewed_map what (place ∷ places) [] values = refl
renewed_map {B = B} what (Some at ∷ places) (piece ∷ pieces) values =
    ap (λ (l : List B). l ++ renewed_values places pieces (drop piece.len (map what values)))
    (take-map what piece.len values)
    ∙ (ap (λ (l : List B). map what (take piece.len values) ++ l)
    (ap (renewed_values places pieces) (drop-map what piece.len values)
    ∙ renewed_map what places pieces (drop piece.len values))
    ∙ sym (map-append what (take piece.len values) (renewed_values places pieces (drop piece.len values))))
renewed_map what (None ∷ places) (piece ∷ pieces) values =
    ap (renewed_values places pieces) (drop-map what piece.len values)
    ∙ renewed_map what places pieces (drop piece.len values)

-- ---- the next stretch

-- the next piece, of which a part is known
pub record IsNextPiece (pieces : List TextPiece) (number : ℕ) (bare : Piece) : Type 0 where
  pub piece : TextPiece
  pub here : slice_get pieces number ≡ Some piece
  pub whole : pieces ≡ take number pieces ++ (piece ∷ drop (suc number) pieces)
  pub next : take (suc number) pieces ≡ take number pieces ++ piece ∷ []
  pub len : piece.len ≡ bare.len

pub next_piece : (pieces : List TextPiece) (number : ℕ) (bare : Piece) →
    option_map bare_piece (slice_get pieces number) ≡ Some bare → IsNextPiece pieces number bare
next_piece [] number bare is = absurd (none-some bare is)
next_piece (piece ∷ pieces) zero bare is = record {
  piece = piece;
  here = refl;
  whole = refl;
  next = refl;
  len = ap (λ (p : Piece). p.len) (same_Some (bare_piece piece) bare is);
}
next_piece (first ∷ pieces) (suc number) bare is =
    let found = next_piece pieces number bare is in
    record {
      piece = found.piece;
      here = found.here;
      whole = ap (λ l. first ∷ l) found.whole;
      next = ap (λ l. first ∷ l) found.next;
      len = found.len;
    }

pub picked_more : {A : Type 0} (places : List (Option ℕ)) (pieces : List TextPiece) (number begin : ℕ)
    (stretch : Stretch) (values : List A) → IsNextStretch places pieces number begin stretch →
    begin ≡ total_length (take number pieces) → length places ≡ length pieces →
    renewed_values (take (number + 1) places) (take (number + 1) pieces) values
    ≡ renewed_values (take number places) (take number pieces) values
    ++ values_for stretch.again (slice_range values stretch.from stretch.to)
picked_more {A = A} places pieces number begin stretch values is at len =
    let low : number < length pieces = slice_get_within pieces number is.piece is.here in
    let first : take (number + 1) places ≡ take number places ++ is.place ∷ [] =
    take_next places number is.place (omega (arith, low, len)) is.there in
    let second : take (number + 1) pieces ≡ take number pieces ++ is.piece ∷ [] =
    take_next pieces number is.piece low is.here in
    let long : length (take number places) ≡ length (take number pieces) =
    omega (arith, length-take number places, length-take number pieces, len) in
    let total : ℕ = total_length (take number pieces) in
    let from : stretch.from ≡ total = is.begins ∙ at in
    let to : stretch.to ≡ total + is.piece.len = is.ends ∙ ap (λ n. n + is.piece.len) at in
    ap (λ l. renewed_values l (take (number + 1) pieces) values) first
    ∙ (ap (λ l. renewed_values (take number places ++ is.place ∷ []) l values) second
    ∙ (renewed_values-push (take number places) (take number pieces) is.place is.piece values long
    ∙ ap (λ l. renewed_values (take number places) (take number pieces) values ++ l)
    (ap (λ b. values_for b (slice_range values total (total + is.piece.len))) (sym is.chosen)
    ∙ ap (values_for stretch.again)
    (ap (λ n. slice_range values n (total + is.piece.len)) (sym from)
    ∙ ap (slice_range values stretch.from) (sym to)))))

-- where it ends
pub next_total : (places : List (Option ℕ)) (pieces : List TextPiece) (number begin : ℕ) (stretch : Stretch) →
    IsNextStretch places pieces number begin stretch → begin ≡ total_length (take number pieces) →
    stretch.to ≡ total_length (take (number + 1) pieces)
next_total places pieces number begin stretch is at =
    let low : number < length pieces = slice_get_within pieces number is.piece is.here in
    let second : take (number + 1) pieces ≡ take number pieces ++ is.piece ∷ [] =
    take_next pieces number is.piece low is.here in
    let units : TextPiece → ℕ = λ p. p.len in
    omega (
      arith,
      is.ends,
      at,
      ap total_length second,
      sum_by-append units (take number pieces) (is.piece ∷ []),
      sum_by-cons units is.piece [],
    )

-- the first pieces are no longer than all
pub total_upto : (pieces : List TextPiece) (number : ℕ) → total_length (take number pieces) ≤ total_length pieces
total_upto pieces number = sum_by-take-le (λ (p : TextPiece). p.len) pieces number

-- a piece, which begins at a CP, beside its place
pub next_stretch : (places : List (Option ℕ)) (pieces : List TextPiece) (number begin : ℕ) (bare : Piece)
    (stretch : Stretch) (d : Option ℕ) → option_map bare_piece (slice_get pieces number) ≡ Some bare →
    length places ≡ length pieces → stretch.from ≡ begin → stretch.to ≡ begin + bare.len →
    stretch.again ≡ is_some (get_or places number d) → IsNextStretch places pieces number begin stretch
next_stretch places pieces number begin bare stretch d is len from to again =
    let next = next_piece pieces number bare is in
    let low : number < length places = omega (arith, slice_get_within pieces number next.piece next.here, len) in
    record {
      piece = next.piece;
      here = next.here;
      place = get_or places number d;
      there = slice_get-get_or places number d low;
      begins = from;
      ends = omega (arith, to, next.len);
      chosen = again;
    }

-- ---- a range of two lists

pub length-range : {A : Type 0} (values : List A) (from to : ℕ) → from ≤ to → to ≤ length values →
    length (slice_range values from to) ≡ to - from
length-range values from to order within =
    omega (arith, length-take (to - from) (drop from values), length-drop from values, order, within)

pub range_of_two : {A : Type 0} (first second : List A) (from to front end : ℕ) → from ≤ to →
    front ≡ min from (length first) → end ≡ min to (length first) →
    slice_range (first ++ second) from to
    ≡ slice_range first front end ++ slice_range second (from - front) (to - end)
range_of_two {A = A} first second from to front end order low high =
    let one : from - length first ≡ from - front = omega (arith, low) in
    let two : to - length first ≡ to - end = omega (arith, high) in
    range-append first second from to order
    ∙ (ap (λ (l : List A). l ++ slice_range second (from - length first) (to - length first))
    (sym (range_clamped first from to order)
    ∙ (ap (λ n. slice_range first n (min to (length first))) (sym low) ∙ ap (slice_range first front) (sym high)))
    ∙ ap (λ (l : List A). slice_range first front end ++ l)
    (ap (λ n. slice_range second n (to - length first)) one ∙ ap (slice_range second (from - front)) two))

-- ---- the three columns

pub record ArePicked
    (units : List ℕ) (chps : List Properties) (attachments : List Attached) (items : List Item) : Type 0 where
  pub chps_long : length chps ≡ length units
  pub attachments_long : length attachments ≡ length units
  pub is : items_of units chps attachments ≡ items
  pub count : length units ≡ length items

pub picked_columns : (places : List (Option ℕ)) (pieces : List TextPiece) (main behind : List Item)
    (units first_units second_units : List ℕ) (chps first_chps second_chps : List Properties)
    (attachments first_attachments second_attachments : List Attached) → first_units ≡ map (λ item. item.unit) main →
    second_units ≡ map (λ item. item.unit) behind → first_chps ≡ map (λ item. item.chp) main →
    second_chps ≡ map (λ item. item.chp) behind → first_attachments ≡ map attached_of main →
    second_attachments ≡ map attached_of behind → units ≡ renewed_values places pieces (first_units ++ second_units) →
    chps ≡ renewed_values places pieces (first_chps ++ second_chps) →
    attachments ≡ renewed_values places pieces (first_attachments ++ second_attachments) →
    ArePicked units chps attachments (renewed_values places pieces (main ++ behind))
picked_columns places pieces main behind units first_units second_units chps first_chps second_chps attachments
    first_attachments second_attachments a b c d e f units_are chps_are attachments_are =
    let all : List Item = renewed_values places pieces (main ++ behind) in
    let unit : Item → ℕ = λ item. item.unit in
    let chp : Item → Properties = λ item. item.chp in
    let one : units ≡ map unit all =
    units_are ∙ (column unit first_units second_units a b) in
    let two : chps ≡ map chp all = chps_are ∙ (column chp first_chps second_chps c d) in
    let three : attachments ≡ map attached_of all = attachments_are ∙ (column attached_of first_attachments
    second_attachments e f) in
    record {
      chps_long = omega (arith, ap length one, ap length two, length-map all unit, length-map all chp);
      attachments_long = omega (arith, ap length one, ap length three, length-map all unit, length-map all attached_of);
      is = rw (one, two, three) (items_of-maps all);
      count = omega (arith, ap length one, length-map all unit);
    }
  where
    column : {B : Type 0} (what : Item → B) (first second : List B) → first ≡ map what main →
        second ≡ map what behind →
        renewed_values places pieces (first ++ second) ≡ map what (renewed_values places pieces (main ++ behind))
    column {B = B} what first second one two =
        ap (renewed_values places pieces)
        (ap (λ (l : List B). l ++ second) one
        ∙ (ap (λ (l : List B). map what main ++ l) two ∙ sym (map-append what main behind)))
        ∙ renewed_map what places pieces (main ++ behind)

-- the maps of picked items
pub picked_maps : (places : List (Option ℕ)) (pieces : List TextPiece) (main behind : List Item) → IsFormedText main →
    IsFormedText behind → All HasPropertyMaps (renewed_values places pieces (main ++ behind))
picked_maps places pieces main behind first second =
    renewed_all HasPropertyMaps places pieces (main ++ behind)
    (All-weaker IsFormedItem HasPropertyMaps (λ item formed. formed.maps) (main ++ behind)
    (All-append IsFormedItem main behind first.each second.each))
