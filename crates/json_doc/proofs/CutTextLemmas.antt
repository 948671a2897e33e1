-- Pieces that are read one behind the other are the stretches of their items.
use Rattle.std.proofs.Common.{◌≡◌, ◌≢◌, ◌+◌, ◌-◌, ◌<◌, ◌^◌, ℕ, zero, suc, false, List, [], ◌∷◌, ◌++◌}
use Rattle.std.proofs.Common.{Option, Some, None, length, map, take, drop, get_or, slice_get, All, length-append}
use Rattle.std.proofs.Common.{refl, sym, ap, ◌∙◌, subst, arith, append_assoc, append-nil}
use Rattle.std.specs.Prelude.{⊤}
use Rattle.std.specs.List.{flat_map}
use Rattle.std.proofs.Math.Seq.{take-append_seam, drop-append_seam}
use Rattle.std.proofs.lemmas.List.{length-map, get_or-map}
use Rattle.std.proofs.lemmas.List.Elements.{All-append}
use Rattle.std.proofs.lemmas.Grind.{flat_map-append}
use Rattle.std.proofs.lemmas.Option.{same_Some, get_or_from_slice_get}
use Rattle.doc_bits.proofs.Public.{slice_get_before, from_behind}
use Rattle.serde_json.specs.Data.{Data, null, array, item}
use Rattle.serde_json.specs.View.{items_of}
use Rattle.doc_model.specs.declared.item.Item.{Item}
use Rattle.doc_model.specs.Document.{IsFormedItem, IsFormedText}
use Rattle.doc_model.specs.Stretches.{stretches, joins_next, IsJoinedStretch, goes_over, BeginsStretch}
use Rattle.plain_doc.proofs.Public.{cut_into_stretches}
use Rattle.doc_model.proofs.Public.{stretches-first, stretches-nil}
use Rattle.json_values.specs.Plain.{ItemsHaveKeysInOrder}
use Rattle.json_doc.specs.declared.pieces.Piece.{Piece}
use Rattle.json_doc.specs.Pieces.{is_one_piece, piece_from, piece_json, stretch_json, text_json}
use Rattle.json_doc.specs.PieceReading.{piece_of, piece_items, IsFormedPiece, IsPieceAdded, IsNoPiece}
use Rattle.json_doc.proofs.PieceReadLemmas.{pieces_one, piece_spelt}
use Rattle.json_doc.proofs.ReadLemmas.{All-cons, same_items}
use Rattle.json_doc.proofs.TextReadLemmas.{from_items, formed_from, items_joined, units_again, formed_items}
use Rattle.json_doc.proofs.TextReadLemmas.{over_behind}

-- ---- lists of items

abbrev pub flat : List (List Item) → List Item
flat parts = flat_map (λ part. part) parts

-- the first of two lists is that of the first
over_front : (xs ys rest : List Item) → 0 < length ys →
    goes_over is_one_piece xs (ys ++ rest) ≡ goes_over is_one_piece xs ys
over_front xs ys rest some =
    ap (λ o. joins_next is_one_piece (slice_get xs (length xs - 1)) o) (slice_get_before ys rest 0 some)

joins_none : (x : Option Item) → joins_next is_one_piece x None ≡ false
joins_none None = refl
joins_none (Some x) = refl

-- a part whose items join, and whose last one does not join what follows, is the first stretch
first_cut : (part more : List Item) → 0 < length part → IsJoinedStretch is_one_piece part →
    goes_over is_one_piece part more ≡ false →
    stretches is_one_piece (part ++ more) ≡ part ∷ stretches is_one_piece more
first_cut part more some joined ends =
    let last : length part - 1 < length part = omega (arith, some) in
    let next : length part - 1 + 1 ≡ length part + 0 = omega (arith, some) in
    let begins : BeginsStretch is_one_piece (part ++ more) (length part) = record {
      some = some;
      within = omega (arith, length-append part more);
      joined = λ k h.
          let here : k < length part = omega (arith, h) in
          rw (slice_get_before part more k here, slice_get_before part more (k + 1) h) (joined k h);
      ends =
          rw (slice_get_before part more (length part - 1) last, next, from_behind part more 0) ends;
    } in
    stretches-first is_one_piece (part ++ more) (length part) begins
    ∙ rw (take-append_seam part more, drop-append_seam part more) refl

-- what holds of all holds of both parts
All-left : (xs ys : List Item) → All IsFormedItem (xs ++ ys) → All IsFormedItem xs
All-left [] ys all = λ k d less. absurd (omega (arith, less))
All-left (x ∷ xs) ys all =
    All-cons IsFormedItem x xs (all zero x (omega arith)) (All-left xs ys (λ k d less. all (suc k) d (omega (
      arith,
      less,
    ))))

All-right : (xs ys : List Item) → All IsFormedItem (xs ++ ys) → All IsFormedItem ys
All-right [] ys all = all
All-right (x ∷ xs) ys all = All-right xs ys (λ k d less. all (suc k) d (omega (arith, less)))

take-map : (i : ℕ) (parts : List (List Item)) → take i (map stretch_json parts) ≡ map stretch_json (take i parts)
take-map zero parts = refl
take-map (suc i) [] = refl
take-map (suc i) (p ∷ ps) = ap (λ more. stretch_json p ∷ more) (take-map i ps)

-- ---- pieces that were read

-- each value was read as a formed piece
abbrev pub AreFound : List Data → List Piece → Type 0
AreFound [] [] = ⊤
AreFound [] (p ∷ ps) = ⊥
AreFound (d ∷ ds) [] = ⊥
AreFound (d ∷ ds) (p ∷ ps) = ((piece_of d ≡ Some p) × IsFormedPiece p) × AreFound ds ps

-- the values were read as these pieces, whose items are one behind the other and are cut as they were
pub record AreTaken (ds : List Data) (items : List Item) : Type 0 where
  pub pieces : List Piece
  pub found : AreFound ds pieces
  pub whole : items ≡ flat (map piece_items pieces)
  pub cut : (rest : List Item) → goes_over is_one_piece items rest ≡ false →
      stretches is_one_piece (items ++ rest) ≡ map piece_items pieces ++ stretches is_one_piece rest

pub none_taken : AreTaken [] []
none_taken = record { pieces = []; found = tt; whole = refl; cut = λ rest over. refl }

found_more : (ds : List Data) (ps : List Piece) (d : Data) (p : Piece) → AreFound ds ps → piece_of d ≡ Some p →
    IsFormedPiece p → AreFound (ds ++ d ∷ []) (ps ++ p ∷ [])
found_more [] [] d p before read formed = ((read, formed), tt)
found_more [] (q ∷ qs) d p before read formed = absurd before
found_more (c ∷ cs) [] d p before read formed = absurd before
found_more (c ∷ cs) (q ∷ qs) d p before read formed = (before.0, found_more cs qs d p before.1 read formed)

flat_more : (ps : List Piece) (p : Piece) →
    flat (map piece_items (ps ++ p ∷ [])) ≡ flat (map piece_items ps) ++ piece_items p
flat_more [] p = append-nil (piece_items p)
flat_more (q ∷ qs) p =
    ap (λ more. piece_items q ++ more) (flat_more qs p)
    ∙ sym (append_assoc (piece_items q) (flat (map piece_items qs)) (piece_items p))

map_more : (ps : List Piece) (p : Piece) (rest : List (List Item)) →
    map piece_items (ps ++ p ∷ []) ++ rest ≡ map piece_items ps ++ (piece_items p ∷ rest)
map_more [] p rest = refl
map_more (q ∷ qs) p rest = ap (λ more. piece_items q ∷ more) (map_more qs p rest)

some_items : (p : Piece) → IsFormedPiece p → 0 < length (piece_items p)
some_items p formed = let some = formed.0.some in omega (arith, some, length-map {B = Item} p.units)

pub one_taken : (ds : List Data) (old new : List Item) (d : Data) → AreTaken ds old → IsPieceAdded d old new →
    AreTaken (ds ++ d ∷ []) new
one_taken ds old new d before added =
    let p = added.piece in
    let part = piece_items p in
    let some = some_items p added.formed in
    record {
      pieces = before.pieces ++ p ∷ [];
      found = found_more ds before.pieces d p before.found added.read added.formed;
      whole = added.grown ∙ ap (λ items. items ++ part) before.whole ∙ sym (flat_more before.pieces p);
      cut = λ rest over.
          let ends : goes_over is_one_piece part rest ≡ false =
          sym (over_behind old part rest some)
          ∙ ap (λ items. goes_over is_one_piece items rest) (sym added.grown) ∙ over in
          ap (λ items. stretches is_one_piece (items ++ rest)) added.grown
          ∙ ap (stretches is_one_piece) (append_assoc old part rest)
          ∙ before.cut (part ++ rest) (over_front old part rest some ∙ added.apart)
          ∙ ap (λ more. map piece_items before.pieces ++ more) (first_cut part rest some
          (items_joined p added.formed.0) ends)
          ∙ sym (map_more before.pieces p (stretches is_one_piece rest));
    }

-- the pieces are the stretches of the items
pub taken_cut : (ds : List Data) (items : List Item) → (t : AreTaken ds items) →
    stretches is_one_piece items ≡ map piece_items t.pieces
taken_cut ds items t =
    ap (stretches is_one_piece) (sym (append-nil items))
    ∙ t.cut [] (joins_none (slice_get items (length items - 1)))
    ∙ ap (λ more. map piece_items t.pieces ++ more) (stretches-nil is_one_piece) ∙ append-nil (map piece_items t.pieces)

-- ---- what was read

values_same : (ds : List Data) (ps : List Piece) → AreFound ds ps → ItemsHaveKeysInOrder (items_of ds) →
    items_of ds ≡ items_of (map stretch_json (map piece_items ps))
values_same [] [] found order = refl
values_same [] (p ∷ ps) found order = absurd found
values_same (d ∷ ds) [] found order = absurd found
values_same (d ∷ ds) (p ∷ ps) found order =
    let first = (pieces_one.one d p order.0 found.0.0).1 ∙ units_again p found.0.1.0 in
    let rest = values_same ds ps found.1 order.1 in
    λ i. item (first i) (rest i)

formed_all : (ds : List Data) (ps : List Piece) → AreFound ds ps → All IsFormedItem (flat (map piece_items ps))
formed_all [] [] found = λ k d less. absurd (omega (arith, less))
formed_all [] (p ∷ ps) found = absurd found
formed_all (d ∷ ds) [] found = absurd found
formed_all (d ∷ ds) (p ∷ ps) found =
    All-append IsFormedItem (piece_items p) (flat (map piece_items ps)) (formed_items p found.0.1)
    (formed_all ds ps found.1)

pub taken_formed : (ds : List Data) (items : List Item) → AreTaken ds items → All IsFormedItem items
taken_formed ds items t = subst (All IsFormedItem) (sym t.whole) (formed_all ds t.pieces t.found)

pub taken_same : (ds : List Data) (items : List Item) → AreTaken ds items → ItemsHaveKeysInOrder (items_of ds) →
    array (items_of ds) ≡ text_json items
taken_same ds items t order =
    ap array (values_same ds t.pieces t.found order
    ∙ ap (λ parts. items_of (map stretch_json parts)) (sym (taken_cut ds items t)))

-- ---- what was not read

-- a stretch of a formed text
pub record IsGoodPart (part : List Item) : Type 0 where
  pub some : 0 < length part
  pub joined : IsJoinedStretch is_one_piece part
  pub formed : All IsFormedItem part

abbrev pub AreGood : List (List Item) → Type 0
AreGood [] = ⊤
AreGood (part ∷ more) = IsGoodPart part × AreGood more

abbrev AreCut : List (List Item) → Type 0
AreCut [] = ⊤
AreCut (part ∷ []) = ⊤
AreCut (part ∷ next ∷ more) = (goes_over is_one_piece part next ≡ false) × AreCut (next ∷ more)

-- a good part is the items of a formed piece, which has its value
pub record IsPieceOf (part : List Item) : Type 0 where
  pub piece : Piece
  pub formed : IsFormedPiece piece
  pub items : piece_items piece ≡ part
  pub json : stretch_json part ≡ piece_json piece

pub piece_for : (part : List Item) → IsGoodPart part → IsPieceOf part
piece_for [] good = absurd (let some = good.some in omega (arith, some))
piece_for (x ∷ more) good = record {
  piece = piece_from x more;
  formed = formed_from x more good.joined good.formed;
  items = from_items x more good.joined;
  json = refl;
}

-- the pieces of values are those that the values were made for
same_parts : (ds : List Data) (ps : List Piece) (parts : List (List Item)) → AreFound ds ps → AreGood parts →
    ds ≡ map stretch_json parts → map piece_items ps ≡ parts
same_parts [] [] [] found good e = refl
same_parts [] [] (q ∷ qs) found good e = absurd (let l = ap length e in omega (arith, l))
same_parts [] (p ∷ ps) parts found good e = absurd found
same_parts (d ∷ ds) [] parts found good e = absurd found
same_parts (d ∷ ds) (p ∷ ps) [] found good e = absurd (let l = ap length e in omega (arith, l))
same_parts (d ∷ ds) (p ∷ ps) (q ∷ qs) found good e =
    let made = piece_for q good.0 in
    let value : d ≡ piece_json made.piece = ap (λ l. get_or l 0 null) e ∙ made.json in
    let same : p ≡ made.piece =
    same_Some p made.piece (sym found.0.0 ∙ ap piece_of value
    ∙ pieces_one.back made.piece (piece_spelt made.piece made.formed)) in
    let rest = same_parts ds ps qs found.1 good.1 (ap (drop 1) e) in
    λ i. (ap piece_items same ∙ made.items) i ∷ rest i

-- the parts before one do not go over into it
cut_before : (front : List (List Item)) (part : List Item) (rest : List (List Item)) → AreGood (front ++ part ∷ rest) →
    AreCut (front ++ part ∷ rest) → goes_over is_one_piece (flat front) part ≡ false
cut_before [] part rest good cut = refl
cut_before (f ∷ []) part rest good cut = ap (λ xs. goes_over is_one_piece xs part) (append-nil f) ∙ cut.0
cut_before (f ∷ g ∷ more) part rest good cut =
    let some = good.1.0.some in
    over_behind f (flat (g ∷ more)) part (omega (arith, some, length-append g (flat more)))
    ∙ cut_before (g ∷ more) part rest good.1 cut.1

-- the parts up to a place, that one, and the others
record IsSplit {A : Type 0} (xs : List A) (i : ℕ) : Type 0 where
  part : A
  is : xs ≡ take i xs ++ part ∷ drop (i + 1) xs
  here : slice_get xs i ≡ Some part

split_at : {A : Type 0} (xs : List A) (i : ℕ) → i < length xs → IsSplit xs i
split_at [] i within = absurd (omega (arith, within))
split_at (x ∷ xs) zero within = record { part = x; is = refl; here = refl }
split_at (x ∷ xs) (suc i) within =
    let rest = split_at xs i (omega (arith, within)) in
    let next : suc i + 1 ≡ suc (i + 1) = omega arith in
    record {
      part = rest.part;
      is = ap (λ more. x ∷ more) rest.is ∙ ap (λ k. x ∷ (take i xs ++ rest.part ∷ drop k (x ∷ xs))) (sym next);
      here = rest.here;
    }

good_part : (front : List (List Item)) (part : List Item) (rest : List (List Item)) → AreGood (front ++ part ∷ rest) →
    IsGoodPart part
good_part [] part rest good = good.0
good_part (f ∷ more) part rest good = good_part more part rest good.1

good_front : (front back : List (List Item)) → AreGood (front ++ back) → AreGood front
good_front [] back good = tt
good_front (f ∷ more) back good = (good.0, good_front more back good.1)

-- the stretches of a formed text
good_by : (parts : List (List Item)) → All (λ part. 0 < length part) parts → All (IsJoinedStretch is_one_piece) parts →
    All IsFormedItem (flat parts) → AreGood parts
good_by [] some joined formed = tt
good_by (p ∷ ps) some joined formed = (
  record {
    some = some zero p (omega arith);
    joined = joined zero p (omega arith);
    formed = All-left p (flat ps) formed;
  },
  good_by ps (λ k d less. some (suc k) d (omega (arith, less))) (λ k d less. joined (suc k) d (omega (arith, less)))
      (All-right p (flat ps) formed),
)

cut_by : (parts : List (List Item)) → ((i : ℕ) (one next : List Item) → slice_get parts i ≡ Some one →
    slice_get parts (i + 1) ≡ Some next → goes_over is_one_piece one next ≡ false) → AreCut parts
cut_by [] apart = tt
cut_by (p ∷ []) apart = tt
cut_by (p ∷ q ∷ more) apart = (
  apart 0 p q refl refl,
  cut_by (q ∷ more) (λ i one next here there.
      let e : suc i + 1 ≡ suc (i + 1) = omega arith in
      apart (suc i) one next here (ap (slice_get (p ∷ q ∷ more)) e ∙ there)),
)

-- no formed text has a value where a piece may not be
pub text_unread : (ds : List Data) (i : ℕ) (items : List Item) → i < length ds → AreTaken (take i ds) items →
    IsNoPiece (get_or ds i null) items → (x : List Item) → IsFormedText x → array (items_of ds) ≢ text_json x
text_unread ds i items within taken none x formed e =
    let parts = stretches is_one_piece x in
    let are = cut_into_stretches is_one_piece x in
    let good = good_by parts are.some are.joined (subst (All IsFormedItem) (sym are.whole) formed.each) in
    let cut = cut_by parts are.apart in
    let same = same_items ds (map stretch_json parts) e in
    let len = ap length same in
    let count : length ds ≡ length parts = omega (arith, len, length-map {B = Data} parts) in
    let split = split_at parts i (omega (arith, within, count)) in
    let good_split = subst AreGood split.is good in
    let cut_split = subst AreCut split.is cut in
    let here = good_part (take i parts) split.part (drop (i + 1) parts) good_split in
    let made = piece_for split.part here in
    let front : take i ds ≡ map stretch_json (take i parts) = ap (take i) same ∙ take-map i parts in
    let before = same_parts (take i ds) taken.pieces (take i parts) taken.found
    (good_front (take i parts) (split.part ∷ drop (i + 1) parts) good_split) front in
    let items_are : items ≡ flat (take i parts) = taken.whole ∙ ap flat before in
    let apart : goes_over is_one_piece items (piece_items made.piece) ≡ false =
    (λ k. goes_over is_one_piece (items_are k) (made.items k))
    ∙ cut_before (take i parts) split.part (drop (i + 1) parts) good_split cut_split in
    let whole : x ≡ flat (take i parts) ++ (split.part ++ flat (drop (i + 1) parts)) =
    sym are.whole ∙ ap flat split.is ∙ flat_map-append (λ p. p) (take i parts) (split.part ∷ drop (i + 1) parts) in
    let few = formed.few in
    let room : length items + length made.piece.units < 2 ^ 32 =
    omega (
      arith,
      ap length whole,
      length-append (flat (take i parts)) (split.part ++ flat (drop (i + 1) parts)),
      length-append split.part (flat (drop (i + 1) parts)),
      ap length items_are,
      ap length made.items,
      length-map {B = Item} made.piece.units,
      few,
    ) in
    let value : get_or ds i null ≡ stretch_json split.part =
    ap (λ l. get_or l i null) same ∙ get_or-map stretch_json parts i split.part null (omega (arith, within, count))
    ∙ ap stretch_json (get_or_from_slice_get parts i split.part split.part split.here) in
    none made.piece made.formed (record { apart = apart; room = room }) (value ∙ made.json)

-- the stretches of a formed text are good
pub good_stretches : (x : List Item) → IsFormedText x → AreGood (stretches is_one_piece x)
good_stretches x formed =
    let are = cut_into_stretches is_one_piece x in
    good_by (stretches is_one_piece x) are.some are.joined (subst (All IsFormedItem) (sym are.whole) formed.each)

-- parts with the same values are the same
good_same : (ps qs : List (List Item)) → AreGood ps → AreGood qs → map stretch_json ps ≡ map stretch_json qs → ps ≡ qs
good_same [] [] good other e = refl
good_same [] (q ∷ qs) good other e = absurd (let l = ap length e in omega (arith, l))
good_same (p ∷ ps) [] good other e = absurd (let l = ap length e in omega (arith, l))
good_same (p ∷ ps) (q ∷ qs) good other e =
    let one = piece_for p good.0 in
    let two = piece_for q other.0 in
    let value : piece_json one.piece ≡ piece_json two.piece =
    sym one.json ∙ ap (λ l. get_or l 0 null) e ∙ two.json in
    let same : one.piece ≡ two.piece =
    same_Some one.piece two.piece (sym (pieces_one.back one.piece (piece_spelt one.piece one.formed))
    ∙ ap piece_of value ∙ pieces_one.back two.piece (piece_spelt two.piece two.formed)) in
    let rest = good_same ps qs good.1 other.1 (ap (drop 1) e) in
    λ i. (sym one.items ∙ ap piece_items same ∙ two.items) i ∷ rest i

-- formed texts with the same value are the same
pub texts_same : (x y : List Item) → IsFormedText x → IsFormedText y → text_json x ≡ text_json y → x ≡ y
texts_same x y formed other e =
    let ps = stretches is_one_piece x in
    let qs = stretches is_one_piece y in
    let same = good_same ps qs (good_stretches x formed) (good_stretches y other) (same_items (map stretch_json ps) (map
    stretch_json qs) e) in
    sym (cut_into_stretches is_one_piece x).whole ∙ ap flat same ∙ (cut_into_stretches is_one_piece y).whole
