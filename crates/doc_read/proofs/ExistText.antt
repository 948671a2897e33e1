-- The text of a file: its bytes, its places and their modifiers.
use Rattle.std.proofs.Common.{◌≡◌, ◌∙◌, inl, inr, sym, subst, ℕ, zero, suc, ◌+◌, ◌/◌, ◌%◌, ◌<◌, ◌==◌, Bool}
use Rattle.std.proofs.Common.{true, false, cond, List, [], ◌∷◌, ◌++◌, length, take, get_or, map, flat_map, Some}
use Rattle.std.proofs.Common.{arith, append_assoc}
use Rattle.std.specs.Prelude.{slice_get}
use Rattle.std.specs.List.{All, range_with_len}
use Rattle.std.specs.FinMap.{empty}
use Rattle.std.proofs.lemmas.Option.{same_Some, slice_get_within, get_or_from_slice_get}
use Rattle.std.proofs.lemmas.List.Elements.{All-nil, All-cons, All-head, All-tail, All-append, All-map}
use Rattle.doc_bits.specs.Number.{number_bytes}
use Rattle.doc_bits.proofs.Public.{number_at-bound, AreBytes-take, front_bytes, back_bytes, no_bytes, one_byte}
use Rattle.doc_bits.proofs.Public.{All-from_slice_get}
use Rattle.sprm_table.specs.Sprm.{Prl}
use Rattle.doc_bits.specs.Number.{AreBytes}
use Rattle.prop_map.specs.Formed.{character_groups, paragraph_groups}
use Rattle.prop_map.specs.declared.modifiers.Modifier.{Modifier}
use Rattle.prop_map.proofs.Public.{IsPropertyMap-after, IsPropertyMap-empty, HasByteValue, list_bytes, style_small}
use Rattle.cfb_streams.specs.Contents.{Stream, Contents, HasNamed}
use Rattle.cfb_streams.specs.Container.{HasContents}
use Rattle.cfb_sectors.specs.Header.{sector_bytes}
use Rattle.piece_table.specs.declared.pcd.Prm.TheVariants.{Nothing, Sprm, Prc}
use Rattle.piece_table.specs.Piece.{TextPiece, UnitPlace, places_of_piece, flat_pieces, place_of_cp}
use Rattle.piece_table.specs.Clx.{ClxParts, SpellsClx, IsClx, prc_bytes, pcdt_bytes, prm_word, pcd_prm}
use Rattle.piece_table.specs.PrmLists.{NamesSprms}
use Rattle.direct_props.specs.Laws.{IsValidModifier}
use Rattle.doc_read.proofs.PrmEntries.{named_entries}
use Rattle.cfb_streams.proofs.Public.{sectors_bytes}

-- ---- the bytes of streams

body_bytes : (base unit size : ℕ) (bytes sectors body : List ℕ) → AreBytes bytes →
    body ≡ take size (flat_map (sector_bytes base unit bytes) sectors) → AreBytes body
body_bytes base unit size bytes sectors body are e =
    subst AreBytes (sym e) (AreBytes-take size (flat_map (sector_bytes base unit bytes) sectors) (sectors_bytes base
    unit bytes sectors are))

stream_bytes : (file : List ℕ) (contents : Contents) → AreBytes file → HasContents file contents →
    (i : ℕ) (stream : Stream) → slice_get contents.streams i ≡ Some stream → AreBytes stream.bytes
stream_bytes file contents are has i stream here = elim (has.streams.each i stream here).holds [
  | inl none ↦ subst AreBytes (sym none.bytes) no_bytes
  | inr (inl short) ↦
      body_bytes 0 64 _ _ short.body.sectors stream.bytes (sectors_bytes 512 512 file has.parts.mini_stream are)
      short.body.joined
  | inr (inr long) ↦ body_bytes 512 512 _ file long.sectors stream.bytes are long.body.joined
]

pub named_bytes : (file : List ℕ) (contents : Contents) (name bytes : List ℕ) → AreBytes file →
    HasContents file contents → HasNamed contents.streams name bytes → AreBytes bytes
named_bytes file contents name bytes are has named =
    subst AreBytes (sym named.same) (stream_bytes file contents are has named.index named.stream named.here)

-- ---- the modifiers of pieces

-- and their values are bytes
prm_bytes : (prcs : List (List ℕ)) (a b : Bool) (n isprm operand : ℕ) (sprms : List Prl) →
    ((k : ℕ) (g : List ℕ) → slice_get prcs k ≡ Some g → AreBytes g) → operand < 256 →
    NamesSprms prcs (cond a (Prc n) (cond b Nothing (Sprm isprm operand))) sprms → All HasByteValue sprms
prm_bytes prcs true b n isprm operand sprms bytes small named =
    list_bytes named.0 sprms (bytes n named.0 named.1.0) named.1.1
prm_bytes prcs false true n isprm operand sprms bytes small named =
    subst (All HasByteValue) (sym named) (All-nil HasByteValue)
prm_bytes prcs false false n isprm operand sprms bytes small named =
    subst (All HasByteValue) (sym named.1.1) (All-cons HasByteValue (named.0, operand ∷ []) [] (one_byte operand
    small) (All-nil HasByteValue))

-- the lists of the Prcs, and the Plc, are bytes where the Clx is
sized_body : (clxt width : ℕ) (body more : List ℕ) →
    AreBytes ((clxt ∷ (number_bytes width (length body) ++ body)) ++ more) → AreBytes body
sized_body clxt width body more are =
    back_bytes (number_bytes width (length body)) body (λ i. front_bytes (clxt ∷ (number_bytes width (length body) ++
    body)) more are (suc i))

prcs_bytes : (prcs : List (List ℕ)) (more : List ℕ) → AreBytes (flat_map prc_bytes prcs ++ more) →
    (k : ℕ) (g : List ℕ) → slice_get prcs k ≡ Some g → AreBytes g
prcs_bytes [] more are k g here = absurd (let within = slice_get_within [] k g here in omega arith)
prcs_bytes (p ∷ ps) more are zero g here =
    subst AreBytes (same_Some p g here)
    (sized_body 1 2 p (flat_map prc_bytes ps ++ more) (subst AreBytes (append_assoc (prc_bytes p) (flat_map prc_bytes
    ps) more) are))
prcs_bytes (p ∷ ps) more are (suc k) g here =
    prcs_bytes ps more (back_bytes (prc_bytes p) (flat_map prc_bytes ps ++ more) (subst AreBytes (append_assoc
    (prc_bytes p) (flat_map prc_bytes ps) more) are)) k g here

pub plc_bytes : (clx : List ℕ) (parts : ClxParts) → AreBytes clx → SpellsClx clx parts → AreBytes parts.plc.bytes
plc_bytes clx parts are is =
    sized_body 2 4 parts.plc.bytes is.more (back_bytes (flat_map prc_bytes parts.prcs) (pcdt_bytes parts.plc.bytes ++
    is.more) (subst AreBytes is.spelt are))

pub right_modifiers : (clx : List ℕ) (pieces : List TextPiece) → AreBytes clx → IsClx clx pieces →
    All (λ piece. IsValidModifier piece.modifier) pieces
right_modifiers clx pieces are is =
    let prcs = is.parts.prcs in
    let plc = is.parts.plc in
    let spelt = subst AreBytes is.spelt.spelt are in
    let prc_are : (k : ℕ) (g : List ℕ) → slice_get prcs k ≡ Some g → AreBytes g =
    prcs_bytes prcs (pcdt_bytes plc.bytes ++ is.spelt.more) spelt in
    let plc_are : AreBytes plc.bytes = plc_bytes clx is.parts are is.spelt in
    All-from_slice_get (λ (piece : TextPiece). IsValidModifier piece.modifier) pieces (λ k piece here.
    let names = is.modifiers k piece here in
    let word = prm_word plc k in
    let small : word < 65536 = number_at-bound plc.bytes _ 2 plc_are in
    let entries = named_entries prcs (pcd_prm plc k) names.sprms names.named in
    let bytes = prm_bytes prcs (word % 2 == 1) (word / 2 % 128 == 0) (word / 2) (word / 2 % 128) (word / 256)
    names.sprms prc_are (omega arith) names.named in
    record {
      formed = record {
        chp = IsPropertyMap-after names.sprms character_groups empty piece.modifier.chp entries bytes
            names.does.characters (IsPropertyMap-empty character_groups);
        pap = IsPropertyMap-after names.sprms paragraph_groups empty piece.modifier.pap entries bytes names.does.marks
            (IsPropertyMap-empty paragraph_groups);
      };
      small = λ n e. style_small names.sprms paragraph_groups n bytes (sym names.does.style ∙ e);
    })

-- ---- the modifiers of places

has_modifier : (P : Modifier → Type 0) (f : ℕ → UnitPlace) → ((j : ℕ) → P (f j).modifier) → (js : List ℕ) →
    All (λ (place : UnitPlace). P place.modifier) (map f js)
has_modifier P f each js = All-map (λ (place : UnitPlace). P place.modifier) f js (λ k d below. each (get_or js k d))

places_right : (pieces : List TextPiece) → All (λ (piece : TextPiece). IsValidModifier piece.modifier) pieces →
    All (λ (place : UnitPlace). IsValidModifier place.modifier) (flat_map places_of_piece pieces)
places_right [] all = All-nil (λ (place : UnitPlace). IsValidModifier place.modifier)
places_right (p ∷ ps) all =
    let P : TextPiece → Type 0 = λ piece. IsValidModifier piece.modifier in
    let first : IsValidModifier p.modifier = All-head P p ps all in
    All-append (λ (place : UnitPlace). IsValidModifier place.modifier) (places_of_piece p) (flat_map places_of_piece ps)
    (has_modifier IsValidModifier _ (λ j. first) (range_with_len 0 p.len)) (places_right ps (All-tail P p ps all))

pub place_right : (pieces : List TextPiece) → All (λ (piece : TextPiece). IsValidModifier piece.modifier) pieces →
    (cp : ℕ) (place : UnitPlace) → place_of_cp pieces cp ≡ Some place → IsValidModifier place.modifier
unfolding flat_pieces
place_right pieces all cp place here =
    let flat = flat_map places_of_piece pieces in
    let within = slice_get_within flat cp place here in
    subst (λ (p : UnitPlace). IsValidModifier p.modifier) (get_or_from_slice_get flat cp place place here)
    (places_right pieces all cp place within)
