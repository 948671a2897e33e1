-- A Prm has one modifier, and a Clx one list of pieces.
use Rattle.std.proofs.Common.{◌≡◌, ℕ, ◌+◌, ◌*◌, ◌/◌, ◌%◌, ◌<◌, List, [], ◌∷◌, length, map, get_or, Some, true, refl}
use Rattle.std.proofs.Common.{inl, inr, sym, ap, subst, ◌∙◌, arith}
use Rattle.std.proofs.Math.ListN.{get_or-map, length-map}
use Rattle.std.proofs.lemmas.List.{ext_get_or}
use Rattle.std.proofs.lemmas.Bool.{cases_lt}
use Rattle.std.proofs.lemmas.Option.{get_or_from_slice_get, slice_get-get_or}
use Rattle.doc_bits.specs.Rules.{Nowhere}
use Rattle.sprm_table.specs.Sprm.{Prl, SpellsSprmList}
use Rattle.sprm_table.proofs.Public.{spelt_unique}
use Rattle.prop_map.specs.declared.modifiers.Modifier.{Modifier}
use Rattle.prop_map.specs.Modifiers.{no_modifier, IsModifierOf}
use Rattle.prop_map.proofs.Public.{modifier_one}
use Rattle.piece_table.specs.declared.pcd.Prm.{Prm}
use Rattle.piece_table.specs.declared.pcd.Prm.TheVariants.{Nothing, Sprm, Prc}
use Rattle.piece_table.specs.Piece.{TextPiece, bare_piece}
use Rattle.piece_table.specs.Clx.{ClxParts, prm_of, pcd_prm, clx_pieces, ClxPiecesAreOne}
use Rattle.piece_table.specs.PrmLists.{NamesSprms, IsPrmModifier}
use Rattle.piece_table.specs.ClxRules.{IsNamedPrc, IsLongPrc, FitsPages}
use Rattle.piece_table.proofs.ClxLemmas.{parts_unique}

sprms_one : (prcs : List (List ℕ)) (prm : Prm) (a b : List Prl) → NamesSprms prcs prm a → NamesSprms prcs prm b → a ≡ b
sprms_one prcs Nothing a b x y = x ∙ sym y
sprms_one prcs (Sprm isprm operand) a b x y =
    let same : Some x.0 ≡ Some y.0 = sym x.1.0 ∙ y.1.0 in
    let code : x.0 ≡ y.0 = cc (same) in
    x.1.1 ∙ (ap (λ c. (c, operand ∷ []) ∷ []) code ∙ sym y.1.1)
sprms_one prcs (Prc number) a b x y =
    let list : x.0 ≡ y.0 = sym (get_or_from_slice_get prcs number x.0 x.0 x.1.0) ∙ get_or_from_slice_get prcs number
    y.0 x.0 y.1.0 in
    spelt_unique y.0 a b (subst (λ g. SpellsSprmList g a) list x.1.1) y.1.1

pub prm_modifier_one : (prcs : List (List ℕ)) (prm : Prm) (a b : Modifier) → IsPrmModifier prcs prm a →
    IsPrmModifier prcs prm b → a ≡ b
prm_modifier_one prcs prm a b x y =
    modifier_one y.sprms a b (subst (λ sprms. IsModifierOf sprms a) (sprms_one prcs prm x.sprms y.sprms x.named
    y.named) x.does) y.does

-- the number of a Prc as a Prm
pub prm_of_prc : (number : ℕ) → prm_of (2 * number + 1) ≡ Prc number
prm_of_prc number =
    let odd : (2 * number + 1) % 2 ≡ 1 = omega arith in
    let half : (2 * number + 1) / 2 ≡ number = omega arith in
    rw (odd, half) refl

-- rule 32 holds at one Prc more
pub none_long_more : (parts : ClxParts) (at i : ℕ) → ((j : ℕ) → j < i → Nowhere (IsLongPrc parts at j)) →
    (IsNamedPrc parts.plc i → (modifier : Modifier) × (IsPrmModifier parts.prcs (Prc i) modifier × FitsPages
    modifier)) → (j : ℕ) → j < i + 1 → Nowhere (IsLongPrc parts at j)
none_long_more parts at i before here j low = elim (cases_lt j i) [
  | inl less ↦ before j less
  | inr most ↦
      let e : j ≡ i = omega arith in
      subst (λ n. Nowhere (IsLongPrc parts at n)) (sym e) (λ p long.
      let read = here long.named in
      long.long (subst FitsPages (prm_modifier_one parts.prcs (Prc i) read.0 long.modifier read.1.0 long.does)
      read.1.1))
]

-- pieces that are alike without their modifiers, and have equal ones
piece_same : (a b : TextPiece) → bare_piece a ≡ bare_piece b → a.modifier ≡ b.modifier → a ≡ b
piece_same a b e m = λ i. record { at = (e i).at; wide = (e i).wide; len = (e i).len; modifier = m i }

pub clx_pieces_one : ClxPiecesAreOne
clx_pieces_one clx a b x y =
    let parts : x.parts ≡ y.parts = parts_unique clx x.parts y.parts x.spelt y.spelt in
    let bare : map bare_piece a ≡ map bare_piece b = x.pieces_are ∙ (ap (λ p. clx_pieces p.plc) parts ∙ sym
    y.pieces_are) in
    let d : TextPiece = record { at = 0; wide = true; len = 0; modifier = no_modifier } in
    let len_a = length-map a bare_piece in
    let len_b = length-map b bare_piece in
    let len : length a ≡ length b = omega (arith, ap length bare) in
    ext_get_or d a b len (λ k low.
    let one = slice_get-get_or a k d low in
    let other = slice_get-get_or b k d (omega arith) in
    let seen : bare_piece (get_or a k d) ≡ bare_piece (get_or b k d) = sym (get_or-map bare_piece a k d) ∙
    (ap (λ l. get_or l k (bare_piece d)) bare ∙ get_or-map bare_piece b k d) in
    let has = subst (λ (p : ClxParts). IsPrmModifier p.prcs (pcd_prm p.plc k) (get_or a k d).modifier) parts
    (x.modifiers k (get_or a k d) one) in
    piece_same (get_or a k d) (get_or b k d) seen (prm_modifier_one y.parts.prcs (pcd_prm y.parts.plc k)
    (get_or a k d).modifier (get_or b k d).modifier has (y.modifiers k (get_or b k d) other)))
