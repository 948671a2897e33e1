-- What a session keeps of its text while its pieces are spliced and modified.
use Rattle.std.specs.Prelude.{List, ℕ}
use Rattle.std.specs.List.{All}
use Rattle.std.proofs.Common.{◌≡◌, ◌∙◌, ◌+◌, ◌<◌, refl, sym, ap, subst, Some}
use Rattle.std.proofs.Common.{None, Option, length, take, drop, arith}
use Rattle.std.specs.Prelude.{slice_get}
use Rattle.std.proofs.lemmas.Option.{slice_get_within, get_or_from_slice_get}
use Rattle.std.proofs.lemmas.List.Elements.{All-nil}
use Rattle.doc_bits.proofs.Public.{All_at, All-from_slice_get, got_drop, slice_get-take}
use Rattle.prop_map.proofs.Public.{entries-empty}
use Rattle.prop_map.specs.declared.modifiers.Modifier.{Modifier}
use Rattle.prop_map.specs.Modifiers.{no_modifier, printed_modifier}
use Rattle.piece_table.specs.declared.pieces.Piece.{Piece}
use Rattle.piece_table.specs.Piece.{TextPiece, UnitPlace, places_of_piece}
use Rattle.piece_table.specs.Changes.{fresh_piece, fresh_places}
use Rattle.piece_table.proofs.Public.{length-unit_places, get_or-unit_places}

-- ---- what holds of each place

pub All-front : {A : Type 0} (P : A → Type 0) (n : ℕ) (xs : List A) → All P xs → All P (take n xs)
All-front P n xs all =
    All-from_slice_get P (take n xs) (λ k x here. All_at P xs k x all (slice_get-take n xs k x here))

pub All-back : {A : Type 0} (P : A → Type 0) (n : ℕ) (xs : List A) → All P xs → All P (drop n xs)
All-back P n xs all =
    All-from_slice_get P (drop n xs) (λ k x here. All_at P xs (n + k) x all (got_drop n xs k x here))

-- units without a modifier
unit_plain : (piece : Piece) (k : ℕ) (place : UnitPlace) → slice_get (fresh_places (Some piece)) k ≡ Some place →
    place.modifier ≡ no_modifier
unit_plain piece k place here =
    let fresh : TextPiece = fresh_piece piece in
    let below : k < piece.len =
    omega (arith, slice_get_within (places_of_piece fresh) k place here, length-unit_places fresh) in
    ap (λ (p : UnitPlace). p.modifier)
    (sym (get_or_from_slice_get (places_of_piece fresh) k place place here) ∙ get_or-unit_places fresh k place below)

pub fresh_plain : (block : Option Piece) → All (λ place. place.modifier ≡ no_modifier) (fresh_places block)
fresh_plain None = All-nil (λ (place : UnitPlace). place.modifier ≡ no_modifier)
fresh_plain (Some piece) =
    All-from_slice_get (λ (place : UnitPlace). place.modifier ≡ no_modifier) (fresh_places (Some piece))
    (unit_plain piece)

-- what holds of no modifier holds of them
pub fresh_have : (P : Modifier → Type 0) → P no_modifier → (block : Option Piece) →
    All (λ place. P place.modifier) (fresh_places block)
fresh_have P none block =
    All-from_slice_get (λ (place : UnitPlace). P place.modifier) (fresh_places block)
    (λ k place here.
    subst P
    (sym
    (All_at (λ (p : UnitPlace). p.modifier ≡ no_modifier) (fresh_places block) k place (fresh_plain block) here))
    none)

-- no modifier is printed in no bytes
pub none_printed : length (printed_modifier no_modifier) ≡ 0
none_printed = rw entries-empty refl
