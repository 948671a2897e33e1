-- The Clx of one piece without a modifier.
use Rattle.std.proofs.Common.{◌≡◌, ◌<◌, ◌^◌, ◌∙◌, ap, refl, sym, inl, inr, ℕ, true, List, [], ◌∷◌, ◌++◌, length, arith}
use Rattle.std.specs.Prelude.{All, slice_index_or}
use Rattle.std.specs.FinMap.{empty}
use Rattle.std.proofs.lemmas.List.Elements.{All-head, All-cons, All-nil}
use Rattle.prop_map.specs.declared.modifiers.Modifier.{Modifier}
use Rattle.prop_map.specs.Modifiers.{no_modifier}
use Rattle.prop_map.specs.Printing.{printed_list}
use Rattle.prop_map.proofs.Public.{entries-empty}
use Rattle.piece_table.specs.Piece.{TextPiece, bare_piece, one_piece}
use Rattle.piece_table.specs.Clx.{pcdt_bytes}
use Rattle.piece_table.specs.ClxRules.{FitsPages}
use Rattle.piece_table.specs.Printing.{IsPrintable, IsPrintedPrc, IsPrintedPcd, IsPrintedClx, printed_prcs, plc_bytes}
use Rattle.piece_table.specs.Printing.{pcd_bytes}
use Rattle.full_save.specs.WordDocument.{text_offset, one_piece_clx}

abbrev the_piece : ℕ → TextPiece
the_piece len = record { at = text_offset; wide = true; len = len; modifier = no_modifier }

-- no Prc is written, and one Pcd
from_parts :
    (len : ℕ) (prcs : List Modifier) (pcds : List (List ℕ)) (bytes : List ℕ) →
    All (IsPrintedPrc (one_piece text_offset len)) prcs → length pcds ≡ 1 →
    IsPrintedPcd prcs (the_piece len) (slice_index_or pcds 0 []) →
    bytes ≡ printed_prcs prcs ++ pcdt_bytes (plc_bytes (len ∷ []) pcds) → bytes ≡ one_piece_clx len
from_parts len (prc ∷ prcs) pcds bytes each count pcd spelt =
    let first = All-head (IsPrintedPrc (one_piece text_offset len)) prc prcs each in
    let used = first.used in
    let at : used.0 ≡ 0 = omega arith in
    absurd (first.some (sym used.2 ∙ ap (λ (k : ℕ). slice_index_or (no_modifier ∷ []) k prc) at))
from_parts len [] [] bytes each count pcd spelt = absurd (omega arith)
from_parts len [] (first ∷ second ∷ pcds) bytes each count pcd spelt = absurd (omega arith)
from_parts len [] (first ∷ []) bytes each count pcd spelt =
    elim pcd.names [
      | inl none ↦
          let is : first ≡ pcd_bytes (bare_piece (the_piece len)) 0 =
          pcd.spelt ∙ ap (λ (prm : ℕ). pcd_bytes (bare_piece (the_piece len)) prm) none.0 in
          spelt ∙ ap (λ (bytes : List ℕ). pcdt_bytes (plc_bytes (len ∷ []) (bytes ∷ []))) is
      | inr named ↦ absurd (cc (named.1.1))
    ]

pub one_clx : (len : ℕ) (bytes : List ℕ) → IsPrintedClx (one_piece text_offset len) bytes → bytes ≡ one_piece_clx len
one_clx len bytes clx =
    from_parts len clx.prcs clx.pcds bytes clx.each clx.count (clx.pcd 0 (the_piece len) refl) clx.spelt

pub none_printed : length (printed_list empty) ≡ 0
none_printed = rw entries-empty refl

pub one_printable : (len : ℕ) → IsPrintable (one_piece text_offset len)
one_printable len = record {
  few = omega arith;
  places = All-cons (λ (piece : TextPiece). piece.at < 2 ^ 29) (the_piece len) [] (omega arith)
      (All-nil (λ (piece : TextPiece). piece.at < 2 ^ 29));
  fit =
      let fits : FitsPages no_modifier =
      record { chp = let e = none_printed in omega (arith, e); pap = let e = none_printed in omega (arith, e) } in
      All-cons (λ (piece : TextPiece). FitsPages piece.modifier) (the_piece len) [] fits
      (All-nil (λ (piece : TextPiece). FitsPages piece.modifier));
}
