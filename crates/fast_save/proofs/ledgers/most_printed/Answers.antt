use Rattle.std.proofs.Common.{◌≡◌, ◌∙◌, length, ap, sym, arith}
use Rattle.std.specs.Prelude.{slice_get, option_map, Some}
use Rattle.prop_map.specs.declared.modifiers.Modifier.{Modifier}
use Rattle.prop_map.specs.Modifiers.{printed_modifier}
use Rattle.piece_table.specs.Piece.{TextPiece}
use Rattle.fast_save.proofs.CountLemmas.{modifier_at, printed_step}
use Rattle.fast_save.proofs.ledgers.most_printed.Goals as goal

pub loop-i-preserved : goal.loop-i-preserved
loop-i-preserved c =
    let pieces = c.args.pieces.now.pieces in
    let walk = c.loop-i.invariant.walk in
    let value : option_map (λ (piece : TextPiece). piece.modifier) (slice_get pieces c.loop-i.i) ≡ Some
    c.modifier.result.now =
    ap (λ ps. option_map (λ (piece : TextPiece). piece.modifier) (slice_get ps c.loop-i.i)) (sym walk)
    ∙ c.modifier.ensures.value in
    let at = modifier_at pieces c.loop-i.i c.modifier.result.now value in
    let step = printed_step pieces c.loop-i.i at.piece at.there in
    let same = ap (λ (m : Modifier). length (printed_modifier m)) at.is in
    record {
      walk = c.modifier.ensures.same ∙ walk;
      most = omega (arith, step, same, c.loop-i.invariant.most, c.printed_len.ensures, c.max-most.ensures);
    }
