use Rattle.std.proofs.Common.{◌∙◌, arith}
use Rattle.std.proofs.lemmas.Option.{slice_get-get_or}
use Rattle.piece_table.specs.Piece.{total_length}
use Rattle.session_text.proofs.PutLemmas.{can_next, splices_made}
use Rattle.session_text.proofs.session_text.SessionText.put_all.Goals as goal

pub put-requires-clause-can : goal.put-requires-clause-can
put-requires-clause-can c =
    (can_next (total_length c.loop-splice.self.pieces.pieces) c.loop-splice.splice-index c.args.splices.now _
    c.loop-splice.invariant.made.can
    (slice_get-get_or c.args.splices.now c.loop-splice.splice-index _ c.loop-splice-test.true)).0

pub loop-splice-preserved : goal.loop-splice-preserved
loop-splice-preserved c =
    let so_far = c.loop-splice.invariant in
    let spare = so_far.spare in
    record {
      made =
          splices_made c.args.self.now.pieces.pieces c.args.self.now.ends c.args.splices.now
          c.loop-splice.splice-index c.loop-splice.self.pieces.pieces c.put.new.self.pieces.pieces
          c.loop-splice.self.ends c.put.new.self.ends _ so_far.made
          (slice_get-get_or c.args.splices.now c.loop-splice.splice-index _ c.loop-splice-test.true)
          c.put.ensures.places c.put.ensures.count c.put.ensures.ends;
      added = c.put.ensures.added ∙ so_far.added;
      sections = c.put.ensures.sections ∙ so_far.sections;
      spare = omega (arith, spare, c.put.ensures.spare);
    }
