-- A value for each piece.
use Rattle.std.proofs.Common.{ap, arith, map, sym}
use Rattle.serde_json.specs.Written.{compact_text}
use Rattle.json_values.proofs.Public.{Adds-same}
use Rattle.doc_columns.specs.Walks.{items_in}
use Rattle.doc_columns.proofs.Public.{items_long, first_walk}
use Rattle.doc_model.specs.Stretches.{stretches}
use Rattle.json_doc.specs.Pieces.{is_one_piece, stretch_json}
use Rattle.json_doc.proofs.PieceLemmas.{next_piece, no_stretch, stretch_json-range}
use Rattle.json_doc.proofs.WrittenLemmas.{where_ok, begun}
use Rattle.json_doc.proofs.pieces.write_pieces.Goals as goal

pub loop-at-init : goal.loop-at-init
loop-at-init c = record {
  walk = first_walk c.args.parts.now c.new-walk.result c.new-walk.ensures;
  within = omega arith;
  pieces = begun (map stretch_json (stretches is_one_piece (items_in c.args.parts.now))) c.in_ok-push.ensures.ok;
}

pub loop-at-preserved : goal.loop-at-preserved
loop-at-preserved c =
    let parts = c.args.parts.now in
    let at = c.loop-at.at in
    let end = c.piece_end-end.result in
    let first = c.alike_from-first in
    let piece = c.piece_end-end.ensures in
    let json =
    stretch_json-range parts c.requires at end first.result.end first.result.chp.now first.result.attached.now
    piece.some
    piece.within first.ensures.some first.ensures.chps first.ensures.attachments in
    record {
      walk = piece.walk;
      within = piece.within;
      pieces =
          next_piece parts c.requires at end _ piece.some piece.within piece.joined piece.ends
          c.loop-at.invariant.pieces c.in_ok-push_comma.ensures
          (Adds-same _ _ _ _ (ap compact_text (sym json)) c.in_ok-write_piece.ensures);
    }

pub returns : goal.returns
returns c =
    let long = items_long c.args.parts.now c.requires in
    where_ok c.push-2.result (no_stretch (items_in c.args.parts.now) c.loop-at.at _
    (omega (arith, long, c.loop-at-test.false)) c.loop-at.invariant.pieces) c.push-2.ensures.ok
