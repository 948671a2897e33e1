use Rattle.std.proofs.Common.{◌≤◌, ◌-◌, drop, length, map}
use Rattle.std.specs.Prelude.{nat_lt}
use Rattle.serde_json.specs.Written.{compact_text}
use Rattle.doc_model.specs.Stretches.{stretches}
use Rattle.doc_columns.specs.Walks.{items_in, IsColumnWalk}
use Rattle.json_doc.specs.Pieces.{is_one_piece, stretch_json, text_json}
use Rattle.json_doc.proofs.WrittenLemmas.{HasWritten}
use Rattle.json_doc.proofs.pieces.write_pieces.Given as goal

abbrev pub invariant-loop-at : goal.invariant-loop-at
invariant-loop-at l = record {
  walk : IsColumnWalk l.parts l.walk l.at;
  within : l.at ≤ length l.parts.units.now;
  pieces : HasWritten l.fn.out l.out (nat_lt 0 l.at)
      (map stretch_json (stretches is_one_piece (drop l.at (items_in l.parts))))
      (compact_text (text_json (items_in l.parts)));
}

abbrev pub decreases-loop-at : goal.decreases-loop-at
decreases-loop-at l = length l.parts.units.now - l.at
