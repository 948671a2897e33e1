use Rattle.std.proofs.Common.{rules, refl}
use Rattle.serde_json.specs.View.{view}
use Rattle.json_doc.proofs.TextReadLemmas.{not_put}
use Rattle.json_doc.proofs.piece_reading.add_piece.Goals as goal

pub returns-then-not-may_follow : goal.returns-then-not-may_follow
returns-then-not-may_follow c = λ shape.
    not_put (view c.args.value.now) c.args.text.text c.in_ok-piece.piece c.in_ok-piece.ensures.read
    (λ may. absurd (search (rules, c.may_follow.ensures.1 may)))

pub returns : goal.returns
returns c = (
  record {
    piece = c.in_ok-piece.piece;
    read = c.in_ok-piece.ensures.read;
    formed = c.in_ok-piece.ensures.pieces.0;
    apart = (c.if-not-may_follow.ensures.0 refl).apart;
    grown = c.in_ok-made.ensures.put;
  },
  c.in_ok-made.ensures.ends,
)
