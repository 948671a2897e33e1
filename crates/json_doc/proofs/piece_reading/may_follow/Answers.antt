use Rattle.std.proofs.Common.{◌∙◌, sym}
use Rattle.json_doc.proofs.TextReadLemmas.{may_not}
use Rattle.json_doc.proofs.piece_reading.may_follow.Goals as goal

pub returns-then-goes_on : goal.returns-then-goes_on
returns-then-goes_on c = (
  λ e. absurd (cc e),
  λ may. absurd (may_not c.args.text.now.text c.args.text.now.last c.args.piece.now c.requires.ends c.requires.some
      (sym c.goes_on.ensures ∙ c.if-goes_on.true) may),
)

pub returns : goal.returns
returns c = (
  λ e. record {
    apart = c.requires.ends c.args.piece.now c.requires.some ∙ (sym c.goes_on.ensures ∙ c.if-goes_on.false);
    room = c.has_room.ensures.0 e;
  },
  λ may. c.has_room.ensures.1 may.room,
)
