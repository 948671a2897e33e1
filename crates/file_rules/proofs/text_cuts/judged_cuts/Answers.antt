use Rattle.std.proofs.Common.{Some, None}
use Rattle.std.specs.Prelude.{IsTrue}
use Rattle.file_rules.proofs.CutLemmas.{cuts_judged}
use Rattle.file_rules.proofs.text_cuts.judged_cuts.Goals as goal

pub returns-in-Ok : goal.returns-in-Ok
returns-in-Ok c = (
  cuts_judged (IsTrue c.args.formed) c.args.plc.now c.args.story_len c.args.at None c.if-not-formed.false
      (c.requires.whole c.if-not-formed.false) c.in-Ok.ensures.0,
  λ _. c.in-Ok.ensures.1,
)

pub returns-in-Err-Rule : goal.returns-in-Err-Rule
returns-in-Err-Rule c =
    let first = rw c.in-Err-Rule.field-0-is at c.in-Err-Rule.ensures in (
      cuts_judged (IsTrue c.args.formed) c.args.plc.now c.args.story_len c.args.at (Some c.in-Err-Rule.offset)
          c.if-not-formed.false (c.requires.whole c.if-not-formed.false) first.1,
      λ e. absurd (cc (e)),
    )
