use Rattle.file_rules.proofs.FieldLemmas.{least_field, same_field}
use Rattle.file_rules.proofs.story_fields.judged_fields.Goals as goal

pub returns-in-Some : goal.returns-in-Some
returns-in-Some c = (
  least_field c.args.units.now c.args.plc.now c.args.at c.in_ok-read.read.list c.in_ok-read.read.fault
      c.in-Some.offset c.in_ok-read.ensures c.in-Some.ensures,
  λ e. absurd (cc (e)),
)

pub returns : goal.returns
returns c = (
  same_field c.args.units.now c.args.plc.now c.args.at c.in_ok-read.read.list c.in_ok-read.read.fault
      c.in_ok-read.ensures c.in_default.ensures,
  λ none. record { leading = c.in_ok-read.ensures.leading; all = rw none at c.in_ok-read.ensures.ends },
)
