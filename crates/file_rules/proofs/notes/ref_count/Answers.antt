use Rattle.file_rules.specs.NoteRules.{ref_count}
use Rattle.file_rules.proofs.notes.ref_count.Goals as goal

pub returns-in_default : goal.returns-in_default
returns-in_default c = λ entries. c.in_default.ensures (ref_count c.args.refs.now) entries.0
