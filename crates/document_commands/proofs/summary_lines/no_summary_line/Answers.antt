use Rattle.std.proofs.Common.{◌∙◌, append_assoc}
use Rattle.document_commands.proofs.summary_lines.no_summary_line.Goals as goal

pub returns : goal.returns
returns c = simp append_assoc (c.from_string.ensures ∙ c.in_ok-line.ensures.ok)
