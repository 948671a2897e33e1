use Rattle.std.proofs.Common.{◌∙◌, append_assoc}
use Rattle.doc_fit.proofs.lines.encrypted_line.Goals as goal

pub returns : goal.returns
returns c = simp append_assoc (c.from_string.ensures ∙ c.in_ok-line.ensures.ok)
