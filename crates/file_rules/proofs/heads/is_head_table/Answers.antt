use Rattle.std.proofs.lemmas.Bool.{leb-true, le-leb}
use Rattle.file_rules.proofs.CutLemmas.{head_table, head_texts}
use Rattle.file_rules.proofs.heads.is_head_table.Goals as goal

pub returns : goal.returns
returns c = (
  λ h. head_table c.args.len c.args.sections c.if-len-lt8.false c.if-len-ne0.false (leb-true _ _ h),
  λ h. le-leb _ _ (head_texts c.args.len c.args.sections c.if-len-lt8.false h),
)
