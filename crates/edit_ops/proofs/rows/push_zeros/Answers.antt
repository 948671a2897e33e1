use Rattle.std.proofs.Common.{ℕ, ◌++◌, ap, ◌∙◌, arith}
use Rattle.std.proofs.lemmas.List.{take-replicate}
use Rattle.edit_ops.proofs.rows.push_zeros.Goals as goal

pub returns : goal.returns
returns c = c.in_ok-push_all.ensures.ok ∙ ap (λ xs. c.args.bytes.now ++ xs) (take-replicate {X = ℕ} c.args.count 1260
    0 (omega arith))
