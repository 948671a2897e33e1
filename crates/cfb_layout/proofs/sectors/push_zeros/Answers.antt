use Rattle.std.proofs.Common.{ℕ, ◌++◌, ap, ◌∙◌, arith}
use Rattle.std.proofs.lemmas.List.{take-replicate}
use Rattle.cfb_layout.proofs.sectors.push_zeros.Goals as goal

pub returns : goal.returns
returns c = c.in_ok-push_all.ensures.ok ∙ ap (λ xs. c.args.out.now ++ xs) (take-replicate {X = ℕ} c.args.count 512 0
    (omega arith))
