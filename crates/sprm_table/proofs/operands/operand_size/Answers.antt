use Rattle.std.proofs.Common.{sym, ap, ◌∙◌, arith}
use Rattle.sprm_table.specs.declared.operands.OperandSize.TheVariants.{Fixed}
use Rattle.sprm_table.proofs.OperandLemmas.{fixed_size, counted_size}
use Rattle.sprm_table.proofs.operands.operand_size.Goals as goal

pub returns-then-len-eq0 : goal.returns-then-len-eq0
returns-then-len-eq0 c = c.counted_size.ensures ∙ counted_size c.args.code.0 (omega arith)
    (sym c.fixed_len-len.ensures ∙ c.if-len-eq0.true)

pub returns : goal.returns
returns c = ap Fixed c.fixed_len-len.ensures ∙ fixed_size c.args.code.0 (omega arith)
    (λ none. c.if-len-eq0.false (c.fixed_len-len.ensures ∙ none))
