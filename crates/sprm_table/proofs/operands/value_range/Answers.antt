use Rattle.std.proofs.Common.{sym, subst, arith, ◌+◌, ◌-◌}
use Rattle.sprm_table.specs.declared.operands.OperandSize.{OperandSize}
use Rattle.sprm_table.specs.declared.operands.OperandSize.TheVariants.{CountedByWord}
use Rattle.sprm_table.specs.Operands.{IsOperandAt, HasNoOperand}
use Rattle.sprm_table.proofs.OperandLemmas.{no_operand, operand_at}
use Rattle.sprm_table.proofs.operands.value_range.Goals as goal
use Rattle.sprm_table.proofs.operands.value_range.Goals.{then-rest-lt2-via-then-rest-lt2}
use Rattle.sprm_table.proofs.operands.value_range.Goals.{then-rest-lt2-via-else-rest-lt2+then-get16-eq0}

pub returns-then-rest-lt2 : goal.returns-then-rest-lt2
returns-then-rest-lt2 c = subst (λ (size : OperandSize). HasNoOperand size c.args.rest.now)
    (sym c.in-CountedByWord.is) (no_operand CountedByWord c.args.rest.now (λ len fits there.
    let read = there.0 in
    let long = there.1 in
    elim c.then-rest-lt2.branch [
      | then-rest-lt2-via-then-rest-lt2 w ↦ omega arith
      | then-rest-lt2-via-else-rest-lt2+then-get16-eq0 w ↦ omega arith
    ]))

pub returns-then-rest-len-2 : goal.returns-then-rest-len-2
returns-then-rest-len-2 c = subst (λ (size : OperandSize). HasNoOperand size c.args.rest.now)
    (sym c.in-CountedByWord.is) (no_operand CountedByWord c.args.rest.now (λ len fits there.
    let read = there.0 in
    let long = there.1 in
    omega arith))

pub returns-else-rest-len-2 : goal.returns-else-rest-len-2
returns-else-rest-len-2 c =
    let len = c.get16-in-CountedByWord.result - 1 in
    subst (λ (size : OperandSize). IsOperandAt size c.args.rest.now 2 (2 + len)) (sym c.in-CountedByWord.is)
    (operand_at CountedByWord c.args.rest.now len (λ i. omega (arith, c.type_inv.rest i)) (omega arith, omega arith)
    (omega arith))
