use Rattle.std.proofs.Common.{◌≡◌, ◌∙◌, length, sym, subst, slice_set, arith}
use Rattle.std.proofs.lemmas.List.{get_or-set_same, get_or-set_other}
use Rattle.piece_table.specs.Numbering.{HasMet}
use Rattle.piece_table.proofs.NumberingLemmas.{met_put}
use Rattle.piece_table.proofs.modifier_table.ModifierTable.put.Goals as goal

pub returns-clause-met : goal.returns-clause-met
returns-clause-met c = λ prcs formed does met.
    let list = c.args.self.now.modifiers.items in
    let numbers = c.args.self.now.numbers.items in
    let grown = c.grow.new.numbers.items in
    let prm = c.args.prm in
    let number = c.len-number.result in
    let long = c.in_ok-grow.ensures.long in
    let is : number ≡ length list = omega (arith, c.len-number.ensures) in
    subst (λ ms. HasMet prcs ms (slice_set grown prm number)) (sym c.in_ok-push.ensures.items)
    (met_put prcs list numbers (slice_set grown prm number) prm c.args.modifier met formed does
    (get_or-set_same grown prm number 0 (omega arith) ∙ is)
    (λ other apart. get_or-set_other grown prm other number 0 apart ∙ c.in_ok-grow.ensures.same other))
