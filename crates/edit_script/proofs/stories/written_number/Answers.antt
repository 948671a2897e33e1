use Rattle.std.proofs.Common.{refl, sym, ◌∙◌, arith}
use Rattle.std.proofs.lemmas.Bool.{eqb-true, eqb-false}
use Rattle.edit_script.proofs.StoryLemmas.{plus_is_not_written, zero_is_not_written, lone_zero, parsed}
use Rattle.edit_script.proofs.stories.written_number.Goals as goal

pub returns-then-starts_with : goal.returns-then-starts_with
returns-then-starts_with c = plus_is_not_written c.args.digits.now (eqb-true _ 43 (sym (c.if-starts_with.ensures.byte
    (omega arith) (omega arith) (λ w o h. h))))

pub returns-then-has_leading_zero : goal.returns-then-has_leading_zero
returns-then-has_leading_zero c = let zero = c.if-has_leading_zero.ensures.0 refl in
    zero_is_not_written c.args.digits.now zero.1 zero.0

pub returns : goal.returns
returns c =
    let plus = eqb-false _ 43 (sym (c.if-starts_with.ensures.byte (omega arith) (omega arith) (λ w o h. h))) in
    c.ok.ensures.value ∙ parsed c.args.digits.now c.parse.result plus (λ zero. lone_zero c.args.digits.now zero
    (λ long. absurd (cc (c.if-has_leading_zero.ensures.1 (long, zero))))) c.parse.ensures.value.0
