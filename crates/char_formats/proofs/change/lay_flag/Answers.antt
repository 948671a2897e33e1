use Rattle.std.proofs.Common.{◌<◌, length, ap, sym, ◌∙◌, arith}
use Rattle.char_formats.specs.Flags.{code_at, flag_at, flag_after}
use Rattle.char_formats.proofs.FlagLemmas.{small_code, flag_after-large, set_done, set_rest}
use Rattle.char_formats.proofs.change.lay_flag.Goals as goal

pub returns-then-code-gt-SPRM_C_F_D_STRIKE : goal.returns-then-code-gt-SPRM_C_F_D_STRIKE
returns-then-code-gt-SPRM_C_F_D_STRIKE c = λ i low.
    sym (flag_after-large (flag_at c.args.flags.now i) (code_at i) c.args.code.0 c.args.value.now (omega (
      arith,
      small_code i low,
    )))

pub loop-i-preserved : goal.loop-i-preserved
loop-i-preserved c =
    let i = c.loop-i.i in
    let within : i < length c.loop-i.flags = omega arith in
    record {
      done =
          set_done c.loop-i.flags i c.flag_after.result (λ k. flag_after (flag_at c.args.flags.now k) (code_at k)
          c.args.code.0 c.args.value.now) within (c.flag_after.ensures ∙ ap (λ f. flag_after f (code_at i) c.args.code.0
          c.args.value.now) (c.loop-i.invariant.rest i (omega arith))) c.loop-i.invariant.done;
      rest = λ k behind.
          set_rest c.loop-i.flags i c.flag_after.result k behind ∙ c.loop-i.invariant.rest k (omega (arith, behind));
    }

pub returns : goal.returns
returns c = λ i low. c.loop-i.invariant.done i (omega (arith, low))
