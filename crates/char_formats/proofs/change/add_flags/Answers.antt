use Rattle.std.proofs.Common.{◌<◌, length, ap, ◌∙◌, arith}
use Rattle.char_formats.specs.Flags.{flag_at, flag_then}
use Rattle.char_formats.proofs.FlagLemmas.{set_done, set_rest}
use Rattle.char_formats.proofs.change.add_flags.Goals as goal

pub loop-i-preserved : goal.loop-i-preserved
loop-i-preserved c =
    let i = c.loop-i.i in
    let within : i < length c.loop-i.flags = omega arith in
    record {
      done =
          set_done c.loop-i.flags i c.then.result (λ k. flag_then (flag_at c.args.flags.now k) (flag_at c.args.next.now
          k)) within (c.then.ensures ∙ ap (λ f. flag_then f (flag_at c.args.next.now i)) (c.loop-i.invariant.rest i
          (omega arith))) c.loop-i.invariant.done;
      rest = λ k behind.
          set_rest c.loop-i.flags i c.then.result k behind ∙ c.loop-i.invariant.rest k (omega (arith, behind));
    }

pub returns : goal.returns
returns c = λ i low. c.loop-i.invariant.done i (omega (arith, low))
