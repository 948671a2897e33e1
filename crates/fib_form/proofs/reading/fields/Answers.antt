-- The fields of a stream that breaks no rule are those of a FIB.
use Rattle.std.proofs.Common.{◌≡◌, ◌<◌, ◌==◌, [], ◌∷◌, sym, ap, subst, arith}
use Rattle.fib_form.specs.Fib.{quick_saves_in, fib_quick_saves, fib_complex, fib_which_table}
use Rattle.fib_form.specs.FibFields.{fib_fields, IsFib}
use Rattle.fib_form.proofs.FibLemmas.{same_fields}
use Rattle.fib_form.proofs.FibRuleLemmas.{is_fib}
use Rattle.fib_form.proofs.reading.fields.Goals as goal

pub quick_saves_of-requires-clause-bound : goal.quick_saves_of-requires-clause-bound
quick_saves_of-requires-clause-bound c =
    let wd = c.args.wd.now in
    let is : IsFib (fib_fields wd) = is_fib wd (λ i. omega (arith, c.type_inv.wd i)) c.requires in
    subst (λ form. quick_saves_in form wd < 16) (sym c.form_of-form.ensures) is.quick_saves

pub invariant_of-result : goal.invariant_of-result
invariant_of-result c =
    let wd = c.args.wd.now in
    let kept = c.of.result in
    let quick_saves : c.quick_saves_of.result ≡ fib_quick_saves wd = cc in
    let table : c.bit_of-2.result ≡ fib_which_table wd = cc in
    let complex : (c.bit_of.result == 1) ≡ (fib_complex wd == 1) = cc in
    let ccps : c.get32-2.result ∷ c.get32-3.result ∷ c.get32-4.result ∷ [] ≡ (fib_fields wd).ccps = cc in
    let same = same_fields c.form_of-form.result kept.lid kept.lid_fe kept.flags c.quick_saves_of.result
    c.bit_of-2.result c.get32.result (c.bit_of.result == 1) (c.get32-2.result ∷ c.get32-3.result ∷ c.get32-4.result ∷
    []) c.pairs.result (fib_fields wd) c.form_of-form.ensures (ap (λ k. k.lid) c.of.ensures)
    (ap (λ k. k.lid_fe) c.of.ensures) (ap (λ k. k.flags) c.of.ensures) quick_saves table c.get32.ensures complex ccps
    c.pairs.ensures in
    subst (λ fib. IsFib fib) (sym same) (is_fib wd (λ i. omega (arith, c.type_inv.wd i)) c.requires)
