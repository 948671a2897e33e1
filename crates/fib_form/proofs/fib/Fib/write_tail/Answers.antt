-- The fields behind the pairs are put over zeros, one form after the other.
use Rattle.std.proofs.Common.{◌≡◌, ◌-◌, ◌≤◌, ◌++◌, length, take, drop, refl, sym, ap, subst, ◌∙◌}
use Rattle.fib_form.specs.declared.form.Form.TheVariants.{Early, Later}
use Rattle.fib_form.specs.Fib.{form_size}
use Rattle.fib_form.specs.FibBytes.{tail_fields, spelled, zeros}
use Rattle.fib_form.proofs.FieldLemmas.{Puts}
use Rattle.fib_form.proofs.WriteLemmas.{tail_put}
use Rattle.fib_form.proofs.fib.Fib.write_tail.Goals as goal

pub returns-in-Early : goal.returns-in-Early
returns-in-Early c =
    let old = c.args.out.now in
    let now = c.args.self.now in
    let after = c.put16.new.bytes in
    let form : now.form ≡ Early = sym (ap (λ f. f.form) c.self.view_is) ∙ c.in-Early.is in
    let long : form_size Early ≤ length old = subst (λ f. form_size f ≤ length old) form c.requires.size in
    let clear : drop 898 old ≡ zeros (form_size Early - 898) ++ drop (form_size Early) old =
    subst (λ f. drop 898 old ≡ zeros (form_size f - 898) ++ drop (form_size f) old) form c.requires.clear in
    let puts : Puts (tail_fields Early now.quick_saves) old after = (after, (c.put16.ensures, refl)) in
    subst (λ f. after ≡ take 898 old ++ (spelled 898 (tail_fields f now.quick_saves) ++ drop (form_size f) old))
    (sym form) (tail_put Early now.quick_saves old after long clear puts)

pub returns-in-Later : goal.returns-in-Later
returns-in-Later c =
    let old = c.args.out.now in
    let now = c.args.self.now in
    let saves = c.self.inside.quick_saves in
    let after = c.put16-in-Later-3.new.bytes in
    let form : now.form ≡ Later = sym (ap (λ f. f.form) c.self.view_is) ∙ c.in-Later.is in
    let long : form_size Later ≤ length old = subst (λ f. form_size f ≤ length old) form c.requires.size in
    let clear : drop 898 old ≡ zeros (form_size Later - 898) ++ drop (form_size Later) old =
    subst (λ f. drop 898 old ≡ zeros (form_size f - 898) ++ drop (form_size f) old) form c.requires.clear in
    let puts : Puts (tail_fields Later saves) old after = (
      c.put16-in-Later.new.bytes,
      (
        c.put16-in-Later.ensures,
        (
          c.put16-in-Later-2.new.bytes,
          (c.put16-in-Later-2.ensures, (after, (c.put16-in-Later-3.ensures, refl))),
        ),
      ),
    ) in
    let put = subst (λ f. after ≡ take 898 old ++ (spelled 898 (tail_fields f saves) ++ drop (form_size f) old))
    (sym form) (tail_put Later saves old after long clear puts) in
    subst (λ n. after ≡ take 898 old ++ (spelled 898 (tail_fields now.form n) ++ drop (form_size now.form) old))
    (ap (λ f. f.quick_saves) c.self.view_is) put
