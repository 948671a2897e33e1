-- Zeros, the fields over them, the pairs over them, and the fields behind the pairs.
use Rattle.std.proofs.Common.{◌≡◌, ◌++◌, ◌-◌, ◌∙◌, length, take, drop, flat_map, ap, sym, subst, arith, length-take}
use Rattle.doc_bits.specs.Rules.{Hold}
use Rattle.fib_form.specs.Fib.{form_size}
use Rattle.fib_form.specs.FibFields.{fib_fields, IsFib}
use Rattle.fib_form.specs.FibRules.{fib_rules}
use Rattle.fib_form.specs.FibBytes.{written_fields, fc_lcb_bytes, spelled, zeros}
use Rattle.fib_form.proofs.FibLemmas.{read_back}
use Rattle.fib_form.proofs.PairLemmas.{length-flat_map-pair_bytes}
use Rattle.fib_form.proofs.WriteLemmas.{filled_zeros, clear_before, fields_put, clear_after, clear_tail, pairs_left}
use Rattle.fib_form.proofs.WriteLemmas.{whole_put, length-fields}
use Rattle.fib_form.proofs.fib.Fib.write.Goals as goal

pub write_fields-requires-clause-clear : goal.write_fields-requires-clause-clear
write_fields-requires-clause-clear c =
    let old = c.args.out.now in
    let size = c.size.result in
    let least = c.size.ensures.least in
    let size_is : size ≡ form_size c.args.self.now.form = c.size.ensures.value ∙ ap (λ f. form_size f.form)
    c.self.view_is in
    let long : length (take size old) ≡ size = let fits = c.requires in omega (arith, length-take size old, size_is) in
    let filled = filled_zeros (take size old) c.fill.new.self size long (c.fill.ensures.after (λ y h. cc)) in
    clear_before c.fill.new.self (drop size old) size (omega arith) filled

pub write-requires-clause-clear : goal.write-requires-clause-clear
write-requires-clause-clear c =
    let old = c.args.out.now in
    let size = c.size.result in
    let least = c.size.ensures.least in
    let size_is : size ≡ form_size c.args.self.now.form = c.size.ensures.value ∙ ap (λ f. form_size f.form)
    c.self.view_is in
    let long : length (take size old) ≡ size = let fits = c.requires in omega (arith, length-take size old, size_is) in
    let filled = filled_zeros (take size old) c.fill.new.self size long (c.fill.ensures.after (λ y h. cc)) in
    let fields = spelled 0 (written_fields c.args.self.now) in
    let put = fields_put fields c.fill.new.self (drop size old) c.write_fields.new.out size (omega arith) filled
    c.write_fields.ensures in
    clear_after fields (zeros (size - 898) ++ drop size old) c.write_fields.new.out (length-fields c.args.self.now) put

pub write_tail-requires-clause-clear : goal.write_tail-requires-clause-clear
write_tail-requires-clause-clear c =
    let fib = c.args.self.now in
    let old = c.args.out.now in
    let size = c.size.result in
    let last = c.write.new.out in
    let least = c.size.ensures.least in
    let size_is : size ≡ form_size fib.form = c.size.ensures.value ∙ ap (λ f. form_size f.form) c.self.view_is in
    let long : length (take size old) ≡ size = let fits = c.requires in omega (arith, length-take size old, size_is) in
    let filled = filled_zeros (take size old) c.fill.new.self size long (c.fill.ensures.after (λ y h. cc)) in
    let same = ap (λ f. f.pairs) c.self.view_is in
    let left = pairs_left fib size c.self.inside.pairs c.fill.new.self (drop size old) c.write_fields.new.out last
    (omega arith) filled same c.write_fields.ensures c.write.ensures in
    let is : IsFib fib = subst (λ f. IsFib f) c.self.view_is c.self.invariant in
    let size_pairs : length (flat_map fc_lcb_bytes fib.pairs) ≡ 744 = omega (
      arith,
      length-flat_map-pair_bytes fib.pairs,
      is.pairs.count,
    ) in
    let clear = clear_tail (spelled 0 (written_fields fib)) (flat_map fc_lcb_bytes fib.pairs) (drop size old) last size
    (omega arith) (length-fields fib) size_pairs left in
    subst (λ n. drop 898 last ≡ zeros (n - 898) ++ drop n last) size_is clear.1

pub returns-clause-written : goal.returns-clause-written
returns-clause-written c =
    let fib = c.args.self.now in
    let old = c.args.out.now in
    let size = c.size.result in
    let last = c.write.new.out in
    let least = c.size.ensures.least in
    let size_is : size ≡ form_size fib.form = c.size.ensures.value ∙ ap (λ f. form_size f.form) c.self.view_is in
    let long : length (take size old) ≡ size = let fits = c.requires in omega (arith, length-take size old, size_is) in
    let filled = filled_zeros (take size old) c.fill.new.self size long (c.fill.ensures.after (λ y h. cc)) in
    let same = ap (λ f. f.pairs) c.self.view_is in
    let left = pairs_left fib size c.self.inside.pairs c.fill.new.self (drop size old) c.write_fields.new.out last
    (omega arith) filled same c.write_fields.ensures c.write.ensures in
    let is : IsFib fib = subst (λ f. IsFib f) c.self.view_is c.self.invariant in
    whole_put fib size old last c.write_tail.new.out (omega arith) size_is is.pairs.count left c.write_tail.ensures

pub returns-clause-read_back : goal.returns-clause-read_back
returns-clause-read_back c =
    let fib = c.args.self.now in
    let is : IsFib fib = subst (λ f. IsFib f) c.self.view_is c.self.invariant in
    subst (λ out. Hold (fib_rules out) × (fib_fields out ≡ fib)) (sym (returns-clause-written c)) (read_back fib
    (drop (form_size fib.form) c.args.out.now) is)
