-- The FIB is written over zeros, and what lies behind it is cut off.
use Rattle.std.specs.Prelude.{replicate}
use Rattle.std.proofs.Common.{◌≡◌, ◌∙◌, ℕ, List, length, take, drop, sym, ap}
use Rattle.fib_form.specs.Fib.{form_size}
use Rattle.fib_form.specs.FibFields.{FibFields}
use Rattle.fib_form.specs.FibBytes.{written_fib}
use Rattle.fib_form.proofs.Public.{form_size-most, length-fib_pairs, length-written_fib, take_front}
use Rattle.fast_save_layout.proofs.word_document.fib_bytes.Goals as goal

pub write-requires : goal.write-requires
write-requires c = form_size-most c.args.fib.now.form

pub returns-clause-bytes : goal.returns-clause-bytes
returns-clause-bytes c =
    let fib = c.args.fib.now in
    let count = ap (λ (f : FibFields). length f.pairs) (sym c.write.ensures.read_back.1) ∙ length-fib_pairs
    c.write.new.out in
    let size : length (written_fib fib) ≡ c.size.result = length-written_fib fib count ∙ sym c.size.ensures.value in
    c.in_ok-bytes.ensures
    ∙ (ap (λ (out : List ℕ). take c.size.result out) c.write.ensures.written
    ∙ take_front (written_fib fib) (drop (form_size fib.form) (replicate 1024 0)) c.size.result size)

pub returns-clause-len : goal.returns-clause-len
returns-clause-len c =
    let count = ap (λ (f : FibFields). length f.pairs) (sym c.write.ensures.read_back.1) ∙ length-fib_pairs
    c.write.new.out in
    ap length (returns-clause-bytes c) ∙ length-written_fib c.args.fib.now count
