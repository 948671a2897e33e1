-- The first bytes of WordDocument, as they are written over zeros.
use Rattle.std.specs.Prelude.{replicate}
use Rattle.std.proofs.Common.{◌≡◌, ◌-◌, ◌∙◌, ap, sym, ℕ, List, ◌++◌, length, drop}
use Rattle.std.proofs.lemmas.List.{drop-replicate}
use Rattle.cfb_layout.specs.Sectors.{filled}
use Rattle.fib_form.specs.Fib.{form_size}
use Rattle.fib_form.specs.FibFields.{FibFields, fib_fields}
use Rattle.fib_form.specs.FibBytes.{written_fib}
use Rattle.fib_form.proofs.Public.{length-fib_pairs, length-written_fib}
use Rattle.full_save.specs.WordDocument.{text_offset}

pub front_is : (fib : FibFields) (out : List ℕ) → fib_fields out ≡ fib →
    out ≡ written_fib fib ++ drop (form_size fib.form) (replicate text_offset 0) → out ≡ filled text_offset 0
    (written_fib fib)
unfolding filled
front_is fib out fields written =
    let count = ap (λ (f : FibFields). length f.pairs) (sym fields) ∙ length-fib_pairs out in
    let len = length-written_fib fib count in
    written
    ∙ (ap (λ (zeros : List ℕ). written_fib fib ++ zeros) (drop-replicate (form_size fib.form) text_offset 0)
    ∙ ap (λ (n : ℕ). written_fib fib ++ replicate (text_offset - n) 0) (sym len))
