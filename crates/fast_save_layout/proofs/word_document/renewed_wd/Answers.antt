use Rattle.std.specs.Prelude.{replicate}
use Rattle.std.proofs.Common.{◌≡◌, ◌∙◌, ◌-◌, ◌++◌, ℕ, List, length, take, drop, sym, ap, arith, length-append}
use Rattle.std.proofs.lemmas.List.{length-drop, take_all}
use Rattle.cfb_layout.specs.Sectors.{filled}
use Rattle.fast_save_layout.proofs.word_document.renewed_wd.Goals as goal

pub returns : goal.returns
unfolding filled
returns c =
    let old = c.args.old.now in
    let fib = c.args.fib.now in
    let base = c.args.base in
    let end = length fib in
    let long = c.requires in
    let rest = length-drop end old in
    let both = length-append fib (drop end old) in
    let all : length (fib ++ drop end old) ≡ length old = omega (arith, rest, both, long) in
    let whole : take (length old - end) (drop end old) ≡ drop end old =
    take_all (length old - end) (drop end old) (omega (arith, rest)) in
    let front = c.in_ok-push_all.ensures.ok ∙ (λ i. c.in_ok-wd.ensures i ++ whole i) in
    let zeros : c.saturating_sub.result ≡ base - length (fib ++ drop end old) = c.saturating_sub.ensures
    ∙ ap (λ (n : ℕ). base - n) (sym all) in
    c.in_ok-push_all-2.ensures.ok
    ∙ ap (λ (b : List ℕ). b ++ c.args.added.now)
    (c.in_ok-push_zeros.ensures ∙ (λ i. front i ++ replicate (zeros i) 0))
