use Rattle.std.proofs.Common.{◌≡◌, ◌∙◌, ◌++◌, ℕ, List, sym, ap, slice_index}
use Rattle.list_numbers.proofs.PlacedLemmas.{first_placed, own_number_of, plain_placed}
use Rattle.list_numbers.proofs.level_text.push_front.Goals as goal

pub returns-then-first-lt-PLACEHOLDERS-clause-units : goal.returns-then-first-lt-PLACEHOLDERS-clause-units
returns-then-first-lt-PLACEHOLDERS-clause-units c = λ represented is own.
    let text = c.args.text.now in
    let number = own_number_of represented c.args.numbers.now (slice_index text 0) c.index-numbers-first.result is
    c.if-first-lt-PLACEHOLDERS.true c.index-numbers-first.is in
    c.in_ok-push_all.ensures.ok ∙ ap (λ (more : List ℕ). c.args.units.now ++ more)
    (c.as_slice.ensures ∙ number ∙ sym (first_placed represented text c.requires.some))

pub returns-clause-units : goal.returns-clause-units
returns-clause-units c = λ represented is own.
    c.in_ok-push_all-2.ensures.ok ∙ ap (λ (more : List ℕ). c.args.units.now ++ more)
    (sym (plain_placed represented own c.args.text.now c.plain_len-count.result c.plain_len-count.ensures.within
    c.plain_len-count.ensures.plain))
