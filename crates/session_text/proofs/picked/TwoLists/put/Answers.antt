use Rattle.std.proofs.Common.{◌≡◌, ◌∙◌, ◌++◌, ◌-◌, List, true, sym, ap, append_assoc, length, arith}
use Rattle.std.specs.Prelude.{slice_range}
use Rattle.std.proofs.lemmas.List.{length-append}
use Rattle.run_lists.specs.Spread.{expanded}
use Rattle.run_lists.proofs.Public.{length-spread, extent-take}
use Rattle.session_text.specs.WrittenAgain.{values_for}
use Rattle.session_text.specs.Picked.{values_of_both}
use Rattle.session_text.proofs.PickLemmas.{range_of_two}
use Rattle.session_text.proofs.picked.TwoLists.put.Goals as goal

pub put_range-requires-clause-ahead : goal.put_range-requires-clause-ahead
put_range-requires-clause-ahead g c =
    let lists = c.args.self.now in
    let read = c.requires.read in
    let ahead = read.first_ahead in
    let begins = read.first.begins in
    omega (
      arith,
      ahead,
      begins,
      extent-take lists.first.now c.args.read.now.first.run,
      c.requires.lists,
      c.min-from.ensures,
    )

pub put_range-requires-clause-few : goal.put_range-requires-clause-few
put_range-requires-clause-few g c =
    let lists = c.args.self.now in
    omega (
      arith,
      length-append (expanded lists.first.now) (expanded lists.second.now),
      length-spread lists.first.now,
      c.requires.few,
    )

pub put_range-requires-2-clause-within : goal.put_range-requires-2-clause-within
put_range-requires-2-clause-within g c =
    let lists = c.args.self.now in
    omega (
      arith,
      length-append (expanded lists.first.now) (expanded lists.second.now),
      length-spread lists.first.now,
      length-spread lists.second.now,
      c.requires.lists,
      c.requires.within,
      c.min-to.ensures,
    )

pub put_range-requires-2-clause-few : goal.put_range-requires-2-clause-few
put_range-requires-2-clause-few g c =
    let lists = c.args.self.now in
    omega (
      arith,
      length-append (expanded lists.first.now) (expanded lists.second.now),
      length-spread lists.second.now,
      c.requires.few,
    )

pub returns-clause-values : goal.returns-clause-values
returns-clause-values g c =
    let lists = c.args.self.now in
    let first = expanded lists.first.now in
    let second = expanded lists.second.now in
    let stretch = c.args.stretch in
    let out = c.args.out.now in
    let front = slice_range first c.min-from.result c.min-to.result in
    let back = slice_range second (stretch.from - c.min-from.result) (stretch.to - c.min-to.result) in
    let on : stretch.again ≡ true = grind (arith, c.if-not-stretch.false) in
    let len : lists.first_len ≡ length first = omega (arith, length-spread lists.first.now, c.requires.lists) in
    let both = range_of_two first second stretch.from stretch.to c.min-from.result c.min-to.result c.requires.order
    (omega (arith, c.min-from.ensures, len)) (omega (arith, c.min-to.ensures, len)) in
    c.in_ok-put_range-2.ensures.values
    ∙ (ap (λ (l : List g.row.T.Denot). l ++ back) c.in_ok-put_range.ensures.values
    ∙ (append_assoc out front back
    ∙ (ap (λ (l : List g.row.T.Denot). out ++ l) (sym both)
    ∙ ap (λ b. out ++ values_for b (slice_range (values_of_both lists) stretch.from stretch.to)) (sym on))))
