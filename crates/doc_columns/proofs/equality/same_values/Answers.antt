-- Both lists are gone over side by side, run by run.
use Rattle.std.proofs.Common.{◌≡◌, ◌∙◌, ◌≤◌, refl, sym, ap, Some, inl, inr, arith}
use Rattle.std.specs.Prelude.{slice_get, IsTrue, false}
use Rattle.std.proofs.lemmas.Bool.{cases_lt}
use Rattle.std.proofs.lemmas.Option.{same_Some}
use Rattle.run_lists.specs.Spread.{expanded}
use Rattle.run_lists.proofs.Public.{length-spread}
use Rattle.doc_columns.proofs.CollectLemmas.{start_at}
use Rattle.doc_columns.proofs.EqualityLemmas.{begins_at_start, whole_same}
use Rattle.doc_columns.proofs.equality.same_values.Goals as goal

pub loop-place-init : goal.loop-place-init
loop-place-init g c = record {
  first = start_at c.args.one.now c.new-first.result c.new-first.ensures;
  first_ahead = begins_at_start c.new-first.result c.new-first.ensures;
  second = start_at c.args.other.now c.new-second.result c.new-second.ensures;
  second_ahead = begins_at_start c.new-second.result c.new-second.ensures;
  within = omega arith;
  same = λ k below. absurd (omega (arith, below));
}

pub returns-then-not-equal : goal.returns-then-not-equal
returns-then-not-equal g c =
    let place = c.loop-place.place in
    let one = c.value_until-end in
    let other = c.value_until-attached_end in (
      λ (no : IsTrue false). absurd (cc),
      λ same. c.if-not-equal.ensures.1
          (same_Some one.result.0.now other.result.0.now
          (sym (one.ensures.values place (omega arith) one.ensures.some)
          ∙ ap (λ xs. slice_get xs place) same
          ∙ other.ensures.values place (omega arith) other.ensures.some)),
    )

pub loop-place-preserved : goal.loop-place-preserved
loop-place-preserved g c =
    let place = c.loop-place.place in
    let next = c.min-place.result in
    let one = c.value_until-end in
    let other = c.value_until-attached_end in
    let min = c.min-place.ensures in
    let first_on = one.ensures.some in
    let second_on = other.ensures.some in
    let le : place ≤ next = omega (arith, min, first_on, second_on) in
    let one_until : next ≤ one.result.1 = omega (arith, min) in
    let other_until : next ≤ other.result.1 = omega (arith, min) in
    record {
      first = one.ensures.at;
      first_ahead = omega (arith, one.ensures.ahead, le);
      second = other.ensures.at;
      second_ahead = omega (arith, other.ensures.ahead, le);
      within = omega (arith, one_until, one.ensures.within, c.requires.one);
      same = λ k below. elim (cases_lt k place) [
        | inl before ↦ c.loop-place.invariant.same k before
        | inr behind ↦ one.ensures.values k behind (omega (arith, below, one_until))
            ∙ ap (λ x. Some x) (c.if-not-equal.ensures.0 refl)
            ∙ sym (other.ensures.values k behind (omega (arith, below, other_until)))
      ];
    }

pub returns : goal.returns
returns g c =
    let one = expanded c.args.one.now in
    let other = expanded c.args.other.now in
    let all : c.loop-place.place ≡ c.args.len = omega (arith, c.loop-place.invariant.within, c.loop-place-test.false) in
    let same = c.loop-place.invariant.same in (
      λ yes. whole_same one other c.args.len (length-spread c.args.one.now ∙ c.requires.one)
          (length-spread c.args.other.now ∙ c.requires.other) (λ k below. same k (omega (arith, below, all))),
      λ e. refl,
    )
