use Rattle.std.proofs.Common.{arith, inl, inr, ◌≡◌, ◌∙◌, ap, sym, subst, ℕ, ◌+◌, ◌<◌, ◌≤◌, length}
use Rattle.doc_bits.specs.Number.{u16_at}
use Rattle.doc_bits.specs.Rules.{IsLeast}
use Rattle.doc_parts.specs.BookmarkParts.{bookmark_count, bookmark_name_place, HasNameFront, IsWholeName, BreaksNames}
use Rattle.doc_parts.proofs.BookmarkPartLemmas.{first_place, name_place-next, no_count, no_name, wrong_count}
use Rattle.doc_parts.proofs.BookmarkPartLemmas.{whole_more}
use Rattle.doc_parts.proofs.BookmarkPartLemmas.{right_names, rest_behind}
use Rattle.doc_parts.proofs.bookmark_parts.names_fault.Goals as goal

pub loop-k-init : goal.loop-k-init
loop-k-init c = record {
  place = sym (first_place c.args.names.now);
  whole = λ k low. absurd (omega (arith, low));
  within = omega (arith, c.requires.some);
}

pub returns-then-names-place : goal.returns-then-names-place
returns-then-names-place c =
    let low : c.loop-k._k < bookmark_count c.args.names.now =
    omega (arith, c.loop-k-test.true, c.get16-k-end.ensures) in
    no_count c.args.names.now c.args.at c.loop-k._k low c.loop-k.invariant.whole
    (omega (arith, c.if-names-place.true, c.loop-k.invariant.place))

pub returns-then-units-eq0 : goal.returns-then-units-eq0
returns-then-units-eq0 c =
    let low : c.loop-k._k < bookmark_count c.args.names.now =
    omega (arith, c.loop-k-test.true, c.get16-k-end.ensures) in
    let front : HasNameFront c.args.names.now = record {
      wide = sym c.get16.ensures ∙ c.if-get16-ne-WIDE.false;
      extra = sym c.get16-else-get16-ne-WIDE.ensures ∙ c.if-get16-ne0.false;
    } in
    let units : u16_at c.args.names.now (bookmark_name_place c.args.names.now c.loop-k._k) ≡ c.get16-units.result =
    ap (λ (n : ℕ). u16_at c.args.names.now n) (sym c.loop-k.invariant.place) ∙ sym c.get16-units.ensures in
    let there : bookmark_name_place c.args.names.now c.loop-k._k + 2 ≤ length c.args.names.now =
    omega (arith, c.if-names-place.false, c.loop-k.invariant.place) in
    subst (λ (n : ℕ). IsLeast (λ a b. a ≤ b) (BreaksNames c.args.names.now c.args.at) (c.args.at + n))
    (sym c.loop-k.invariant.place)
    (wrong_count c.args.names.now c.args.at c.loop-k._k low front c.loop-k.invariant.whole there
    (elim c.then-units-eq0.either [ inl none ↦ inl (units ∙ none) | inr many ↦ inr (omega (arith, units, many.1)) ]))

pub returns-then-names-place-2 : goal.returns-then-names-place-2
returns-then-names-place-2 c =
    let low : c.loop-k._k < bookmark_count c.args.names.now =
    omega (arith, c.loop-k-test.true, c.get16-k-end.ensures) in
    let units : u16_at c.args.names.now (bookmark_name_place c.args.names.now c.loop-k._k) ≡ c.get16-units.result =
    ap (λ (n : ℕ). u16_at c.args.names.now n) (sym c.loop-k.invariant.place) ∙ sym c.get16-units.ensures in
    no_name c.args.names.now c.args.at c.loop-k._k low c.loop-k.invariant.whole
    (omega (arith, units, c.if-units-eq0.false)) (omega (arith, units, c.if-units-gt-NAME_MAX.false))
    (omega (
      arith,
      c.if-names-place-2.true,
      name_place-next c.args.names.now c.loop-k._k,
      c.loop-k.invariant.place,
      units,
    ))

pub loop-k-preserved : goal.loop-k-preserved
loop-k-preserved c =
    let units : u16_at c.args.names.now (bookmark_name_place c.args.names.now c.loop-k._k) ≡ c.get16-units.result =
    ap (λ (n : ℕ). u16_at c.args.names.now n) (sym c.loop-k.invariant.place) ∙ sym c.get16-units.ensures in
    let next = name_place-next c.args.names.now c.loop-k._k in
    let own : IsWholeName c.args.names.now c.loop-k._k = record {
      some = omega (arith, units, c.if-units-eq0.false);
      short = omega (arith, units, c.if-units-gt-NAME_MAX.false);
      within = omega (arith, c.if-names-place-2.false, next, c.loop-k.invariant.place, units);
    } in
    record {
      place = omega (arith, next, c.loop-k.invariant.place, units);
      whole = whole_more c.args.names.now c.loop-k._k c.loop-k.invariant.whole own;
      within = c.if-names-place-2.false;
    }

pub returns-then-place-names : goal.returns-then-place-names
returns-then-place-names c =
    let front : HasNameFront c.args.names.now = record {
      wide = sym c.get16.ensures ∙ c.if-get16-ne-WIDE.false;
      extra = sym c.get16-else-get16-ne-WIDE.ensures ∙ c.if-get16-ne0.false;
    } in
    let last : c.loop-k._k ≡ bookmark_count c.args.names.now =
    omega (arith, c.loop-k-test.false, c.loop-k.auto._k-end, c.get16-k-end.ensures) in
    right_names c.args.names.now c.args.at front (record {
      whole = λ k low. c.loop-k.invariant.whole k (omega (arith, low, last));
      end = ap (bookmark_name_place c.args.names.now) (sym last) ∙ (sym c.loop-k.invariant.place ∙
          c.if-place-names.true);
    })

pub returns-else-place-names : goal.returns-else-place-names
returns-else-place-names c =
    let last : c.loop-k._k ≡ bookmark_count c.args.names.now =
    omega (arith, c.loop-k-test.false, c.loop-k.auto._k-end, c.get16-k-end.ensures) in
    rest_behind c.args.names.now c.args.at (λ k low. c.loop-k.invariant.whole k (omega (arith, low, last)))
    (λ h. c.if-place-names.false (c.loop-k.invariant.place ∙ (ap (bookmark_name_place c.args.names.now) last ∙ h)))
