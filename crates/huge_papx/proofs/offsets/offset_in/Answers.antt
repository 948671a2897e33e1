use Rattle.std.proofs.Common.{sym, subst, ap, List, length, drop, ℕ, arith}
use Rattle.huge_papx.specs.declared.lists.Sought.TheVariants.{HugePapx}
use Rattle.huge_papx.specs.Lists.{HasLastValue}
use Rattle.huge_papx.proofs.ListLemmas.{last_value_one}
use Rattle.huge_papx.proofs.offsets.offset_in.Goals as goal

pub returns-in_default : goal.returns-in_default
returns-in_default c = λ offset names.
    c.in_default.ensures names.value
    (subst (λ (l : List ℕ). HasLastValue HugePapx l names.value) (sym c.behind_style.ensures) names.has)

pub returns-then-value-lt4 : goal.returns-then-value-lt4
returns-then-value-lt4 c = λ offset names.
    let has : HasLastValue HugePapx (drop 2 c.args.list.now) c.in-Some.value.now =
    subst (λ (l : List ℕ). HasLastValue HugePapx l c.in-Some.value.now) c.behind_style.ensures c.in-Some.ensures in
    let same = last_value_one HugePapx (drop 2 c.args.list.now) names.value c.in-Some.value.now names.has has in
    absurd (omega (arith, ap length same, names.whole, c.if-value-lt4.true))

pub returns : goal.returns
returns c = record {
  value = c.in-Some.value.now;
  has = subst (λ (l : List ℕ). HasLastValue HugePapx l c.in-Some.value.now) c.behind_style.ensures c.in-Some.ensures;
  whole = omega (arith, c.if-value-lt4.false);
  offset_is = c.get32.ensures;
}
