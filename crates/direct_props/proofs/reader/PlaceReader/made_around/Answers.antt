-- The place is right where its page has it and answers a right list.
use Rattle.std.proofs.Common.{ℕ, Option, MatchOption, sym, subst}
use Rattle.fkp_pages.specs.declared.kind.RunAnswer.{RunAnswer}
use Rattle.fkp_pages.specs.Bin.{page_at}
use Rattle.direct_props.specs.PageRules.{IsValidPlace}
use Rattle.direct_props.specs.declared.grpprl_cache.Decoded.{Decoded}
use Rattle.direct_props.specs.declared.grpprl_cache.DecodedRun.{DecodedRun}
use Rattle.direct_props.specs.Stretches.{HasValidList}
use Rattle.direct_props.specs.GrpprlCache.{PlaceSource, HasMadeAround, IsMadeByAnswer}
use Rattle.direct_props.proofs.StretchLemmas.{right_list, right_stretch}
use Rattle.direct_props.proofs.KeptLemmas.{made_along}
use Rattle.direct_props.proofs.reader.PlaceReader.made_around.Goals as goal

-- what is known of what a page answers
abbrev IsOfAnswer : PlaceSource → ℕ → RunAnswer → Option Decoded → Type 0
IsOfAnswer source number answer made =
    MatchOption made (¬ (HasValidList source.kind (page_at source.wd number) answer))
    (λ (m : Decoded). HasValidList source.kind (page_at source.wd number) answer
    × IsMadeByAnswer source.kind source.modifier (page_at source.wd number) answer m)

pub returns-in_default-clause-around : goal.returns-in_default-clause-around
returns-in_default-clause-around c = λ right.
    c.in_default.ensures (subst (λ (s : PlaceSource). IsValidPlace s.kind s.wd s.bin c.args.fc) (sym c.self.view_is)
    right)

pub returns-in_default-2-clause-around : goal.returns-in_default-2-clause-around
returns-in_default-2-clause-around c = λ right.
    let inside = c.self.inside in
    let source : PlaceSource = record {
      kind = inside.kind;
      wd = inside.wd.now;
      bin = inside.bin.now;
      modifier = inside.modifier;
    } in
    let found = c.in-Some.stretch in
    let around = c.in-Some.ensures in
    let here = subst (λ (s : PlaceSource). IsValidPlace s.kind s.wd s.bin c.args.fc) (sym c.self.view_is) right in
    subst (IsOfAnswer source found.number found.answer) c.in_default-2.is c.in_ok-made.ensures.made
    (right_list source.kind source.wd source.bin c.args.fc found.number found.answer
    (around.each c.args.fc around.from around.to) here)

pub returns-clause-around : goal.returns-clause-around
returns-clause-around c =
    let inside = c.self.inside in
    let source : PlaceSource = record {
      kind = inside.kind;
      wd = inside.wd.now;
      bin = inside.bin.now;
      modifier = inside.modifier;
    } in
    let found = c.in-Some.stretch in
    let made = c.in-Some-2.made in
    let stretch : DecodedRun = record { first = found.first; last = found.last; made = made } in
    let by = subst (IsOfAnswer source found.number found.answer) c.in-Some-2.is c.in_ok-made.ensures.made in
    let right = right_stretch source.kind source.wd source.bin c.args.fc found c.self.invariant.table c.in-Some.ensures
    by.0 in
    subst (λ (s : PlaceSource). HasMadeAround s c.args.fc stretch) c.self.view_is
    (made_along source c.args.fc found made c.in-Some.ensures right.1 by.1)
