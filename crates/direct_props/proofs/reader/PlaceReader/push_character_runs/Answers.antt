use Rattle.std.proofs.Common.{◌-◌, ◌+◌, ◌<◌, ◌≤◌, ℕ, List, [], length, take, slice_index_or, sym, subst, ap, refl, ◌∙◌}
use Rattle.std.proofs.Common.{Option, MatchOption, arith, length-take}
use Rattle.std.proofs.lemmas.Bool.{true≢false}
use Rattle.std.proofs.lemmas.List.{append-nil, take_all}
use Rattle.std.proofs.lemmas.List.Elements.{All-nil}
use Rattle.std.proofs.lemmas.Option.{none-some}
use Rattle.prop_map.specs.Settings.{Properties}
use Rattle.prop_map.specs.Formed.{IsPropertyMap, character_groups}
use Rattle.fkp_pages.specs.declared.kind.PageKind.TheVariants.{Chpx}
use Rattle.direct_props.specs.declared.reader.CharacterStretch.{CharacterStretch}
use Rattle.direct_props.specs.Direct.{IsDirectCharacter}
use Rattle.direct_props.specs.PageRules.{IsValidPlace}
use Rattle.direct_props.specs.Stretches.{AddsCharacters, HasPropertiesAround}
use Rattle.direct_props.specs.GrpprlCache.{PlaceSource}
use Rattle.direct_props.proofs.CharacterLemmas.{adds_run}
use Rattle.direct_props.proofs.RowLemmas.{all_left, index_rest, more_passed, passed_so}
use Rattle.direct_props.proofs.reader.PlaceReader.push_character_runs.Goals as goal

-- what is known of the places around one
abbrev IsAround : PlaceSource → ℕ → Option CharacterStretch → Type 0
IsAround source fc stretch = MatchOption stretch (¬ (IsValidPlace Chpx source.wd source.bin fc))
    (λ (s : CharacterStretch). HasPropertiesAround source.wd source.bin source.modifier fc s.first s.last s.map)

pub loop-left-init : goal.loop-left-init
loop-left-init c =
    let all = ap length c.skip-left.ensures in
    record {
      rest = all_left c.args.places.now c.skip-left.result c.skip-left.ensures;
      same = refl;
      right = λ k below. absurd (omega (arith, all, below));
      added = record {
        added = [];
        joined = sym (append-nil c.args.runs.now);
        len = omega (
          arith,
          all,
          length-take (length c.args.places.now - length c.skip-left.result) c.args.places.now,
        );
        each = λ k properties e. absurd (none-some properties e);
        formed = λ by. All-nil (IsPropertyMap character_groups);
      };
    }

pub loop-left-preserved : goal.loop-left-preserved
loop-left-preserved c =
    let source : PlaceSource = c.args.self.now in
    let places : List ℕ = c.args.places.now in
    let left : List ℕ = c.loop-left.left in
    let passed : ℕ = length places - length left in
    let count : ℕ = c.count_up_to-count.result in
    let new : List Properties = c.add.new.self in
    let stretch = c.in-Some.stretch in
    let around = subst (IsAround c.loop-left.self c.first.result) c.in-Some.is c.in_ok-stretch.ensures.around in
    let s = subst
    (λ (x : PlaceSource). HasPropertiesAround x.wd x.bin x.modifier c.first.result stretch.first stretch.last
    stretch.map)
    c.loop-left.invariant.same around in
    let rest = c.loop-left.invariant.rest in
    let more = more_passed places left c.skip-left-in-loop-left.result count rest c.count_up_to-count.ensures.inside
    c.skip-left-in-loop-left.ensures in
    let low : (k : ℕ) → k < count → stretch.first ≤ slice_index_or left k 0 =
    λ k less. omega (arith, s.from, c.first.ensures, c.count_up_to-count.ensures.above k less) in
    record {
      rest = more.0;
      same = c.in_ok-stretch.ensures.same ∙ c.loop-left.invariant.same;
      right = λ k below.
          passed_so (IsValidPlace Chpx source.wd source.bin) places left count rest c.loop-left.invariant.right
          (λ j less. s.right (slice_index_or left j 0) (low j less) (c.count_up_to-count.ensures.below j less)) k
          (omega (arith, below, more.1));
      added = subst (λ (n : ℕ). AddsCharacters source.wd source.bin (take n places) source.modifier c.args.runs.now new)
          (sym more.1)
          (adds_run source.wd source.bin places source.modifier c.args.runs.now c.loop-left.runs new passed count
          stretch.map (omega (arith, rest.within, c.count_up_to-count.ensures.inside)) c.loop-left.invariant.added
          (λ k less.
          subst
          (λ (fc : ℕ). IsDirectCharacter source.wd source.bin fc source.modifier stretch.map)
          (index_rest places left k rest)
          (s.each (slice_index_or left k 0) (low k less) (c.count_up_to-count.ensures.below k less)))
          s.formed c.in_ok-add.ensures.ok);
    }

pub returns-in_default-clause-right : goal.returns-in_default-clause-right
returns-in_default-clause-right c =
    let places : List ℕ = c.args.places.now in
    let left : List ℕ = c.loop-left.left in
    let rest = c.loop-left.invariant.rest in
    let none = subst (IsAround c.loop-left.self c.first.result) c.in_default.is c.in_ok-stretch.ensures.around in
    let wrong = subst (λ (x : PlaceSource). ¬ (IsValidPlace Chpx x.wd x.bin c.first.result)) c.loop-left.invariant.same
    none in (
      λ t. absurd (true≢false (sym t)),
      λ all.
          absurd
          (wrong (subst (IsValidPlace Chpx c.args.self.now.wd c.args.self.now.bin)
          (sym (c.first.ensures ∙ index_rest places left 0 rest))
          (all (length places - length left + 0) (omega (arith, rest.within))))),
    )

pub returns-clause-right : goal.returns-clause-right
returns-clause-right c = (λ _ k below. c.loop-left.invariant.right k (omega (arith, below)), λ _. refl)

pub returns-clause-added : goal.returns-clause-added
returns-clause-added c = λ _.
    let places : List ℕ = c.args.places.now in
    let source : PlaceSource = c.args.self.now in
    subst (λ (l : List ℕ). AddsCharacters source.wd source.bin l source.modifier c.args.runs.now c.loop-left.runs)
    (take_all (length places - length c.loop-left.left) places (omega arith)) c.loop-left.invariant.added
