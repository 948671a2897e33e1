-- One stop more is added.
use Rattle.std.proofs.Common.{◌≡◌, ◌≢◌, inl, inr, ℕ, ℤ, ◌+◌, ◌<◌, List, Bool, false, Some, refl, sym, ap, ◌∙◌, arith}
use Rattle.std.proofs.Common.{subst, Less, Equal, Greater}
use Rattle.std.proofs.lemmas.Bool.{cases_lt}
use Rattle.std.proofs.lemmas.Map.Lookups.{exact_signed}
use Rattle.std.specs.Ordering.{int_cmp, is_eq}
use Rattle.std.specs.BTreeMap.{BTreeMap, Updates}
use Rattle.effective_props.specs.declared.tabs.Tab.{Tab}
use Rattle.effective_props.specs.TabChange.{added_position, added_kind}
use Rattle.effective_props.specs.StopSteps.{KindsOfStops, kinds_in, AddsUpTo}

-- positions that are not equal are at different places of a tree
pub apart_at : (a b : ℤ) → a ≢ b → is_eq (int_cmp a b) ≡ false
apart_at a b apart =
    elim (int_cmp a b) as (λ o. int_cmp a b ≡ o → is_eq o ≡ false) [
      | Less ↦ λ _. refl
      | Equal ↦ λ e. absurd (apart (exact_signed a b e))
      | Greater ↦ λ _. refl
    ] refl

-- the stop is there, and no other one is touched
pub record AddsOne (tab : Tab) (now next : KindsOfStops) : Type 0 where
  pub here : next tab.at ≡ Some tab.kind
  pub others : (position : ℤ) → tab.at ≢ position → next position ≡ now position

pub adds_by_update : (tab : Tab) (now next : BTreeMap ℤ ℕ) → Updates int_cmp now next tab.at (Some tab.kind) →
    AddsOne tab (kinds_in now) (kinds_in next)
adds_by_update tab now next updates = record {
  here = updates.1;
  others = λ position apart. updates.2 position (apart_at tab.at position apart);
}

pub added_more : (value : List ℕ) (n : ℕ) (tab : Tab) (old now next : KindsOfStops) → AddsUpTo value n old now →
    AddsOne tab now next → tab.at ≡ added_position value n → tab.kind ≡ added_kind value n →
    AddsUpTo value (n + 1) old next
added_more value n tab old now next adds one at kind =
    let others : (position : ℤ) → added_position value n ≢ position → next position ≡ now position =
    λ position apart. one.others position (λ same. apart (sym at ∙ same)) in
    let here : next (added_position value n) ≡ Some (added_kind value n) =
    ap next (sym at) ∙ one.here ∙ ap Some kind in
    record {
      there = λ i below last.
          elim (cases_lt i n) [
            | inl before ↦ others (added_position value i) (last n before (omega arith)) ∙ adds.there i before
                (λ j past less. last j past (omega arith))
            | inr upto ↦
                let same : n ≡ i = omega arith in
                subst (λ k. next (added_position value k) ≡ Some (added_kind value k)) same here
          ];
      kept = λ position none.
          others position (none n (omega arith)) ∙ adds.kept position (λ i less. none i (omega arith));
    }
