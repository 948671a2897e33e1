use Rattle.std.specs.Prelude.{slice_index_or}
use Rattle.std.proofs.Common.{◌≡◌, ◌∙◌, sym, ap, subst, arith, ◌+◌, ◌<◌, List, [], ◌∷◌, ◌++◌, ℕ, Option, None, length, get_or}
use Rattle.std.proofs.lemmas.List.{length-append}
use Rattle.huge_papx.specs.declared.definitions.RowDefinition.{RowDefinition}
use Rattle.huge_papx.specs.Definitions.{IsDefinitionOf}
use Rattle.huge_papx.proofs.EachLemmas.{each_more}
use Rattle.huge_papx.proofs.definitions.definitions_at.Goals as goal

pub loop-k-init : goal.loop-k-init
loop-k-init c = record {
  count = ap length c.in_ok-found.ensures.items;
  each = λ k low. absurd (omega (arith, low, ap length c.in_ok-found.ensures.items));
}

pub loop-k-preserved : goal.loop-k-preserved
loop-k-preserved c =
    let inv = c.loop-k.invariant in
    let stream = c.args.stream.now in
    let offsets : List (Option ℕ) = c.args.offsets.now in
    let found : List (Option RowDefinition) = c.loop-k.found.items in
    let one : Option RowDefinition = c.in_ok-definition.definition in
    let pushed = c.in_ok-push.ensures.items in
    let Is : ℕ → Option RowDefinition → Type 0 = λ k d. IsDefinitionOf stream (slice_index_or offsets k None) d in
    let here : Is (length found) one =
    subst (λ k. Is k one) (sym inv.count) c.in_ok-definition.ensures in
    record {
      count = omega (arith, ap length pushed, length-append found (one ∷ []), inv.count);
      each = subst (λ (l : List (Option RowDefinition)). (k : ℕ) → k < length l → Is k (get_or l k None)) (sym pushed)
          (each_more Is found one None inv.each here);
    }

pub returns : goal.returns
returns c =
    let inv = c.loop-k.invariant in
    record {
      len = omega (arith, inv.count, c.loop-k-test.false, c.loop-k.auto.k-end);
      each = λ k low. inv.each k (omega (arith, low, inv.count, c.loop-k-test.false, c.loop-k.auto.k-end));
    }
