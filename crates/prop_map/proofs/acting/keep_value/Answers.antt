use Rattle.std.proofs.Common.{◌≡◌, [], ◌∷◌, ℕ, true, inl, inr, sym, ap, ◌∙◌, Option, Some, None, IfSome}
use Rattle.std.specs.Ordering.{nat_cmp}
use Rattle.std.specs.FinMap as map
use Rattle.std.specs.Cmp.{nat_cmp_total}
use Rattle.std.specs.FinMap.{get, get-insert, from_sorted}
use Rattle.sprm_table.specs.Codes.{class_of, is_property}
use Rattle.prop_map.specs.Acting.{ArePropertiesAfter}
use Rattle.prop_map.specs.Values.{set_value_entries, entry_of, set_map}
use Rattle.prop_map.proofs.ActingLemmas.{sets_not_clears, value_after-set}
use Rattle.prop_map.proofs.EntriesLemmas.{from_sorted-put}
use Rattle.prop_map.proofs.acting.keep_value.Goals as goal

-- what is known of a position that is there
known : (o : Option ℕ) (P Q : Type 0) → (P → Q) → IfSome o (λ _. P) → IfSome o (λ _. Q)
known None P Q f h = h
known (Some next) P Q f h = f h

pub returns-in_ok-put-in-Plain-clause-kept : goal.returns-in_ok-put-in-Plain-clause-kept
returns-in_ok-put-in-Plain-clause-kept c =
    let items = c.args.values.now.items in
    let set = c.args.set in
    let new = c.put_value.new.values.items in
    let sets : is_property (class_of set.code.0) ≡ true = elim c.in-Plain.is [
      | inl k ↦ ap is_property (sym c.class.ensures ∙ k)
      | inr k ↦ ap is_property (sym c.class.ensures ∙ k)
    ] in
    let clears = sets_not_clears (class_of set.code.0) sets in
    let key = set.code.0 in
    let value = set.value.now in
    let IsPut : Type 0 = set_value_entries new ≡ map.put nat_cmp key value (set_value_entries items) in
    let IsKept : Type 0 = ArePropertiesAfter (entry_of set ∷ []) c.args.groups (set_map items) (set_map new) in
    let kept : IsPut → IsKept = λ put code.
    ap (λ m. get m code) (ap from_sorted put ∙ from_sorted-put (set_value_entries items) key value c.requires)
    ∙ (get-insert nat_cmp_total _ _ _ code
    ∙ value_after-set c.args.groups code key value (get (set_map items) code) (sym c.if-held.ensures) sets clears) in
    known c.in_ok-put-in-Plain.put IsPut IsKept kept c.in_ok-put-in-Plain.ensures.put
