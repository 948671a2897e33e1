use Rattle.std.proofs.Common.{◌≡◌, ◌≤◌, true, inl, inr, sym, ap, ◌∙◌, arith}
use Rattle.std.specs.Cmp.{nat_cmp_total}
use Rattle.std.specs.FinMap.{get, get-insert}
use Rattle.sprm_table.specs.Codes.{class_of, is_property}
use Rattle.prop_map.specs.Block.{map_of}
use Rattle.prop_map.proofs.ActingLemmas.{sets_not_clears, value_after-set}
use Rattle.prop_map.proofs.MergeLemmas.{one_behind}
use Rattle.prop_map.proofs.acting.push_property.Goals as goal

pub returns-in_ok-push_entry-in-Plain : goal.returns-in_ok-push_entry-in-Plain
returns-in_ok-push_entry-in-Plain c =
    let sets : is_property (class_of c.args.code.0) ≡ true = elim c.in-Plain.is [
      | inl k ↦ ap is_property
          (sym c.class.ensures ∙ k)
      | inr k ↦ ap is_property (sym c.class.ensures ∙ k)
    ] in
    let clears = sets_not_clears (class_of c.args.code.0) sets in
    let least : c.args.least ≤ c.args.code.0 = omega arith in
    let made = one_behind c.args.bytes.now c.push_entry.new.bytes c.args.least c.args.code.0 c.args.value.now c.requires
    least c.in_ok-push_entry-in-Plain.ensures.bytes c.in_ok-push_entry-in-Plain.ensures.entry in (
      made.0,
      λ code. ap (λ m. get m code) made.1
          ∙ (get-insert nat_cmp_total _ _ _ code
          ∙ value_after-set c.args.groups code c.args.code.0 c.args.value.now (get (map_of c.args.bytes.now) code)
          (sym c.if-held.ensures) sets clears),
    )
