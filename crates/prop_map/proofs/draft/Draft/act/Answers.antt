use Rattle.std.proofs.Common.{◌≡◌, true, inl, inr, sym, ap, ◌∙◌}
use Rattle.std.specs.Cmp.{nat_cmp_total}
use Rattle.std.specs.FinMap.{get, get-insert}
use Rattle.sprm_table.specs.Codes.{class_of, is_property, is_clear}
use Rattle.prop_map.specs.Acting.{is_kept_by_plain}
use Rattle.prop_map.proofs.ActingLemmas.{sets_not_clears, value_after-set, value_after-clear}
use Rattle.prop_map.proofs.ChangeLemmas.{get-retained}
use Rattle.prop_map.proofs.draft.Draft.act.Goals as goal

pub returns-in_ok-put-in-Plain : goal.returns-in_ok-put-in-Plain
returns-in_ok-put-in-Plain c = λ code.
    let sets : is_property (class_of c.args.code.0) ≡ true = elim c.in-Plain.is [
      | inl k ↦ ap is_property
          (sym c.class.ensures ∙ k)
      | inr k ↦ ap is_property (sym c.class.ensures ∙ k)
    ] in
    let clears = sets_not_clears (class_of c.args.code.0) sets in
    ap (λ m. get m code) c.in_ok-put-in-Plain.ensures.ok
    ∙ (get-insert nat_cmp_total _ _ _ code
    ∙ rw c.in_ok-from_slice-in-Plain.ensures (value_after-set c.args.groups code c.args.code.0 c.args.value.now
    (get c.args.self.now code) (sym c.if-held.ensures) sets clears))

pub returns-in-Clear : goal.returns-in-Clear
returns-in-Clear c = λ code.
    let kind = sym c.in-Clear.ensures in
    ap (λ m. get m code) c.clear.ensures ∙ (get-retained c.args.self.now is_kept_by_plain code
    ∙ value_after-clear c.args.groups code c.args.code.0 c.args.value.now (get c.args.self.now code)
    (sym c.if-held.ensures) (ap is_property kind) (ap is_clear kind))
