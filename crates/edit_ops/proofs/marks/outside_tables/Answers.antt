use Rattle.std.proofs.Common.{◌≡◌, ◌∙◌, ◌++◌, [], sym, ap, map}
use Rattle.std.specs.List.{filter}
use Rattle.std.specs.FinMap.{entries}
use Rattle.std.proofs.lemmas.List.{append-nil}
use Rattle.prop_map.specs.Formed.{paragraph_groups}
use Rattle.prop_map.specs.Overlay.{without}
use Rattle.edit_ops.specs.Fresh.{is_row_code}
use Rattle.edit_ops.proofs.WithoutLemmas.{keys, without_listed}
use Rattle.edit_ops.proofs.marks.outside_tables.Goals as goal

pub returns-clause-map : goal.returns-clause-map
returns-clause-map c =
    let pap = c.args.pap.now in
    let codes = map (λ code. code.0) c.loop-code.codes.items in
    let none : c.loop-code.left ≡ [] = c.in_default.ensures.0 in
    let listed : codes ≡ filter is_row_code (keys (entries pap)) =
    sym (append-nil codes)
    ∙ (ap (λ l. codes ++ filter is_row_code (keys l)) (sym none) ∙ c.loop-code.invariant) in
    c.in_ok-made.ensures.map
    ∙ (ap (λ codes. without (map (λ code. code.0) codes) pap) c.deref.ensures.value
    ∙ (ap (λ ks. without ks pap) listed ∙ without_listed is_row_code pap))

pub returns-clause-formed : goal.returns-clause-formed
returns-clause-formed c = c.in_ok-made.ensures.formed paragraph_groups
