use Rattle.std.proofs.Common.{◌-◌, ◌*◌, ◌++◌, List, ℕ, length, replicate, ap, ◌∙◌}
use Rattle.cfb_layout.specs.Sectors.{units_for, padded_to_unit}
use Rattle.cfb_in_place.specs.Change.{NamedChange}
use Rattle.cfb_in_place.proofs.sources.table_after.Goals as goal

pub returns : goal.returns
unfolding padded_to_unit
returns c =
    let view = ap (λ (x : NamedChange). x.change.table) c.change.view_is in
    let table = c.as_slice-table.ensures in
    let rest = c.rest_of.ensures in
    c.in_ok-push_zeros.ensures
    ∙ (ap (λ n. c.push_all.new.self ++ replicate n 0) rest
    ∙ (ap (λ (xs : List ℕ). xs ++ replicate (units_for 512 (length c.as_slice-table.result.now) * 512 - length
    c.as_slice-table.result.now) 0) (c.in_ok-push_all.ensures.ok ∙ ap (λ (xs : List ℕ). xs ++
    c.as_slice-table.result.now) c.new-out.ensures)
    ∙ ap (λ (xs : List ℕ). xs ++ replicate (units_for 512 (length xs) * 512 - length xs) 0) (table ∙ view)))
