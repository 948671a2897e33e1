use Rattle.std.proofs.Common.{◌≡◌, map, slice_index, arith}
use Rattle.std.proofs.lemmas.List.{length-map}
use Rattle.doc_parts.specs.declared.lists.Fld.{Fld}
use Rattle.file_rules.proofs.RowLemmas.{index_of_get}
use Rattle.file_rules.proofs.story_fields.wrong_field_unit.Goals as goal

pub bounds-units-cp : goal.bounds-units-cp
bounds-units-cp c =
    let list = c.args.list.now in
    let k = c.loop-k.k in
    let len = length-map list (λ (fld : Fld). fld.cp) in
    let cp : slice_index (map (λ (fld : Fld). fld.cp) list) k ≡ c.get-cp.result.0 = index_of_get (λ (fld : Fld).
    fld.cp) list k _ c.get-cp.ensures in
    let within = (c.requires.in_order k (omega (arith, c.len-k-end.ensures))).within in
    omega arith
