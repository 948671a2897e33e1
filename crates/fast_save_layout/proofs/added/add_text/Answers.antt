use Rattle.std.proofs.Common.{◌∙◌, ◌++◌, List, ℕ, length, ap, arith}
use Rattle.std.proofs.lemmas.List.{length-map}
use Rattle.cfb_layout.specs.Sectors.{padded_to_unit}
use Rattle.doc_model.specs.declared.item.Item.{Item}
use Rattle.full_save.specs.WordDocument.{units_bytes}
use Rattle.fast_save_layout.proofs.added.add_text.Goals as goal

pub append_text-requires : goal.append_text-requires
append_text-requires c =
    omega (
      arith,
      c.requires,
      ap length c.units.ensures,
      length-map c.args.items.now (λ (item : Item). item.unit),
    )

pub returns : goal.returns
returns c =
    c.in_ok-append_text.ensures
    ∙ ap (λ (units : List ℕ). c.args.out.now ++ padded_to_unit 512 0 (units_bytes units)) c.units.ensures
