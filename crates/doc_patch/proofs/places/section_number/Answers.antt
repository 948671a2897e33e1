-- The ends of sections among what is beside the units.
use Rattle.std.proofs.Common.{refl, ap, length, arith}
use Rattle.std.specs.Prelude.{is_some}
use Rattle.std.proofs.lemmas.List.{length-map}
use Rattle.run_lists.specs.Spread.{expanded}
use Rattle.run_lists.proofs.Public.{length-spread}
use Rattle.doc_columns.specs.Attached.{attached_of}
use Rattle.doc_patch.specs.declared.places.Part.TheVariants.{Section}
use Rattle.doc_patch.proofs.PlaceLemmas.{count_of}
use Rattle.doc_patch.proofs.places.section_number.Goals as goal

pub count_before-requires : goal.count_before-requires
count_before-requires c =
    omega (
      arith,
      c.requires,
      length-spread c.attachments.result.now,
      ap length c.attachments.ensures,
      length-map c.args.main.now attached_of,
    )

pub returns-clause-number : goal.returns-clause-number
returns-clause-number c =
    count_of Section (λ item. is_some item.sect) c.args.main.now (expanded c.attachments.result.now) c.args.at
    c.count_before.result (λ item. refl) c.attachments.ensures c.count_before.ensures.count
