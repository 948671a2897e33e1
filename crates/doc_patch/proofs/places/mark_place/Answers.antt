-- The first mark among what is beside the units.
use Rattle.std.proofs.Common.{ap, length, arith}
use Rattle.std.proofs.lemmas.List.{length-map}
use Rattle.run_lists.specs.Spread.{expanded}
use Rattle.run_lists.proofs.Public.{length-spread}
use Rattle.doc_columns.specs.Attached.{attached_of}
use Rattle.doc_patch.proofs.PlaceLemmas.{mark_first}
use Rattle.doc_patch.proofs.places.mark_place.Goals as goal

pub first_place-requires-clause-within : goal.first_place-requires-clause-within
first_place-requires-clause-within c =
    omega (
      arith,
      c.requires,
      length-spread c.attachments.result.now,
      ap length c.attachments.ensures,
      length-map c.args.text.now attached_of,
    )

pub first_place-requires-clause-few : goal.first_place-requires-clause-few
first_place-requires-clause-few c =
    omega (
      arith,
      c.len-len.ensures.formed.few,
      length-spread c.attachments.result.now,
      ap length c.attachments.ensures,
      length-map c.args.text.now attached_of,
    )

pub returns-clause-place : goal.returns-clause-place
returns-clause-place c =
    mark_first c.args.text.now (expanded c.attachments.result.now) c.args.at c.first_place.result c.attachments.ensures
    c.first_place.ensures

pub returns-clause-within : goal.returns-clause-within
returns-clause-within c =
    omega (
      arith,
      c.first_place.ensures.within,
      ap length c.attachments.ensures,
      length-map c.args.text.now attached_of,
    )

pub returns-clause-short : goal.returns-clause-short
returns-clause-short c =
    omega (
      arith,
      c.first_place.ensures.within,
      ap length c.attachments.ensures,
      length-map c.args.text.now attached_of,
      c.len-len.ensures.formed.few,
    )
