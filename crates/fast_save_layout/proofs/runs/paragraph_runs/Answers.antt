use Rattle.std.proofs.Common.{length, ap, arith}
use Rattle.std.proofs.lemmas.List.{length-map}
use Rattle.run_lists.proofs.Public.{length-spread}
use Rattle.doc_columns.specs.Attached.{attached_of}
use Rattle.fast_save_layout.proofs.runs.paragraph_runs.Goals as goal

pub push_runs-requires : goal.push_runs-requires
push_runs-requires c =
    omega (
      arith,
      c.requires,
      length-spread c.attachments.result.now,
      ap length c.attachments.ensures,
      length-map c.args.items.now attached_of,
    )
