use Rattle.std.proofs.Common.{◌∙◌, ap, List, length, arith}
use Rattle.std.specs.List.{count_by}
use Rattle.std.proofs.lemmas.List.{length-map}
use Rattle.run_lists.proofs.Public.{length-spread}
use Rattle.doc_columns.specs.declared.attached.Attached.{Attached}
use Rattle.doc_columns.specs.Attached.{attached_of}
use Rattle.doc_show.proofs.CountLemmas.{ends_section, ends_attached}
use Rattle.doc_show.proofs.counts.sections_in.Goals as goal

pub ends_in-requires : goal.ends_in-requires
ends_in-requires c =
    let long = ap (λ (t : List Attached). length t) c.attachments.ensures in
    omega (
      arith,
      long,
      length-spread c.attachments.result.now,
      length-map c.args.text.now attached_of,
      c.len-len.ensures.formed.few,
    )

pub returns : goal.returns
returns c =
    c.ends_in.ensures ∙ (ap (count_by ends_section) c.attachments.ensures ∙ ends_attached c.args.text.now)
