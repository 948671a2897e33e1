-- What is beside them is the third one.
use Rattle.std.proofs.Common.{◌∙◌, sym, ap, map}
use Rattle.doc_columns.specs.Attached.{attached_of}
use Rattle.doc_columns.proofs.ItemsOfLemmas.{attachments-items_of}
use Rattle.doc_columns.proofs.own.OwnColumns.attachments.Goals as goal

pub returns : goal.returns
returns c =
    let own = c.self.inside in
    c.as_runs.ensures.runs
    ∙ sym (attachments-items_of own.units.items own.chps own.attachments c.self.invariant.chps_long
    c.self.invariant.attachments_long)
    ∙ ap (map attached_of) c.self.view_is
