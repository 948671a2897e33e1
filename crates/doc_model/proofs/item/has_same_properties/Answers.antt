use Rattle.std.proofs.lemmas.Bool.Decides.{same_from_decides}
use Rattle.doc_model.specs.Settings.{same_properties}
use Rattle.doc_model.proofs.SettingsLemmas.{same_properties-Decides}
use Rattle.doc_model.proofs.item.has_same_properties.Goals as goal

pub returns : goal.returns
returns c =
    same_from_decides c.equal.result (same_properties c.args.one.now c.args.other.now) c.equal.ensures
    (same_properties-Decides c.args.one.now c.args.other.now)
