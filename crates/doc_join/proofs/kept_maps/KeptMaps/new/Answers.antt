use Rattle.std.proofs.Common.{◌∙◌, sym, ap}
use Rattle.doc_join.specs.Settings.{renumbered_chp}
use Rattle.doc_join.proofs.SettingLemmas.{renumbered-empty}
use Rattle.doc_join.proofs.kept_maps.KeptMaps.new.Goals as goal

pub invariant_of-result : goal.invariant_of-result
invariant_of-result c = record {
  few = c.requires;
  same = c.new-2.ensures
      ∙ (renumbered-empty c.args.numbers ∙ ap (renumbered_chp c.args.numbers) (sym c.new.ensures));
}
