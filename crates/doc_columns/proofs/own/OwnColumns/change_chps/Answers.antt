-- The second column is changed.
use Rattle.std.proofs.Common.{arith}
use Rattle.doc_columns.proofs.ItemsOfLemmas.{text_long}
use Rattle.doc_columns.proofs.ChangesLemmas.{chps_changed}
use Rattle.doc_columns.proofs.own.OwnColumns.change_chps.Goals as goal

pub change-requires-clause-within : goal.change-requires-clause-within
change-requires-clause-within g c =
    let own = c.self.inside in
    let long = text_long own.units.items own.chps own.attachments c.args.self c.self.invariant c.self.view_is in
    omega (arith, long, c.self.invariant.chps_long, c.requires.within)

pub invariant_of-result : goal.invariant_of-result
invariant_of-result g c =
    let own = c.self.inside in
    (chps_changed (g.C.Change.becomes c.args.by.now) own.units.items own.chps c.change.new.self own.attachments
    c.args.self
    c.args.from c.args.to c.requires.kept c.self.invariant c.self.view_is c.requires.ordered c.requires.within
    c.in_ok-change.ensures.ok).are

pub returns : goal.returns
returns g c =
    let own = c.self.inside in
    (chps_changed (g.C.Change.becomes c.args.by.now) own.units.items own.chps c.change.new.self own.attachments
    c.args.self
    c.args.from c.args.to c.requires.kept c.self.invariant c.self.view_is c.requires.ordered c.requires.within
    c.in_ok-change.ensures.ok).changed
