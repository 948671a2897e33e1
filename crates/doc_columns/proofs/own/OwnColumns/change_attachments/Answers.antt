-- The third column is changed.
use Rattle.std.proofs.Common.{List, subst, arith}
use Rattle.std.specs.List.{All}
use Rattle.doc_columns.specs.declared.attached.Attached.{Attached}
use Rattle.doc_columns.specs.Attached.{IsRanged}
use Rattle.doc_columns.proofs.ItemsOfLemmas.{text_long}
use Rattle.doc_columns.proofs.ChangesLemmas.{attachments_changed}
use Rattle.doc_columns.proofs.own.OwnColumns.change_attachments.Goals as goal

pub change-requires-clause-within : goal.change-requires-clause-within
change-requires-clause-within g c =
    let own = c.self.inside in
    let long = text_long own.units.items own.chps own.attachments c.args.self c.self.invariant c.self.view_is in
    omega (arith, long, c.self.invariant.attachments_long, c.requires.within)

pub invariant_of-result : goal.invariant_of-result
invariant_of-result g c =
    let own = c.self.inside in
    (attachments_changed (g.C.Change.becomes c.args.by.now) own.units.items own.chps own.attachments c.change.new.self
    c.args.self
    c.args.from c.args.to c.requires.kept c.self.invariant c.self.view_is c.requires.ordered c.requires.within
    c.in_ok-change.ensures.ok
    (subst (λ (attachments : List Attached). All IsRanged attachments) c.as_runs.ensures.runs c.are_ranged.ensures)).are

pub returns : goal.returns
returns g c =
    let own = c.self.inside in
    (attachments_changed (g.C.Change.becomes c.args.by.now) own.units.items own.chps own.attachments c.change.new.self
    c.args.self
    c.args.from c.args.to c.requires.kept c.self.invariant c.self.view_is c.requires.ordered c.requires.within
    c.in_ok-change.ensures.ok
    (subst (λ (attachments : List Attached). All IsRanged attachments) c.as_runs.ensures.runs
    c.are_ranged.ensures)).changed
