-- There are as many items as units, and all are well formed.
use Rattle.std.proofs.Common.{◌≡◌, ap, length, subst, arith, rules}
use Rattle.std.specs.Vec.{vec_len}
use Rattle.doc_model.specs.Document.{IsFormedText}
use Rattle.doc_columns.proofs.ItemsOfLemmas.{length-items_of}
use Rattle.doc_columns.proofs.own.OwnColumns.len.Goals as goal

pub returns-clause-len : goal.returns-clause-len
returns-clause-len c =
    let own = c.self.inside in
    let all = length-items_of own.units.items own.chps own.attachments c.self.invariant.chps_long
    c.self.invariant.attachments_long in
    let len : vec_len own.units ≡ length own.units.items = search rules in
    omega (arith, ap length c.self.view_is, all, len, c.len.ensures)

pub returns-clause-formed : goal.returns-clause-formed
returns-clause-formed c = subst IsFormedText c.self.view_is c.self.invariant.formed
