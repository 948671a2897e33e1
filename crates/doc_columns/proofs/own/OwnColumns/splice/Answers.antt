-- Each column is spliced.
use Rattle.std.proofs.Common.{arith}
use Rattle.doc_columns.proofs.ItemsOfLemmas.{text_long, spliced_columns, spliced_are}
use Rattle.doc_columns.proofs.own.OwnColumns.splice.Goals as goal

pub splice_list-requires-clause-within : goal.splice_list-requires-clause-within
splice_list-requires-clause-within c =
    let own = c.self.inside in
    let long = text_long own.units.items own.chps own.attachments c.args.self c.self.invariant c.self.view_is in
    omega (arith, long, c.requires.within)

pub splice-requires-clause-within : goal.splice-requires-clause-within
splice-requires-clause-within c =
    let own = c.self.inside in
    let long = text_long own.units.items own.chps own.attachments c.args.self c.self.invariant c.self.view_is in
    omega (arith, long, c.self.invariant.chps_long, c.requires.within)

pub splice-requires-clause-few : goal.splice-requires-clause-few
splice-requires-clause-few c =
    let own = c.self.inside in
    let more = c.fresh.inside in
    let long = text_long own.units.items own.chps own.attachments c.args.self c.self.invariant c.self.view_is in
    let fresh = text_long more.units.items more.chps more.attachments c.args.fresh c.fresh.invariant c.fresh.view_is in
    omega (arith, long, fresh, c.self.invariant.chps_long, c.fresh.invariant.chps_long, c.requires.few)

pub splice-requires-2-clause-within : goal.splice-requires-2-clause-within
splice-requires-2-clause-within c =
    let own = c.self.inside in
    let long = text_long own.units.items own.chps own.attachments c.args.self c.self.invariant c.self.view_is in
    omega (arith, long, c.self.invariant.attachments_long, c.requires.within)

pub splice-requires-2-clause-few : goal.splice-requires-2-clause-few
splice-requires-2-clause-few c =
    let own = c.self.inside in
    let more = c.fresh.inside in
    let long = text_long own.units.items own.chps own.attachments c.args.self c.self.invariant c.self.view_is in
    let fresh = text_long more.units.items more.chps more.attachments c.args.fresh c.fresh.invariant c.fresh.view_is in
    omega (arith, long, fresh, c.self.invariant.attachments_long, c.fresh.invariant.attachments_long, c.requires.few)

pub invariant_of-result : goal.invariant_of-result
invariant_of-result c =
    let own = c.self.inside in
    let more = c.fresh.inside in
    let long = text_long own.units.items own.chps own.attachments c.args.self c.self.invariant c.self.view_is in
    let fresh = text_long more.units.items more.chps more.attachments c.args.fresh c.fresh.invariant c.fresh.view_is in
    spliced_are own.units.items own.chps own.attachments more.units.items more.chps more.attachments
    c.splice_list.new.list.items
    c.splice.new.self c.splice-2.new.self c.args.from c.args.to c.self.invariant c.fresh.invariant
    c.in_ok-splice_list.ensures.ok c.in_ok-splice.ensures.ok c.in_ok-splice-2.ensures.ok c.requires.ordered
    (omega (arith, long, c.requires.within)) (omega (arith, long, fresh, c.requires.few))

pub returns : goal.returns
returns c =
    let own = c.self.inside in
    let more = c.fresh.inside in
    let long = text_long own.units.items own.chps own.attachments c.args.self c.self.invariant c.self.view_is in
    spliced_columns own.units.items own.chps own.attachments more.units.items more.chps more.attachments
    c.splice_list.new.list.items c.splice.new.self c.splice-2.new.self c.args.self c.args.fresh c.args.from c.args.to
    c.self.invariant c.fresh.invariant c.self.view_is c.fresh.view_is c.in_ok-splice_list.ensures.ok
    c.in_ok-splice.ensures.ok c.in_ok-splice-2.ensures.ok c.requires.ordered (omega (arith, long, c.requires.within))
