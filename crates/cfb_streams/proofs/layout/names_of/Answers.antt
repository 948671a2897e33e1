use Rattle.std.proofs.Common.{◌≡◌, ◌+◌, length, slice_index, sym, ◌∙◌, subst, arith}
use Rattle.cfb_directory.specs.Directory.{IsEntryName}
use Rattle.cfb_directory.specs.Reach.{entry_place}
use Rattle.cfb_streams.specs.Container.{AreNamesOf}
use Rattle.cfb_streams.proofs.ContentLemmas.{names_push, names_none}
use Rattle.cfb_streams.proofs.layout.names_of.Goals as goal

pub loop-entry-init : goal.loop-entry-init
loop-entry-init c =
    names_none c.args.entries.now.file c.args.entries.now.directory c.args.listed.now c.new-names.result.items
    c.new-names.ensures.items

pub name-requires : goal.name-requires
name-requires c = (c.requires.sound c.loop-entry.entry-index c.loop-entry-test.true).reached

pub loop-entry-preserved : goal.loop-entry-preserved
loop-entry-preserved c =
    let file = c.args.entries.now.file in
    let directory = c.args.entries.now.directory in
    let listed = c.args.listed.now in
    let i = c.loop-entry.entry-index in
    let same = c.in_ok-units.ensures ∙ c.deref.ensures.value in
    subst (AreNamesOf file directory listed (i + 1)) (sym c.in_ok-push.ensures.items)
    (names_push file directory listed i c.loop-entry.names.items c.in_ok-units.units c.loop-entry.invariant
    (subst (IsEntryName file (entry_place directory (slice_index listed i))) (sym same) c.in_ok-name.ensures))

pub returns : goal.returns
returns c =
    let e : c.loop-entry.entry-index ≡ length c.args.listed.now = omega arith in
    subst (λ n. AreNamesOf c.args.entries.now.file c.args.entries.now.directory c.args.listed.now n
    c.loop-entry.names.items) e c.loop-entry.invariant
