use Rattle.std.proofs.Common.{take, arith}
use Rattle.doc_patch.specs.Changes.{all_changed}
use Rattle.session_text.proofs.GrowLemmas.{sound_few, sound_count, nothing_grown, have_grown, step_fits}
use Rattle.session_text.proofs.GrowLemmas.{step_here, step_room, grown_more}
use Rattle.session_text.proofs.TextChangeLemmas.{can_step}
use Rattle.session_text.proofs.blocks.Blocks.put.Goals as goal

pub of-stories-requires-clause-notes : goal.of-stories-requires-clause-notes
of-stories-requires-clause-notes c = omega (arith, sound_few c.args.document.now c.requires.sound)

pub of-stories-requires-clause-heads : goal.of-stories-requires-clause-heads
of-stories-requires-clause-heads c = omega (arith, sound_few c.args.document.now c.requires.sound)

pub loop-k-init : goal.loop-k-init
loop-k-init c =
    nothing_grown c.args.document.now c.args.ends c.args.changes.now c.args.self.now.added _ _
    c.of-stories.ensures.stories c.of-stories.ensures.ends (sound_count c.args.document.now c.requires.sound)
    c.requires.steps c.requires.none

pub step_of-requires-clause-can : goal.step_of-requires-clause-can
step_of-requires-clause-can c =
    let document = c.args.document.now in
    let changes = c.args.changes.now in
    let now = all_changed (take c.loop-k.k changes) document in
    can_step document now c.loop-k.stories c.get.result.now c.loop-k.invariant.stories_are
    (step_here document now changes c.loop-k.k c.get.result.now c.loop-k.invariant.steps c.get.ensures).0

pub step_of-requires-clause-few : goal.step_of-requires-clause-few
step_of-requires-clause-few c =
    let fits =
    step_fits c.args.document.now c.args.ends c.args.changes.now c.args.self.now.added c.loop-k.k c.loop-k.self.added
    c.loop-k.stories c.loop-k.self.splices.items c.get.result.now c.loop-k.invariant c.get.ensures in
    let items = fits.items_few in
    let stories = fits.stories_few in
    omega (arith, items, stories)

pub append-requires : goal.append-requires
append-requires c = record {
  few =
      step_room c.args.document.now c.args.ends c.args.changes.now c.args.self.now.added c.loop-k.k c.loop-k.self.added
      c.loop-k.stories c.loop-k.self.splices.items c.get.result.now c.in_ok-step.step c.loop-k.invariant c.get.ensures
      c.in_ok-step.ensures.step c.in_ok-step.ensures.items (omega (arith, c.len-k-end.ensures, c.requires.few))
      c.requires.room;
}

pub loop-k-preserved : goal.loop-k-preserved
loop-k-preserved c =
    let room =
    step_room c.args.document.now c.args.ends c.args.changes.now c.args.self.now.added c.loop-k.k c.loop-k.self.added
    c.loop-k.stories c.loop-k.self.splices.items c.get.result.now c.in_ok-step.step c.loop-k.invariant c.get.ensures
    c.in_ok-step.ensures.step c.in_ok-step.ensures.items (omega (arith, c.len-k-end.ensures, c.requires.few))
    c.requires.room in
    grown_more c.args.document.now c.args.ends c.args.changes.now c.args.self.now.added c.loop-k.self.added
    c.append.new.self c.loop-k.k c.loop-k.stories c.loop-k.self.splices.items _ c.get.result.now c.in_ok-step.step
    c.in_ok-block.block c.loop-k.invariant c.get.ensures c.in_ok-step.ensures.step c.in_ok-step.ensures.items
    c.in_ok-block.ensures.piece c.in_ok-block.ensures.items c.append.ensures.base room c.in_ok-push.ensures.items

pub returns-clause-puts : goal.returns-clause-puts
returns-clause-puts c =
    have_grown c.args.document.now c.args.ends c.args.changes.now c.args.self.now.added c.loop-k.k c.loop-k.self.added
    c.loop-k.stories c.loop-k.self.splices.items c.loop-k.invariant (omega (arith, c.len-k-end.ensures))

pub returns-clause-base : goal.returns-clause-base
returns-clause-base c = c.loop-k.invariant.base
