use Rattle.std.proofs.Common.{◌<◌, ◌≤◌, arith}
use Rattle.doc_bits.specs.Number.{AreBytes}
use Rattle.doc_fit.proofs.NotedLemmas.{lacks_one}
use Rattle.doc_fit.proofs.noting.open_stories.Goals as goal

pub returns-then-lacks_story : goal.returns-then-lacks_story
returns-then-lacks_story c =
    let file = c.args.file.now in
    let bytes : AreBytes file = λ i. omega (arith, c.type_inv.file i) in
    lacks_one c.args.stories file c.args.lifted.now bytes c.requires (c.lacks_story.ensures c.if-lacks_story.true)
