use Rattle.std.proofs.Common.{◌≡◌, ◌∙◌, ap, ◌+◌, length, take, arith}
use Rattle.std.specs.Prelude.{slice_range}
use Rattle.std.proofs.lemmas.List.{length-drop}
use Rattle.file_rules.specs.Source.{DocSource}
use Rattle.file_rules.proofs.PartLemmas.{range-front}
use Rattle.file_rules.proofs.source.Source.places.Goals as goal

pub skip-from-requires : goal.skip-from-requires
skip-from-requires c =
    let all = c.places-all.ensures ∙ ap (λ (s : DocSource). s.text.places) c.self.view_is in
    omega (arith, ap length all, c.story_begin.ensures.places)

pub front-requires : goal.front-requires
front-requires c =
    let all = c.places-all.ensures ∙ ap (λ (s : DocSource). s.text.places) c.self.view_is in
    let left = ap length c.skip-from.ensures ∙ length-drop c.story_begin.result c.places-all.result in
    omega (arith, left, ap length all, c.story_begin.ensures.places, c.story_len.ensures.count)

pub returns-clause-places : goal.returns-clause-places
returns-clause-places c =
    let source = c.args.self.now in
    let all : c.places-all.result ≡ source.text.places = c.places-all.ensures ∙ ap (λ (s : DocSource). s.text.places)
    c.self.view_is in
    let begin = c.story_begin.ensures.begin in
    let count = c.story_len.ensures.count in
    c.front.ensures ∙ (ap (take c.story_len.result) c.skip-from.ensures ∙ (range-front c.places-all.result
    c.story_begin.result c.story_len.result
    ∙ (λ i. slice_range (all i) (begin i) (begin i + count i))))
