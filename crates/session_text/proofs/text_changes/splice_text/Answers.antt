use Rattle.std.proofs.Common.{◌∙◌, ◌+◌, ap, sym, subst}
use Rattle.doc_model.specs.declared.document.Document.{Document}
use Rattle.doc_patch.specs.declared.changes.Change.TheVariants.{SpliceText}
use Rattle.doc_patch.specs.Changes.{changed}
use Rattle.session_text.specs.StoryMarks.{nth_text_begin}
use Rattle.session_text.specs.EditSteps.{KeepsNamed}
use Rattle.session_text.specs.TextSteps.{CanStep, IsTextStep}
use Rattle.session_text.proofs.TextChangeLemmas.{note_text_step, head_text_step}
use Rattle.session_text.proofs.text_changes.splice_text.Goals as goal

pub returns-in-Note-clause-step : goal.returns-in-Note-clause-step
returns-in-Note-clause-step c now are named =
    let document = c.args.document.now in
    let stories = c.args.stories in
    let from = c.args.range.0 in
    let to = c.args.range.1 in
    let fresh = c.args.fresh in
    let can = subst (λ s. CanStep document stories (SpliceText s from to fresh)) c.in-Note.is c.requires.can in
    let same = subst (λ s. KeepsNamed document now (SpliceText s from to fresh)) c.in-Note.is named in
    subst (λ s. IsTextStep now (changed (SpliceText s from to fresh) now) stories.ends c.note_step.result)
    (sym c.in-Note.is)
    (note_text_step document.notes now stories c.in-Note.number from to c.range_of-all.result.0 c.range_of-all.result.1
    fresh c.note_step.result (λ texts spliced. c.note_step.ensures.step now texts are spliced) same
    (c.range_of-all.ensures.from ∙ ap (λ (d : Document). nth_text_begin d.notes c.in-Note.number + from)
    c.document.view_is)
    (c.range_of-all.ensures.to ∙ ap (λ (d : Document). nth_text_begin d.notes c.in-Note.number + to) c.document.view_is)
    can.range)

pub returns-in-Head-clause-step : goal.returns-in-Head-clause-step
returns-in-Head-clause-step c now are named =
    let document = c.args.document.now in
    let stories = c.args.stories in
    let from = c.args.range.0 in
    let to = c.args.range.1 in
    let fresh = c.args.fresh in
    let can = subst (λ s. CanStep document stories (SpliceText s from to fresh)) c.in-Head.is c.requires.can in
    let same = subst (λ s. KeepsNamed document now (SpliceText s from to fresh)) c.in-Head.is named in
    let all = c.range_of-all-in-Head.ensures in
    subst (λ s. IsTextStep now (changed (SpliceText s from to fresh) now) stories.ends c.head_step.result)
    (sym c.in-Head.is)
    (head_text_step document.heads now stories c.in-Head.number from to c.range_of-all-in-Head.result.0
    c.range_of-all-in-Head.result.1
    fresh c.head_step.result (λ texts spliced. c.head_step.ensures.step now texts are spliced) same
    (all.from ∙ ap (λ (d : Document). nth_text_begin d.heads c.in-Head.number + from) c.document.view_is)
    (all.to ∙ ap (λ (d : Document). nth_text_begin d.heads c.in-Head.number + to) c.document.view_is) can.range)
