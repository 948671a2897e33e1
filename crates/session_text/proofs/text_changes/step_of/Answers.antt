use Rattle.std.proofs.Common.{◌∙◌, ap}
use Rattle.doc_model.specs.declared.document.Document.{Document}
use Rattle.session_text.specs.StoryMarks.{nth_text_begin}
use Rattle.session_text.proofs.TextChangeLemmas.{notes_change, heads_change, section_change, characters_change}
use Rattle.session_text.proofs.TextChangeLemmas.{paragraphs_change, bookmarks_change}
use Rattle.session_text.proofs.text_changes.step_of.Goals as goal

pub returns-in_ok-items-in-SpliceNotes-clause-step : goal.returns-in_ok-items-in-SpliceNotes-clause-step
returns-in_ok-items-in-SpliceNotes-clause-step c now are named =
    let number = c.in-SpliceNotes in
    let range = c.range_of_texts-range.ensures in
    notes_change c.args.document.now now c.args.stories c.args.change.now _ _ _ _ _ _ _ c.in-SpliceNotes.is
    c.requires.can named c.in_ok-items-in-SpliceNotes.ensures
    (range.from ∙ ap (λ (d : Document). nth_text_begin d.notes number.from) c.document.view_is)
    (range.to ∙ ap (λ (d : Document). nth_text_begin d.notes number.to) c.document.view_is)
    (λ notes spliced. c.note_step.ensures.step now notes are spliced)

pub returns-in_ok-items-in-SpliceHeads-clause-step : goal.returns-in_ok-items-in-SpliceHeads-clause-step
returns-in_ok-items-in-SpliceHeads-clause-step c now are named =
    let number = c.in-SpliceHeads in
    let range = c.range_of_texts-range-in-SpliceHeads.ensures in
    heads_change c.args.document.now now c.args.stories c.args.change.now _ _ _ _ _ _ _ c.in-SpliceHeads.is
    c.requires.can named c.in_ok-items-in-SpliceHeads.ensures
    (range.from ∙ ap (λ (d : Document). nth_text_begin d.heads number.from) c.document.view_is)
    (range.to ∙ ap (λ (d : Document). nth_text_begin d.heads number.to) c.document.view_is)
    (λ heads spliced. c.head_step.ensures.step now heads are spliced)

pub returns-in-SetSection-clause-step : goal.returns-in-SetSection-clause-step
returns-in-SetSection-clause-step c now are named =
    section_change now c.args.stories c.args.change.now _ _ _ c.in-SetSection.is are
    c.no_step-in-SetSection.ensures.step

pub returns-in-SetStyleCharacters-clause-step : goal.returns-in-SetStyleCharacters-clause-step
returns-in-SetStyleCharacters-clause-step c now are named =
    characters_change now c.args.stories c.args.change.now _ _ _ c.in-SetStyleCharacters.is are
    c.no_step-in-SetStyleCharacters.ensures.step

pub returns-in-SetStyleParagraphs-clause-step : goal.returns-in-SetStyleParagraphs-clause-step
returns-in-SetStyleParagraphs-clause-step c now are named =
    paragraphs_change now c.args.stories c.args.change.now _ _ _ c.in-SetStyleParagraphs.is are
    c.no_step-in-SetStyleParagraphs.ensures.step

pub returns-in-SetBookmarks-clause-step : goal.returns-in-SetBookmarks-clause-step
returns-in-SetBookmarks-clause-step c now are named =
    bookmarks_change now c.args.stories c.args.change.now _ _ c.in-SetBookmarks.is are
    c.no_step-in-SetBookmarks.ensures.step
