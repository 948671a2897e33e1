use Rattle.std.proofs.Common.{◌∙◌, ◌+◌, ap, subst, refl, length, arith}
use Rattle.piece_table.specs.Piece.{flat_pieces, total_length}
use Rattle.piece_table.specs.Changes.{AreModified}
use Rattle.save_laws.specs.Ends.{ends_of}
use Rattle.session_text.specs.SessionChanges.{text_begin}
use Rattle.session_text.proofs.GrowLemmas.{sound_few}
use Rattle.session_text.proofs.ModifyLemmas.{acted_range}
use Rattle.session_text.proofs.EditLemmas.{act_edit}
use Rattle.session_text.proofs.session_text.SessionText.act.Goals as goal

pub of-stories-requires-clause-notes : goal.of-stories-requires-clause-notes
of-stories-requires-clause-notes c = omega (arith, sound_few c.args.document.now c.requires.sound)

pub of-stories-requires-clause-heads : goal.of-stories-requires-clause-heads
of-stories-requires-clause-heads c = omega (arith, sound_few c.args.document.now c.requires.sound)

pub range_in_whole-all-requires-clause-few : goal.range_in_whole-all-requires-clause-few
range_in_whole-all-requires-clause-few c =
    let are = c.of-stories.ensures.stories in
    omega (arith, sound_few c.args.document.now c.requires.sound, are.main, are.notes, are.heads)

pub modify-requires-clause-within : goal.modify-requires-clause-within
modify-requires-clause-within c =
    let document = c.args.document.now in
    let story = c.args.story in
    let acts = c.requires.acts in
    let ends = c.args.self.now.ends in
    let range =
    acted_range document (ends_of ends) story c.args.range.0 c.args.range.1 c.args.by.now acts.text acts.there
    acts.range.0 acts.range.1 in
    let last =
    c.range_in_whole-all.ensures.to
    ∙ ap (λ e. text_begin document (ends_of e) story + c.args.range.1) c.of-stories.ensures.ends in
    omega (arith, range.within, last, c.requires.count, ap total_length c.reserve.ensures.pieces)

pub returns-clause-text : goal.returns-clause-text
returns-clause-text c =
    let document = c.args.document.now in
    let story = c.args.story in
    let by = c.args.by.now in
    let first = c.range_in_whole-all.result.0 in
    let last = c.range_in_whole-all.result.1 in
    let modified =
    subst (λ p. AreModified by first last (flat_pieces p) (flat_pieces c.modify.new.self.pieces))
    c.reserve.ensures.pieces c.in_ok-modify.ensures.text in
    act_edit document story c.args.range.0 c.args.range.1 first last by c.args.self.now _ c.requires.acts
    (c.range_in_whole-all.ensures.from
    ∙ ap (λ e. text_begin document (ends_of e) story + c.args.range.0) c.of-stories.ensures.ends)
    (c.range_in_whole-all.ensures.to
    ∙ ap (λ e. text_begin document (ends_of e) story + c.args.range.1) c.of-stories.ensures.ends) modified
    (omega (arith, c.in_ok-modify.ensures.count, ap length c.reserve.ensures.pieces)) refl refl
