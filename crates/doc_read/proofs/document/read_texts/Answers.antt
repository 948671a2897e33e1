-- The texts are cut with the bounds of their stories.
use Rattle.std.proofs.Common.{◌≡◌, ◌∙◌, refl, ap, ◌-◌, take, arith}
use Rattle.doc_read.proofs.SliceLemmas.{cut_as, cut_same, within_as, within_same}
use Rattle.doc_read.proofs.document.read_texts.Goals as goal

pub cut-requires-clause-within : goal.cut-requires-clause-within
cut-requires-clause-within c = omega (arith, c.requires.main_within, c.story_len.ensures.value)

pub cut_columns-requires-clause-cuts : goal.cut_columns-requires-clause-cuts
cut_columns-requires-clause-cuts c =
    within_as _ _ _ _ _ c.story_begin.ensures.value refl
    (within_same c.cut.new.self c.args.whole.now _ _ c.cut.ensures.same c.requires.notes_within)

pub cut_columns-requires-clause-few : goal.cut_columns-requires-clause-few
cut_columns-requires-clause-few c = omega (arith, c.requires.few_notes, c.len.ensures)

pub cut_columns-requires-2-clause-cuts : goal.cut_columns-requires-2-clause-cuts
cut_columns-requires-2-clause-cuts c =
    within_as _ _ _ _ _ c.story_begin-2.ensures.value refl
    (within_same c.cut_columns.new.whole c.args.whole.now _ _ (c.cut_columns.ensures.same ∙ c.cut.ensures.same)
    c.requires.heads_within)

pub cut_columns-requires-2-clause-few : goal.cut_columns-requires-2-clause-few
cut_columns-requires-2-clause-few c = c.requires.few_heads

pub returns : goal.returns
returns c =
    let all = c.args.whole.now in
    let less : c.story_len.result - 0 ≡ c.story_len.result = omega arith in
    record {
      main_is =
          c.in_ok-main.ensures.cut
          ∙ ap (λ n. take n all) less
          ∙ ap (λ n. take n all) c.story_len.ensures.value;
      notes_are =
          cut_same c.cut.new.self all _ _ _ c.in_ok-notes.notes c.cut.ensures.same
          (cut_as c.cut.new.self _ _ _ _ _ _ c.in_ok-notes.notes c.story_begin.ensures.value refl
          (c.saturating_sub.ensures ∙ ap (λ n. n - 1) c.len.ensures) c.in_ok-notes.ensures.texts);
      heads_are =
          cut_same c.cut_columns.new.whole all _ _ _ c.in_ok-heads.heads
          (c.cut_columns.ensures.same ∙ c.cut.ensures.same)
          (cut_as c.cut_columns.new.whole _ _ _ _ _ _ c.in_ok-heads.heads c.story_begin-2.ensures.value refl refl
          c.in_ok-heads.ensures.texts);
    }
