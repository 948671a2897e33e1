-- The lines of each paragraph.
use Rattle.std.proofs.Common.{◌≡◌, ◌∙◌, ◌++◌, sym, ap, subst, length, arith}
use Rattle.std.specs.Prelude.{slice_range}
use Rattle.doc_model.specs.Settings.{is_inside}
use Rattle.doc_columns.proofs.Public.{start_at, begins_at_start, items_long, first_walk}
use Rattle.doc_show.specs.Story.{paragraph_lines, story_lines}
use Rattle.doc_columns.specs.Walks.{items_in}
use Rattle.doc_show.proofs.WalkLemmas.{stretch_on, none_left}
use Rattle.doc_show.proofs.StoryLemmas.{begins_paragraph, paragraph-range, three_put}
use Rattle.doc_show.proofs.StoryLemmas.{whole_range}
use Rattle.doc_show.proofs.story.push_paragraphs.Goals as goal

pub loop-at-init : goal.loop-at-init
loop-at-init c =
    let parts = c.args.parts.now in
    record {
      walk = first_walk parts c.new-walk.result c.new-walk.ensures;
      marks = start_at parts.attachments.now c.new-marks.result c.new-marks.ensures;
      ahead = begins_at_start c.new-marks.result c.new-marks.ensures;
      within = omega arith;
      lines = ap (λ items. c.args.text.now ++ story_lines items) (whole_range parts c.requires);
    }

pub loop-at-preserved : goal.loop-at-preserved
loop-at-preserved c =
    let parts = c.args.parts.now in
    let at = c.loop-at.at in
    let end = c.paragraph_end-end.result in
    let found = c.paragraph_end-end.ensures in
    let last = c.seek-last.result.now in
    let behind = c.seek-last.ensures.ahead in
    let some = found.some in
    let paragraph = paragraph-range parts c.requires at end last some found.within c.seek-last.ensures.value in
    record {
      walk = c.in_ok-push_runs.ensures.walk;
      marks = c.seek-last.ensures.at;
      ahead = omega (arith, behind, some);
      within = found.within;
      lines =
          stretch_on is_inside paragraph_lines (items_in parts) at end (length parts.units.now) c.loop-at.text
          c.push_sect.new.text _ (omega (arith, some)) found.within (omega (arith, items_long parts c.requires))
          (begins_paragraph parts c.requires at end some found.within found.inside found.ends)
          (three_put c.loop-at.text c.push_mark.new.text c.push_runs.new.text c.push_sect.new.text _ _ _
          c.in_ok-push_mark.ensures c.in_ok-push_runs.ensures.lines c.in_ok-push_sect.ensures
          ∙ ap (λ t. c.loop-at.text ++ t) (sym paragraph))
          c.loop-at.invariant.lines;
    }

pub returns : goal.returns
returns c =
    let parts = c.args.parts.now in
    let items = items_in parts in
    let len = length parts.units.now in
    let all : c.loop-at.at ≡ len = omega (arith, c.loop-at.invariant.within, c.loop-at-test.false) in
    let whole = c.args.text.now ++ story_lines items in
    none_left is_inside paragraph_lines items len c.loop-at.text whole
    (subst (λ n. c.loop-at.text ++ story_lines (slice_range items n len) ≡ whole) all c.loop-at.invariant.lines)
