-- A line for each run of the paragraph.
use Rattle.std.proofs.Common.{◌≡◌, ◌∙◌, ◌++◌, sym, ap, subst, arith}
use Rattle.std.specs.Prelude.{slice_range}
use Rattle.std.specs.List.{flat_map}
use Rattle.doc_model.specs.Stretches.{stretches}
use Rattle.doc_show.specs.Story.{is_one_run, run_line}
use Rattle.doc_columns.specs.Walks.{items_in}
use Rattle.doc_columns.proofs.Public.{begins_range, items_long}
use Rattle.doc_show.proofs.WalkLemmas.{stretch_on, none_left}
use Rattle.doc_show.proofs.StoryLemmas.{run_line-range}
use Rattle.doc_show.proofs.story.push_runs.Goals as goal

pub loop-at-preserved : goal.loop-at-preserved
loop-at-preserved c =
    let parts = c.args.parts.now in
    let items = items_in parts in
    let at = c.loop-at.at in
    let until = c.run_end-until.result in
    let first = c.alike_from-first in
    let run = c.run_end-until.ensures in
    let inside = c.requires.within in
    let long = items_long parts c.requires.parts in
    let line =
    run_line-range parts c.requires.parts at until first.result.end first.result.chp.now first.result.attached.now
    run.some (omega (arith, run.within, inside)) first.ensures.some first.ensures.chps first.ensures.attachments in
    record {
      walk = run.walk;
      within = run.within;
      lines =
          stretch_on is_one_run run_line items at until c.args.end c.loop-at.text c.push_run.new.text _
          (omega (arith, run.some)) run.within (omega (arith, long, inside))
          (begins_range is_one_run items at until c.args.end run.some run.within (omega (arith, long, inside))
          run.joined run.ends)
          (c.in_ok-push_run.ensures ∙ ap (λ t. c.loop-at.text ++ t) (sym line)) c.loop-at.invariant.lines;
    }

pub returns-clause-lines : goal.returns-clause-lines
returns-clause-lines c =
    let items = items_in c.args.parts.now in
    let end : c.loop-at.at ≡ c.args.end = omega (arith, c.loop-at.invariant.within, c.loop-at-test.false) in
    let whole =
    c.args.text.now ++ flat_map run_line (stretches is_one_run (slice_range items c.args.from c.args.end)) in
    none_left is_one_run run_line items c.args.end c.loop-at.text whole
    (subst
    (λ n. c.loop-at.text ++ flat_map run_line (stretches is_one_run (slice_range items n c.args.end)) ≡ whole)
    end c.loop-at.invariant.lines)
