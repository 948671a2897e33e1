use Rattle.std.proofs.Common.{◌∙◌, ap, nat_lt, slice_index, length, arith}
use Rattle.text_codes.specs.Paragraph.{is_paragraph_end}
use Rattle.file_rules.specs.EndSearch.{IsStretchEnd, ends_at}
use Rattle.file_rules.proofs.EndLemmas.{met_behind, so_nowhere}
use Rattle.file_rules.proofs.StretchLemmas.{stretch_met}
use Rattle.file_rules.proofs.paragraph_ends.next_end.Goals as goal

pub returns-then-ends_paragraph-clause-first : goal.returns-then-ends_paragraph-clause-first
returns-then-ends_paragraph-clause-first c =
    let so_far = c.loop-cp.invariant in
    let end : IsStretchEnd c.args.ends.now.sections.now c.args.ends.now.main_len (length c.args.units.now)
    c.loop-cp.cp c.stretch_end-stop.result = rw (so_far.same, so_far.main) at c.stretch_end-stop.ensures.end in
    let flag = ap (λ m. is_paragraph_end (slice_index c.args.units.now c.min-at.result) (nat_lt c.loop-cp.cp m))
    so_far.main in
    let met = stretch_met c.args.units.now c.args.ends.now.sections.now c.args.ends.now.main_len c.args.from
    c.loop-cp.cp c.stretch_end-stop.result c.bare_len.result c.min-at.result c.ends_paragraph.result so_far.behind
    c.requires.main (omega arith) end (record {
      within = c.bare_len.ensures.within;
      bare = c.bare_len.ensures.bare;
      ends = c.bare_len.ensures.ends;
    }) so_far.none c.min-at.ensures (c.ends_paragraph.ensures ∙ flag) in
    met.first c.if-ends_paragraph.true

pub loop-cp-preserved : goal.loop-cp-preserved
loop-cp-preserved c =
    let so_far = c.loop-cp.invariant in
    let stop = c.stretch_end-stop.result in
    let end : IsStretchEnd c.args.ends.now.sections.now c.args.ends.now.main_len (length c.args.units.now)
    c.loop-cp.cp stop = rw (so_far.same, so_far.main) at c.stretch_end-stop.ensures.end in
    let flag = ap (λ m. is_paragraph_end (slice_index c.args.units.now c.min-at.result) (nat_lt c.loop-cp.cp m))
    so_far.main in
    let met = stretch_met c.args.units.now c.args.ends.now.sections.now c.args.ends.now.main_len c.args.from
    c.loop-cp.cp stop c.bare_len.result c.min-at.result c.ends_paragraph.result so_far.behind
    c.requires.main (omega arith) end (record {
      within = c.bare_len.ensures.within;
      bare = c.bare_len.ensures.bare;
      ends = c.bare_len.ensures.ends;
    }) so_far.none c.min-at.ensures (c.ends_paragraph.ensures ∙ flag) in
    record {
      behind = omega (arith, so_far.behind, c.stretch_end-stop.ensures.behind);
      within = c.stretch_end-stop.ensures.within;
      none = met.none c.if-ends_paragraph.false;
      met = met_behind _ _ c.loop-cp.cp stop c.stretch_end-stop.ensures.met
          (omega (arith, c.stretch_end-stop.ensures.behind));
      same = c.stretch_end-stop.ensures.sections ∙ so_far.same;
      main = c.stretch_end-stop.ensures.main ∙ so_far.main;
    }

pub returns-clause-first : goal.returns-clause-first
returns-clause-first c =
    let so_far = c.loop-cp.invariant in
    so_nowhere (ends_at c.args.units.now c.args.ends.now.sections.now c.args.ends.now.main_len) c.args.from
    (length c.args.units.now) (λ k above below. so_far.none k above (omega arith))
