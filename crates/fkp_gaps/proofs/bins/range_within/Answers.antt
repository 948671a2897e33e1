use Rattle.std.proofs.Common.{◌≡◌, ◌+◌, ◌-◌, ◌*◌, ◌<◌, ◌≤◌, ◌^◌, ℕ, arith}
use Rattle.doc_bits.specs.Plc.{plc_cp}
use Rattle.doc_bits.proofs.Public.{number_at-bound}
use Rattle.fkp_pages.specs.Bin.{page_at}
use Rattle.fkp_gaps.specs.Gaps.{IsGapAnswer}
use Rattle.fkp_gaps.proofs.GapLemmas.{AnswersUpTo, gap_places, own_places}
use Rattle.fkp_gaps.proofs.bins.range_within.Goals as goal

pub next_stretch-requires-clause-cursor : goal.next_stretch-requires-clause-cursor
next_stretch-requires-clause-cursor c = c.start.ensures.cursor (page_at c.args.wd.now c.args.found.0.page)

pub returns-then-is_gap_answer-clause-range : goal.returns-then-is_gap_answer-clause-range
returns-then-is_gap_answer-clause-range c =
    let range = c.args.found.0 in
    let there = c.requires.there in
    let has = c.next_stretch.ensures.stretch in
    let stretch = c.next_stretch.result.stretch in
    let small = number_at-bound c.args.bin.now (4 * (there.entry + 1)) 4
    (λ i. omega (arith, c.type_inv.bin i)) in
    let from = has.around.from in
    let last = has.around.to in
    let answers : AnswersUpTo c.args.kind c.args.wd.now c.args.at (c.min-to.result + 1) range stretch.answer = record {
      within = omega (arith, c.min-to.ensures, there.to, there.holds.to);
      each = λ fc low high. has.answers fc (omega (arith, from, low)) (omega (arith, high, c.min-to.ensures));
    } in
    record {
      order = omega (arith, c.min-to.ensures, last, there.to, there.holds.to);
      end = omega (arith, c.min-to.ensures, there.to, there.holds.to, small);
      page = c.requires.number;
      right = gap_places c.args.kind c.args.bin.now c.args.wd.now c.args.found.1 c.args.at (c.min-to.result + 1) range
          stretch.answer there c.requires.pages answers (c.is_gap_answer.ensures.0 c.if-is_gap_answer.true);
    }

pub returns-clause-range : goal.returns-clause-range
returns-clause-range c =
    let range = c.args.found.0 in
    let there = c.requires.there in
    let has = c.next_stretch.ensures.stretch in
    let stretch = c.next_stretch.result.stretch in
    let small = number_at-bound c.args.bin.now (4 * (there.entry + 1)) 4
    (λ i. omega (arith, c.type_inv.bin i)) in
    let from = has.around.from in
    let last = has.around.to in
    let answers : AnswersUpTo c.args.kind c.args.wd.now c.args.at (c.min-to.result + 1) range stretch.answer = record {
      within = omega (arith, c.min-to.ensures, there.to, there.holds.to);
      each = λ fc low high. has.answers fc (omega (arith, from, low)) (omega (arith, high, c.min-to.ensures));
    } in
    record {
      order = omega (arith, c.min-to.ensures, last, there.to, there.holds.to);
      end = omega (arith, c.min-to.ensures, there.to, there.holds.to, small);
      page = omega (arith, there.page);
      right = own_places c.args.kind c.args.bin.now c.args.wd.now c.args.found.1 c.args.at (c.min-to.result + 1) range
          stretch.answer c.requires.table there answers
          (λ gap. absurd (cc (c.is_gap_answer.ensures.1 gap, c.if-is_gap_answer.false)));
    }
