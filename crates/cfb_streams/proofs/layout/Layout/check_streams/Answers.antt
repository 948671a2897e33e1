use Rattle.std.proofs.Common.{◌≡◌, ◌+◌, None, length, slice_index, sym, ◌∙◌, subst, arith}
use Rattle.doc_bits.specs.Rules.{Among, Nowhere, LeastOrNone, rule}
use Rattle.doc_bits.proofs.Public.{least_step}
use Rattle.cfb_streams.specs.StreamRules.{IsWrongStream, BreaksStream}
use Rattle.cfb_sectors.specs.Judged.{IsRuleFault}
use Rattle.cfb_sectors.specs.Judged.{IsCfbFault}
use Rattle.cfb_streams.proofs.ContentLemmas.{match_more}
use Rattle.cfb_streams.proofs.GatherLemmas.{streams_least}
use Rattle.cfb_sectors.proofs.Public.{refused_first, none_nowhere}
use Rattle.cfb_streams.proofs.layout.Layout.check_streams.Goals as goal

pub loop-i-preserved : goal.loop-i-preserved
loop-i-preserved c =
    let kept = c.in_ok-wrong.ensures.kept in
    let wrong = subst
    (λ e. LeastOrNone (IsWrongStream c.loop-i.self.file c.loop-i.self.parts.directory c.loop-i.self.parts.mini_fat e)
    c.in_ok-wrong.wrong) c.stream_entry.ensures c.in_ok-wrong.ensures.least in
    record {
      kept = kept ∙ c.loop-i.invariant.kept;
      least = subst
          (λ p. LeastOrNone (Among (c.loop-i.i + 1)
          (λ k. IsWrongStream p.file p.parts.directory p.parts.mini_fat (slice_index p.streams k)))
          c.lesser-least.result)
          (sym kept)
          (subst (LeastOrNone (Among (c.loop-i.i + 1)
          (λ k. IsWrongStream c.loop-i.self.file c.loop-i.self.parts.directory c.loop-i.self.parts.mini_fat
          (slice_index c.loop-i.self.streams k)))) (sym c.lesser-least.ensures)
          (least_step (λ k. IsWrongStream c.loop-i.self.file c.loop-i.self.parts.directory c.loop-i.self.parts.mini_fat
          (slice_index c.loop-i.self.streams k)) c.loop-i.i c.loop-i.least c.in_ok-wrong.wrong
          c.loop-i.invariant.least wrong));
    }

pub returns-clause-judged : goal.returns-clause-judged
returns-clause-judged c =
    let e : c.loop-i.i ≡ length c.args.self.now.streams = omega (arith, c.stream_count-i-end.ensures.len) in
    let breaks = BreaksStream c.args.self.now.file c.args.self.now.parts.directory c.args.self.now.parts.mini_fat in
    let least = streams_least c.args.self.now c.loop-i.i c.loop-i.least
    c.stream_count-i-end.ensures.is_layout.are_entries.in_order e
    (subst (λ q. LeastOrNone (Among c.loop-i.i
    (λ k. IsWrongStream q.file q.parts.directory q.parts.mini_fat (slice_index q.streams k))) c.loop-i.least)
    c.loop-i.invariant.kept c.loop-i.invariant.least) in
    match_more c.refuse.result (λ x. c.loop-i.least ≡ None) (λ x. Nowhere breaks) (IsRuleFault 13 c.loop-i.least)
    (IsCfbFault (rule 13 breaks))
    (λ x none. none_nowhere breaks c.loop-i.least least none)
    (λ fault refused. refused_first 13 breaks c.loop-i.least fault least refused)
    c.refuse.ensures
