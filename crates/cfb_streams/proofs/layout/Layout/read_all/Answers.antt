use Rattle.std.proofs.Common.{◌≡◌, ◌+◌, ◌<◌, length, MatchOption, sym, subst, arith}
use Rattle.doc_bits.specs.Rules.{Nowhere}
use Rattle.cfb_streams.specs.StreamRules.{IsWrongStream}
use Rattle.cfb_streams.specs.Container.{IsStreamOf, AreStreamsOf}
use Rattle.cfb_streams.specs.Gathered.{TakesStream, AreUnshared, IsTakenFront}
use Rattle.cfb_streams.proofs.ContentLemmas.{streams_none}
use Rattle.cfb_streams.proofs.GatherLemmas.{stream_right, taken_step, read_step}
use Rattle.cfb_streams.proofs.layout.Layout.read_all.Goals as goal

pub loop-i-init : goal.loop-i-init
loop-i-init c = record {
  front = c.requires.front;
  read = λ un. streams_none c.args.self.now.file c.args.self.now.parts c.args.self.now.streams
      c.new-streams.result.items c.new-streams.ensures.items;
}

pub read_stream-requires-clause-is_whole : goal.read_stream-requires-clause-is_whole
read_stream-requires-clause-is_whole c =
    let low : c.loop-i.i < length c.args.self.now.streams = omega (arith, c.stream_count-i-end.ensures.len) in
    subst (λ e. Nowhere (IsWrongStream c.args.self.now.file c.args.self.now.parts.directory
    c.args.self.now.parts.mini_fat e)) (sym c.stream_entry.ensures)
    (stream_right c.args.self.now c.loop-i.i c.stream_count-i-end.ensures.is_layout.are_entries.in_order low
    c.requires.is_whole)

pub loop-i-preserved : goal.loop-i-preserved
loop-i-preserved c =
    let low : c.loop-i.i < length c.args.self.now.streams = omega (arith, c.stream_count-i-end.ensures.len) in
    let takes = subst (λ e. TakesStream c.args.self.now e c.loop-i.taken c.read_stream.new.taken)
    c.stream_entry.ensures c.in_ok-stream.ensures.takes in
    let stream = subst
    (λ e. MatchOption c.in_ok-stream.stream (¬ AreUnshared c.read_stream.new.taken)
    (IsStreamOf c.args.self.now.file c.args.self.now.parts e)) c.stream_entry.ensures
    c.in_ok-stream.ensures.stream in
    record {
      front = taken_step c.args.self.now c.loop-i.i c.loop-i.taken c.read_stream.new.taken
          c.stream_count-i-end.ensures.is_layout.are_entries.in_order low c.loop-i.invariant.front takes
          c.in_ok-stream.ensures.marks;
      read = λ un.
          subst (AreStreamsOf c.args.self.now.file c.args.self.now.parts c.args.self.now.streams (c.loop-i.i + 1))
          (sym c.in_ok-push_some.ensures)
          (read_step c.args.self.now c.loop-i.i c.loop-i.taken c.read_stream.new.taken c.loop-i.streams.items
          c.in_ok-stream.stream c.loop-i.invariant.read takes stream un);
    }

pub returns-clause-streams : goal.returns-clause-streams
returns-clause-streams c = λ un.
    let e : c.loop-i.i ≡ length c.args.self.now.streams = omega (arith, c.stream_count-i-end.ensures.len) in
    subst
    (λ n. AreStreamsOf c.args.self.now.file c.args.self.now.parts c.args.self.now.streams n c.loop-i.streams.items) e
    (c.loop-i.invariant.read un)

pub returns-clause-all : goal.returns-clause-all
returns-clause-all c =
    let e : c.loop-i.i ≡ length c.args.self.now.streams = omega (arith, c.stream_count-i-end.ensures.len) in
    subst (λ n. IsTakenFront c.args.self.now n c.loop-i.taken) e c.loop-i.invariant.front
