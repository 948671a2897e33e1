use Rattle.std.proofs.Common.{◌≡◌, slice_index}
use Rattle.doc_bits.specs.Rules.{Among, LeastOrNone}
use Rattle.cfb_streams.specs.StreamRules.{IsWrongStream}
use Rattle.cfb_streams.proofs.layout.Layout.check_streams.Given as goal

abbrev pub invariant-loop-i : goal.invariant-loop-i
invariant-loop-i l = record {
  kept : l.self ≡ l.fn.self;
  least : LeastOrNone
      (Among l.i (λ k. IsWrongStream l.self.file l.self.parts.directory l.self.parts.mini_fat
      (slice_index l.self.streams k))) l.least;
}
