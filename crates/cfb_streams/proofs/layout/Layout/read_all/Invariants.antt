use Rattle.cfb_streams.specs.Container.{AreStreamsOf}
use Rattle.cfb_streams.specs.Gathered.{AreUnshared, IsTakenFront}
use Rattle.cfb_streams.proofs.layout.Layout.read_all.Given as goal

abbrev pub invariant-loop-i : goal.invariant-loop-i
invariant-loop-i l = record {
  front : IsTakenFront l.self l.i l.taken;
  read : AreUnshared l.taken → AreStreamsOf l.self.file l.self.parts l.self.streams l.i l.streams.items;
}
