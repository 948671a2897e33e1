-- The byte sink in memory as a value: what was written, its room, the calls that are to fail, its count,
-- and its memory.
use Rattle.std.specs.Prelude.{ℕ, ◌-◌, ◌==◌, ◌&&◌, not, Bool, false, List, [], ◌++◌, length, take, min, if◌then◌else◌}
use Rattle.doc_outer.specs.Counts.{raised}
use Rattle.doc_outer.specs.Plan.{FaultPlan, no_plan, after_call}

pub record ByteSink : Type 0 where
  -- the bytes that were taken
  pub written : List ℕ
  -- how many more bytes it can take
  pub room : ℕ
  -- which calls are to fail
  pub plan : FaultPlan
  -- nothing is taken any more
  pub stopped : Bool
  -- how often a call failed, or took nothing of a nonempty piece
  pub faults : ℕ
  -- how many bytes it has memory for
  pub capacity : ℕ

-- a sink that nothing was put into
abbrev pub empty_sink : ℕ → ℕ → ByteSink
empty_sink room capacity =
    record { written = []; room = room; plan = no_plan; stopped = false; faults = 0; capacity = capacity }

-- how many bytes of a piece of this length are taken
abbrev pub taken_count : ByteSink → ℕ → ℕ
taken_count sink len = if sink.stopped then 0 else min len sink.room

-- the count after so many bytes of a piece were taken: one more where nothing of a nonempty piece was
abbrev pub faults_taking : ℕ → ℕ → ℕ → ℕ
faults_taking count len faults = if (count == 0) && not (len == 0) then raised faults else faults

-- the sink after so many bytes of a piece were taken
abbrev pub sink_after : ByteSink → List ℕ → ℕ → ByteSink
sink_after sink bytes count = record {
  written = sink.written ++ take count bytes;
  room = sink.room - count;
  plan = after_call sink.plan;
  stopped = sink.stopped;
  faults = faults_taking count (length bytes) sink.faults;
  capacity = sink.capacity;
}

-- the sink after a failed call: nothing was taken
abbrev pub sink_failed : ByteSink → ByteSink
sink_failed sink = record {
  written = sink.written;
  room = sink.room;
  plan = after_call sink.plan;
  stopped = sink.stopped;
  faults = raised sink.faults;
  capacity = sink.capacity;
}
