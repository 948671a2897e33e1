use Rattle.std.proofs.Common.{◌≡◌, map, take}
use Rattle.further_notes.specs.Sources.{origin_by}
use Rattle.further_notes.proofs.origins.note_origins.Given as goal

-- those so far
abbrev pub invariant-loop-note : goal.invariant-loop-note
invariant-loop-note l = l.list.items ≡ map (origin_by l.story l.origins) (take l.note l.sources)
