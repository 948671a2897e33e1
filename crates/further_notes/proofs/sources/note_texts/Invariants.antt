use Rattle.std.proofs.Common.{◌≡◌, map, take}
use Rattle.further_notes.specs.Sources.{source_text}
use Rattle.further_notes.proofs.sources.note_texts.Given as goal

-- the texts so far
abbrev pub invariant-loop-note : goal.invariant-loop-note
invariant-loop-note l = l.texts ≡ map (source_text l.form l.own l.others) (take l.note l.sources)
