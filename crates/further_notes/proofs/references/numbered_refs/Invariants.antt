use Rattle.std.proofs.Common.{◌≡◌, map}
use Rattle.doc_bits.specs.Plc.{plc_cp}
use Rattle.doc_parts.specs.Tabulated.{tabulate}
use Rattle.further_notes.specs.NoteFiles.{numbered_ref}
use Rattle.further_notes.proofs.references.numbered_refs.Given as goal

-- the references so far
abbrev pub invariant-loop-k : goal.invariant-loop-k
invariant-loop-k l = l.refs ≡ map numbered_ref (tabulate (plc_cp l.plc) l.k)
