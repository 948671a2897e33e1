use Rattle.std.proofs.Common.{◌≡◌, ◌<◌, ◌≤◌, ℕ, false}
use Rattle.std.specs.Prelude.{◌&&◌, is_some}
use Rattle.further_notes.specs.Sources.{note_kind_at, notes_before}
use Rattle.further_notes.proofs.splicing.have_references.Given as goal

-- the references so far, and no item refers to both
abbrev pub invariant-loop-at : goal.invariant-loop-at
invariant-loop-at l = record {
  found : l.found ≡ notes_before l.others l.at;
  few : l.found ≤ l.at;
  apart : (i : ℕ) → i < l.at → (is_some (note_kind_at l.own i) && is_some (note_kind_at l.others i)) ≡ false;
}
