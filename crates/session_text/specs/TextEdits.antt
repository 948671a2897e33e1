-- What the changes of a command leave of a session's text: it is the text of the changed document, and what is counted
-- of it has grown by no more than the changes say.
use Rattle.std.specs.Prelude.{◌≡◌, ℕ, ◌+◌, ◌≤◌, List, length, All, Option}
use Rattle.std.specs.List.{sum_by}
use Rattle.doc_model.specs.declared.document.Document.{Document}
use Rattle.doc_patch.specs.declared.changes.Change.{Change}
use Rattle.doc_patch.specs.Changes.{all_changed}
use Rattle.save_laws.specs.Places.{PagedStream}
use Rattle.session_text.specs.SessionText.{IsSessionText, HaveFitModifiers, HaveNoModifiers, HaveModifiersWithin}
use Rattle.session_text.specs.SessionText.{ArePlannedSections, unwritten_count}
use Rattle.session_text.specs.OldUnits.{OldUnitsAreBounded}
use Rattle.session_text.specs.EditSteps.{ActsOnNone, HasGrownByBlocks, pieces_added, growth_of, sections_put}
use Rattle.session_text.specs.declared.session_text.SessionText.{SessionText}

pub record IsTextEdit (document : Document) (changes : List Change) (old new : SessionText) : Type 0 where
  pub text :
      (stream : PagedStream) → IsSessionText stream document old →
      IsSessionText stream (all_changed changes document) new
  pub bounded :
      (stream : PagedStream) → OldUnitsAreBounded stream document old →
      OldUnitsAreBounded stream (all_changed changes document) new
  pub fit :
      (stream : PagedStream) → IsSessionText stream document old → HaveFitModifiers old.pieces.pieces →
      HaveFitModifiers new.pieces.pieces
  pub pieces : length new.pieces.pieces ≤ length old.pieces.pieces + sum_by pieces_added changes
  pub modified : All ActsOnNone changes → HaveNoModifiers old.pieces.pieces → HaveNoModifiers new.pieces.pieces
  pub printed :
      (most : ℕ) → HaveModifiersWithin most old.pieces.pieces →
      HaveModifiersWithin (most + sum_by growth_of changes) new.pieces.pieces
  pub added : HasGrownByBlocks document changes old.added.items new.added.items
  pub base : new.added.base ≡ old.added.base

-- the properties of the changed document's sections are in the stream or are still to be written
pub record IsSectionsEdit (document : Document) (changes : List Change) (old new : List (Option ℕ)) : Type 0 where
  pub planned :
      (wd : List ℕ) → ArePlannedSections wd old document → ArePlannedSections wd new (all_changed changes document)
  pub unwritten : unwritten_count new ≤ unwritten_count old + sum_by sections_put changes
