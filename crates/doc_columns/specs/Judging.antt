-- How the texts of a document by columns are checked.
use Rattle.std.specs.Prelude.{◌≡◌, ℕ, ◌+◌, ◌<◌, ◌≤◌, List, length, map, All, Some, slice_get}
use Rattle.run_lists.specs.declared.runs.Run.{Run}
use Rattle.run_lists.specs.Spread.{expanded}
use Rattle.doc_model.specs.declared.item.Item.{Item}
use Rattle.plain_doc.specs.declared.text_walk.TextWalk.{TextWalk}
use Rattle.doc_model.specs.Document.{IsFormedText}
use Rattle.plain_doc.specs.RulesOfItems.{IsShortChp}
use Rattle.plain_doc.specs.RulesOfTexts.{EndsRight}
use Rattle.plain_doc.specs.TextWalk.{HasPassed}
use Rattle.doc_columns.specs.declared.attached.Attached.{Attached}
use Rattle.doc_columns.specs.declared.judge.JudgedText.{JudgedText}
use Rattle.doc_columns.specs.Attached.{attached_of}

-- the columns are those of the text, whose properties of characters are short, and which ends right
pub record IsJudgedText (judged : JudgedText) : Type 0 where
  pub formed : IsFormedText judged.text.now
  pub units : judged.units.now ≡ map (λ item. item.unit) judged.text.now
  pub chps : expanded judged.chps.now ≡ map (λ item. item.chp) judged.text.now
  pub short : All IsShortChp (expanded judged.chps.now)
  pub ends : EndsRight judged.part judged.text.now

-- the items of the text before a place are passed
abbrev pub IsPassedTo : JudgedText → ℕ → TextWalk → Type 0
IsPassedTo judged place walk = HasPassed judged.sheet.now judged.part judged.text.now place walk

-- the run is what is beside the items of the text from a place on
pub record IsAttachedRun (text : List Item) (place : ℕ) (run : Run Attached) : Type 0 where
  pub within : place + run.count ≤ length text
  pub values :
      (at : ℕ) → place ≤ at → at < place + run.count → slice_get (map attached_of text) at ≡ Some run.value
