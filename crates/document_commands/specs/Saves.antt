-- What saving a document in full comes to.
use Rattle.std.specs.Prelude.{◌≡◌, ◌⊎◌, ◌<◌, ℕ, List, length}
use Rattle.doc_model.specs.declared.document.Document.{Document}
use Rattle.cfb_layout.specs.Counts.{most_sectors}
use Rattle.full_save.specs.Layout.{full_save_image, full_save_sectors, FitsCompoundFile}
use Rattle.document_commands.specs.declared.reply.Reply.{Reply}
use Rattle.document_commands.specs.declared.reply.Reply.TheVariants.{Made, Refused}
use Rattle.document_commands.specs.declared.reply.Refusal.TheVariants.{Save}
use Rattle.document_commands.specs.Lines.{bytes_line, needs_sectors_line}

-- the full save of a document is made, by the command of this word
pub record MakesFullSave (word : List ℕ) (document : Document) (reply : Reply) : Type 0 where
  pub fits : FitsCompoundFile document
  pub is : reply ≡ Made (bytes_line word (length (full_save_image document))) (full_save_image document)

-- it needs more sectors than a file has
pub record NeedsTooMany (word : List ℕ) (document : Document) (reply : Reply) : Type 0 where
  pub over : most_sectors < full_save_sectors document
  pub is : reply ≡ Refused Save (needs_sectors_line word (full_save_sectors document))

abbrev pub Saves : (word : List ℕ) → Document → Reply → Type 0
Saves word document reply = MakesFullSave word document reply ⊎ NeedsTooMany word document reply
