-- What the export of a document comes to.
use Rattle.std.specs.Prelude.{◌≡◌, ◌⊎◌, ℕ, ◌++◌, ◌<◌, ◌≤◌, List, length, codes}
use Rattle.std.specs.Fmt.{decimal}
use Rattle.doc_model.specs.declared.document.Document.{Document}
use Rattle.text_codes.specs.Shown.{line}
use Rattle.json_doc.specs.Documents.{json_text}
use Rattle.document_commands.specs.declared.reply.Reply.{Reply}
use Rattle.document_commands.specs.declared.reply.Reply.TheVariants.{Made, Refused}
use Rattle.document_commands.specs.declared.reply.Refusal.TheVariants.{Save}
use Rattle.document_commands.specs.Lines.{bytes_line}

-- the most bytes of a text that is put: so many are read of a file at most
abbrev pub most_exported : ℕ
most_exported = 7143936

-- a text of so many bytes is too large
abbrev pub too_large_line : ℕ → List ℕ
too_large_line count = line (codes "export: too large, " ++ (decimal count ++ codes " bytes"))

-- the text is put
pub record PutsJson (document : Document) (reply : Reply) : Type 0 where
  pub short : length (json_text document) ≤ most_exported
  pub is : reply ≡ Made (bytes_line (codes "export") (length (json_text document))) (json_text document)

-- it has too many bytes
pub record HasLongJson (document : Document) (reply : Reply) : Type 0 where
  pub over : most_exported < length (json_text document)
  pub is : reply ≡ Refused Save (too_large_line (length (json_text document)))

abbrev pub Exports : Document → Reply → Type 0
Exports document reply = PutsJson document reply ⊎ HasLongJson document reply

-- its text is short enough
abbrev pub CanExport : Document → Type 0
CanExport document = length (json_text document) ≤ most_exported
