-- How long the table stream of a save is: that of the full save, but for the bin tables and the Clx.
use Rattle.std.specs.Prelude.{◌≡◌, ℕ, ◌+◌, ◌≤◌, length}
use Rattle.doc_model.specs.declared.document.Document.{Document}
use Rattle.doc_model.specs.Collected.{sections_of}
use Rattle.full_save.specs.declared.table_text.TableText.{TableText}
use Rattle.full_save.specs.TableText.{table_entries}
use Rattle.full_save.specs.TableStream.{entries_bytes}
use Rattle.full_save.specs.WordDocument.{table_stream}

-- the bytes of the parts whose lengths a save may choose
abbrev pub own_length : TableText → ℕ
own_length text = length text.characters + length text.paragraphs + length text.clx

-- the bytes of the table stream of a document with what is said of its text
abbrev pub entries_length : Document → TableText → ℕ
entries_length document text = length (entries_bytes (table_entries document text))

-- two table streams of a document with as many sections differ by these parts alone
abbrev pub TablesDifferByOwnParts : Type 0
TablesDifferByOwnParts =
    (document : Document) (one other : TableText) → length one.seds ≡ length other.seds →
    entries_length document one + own_length other ≡ entries_length document other + own_length one

-- so none is longer than that of the full save and its own parts
abbrev pub TablesAreShort : Type 0
TablesAreShort =
    (document : Document) (text : TableText) → length text.seds ≡ length (sections_of document.main) →
    entries_length document text ≤ length (table_stream document) + own_length text
