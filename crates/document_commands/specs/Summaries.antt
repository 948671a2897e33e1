-- The summary of a document: the carried stream that `title` reads and `retitle` changes.
use Rattle.std.specs.Prelude.{◌≡◌, ◌⊎◌, ℕ, ◌∷◌, List, Option, Some, MatchOption, codes, slice_get}
use Rattle.std.specs.List.{position_or_len}
use Rattle.doc_bits.specs.Rules.{IsFirstOffset}
use Rattle.cfb_streams.specs.Contents.{NamedBytes}
use Rattle.cfb_streams.specs.Names.{is_same_name}
use Rattle.summary_set.specs.Form.{form_rules, IsPropertySet}
use Rattle.summary_set.specs.Written.{retitled_stream}
use Rattle.doc_model.specs.declared.document.Document.{Document}
use Rattle.doc_model.specs.Carried.{AreCarriedStreams, with_bytes}
use Rattle.doc_model.specs.OtherBytes.{carried_with}
use Rattle.full_save.specs.Layout.{FitsCompoundFile}
use Rattle.document_commands.specs.declared.reply.Reply.{Reply}
use Rattle.document_commands.specs.declared.reply.Reply.TheVariants.{Done, Refused}
use Rattle.document_commands.specs.declared.reply.Refusal.TheVariants.{NoSummary, WrongSummary}
use Rattle.document_commands.specs.SummaryLines.{fields_lines, no_summary_line, wrong_summary_line}
use Rattle.document_commands.specs.Saves.{Saves}

-- [MS-OLEPS] the name of the stream
abbrev pub summary_name : List ℕ
summary_name = 5 ∷ codes "SummaryInformation"

-- where it is among the carried streams. Their names ascend, so no second one has this name
abbrev pub summary_place : List NamedBytes → ℕ
summary_place streams = position_or_len (λ stream. is_same_name stream.name summary_name) streams

-- the stream, where it is carried
abbrev pub summary_of : List NamedBytes → Option NamedBytes
summary_of streams = slice_get streams (summary_place streams)

abbrev pub HasNoSummary : (name : List ℕ) → Reply → Type 0
HasNoSummary name reply = reply ≡ Refused NoSummary (no_summary_line name)

-- the stream is no property set: the line has the place of the first condition that fails
pub record HasWrongSummary (name stream : List ℕ) (reply : Reply) : Type 0 where
  pub condition : ℕ
  pub place : ℕ
  pub first : IsFirstOffset (form_rules stream) condition place
  pub is : reply ≡ Refused WrongSummary (wrong_summary_line name place)

-- the lines of title, subject and author
pub record ShowsFields (stream : List ℕ) (reply : Reply) : Type 0 where
  pub set : IsPropertySet stream
  pub is : reply ≡ Done (fields_lines stream)

abbrev pub ShowsSummary : (name stream : List ℕ) → Reply → Type 0
ShowsSummary name stream reply = ShowsFields stream reply ⊎ HasWrongSummary name stream reply

-- what the streams of the document of a name say of its title
abbrev pub TellsTitle : (name : List ℕ) → List NamedBytes → Reply → Type 0
TellsTitle name streams reply =
    MatchOption (summary_of streams) (HasNoSummary name reply) (λ stream. ShowsSummary name stream.bytes reply)

-- the changed document has these bytes in its summary, and all else as it was
pub record HasSummaryBytes (document : Document) (bytes : List ℕ) (changed : Document) : Type 0 where
  pub fit : AreCarriedStreams (with_bytes document.carried.streams (summary_place document.carried.streams) bytes)
  pub is :
      changed
      ≡ record document {
        carried = carried_with document.carried (summary_place document.carried.streams) bytes fit;
      }

-- the document with these bytes in its summary is saved in full
pub record SavesWith (document : Document) (bytes : List ℕ) (reply : Reply) : Type 0 where
  pub changed : Document
  pub has : HasSummaryBytes document bytes changed
  pub saves : Saves (codes "retitle") changed reply

-- the document with this title is saved in full
pub record SavesRetitled (title : List ℕ) (document : Document) (stream : List ℕ) (reply : Reply) : Type 0 where
  pub set : IsPropertySet stream
  pub saved : SavesWith document (retitled_stream stream title) reply

abbrev pub Retitles : (title name : List ℕ) → Document → (stream : List ℕ) → Reply → Type 0
Retitles title name document stream reply =
    SavesRetitled title document stream reply ⊎ HasWrongSummary name stream reply

-- what giving the document of a name another title comes to
abbrev pub PutsTitle : (title name : List ℕ) → Document → Reply → Type 0
PutsTitle title name document reply =
    MatchOption (summary_of document.carried.streams) (HasNoSummary name reply)
    (λ stream. Retitles title name document stream.bytes reply)

-- a summary is carried, and it is a property set
pub record HasPropertySet (streams : List NamedBytes) : Type 0 where
  pub stream : NamedBytes
  pub here : summary_of streams ≡ Some stream
  pub set : IsPropertySet stream.bytes

-- besides, the full save of the document with this title is no larger than a file
pub record CanRetitle (title : List ℕ) (document : Document) : Type 0 where
  pub has : HasPropertySet document.carried.streams
  pub fits :
      (changed : Document) → HasSummaryBytes document (retitled_stream has.stream.bytes title) changed →
      FitsCompoundFile changed
