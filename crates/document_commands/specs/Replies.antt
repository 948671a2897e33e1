-- What a task comes to, and when it must be served.
use Rattle.std.specs.Prelude.{◌≡◌, ◌≢◌, ◌⊎◌, ◌<◌, ◌≤◌, ℕ, List, Option, Some, None, length, codes, ⊤}
use Rattle.doc_model.specs.declared.document.Document.{Document}
use Rattle.full_save.specs.Layout.{FitsCompoundFile}
use Rattle.doc_show.specs.MainText.{main_text_of}
use Rattle.doc_show.specs.Counts.{accepted_line_of}
use Rattle.doc_show.specs.Listing.{listing_of}
use Rattle.doc_show.specs.Properties.{ArePropertyLines}
use Rattle.list_numbers.specs.Outline.{AreOutlineLines}
use Rattle.document_commands.specs.declared.reply.Reply.{Reply}
use Rattle.document_commands.specs.declared.reply.Reply.TheVariants.{Done, Made, Refused}
use Rattle.document_commands.specs.declared.reply.Refusal.{Refusal}
use Rattle.document_commands.specs.declared.reply.Refusal.TheVariants.{Script, Json, Position, Edit, Styles, Unsound}
use Rattle.document_commands.specs.declared.reply.Refusal.TheVariants.{Save}
use Rattle.document_commands.specs.declared.reply.Refusal.TheVariants.{Guarded, Different, NoSummary, WrongSummary}
use Rattle.run_stages.specs.Outcomes.{Outcome, says, puts}
use Rattle.document_commands.specs.Lines.{position_line, equal_line, different_line}
use Rattle.document_commands.specs.Saves.{Saves}
use Rattle.document_commands.specs.Summaries.{TellsTitle, PutsTitle, HasPropertySet, CanRetitle}
use Rattle.document_commands.specs.Exports.{Exports, CanExport}
use Rattle.document_commands.specs.Joins.{Joins, CanJoin}
use Rattle.document_commands.specs.Tasks.{FileTask, text_task, check_task, show_task, props_task, outline_task}
use Rattle.document_commands.specs.Tasks.{full_task}
use Rattle.document_commands.specs.Tasks.{title_task, retitle_task, export_task}
use Rattle.document_commands.specs.Tasks.{PairTask, compare_task, join_task}

-- the status of a refusal
abbrev pub status_of : Refusal → ℕ
status_of Script = 7
status_of Json = 7
status_of Position = 8
status_of Edit = 8
status_of Styles = 8
status_of Unsound = 8
status_of Save = 9
status_of Guarded = 10
status_of Different = 11
status_of NoSummary = 13
status_of WrongSummary = 14

-- how a run ends by a reply, where bytes are put under the name. Bytes that no name is given for are not put
abbrev pub outcome_of : Option (List ℕ) → Reply → Outcome
outcome_of out (Done text) = says 0 text
outcome_of None (Made text bytes) = says 0 text
outcome_of (Some name) (Made text bytes) = puts text name bytes
outcome_of out (Refused why text) = says (status_of why) text

-- a run ends by such a reply, where bytes are put under the name
pub record EndsByReply (out : Option (List ℕ)) (such : Reply → Type 0) (outcome : Outcome) : Type 0 where
  pub reply : Reply
  pub is : such reply
  pub ends : outcome ≡ outcome_of out reply

-- it is no refusal
abbrev pub IsNoRefusal : Reply → Type 0
IsNoRefusal (Done text) = ⊤
IsNoRefusal (Made text bytes) = ⊤
IsNoRefusal (Refused why text) = ⊥

-- the lines on the item at a position of the main text
pub record ShowsItem (pos : ℕ) (document : Document) (reply : Reply) : Type 0 where
  pub within : pos < length document.main
  pub text : List ℕ
  pub lines : ArePropertyLines document pos text
  pub is : reply ≡ Done text

-- the main text has no such position
pub record HasNoPosition (pos : ℕ) (document : Document) (reply : Reply) : Type 0 where
  pub beyond : length document.main ≤ pos
  pub is : reply ≡ Refused Position (position_line pos (length document.main))

abbrev pub ShowsItemOrNone : (pos : ℕ) → Document → Reply → Type 0
ShowsItemOrNone pos document reply = ShowsItem pos document reply ⊎ HasNoPosition pos document reply

-- the lines of the outline are shown
pub record ShowsOutline (document : Document) (reply : Reply) : Type 0 where
  pub text : List ℕ
  pub lines : AreOutlineLines document text
  pub is : reply ≡ Done text

-- what a task on the document of a name comes to
abbrev pub Replies : FileTask → (name : List ℕ) → Document → Reply → Type 0
Replies text_task name document reply = reply ≡ Done (main_text_of document)
Replies check_task name document reply = reply ≡ Done (accepted_line_of document)
Replies show_task name document reply = reply ≡ Done (listing_of document)
Replies (props_task pos) name document reply = ShowsItemOrNone pos document reply
Replies outline_task name document reply = ShowsOutline document reply
Replies (full_task out) name document reply = Saves (codes "full") document reply
Replies title_task name document reply = TellsTitle name document.carried.streams reply
Replies (retitle_task title out) name document reply = PutsTitle title name document reply
Replies (export_task out) name document reply = Exports document reply

-- the document has what the task asks for
abbrev pub CanReply : FileTask → Document → Type 0
CanReply text_task document = ⊤
CanReply check_task document = ⊤
CanReply show_task document = ⊤
CanReply (props_task pos) document = pos < length document.main
CanReply outline_task document = ⊤
CanReply (full_task out) document = FitsCompoundFile document
CanReply title_task document = HasPropertySet document.carried.streams
CanReply (retitle_task title out) document = CanRetitle title document
CanReply (export_task out) document = CanExport document

-- two documents are equal or not
abbrev pub Compares : Document → Document → Reply → Type 0
Compares first second reply =
    ((first ≡ second) × (reply ≡ Done equal_line)) ⊎ ((first ≢ second) × (reply ≡ Refused Different different_line))

-- what is asked of two documents comes to
abbrev pub RepliesTwo : PairTask → Document → Document → Reply → Type 0
RepliesTwo compare_task first second reply = Compares first second reply
RepliesTwo (join_task out) first second reply = Joins first second reply

-- the documents have what it asks for
abbrev pub CanReplyTwo : PairTask → Document → Document → Type 0
CanReplyTwo compare_task first second = first ≡ second
CanReplyTwo (join_task out) first second = CanJoin first second
