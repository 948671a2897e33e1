-- A task comes to one reply, and to no refusal where the document has what it asks for.
use Rattle.std.proofs.Common.{◌≡◌, ◌∙◌, inl, inr, ap, sym, ℕ, ◌<◌, List, length, arith}
use Rattle.doc_model.specs.declared.document.Document.{Document}
use Rattle.doc_show.proofs.Public.{lines_one}
use Rattle.list_numbers.proofs.Public.{lines_one as outline_one}
use Rattle.document_commands.specs.declared.reply.Reply.{Reply}
use Rattle.document_commands.specs.declared.reply.Reply.TheVariants.{Done}
use Rattle.document_commands.specs.Tasks.{FileTask, text_task, check_task, show_task, props_task, outline_task}
use Rattle.document_commands.specs.Tasks.{full_task}
use Rattle.document_commands.specs.Tasks.{title_task, retitle_task, export_task}
use Rattle.document_commands.specs.Tasks.{PairTask, compare_task, join_task}
use Rattle.document_commands.specs.Replies.{IsNoRefusal, ShowsItem, HasNoPosition, ShowsItemOrNone, Replies, CanReply}
use Rattle.document_commands.specs.Replies.{Compares, RepliesTwo, CanReplyTwo}
use Rattle.document_commands.proofs.SaveLemmas.{done_said, saved_one, saved_done}
use Rattle.document_commands.proofs.SummaryLemmas.{title_one, title_done, retitle_one, retitle_done}
use Rattle.document_commands.proofs.ExportLemmas.{export_one, export_done}
use Rattle.document_commands.proofs.JoinLemmas.{join_one, join_done}

-- a position is in the main text or beyond it
item_or_none :
    (pos : ℕ) (document : Document) (a b : Reply) → ShowsItem pos document a → HasNoPosition pos document b → ⊥
item_or_none pos document a b x y =
    let within = x.within in
    let beyond = y.beyond in
    omega arith

item_one :
    (pos : ℕ) (document : Document) (a b : Reply) → ShowsItemOrNone pos document a → ShowsItemOrNone pos document b →
    a ≡ b
item_one pos document a b (inl x) (inl y) =
    x.is ∙ (ap Done (lines_one document pos x.text y.text x.lines y.lines) ∙ sym y.is)
item_one pos document a b (inl x) (inr y) = absurd (item_or_none pos document a b x y)
item_one pos document a b (inr x) (inl y) = absurd (item_or_none pos document b a y x)
item_one pos document a b (inr x) (inr y) = x.is ∙ sym y.is

-- one reply to a task
pub replies_one :
    (task : FileTask) (name : List ℕ) (document : Document) (a b : Reply) → Replies task name document a →
    Replies task name document b → a ≡ b
replies_one text_task name document a b x y = x ∙ sym y
replies_one check_task name document a b x y = x ∙ sym y
replies_one show_task name document a b x y = x ∙ sym y
replies_one (props_task pos) name document a b x y = item_one pos document a b x y
replies_one outline_task name document a b x y =
    x.is ∙ (ap Done (outline_one document x.text y.text x.lines y.lines) ∙ sym y.is)
replies_one (full_task out) name document a b x y = saved_one _ document a b x y
replies_one title_task name document a b x y = title_one name document.carried.streams a b x y
replies_one (retitle_task title out) name document a b x y = retitle_one title name document a b x y
replies_one (export_task out) name document a b x y = export_one document a b x y

compared_one :
    (first second : Document) (a b : Reply) → Compares first second a → Compares first second b → a ≡ b
compared_one first second a b (inl x) (inl y) = x.1 ∙ sym y.1
compared_one first second a b (inl x) (inr y) = absurd (y.0 x.0)
compared_one first second a b (inr x) (inl y) = absurd (x.0 y.0)
compared_one first second a b (inr x) (inr y) = x.1 ∙ sym y.1

-- one reply on two documents
pub replies_two_one :
    (pair : PairTask) (first second : Document) (a b : Reply) → RepliesTwo pair first second a →
    RepliesTwo pair first second b → a ≡ b
replies_two_one compare_task first second a b x y = compared_one first second a b x y
replies_two_one (join_task out) first second a b x y = join_one first second a b x y

item_done :
    (pos : ℕ) (document : Document) (reply : Reply) → pos < length document.main →
    ShowsItemOrNone pos document reply → IsNoRefusal reply
item_done pos document reply within (inl x) = done_said x.text reply x.is
item_done pos document reply within (inr x) = let beyond = x.beyond in absurd (omega (arith, beyond, within))

-- a task that the document has what is asked for is served
pub replies_done :
    (task : FileTask) (name : List ℕ) (document : Document) (reply : Reply) → CanReply task document →
    Replies task name document reply → IsNoRefusal reply
replies_done text_task name document reply can x = done_said _ reply x
replies_done check_task name document reply can x = done_said _ reply x
replies_done show_task name document reply can x = done_said _ reply x
replies_done (props_task pos) name document reply can x = item_done pos document reply can x
replies_done outline_task name document reply can x = done_said x.text reply x.is
replies_done (full_task out) name document reply can x = saved_done _ document reply can x
replies_done title_task name document reply can x = title_done name document.carried.streams reply can x
replies_done (retitle_task title out) name document reply can x = retitle_done title name document reply can x
replies_done (export_task out) name document reply can x = export_done document reply can x

compared_done : (first second : Document) (reply : Reply) → first ≡ second → Compares first second reply → IsNoRefusal
    reply
compared_done first second reply same (inl x) = done_said _ reply x.1
compared_done first second reply same (inr x) = absurd (x.0 same)

pub replies_two_done :
    (pair : PairTask) (first second : Document) (reply : Reply) → CanReplyTwo pair first second →
    RepliesTwo pair first second reply → IsNoRefusal reply
replies_two_done compare_task first second reply can x = compared_done first second reply can x
replies_two_done (join_task out) first second reply can x = join_done first second reply can x
