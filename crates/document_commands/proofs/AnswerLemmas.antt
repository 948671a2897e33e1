-- What is asked of files that were read has one ending, and is served where their documents have it.
use Rattle.std.proofs.Common.{◌≡◌, ◌∙◌, ap, sym, subst, ℕ, List, Option, arith, inl}
use Rattle.cfb_streams.specs.Contents.{Contents}
use Rattle.cfb_streams.proofs.Public.{contents_unique}
use Rattle.doc_model.specs.declared.document.Document.{Document}
use Rattle.doc_read.specs.Holds.{HoldsDocument}
use Rattle.doc_read.proofs.Public.{document_one}
use Rattle.document_commands.specs.Lines.{stream_lines}
use Rattle.run_stages.specs.Outcomes.{Outcome, says}
use Rattle.document_commands.specs.Tasks.{FileTask, PairTask, out_of, out_of_two}
use Rattle.document_commands.specs.declared.reply.Reply.{Reply}
use Rattle.document_commands.specs.Replies.{outcome_of, EndsByReply, Replies, RepliesTwo, CanReply, CanReplyTwo}
use Rattle.document_commands.specs.Answers.{IsListingOf, ListsStreams, AnswersFile, AnswersTwo}
use Rattle.run_stages.specs.Outcomes.{IsAfterReading}
use Rattle.run_stages.proofs.Public.{said_inside}
use Rattle.document_commands.proofs.OutcomeLemmas.{ends_one, ends_done, ends_inside, ends_by}
use Rattle.document_commands.proofs.ReplyLemmas.{replies_one, replies_done, replies_two_one, replies_two_done}

-- one list of streams
listing_one : (file text said : List ℕ) → IsListingOf file text → IsListingOf file said → text ≡ said
listing_one file text said a b =
    a.lines ∙ (ap (λ (c : Contents). stream_lines c.streams) (contents_unique file a.contents b.contents a.has b.has)
    ∙ sym b.lines)

pub lists_one : (file : List ℕ) (a b : Outcome) → ListsStreams file a → ListsStreams file b → a ≡ b
lists_one file a b x y = x.ends ∙ (ap (says 0) (listing_one file x.text y.text x.listing y.listing) ∙ sym y.ends)

pub lists_inside : (file : List ℕ) (outcome : Outcome) → ListsStreams file outcome → IsAfterReading outcome.status
lists_inside file outcome lists = said_inside 0 _ outcome lists.ends (inl (omega arith))

-- one ending of a task on a file
pub file_one :
    (task : FileTask) (name file : List ℕ) (a b : Outcome) → AnswersFile task name file a →
    AnswersFile task name file b → a ≡ b
file_one task name file a b x y =
    let same : x.document ≡ y.document = document_one file x.document y.document x.holds y.holds in
    let answers = subst (λ d. EndsByReply (out_of task) (Replies task name d) a) same x.answers in
    ends_one (out_of task) (Replies task name y.document) a b (replies_one task name y.document) answers y.answers

-- one ending of what is asked of two files
pub two_one :
    (pair : PairTask) (one other : List ℕ) (a b : Outcome) → AnswersTwo pair one other a →
    AnswersTwo pair one other b → a ≡ b
two_one pair one other a b x y =
    let e : x.first ≡ y.first = document_one one x.first y.first x.holds_first y.holds_first in
    let f : x.second ≡ y.second = document_one other x.second y.second x.holds_second y.holds_second in
    let out = out_of_two pair in
    let answers =
    subst (λ d. EndsByReply out (RepliesTwo pair d y.second) a) e
    (subst (λ d. EndsByReply out (RepliesTwo pair x.first d) a) f x.answers) in
    ends_one out (RepliesTwo pair y.first y.second) a b (replies_two_one pair y.first y.second) answers y.answers

-- a task is served by a file whose document has what it asks for
pub file_done :
    (task : FileTask) (name file : List ℕ) (outcome : Outcome) →
    ((document : Document) → HoldsDocument file document → CanReply task document) →
    AnswersFile task name file outcome → outcome.status ≡ 0
file_done task name file outcome can x =
    ends_done (out_of task) (Replies task name x.document) outcome
    (λ reply is. replies_done task name x.document reply (can x.document x.holds) is) x.answers

pub two_done :
    (pair : PairTask) (one other : List ℕ) (outcome : Outcome) →
    ((first second : Document) → HoldsDocument one first → HoldsDocument other second → CanReplyTwo pair first second) →
    AnswersTwo pair one other outcome → outcome.status ≡ 0
two_done pair one other outcome can x =
    ends_done (out_of_two pair) (RepliesTwo pair x.first x.second) outcome
    (λ reply is. replies_two_done pair x.first x.second reply
    (can x.first x.second x.holds_first x.holds_second) is) x.answers

pub file_inside :
    (task : FileTask) (name file : List ℕ) (outcome : Outcome) → AnswersFile task name file outcome →
    IsAfterReading outcome.status
file_inside task name file outcome x = ends_inside (out_of task) (Replies task name x.document) outcome x.answers

pub two_inside :
    (pair : PairTask) (one other : List ℕ) (outcome : Outcome) → AnswersTwo pair one other outcome →
    IsAfterReading outcome.status
two_inside pair one other outcome x =
    ends_inside (out_of_two pair) (RepliesTwo pair x.first x.second) outcome x.answers
