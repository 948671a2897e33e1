-- How a run ends that asks something of the bytes of files that were read.
use Rattle.std.specs.Prelude.{◌≡◌, ℕ, List}
use Rattle.cfb_streams.specs.Contents.{Contents}
use Rattle.cfb_streams.specs.Container.{HasContents}
use Rattle.doc_model.specs.declared.document.Document.{Document}
use Rattle.doc_read.specs.Holds.{HoldsDocument}
use Rattle.document_commands.specs.Lines.{stream_lines}
use Rattle.run_stages.specs.Outcomes.{Outcome, says}
use Rattle.document_commands.specs.Tasks.{FileTask, PairTask, out_of, out_of_two}
use Rattle.document_commands.specs.Replies.{EndsByReply, Replies, RepliesTwo}

-- a line for each stream of a file
pub record IsListingOf (file text : List ℕ) : Type 0 where
  pub contents : Contents
  pub has : HasContents file contents
  pub lines : text ≡ stream_lines contents.streams

-- the streams of a file are listed
pub record ListsStreams (file : List ℕ) (outcome : Outcome) : Type 0 where
  pub text : List ℕ
  pub listing : IsListingOf file text
  pub ends : outcome ≡ says 0 text

-- a task is served by the document that the file of a name holds
pub record AnswersFile (task : FileTask) (name file : List ℕ) (outcome : Outcome) : Type 0 where
  pub document : Document
  pub holds : HoldsDocument file document
  pub answers : EndsByReply (out_of task) (Replies task name document) outcome

-- what is asked of two documents is served by those that two files hold
pub record AnswersTwo (pair : PairTask) (one other : List ℕ) (outcome : Outcome) : Type 0 where
  pub first : Document
  pub second : Document
  pub holds_first : HoldsDocument one first
  pub holds_second : HoldsDocument other second
  pub answers : EndsByReply (out_of_two pair) (RepliesTwo pair first second) outcome
