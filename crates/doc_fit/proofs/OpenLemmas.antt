-- What is lifted and sound is opened, and what is not is refused by the first rule of all.
use Rattle.std.proofs.Common.{◌≡◌, ◌∙◌, subst, ℕ, List}
use Rattle.cfb_streams.specs.Contents.{Contents}
use Rattle.cfb_streams.proofs.Public.{contents_unique}
use Rattle.file_rules.specs.FileRules.{FileText, HasFileText}
use Rattle.file_rules.proofs.Public.{text_one, refused-first, refused-next, refused-given}
use Rattle.doc_losses.specs.References.{names_of}
use Rattle.doc_model.specs.Marks.{HasFormedBookmarks}
use Rattle.doc_bits.specs.Rules.{Hold, given}
use Rattle.plain_doc.specs.Sound.{document_rules}
use Rattle.file_rules.specs.declared.fault.ReadFault.{ReadFault}
use Rattle.file_rules.specs.Faults.{IsReadFault}
use Rattle.doc_lift.specs.declared.lifting.Lifted.{Lifted}
use Rattle.doc_lift.specs.LiftedFiles.{IsLifted, lifted_rules}
use Rattle.doc_mends.specs.declared.mends.Mend.{Mend}
use Rattle.doc_mends.proofs.Public.{bookmarks_stay}
use Rattle.doc_fit.specs.declared.opening.OpenedAny.{OpenedAny}
use Rattle.huge_papx.proofs.Public.{struck_defined_formed}
use Rattle.doc_fit.specs.Rules.{IsMendedText, HasMended, LiftsTo, fit_rules}
use Rattle.doc_fit.specs.Losses.{HasLiftedStreams}
use Rattle.doc_fit.specs.Opened.{HasDeletions, IsReported, IsOpenedAny}

-- the text that the streams name is that of the parts by which the file means its document
pub text_meant : (file : List ℕ) (lifted : Lifted) → (is : IsLifted file lifted) → is.text ≡ is.means.parts.text
text_meant file lifted is =
    let has = is.means.has_parts in
    let same : is.means.parts.contents ≡ lifted.outer.container =
    contents_unique file is.means.parts.contents lifted.outer.container has.has_contents is.has_contents in
    text_one file lifted.outer.container is.text is.means.parts.text is.has_contents is.has_text
    (subst (λ (c : Contents). HasFileText c is.means.parts.text) same has.has_text)

reported_text : (file : List ℕ) (before after : Lifted) (lines : List (List ℕ)) (mends : List Mend) →
    (is : IsLifted file before) → (reported : IsReported before after lines mends) →
    reported.text ≡ is.means.parts.text
reported_text file before after lines mends is reported =
    text_one file before.outer.container reported.text is.text is.has_contents reported.has_text is.has_text
    ∙ text_meant file before is

-- it is struck and mended
pub mended_by : (file : List ℕ) (before after : Lifted) (lines : List (List ℕ)) (mends : List Mend) →
    (is : IsLifted file before) → IsReported before after lines mends →
    IsMendedText is.means.parts.text before.document after.document mends
mended_by file before after lines mends is reported =
    subst (λ (t : FileText). IsMendedText t before.document after.document mends)
    (reported_text file before after lines mends is reported) reported.mended

has_mended : (file : List ℕ) (before after : Lifted) (lines : List (List ℕ)) (mends : List Mend) →
    IsLifted file before → IsReported before after lines mends → HasMended file after.document
has_mended file before after lines mends is reported = record {
  meant = before.document;
  means = is.means;
  mends = mends;
  mended_is = mended_by file before after lines mends is reported;
}

lifts_to : (file : List ℕ) (before after : Lifted) (lines : List (List ℕ)) (mends : List Mend) →
    IsLifted file before → IsReported before after lines mends → LiftsTo file after.document
lifts_to file before after lines mends is reported =
    record { rules = is.rules; mended = has_mended file before after lines mends is reported }

-- the first rule that the file breaks is the first of all
pub not_lifted : (file : List ℕ) (fault : ReadFault) → IsReadFault (lifted_rules file) fault →
    IsReadFault (fit_rules file) fault
not_lifted file fault refused =
    refused-first (lifted_rules file) (given (LiftsTo file) document_rules) fault refused

-- the first rule that the mended document breaks is the first of all
pub mended_refused : (file : List ℕ) (before after : Lifted) (lines : List (List ℕ)) (mends : List Mend)
    (fault : ReadFault) → IsLifted file before → IsReported before after lines mends →
    IsReadFault (document_rules after.document) fault → IsReadFault (fit_rules file) fault
mended_refused file before after lines mends fault is reported refused =
    refused-next (lifted_rules file) (given (LiftsTo file) document_rules) fault is.rules
    (refused-given (LiftsTo file) document_rules after.document fault
    (lifts_to file before after lines mends is reported) refused)

-- its bookmarks are formed
pub mended_formed : (file : List ℕ) (before after : Lifted) (lines : List (List ℕ)) (mends : List Mend) →
    IsLifted file before → IsReported before after lines mends → HasFormedBookmarks after.document
mended_formed file before after lines mends is reported =
    let text = reported.text in
    let mended = reported.mended in
    bookmarks_stay (names_of text.wd text.table) mended.struck after.document mended.others
    (struck_defined_formed text before.document mended.struck mended.strikes is.formed mended.struck_is) mended.mended_is

-- what of the text a reviser deleted
pub lifted_deletions : (file : List ℕ) (lifted : Lifted) → IsLifted file lifted → HasDeletions lifted
lifted_deletions file lifted is = record {
  file = file;
  has_contents = is.has_contents;
  text = is.text;
  has_text = is.has_text;
  deleted = is.deleted;
  offsets = is.offsets;
}

-- the streams that the report is made of
pub lifted_streams : (file : List ℕ) (lifted : Lifted) → IsLifted file lifted → HasLiftedStreams lifted
lifted_streams file lifted is = record {
  file = file;
  has_contents = is.has_contents;
  wd = is.text.wd;
  named = is.has_text.has_wd;
  fib = is.fib;
  table = is.text.table;
  named_table = is.has_text.has_table;
}

-- the document that a file means is that of what is opened
pub opened_lifts : (file : List ℕ) (opened : OpenedAny) → IsOpenedAny file opened →
    LiftsTo file opened.lifted.document
opened_lifts file opened is =
    lifts_to file is.before opened.lifted opened.losses opened.mends.items is.lifts is.reported

-- none of the rules that are left is broken
pub opened_holds : (file : List ℕ) (opened : OpenedAny) → IsOpenedAny file opened → Hold (fit_rules file)
opened_holds file opened is =
    let lifts = is.lifts in (lifts.rules, (opened.lifted.document, (opened_lifts file opened is, is.sound.rules)))
