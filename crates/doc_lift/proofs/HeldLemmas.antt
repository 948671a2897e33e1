-- Of a file whose own text breaks none of the rules 33 to 57 none is broken by what is read in place of it.
use Rattle.std.proofs.Common.{◌≡◌, sym, subst, inl, inr, ℕ, List}
use Rattle.doc_bits.specs.Number.{AreBytes}
use Rattle.doc_bits.specs.Rules.{Hold}
use Rattle.doc_bits.specs.Places.{Upto}
use Rattle.doc_bits.proofs.Public.{hold_or_first}
use Rattle.cfb_streams.specs.Contents.{Contents}
use Rattle.cfb_streams.specs.Container.{HasContents}
use Rattle.fib_versions.specs.Versions.{all_text_length}
use Rattle.file_rules.specs.Source.{DocSource}
use Rattle.file_rules.specs.PartRules.{part_rules}
use Rattle.file_rules.specs.FileRules.{FileText, HasFileText, doc_source_of}
use Rattle.file_rules.proofs.Public.{part_single, text_one}
use Rattle.doc_meaning.specs.Apart.{IsReadTable}
use Rattle.doc_meaning.proofs.Public.{HasFront, whole_text, front_text, loaded_holds}
use Rattle.doc_lift.specs.FilledTexts.{IsFilledRead}
use Rattle.doc_lift.specs.LiftedRules.{IsLiftedSource}
use Rattle.doc_lift.proofs.SkipLemmas.{read_loaded_for}

-- a text that breaks none has no gap that is filled
filled_held : (wd units : List ℕ) (read filled : FileText) → IsFilledRead wd units read filled →
    Hold (part_rules (doc_source_of read)) → Hold (part_rules (doc_source_of filled))
filled_held wd units read filled (inl is) hold =
    absurd (hold_or_first Upto (part_rules (doc_source_of read)) is.gap.number is.gap.place (part_single (doc_source_of
    read))
    hold is.gap.first)
filled_held wd units read filled (inr stays) hold =
    subst (λ (t : FileText). Hold (part_rules (doc_source_of t))) (sym stays.1) hold

pub source_held : (file : List ℕ) (contents : Contents) (wd table : List ℕ) (text : FileText) (source : DocSource) →
    HasContents file contents → IsReadTable contents wd table → HasFront wd table (all_text_length wd) → AreBytes wd →
    HasFileText contents text → Hold (part_rules (doc_source_of text)) → IsLiftedSource wd table source →
    Hold (part_rules source)
source_held file contents wd table text source has reads front bytes has_text hold is =
    let whole = whole_text wd reads.own is.front.all in
    let same : text ≡ whole =
    text_one file contents text whole has has_text
    (front_text contents wd table (all_text_length wd) is.text is.units reads front is.front) in
    let read : Hold (part_rules (doc_source_of is.read)) =
    loaded_holds whole table is.read bytes reads.clx
    (read_loaded_for wd table (all_text_length wd) is.text is.units is.read front is.front is.read_is)
    (subst (λ (t : FileText). Hold (part_rules (doc_source_of t))) same hold) in
    subst (λ (s : DocSource). Hold (part_rules s)) (sym is.source_is)
    (filled_held wd is.units is.read is.filled is.filled_is read)
