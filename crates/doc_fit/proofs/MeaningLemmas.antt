-- What a file that breaks none of the rules that are left means is mended in one way.
use Rattle.std.proofs.Common.{◌≡◌, ◌∙◌, ◌++◌, sym, ap, subst, ℕ, List}
use Rattle.doc_bits.specs.Number.{AreBytes}
use Rattle.doc_bits.specs.Rules.{Hold, IsSingle}
use Rattle.doc_model.specs.declared.document.Document.{Document}
use Rattle.plain_doc.proofs.Public.{document_rules-IsSingle}
use Rattle.file_rules.specs.FileRules.{FileText}
use Rattle.doc_read.specs.Holds.{FileParts}
use Rattle.doc_read.proofs.Public.{file_parts_one}
use Rattle.doc_losses.specs.References.{names_of}
use Rattle.doc_mends.specs.Mending.{IsMended}
use Rattle.doc_mends.proofs.Public.{one_way}
use Rattle.doc_lift.specs.LiftedFiles.{lifted_rules}
use Rattle.doc_lift.proofs.Public.{lifted_single}
use Rattle.huge_papx.proofs.Public.{struck_defined_one}
use Rattle.further_notes.proofs.Public.{meant_one}
use Rattle.doc_mends.specs.declared.mends.Mend.{Mend}
use Rattle.doc_fit.specs.Rules.{IsMendedText, HasMended, LiftsTo, fit_rules}

-- its document is mended in one way
pub record AreOneMended (file : List ℕ) (one other : Document) (a : HasMended file one) (b : HasMended file other) :
    Type 0 where
  pub document : one ≡ other
  pub meant : a.meant ≡ b.meant
  pub mends : a.mends ≡ b.mends

-- a text is struck and mended in one way
pub text_mended_one : (text : FileText) (meant one other : Document) (mends others : List Mend) →
    IsMendedText text meant one mends → IsMendedText text meant other others → (one ≡ other) × (mends ≡ others)
text_mended_one text meant one other mends others a b =
    let struck = struck_defined_one text meant a.struck b.struck a.strikes b.strikes a.struck_is b.struck_is in
    let names = names_of text.wd text.table in
    let same = one_way names b.struck one other a.others b.others
    (subst (λ (d : Document). IsMended names d one a.others) struck.0 a.mended_is) b.mended_is in (
      same.0,
      a.mends_are ∙ ((λ i. struck.1 i ++ same.1 i) ∙ sym b.mends_are),
    )

pub mended_one : (file : List ℕ) (one other : Document) → AreBytes file → Hold (lifted_rules file) →
    (a : HasMended file one) → (b : HasMended file other) → AreOneMended file one other a b
mended_one file one other bytes rules a b =
    let meant : a.meant ≡ b.meant = meant_one file a.meant b.meant bytes rules a.means b.means in
    let text : a.means.parts.text ≡ b.means.parts.text =
    ap (λ (p : FileParts). p.text)
    (file_parts_one file a.means.parts b.means.parts a.means.has_parts b.means.has_parts) in
    let same = text_mended_one b.means.parts.text b.meant one other a.mends b.mends
    (subst (λ (d : Document). IsMendedText b.means.parts.text d one a.mends) meant
    (subst (λ (t : FileText). IsMendedText t a.meant one a.mends) text a.mended_is)) b.mended_is in
    record { document = same.0; meant = meant; mends = same.1 }

pub lifts_one : (file : List ℕ) (one other : Document) → AreBytes file → LiftsTo file one → LiftsTo file other →
    one ≡ other
lifts_one file one other bytes a b = (mended_one file one other bytes a.rules a.mended b.mended).document

-- each object that the rules speak of is the only one
pub fit_single : (file : List ℕ) → AreBytes file → IsSingle (fit_rules file)
fit_single file bytes = (
  lifted_single file,
  ((λ one other a b. lifts_one file one other bytes a b), λ document h. document_rules-IsSingle document),
)
