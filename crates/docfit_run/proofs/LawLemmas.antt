-- What is put is accepted and holds the document, and the fit of a file that breaks no rule is its full save.
use Rattle.std.proofs.Common.{◌≡◌, ◌∙◌, sym, ap, subst, inl, inr, ℕ, Bool, List, Some}
use Rattle.std.proofs.lemmas.Option.{none-some, same_Some}
use Rattle.doc_model.specs.declared.document.Document.{Document}
use Rattle.full_save.specs.Layout.{full_save_image}
use Rattle.fast_save.specs.Laws.{IsSavable, IsHeldInFull}
use Rattle.fast_save.proofs.Public.{full_saves_hold}
use Rattle.doc_bits.specs.Rules.{Hold}
use Rattle.doc_read.specs.Holds.{HoldsDocument, IsAccepted, all_rules}
use Rattle.file_mends.specs.declared.mends.FileMend.{FileMend}
use Rattle.run_stages.specs.Outcomes.{Outcome, PutFile}
use Rattle.doc_fit.proofs.Public.{document_held, accepted_read}
use Rattle.docfit_run.specs.Fitted.{FitMends, IsReadFitted, IsSaved}
use Rattle.docfit_run.specs.Laws.{IsHeldRead, FitsAreHeld, FitsSaveAccepted, FitsAreFixed}

-- the bytes that are put are the full save
record IsFullPut (document : Document) (put : PutFile) : Type 0 where
  savable : IsSavable document
  bytes : put.bytes ≡ full_save_image document

full_put : (out : List ℕ) (document : Document) (lines : List (List ℕ)) (mends : FitMends) (outcome : Outcome)
    (put : PutFile) → IsSaved out document lines mends outcome → outcome.put ≡ Some put → IsFullPut document put
full_put out document lines mends outcome put (inl is) here = record {
  savable = is.savable;
  bytes =
      ap (λ (f : PutFile). f.bytes)
      (same_Some put (record { name = out; bytes = full_save_image document })
      (sym here ∙ ap (λ (o : Outcome). o.put) is.ends));
}
full_put out document lines mends outcome put (inr many) here =
    absurd (none-some put (sym (ap (λ (o : Outcome). o.put) many.ends) ∙ here))

read_held : (plain : Bool) (out read : List ℕ) (mends : List FileMend) (outcome : Outcome) (put : PutFile) →
    IsReadFitted plain out read mends outcome → outcome.put ≡ Some put → IsHeldRead plain read put.bytes
read_held plain out read mends outcome put fitted here =
    let document = fitted.document in
    let full = full_put out document _ _ outcome put fitted.saved here in
    let held : IsHeldInFull document = full_saves_hold document full.savable in
    record {
      noted = fitted.noted;
      are_noted = fitted.are_noted;
      document = document;
      mends = fitted.mends;
      document_is = fitted.document_is;
      accepted = subst (λ bytes. Hold (all_rules bytes)) (sym full.bytes) held.accepted;
      holds = subst (λ bytes. HoldsDocument bytes document) (sym full.bytes) held.holds;
    }

pub fits_are_held : FitsAreHeld
fits_are_held plain out file outcome put is here = record {
  mends = is.mends;
  read = is.read;
  read_as = is.read_as;
  held = read_held plain out is.read is.mends outcome put is.fitted here;
}

saved_accepted : (plain : Bool) (out file : List ℕ) (mends : List FileMend) (outcome : Outcome) (document : Document)
    (put : PutFile) → IsAccepted file → HoldsDocument file document → IsReadFitted plain out file mends outcome →
    outcome.put ≡ Some put → put.bytes ≡ full_save_image document
saved_accepted plain out file mends outcome document put accepted holds fitted here =
    let full = full_put out fitted.document _ _ outcome put fitted.saved here in
    full.bytes
    ∙ ap full_save_image (document_held fitted.noted file document fitted.document fitted.mends accepted holds
    fitted.document_is)

-- an accepted file is read as it is
pub fits_save_accepted : FitsSaveAccepted
fits_save_accepted plain out file outcome document put accepted holds is here =
    let one = accepted_read file is.mends is.read accepted is.read_as in
    let same : is.read ≡ file = one.read in
    saved_accepted plain out is.read is.mends outcome document put (subst IsAccepted (sym same) accepted)
    (subst (λ f. HoldsDocument f document) (sym same) holds) is.fitted here

pub fits_are_fixed : FitsAreFixed
fits_are_fixed plain plain_again out file outcome put other again put_again is here is_again here_again =
    let fitted = is.fitted in
    let document = fitted.document in
    let full = full_put out document _ _ outcome put fitted.saved here in
    let held : IsHeldInFull document = full_saves_hold document full.savable in
    let holds : HoldsDocument put.bytes document =
    subst (λ bytes. HoldsDocument bytes document) (sym full.bytes) held.holds in
    let accepted : IsAccepted put.bytes = subst (λ bytes. Hold (all_rules bytes)) (sym full.bytes) held.accepted in
    fits_save_accepted plain_again other put.bytes again document put_again accepted holds is_again here_again
    ∙ sym full.bytes
