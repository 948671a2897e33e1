-- What is carried along is no matter of the rules on documents.
use Rattle.std.proofs.Common.{◌≡◌, ◌∙◌, sym, refl}
use Rattle.doc_bits.specs.declared.places.Where.{Where}
use Rattle.doc_bits.specs.declared.places.Where.TheVariants.{File, Wd, Table, Sheet, Main, Note, Head}
use Rattle.doc_model.specs.declared.carried.Carried.{Carried}
use Rattle.doc_model.specs.declared.document.Document.{Document}
use Rattle.plain_doc.specs.RulesOfTexts.{text_of_place}
use Rattle.plain_doc.specs.Sound.{IsSound}
use Rattle.plain_doc.proofs.Public.{sound_is_valid, right_is_sound}

text_of-carried : (document : Document) (carried : Carried) (part : Where) →
    text_of_place (record document { carried = carried }) part ≡ text_of_place document part
text_of-carried document carried File = refl
text_of-carried document carried Wd = refl
text_of-carried document carried Table = refl
text_of-carried document carried Sheet = refl
text_of-carried document carried Main = refl
text_of-carried document carried (Note number) = refl
text_of-carried document carried (Head number) = refl

-- a sound document stays sound, whatever it carries
pub sound_with_carried : (document : Document) (carried : Carried) → IsSound document →
    IsSound (record document { carried = carried })
sound_with_carried document carried sound =
    let right = sound_is_valid document sound in
    right_is_sound (record document { carried = carried }) (record {
      texts = λ part text there. right.texts part text (sym (text_of-carried document carried part) ∙ there);
      notes = right.notes;
      heads = right.heads;
      few = right.few;
      bases = right.bases;
      short = right.short;
      writable = right.writable;
      bookmarks = right.bookmarks;
      few_bookmarks = right.few_bookmarks;
      names = right.names;
    })
