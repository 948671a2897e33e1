-- The terms of the laws, for crates above.
use Rattle.std.proofs.Common.{◌∙◌, sym}
use Rattle.doc_bits.specs.Places.{Upto}
use Rattle.doc_bits.proofs.Public.{least_of_all}
use Rattle.plain_doc.specs.Sound.{document_rules, FirstDocFaultIsLeast, SoundSheetIsWritable}
use Rattle.plain_doc.specs.RightDocument.{SoundDocumentsAreValid}
use Rattle.doc_model.specs.Settings.{EqualPropertiesAreSame}
use Rattle.doc_model.specs.Stretches.{ItemsAreCutIntoStretches, StretchesAreOne}
use Rattle.doc_model.proofs.Public.{are_stretches, stretches_only, same_properties-Decides}
use Rattle.plain_doc.proofs.RightLemmas.{sound_is_valid, right_is_sound}
use Rattle.plain_doc.proofs.SoundLemmas.{document_rules-IsSingle, document_rules-Ascends}

pub first_fault_least : FirstDocFaultIsLeast
first_fault_least document number place first =
    least_of_all Upto (document_rules document) 60 72 number place (document_rules-IsSingle document)
    (document_rules-Ascends document) first

pub sound_are_valid : SoundDocumentsAreValid
sound_are_valid document = (sound_is_valid document, right_is_sound document)

pub sound_sheet_writable : SoundSheetIsWritable
sound_sheet_writable document sound = (sound_is_valid document sound).writable

pub cut_into_stretches : ItemsAreCutIntoStretches
cut_into_stretches joins items = are_stretches joins items

pub one_cut : StretchesAreOne
one_cut joins items one other cut another =
    stretches_only joins items one cut ∙ sym (stretches_only joins items other another)

pub equal_are_same : EqualPropertiesAreSame
equal_are_same one other = same_properties-Decides one other
