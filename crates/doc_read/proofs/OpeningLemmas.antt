-- A file is opened layer by layer: what a layer refuses the file refuses, and what the layers hold the file holds.
use Rattle.std.proofs.Common.{refl, ℕ, List}
use Rattle.doc_bits.specs.declared.places.Where.TheVariants.{File}
use Rattle.doc_bits.specs.Rules.{Hold, given}
use Rattle.doc_bits.specs.Places.{rules_in}
use Rattle.cfb_streams.specs.Contents.{Contents}
use Rattle.cfb_streams.specs.Container.{container_rules, HasContents}
use Rattle.fib_form.specs.FibFields.{FibFields}
use Rattle.piece_table.specs.Piece.{TextPiece}
use Rattle.doc_model.specs.declared.document.Document.{Document}
use Rattle.plain_doc.specs.Sound.{IsSound, document_rules}
use Rattle.file_rules.specs.declared.fault.ReadFault.{ReadFault}
use Rattle.file_rules.specs.Faults.{IsReadFault}
use Rattle.file_rules.specs.FileRules.{contents_rules, file_rules}
use Rattle.file_rules.proofs.Public.{refused-first, refused-next, refused-given}
use Rattle.doc_read.specs.Holds.{HoldsDocument, all_rules}
use Rattle.doc_read.specs.Opened.{IsFoundIn, OpenedFile, IsOpened}

-- the container is refused
pub file-refused-container : (file : List ℕ) (fault : ReadFault) →
    IsReadFault (rules_in File (container_rules file)) fault → IsReadFault (all_rules file) fault
file-refused-container file fault refused =
    refused-first (file_rules file) (given (HoldsDocument file) document_rules) fault
    (refused-first (rules_in File (container_rules file)) (given (HasContents file) contents_rules) fault refused)

-- the streams are refused
pub file-refused-contents : (file : List ℕ) (contents : Contents) (fault : ReadFault) →
    Hold (rules_in File (container_rules file)) → HasContents file contents →
    IsReadFault (contents_rules contents) fault → IsReadFault (all_rules file) fault
file-refused-contents file contents fault holds has refused =
    refused-first (file_rules file) (given (HoldsDocument file) document_rules) fault
    (refused-next (rules_in File (container_rules file)) (given (HasContents file) contents_rules) fault holds
    (refused-given (HasContents file) contents_rules contents fault has refused))

-- the document is refused
pub file-refused-document : (file : List ℕ) (document : Document) (fault : ReadFault) → HoldsDocument file document →
    IsReadFault (document_rules document) fault → IsReadFault (all_rules file) fault
file-refused-document file document fault holds refused =
    refused-next (file_rules file) (given (HoldsDocument file) document_rules) fault holds.rules
    (refused-given (HoldsDocument file) document_rules document fault holds refused)

-- the document that is found is the one that the file holds
pub holds-found : (file : List ℕ) (contents : Contents) (document : Document) (fib : FibFields) (pieces : List
    TextPiece) →
    Hold (rules_in File (container_rules file)) → HasContents file contents → Hold (contents_rules contents) →
    IsFoundIn contents document fib pieces → HoldsDocument file document
holds-found file contents document fib pieces container has holds found =
    let from = found.document_is in
    record {
      rules = (container, (contents, (has, holds)));
      parts = record { contents = contents; text = found.text; lists = found.lists; sections = from.sections };
      has_parts = record {
        has_contents = has;
        has_text = found.has_text;
        has_lists = found.has_lists;
        has_sections = from.has_sections;
      };
      document_is = from.document_is;
    }

-- and what is found beside it is of the same parts
pub opened-found : (file : List ℕ) (opened : OpenedFile) → Hold (rules_in File (container_rules file)) →
    HasContents file opened.contents → Hold (contents_rules opened.contents) →
    IsFoundIn opened.contents opened.document opened.fib opened.pieces → IsSound opened.document → IsOpened file opened
unfolding holds-found
opened-found file opened container has rules found sound =
    let holds = holds-found file opened.contents opened.document opened.fib opened.pieces container has rules found in
    record {
      accepted = (holds.rules, (opened.document, (holds, sound.rules)));
      holds = holds;
      sound = sound;
      contents = refl;
      fib = found.fib_is;
      pieces = found.pieces_are;
    }
