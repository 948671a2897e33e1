-- The parts of the table stream, as they are made.
use Rattle.std.proofs.Common.{◌≡◌, ◌∙◌, ap, [], ◌∷◌}
use Rattle.fib_form.specs.TableParts.{pair_number}
use Rattle.fib_form.specs.declared.table_parts.TablePart.TheVariants.{Stshf, PlcffndRef, PlcffndTxt, PlcfSed}
use Rattle.fib_form.specs.declared.table_parts.TablePart.TheVariants.{PlcfHdd, PlcfBteChpx, PlcfBtePapx, SttbfFfn}
use Rattle.fib_form.specs.declared.table_parts.TablePart.TheVariants.{PlcfFldMom, PlcfFldHdr, PlcfFldFtn, SttbfBkmk}
use Rattle.fib_form.specs.declared.table_parts.TablePart.TheVariants.{PlcfBkf, PlcfBkl, Dop, SttbfAssoc, Clx, PlfLst}
use Rattle.fib_form.specs.declared.table_parts.TablePart.TheVariants.{PlfLfo}
use Rattle.fib_form.specs.TableEntries.{entry}
use Rattle.doc_model.specs.declared.document.Document.{Document}
use Rattle.full_save.specs.declared.table_text.TableText.{TableText}
use Rattle.full_save.specs.declared.made_parts.MadeParts.{MadeParts}
use Rattle.full_save.specs.TableText.{table_entries}
use Rattle.full_save.specs.Made.{AreMadeOf, made_entries}

pub made_are : (document : Document) (text : TableText) (made : MadeParts) → AreMadeOf document text made →
    made_entries document.carried text made ≡ table_entries document text
made_are document text made are = λ i.
    entry (pair_number Stshf) (are.sheet i)
    ∷ entry (pair_number PlcffndRef) (are.refs i)
    ∷ entry (pair_number PlcffndTxt) (are.note_cuts i)
    ∷ entry (pair_number PlcfSed) (are.sections i)
    ∷ entry (pair_number PlcfHdd) (are.head_cuts i)
    ∷ entry (pair_number PlcfBteChpx) text.characters
    ∷ entry (pair_number PlcfBtePapx) text.paragraphs
    ∷ entry (pair_number SttbfFfn) document.carried.fonts
    ∷ entry (pair_number PlcfFldMom) (are.fields.main i)
    ∷ entry (pair_number PlcfFldHdr) (are.fields.heads i)
    ∷ entry (pair_number PlcfFldFtn) (are.fields.notes i)
    ∷ entry (pair_number SttbfBkmk) (are.marks.names i)
    ∷ entry (pair_number PlcfBkf) (are.marks.starts i)
    ∷ entry (pair_number PlcfBkl) (are.marks.ends i)
    ∷ entry (pair_number Dop) document.carried.dop
    ∷ entry (pair_number SttbfAssoc) document.carried.assoc
    ∷ entry (pair_number Clx) text.clx
    ∷ record { number = pair_number PlfLst; bytes = document.carried.lst; behind = document.carried.levels }
    ∷ entry (pair_number PlfLfo) document.carried.lfo
    ∷ []

-- the same, of the parts that are carried along as they are seen
pub made_seen : (document seen : Document) (text : TableText) (made : MadeParts) → seen ≡ document →
    AreMadeOf document text made → made_entries seen.carried text made ≡ table_entries document text
made_seen document seen text made same are =
    ap (λ (d : Document). made_entries d.carried text made) same ∙ made_are document text made are
