use Rattle.std.proofs.Common.{[], ◌∷◌, subst}
use Rattle.fib_form.specs.TableParts.{pair_number}
use Rattle.fib_form.specs.declared.table_parts.TablePart.TheVariants.{Stshf, PlcffndRef, PlcffndTxt, PlcfSed}
use Rattle.fib_form.specs.declared.table_parts.TablePart.TheVariants.{PlcfHdd, PlcfBteChpx, PlcfBtePapx, SttbfFfn}
use Rattle.fib_form.specs.declared.table_parts.TablePart.TheVariants.{PlcfFldMom, PlcfFldHdr, PlcfFldFtn, SttbfBkmk}
use Rattle.fib_form.specs.declared.table_parts.TablePart.TheVariants.{PlcfBkf, PlcfBkl, Dop, SttbfAssoc, Clx, PlfLst}
use Rattle.fib_form.specs.declared.table_parts.TablePart.TheVariants.{PlfLfo}
use Rattle.fib_form.specs.TableEntries.{entry}
use Rattle.full_save.specs.TableStream.{AreWritten}
use Rattle.full_save.proofs.made_parts.table_of.Goals as goal

pub returns : goal.returns
returns c =
    let front = c.in_ok-put_all.ensures _ c.new-table.ensures in
    let lists = c.in_ok-put_lists.ensures.part _ front in
    let all = c.in_ok-put.ensures.part _ lists in
    let sheet = c.as_slice.ensures in
    let refs = c.as_slice-2.ensures in
    let note_cuts = c.as_slice-3.ensures in
    let sections = c.as_slice-4.ensures in
    let head_cuts = c.as_slice-5.ensures in
    let characters = c.as_slice-6.ensures in
    let paragraphs = c.as_slice-7.ensures in
    let fonts = c.as_slice-8.ensures in
    let main_fields = c.as_slice-9.ensures in
    let head_fields = c.as_slice-10.ensures in
    let note_fields = c.as_slice-11.ensures in
    let names = c.as_slice-12.ensures in
    let starts = c.as_slice-13.ensures in
    let ends = c.as_slice-14.ensures in
    let dop = c.as_slice-15.ensures in
    let assoc = c.as_slice-16.ensures in
    let clx = c.as_slice-17.ensures in
    let lst = c.as_slice-18.ensures in
    let levels = c.as_slice-19.ensures in
    let lfo = c.as_slice-20.ensures in
    subst (λ parts. AreWritten parts c.put.new.self)
    (λ i.
    entry (pair_number Stshf) (sheet i)
    ∷ entry (pair_number PlcffndRef) (refs i)
    ∷ entry (pair_number PlcffndTxt) (note_cuts i)
    ∷ entry (pair_number PlcfSed) (sections i)
    ∷ entry (pair_number PlcfHdd) (head_cuts i)
    ∷ entry (pair_number PlcfBteChpx) (characters i)
    ∷ entry (pair_number PlcfBtePapx) (paragraphs i)
    ∷ entry (pair_number SttbfFfn) (fonts i)
    ∷ entry (pair_number PlcfFldMom) (main_fields i)
    ∷ entry (pair_number PlcfFldHdr) (head_fields i)
    ∷ entry (pair_number PlcfFldFtn) (note_fields i)
    ∷ entry (pair_number SttbfBkmk) (names i)
    ∷ entry (pair_number PlcfBkf) (starts i)
    ∷ entry (pair_number PlcfBkl) (ends i)
    ∷ entry (pair_number Dop) (dop i)
    ∷ entry (pair_number SttbfAssoc) (assoc i)
    ∷ entry (pair_number Clx) (clx i)
    ∷ record { number = pair_number PlfLst; bytes = lst i; behind = levels i }
    ∷ entry (pair_number PlfLfo) (lfo i)
    ∷ []) all
