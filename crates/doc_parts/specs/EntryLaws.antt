-- What holds of each kind of entry: its size, and that the CP that is read is the CP of the entry.
use Rattle.std.specs.Prelude.{◌≡◌, ◌%◌, slice_index}
use Rattle.std.proofs.Common.{refl, sym, ap}
use Rattle.std.proofs.lemmas.Option.{same_Some, cond_some}
use Rattle.doc_parts.specs.declared.lists.Sed.{Sed}
use Rattle.doc_parts.specs.declared.lists.Fld.{Fld}
use Rattle.doc_parts.specs.declared.lists.NoteRef.{NoteRef}
use Rattle.doc_parts.specs.Table.{KeepsCp}
use Rattle.doc_parts.specs.Sections.{sed_form}
use Rattle.doc_parts.specs.Fields.{is_field_unit, fld_form}
use Rattle.doc_parts.specs.Stories.{ref_form, cut_form}
use Rattle.doc_parts.specs.declared.bookmark_print.Start.{Start}
use Rattle.doc_parts.specs.PrintedBookmarks.{start_form}

pub sed-sized : 12 ≡ sed_form.size
sed-sized = refl

pub sed-keeps_cp : KeepsCp sed_form
sed-keeps_cp cp bytes entry h = sym (ap (λ (sed : Sed). sed.start) (same_Some _ entry h))

pub fld-sized : 2 ≡ fld_form.size
fld-sized = refl

pub fld-keeps_cp : KeepsCp fld_form
fld-keeps_cp cp bytes entry h = sym (ap (λ (fld : Fld). fld.cp) (cond_some (is_field_unit (slice_index bytes 0 % 32))
    _ entry h).1)

pub ref-sized : 2 ≡ ref_form.size
ref-sized = refl

pub ref-keeps_cp : KeepsCp ref_form
ref-keeps_cp cp bytes entry h = sym (ap (λ (reference : NoteRef). reference.cp) (same_Some _ entry h))

pub cut-sized : 0 ≡ cut_form.size
cut-sized = refl

pub cut-keeps_cp : KeepsCp cut_form
cut-keeps_cp cp bytes entry h = sym (same_Some cp entry h)

pub start-sized : 4 ≡ start_form.size
start-sized = refl

pub start-keeps_cp : KeepsCp start_form
start-keeps_cp cp bytes entry h = sym (ap (λ (start : Start). start.cp) (same_Some _ entry h))
