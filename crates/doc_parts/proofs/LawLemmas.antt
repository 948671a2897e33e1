-- Printed lists break no rule, and they alone are read back.
use Rattle.std.proofs.Common.{◌≤◌, ◌<◌, ◌^◌, None, List, ℕ, length, map, get_or, sym, subst, arith}
use Rattle.std.specs.Prelude.{All, IsTrue}
use Rattle.std.proofs.lemmas.List.{map-id}
use Rattle.std.proofs.lemmas.List.Elements.{All-weaker}
use Rattle.doc_parts.specs.declared.lists.Sed.{Sed}
use Rattle.doc_parts.specs.declared.lists.Fld.{Fld}
use Rattle.doc_parts.specs.Cps.{AreCpsInOrder}
use Rattle.doc_parts.specs.Table.{plc_part}
use Rattle.doc_parts.specs.Sections.{sed_form, sed_cps, printed_sections, SectionsAreReadBack}
use Rattle.doc_parts.specs.Fields.{is_field_unit, fld_form, fld_cps, printed_fields, FieldsAreReadBack}
use Rattle.doc_parts.specs.Stories.{ref_form, ref_cps, printed_refs, RefsAreReadBack, cut_form, cut_cps}
use Rattle.doc_parts.specs.Stories.{printed_texts, CutsAreReadBack}
use Rattle.doc_parts.proofs.ReadBackLemmas.{IsSpelled, IsPrinted, AreEntries-unique, printed_list, printed_holds}
use Rattle.doc_parts.proofs.EntryLemmas.{sed-IsSpelled, fld-IsSpelled, ref-IsSpelled, cut-IsSpelled}
use Rattle.doc_parts.proofs.SectionLemmas.{section_rule}

pub sections_back : SectionsAreReadBack
sections_back list at main_len last printable =
    let bytes : List ℕ = printed_sections list main_len in
    let spelled : All (IsSpelled sed_form) list = All-weaker (λ (sed : Sed). sed.sepx < 2 ^ 32) (IsSpelled sed_form)
    sed-IsSpelled list printable.numbers in
    let printed : IsPrinted sed_form (sed_cps main_len) bytes list = printed_list sed_form (sed_cps main_len) list
    last printable.in_order spelled in
    let full : 20 ≤ length bytes = (let some = printable.some in let all = printed.entries.all in omega arith) in (
      section_rule bytes at main_len None full (printed_holds sed_form (sed_cps main_len) bytes at list printed),
      (
        printed.entries,
        λ read are. AreEntries-unique sed_form (sed_cps main_len) (plc_part 12 bytes) read list are
            printed.entries,
      ),
    )

pub fields_back : FieldsAreReadBack
fields_back list at story_len last printable =
    let bytes : List ℕ = printed_fields list story_len in
    let spelled : All (IsSpelled fld_form) list = All-weaker (λ (fld : Fld). IsTrue (is_field_unit fld.unit))
    (IsSpelled fld_form) fld-IsSpelled list printable.kinds in
    let printed : IsPrinted fld_form (fld_cps story_len) bytes list = printed_list fld_form (fld_cps story_len) list
    last printable.in_order spelled in (
      printed_holds fld_form (fld_cps story_len) bytes at list printed,
      (
        printed.entries,
        λ read are. AreEntries-unique fld_form (fld_cps story_len) (plc_part 2 bytes) read list are
            printed.entries,
      ),
    )

pub refs_back : RefsAreReadBack
refs_back list at main_len last in_order =
    let bytes : List ℕ = printed_refs list main_len in
    let printed : IsPrinted ref_form (ref_cps main_len) bytes list = printed_list ref_form (ref_cps main_len) list
    last in_order (λ k d h. ref-IsSpelled (get_or list k d)) in (
      printed_holds ref_form (ref_cps main_len) bytes at list printed,
      (
        printed.entries,
        λ read are. AreEntries-unique ref_form (ref_cps main_len) (plc_part 2 bytes) read list are
            printed.entries,
      ),
    )

pub texts_back : CutsAreReadBack
texts_back number list at story_len last in_order =
    let bytes : List ℕ = printed_texts list story_len in
    let cps : AreCpsInOrder (cut_cps story_len) (map cut_form.cp_of list) = subst (AreCpsInOrder (cut_cps story_len))
    (sym (map-id list)) in_order in
    let printed : IsPrinted cut_form (cut_cps story_len) bytes list = printed_list cut_form (cut_cps story_len) list
    last cps (λ k d h. cut-IsSpelled (get_or list k d)) in (
      printed_holds cut_form (cut_cps story_len) bytes at list printed,
      (
        printed.entries,
        λ read are. AreEntries-unique cut_form (cut_cps story_len) (plc_part 0 bytes) read list are
            printed.entries,
      ),
    )
