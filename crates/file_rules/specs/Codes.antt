-- The codes by which proofs tell values apart, where parts of them have codes of their own.
use Rattle.std.specs.Prelude.{ℕ, List, refl}
use Rattle.std.specs.Coded.{Coded, code_by, coded×, coded_ℕ, coded_list}
use Rattle.piece_table.specs.Piece.{TextPiece}
use Rattle.piece_table.specs.Codes.{piece_code}
use Rattle.style_sheet.specs.Sheet.{Sheet, sheet_code}
use Rattle.doc_parts.specs.declared.lists.Sed.{Sed}
use Rattle.doc_parts.specs.declared.lists.Fld.{Fld}
use Rattle.doc_parts.specs.declared.lists.NoteRef.{NoteRef}
use Rattle.document_bookmarks.specs.declared.bookmark_order.Bookmark.{Bookmark}
use Rattle.document_bookmarks.specs.contracts.bookmark_order.Bookmark as bookmark
use Rattle.doc_parts.specs.contracts.lists.Sed as sed
use Rattle.doc_parts.specs.contracts.lists.Fld as fld
use Rattle.doc_parts.specs.contracts.lists.NoteRef as ref
use Rattle.file_rules.specs.PartRules.{PartLists}
use Rattle.file_rules.specs.FileRules.{FileText}

abbrev pub text_code : Coded FileText
text_code =
    code_by (List ℕ × (List ℕ × List TextPiece))
    (coded× (coded_list coded_ℕ) (coded× (coded_list coded_ℕ) (coded_list piece_code)))
    (λ t. (t.wd, (t.table, t.pieces)))
    (λ p. record { wd = p.0; table = p.1.0; pieces = p.1.1 })
    (λ _. refl)

-- the fields of the three stories
abbrev FieldLists : Type 0
FieldLists = List Fld × (List Fld × List Fld)

abbrev field_lists : PartLists → FieldLists
field_lists parts = (parts.main_fields, (parts.note_fields, parts.head_fields))

-- the references, the cuts of the notes and of the header texts, the levels, and the bookmarks
abbrev OtherLists : Type 0
OtherLists = List NoteRef × (List ℕ × (List ℕ × (List ℕ × List Bookmark)))

abbrev others_of : PartLists → OtherLists
others_of parts = (parts.refs, (parts.notes, (parts.heads, (parts.levels, parts.bookmarks))))

abbrev numbers_code : Coded (List ℕ)
numbers_code = coded_list coded_ℕ

abbrev fields_code : Coded (List Fld)
fields_code = coded_list fld.the_row.coded

abbrev others_code : Coded OtherLists
others_code =
    coded× (coded_list ref.the_row.coded)
    (coded× numbers_code (coded× numbers_code (coded× numbers_code (coded_list bookmark.the_row.coded))))

abbrev pub parts_code : Coded PartLists
parts_code =
    code_by (List Sed × (Sheet × (FieldLists × OtherLists)))
    (coded× (coded_list sed.the_row.coded)
    (coded× sheet_code
    (coded× (coded× fields_code (coded× fields_code fields_code)) others_code)))
    (λ p. (p.sections, (p.sheet, (field_lists p, others_of p))))
    (λ q. record {
      sections = q.0;
      sheet = q.1.0;
      main_fields = q.1.1.0.0;
      note_fields = q.1.1.0.1.0;
      head_fields = q.1.1.0.1.1;
      refs = q.1.1.1.0;
      notes = q.1.1.1.1.0;
      heads = q.1.1.1.1.1.0;
      levels = q.1.1.1.1.1.1.0;
      bookmarks = q.1.1.1.1.1.1.1;
    })
    (λ _. refl)
