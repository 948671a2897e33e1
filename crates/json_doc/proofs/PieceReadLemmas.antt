-- Marks, notes and pieces are read as what they were written for, and from no other value.
use Rattle.std.proofs.Common.{◌≡◌, ◌<◌, ◌^◌, ℕ, Bool, true, false, List, Option, Some, None}
use Rattle.std.proofs.Common.{refl, ap, ◌∙◌, subst}
use Rattle.std.specs.Prelude.{⊤, codes, bytes_eq, option_map, if◌then◌else◌}
use Rattle.std.specs.Option.{ForSome}
use Rattle.std.proofs.lemmas.Option.{none-some, same_Some}
use Rattle.std.proofs.lemmas.Slice.Eq.{bytes_eq-Decides}
use Rattle.serde_json.specs.Data.{Data, string, object, no_members, member}
use Rattle.serde_json.specs.Find.{as_object, as_str}
use Rattle.edit_script.specs.Values.{byte_number, short_number, properties_of}
use Rattle.doc_model.specs.declared.item.Mark.{Mark}
use Rattle.doc_model.specs.declared.item.NoteKind.{NoteKind}
use Rattle.doc_model.specs.declared.item.NoteKind.TheVariants.{Auto, Custom}
use Rattle.json_values.specs.Digits.{units_json, hex_units_of, AreUnits}
use Rattle.json_values.specs.Plain.{HasKeysInOrder, MembersHaveKeysInOrder}
use Rattle.json_values.specs.Rows.{number_json, member_if, need, may, no_member_left}
use Rattle.json_values.specs.Settings.{properties_json, AreSpelt}
use Rattle.json_doc.specs.declared.pieces.Piece.{Piece}
use Rattle.json_doc.specs.Pieces.{mark_json, note_json, piece_members, piece_json}
use Rattle.prop_map.specs.Formed.{character_groups, paragraph_groups, section_groups}
use Rattle.json_values.proofs.Public.{properties_one, object_is, step_found, string_is}
use Rattle.json_doc.specs.PieceReading.{mark_of, note_with_name, note_kind_of, piece_of, IsFormedPiece}
use Rattle.json_doc.proofs.FieldLemmas.{numbers_one, units_are_one, properties_are_one}
use Rattle.json_doc.proofs.RowLemmas.{AreOne, then_found, need_one, need_back, may_one, may_back}
use Rattle.json_doc.proofs.RowLemmas.{lacks_if, ended_is}

-- ---- a mark

-- its numbers and properties can be written
pub record IsSpeltMark (mark : Mark) : Type 0 where
  pub pap : AreSpelt mark.pap
  pub istd : mark.istd < 2 ^ 16

mark_back : (mark : Mark) → IsSpeltMark mark → mark_of (mark_json mark) ≡ Some mark
mark_back mark is =
    let last = member (codes "s") (number_json mark.istd) no_members in
    let start = member (codes "p") (properties_json mark.pap) last in
    then_found (need (codes "p") properties_of start) _ (mark.pap, last) mark
    (need_back properties_are_one (codes "p") mark.pap last is.pap)
    (then_found (need (codes "s") short_number last) _ (mark.istd, no_members) mark
    (need_back (numbers_one (2 ^ 16)) (codes "s") mark.istd no_members is.istd) refl)

mark_one : (value : Data) (mark : Mark) → HasKeysInOrder value → mark_of value ≡ Some mark →
    IsSpeltMark mark × (value ≡ mark_json mark)
mark_one value mark order e =
    let a = step_found (as_object value) _ mark e in
    let is = object_is value a.0 a.1 in
    let ordered : MembersHaveKeysInOrder a.0 = (subst HasKeysInOrder is order).0 in
    let b = step_found (need (codes "p") properties_of a.0) _ mark a.2 in
    let pap = need_one properties_are_one (codes "p") a.0 b.0 ordered b.1 in
    let c = step_found (need (codes "s") short_number b.0.1) _ mark b.2 in
    let istd = need_one (numbers_one (2 ^ 16)) (codes "s") b.0.1 c.0 pap.order c.1 in
    let d = step_found (no_member_left c.0.1) _ mark c.2 in
    let last = ended_is c.0.1 d.0 d.1 in
    let made : record { istd = c.0.0; pap = b.0.0 } ≡ mark = same_Some _ mark d.2 in
    subst (λ m. IsSpeltMark m × (value ≡ mark_json m)) made (
      record { pap = pap.right; istd = istd.right },
      is ∙ ap object (pap.members ∙ ap (member (codes "p") (properties_json b.0.0)) (istd.members
          ∙ ap (member (codes "s") (number_json c.0.0)) last)),
    )

pub marks_one : AreOne mark_of mark_json IsSpeltMark
marks_one = record { back = mark_back; one = mark_one }

-- ---- a note

abbrev named_by : Bool → Bool → Option NoteKind
named_by auto custom = if auto then Some Auto else if custom then Some Custom else None

note_by : (auto custom : Bool) (word : List ℕ) (note : NoteKind) → (auto ≡ true → word ≡ codes "auto") →
    (custom ≡ true → word ≡ codes "custom") → named_by auto custom ≡ Some note → string word ≡ note_json note
note_by true custom word note a c e = ap string (a refl) ∙ ap note_json (same_Some Auto note e)
note_by false true word note a c e = ap string (c refl) ∙ ap note_json (same_Some Custom note e)
note_by false false word note a c e = absurd (none-some note e)

note_back : (note : NoteKind) → ⊤ → note_kind_of (note_json note) ≡ Some note
note_back Auto is = refl
note_back Custom is = refl

note_one : (value : Data) (note : NoteKind) → HasKeysInOrder value → note_kind_of value ≡ Some note →
    ⊤ × (value ≡ note_json note)
note_one value note order e =
    let a = step_found (as_str value) note_with_name note e in (
      tt,
      string_is value a.0 a.1
          ∙ note_by (bytes_eq a.0 (codes "auto")) (bytes_eq a.0 (codes "custom")) a.0 note
          (bytes_eq-Decides a.0 (codes "auto")).0 (bytes_eq-Decides a.0 (codes "custom")).0 a.2,
    )

pub notes_one : AreOne note_kind_of note_json (λ note. ⊤)
notes_one = record { back = note_back; one = note_one }

-- ---- a piece

-- its numbers and properties can be written
pub record IsSpeltPiece (piece : Piece) : Type 0 where
  pub chp : AreSpelt piece.chp
  pub fld : ForSome piece.fld (λ byte. byte < 2 ^ 8)
  pub mark : ForSome piece.mark IsSpeltMark
  pub note : ForSome piece.note (λ note. ⊤)
  pub units : AreUnits piece.units
  pub sect : ForSome piece.sect AreSpelt

piece_back : (piece : Piece) → IsSpeltPiece piece → piece_of (piece_json piece) ≡ Some piece
piece_back p is =
    let from_x = member_if (codes "x") (option_map properties_json p.sect) no_members in
    let from_t = member (codes "t") (units_json p.units) from_x in
    let from_n = member_if (codes "n") (option_map note_json p.note) from_t in
    let from_m = member_if (codes "m") (option_map mark_json p.mark) from_n in
    let from_f = member_if (codes "f") (option_map number_json p.fld) from_m in
    then_found (need (codes "c") properties_of (piece_members p)) _ (p.chp, from_f) p
    (need_back properties_are_one (codes "c") p.chp from_f is.chp)
    (then_found (may (codes "f") byte_number from_f) _ (p.fld, from_m) p
    (may_back (numbers_one (2 ^ 8)) (codes "f") p.fld from_m is.fld
    (lacks_if (codes "f") (codes "m") (option_map mark_json p.mark) from_n refl
    (lacks_if (codes "f") (codes "n") (option_map note_json p.note) from_t refl refl)))
    (then_found (may (codes "m") mark_of from_m) _ (p.mark, from_n) p
    (may_back marks_one (codes "m") p.mark from_n is.mark
    (lacks_if (codes "m") (codes "n") (option_map note_json p.note) from_t refl refl))
    (then_found (may (codes "n") note_kind_of from_n) _ (p.note, from_t) p
    (may_back notes_one (codes "n") p.note from_t is.note refl)
    (then_found (need (codes "t") hex_units_of from_t) _ (p.units, from_x) p
    (need_back units_are_one (codes "t") p.units from_x is.units)
    (then_found (may (codes "x") properties_of from_x) _ (p.sect, no_members) p
    (may_back properties_are_one (codes "x") p.sect no_members is.sect tt) refl)))))

piece_one : (value : Data) (piece : Piece) → HasKeysInOrder value → piece_of value ≡ Some piece →
    IsSpeltPiece piece × (value ≡ piece_json piece)
piece_one value piece order e =
    let a = step_found (as_object value) _ piece e in
    let is = object_is value a.0 a.1 in
    let ordered : MembersHaveKeysInOrder a.0 = (subst HasKeysInOrder is order).0 in
    let b = step_found (need (codes "c") properties_of a.0) _ piece a.2 in
    let chp = need_one properties_are_one (codes "c") a.0 b.0 ordered b.1 in
    let c = step_found (may (codes "f") byte_number b.0.1) _ piece b.2 in
    let fld = may_one (numbers_one (2 ^ 8)) (codes "f") b.0.1 c.0 chp.order c.1 in
    let d = step_found (may (codes "m") mark_of c.0.1) _ piece c.2 in
    let mark = may_one marks_one (codes "m") c.0.1 d.0 fld.order d.1 in
    let f = step_found (may (codes "n") note_kind_of d.0.1) _ piece d.2 in
    let note = may_one notes_one (codes "n") d.0.1 f.0 mark.order f.1 in
    let g = step_found (need (codes "t") hex_units_of f.0.1) _ piece f.2 in
    let units = need_one units_are_one (codes "t") f.0.1 g.0 note.order g.1 in
    let h = step_found (may (codes "x") properties_of g.0.1) _ piece g.2 in
    let sect = may_one properties_are_one (codes "x") g.0.1 h.0 units.order h.1 in
    let i = step_found (no_member_left h.0.1) _ piece h.2 in
    let last = ended_is h.0.1 i.0 i.1 in
    let found : Piece = record {
      chp = b.0.0;
      fld = c.0.0;
      mark = d.0.0;
      note = f.0.0;
      units = g.0.0;
      sect = h.0.0;
    } in
    let made : found ≡ piece = same_Some found piece i.2 in
    subst (λ m. IsSpeltPiece m × (value ≡ piece_json m)) made (
      record {
        chp = chp.right;
        fld = fld.right;
        mark = mark.right;
        note = note.right;
        units = units.right;
        sect = sect.right;
      },
      is ∙ ap object (chp.members ∙ ap (member (codes "c") (properties_json found.chp))
          (fld.members ∙ ap (member_if (codes "f") (option_map number_json found.fld))
          (mark.members ∙ ap (member_if (codes "m") (option_map mark_json found.mark))
          (note.members ∙ ap (member_if (codes "n") (option_map note_json found.note))
          (units.members ∙ ap (member (codes "t") (units_json found.units))
          (sect.members ∙ ap (member_if (codes "x") (option_map properties_json found.sect)) last)))))),
    )

pub pieces_one : AreOne piece_of piece_json IsSpeltPiece
pieces_one = record { back = piece_back; one = piece_one }

-- a right piece of right numbers can be written
pub piece_spelt : (piece : Piece) → IsFormedPiece piece → IsSpeltPiece piece
piece_spelt p formed = record {
  chp = properties_one.formed character_groups p.chp formed.0.chp;
  fld = formed.1.field;
  mark = λ m is. record {
    pap = properties_one.formed paragraph_groups m.pap (formed.0.pap m is);
    istd = formed.1.style m is;
  };
  note = λ n is. tt;
  units = formed.1.units;
  sect = λ set is. properties_one.formed section_groups set (formed.0.sect set is);
}
