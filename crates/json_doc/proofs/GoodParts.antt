-- The values of the parts of a document are good: their texts are read back.
use Rattle.std.proofs.Common.{◌≡◌, ◌≤◌, ◌<◌, ◌^◌, ℕ, List, [], ◌∷◌, Option, Some, None}
use Rattle.std.proofs.Common.{map, refl, sym, subst, arith, All}
use Rattle.std.specs.Prelude.{⊤, codes, option_map}
use Rattle.std.specs.Option.{ForSome}
use Rattle.std.specs.FinMap.{entries}
use Rattle.std.specs.Ordering.{nat_cmp}
use Rattle.std.specs.declared.cmp.Ordering.TheVariants.{Less}
use Rattle.std.specs.Cmp.Lexicographic.{slice_cmp}
use Rattle.json.proofs.Printed.Utf8.{IsUtf8-are_ascii}
use Rattle.serde_json.specs.Data.{no_items, no_members, member, depth, members_depth}
use Rattle.serde_json.specs.View.{items_of}
use Rattle.doc_bits.specs.Number.{AreBytes}
use Rattle.prop_map.specs.Settings.{Properties}
use Rattle.style_sheet.specs.declared.styles.Style.{Style}
use Rattle.style_sheet.specs.Formed.{IsFormedSlot, IsFormedSheet}
use Rattle.style_sheet.specs.Sheet.{Sheet}
use Rattle.doc_model.specs.declared.item.Item.{Item}
use Rattle.doc_model.specs.declared.item.Mark.{Mark}
use Rattle.doc_model.specs.declared.item.NoteKind.{NoteKind}
use Rattle.doc_model.specs.declared.item.NoteKind.TheVariants.{Auto, Custom}
use Rattle.doc_model.specs.declared.carried.Carried.{Carried}
use Rattle.doc_model.specs.declared.document.Document.{Document}
use Rattle.doc_model.specs.Document.{IsFormedText, AreFormedTexts}
use Rattle.doc_model.specs.Formed.{IsFormed, IsFormedCarried}
use Rattle.doc_model.specs.Stretches.{stretches}
use Rattle.cfb_streams.specs.Contents.{NamedBytes, IsStored}
use Rattle.document_bookmarks.specs.declared.bookmark_order.Bookmark.{Bookmark}
use Rattle.document_bookmarks.specs.Bookmarks.{HasFileNumbers}
use Rattle.json_values.specs.Digits.{bytes_json, units_json, AreUnits}
use Rattle.json_values.specs.Rows.{number_json, member_if}
use Rattle.json_values.specs.Settings.{properties_json, properties_members, AreSpelt}
use Rattle.json_values.proofs.Public.{digits_one, properties_one}
use Rattle.json_doc.specs.declared.pieces.Piece.{Piece}
use Rattle.json_doc.specs.Pieces.{is_one_piece, mark_json, note_json, piece_json, piece_members, stretch_json}
use Rattle.json_doc.specs.Pieces.{text_json}
use Rattle.json_doc.specs.Pieces.{texts_json}
use Rattle.json_doc.specs.Styles.{base_json, chp_of_kind, pap_of_kind, stk_of_kind, upxes_of_kind, lists_json}
use Rattle.json_doc.specs.Styles.{style_json, style_members, slot_json, slots_json, numbers_json, sheet_json}
use Rattle.json_doc.specs.CarriedParts.{stream_json, streams_json, carried_members, carried_json}
use Rattle.json_doc.specs.Documents.{bookmark_json, bookmarks_json, document_members, json_value}
use Rattle.json_doc.proofs.CarriedLemmas.{carried_bytes, stored_all}
use Rattle.json_doc.proofs.CutTextLemmas.{IsGoodPart, AreGood, piece_for, good_stretches}
use Rattle.json_doc.proofs.GoodLemmas.{IsGood, AreGoodItems, good_null, good_number, good_string}
use Rattle.json_doc.proofs.GoodLemmas.{no_good_items, good_item, good_array, good_list, no_good_members}
use Rattle.json_doc.proofs.GoodLemmas.{good_member, good_member_if, good_if, good_object, below_if, ascend_if, wider}
use Rattle.json_doc.proofs.PieceReadLemmas.{IsSpeltMark, IsSpeltPiece, piece_spelt}
use Rattle.json_doc.proofs.StyleReadLemmas.{IsSpeltStyle, style_spelt, all_units}

-- ---- fields

members_flat : (es : List (ℕ × List ℕ)) → members_depth (properties_members es) ≤ 0
members_flat [] = omega arith
members_flat (e ∷ es) = let rest = members_flat es in omega (arith, rest)

properties_shallow : (set : Properties) → depth (properties_json set) ≤ 1
properties_shallow set = let flat = members_flat (entries set) in omega (arith, flat)

good_properties : (set : Properties) → AreSpelt set → IsGood 1 (properties_json set)
good_properties set spelt = record {
  plain = properties_one.plain set spelt;
  texts = properties_one.texts set spelt;
  shallow = properties_shallow set;
}

good_bytes : (n : ℕ) (bytes : List ℕ) → AreBytes bytes → IsGood n (bytes_json bytes)
good_bytes n bytes are = good_string n _ (digits_one.bytes_texts bytes are)

good_units : (n : ℕ) (units : List ℕ) → AreUnits units → IsGood n (units_json units)
good_units n units are = good_string n _ (digits_one.units_texts units are)

-- ---- pieces

good_mark : (mark : Mark) → IsSpeltMark mark → IsGood 2 (mark_json mark)
good_mark m is =
    good_object 1 _ ((refl, tt), (tt, tt))
    (good_member 1 (codes "p") (properties_json m.pap) _ (IsUtf8-are_ascii (codes "p") refl) (good_properties m.pap is.pap)
    (good_member 1 (codes "s") (number_json m.istd) no_members (IsUtf8-are_ascii (codes "s") refl)
    (let small = is.istd in good_number 1 m.istd (omega (arith, small))) (no_good_members 1)))

good_note : (note : NoteKind) → ⊤ → IsGood 2 (note_json note)
good_note Auto is = good_string 2 (codes "auto") (IsUtf8-are_ascii (codes "auto") refl)
good_note Custom is = good_string 2 (codes "custom") (IsUtf8-are_ascii (codes "custom") refl)

pub good_piece : (piece : Piece) → IsSpeltPiece piece → IsGood 3 (piece_json piece)
good_piece p is =
    let x = option_map properties_json p.sect in
    let n = option_map note_json p.note in
    let m = option_map mark_json p.mark in
    let f = option_map number_json p.fld in
    let from_x = member_if (codes "x") x no_members in
    let from_t = member (codes "t") (units_json p.units) from_x in
    let from_n = member_if (codes "n") n from_t in
    let from_m = member_if (codes "m") m from_n in
    let from_f = member_if (codes "f") f from_m in
    let one = λ (set : Properties) (spelt : AreSpelt set). wider 1 2 (properties_json set) (omega arith)
    (good_properties set
    spelt) in
    good_object 2 (piece_members p) (
      below_if (codes "c") (codes "f") f from_m refl (below_if (codes "c") (codes "m") m from_n refl
          (below_if (codes "c") (codes "n") n from_t refl
          (refl, below_if (codes "c") (codes "x") x no_members refl tt))),
      ascend_if (codes "f") f from_m
          (below_if (codes "f") (codes "m") m from_n refl (below_if (codes "f") (codes "n") n from_t refl
          (refl, below_if (codes "f") (codes "x") x no_members refl tt)))
          (ascend_if (codes "m") m from_n (below_if (codes "m") (codes "n") n from_t refl
          (refl, below_if (codes "m") (codes "x") x no_members refl tt))
          (ascend_if (codes "n") n from_t (refl, below_if (codes "n") (codes "x") x no_members refl tt)
          (below_if (codes "t") (codes "x") x no_members refl tt, ascend_if (codes "x") x no_members tt tt))),
    )
    (good_member 2 (codes "c") (properties_json p.chp) from_f (IsUtf8-are_ascii (codes "c") refl) (one p.chp is.chp)
    (good_member_if 2 (codes "f") f from_m (IsUtf8-are_ascii (codes "f") refl)
    (good_if 2 number_json _ (λ b small. good_number 2 b (omega (arith, small))) p.fld is.fld)
    (good_member_if 2 (codes "m") m from_n (IsUtf8-are_ascii (codes "m") refl)
    (good_if 2 mark_json _ good_mark p.mark is.mark)
    (good_member_if 2 (codes "n") n from_t (IsUtf8-are_ascii (codes "n") refl)
    (good_if 2 note_json _ good_note p.note is.note)
    (good_member 2 (codes "t") (units_json p.units) from_x (IsUtf8-are_ascii (codes "t") refl)
    (good_units 2 p.units is.units)
    (good_member_if 2 (codes "x") x no_members (IsUtf8-are_ascii (codes "x") refl)
    (good_if 2 properties_json _ one p.sect is.sect)
    (no_good_members 2)))))))

good_stretch : (part : List Item) → IsGoodPart part → IsGood 3 (stretch_json part)
good_stretch part is =
    let made = piece_for part is in
    subst (IsGood 3) (sym made.json) (good_piece made.piece (piece_spelt made.piece made.formed))

good_parts : (parts : List (List Item)) → AreGood parts → AreGoodItems 3 (items_of (map stretch_json parts))
good_parts [] good = no_good_items 3
good_parts (p ∷ ps) good = good_item 3 (stretch_json p) _ (good_stretch p good.0) (good_parts ps good.1)

pub good_text : (text : List Item) → IsFormedText text → IsGood 4 (text_json text)
good_text text formed = good_array 3 _ (good_parts (stretches is_one_piece text) (good_stretches text formed))

good_texts : (texts : List (List Item)) → AreFormedTexts texts → IsGood 5 (texts_json texts)
good_texts texts formed = good_list 4 text_json IsFormedText good_text texts formed.each

-- ---- styles

good_base : (base : Option ℕ) → ForSome base (λ b. b < 2 ^ 16) → IsGood 1 (base_json base)
good_base None is = good_null 1
good_base (Some b) is = let small = is b refl in good_number 1 b (omega (arith, small))

pub good_style : (style : Style) → IsSpeltStyle style → IsGood 2 (style_json style)
good_style s is =
    let k = s.kind in
    let u = option_map lists_json (upxes_of_kind k) in
    let stk = option_map number_json (stk_of_kind k) in
    let p = option_map properties_json (pap_of_kind k) in
    let c = option_map properties_json (chp_of_kind k) in
    let from_u = member_if (codes "upxes") u no_members in
    let from_stk = member_if (codes "stk") stk from_u in
    let from_sti = member (codes "sti") (number_json s.sti) from_stk in
    let from_par = member_if (codes "par") p from_sti in
    let from_next = member (codes "next") (number_json s.next) from_par in
    let from_name = member (codes "name") (units_json s.name) from_next in
    let from_grfstd = member (codes "grfstd") (number_json s.grfstd) from_name in
    let from_flags = member (codes "flags") (number_json s.flags) from_grfstd in
    let from_char = member_if (codes "char") c from_flags in
    let last = λ (key : List ℕ) (a : slice_cmp nat_cmp key (codes "stk") ≡ Less) (b : slice_cmp nat_cmp key (codes
    "upxes") ≡ Less). below_if key (codes "stk") stk from_u a (below_if key (codes "upxes") u no_members b tt) in
    let end = λ (key : List ℕ) (par : slice_cmp nat_cmp key (codes "par") ≡ Less) (sti : slice_cmp nat_cmp key (codes
    "sti") ≡ Less) (a : slice_cmp nat_cmp key (codes "stk") ≡ Less) (b : slice_cmp nat_cmp key (codes
    "upxes") ≡ Less). below_if key (codes "par") p from_sti par (sti, last key a b) in
    good_object 1 (style_members s) (
      below_if (codes "base") (codes "char") c from_flags refl
          (refl, (refl, (refl, (refl, end (codes "base") refl refl refl refl)))),
      ascend_if (codes "char") c from_flags (refl, (refl, (refl, (refl, end (codes "char") refl refl refl refl)))) (
        (refl, (refl, (refl, end (codes "flags") refl refl refl refl))),
        (
          (refl, (refl, end (codes "grfstd") refl refl refl refl)),
          (
            (refl, end (codes "name") refl refl refl refl),
            (
              end (codes "next") refl refl refl refl,
              ascend_if (codes "par") p from_sti (refl, last (codes "par") refl refl) (
                last (codes "sti") refl refl,
                ascend_if (codes "stk") stk from_u (below_if (codes "stk") (codes "upxes") u no_members refl tt)
                    (ascend_if (codes "upxes") u no_members tt tt),
              ),
            ),
          ),
        ),
      ),
    )
    (good_member 1 (codes "base") (base_json s.base) from_char (IsUtf8-are_ascii (codes "base") refl)
    (good_base s.base is.base)
    (good_member_if 1 (codes "char") c from_flags (IsUtf8-are_ascii (codes "char") refl)
    (good_if 1 properties_json AreSpelt good_properties (chp_of_kind k) is.chp)
    (good_member 1 (codes "flags") (number_json s.flags) from_grfstd (IsUtf8-are_ascii (codes "flags") refl)
    (let small = is.flags in good_number 1 s.flags (omega (arith, small)))
    (good_member 1 (codes "grfstd") (number_json s.grfstd) from_name (IsUtf8-are_ascii (codes "grfstd") refl)
    (let small = is.grfstd in good_number 1 s.grfstd (omega (arith, small)))
    (good_member 1 (codes "name") (units_json s.name) from_next (IsUtf8-are_ascii (codes "name") refl)
    (good_units 1 s.name is.name)
    (good_member 1 (codes "next") (number_json s.next) from_par (IsUtf8-are_ascii (codes "next") refl)
    (let small = is.next in good_number 1 s.next (omega (arith, small)))
    (good_member_if 1 (codes "par") p from_sti (IsUtf8-are_ascii (codes "par") refl)
    (good_if 1 properties_json AreSpelt good_properties (pap_of_kind k) is.pap)
    (good_member 1 (codes "sti") (number_json s.sti) from_stk (IsUtf8-are_ascii (codes "sti") refl)
    (let small = is.sti in good_number 1 s.sti (omega (arith, small)))
    (good_member_if 1 (codes "stk") stk from_u (IsUtf8-are_ascii (codes "stk") refl)
    (good_if 1 number_json _ (λ b small. good_number 1 b (omega (arith, small))) (stk_of_kind k) is.stk)
    (good_member_if 1 (codes "upxes") u no_members (IsUtf8-are_ascii (codes "upxes") refl)
    (good_if 1 lists_json (All AreBytes) (λ lists are. good_list 0 bytes_json AreBytes (good_bytes 0) lists are)
    (upxes_of_kind k) is.upxes)
    (no_good_members 1)))))))))))

good_slot : (slot : Option Style) → IsFormedSlot slot → IsGood 2 (slot_json slot)
good_slot None formed = good_null 2
good_slot (Some style) formed = good_style style (style_spelt style formed)

good_sheet : (sheet : Sheet) → IsFormedSheet sheet → IsGood 4 (sheet_json sheet)
good_sheet sheet formed =
    good_object 3 _ ((refl, tt), (tt, tt))
    (good_member 3 (codes "head") (numbers_json sheet.head) _ (IsUtf8-are_ascii (codes "head") refl)
    (wider 1 3 (numbers_json sheet.head) (omega arith)
    (good_list 0 number_json (λ n. n < 65536) (λ n small. good_number 0 n (omega (arith, small))) sheet.head
    formed.words))
    (good_member 3 (codes "styles") (slots_json sheet.styles) no_members (IsUtf8-are_ascii (codes "styles") refl)
    (good_list 2 slot_json IsFormedSlot good_slot sheet.styles formed.styles) (no_good_members 3)))

-- ---- what is carried, and bookmarks

good_stream : (s : NamedBytes) → IsStored s.name s.bytes → IsGood 1 (stream_json s)
good_stream s is =
    good_array 0 _ (good_item 0 (units_json s.name) _ (good_units 0 s.name is.units)
    (good_item 0 (bytes_json s.bytes) no_items (good_bytes 0 s.bytes is.small) (no_good_items 0)))

short_fits : (n m : ℕ) → m < 2 ^ 16 → IsGood n (number_json m)
short_fits n m small = good_number n m (omega (arith, small))

good_carried : (c : Carried) → IsFormedCarried c → IsGood 3 (carried_json c)
good_carried c formed =
    let is = carried_bytes c formed in
    good_object 2 (carried_members c) (
      (refl, (refl, (refl, (refl, (refl, (refl, (refl, (refl, (refl, (refl, tt)))))))))),
      (
        (refl, (refl, (refl, (refl, (refl, (refl, (refl, (refl, (refl, tt))))))))),
        (
          (refl, (refl, (refl, (refl, (refl, (refl, (refl, (refl, tt)))))))),
          (
            (refl, (refl, (refl, (refl, (refl, (refl, (refl, tt))))))),
            (
              (refl, (refl, (refl, (refl, (refl, (refl, tt)))))),
              (
                (refl, (refl, (refl, (refl, (refl, tt))))),
                (
                  (refl, (refl, (refl, (refl, tt)))),
                  ((refl, (refl, (refl, tt))), ((refl, (refl, tt)), ((refl, tt), (tt, tt)))),
                ),
              ),
            ),
          ),
        ),
      ),
    )
    (good_member 2 (codes "assoc") (bytes_json c.assoc) _ (IsUtf8-are_ascii (codes "assoc") refl)
    (good_bytes 2 c.assoc is.assoc)
    (good_member 2 (codes "clsid") (bytes_json c.clsid) _ (IsUtf8-are_ascii (codes "clsid") refl)
    (good_bytes 2 c.clsid is.clsid)
    (good_member 2 (codes "dop") (bytes_json c.dop) _ (IsUtf8-are_ascii (codes "dop") refl) (good_bytes 2 c.dop is.dop)
    (good_member 2 (codes "flags") (number_json c.flags) _ (IsUtf8-are_ascii (codes "flags") refl)
    (short_fits 2 c.flags is.flags)
    (good_member 2 (codes "fonts") (bytes_json c.fonts) _ (IsUtf8-are_ascii (codes "fonts") refl)
    (good_bytes 2 c.fonts is.fonts)
    (good_member 2 (codes "levels") (bytes_json c.levels) _ (IsUtf8-are_ascii (codes "levels") refl)
    (good_bytes 2 c.levels is.levels)
    (good_member 2 (codes "lfo") (bytes_json c.lfo) _ (IsUtf8-are_ascii (codes "lfo") refl) (good_bytes 2 c.lfo is.lfo)
    (good_member 2 (codes "lid") (number_json c.lid) _ (IsUtf8-are_ascii (codes "lid") refl) (short_fits 2 c.lid is.lid)
    (good_member 2 (codes "lidfe") (number_json c.lid_fe) _ (IsUtf8-are_ascii (codes "lidfe") refl)
    (short_fits 2 c.lid_fe is.lid_fe)
    (good_member 2 (codes "lst") (bytes_json c.lst) _ (IsUtf8-are_ascii (codes "lst") refl) (good_bytes 2 c.lst is.lst)
    (good_member 2 (codes "streams") (streams_json c.streams) no_members (IsUtf8-are_ascii (codes "streams") refl)
    (good_list 1 stream_json (λ s. IsStored s.name s.bytes) good_stream c.streams (stored_all c.streams formed.stored))
    (no_good_members 2))))))))))))

good_bookmark : (b : Bookmark) → HasFileNumbers b → IsGood 1 (bookmark_json b)
good_bookmark b is =
    good_array 0 _ (good_item 0 (units_json b.name) _ (good_units 0 b.name (all_units b.name is.units))
    (good_item 0 (number_json b.from) _ (let small = is.from in good_number 0 b.from (omega (arith, small)))
    (good_item 0 (number_json b.to) _ (let small = is.to in good_number 0 b.to (omega (arith, small)))
    (good_item 0 (number_json b.flags) no_items (short_fits 0 b.flags is.flags) (no_good_items 0)))))

-- ---- the document

pub good_document : (document : Document) → IsFormed document → IsGood 6 (json_value document)
good_document d formed =
    good_object 5 (document_members d) (
      (refl, (refl, (refl, (refl, (refl, tt))))),
      ((refl, (refl, (refl, (refl, tt)))), ((refl, (refl, (refl, tt))), ((refl, (refl, tt)), ((refl, tt), (tt, tt))))),
    )
    (good_member 5 (codes "bookmarks") (bookmarks_json d.bookmarks) _ (IsUtf8-are_ascii (codes "bookmarks") refl)
    (wider 2 5 (bookmarks_json d.bookmarks) (omega arith)
    (good_list 1 bookmark_json HasFileNumbers good_bookmark d.bookmarks formed.bookmarks))
    (good_member 5 (codes "carried") (carried_json d.carried) _ (IsUtf8-are_ascii (codes "carried") refl)
    (wider 3 5 (carried_json d.carried) (omega arith) (good_carried d.carried formed.carried))
    (good_member 5 (codes "heads") (texts_json d.heads) _ (IsUtf8-are_ascii (codes "heads") refl)
    (good_texts d.heads formed.heads)
    (good_member 5 (codes "main") (text_json d.main) _ (IsUtf8-are_ascii (codes "main") refl)
    (wider 4 5 (text_json d.main) (omega arith) (good_text d.main formed.main))
    (good_member 5 (codes "notes") (texts_json d.notes) _ (IsUtf8-are_ascii (codes "notes") refl)
    (good_texts d.notes formed.notes)
    (good_member 5 (codes "sheet") (sheet_json d.sheet) no_members (IsUtf8-are_ascii (codes "sheet") refl)
    (wider 4 5 (sheet_json d.sheet) (omega arith) (good_sheet d.sheet formed.sheet)) (no_good_members 5)))))))
