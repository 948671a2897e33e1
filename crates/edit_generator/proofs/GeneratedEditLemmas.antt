-- The edits of the generator: each is accepted on what those before it have come to, and keeps it so.
use Rattle.std.proofs.Common.{◌≡◌, ◌∙◌, inl, inr, refl, sym, ap, subst, ℕ, zero, suc, ◌+◌, ◌/◌, ◌%◌, ◌^◌, ◌<◌}
use Rattle.std.proofs.Common.{◌≤◌, List, [], ◌∷◌, ◌++◌, length, min, None, arith, length-append}
use Rattle.std.specs.Prelude.{codes}
use Rattle.std.specs.List.{All, splice}
use Rattle.std.specs.FinMap.{empty}
use Rattle.std.specs.Fmt.{decimal}
use Rattle.std.proofs.Math.Nat.{min-le_right, le-min, mod-lt}
use Rattle.std.proofs.lemmas.Fmt.{length-decimal-le}
use Rattle.std.proofs.lemmas.List.{length-map}
use Rattle.std.proofs.lemmas.Option.{same_Some}
use Rattle.std.proofs.lemmas.List.Elements.{All-map}
use Rattle.doc_bits.specs.declared.places.Story.TheVariants.{Main}
use Rattle.doc_bits.proofs.Public.{All_at, there_is}
use Rattle.fkp_pages.specs.declared.kind.PageKind.{PageKind}
use Rattle.fkp_pages.specs.declared.kind.PageKind.TheVariants.{Chpx, Papx}
use Rattle.document_bookmarks.specs.declared.bookmark_order.Bookmark.{Bookmark}
use Rattle.document_bookmarks.specs.Order.{in_order}
use Rattle.document_bookmarks.specs.Bookmarks.{moved_bookmarks}
use Rattle.doc_model.specs.declared.item.Item.{Item}
use Rattle.doc_model.specs.declared.document.Document.{Document}
use Rattle.doc_model.specs.Blank.{blank_item, blank_document}
use Rattle.doc_model.specs.Formed.{IsFormed}
use Rattle.doc_model.specs.Marks.{main_spliced}
use Rattle.plain_doc.specs.Sound.{IsSound}
use Rattle.doc_model.specs.Stretches.{stretches}
use Rattle.doc_model.proofs.Public.{bold as bold_formed, All-one, length-splice}
use Rattle.full_save.specs.Text.{note_story, head_story, text_items}
use Rattle.full_save.specs.Runs.{joins_run}
use Rattle.full_save.specs.WordDocument.{text_offset, full_text, table_stream}
use Rattle.full_save.proofs.Public.{length-runs_from}
use Rattle.edit_script.specs.declared.commands.Command.TheVariants.{Insert, Char, Style, Split}
use Rattle.edit_ops.specs.Fresh.{base_of_item, base_properties, unit_item, unit_items, inserted_items, split_item}
use Rattle.doc_patch.specs.Places.{mark_place}
use Rattle.doc_patch.specs.Changes.{map_range, modified_item}
use Rattle.edit_ops.specs.Edits.{property_characters, naming_style, document_after}
use Rattle.edit_ops.specs.Ranges.{IsInRange}
use Rattle.edit_ops.specs.Codes.{IsPutUnit, HasValidCodes}
use Rattle.edit_ops.specs.Causes.{IsAcceptedEdit}
use Rattle.edit_generator.specs.Generated.{line_text, edit_of_rest}
use Rattle.edit_generator.specs.FewRuns.{runs_of, IsPlainAt}
use Rattle.edit_generator.specs.SmallSaves.{IsSmallDocument}
use Rattle.edit_generator.specs.GeneratedDocuments.{bold, IsBoldOrNone, IsPrinted, IsGeneratedItem, IsGeneratedText}
use Rattle.edit_generator.specs.GeneratedDocuments.{IsGeneratedDocument}
use Rattle.edit_generator.proofs.BoldLemmas.{plain}
use Rattle.edit_generator.proofs.RunCountLemmas.{count_one}
use Rattle.edit_generator.proofs.EditRunLemmas.{inserted_are, few_added}
use Rattle.edit_generator.proofs.GeneratedTextLemmas.{line_printed, letters, split_generated, put_generated}
use Rattle.edit_generator.proofs.GeneratedTextLemmas.{range_generated, length-map_range, bold_generated}
use Rattle.edit_generator.proofs.GeneratedTextLemmas.{style_generated}
use Rattle.edit_generator.proofs.GeneratedRightLemmas.{generated_sound, generated_formed, size}
use Rattle.edit_generator.proofs.GeneratedTableLemmas.{length-sepxes, length-text_items, short_table}

-- ---- the line of an insertion

pub line_short : (edit : ℕ) → edit < 10 ^ 4 → length (line_text edit) ≤ 22
line_short edit few =
    let digits = length-decimal-le 4 edit (omega arith) few (omega arith) in
    let a = length-append (codes "line ") (decimal edit ++ codes " of the text ") in
    let b = length-append (decimal edit) (codes " of the text ") in
    omega (arith, digits, a, b)

-- ---- the place of an edit

pub at_within : (document : Document) (number : ℕ) → IsGeneratedText document.main →
    number % length document.main < length document.main
at_within document number text =
    let all = size document.main text in
    mod-lt number (omega (arith, all))

plain_there : (main : List Item) (at : ℕ) → at < length main → IsGeneratedText main → IsPlainAt main at
plain_there main at within text =
    let found = there_is main at within in
    let is = All_at IsGeneratedItem main at found.0 text.each found.1 in
    record { item = found.0; here = found.1; plain = plain found.0.chp is.chp }

properties_there : (main : List Item) (at : ℕ) (there : IsPlainAt main at) → IsGeneratedText main →
    IsBoldOrNone there.item.chp
properties_there main at there text = (All_at IsGeneratedItem main at there.item text.each there.here).chp

-- ---- the document after it

none_moved : (from to count : ℕ) → moved_bookmarks from to count [] ≡ []
unfolding in_order
none_moved from to count = refl

module _ (edits at : ℕ) (document : Document) (within : at < length document.main)
    (is : IsGeneratedDocument edits document) where
  -- all else is as in the blank document
  rest_after : (main : List Item) → record document { main = main } ≡ record blank_document { main = main }
  rest_after main = ap (λ (d : Document). record d { main = main }) is.rest

  -- there are no bookmarks to be moved
  rest_spliced : (fresh : List Item) →
      main_spliced at at fresh document ≡ record blank_document { main = splice document.main at at fresh }
  rest_spliced fresh =
      let main = splice document.main at at fresh in
      ap (λ (d : Document). record d {
        main = main;
        bookmarks = moved_bookmarks at at (length fresh) d.bookmarks;
      }) is.rest
      ∙ ap (λ (list : List Bookmark). record blank_document { main = main; bookmarks = list })
      (none_moved at at (length fresh))

  module _ (some : 0 < edits + 1) (few : edits < 4000) where
    insertion : 1 ≤ (edits + 1) % 5 → (edits + 1) % 5 ≤ 2 →
        IsGeneratedDocument (edits + 1) (document_after document (Insert Main at (line_text (edits + 1))))
    insertion low high =
        let main = document.main in
        let text = line_text (edits + 1) in
        let there = plain_there main at within is.text in
        let chp = there.item.chp in
        let fresh = inserted_are main at text there in
        let items = unit_items chp text in
        let put = put_generated main items at within is.text
        (letters chp text (properties_there main at there is.text) (line_printed (edits + 1) some (omega (arith, few))))
        (All-map (λ (item : Item). item.sect ≡ None) (unit_item chp) text (λ k d inside. refl)) in
        let long = length-splice main (inserted_items main at text) at at (omega arith) (omega (arith, within)) in
        let added : length (inserted_items main at text) ≡ length text = ap length fresh ∙ length-map text
        (unit_item chp) in
        let line = line_short (edits + 1) (omega (arith, few)) in
        let was = is.items in
        let characters = few_added.insertion Chpx document at text there in
        let paragraphs = few_added.insertion Papx document at text there in
        let had_characters = is.characters in
        let had_paragraphs = is.paragraphs in
        record {
          rest = rest_spliced (inserted_items main at text);
          text = subst (λ fresh. IsGeneratedText (splice main at at fresh)) (sym fresh) put;
          items = omega (arith, long, added, line, was, low, high, within);
          characters = omega (arith, characters, had_characters);
          paragraphs = omega (arith, paragraphs, had_paragraphs);
        }

    splitting : (edits + 1) % 5 ≡ 3 → IsGeneratedDocument (edits + 1) (document_after document (Split Main at))
    splitting third =
        let main = document.main in
        let there = plain_there main at within is.text in
        let base : base_properties main at ≡ there.item.chp = ap base_of_item there.here ∙ there.plain in
        let properties = subst IsBoldOrNone (sym base) (properties_there main at there is.text) in
        let item = split_generated main at (base_properties main at) is.text.each properties in
        let fresh : List Item = split_item main at ∷ [] in
        let put = put_generated main fresh at within is.text (All-one IsGeneratedItem (split_item main at) item)
        (All-one (λ (item : Item). item.sect ≡ None) (split_item main at) refl) in
        let long = length-splice main fresh at at (omega arith) (omega (arith, within)) in
        let was = is.items in
        let characters = few_added.split_characters document at there in
        let paragraphs = few_added.split_paragraphs document at there in
        let had_characters = is.characters in
        let had_paragraphs = is.paragraphs in
        record {
          rest = rest_spliced fresh;
          text = put;
          items = omega (arith, long, was, third, within);
          characters = omega (arith, characters, had_characters);
          paragraphs = omega (arith, paragraphs, had_paragraphs, third);
        }

    property : (edits + 1) % 5 ≡ 4 →
        IsGeneratedDocument (edits + 1)
        (document_after document (Char Main at (min (at + 20) (length document.main)) bold))
    property fourth =
        let main = document.main in
        let to = min (at + 20) (length main) in
        let ordered : at ≤ to = le-min (omega arith) (omega (arith, within)) in
        let f = modified_item (property_characters bold) in
        let long = length-map_range f main at to ordered in
        let was = is.items in
        let characters = few_added.characters document at to bold ordered in
        let paragraphs = few_added.paragraphs document at to bold ordered in
        let had_characters = is.characters in
        let had_paragraphs = is.paragraphs in
        record {
          rest = rest_after (map_range f main at to);
          text = range_generated f main at to ordered bold_generated (λ item. refl) is.text;
          items = omega (arith, long, was);
          characters = omega (arith, characters, had_characters, fourth);
          paragraphs = omega (arith, paragraphs, had_paragraphs);
        }

    naming : (istd : ℕ) → istd ≤ 1 → IsGeneratedDocument (edits + 1) (document_after document (Style Main at istd))
    naming istd small =
        let main = document.main in
        let place = mark_place main at in
        let f = modified_item (naming_style istd) in
        let long = length-map_range f main place (place + 1) (omega arith) in
        let was = is.items in
        let characters = few_added.style Chpx document at istd in
        let paragraphs = few_added.style Papx document at istd in
        let had_characters = is.characters in
        let had_paragraphs = is.paragraphs in
        record {
          rest = rest_after (map_range f main place (place + 1));
          text = range_generated f main place (place + 1) (omega arith) (style_generated istd small) (λ item. refl)
              is.text;
          items = omega (arith, long, was);
          characters = omega (arith, characters, had_characters);
          paragraphs = omega (arith, paragraphs, had_paragraphs);
        }

-- ---- the edit by its number

pub edit_generated : (rest edits number : ℕ) (document : Document) → rest ≡ (edits + 1) % 5 → edits < 4000 →
    IsGeneratedDocument edits document →
    IsGeneratedDocument (edits + 1)
    (document_after document (edit_of_rest rest (edits + 1) number (length document.main)))
edit_generated zero edits number document which few is =
    naming edits (number % length document.main) document (at_within document number is.text) is (omega arith) few
    (number / 65536 % 2) (omega arith)
edit_generated (suc zero) edits number document which few is =
    insertion edits (number % length document.main) document (at_within document number is.text) is (omega arith) few
    (omega (arith, which)) (omega (arith, which))
edit_generated (suc (suc zero)) edits number document which few is =
    insertion edits (number % length document.main) document (at_within document number is.text) is (omega arith) few
    (omega (arith, which)) (omega (arith, which))
edit_generated (suc (suc (suc zero))) edits number document which few is =
    splitting edits (number % length document.main) document (at_within document number is.text) is (omega arith) few
    (sym which)
edit_generated (suc (suc (suc (suc more)))) edits number document which few is =
    property edits (number % length document.main) document (at_within document number is.text) is (omega arith) few
    (omega (arith, which))

-- ---- what it comes to is sound and small

pub items_few : (edits : ℕ) (document : Document) → edits ≤ 4000 → IsGeneratedDocument edits document →
    length document.main ≤ 36001
items_few edits document few is = let items = is.items in omega (arith, items, few)

pub document_sound : (edits : ℕ) (document : Document) → edits ≤ 4000 → IsGeneratedDocument edits document →
    IsSound document
document_sound edits document few is =
    let items = items_few edits document few is in
    subst IsSound (sym is.rest) (generated_sound document.main is.text (omega (arith, items)))

pub document_formed : (edits : ℕ) (document : Document) → edits ≤ 4000 → IsGeneratedDocument edits document →
    IsFormed document
document_formed edits document few is =
    let items = items_few edits document few is in
    subst IsFormed (sym is.rest) (generated_formed document.main is.text (omega (arith, items)))

abbrev HasShortTable : Document → Type 0
HasShortTable document =
    length (table_stream document) ≤ 600 +
    (length (full_text document).characters + length (full_text document).paragraphs)

pub document_small : (edits : ℕ) (document : Document) → edits ≤ 4000 → IsGeneratedDocument edits document →
    IsSmallDocument document
document_small edits document few is =
    let items = items_few edits document few is in
    let text = ap (λ (d : Document). length (text_items d)) is.rest ∙ length-text_items document.main in
    let sections = length-sepxes document.main is.text in
    let characters = is.characters in
    let paragraphs = is.paragraphs in
    record {
      items = omega (arith, text, items);
      characters = omega (arith, characters, few);
      paragraphs = omega (arith, paragraphs, few);
      sections = omega (arith, sections);
      table = subst HasShortTable (sym is.rest) (short_table document.main is.text);
      streams = ap (λ (d : Document). d.carried.streams) is.rest;
    }

-- ---- it is accepted

put_units : (text : List ℕ) → All IsPrinted text → All IsPutUnit text
put_units text printed k d within = inl (printed k d within).low

in_range : (rest edits number : ℕ) (document : Document) → IsGeneratedText document.main →
    IsInRange document (edit_of_rest rest edits number (length document.main))
in_range zero edits number document text = at_within document number text
in_range (suc zero) edits number document text = at_within document number text
in_range (suc (suc zero)) edits number document text = at_within document number text
in_range (suc (suc (suc zero))) edits number document text = at_within document number text
in_range (suc (suc (suc (suc more)))) edits number document text =
    let main = length document.main in
    let at = number % main in
    let within = at_within document number text in
    let next : at + 1 ≤ min (at + 20) main = le-min (omega arith) (omega (arith, within)) in
    (omega (arith, next), min-le_right (at + 20) main)

has_codes : (rest edit number main : ℕ) → 0 < edit → edit < 10 ^ 4 → HasValidCodes (edit_of_rest rest edit number main)
has_codes zero edit number main some few = tt
has_codes (suc zero) edit number main some few =
    let short = line_short edit few in
    (put_units (line_text edit) (line_printed edit some (omega (arith, few))), omega (arith, short))
has_codes (suc (suc zero)) edit number main some few =
    let short = line_short edit few in
    (put_units (line_text edit) (line_printed edit some (omega (arith, few))), omega (arith, short))
has_codes (suc (suc (suc zero))) edit number main some few = tt
has_codes (suc (suc (suc (suc more)))) edit number main some few = bold_formed

pub edit_accepted : (rest edits number : ℕ) (document : Document) → rest ≡ (edits + 1) % 5 → edits < 4000 →
    IsGeneratedDocument edits document →
    IsAcceptedEdit document (edit_of_rest rest (edits + 1) number (length document.main))
edit_accepted rest edits number document which few is = record {
  tried = record {
    range = in_range rest (edits + 1) number document is.text;
    codes = has_codes rest (edits + 1) number (length document.main) (omega arith) (omega (arith, few));
  };
  sound =
      document_sound (edits + 1) (document_after document (edit_of_rest rest (edits + 1) number (length document.main)))
      (omega (arith, few)) (edit_generated rest edits number document which few is);
}

-- ---- the blank document

blank_runs : (kind : PageKind) → runs_of kind blank_document ≡ 1
unfolding text_items note_story head_story
blank_runs kind =
    length-runs_from kind text_offset (stretches (joins_run kind) (text_items blank_document))
    ∙ count_one (joins_run kind) blank_item

blank_item_generated : IsGeneratedItem blank_item
blank_item_generated = record {
  chp = inl refl;
  fld = refl;
  note = refl;
  kind = inr (record {
    unit = refl;
    mark = record { istd = 0; pap = empty };
    has = refl;
    style = omega arith;
    pap = refl;
    sect = λ sect here. sym (same_Some empty sect here);
  });
}

pub blank_generated : IsGeneratedDocument 0 blank_document
blank_generated =
    let characters = blank_runs Chpx in
    let paragraphs = blank_runs Papx in
    record {
      rest = refl;
      text = record { each = All-one IsGeneratedItem blank_item blank_item_generated; front = 0; sections = refl };
      items = omega arith;
      characters = omega (arith, characters);
      paragraphs = omega (arith, paragraphs);
    }
