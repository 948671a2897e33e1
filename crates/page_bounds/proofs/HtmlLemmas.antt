-- A page in HTML is as long as its document.
use Rattle.std.proofs.Common.{◌≡◌, ℕ, ◌+◌, ◌-◌, ◌*◌, ◌<◌, ◌≤◌, Bool, true, false, List, [], ◌∷◌, ◌++◌, map, length, suc}
use Rattle.std.proofs.Common.{Option, None, Some, refl, sym, ap, subst, ◌∙◌, arith, if◌then◌else◌, length-append}
use Rattle.std.proofs.Common.{length-take}
use Rattle.std.specs.Prelude.{slice_get, encode_utf8_all, codes, nat_lt, option_map}
use Rattle.std.proofs.lemmas.Nat.{mul-le}
use Rattle.std.specs.List.{filter_map, flat_map, sum_by}
use Rattle.std.proofs.lemmas.List.Sums.{sum_by-cons}
use Rattle.doc_model.specs.declared.document.Document.{Document}
use Rattle.plain_doc.specs.RulesOfSheet.{item_count}
use Rattle.document_bookmarks.specs.declared.bookmark_order.Bookmark.{Bookmark}
use Rattle.text_codes.specs.Digits.{byte_text, word_text}
use Rattle.text_codes.specs.Shown.{is_pair, pair_code}
use Rattle.field_links.specs.Characters.{character_alone, characters}
use Rattle.field_links.specs.Urls.{anchor_character, anchor_name, anchor_text, hex_text, is_anchor_character}
use Rattle.link_targets.specs.Links.{bookmark_name}
use Rattle.view_paths.specs.Paths.{PathPlace}
use Rattle.view_paths.specs.Openings.{opened_from}
use Rattle.view_paths.proofs.Public.{shown_cost, total, total-both, total-less}
use Rattle.view_places.specs.declared.element.Element.{Element}
use Rattle.view_places.specs.declared.element.Element.TheVariants.{Anchor}
use Rattle.view_places.specs.declared.glyph.Glyph.{Glyph}
use Rattle.view_places.specs.declared.glyph.Glyph.TheVariants.{Unit, Tab, LineBreak, PageBreak, NoteMark, Picture}
use Rattle.view_places.specs.declared.glyph.Glyph.TheVariants.{Object}
use Rattle.view_places.specs.Same.{same}
use Rattle.view_places.proofs.Public.{IsSmall}
use Rattle.doc_pictures.specs.Files.{ImageFiles}
use Rattle.html_text.specs.Tokens.{escaped, escaped_text}
use Rattle.html_page.specs.Sources.{PageSource}
use Rattle.html_page.specs.Pages.{Head, page_text}
use Rattle.html_page.specs.Pages.{characters as characters_of}
use Rattle.html_page.proofs.Public.{anchor_size, anchor_tags, line_break_size, note_mark_size, object_size}
use Rattle.html_page.proofs.Public.{page_break_size, page_size, picture_size, show_size, size-escaped_text, small_tags}
use Rattle.html_page.proofs.Public.{tab_size, tags_size, tokens_size, units_size}
use Rattle.doc_view.proofs.Public.{IsSmallNumber, IsSmall as IsSmallGlyph}
use Rattle.doc_view.specs.declared.reading.Seen.{Seen}
use Rattle.doc_view.specs.declared.view.Options.{Options}
use Rattle.doc_view.specs.Page.{header_manner}
use Rattle.doc_view.specs.Seen.{Formats, Paragraph, paragraphs_of}
use Rattle.doc_places.specs.Places.{Places, label_of, consecutive, document_places}
use Rattle.doc_html.specs.Head.{page_head, is_title_text, longest_title, seen_unit, title_in, document_title}
use Rattle.doc_html.specs.Head.{title_units, untitled}
use Rattle.html_page.specs.Lengths.{AreShortImages, address_bytes}
use Rattle.page_bounds.specs.Addresses.{name_units}
use Rattle.page_bounds.specs.Laws.{HtmlPagesAreShort}
use Rattle.page_bounds.proofs.CostLemmas.{AreSmall, Costs, IsShape, each}
use Rattle.page_bounds.proofs.TextLemmas.{IsLabelCost, document_cost, numbered_total, sum_is}

-- ---- the names of bookmarks

alone_few : (test : Bool) (code : ℕ) (text : List ℕ) → length text ≤ 6 → length (if test then code ∷ [] else text) ≤ 6
alone_few true code text few = omega arith
alone_few false code text few = few

hex_few : (test : Bool) (one other : List ℕ) → length one ≤ 4 → length other ≤ 4 → length (if test then one else
    other) ≤ 4
hex_few true one other a b = a
hex_few false one other a b = b

character_few : (code : ℕ) → length (anchor_character code) ≤ 6
character_few code =
    let hex = hex_text code in
    let digits : length hex ≤ 4 = hex_few (nat_lt code 256) (byte_text code) (word_text code) (omega arith) (omega
    arith) in
    alone_few (is_anchor_character code) code (46 ∷ (hex ++ 46 ∷ [])) (omega (
      arith,
      digits,
      length-append hex (46 ∷
          []),
    ))

characters_few : (units : List ℕ) → length (characters units) ≤ length units
unfolding characters
characters_few [] = omega arith
characters_few (unit ∷ []) = omega arith
characters_few (first ∷ second ∷ rest) =
    elim (is_pair first second) as (λ (b : Bool). length (if b then pair_code first second ∷ characters rest else
    character_alone first ∷ characters (second ∷ rest)) ≤ suc (suc (length rest))) [
      | true ↦ omega (arith, characters_few rest)
      | false ↦ omega (arith, characters_few (second ∷ rest))
    ]

codes_few : (text : List ℕ) → length (flat_map anchor_character text) ≤ 6 * length text
codes_few [] = omega arith
codes_few (code ∷ text) =
    let long : length (anchor_character code ++ flat_map anchor_character text) ≤ 6 * suc (length text) =
    omega (
      arith,
      character_few code,
      codes_few text,
      length-append (anchor_character code) (flat_map anchor_character text),
    ) in
    long

name_few : (name : List ℕ) → length (anchor_name name) ≤ 3 + 6 * length name
name_few name =
    let front : length (codes "bm-") ≡ 3 = refl in
    omega (
      arith,
      front,
      characters_few name,
      codes_few (characters name),
      length-append (codes "bm-") (anchor_text name),
    )

name_size : (name : List ℕ) → anchor_size (Some name) ≤ 18 + 36 * length name
name_size name = omega (arith, name_few name, size-escaped_text (anchor_name name))

-- ---- costs

-- what an element costs, but for the address of a link
abbrev own_size : Document → Element → ℕ
own_size document e = tags_size document e - address_bytes document e

small_size : (document : Document) (e : Element) → IsSmall e → own_size document e ≤ 63
small_size document e small = omega (arith, small_tags document e small)

glyph_few : (images : ImageFiles) (most : ℕ) → AreShortImages images most → (glyph : Glyph) → IsSmallGlyph glyph →
    show_size images glyph ≤ 54 + most
glyph_few images most short (Unit unit) small = omega arith
glyph_few images most short Tab small = omega (arith, tab_size images)
glyph_few images most short LineBreak small = omega (arith, line_break_size images)
glyph_few images most short PageBreak small = omega (arith, page_break_size images)
glyph_few images most short (NoteMark number) small = omega (arith, note_mark_size images number small)
glyph_few images most short (Picture place) small = picture_size images place most (short place)
glyph_few images most short Object small = omega (arith, object_size images)

abbrev costs : PageSource → ℕ → Costs
costs source most = record {
  shape = λ place. place;
  outer = λ block. block;
  cost = own_size source.document;
  show = show_size source.images;
  element = 63;
  extra = 0;
  glyph = 54 + most;
  unit = 6;
}

are_small : (source : PageSource) (most : ℕ) → AreShortImages source.images most → AreSmall (costs source most)
are_small source most short = record {
  elements = λ e small. omega (arith, small_size source.document e small);
  glyphs = glyph_few source.images most short;
  units = λ code. omega arith;
  tab = tab_size source.images;
  line_break = line_break_size source.images;
}

is_shape : (source : PageSource) (most : ℕ) → IsShape (costs source most)
is_shape source most = record {
  inside = λ block outer place. refl;
  less_outer = λ block. omega arith;
  less_path = λ place. omega arith;
  less_shown = λ place. omega arith;
  label = λ glyph. refl;
}

unshaped : (places : Places) → map (λ (place : PathPlace Element Glyph). place) places ≡ places
unshaped [] = refl
unshaped (place ∷ places) = ap (λ (more : Places). place ∷ more) (unshaped places)

label_few : (images : ImageFiles) → IsLabelCost (show_size images) 54
label_few images None small = omega arith
label_few images (Some number) small = note_mark_size images number small

-- a bookmark of the document, and its name
named_cost : (document : Document) (number : ℕ) → own_size document (Anchor number) ≤ 20 + anchor_size (bookmark_name
    document number)
named_cost document number = omega (arith, anchor_tags document number)

abbrev bookmark_cost : Option Bookmark → ℕ
bookmark_cost found = 20 + anchor_size (option_map (λ bookmark. bookmark.name) found)

bookmarks_cost : (document : Document) → total (λ number. own_size document (Anchor number)) (consecutive 0 (length
    document.bookmarks)) ≤ 38 * length document.bookmarks + 36 * name_units document
bookmarks_cost document =
    let list = document.bookmarks in
    let places = consecutive 0 (length list) in
    let named = λ (bookmark : Bookmark). 36 * length bookmark.name in
    omega (
      arith,
      total-less (λ (number : ℕ). own_size document (Anchor number)) (λ number. bookmark_cost (slice_get list number))
          (named_cost document) places,
      numbered_total bookmark_cost list,
      total-less (λ (bookmark : Bookmark). bookmark_cost (Some bookmark)) (λ bookmark. 38 + named bookmark) (λ bookmark.
          omega (arith, name_size bookmark.name)) list,
      total-both (λ (bookmark : Bookmark). 38) named list,
      each 38 list,
      units_total list,
    )
  where
    units_total : (list : List Bookmark) → total (λ (bookmark : Bookmark). 36 * length bookmark.name) list ≡ 36 *
        sum_by (λ
        bookmark. length bookmark.name) list
    units_total [] = refl
    units_total (bookmark ∷ list) =
        let sum = sum_by-cons (λ (bookmark : Bookmark). length bookmark.name) bookmark list in
        let long : 36 * length bookmark.name + total (λ (bookmark : Bookmark). 36 * length bookmark.name) list ≡ 36 *
        sum_by
        (λ bookmark. length bookmark.name) (bookmark ∷ list) =
        omega (arith, sum, units_total list) in
        long

-- ---- the title

title_few : (paragraphs : List Paragraph) → length (title_in paragraphs) ≤ 80
unfolding title_in
title_few [] =
    let few : length (codes "Untitled") ≡ 8 = refl in
    omega (arith, few)
title_few (paragraph ∷ more) =
    elim (is_title_text (title_units paragraph.items)) as (λ (b : Bool). length (if b then title_units paragraph.items
    else
    title_in more) ≤ 80)
    [ true ↦ omega (arith, length-take 80 (filter_map seen_unit paragraph.items)) | false ↦ title_few more ]

title_size : (formats : Formats) (options : Options) (document : Document) → tokens_size (characters_of (page_head
    formats
    options document).title) ≤ 480
title_size formats options document =
    let units = document_title formats options document in
    omega (
      arith,
      units_size None units,
      title_few (paragraphs_of formats (header_manner options document) document.main),
    )

-- ---- the page

parted : (document : Document) (e : Element) → tags_size document e ≤ own_size document e + address_bytes document e
parted document e = omega arith

pub html_short : HtmlPagesAreShort
html_short options source most bytes sound short page =
    let document = source.document in
    let places = document_places page.formats page.values options document in
    let head = page_head page.formats options document in
    let own = own_size document in
    let opened = opened_from same [] places in
    let text : length bytes ≡ length (encode_utf8_all (page_text source head places)) =
    ap (λ (b : List ℕ). length b) page.text in
    let spread : (((63 * 15 + 0 * 6) + ((63 + 6 * 65) + (63 * 8 + (54 + most)))) + (63 * 3 + 54)) * item_count
    document ≤ (2200 +
    most) * item_count document =
    mul-le (((63 * 15 + 0 * 6) + ((63 + 6 * 65) + (63 * 8 + (54 + most)))) + (63 * 3 + 54)) (item_count document)
    (2200 + most)
    (item_count document) (omega arith) (omega arith) in
    omega (
      arith,
      text,
      spread,
      page_size source head places,
      title_size page.formats options document,
      total-less (tags_size document) (λ e. own e + address_bytes document e) (parted document) opened,
      total-both own (address_bytes document) opened,
      sum_is (address_bytes document) opened,
      document_cost (costs source most) 54 (are_small source most short) (is_shape source most) (label_few
          source.images)
          page.formats page.values options document sound page.are_values,
      ap (λ (all : Places). total own (opened_from same [] all) + shown_cost (show_size source.images) all) (unshaped
          places),
      bookmarks_cost document,
    )
