-- A page in Markdown is as long as its document.
use Rattle.std.proofs.Common.{◌≡◌, ℕ, ◌+◌, ◌-◌, ◌*◌, ◌<◌, ◌≤◌, false, List, [], ◌∷◌, ◌++◌, length, Option, None, Some}
use Rattle.std.proofs.Common.{refl, ap, arith}
use Rattle.std.specs.Prelude.{encode_utf8_all}
use Rattle.std.specs.List.{sum_by}
use Rattle.std.proofs.lemmas.Nat.{mul-le}
use Rattle.doc_model.specs.declared.document.Document.{Document}
use Rattle.plain_doc.specs.RulesOfSheet.{item_count}
use Rattle.view_paths.specs.Paths.{PathPlace}
use Rattle.view_paths.specs.Openings.{opened_from}
use Rattle.view_paths.proofs.Public.{shown_cost, total, total-both, total-less}
use Rattle.view_places.specs.declared.element.Element.{Element}
use Rattle.view_places.specs.declared.element.Element.TheVariants.{Anchor}
use Rattle.view_places.specs.declared.glyph.Glyph.{Glyph}
use Rattle.view_places.specs.declared.glyph.Glyph.TheVariants.{Unit, Tab, LineBreak, PageBreak, NoteMark, Picture}
use Rattle.view_places.specs.declared.glyph.Glyph.TheVariants.{Object}
use Rattle.view_places.specs.Same.{same}
use Rattle.view_places.proofs.Public.{IsSmall, heavy}
use Rattle.doc_view.proofs.Public.{IsSmallNumber, IsSmall as IsSmallGlyph}
use Rattle.markdown_page.specs.declared.shape.Kind.TheVariants.{Block}
use Rattle.markdown_page.specs.Shape.{all_shaped, inner_kind, is_space, keeps, element_kind, shaped}
use Rattle.markdown_page.specs.Pages.{page_text}
use Rattle.markdown_page.proofs.Public.{marks_size, page_size, show_most, small_marks, filter_less, kept, shaped_inside}
use Rattle.markdown_page.proofs.Public.{shaped_shown}
use Rattle.doc_places.specs.Places.{label_of, consecutive, document_places}
use Rattle.markdown_page.specs.Lengths.{destination_bytes}
use Rattle.page_bounds.specs.Laws.{MarkdownPagesAreShort}
use Rattle.page_bounds.proofs.CostLemmas.{AreSmall, Costs, IsShape, cost_from, each}
use Rattle.page_bounds.proofs.TextLemmas.{IsLabelCost, document_cost, length-numbers, sum_is}

-- what an element costs, but for the destination of a link
abbrev own_size : Document → Element → ℕ
own_size document e = marks_size document e - destination_bytes document e

small_glyph : (glyph : Glyph) → IsSmallGlyph glyph → show_most glyph ≤ 45
small_glyph (Unit unit) small = omega arith
small_glyph Tab small = omega arith
small_glyph LineBreak small = omega arith
small_glyph PageBreak small = omega arith
small_glyph (NoteMark number) small = omega arith
small_glyph (Picture place) small = omega arith
small_glyph Object small = omega arith

abbrev costs : Document → Costs
costs document = record {
  shape = shaped;
  outer = kept;
  cost = own_size document;
  show = show_most;
  element = 29;
  extra = 518;
  glyph = 45;
  unit = 13;
}

are_small : (document : Document) → AreSmall (costs document)
are_small document = record {
  elements = λ e small. omega (arith, small_marks document e small);
  glyphs = small_glyph;
  units = λ code. omega arith;
  tab = omega arith;
  line_break = omega arith;
}

is_shape : (document : Document) → IsShape (costs document)
is_shape document = record {
  inside = shaped_inside;
  less_outer = λ block. filter_less (own_size document) (λ e. keeps Block false (element_kind e)) block;
  less_path = λ place.
      filter_less (own_size document) (λ e. keeps (inner_kind place.path) (is_space place.glyph) (element_kind e))
      place.path;
  less_shown = shaped_shown show_most;
  label = λ glyph. refl;
}

label_few : IsLabelCost show_most 45
label_few None small = omega arith
label_few (Some number) small = omega arith

anchors_few : (document : Document) (count : ℕ) → total (λ number. own_size document (Anchor number)) (consecutive 0
    count) ≤ 29
    * count
anchors_few document count =
    omega (
      arith,
      total-less (λ (number : ℕ). own_size document (Anchor number)) (λ number. 29) (λ number. omega arith) (consecutive
          0
          count),
      each 29 (consecutive 0 count),
      length-numbers 0 count,
    )

parted : (document : Document) (e : Element) → marks_size document e ≤ own_size document e + destination_bytes
    document e
parted document e = omega arith

pub markdown_short : MarkdownPagesAreShort
markdown_short options document bytes sound page =
    let places = document_places page.formats page.values options document in
    let own = own_size document in
    let opened = opened_from same [] (all_shaped places) in
    let count = item_count document in
    let text : length bytes ≡ length (encode_utf8_all (page_text document places)) =
    ap (λ (b : List ℕ). length b) page.text in
    let most : (((29 * 15 + 518 * 6) + ((29 + 13 * 65) + (29 * 8 + 45))) + (29 * 3 + 45)) * count ≤ 4900 * count =
    mul-le (((29 * 15 + 518 * 6) + ((29 + 13 * 65) + (29 * 8 + 45))) + (29 * 3 + 45)) count 4900 count (omega arith)
    (omega
    arith) in
    omega (
      arith,
      text,
      most,
      page_size document places,
      total-less (marks_size document) (λ e. own e + destination_bytes document e) (parted document) opened,
      total-both own (destination_bytes document) opened,
      sum_is (destination_bytes document) opened,
      document_cost (costs document) 45 (are_small document) (is_shape document) label_few page.formats page.values
          options
          document sound page.are_values,
      anchors_few document (length document.bookmarks),
    )
