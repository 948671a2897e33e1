-- Places of items one after another, and what they show.
use Rattle.std.proofs.Common.{◌≡◌, ℕ, ◌+◌, Bool, true, false, ◌||◌, ◌&&◌, List, [], ◌∷◌, ◌++◌, Option, Some, None, refl}
use Rattle.std.proofs.Common.{sym, ap, ◌∙◌}
use Rattle.std.proofs.Common.{append_assoc, append-nil, arith, length, map}
use Rattle.std.specs.Prelude.{if◌then◌else◌}
use Rattle.std.specs.List.{cons_option, filter_map, flat_map}
use Rattle.std.proofs.lemmas.List.Elements.{filter_map-append}
use Rattle.std.proofs.lemmas.List.Concat.{flat_map-cons}
use Rattle.view_paths.specs.Paths.{PathPlace}
use Rattle.view_places.specs.declared.element.Element.{Element}
use Rattle.view_places.specs.declared.glyph.Glyph.{Glyph}
use Rattle.doc_view.specs.declared.references.Reference.{Reference}
use Rattle.doc_view.specs.declared.reading.Seen.{Seen}
use Rattle.doc_view.specs.declared.standing.Standing.{Standing}
use Rattle.doc_view.specs.Layout.{closes_cell, ends_head, is_in_table, row_goes_on}
use Rattle.doc_view.specs.Seen.{Paragraph, glyphs_in, is_here, references_in, shown_glyph, some_shown}
use Rattle.doc_places.specs.declared.grid.Grid.{Grid}
use Rattle.doc_places.specs.Grid.{all_heads, ended_row_cells, ended_of, first_of, grid_after, grid_of}
use Rattle.doc_places.specs.Places.{Places, paragraph_block, count_of, item_places, items_places, label_places}
use Rattle.doc_places.specs.Places.{Hypertext, anchor_places, paragraphs_len, paragraph_places, paragraphs_places}
use Rattle.doc_places.specs.Places.{glyph_place}
use Rattle.doc_places.specs.Places.{shown_place, text_places}
use Rattle.view_places.specs.declared.element.Link.{Link}
use Rattle.doc_places.specs.Laws.{EachGlyphHasAPlace, spoken, spoken_label}
use Rattle.doc_places.specs.Looks.{units_of_label}
use Rattle.doc_view.specs.Labels.{label_glyphs}
use Rattle.view_places.specs.declared.element.Element.TheVariants.{Label}
use Rattle.doc_bits.proofs.Public.{neither}

-- one more reference, or none
length-cons_option : (reference : Option Reference) (more : List Reference) → length (cons_option reference more) ≡
    count_of
    reference + length more
length-cons_option None more = omega arith
length-cons_option (Some reference) more = omega arith

pub count_one : (seen : Seen) → length (references_in (seen ∷ [])) ≡ count_of seen.reference
count_one seen = refl

-- items one after another
pub items_places-append : (links : ℕ → Option Link) (block : List Element) (count place : ℕ) (xs ys : List Seen) →
    items_places links block count place (xs ++ ys) ≡ items_places links block count place xs ++ items_places links block
    (count + length (references_in xs)) (place + length xs) ys
unfolding items_places
items_places-append links block count place [] ys =
    let n : count ≡ count + 0 = omega arith in
    let p : place ≡ place + 0 = omega arith in
    λ i. items_places links block (n i) (p i) ys
items_places-append links block count place (x ∷ xs) ys =
    let here = count_of x.reference in
    let sum : (count + here) + length (references_in xs) ≡ count + length (references_in (x ∷ xs)) =
    omega (arith, length-cons_option x.reference (references_in xs)) in
    let on : (place + 1) + length xs ≡ place + length (x ∷ xs) = omega arith in
    ap (λ (more : Places). item_places block (links place) count x ++ more) (items_places-append links block (count +
    here) (place + 1) xs ys ∙ (λ i. items_places links block (count + here) (place + 1) xs ++ items_places links block
    (sum i) (on i) ys)) ∙ sym (append_assoc (item_places block (links place) count x)
    (items_places links block (count + here) (place + 1) xs) (items_places links block (count + length (references_in (x
    ∷ xs))) (place + length (x ∷ xs)) ys))

pub items_places-one : (links : ℕ → Option Link) (block : List Element) (count place : ℕ) (seen : Seen) → items_places
    links block count place (seen ∷ []) ≡ item_places block (links place) count seen
unfolding items_places
items_places-one links block count place seen = append-nil (item_places block (links place) count seen)

pub items_places-none : (links : ℕ → Option Link) (block : List Element) (count place : ℕ) → items_places links block
    count place [] ≡ []
unfolding items_places
items_places-none links block count place = refl

-- an item that is not shown has no place
pub hidden_item : (block : List Element) (link : Option Link) (count : ℕ) (seen : Seen) → seen.is_shown ≡ false →
    item_places block link count seen ≡ []
hidden_item block link count seen hidden =
    let none : Places = [] in
    ap (λ (b : Bool). if b then glyph_place block link count seen seen.glyph ∷ [] else none) hidden

-- where nothing is shown there is no place
pub items_places-hidden : (links : ℕ → Option Link) (block : List Element) (count place : ℕ) (seen : List Seen) →
    some_shown seen ≡ false → items_places links block count place seen ≡ []
unfolding items_places
items_places-hidden links block count place [] hidden = refl
items_places-hidden links block count place (x ∷ xs) hidden =
    let both = neither x.is_shown (some_shown xs) hidden in
    (λ i. hidden_item block (links place) count x both.0 i ++ items_places-hidden links block (count + count_of
    x.reference) (place + 1) xs both.1 i)

-- where the next paragraph is
pub grid_of-cons : (paragraph : Paragraph) (before : List Paragraph) → grid_of (paragraph ∷ before) ≡ grid_after
    (grid_of before)
    paragraph.standing
grid_of-cons paragraph before =
    let number : length (paragraph ∷ before) ≡ length before + 1 = omega arith in
    λ i. record {
      number = number i;
      table = if is_in_table paragraph.standing then first_of is_in_table before else length before + 1;
      row = if row_goes_on paragraph.standing then first_of row_goes_on before else length before + 1;
      cell =
          if row_goes_on paragraph.standing then ended_row_cells before + (if closes_cell paragraph.standing then 1 else
          0) else 0;
      ended = ended_of before + (if closes_cell paragraph.standing then 1 else 0);
      heads =
          if is_in_table paragraph.standing then (row_goes_on paragraph.standing || ends_head paragraph.standing) &&
          all_heads
          before else true;
    }

-- ---- what places show

glyph-place_of : (block : List Element) (link : Option Link) (count : ℕ) (seen : Seen) (glyph : Option Glyph) → filter_map (λ (place :
    PathPlace Element
    Glyph). place.glyph) (glyph_place block link count seen glyph ∷ []) ≡ cons_option glyph []
glyph-place_of block link count seen None = refl
glyph-place_of block link count seen (Some glyph) = refl

glyph-item : (block : List Element) (link : Option Link) (count : ℕ) (seen : Seen) → filter_map (λ (place : PathPlace
    Element Glyph). place.glyph) (item_places block link count seen) ≡ cons_option (shown_glyph seen) []
glyph-item block link count seen =
    elim seen.is_shown as (λ (b : Bool). filter_map (λ (place : PathPlace Element Glyph). place.glyph) (if b then
    glyph_place
    block link count seen seen.glyph ∷ [] else []) ≡ cons_option (if b then seen.glyph else None) [])
    [ true ↦ glyph-place_of block link count seen seen.glyph | false ↦ refl ]

option_then : (glyph : Option Glyph) (more : List Glyph) → cons_option glyph [] ++ more ≡ cons_option glyph more
option_then None more = refl
option_then (Some glyph) more = refl

glyphs-items : (links : ℕ → Option Link) (block : List Element) (count place : ℕ) (seen : List Seen) → filter_map (λ
    (place : PathPlace Element Glyph). place.glyph) (items_places links block count place seen) ≡ glyphs_in seen
unfolding items_places
glyphs-items links block count place [] = refl
glyphs-items links block count place (x ∷ xs) =
    let rest = count + count_of x.reference in
    filter_map-append (λ (place : PathPlace Element Glyph). place.glyph) (item_places block (links place) count x)
    (items_places links block rest (place + 1) xs) ∙ (λ i. glyph-item block (links place) count x i ++ glyphs-items links
    block rest (place + 1) xs i) ∙ option_then (shown_glyph x) (glyphs_in xs)

-- a label shows its units and a space
glyphs-shown : (path : List Element) (glyphs : List Glyph) → filter_map (λ (place : PathPlace Element Glyph).
    place.glyph)
    (map (shown_place path) glyphs) ≡ glyphs
glyphs-shown path [] = refl
glyphs-shown path (glyph ∷ more) = ap (λ (gs : List Glyph). glyph ∷ gs) (glyphs-shown path more)

glyphs-label : (block : List Element) (units : List ℕ) → filter_map (λ (place : PathPlace Element Glyph). place.glyph)
    (label_places block units) ≡ spoken_label units
glyphs-label block [] = refl
glyphs-label block (unit ∷ units) = glyphs-shown (block ++ Label ∷ []) (label_glyphs (unit ∷ units))

glyphs-label_where : (block : List Element) (here : Bool) (units : List ℕ) → filter_map (λ (place : PathPlace Element
    Glyph). place.glyph) (if here then label_places block units else []) ≡ (if here then spoken_label units else [])
glyphs-label_where block true units = glyphs-label block units
glyphs-label_where block false units = refl

no_glyphs-anchors : (block : List Element) (numbers : List ℕ) → filter_map (λ (place : PathPlace Element Glyph).
    place.glyph) (anchor_places block numbers) ≡ []
no_glyphs-anchors block [] = refl
no_glyphs-anchors block (number ∷ numbers) = no_glyphs-anchors block numbers

glyphs-paragraph : (hypertext : Hypertext) (block : List Element) (count begin : ℕ) (paragraph : Paragraph) → filter_map
    (λ (place : PathPlace Element Glyph). place.glyph) (paragraph_places hypertext block count begin paragraph) ≡ spoken
    paragraph
glyphs-paragraph hypertext block count begin paragraph =
    let numbers = hypertext.anchors begin (begin + length paragraph.items) in
    let label : Places = if is_here paragraph then label_places block (units_of_label paragraph) else [] in
    let items = items_places (hypertext.links begin) block count begin paragraph.items in
    filter_map-append (λ (place : PathPlace Element Glyph). place.glyph) (anchor_places block numbers) (label ++ items)
    ∙ (λ i. no_glyphs-anchors block numbers i ++ filter_map-append (λ (place : PathPlace Element Glyph). place.glyph)
    label
    items i)
    ∙ (λ i. glyphs-label_where block (is_here paragraph) (units_of_label paragraph) i ++ glyphs-items (hypertext.links
    begin) block count begin paragraph.items i)

glyphs-paragraphs : (hypertext : Hypertext) (outer : List Element) (before : List Paragraph) (count : ℕ) (paragraphs :
    List Paragraph) → filter_map (λ (place : PathPlace Element Glyph). place.glyph) (paragraphs_places hypertext outer
    before count paragraphs) ≡ flat_map spoken paragraphs
unfolding paragraphs_places
glyphs-paragraphs hypertext outer before count [] = refl
glyphs-paragraphs hypertext outer before count (paragraph ∷ more) =
    let block = outer ++ paragraph_block hypertext.cells before paragraph more in
    let at = paragraphs_len before in
    let rest = count + length (references_in paragraph.items) in
    filter_map-append (λ (place : PathPlace Element Glyph). place.glyph) (paragraph_places hypertext block count at
    paragraph) (paragraphs_places hypertext outer (paragraph ∷ before) rest more) ∙ (λ i. glyphs-paragraph hypertext
    block count at paragraph i ++ glyphs-paragraphs hypertext outer (paragraph ∷ before) rest more i) ∙ sym
    (flat_map-cons spoken paragraph more)

pub text_glyphs : EachGlyphHasAPlace
text_glyphs hypertext outer paragraphs = glyphs-paragraphs hypertext outer [] 0 paragraphs
