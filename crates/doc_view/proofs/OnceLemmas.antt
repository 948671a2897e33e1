-- What is seen of the items of a text, paragraph by paragraph, is what is seen of them one by one.
use Rattle.std.proofs.Common.{◌≡◌, ◌∙◌, ℕ, suc, ◌-◌, false, not, List, [], ◌∷◌, ◌++◌, length, refl, sym, ap}
use Rattle.std.proofs.Common.{append_assoc, append-nil, arith, Option, Some, None}
use Rattle.std.specs.Prelude.{if◌then◌else◌, is_some, slice_get}
use Rattle.std.specs.List.{cons_option, flat_map}
use Rattle.std.proofs.lemmas.List.Elements.{filter_map-append}
use Rattle.doc_model.specs.declared.item.Item.{Item}
use Rattle.doc_model.specs.declared.item.Mark.{Mark}
use Rattle.doc_model.specs.Settings.{is_inside}
use Rattle.doc_model.specs.Stretches.{stretch_from, stretches}
use Rattle.doc_view.specs.declared.reading.Manner.{Manner}
use Rattle.doc_view.specs.declared.reading.Seen.{Seen}
use Rattle.doc_view.specs.Laws.{EachItemIsShownOnce, each_seen, first_mark_style, style_from}
use Rattle.doc_view.specs.Seen.{Formats, Paragraph, front_of, glyphs_in, paragraph_ending}
use Rattle.doc_view.specs.Seen.{paragraphs_from, paragraphs_of, seen_as, seen_from, shown_glyph, some_shown, style_of}
use Rattle.doc_bits.proofs.Public.{neither}

-- ---- styles

style_at : Option Item → ℕ
style_at None = 0
style_at (Some item) = style_of item.mark

last_style : List Item → ℕ
last_style items = style_at (slice_get items (length items - 1))

first_style : List (List Item) → ℕ
first_style [] = 0
first_style (items ∷ more) = last_style items

later_last : (x y : Item) (ys : List Item) → last_style (x ∷ y ∷ ys) ≡ last_style (y ∷ ys)
unfolding last_style
later_last x y ys =
    let e : length (x ∷ y ∷ ys) - 1 ≡ suc (length (y ∷ ys) - 1) = omega arith in
    ap (λ (n : ℕ). style_at (slice_get (x ∷ y ∷ ys) n)) e

own_style : (mark : Option Mark) → style_of mark ≡ style_from mark 0
own_style None = refl
own_style (Some mark) = refl

first_step : (x : Item) (parts : List (List Item)) (mark : Option Mark) → x.mark ≡ mark →
    first_style (stretch_from is_inside x parts) ≡ style_from x.mark (first_style parts)
unfolding style_at last_style first_style
first_step x [] mark is = own_style x.mark
first_step x ([] ∷ more) mark is = own_style x.mark
first_step x ((y ∷ ys) ∷ more) None is =
    (λ i. first_style (if not (is_some (is i)) then (x ∷ y ∷ ys) ∷ more else (x ∷ []) ∷ (y ∷ ys) ∷ more))
    ∙ (later_last x y ys ∙ sym (λ i. style_from (is i) (last_style (y ∷ ys))))
first_step x ((y ∷ ys) ∷ more) (Some m) is =
    (λ i. first_style (if not (is_some (is i)) then (x ∷ y ∷ ys) ∷ more else (x ∷ []) ∷ (y ∷ ys) ∷ more))
    ∙ ((λ i. style_of (is i)) ∙ sym (λ i. style_from (is i) (last_style (y ∷ ys))))

-- the style of the first paragraph is that of the first mark
first_behind : (text : List Item) → first_style (stretches is_inside text) ≡ first_mark_style text
unfolding stretches first_mark_style first_style
first_behind [] = refl
first_behind (x ∷ xs) =
    first_step x (stretches is_inside xs) x.mark refl ∙ ap (style_from x.mark) (first_behind xs)

-- ---- items

-- what is seen of paragraphs
items_of : Formats → Manner → List Item → List (List Item) → List Seen
items_of formats manner front parts = flat_map (λ (p : Paragraph). p.items) (paragraphs_from formats manner front parts)

ending_items : (formats : Formats) (manner : Manner) (front items : List Item) (last : Option Item) →
    (paragraph_ending formats manner front items last).items ≡ seen_from formats manner (style_at last) front items
unfolding style_at
ending_items formats manner front items None = refl
ending_items formats manner front items (Some last) = refl

part_items : (formats : Formats) (manner : Manner) (front items : List Item) (more : List (List Item)) →
    items_of formats manner front (items ∷ more)
    ≡ seen_from formats manner (last_style items) front items ++ items_of formats manner (front ++ items) more
unfolding items_of last_style paragraphs_from
part_items formats manner front items more =
    ap (λ (seen : List Seen). seen ++ items_of formats manner (front ++ items) more)
    (ending_items formats manner front items (slice_get items (length items - 1)))

-- what is seen of an item in a paragraph of a style
one_seen : Formats → Manner → List Item → Item → ℕ → Seen
one_seen formats manner front x style = seen_as manner (formats style x.chp) (front_of manner front) x

alone_step : (formats : Formats) (manner : Manner) (front : List Item) (x : Item) (parts : List (List Item)) →
    items_of formats manner front ((x ∷ []) ∷ parts)
    ≡ one_seen formats manner front x (style_of x.mark) ∷ items_of formats manner (front ++ x ∷ []) parts
unfolding seen_from one_seen last_style style_at
alone_step formats manner front x parts = part_items formats manner front (x ∷ []) parts

empty_part : (formats : Formats) (manner : Manner) (front : List Item) (more : List (List Item)) →
    items_of formats manner front more ≡ items_of formats manner front ([] ∷ more)
unfolding seen_from
empty_part formats manner front more =
    sym (part_items formats manner front [] more
    ∙ ap (λ (f : List Item). items_of formats manner f more) (append-nil front))

joined_step : (formats : Formats) (manner : Manner) (front : List Item) (x y : Item) (ys : List Item)
    (more : List (List Item)) →
    items_of formats manner front ((x ∷ y ∷ ys) ∷ more)
    ≡ one_seen formats manner front x (last_style (y ∷ ys))
    ∷ items_of formats manner (front ++ x ∷ []) ((y ∷ ys) ∷ more)
unfolding seen_from one_seen
joined_step formats manner front x y ys more =
    part_items formats manner front (x ∷ y ∷ ys) more
    ∙ ((λ i. seen_from formats manner (later_last x y ys i) front (x ∷ y ∷ ys)
    ++ items_of formats manner (sym (append_assoc front (x ∷ []) (y ∷ ys)) i) more)
    ∙ ap (λ (seen : List Seen). one_seen formats manner front x (last_style (y ∷ ys)) ∷ seen)
    (sym (part_items formats manner (front ++ x ∷ []) (y ∷ ys) more)))

-- an item before paragraphs is seen first
item_step : (formats : Formats) (manner : Manner) (front : List Item) (x : Item) (parts : List (List Item))
    (mark : Option Mark) → x.mark ≡ mark →
    items_of formats manner front (stretch_from is_inside x parts)
    ≡ one_seen formats manner front x (style_from x.mark (first_style parts))
    ∷ items_of formats manner (front ++ x ∷ []) parts
unfolding first_style last_style style_at
item_step formats manner front x [] mark is =
    alone_step formats manner front x []
    ∙ ap (λ (style : ℕ). one_seen formats manner front x style ∷ items_of formats manner (front ++ x ∷ []) [])
    (own_style x.mark)
item_step formats manner front x ([] ∷ more) mark is =
    alone_step formats manner front x more
    ∙ ((λ i. one_seen formats manner front x (own_style x.mark i)
    ∷ empty_part formats manner (front ++ x ∷ []) more i))
item_step formats manner front x ((y ∷ ys) ∷ more) None is =
    (λ i. items_of formats manner front
    (if not (is_some (is i)) then (x ∷ y ∷ ys) ∷ more else (x ∷ []) ∷ (y ∷ ys) ∷ more))
    ∙ (joined_step formats manner front x y ys more
    ∙ sym (λ i. one_seen formats manner front x (style_from (is i) (last_style (y ∷ ys)))
    ∷ items_of formats manner (front ++ x ∷ []) ((y ∷ ys) ∷ more)))
item_step formats manner front x ((y ∷ ys) ∷ more) (Some m) is =
    (λ i. items_of formats manner front
    (if not (is_some (is i)) then (x ∷ y ∷ ys) ∷ more else (x ∷ []) ∷ (y ∷ ys) ∷ more))
    ∙ (alone_step formats manner front x ((y ∷ ys) ∷ more)
    ∙ ((λ i. one_seen formats manner front x (style_of (is i))
    ∷ items_of formats manner (front ++ x ∷ []) ((y ∷ ys) ∷ more))
    ∙ sym (λ i. one_seen formats manner front x (style_from (is i) (last_style (y ∷ ys)))
    ∷ items_of formats manner (front ++ x ∷ []) ((y ∷ ys) ∷ more))))

all_seen : (formats : Formats) (manner : Manner) (front text : List Item) →
    items_of formats manner front (stretches is_inside text) ≡ each_seen formats manner front text
unfolding stretches first_mark_style each_seen items_of paragraphs_from one_seen
all_seen formats manner front [] = refl
all_seen formats manner front (x ∷ xs) =
    item_step formats manner front x (stretches is_inside xs) x.mark refl
    ∙ (λ i. one_seen formats manner front x (style_from x.mark (first_behind xs i))
    ∷ all_seen formats manner (front ++ x ∷ []) xs i)

-- ---- glyphs

joined_glyphs : (paragraphs : List Paragraph) →
    flat_map (λ (p : Paragraph). glyphs_in p.items) paragraphs
    ≡ glyphs_in (flat_map (λ (p : Paragraph). p.items) paragraphs)
joined_glyphs [] = refl
joined_glyphs (p ∷ more) =
    ap (λ gs. glyphs_in p.items ++ gs) (joined_glyphs more)
    ∙ sym (filter_map-append shown_glyph p.items (flat_map (λ (q : Paragraph). q.items) more))

none_here : (items : List Seen) → some_shown items ≡ false → glyphs_in items ≡ []
none_here [] none = refl
none_here (s ∷ more) none =
    let e = neither s.is_shown (some_shown more) none in
    (λ i. cons_option (if e.0 i then s.glyph else None) (glyphs_in more)) ∙ none_here more e.1

pub once : EachItemIsShownOnce
unfolding items_of
once formats manner text = record {
  glyphs = joined_glyphs (paragraphs_of formats manner text) ∙ ap glyphs_in (all_seen formats manner [] text);
  absent = λ paragraph none. none_here paragraph.items none;
}
