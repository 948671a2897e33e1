-- The title of a page, unit by unit.
use Rattle.std.proofs.Common.{◌≡◌, ◌∙◌, ℕ, zero, suc, ◌<◌, ◌≤◌, Bool, true, false, List, [], ◌∷◌, ◌++◌, length, take, refl, sym, ap, arith}
use Rattle.std.proofs.Common.{append-nil, length-append, Option, Some, None}
use Rattle.std.specs.Prelude.{if◌then◌else◌}
use Rattle.std.specs.List.{cons_option, filter_map}
use Rattle.std.proofs.Math.Seq.{take-append_seam}
use Rattle.std.proofs.lemmas.List.{take_all}
use Rattle.std.proofs.lemmas.List.Elements.{filter_map-append}
use Rattle.doc_view.specs.declared.reading.Seen.{Seen}
use Rattle.doc_view.specs.declared.reading.TextKind.TheVariants as text_kind
use Rattle.doc_view.specs.Seen.{Paragraph}
use Rattle.doc_html.specs.Head.{is_title_text, longest_title, seen_unit, title_in, title_units, untitled}

-- what a title has of an item
abbrev pub item_units : Seen → List ℕ
item_units seen = cons_option (seen_unit seen) []

take-then : (n : ℕ) (xs ys : List ℕ) → take n (take n xs ++ ys) ≡ take n (xs ++ ys)
take-then zero xs ys = refl
take-then (suc n) [] ys = refl
take-then (suc n) (x ∷ xs) ys = ap (λ (rest : List ℕ). x ∷ rest) (take-then n xs ys)

-- one item more
pub title_on : (title : List ℕ) (seen : List Seen) (next : Seen) → title ≡ title_units seen →
    take longest_title (title ++ item_units next) ≡ title_units (seen ++ next ∷ [])
title_on title seen next is =
    ap (λ (t : List ℕ). take longest_title (t ++ item_units next)) is
    ∙ take-then longest_title (filter_map seen_unit seen) (item_units next)
    ∙ ap (take longest_title) (sym (filter_map-append seen_unit seen (next ∷ [])))

-- a title that reaches no further
pub full_title : (title more : List ℕ) → length title ≡ longest_title → title ≡ take longest_title (title ++ more)
full_title title more full =
    sym (ap (λ (n : ℕ). take n (title ++ more)) (sym full) ∙ take-append_seam title more)

-- one that nothing is put to
pub same_title : (title more : List ℕ) → length title ≤ longest_title → [] ≡ more → title ≡ take longest_title (title ++ more)
same_title title more few none =
    sym (ap (λ (m : List ℕ). take longest_title (title ++ m)) (sym none) ∙ ap (take longest_title) (append-nil title)
    ∙ take_all longest_title title few)

-- one that has room for a unit
pub longer_title : (title after more : List ℕ) (unit : ℕ) → length title < longest_title → after ≡ title ++ unit ∷ [] →
    unit ∷ [] ≡ more → after ≡ take longest_title (title ++ more)
longer_title title after more unit few is one =
    let long = length-append title (unit ∷ []) in
    is ∙ sym (ap (λ (m : List ℕ). take longest_title (title ++ m)) (sym one)
    ∙ take_all longest_title (title ++ unit ∷ []) (omega (arith, few, long)))

-- ---- paragraphs

pub title_here : (paragraph : Paragraph) (more : List Paragraph) → is_title_text (title_units paragraph.items) ≡ true →
    title_in (paragraph ∷ more) ≡ title_units paragraph.items
unfolding title_in
title_here paragraph more is =
    ap (λ (b : Bool). if b then title_units paragraph.items else title_in more) is

pub title_past : (paragraph : Paragraph) (more : List Paragraph) → is_title_text (title_units paragraph.items) ≡ false →
    title_in (paragraph ∷ more) ≡ title_in more
unfolding title_in
title_past paragraph more is =
    ap (λ (b : Bool). if b then title_units paragraph.items else title_in more) is

pub no_title : (paragraphs : List Paragraph) → paragraphs ≡ [] → title_in paragraphs ≡ untitled
unfolding title_in
no_title paragraphs none = ap title_in none
