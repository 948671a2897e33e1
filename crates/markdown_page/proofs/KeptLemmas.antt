-- How the places of a page are shaped: what is around a paragraph by itself, and no path is longer.
use Rattle.std.proofs.Common.{◌≡◌, ℕ, suc, ◌+◌, ◌-◌, ◌≤◌, Bool, true, false, not, ◌&&◌, List, [], ◌∷◌, ◌++◌, length, filter, cond}
use Rattle.std.proofs.Common.{Option, None, Some, refl, sym, ap, subst, ◌∙◌, ◌⊎◌, inl, inr, arith, slice_get, append-nil}
use Rattle.std.proofs.Common.{length-append, if◌then◌else◌}
use Rattle.std.specs.List.{All}
use Rattle.std.proofs.lemmas.List.Elements.{All-head, All-tail, filter-append}
use Rattle.doc_bits.proofs.Public.{from_behind}
use Rattle.view_paths.specs.Paths.{PathPlace}
use Rattle.view_paths.proofs.Public.{glyph_cost, total, within}
use Rattle.view_places.specs.declared.element.Element.{Element}
use Rattle.view_places.specs.declared.element.Element.TheVariants.{Notes, Note, Table, TableHead, TableBody, Row, Cell}
use Rattle.view_places.specs.declared.element.Element.TheVariants.{HeadCell, List as AList, Item, Paragraph, Label}
use Rattle.view_places.specs.declared.element.Element.TheVariants.{Reference, BackLink, Bold, Italic, Underline, Strike}
use Rattle.view_places.specs.declared.element.Element.TheVariants.{SmallCaps, Caps, Raised, Lowered, Link, Anchor}
use Rattle.view_places.specs.declared.element.Element.TheVariants.{NestedTable, NestedRow, NestedCell}
use Rattle.view_places.specs.declared.glyph.Glyph.{Glyph}
use Rattle.view_places.specs.declared.glyph.Glyph.TheVariants.{Unit, Tab, LineBreak, PageBreak, NoteMark, Picture}
use Rattle.view_places.specs.declared.glyph.Glyph.TheVariants.{Object}
use Rattle.view_places.proofs.Public.{IsOuter}
use Rattle.markdown_page.specs.declared.shape.Kind.{Kind}
use Rattle.markdown_page.specs.declared.shape.Kind.TheVariants.{Block, Unmarked}
use Rattle.markdown_page.specs.Shape.{inner_kind, is_from_note, is_space, keeps, kind_or_block, element_kind, shaped}
use Rattle.markdown_page.specs.Shape.{shaped_glyph}
use Rattle.markdown_page.specs.Shape.{shaped_path, unnumbered_glyph}

-- what is around a paragraph is kept, but for what has no markup
abbrev pub kept : List Element → List Element
kept path = filter (λ element. keeps Block false (element_kind element)) path

outer_kind : (e : Element) → IsOuter e → (element_kind e ≡ Block) ⊎ (element_kind e ≡ Unmarked)
outer_kind Notes outer = inl refl
outer_kind (Note number) outer = inl refl
outer_kind (Table first) outer = inl refl
outer_kind TableHead outer = inl refl
outer_kind TableBody outer = inl refl
outer_kind (Row first) outer = inl refl
outer_kind (Cell cell) outer = inl refl
outer_kind (HeadCell cell) outer = inl refl
outer_kind (AList list) outer = inl refl
outer_kind (Item number) outer = inl refl
outer_kind (Paragraph paragraph) outer = inl refl
outer_kind Label outer = absurd outer
outer_kind (Reference number) outer = absurd outer
outer_kind (BackLink number) outer = absurd outer
outer_kind Bold outer = absurd outer
outer_kind Italic outer = absurd outer
outer_kind Underline outer = absurd outer
outer_kind Strike outer = absurd outer
outer_kind SmallCaps outer = absurd outer
outer_kind Caps outer = absurd outer
outer_kind Raised outer = absurd outer
outer_kind Lowered outer = absurd outer
outer_kind (Link link) outer = absurd outer
outer_kind (Anchor number) outer = absurd outer
outer_kind (NestedTable first) outer = inr refl
outer_kind (NestedRow first) outer = inr refl
outer_kind (NestedCell number) outer = inr refl

kept_alike : (inner : Kind) (space : Bool) (kind : Kind) → (kind ≡ Block) ⊎ (kind ≡ Unmarked) → keeps inner space kind ≡ keeps
    Block false kind
kept_alike inner space kind (inl is) =
    subst (λ (k : Kind). keeps inner space k ≡ keeps Block false k) (sym is) refl
kept_alike inner space kind (inr is) =
    subst (λ (k : Kind). keeps inner space k ≡ keeps Block false k) (sym is) refl

from_no_note : (kind : Kind) → (kind ≡ Block) ⊎ (kind ≡ Unmarked) → is_from_note kind ≡ false
from_no_note kind (inl is) = ap is_from_note is
from_no_note kind (inr is) = ap is_from_note is

kept_block : (inner : Kind) (space : Bool) (block : List Element) → All IsOuter block → filter (λ element. keeps inner space
    (element_kind element)) block ≡ kept block
kept_block inner space [] outer = refl
kept_block inner space (e ∷ block) outer =
    λ i. cond (kept_alike inner space (element_kind e) (outer_kind e (All-head IsOuter e block outer)) i)
    (e ∷ kept_block inner space block (All-tail IsOuter e block outer) i)
    (kept_block inner space block (All-tail IsOuter e block outer) i)

-- the innermost element of a path is that of its rest, where there is one
inner_rest : (block : List Element) (e : Element) (rest : List Element) → inner_kind (block ++ e ∷ rest) ≡ inner_kind (e ∷
    rest)
inner_rest block e rest =
    let path = e ∷ rest in
    let last : length (block ++ path) - 1 ≡ length block + (length path - 1) = omega (arith, length-append block path) in
    ap (λ (n : ℕ). kind_or_block (slice_get (block ++ path) n)) last
    ∙ ap (λ (found : Option Element). kind_or_block found) (from_behind block path (length path - 1))

last_outer : (block : List Element) → All IsOuter block → is_from_note (inner_kind block) ≡ false
last_outer [] outer = refl
last_outer (e ∷ []) outer = from_no_note (element_kind e) (outer_kind e (All-head IsOuter e [] outer))
last_outer (e ∷ next ∷ block) outer =
    ap is_from_note (inner_rest (e ∷ []) next block) ∙ last_outer (next ∷ block) (All-tail IsOuter e (next ∷ block) outer)

path_inside : (block path : List Element) (glyph : Option Glyph) → All IsOuter block → shaped_path glyph (block ++ path) ≡
    kept block ++ shaped_path glyph path
path_inside block [] glyph outer =
    let inner = inner_kind (block ++ []) in
    let space = is_space glyph in
    filter-append (λ element. keeps inner space (element_kind element)) block []
    ∙ ap (λ (xs : List Element). xs ++ []) (kept_block inner space block outer)
path_inside block (e ∷ rest) glyph outer =
    let path = e ∷ rest in
    let space = is_space glyph in
    ap (λ (inner : Kind). filter (λ element. keeps inner space (element_kind element)) (block ++ path)) (inner_rest
    block e rest)
    ∙ (filter-append (λ element. keeps (inner_kind path) space (element_kind element)) block path
    ∙ ap (λ (xs : List Element). xs ++ shaped_path glyph path) (kept_block (inner_kind path) space block outer))

glyph_inside : (block path : List Element) (glyph : Option Glyph) → All IsOuter block → shaped_glyph (inner_kind (block ++
    path)) glyph ≡ shaped_glyph (inner_kind path) glyph
glyph_inside block [] glyph outer =
    let none : Option Glyph = None in
    ap (λ (inner : List Element). shaped_glyph (inner_kind inner) glyph) (append-nil block)
    ∙ ap (λ (b : Bool). if b then none else unnumbered_glyph glyph) (last_outer block outer)
glyph_inside block (e ∷ rest) glyph outer = ap (λ (inner : Kind). shaped_glyph inner glyph) (inner_rest block e rest)

pub shaped_inside : (block : List Element) → All IsOuter block → (place : PathPlace Element Glyph) → shaped (within
    block place) ≡
    within (kept block) (shaped place)
shaped_inside block outer place =
    λ i. record {
      path = path_inside block place.path place.glyph outer i;
      glyph = glyph_inside block place.path place.glyph outer i;
    }

-- what is filtered costs no more
pub filter_less : (cost : Element → ℕ) (test : Element → Bool) (path : List Element) → total cost (filter test path) ≤ total
    cost path
filter_less cost test [] = omega arith
filter_less cost test (e ∷ path) =
    elim (test e) as (λ (b : Bool). total cost (cond b (e ∷ filter test path) (filter test path)) ≤ cost e + total cost path) [
      | true ↦
          let long : cost e + total cost (filter test path) ≤ cost e + total cost path =
          omega (arith, filter_less cost test path) in
          long
      | false ↦ omega (arith, filter_less cost test path)
    ]

shown_less : (show : Glyph → ℕ) (glyph : Option Glyph) → glyph_cost show (unnumbered_glyph glyph) ≤ glyph_cost show
    glyph
shown_less show None = omega arith
shown_less show (Some (Unit unit)) = omega arith
shown_less show (Some Tab) = omega arith
shown_less show (Some LineBreak) = omega arith
shown_less show (Some PageBreak) = omega arith
shown_less show (Some (NoteMark number)) = omega arith
shown_less show (Some (Picture place)) = omega arith
shown_less show (Some Object) = omega arith

pub shaped_shown : (show : Glyph → ℕ) (place : PathPlace Element Glyph) → glyph_cost show (shaped place).glyph ≤
    glyph_cost show
    place.glyph
shaped_shown show place =
    let none : Option Glyph = None in
    elim (is_from_note (inner_kind place.path)) as (λ (b : Bool). glyph_cost show (if b then none else unnumbered_glyph
    place.glyph) ≤ glyph_cost show place.glyph)
    [ true ↦ omega arith | false ↦ shown_less show place.glyph ]
