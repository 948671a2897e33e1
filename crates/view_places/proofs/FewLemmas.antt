-- Paths of few elements, whose numbers have few digits.
use Rattle.std.proofs.Common.{◌≡◌, ◌∙◌, ap, add-mul, mul_comm, ℕ, ◌+◌, ◌*◌, ◌<◌, ◌≤◌, Bool, true, false, List, [], ◌∷◌, ◌++◌, length, Option, None, Some, arith, suc}
use Rattle.std.proofs.Common.{length-append, if◌then◌else◌}
use Rattle.std.specs.Prelude.{⊤}
use Rattle.std.specs.List.{All}
use Rattle.std.proofs.lemmas.Nat.{mul-le}
use Rattle.std.proofs.lemmas.List.Elements.{All-nil, All-cons, All-append, All-head, All-tail}
use Rattle.view_paths.proofs.Public.{total, total-append}
use Rattle.view_places.specs.declared.element.Element.{Element}
use Rattle.view_places.specs.declared.element.Element.TheVariants.{Notes, Note, Table, TableHead, TableBody, Row, Cell}
use Rattle.view_places.specs.declared.element.Element.TheVariants.{HeadCell, List as AList, Item, Paragraph, Label}
use Rattle.view_places.specs.declared.element.Element.TheVariants.{Reference, BackLink, Bold, Italic, Underline, Strike}
use Rattle.view_places.specs.declared.element.Element.TheVariants.{SmallCaps, Caps, Raised, Lowered, Link, Anchor}
use Rattle.view_places.specs.declared.element.Element.TheVariants.{NestedTable, NestedRow, NestedCell}
use Rattle.view_places.specs.declared.element.Span.{Span}

-- how far a cell reaches has three digits and five
pub record IsSmallSpan (span : Span) : Type 0 where
  pub columns : span.columns < 1000
  pub rows : span.rows < 100000

abbrev pub IsSmallSpanIn : Option Span → Type 0
IsSmallSpanIn None = ⊤
IsSmallSpanIn (Some span) = IsSmallSpan span

-- the numbers of an element that a page may write are so small
abbrev pub IsSmall : Element → Type 0
IsSmall Notes = ⊤
IsSmall (Note number) = number < 1000000
IsSmall (Table first) = ⊤
IsSmall TableHead = ⊤
IsSmall TableBody = ⊤
IsSmall (Row first) = ⊤
IsSmall (Cell cell) = IsSmallSpanIn cell.span
IsSmall (HeadCell cell) = IsSmallSpanIn cell.span
IsSmall (AList list) = ⊤
IsSmall (Item number) = ⊤
IsSmall (Paragraph paragraph) = paragraph.level < 10
IsSmall Label = ⊤
IsSmall (Reference number) = number < 1000000
IsSmall (BackLink number) = number < 1000000
IsSmall Bold = ⊤
IsSmall Italic = ⊤
IsSmall Underline = ⊤
IsSmall Strike = ⊤
IsSmall SmallCaps = ⊤
IsSmall Caps = ⊤
IsSmall Raised = ⊤
IsSmall Lowered = ⊤
IsSmall (Link link) = ⊤
IsSmall (Anchor number) = ⊥
IsSmall (NestedTable first) = ⊤
IsSmall (NestedRow first) = ⊤
IsSmall (NestedCell number) = ⊤

-- in Markdown an item of a list writes the markers of the levels around it, and the first row of a table the line below it
abbrev pub heavy : Element → ℕ
heavy Notes = 0
heavy (Note number) = 0
heavy (Table first) = 0
heavy TableHead = 0
heavy TableBody = 0
heavy (Row first) = 3
heavy (Cell cell) = 0
heavy (HeadCell cell) = 0
heavy (AList list) = 0
heavy (Item number) = 1
heavy (Paragraph paragraph) = 0
heavy Label = 0
heavy (Reference number) = 0
heavy (BackLink number) = 0
heavy Bold = 0
heavy Italic = 0
heavy Underline = 0
heavy Strike = 0
heavy SmallCaps = 0
heavy Caps = 0
heavy Raised = 0
heavy Lowered = 0
heavy (Link link) = 0
heavy (Anchor number) = 0
heavy (NestedTable first) = 0
heavy (NestedRow first) = 0
heavy (NestedCell number) = 0

-- what a paragraph is in, and the paragraph: elements that have text of any format in them
abbrev pub IsOuter : Element → Type 0
IsOuter Notes = ⊤
IsOuter (Note number) = number < 1000000
IsOuter (Table first) = ⊤
IsOuter TableHead = ⊤
IsOuter TableBody = ⊤
IsOuter (Row first) = ⊤
IsOuter (Cell cell) = IsSmallSpanIn cell.span
IsOuter (HeadCell cell) = IsSmallSpanIn cell.span
IsOuter (AList list) = ⊤
IsOuter (Item number) = ⊤
IsOuter (Paragraph paragraph) = paragraph.level < 10
IsOuter Label = ⊥
IsOuter (Reference number) = ⊥
IsOuter (BackLink number) = ⊥
IsOuter Bold = ⊥
IsOuter Italic = ⊥
IsOuter Underline = ⊥
IsOuter Strike = ⊥
IsOuter SmallCaps = ⊥
IsOuter Caps = ⊥
IsOuter Raised = ⊥
IsOuter Lowered = ⊥
IsOuter (Link link) = ⊥
IsOuter (Anchor number) = ⊥
IsOuter (NestedTable first) = ⊤
IsOuter (NestedRow first) = ⊤
IsOuter (NestedCell number) = ⊤

pub outer_small : (e : Element) → IsOuter e → IsSmall e
outer_small Notes outer = outer
outer_small (Note number) outer = outer
outer_small (Table first) outer = outer
outer_small TableHead outer = outer
outer_small TableBody outer = outer
outer_small (Row first) outer = outer
outer_small (Cell cell) outer = outer
outer_small (HeadCell cell) outer = outer
outer_small (AList list) outer = outer
outer_small (Item number) outer = outer
outer_small (Paragraph paragraph) outer = outer
outer_small Label outer = absurd outer
outer_small (Reference number) outer = absurd outer
outer_small (BackLink number) outer = absurd outer
outer_small Bold outer = absurd outer
outer_small Italic outer = absurd outer
outer_small Underline outer = absurd outer
outer_small Strike outer = absurd outer
outer_small SmallCaps outer = absurd outer
outer_small Caps outer = absurd outer
outer_small Raised outer = absurd outer
outer_small Lowered outer = absurd outer
outer_small (Link link) outer = absurd outer
outer_small (Anchor number) outer = absurd outer
outer_small (NestedTable first) outer = outer
outer_small (NestedRow first) outer = outer
outer_small (NestedCell number) outer = outer

-- so many elements at most, of which some are so heavy, all of one kind
pub record AreFew (IsKind : Element → Type 0) (most weight : ℕ) (path : List Element) : Type 0 where
  pub few : length path ≤ most
  pub light : total heavy path ≤ weight
  pub small : All IsKind path

pub few_none : (IsKind : Element → Type 0) → AreFew IsKind 0 0 []
few_none IsKind = record { few = omega arith; light = omega arith; small = All-nil IsKind }

pub few_one : (IsKind : Element → Type 0) (weight : ℕ) (e : Element) → heavy e ≤ weight → IsKind e → AreFew IsKind 1 weight (e ∷ [])
few_one IsKind weight e light small = record {
  few = omega arith;
  light = omega (arith, light);
  small = All-cons IsKind e [] small (All-nil IsKind);
}

pub few_joined : (IsKind : Element → Type 0) (most more weight other : ℕ) (xs ys : List Element) → AreFew IsKind most weight xs → AreFew IsKind more other ys → AreFew IsKind
    (most + more) (weight + other) (xs ++ ys)
few_joined IsKind most more weight other xs ys first second = record {
  few = omega (arith, first.few, second.few, length-append xs ys);
  light = omega (arith, first.light, second.light, total-append heavy xs ys);
  small = All-append IsKind xs ys first.small second.small;
}

-- as many or fewer
pub few_within : (IsKind : Element → Type 0) (most more weight other : ℕ) (path : List Element) → most ≤ more → weight ≤ other → AreFew IsKind most weight
    path → AreFew IsKind more other path
few_within IsKind most more weight other path less lighter few = record {
  few = omega (arith, less, few.few);
  light = omega (arith, lighter, few.light);
  small = few.small;
}

pub few_either : (IsKind : Element → Type 0) (most weight : ℕ) (test : Bool) (one other : List Element) → AreFew IsKind most weight one → AreFew IsKind most weight
    other → AreFew IsKind most weight (if test then one else other)
few_either IsKind most weight true one other a b = a
few_either IsKind most weight false one other a b = b

each_cost : (IsKind : Element → Type 0) (cost : Element → ℕ) (bound extra : ℕ) → ((e : Element) → IsKind e → cost e ≤ bound + extra * heavy e) → (path
    : List Element) → All IsKind path → total cost path ≤ bound * length path + extra * total heavy path
each_cost IsKind cost bound extra light [] small = omega arith
each_cost IsKind cost bound extra light (e ∷ path) small =
    let one : suc (length path) ≡ length path + 1 = omega arith in
    let long : cost e + total cost path ≤ bound * suc (length path) + extra * (heavy e + total heavy path) =
    omega (
      arith,
      light e (All-head IsKind e path small),
      each_cost IsKind cost bound extra light path (All-tail IsKind e path small),
      ap (λ (n : ℕ). bound * n) one,
      spread bound (length path) 1,
      spread extra (heavy e) (total heavy path),
    ) in
    long
  where
    spread : (bound one other : ℕ) → bound * (one + other) ≡ bound * one + bound * other
    spread bound one other =
        mul_comm bound (one + other) ∙ (add-mul one other bound ∙ (λ i. mul_comm one bound i + mul_comm other bound i))

-- what such a path costs, where each such element costs little, and more where it is heavy
pub few_cost : (IsKind : Element → Type 0) (cost : Element → ℕ) (bound extra : ℕ) → ((e : Element) → IsKind e → cost e ≤ bound + extra * heavy e) →
    (most weight : ℕ) (path : List Element) → AreFew IsKind most weight path → total cost path ≤ bound * most + extra * weight
few_cost IsKind cost bound extra light most weight path are =
    omega (
      arith,
      each_cost IsKind cost bound extra light path are.small,
      mul-le bound (length path) bound most (omega arith) are.few,
      mul-le extra (total heavy path) extra weight (omega arith) are.light,
    )
