-- Elements that are the same are one.
use Rattle.std.proofs.Common.{◌≡◌, ◌↔◌, ℕ, ◌==◌, Bool, true, false, not, ◌&&◌, refl, ap, sym, ◌∙◌, true≢false}
use Rattle.std.specs.Prelude.{if◌then◌else◌, is_some, Option, None, Some}
use Rattle.std.proofs.lemmas.Bool.{eqb-true, eq-eqb}
use Rattle.view_places.specs.declared.element.Code.{Code}
use Rattle.view_places.specs.declared.element.Element.{Element}
use Rattle.view_places.specs.declared.element.Element.TheVariants.{Notes, Note, Table, TableHead, TableBody, Row, Cell}
use Rattle.view_places.specs.declared.element.Element.TheVariants.{HeadCell, List, Item, Paragraph, Label, Reference}
use Rattle.view_places.specs.declared.element.Element.TheVariants.{BackLink, Bold, Italic, Underline, Strike, SmallCaps}
use Rattle.view_places.specs.declared.element.Element.TheVariants.{Caps, Raised, Lowered, Link, Anchor}
use Rattle.view_places.specs.declared.element.Element.TheVariants.{NestedTable, NestedRow, NestedCell}
use Rattle.view_places.specs.declared.element.Cell.{Cell as CellForm}
use Rattle.view_places.specs.declared.element.Span.{Span}
use Rattle.view_places.specs.Same.{code_of, equal, cell_reach, same, same_code}

-- how far the cell of a code reaches
abbrev span_by : Bool → Span → Option Span
span_by there span = if there then Some span else None

abbrev cell_by : Code → CellForm
cell_by code = record {
  number = code.number;
  span = span_by code.one (record { columns = code.begin; rows = code.end });
}

-- the element that a code is of
abbrev element_of : Code → Element
element_of code =
    if code.kind == 0 then Notes else
    if code.kind == 1 then Note code.number else
    if code.kind == 2 then Table code.number else
    if code.kind == 3 then TableHead else
    if code.kind == 4 then TableBody else
    if code.kind == 5 then Row code.number else
    if code.kind == 6 then Cell (cell_by code) else
    if code.kind == 7 then HeadCell (cell_by code) else
    if code.kind == 8 then List (record { first = code.number; is_ordered = code.one }) else
    if code.kind == 9 then Item code.number else
    if code.kind == 10 then Paragraph (record {
      number = code.number;
      level = code.level;
      right_to_left = code.one;
      breaks_page = code.other;
    }) else
    if code.kind == 11 then Label else
    if code.kind == 12 then Reference code.number else
    if code.kind == 13 then BackLink code.number else
    if code.kind == 14 then Bold else
    if code.kind == 15 then Italic else
    if code.kind == 16 then Underline else
    if code.kind == 17 then Strike else
    if code.kind == 18 then SmallCaps else
    if code.kind == 19 then Caps else
    if code.kind == 20 then Raised else
    if code.kind == 21 then Lowered else
    if code.kind == 22 then Link (record { note = code.number; begin = code.begin; end = code.end }) else
    if code.kind == 23 then Anchor code.number else
    if code.kind == 24 then NestedTable code.number else
    if code.kind == 25 then NestedRow code.number else
    NestedCell code.number

span_back : (span : Option Span) → span_by (is_some span) (cell_reach span) ≡ span
span_back None = refl
span_back (Some span) = refl

element_of-code_of : (e : Element) → element_of (code_of e) ≡ e
element_of-code_of Notes = refl
element_of-code_of (Note number) = refl
element_of-code_of (Table first) = refl
element_of-code_of TableHead = refl
element_of-code_of TableBody = refl
element_of-code_of (Row first) = refl
element_of-code_of (Cell cell) =
    ap (λ (span : Option Span). Cell (record { number = cell.number; span = span })) (span_back cell.span)
element_of-code_of (HeadCell cell) =
    ap (λ (span : Option Span). HeadCell (record { number = cell.number; span = span })) (span_back cell.span)
element_of-code_of (List list) = refl
element_of-code_of (Item number) = refl
element_of-code_of (Paragraph paragraph) = refl
element_of-code_of Label = refl
element_of-code_of (Reference number) = refl
element_of-code_of (BackLink number) = refl
element_of-code_of Bold = refl
element_of-code_of Italic = refl
element_of-code_of Underline = refl
element_of-code_of Strike = refl
element_of-code_of SmallCaps = refl
element_of-code_of Caps = refl
element_of-code_of Raised = refl
element_of-code_of Lowered = refl
element_of-code_of (Link link) = refl
element_of-code_of (Anchor number) = refl
element_of-code_of (NestedTable first) = refl
element_of-code_of (NestedRow first) = refl
element_of-code_of (NestedCell number) = refl

both_first : (a b : Bool) → (a && b) ≡ true → a ≡ true
both_first true b e = refl
both_first false b e = e

both_second : (a b : Bool) → (a && b) ≡ true → b ≡ true
both_second true b e = e
both_second false b e = absurd (true≢false (sym e))

both : (a b : Bool) → a ≡ true → b ≡ true → (a && b) ≡ true
both true b one other = other
both false b one other = one

equal_is : (a b : Bool) → equal a b ≡ true → a ≡ b
equal_is true true e = refl
equal_is true false e = absurd (true≢false (sym e))
equal_is false true e = absurd (true≢false (sym e))
equal_is false false e = refl

equal_self : (a : Bool) → equal a a ≡ true
equal_self true = refl
equal_self false = refl

eqb-self : (n : ℕ) → (n == n) ≡ true
eqb-self n = eq-eqb n n refl

code_is : (one two : Code) → same_code one two ≡ true → one ≡ two
code_is one two e =
    let flags = equal one.one two.one && equal one.other two.other in
    let levels = one.level == two.level && flags in
    let ends = one.end == two.end && levels in
    let begins = one.begin == two.begin && ends in
    let numbers = one.number == two.number && begins in
    let rest = both_second (one.kind == two.kind) numbers e in
    let rest2 = both_second (one.number == two.number) begins rest in
    let rest3 = both_second (one.begin == two.begin) ends rest2 in
    let rest4 = both_second (one.end == two.end) levels rest3 in
    let rest5 = both_second (one.level == two.level) flags rest4 in
    let kind : one.kind ≡ two.kind = eqb-true one.kind two.kind (both_first (one.kind == two.kind) numbers e) in
    let number : one.number ≡ two.number =
    eqb-true one.number two.number (both_first (one.number == two.number) begins rest) in
    let begin : one.begin ≡ two.begin =
    eqb-true one.begin two.begin (both_first (one.begin == two.begin) ends rest2) in
    let end : one.end ≡ two.end = eqb-true one.end two.end (both_first (one.end == two.end) levels rest3) in
    let level : one.level ≡ two.level =
    eqb-true one.level two.level (both_first (one.level == two.level) flags rest4) in
    let first : one.one ≡ two.one =
    equal_is one.one two.one (both_first (equal one.one two.one) (equal one.other two.other) rest5) in
    let second : one.other ≡ two.other =
    equal_is one.other two.other (both_second (equal one.one two.one) (equal one.other two.other) rest5) in
    λ i. record {
      kind = kind i;
      number = number i;
      begin = begin i;
      end = end i;
      level = level i;
      one = first i;
      other = second i;
    }

code_self : (code : Code) → same_code code code ≡ true
code_self code =
    let flags = equal code.one code.one && equal code.other code.other in
    let level = code.level == code.level && flags in
    let end = code.end == code.end && level in
    let begin = code.begin == code.begin && end in
    let number = code.number == code.number && begin in
    both (code.kind == code.kind) number (eqb-self code.kind) (both (code.number == code.number) begin (eqb-self
    code.number)
    (both (code.begin == code.begin) end (eqb-self code.begin) (both (code.end == code.end) level (eqb-self code.end)
    (both (code.level == code.level) flags (eqb-self code.level) (both (equal code.one code.one) (equal code.other
    code.other) (equal_self code.one) (equal_self code.other))))))

pub same_exact : (one other : Element) → same one other ≡ true ↔ one ≡ other
same_exact one other = (
  λ e.
      sym (element_of-code_of one) ∙ ap element_of (code_is (code_of one) (code_of other) e)
      ∙ element_of-code_of other,
  λ e. ap (λ two. same one two) (sym e) ∙ code_self (code_of one),
)
