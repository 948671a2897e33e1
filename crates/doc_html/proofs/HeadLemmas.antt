-- Rows that are the heads of tables.
use Rattle.std.proofs.Common.{◌≡◌, ◌∙◌, Bool, true, false, List, [], ◌∷◌, Option, Some, None, sym, ap, refl}
use Rattle.std.specs.Prelude.{if◌then◌else◌}
use Rattle.std.proofs.lemmas.Option.{same_Some}
use Rattle.doc_view.specs.declared.standing.Standing.{Standing}
use Rattle.doc_view.specs.declared.standing.Standing.TheVariants.{Outside, Inside, Cell, Row, HeadRow}
use Rattle.doc_view.specs.Layout.{ends_head, row_goes_on}
use Rattle.list_numbers.specs.declared.paragraph_values.ParagraphValues.{ParagraphValues}
use Rattle.doc_view.specs.Seen.{Paragraph, with_values}
use Rattle.doc_places.specs.Grid.{is_head_row}
use Rattle.doc_html.specs.Writes.{head_by}

-- the row goes on, or ends
pub head_on : (standing : Standing) (more : List Paragraph) → row_goes_on standing ≡ true → head_by standing more ≡
    is_head_row more
head_on standing more keeps = ap (λ (b : Bool). if b then is_head_row more else ends_head standing) keeps

pub head_ends : (standing : Standing) (more : List Paragraph) → row_goes_on standing ≡ false → head_by standing more ≡
    ends_head standing
head_ends standing more ends = ap (λ (b : Bool). if b then is_head_row more else ends_head standing) ends

-- values change nothing of rows
heads_with : (values : List ParagraphValues) (paragraphs : List Paragraph) → is_head_row (with_values values paragraphs)
    ≡ is_head_row paragraphs
unfolding with_values
heads_with [] paragraphs = refl
heads_with (one ∷ more) [] = refl
heads_with (one ∷ more) (paragraph ∷ rest) =
    ap (λ (b : Bool). if row_goes_on paragraph.standing then b else ends_head paragraph.standing) (heads_with more rest)

pub head_with : (standing : Standing) (values : List ParagraphValues) (more : List Paragraph) → head_by standing
    (with_values values more) ≡ head_by standing more
head_with standing values more =
    ap (λ (b : Bool). if row_goes_on standing then b else ends_head standing) (heads_with values more)

-- what is known of a row is so behind one more paragraph
known_by : (standing : Standing) (more : List Paragraph) (known : Option Bool) (head is : Bool) → known ≡ (if
    row_goes_on standing then Some head else None) → head ≡ head_by standing more → known ≡ Some is → is ≡ is_head_row
    more
known_by Outside more known head is found right here = let none : known ≡ None = found in absurd (cc (none, here))
known_by Inside more known head is found right here = same_Some is head (sym here ∙ found) ∙ right
known_by Cell more known head is found right here = same_Some is head (sym here ∙ found) ∙ right
known_by Row more known head is found right here = let none : known ≡ None = found in absurd (cc (none, here))
known_by HeadRow more known head is found right here = let none : known ≡ None = found in absurd (cc (none, here))

pub known_on : (standing there : Standing) (more : List Paragraph) (known : Option Bool) (head is : Bool) → there ≡ standing →
    known ≡ (if row_goes_on there then Some head else None) → head ≡ head_by there more → known ≡ Some is → is ≡
    is_head_row more
known_on standing there more known head is same found right here = known_by there more known head is found right here
