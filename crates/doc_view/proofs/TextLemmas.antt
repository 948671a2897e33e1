-- A text is put paragraph by paragraph.
use Rattle.std.proofs.Common.{◌≡◌, ◌∙◌, ℕ, ◌+◌, ◌-◌, ◌<◌, ◌≤◌, List, [], ◌∷◌, ◌++◌, length, take, drop, refl, sym, ap, subst}
use Rattle.std.proofs.Common.{append_assoc, append-nil, arith, Option, Some, None, Bool, Bor, true, false, not, ◌||◌, inl, inr}
use Rattle.std.specs.Prelude.{slice_get, slice_range, IsSome, if◌then◌else◌, option_map}
use Rattle.std.specs.Option.{ForSome}
use Rattle.std.specs.List.{list_any, take_while}
use Rattle.std.proofs.lemmas.List.{drop-drop}
use Rattle.std.proofs.lemmas.List.Concat.{flat_map-cons}
use Rattle.std.proofs.lemmas.List.Sums.{take_while-cons}
use Rattle.std.proofs.lemmas.Bool.{cases_lt}
use Rattle.std.proofs.lemmas.Option.{same_Some, slice_get_past}
use Rattle.doc_bits.proofs.Public.{there_is, or_false}
use Rattle.run_lists.specs.Spread.{expanded}
use Rattle.run_lists.proofs.Public.{run_and_rest}
use Rattle.style_sheet.specs.Chain.{style_kind_at}
use Rattle.style_sheet.specs.Sheet.{Sheet}
use Rattle.doc_model.specs.declared.item.Item.{Item}
use Rattle.doc_model.specs.declared.item.Mark.{Mark}
use Rattle.plain_doc.specs.RightDocument.{HoldsAtItems}
use Rattle.plain_doc.specs.RulesOfTexts.{HasParagraphStyle}
use Rattle.doc_model.specs.Settings.{is_inside}
use Rattle.doc_model.specs.Stretches.{stretches, BeginsStretch}
use Rattle.doc_model.proofs.Public.{stretches-first, stretches-nil, rest_of, a_mark, no_mark}
use Rattle.doc_columns.specs.Attached.{attached_of}
use Rattle.doc_columns.specs.declared.attached.Attached.{Attached}
use Rattle.doc_columns.specs.declared.walk.Parts.{Parts}
use Rattle.doc_columns.specs.Walks.{items_in, AreFullParts}
use Rattle.doc_columns.proofs.Public.{begins_range, attached_there, items_long, part_at, range_got, range_long}
use Rattle.doc_columns.proofs.Public.{units_are}
use Rattle.list_numbers.specs.declared.paragraph_values.ParagraphValues.{ParagraphValues}
use Rattle.doc_outer.specs.declared.sink.Sink.{Ghosts}
use Rattle.doc_view.specs.declared.line.Lead.{Lead}
use Rattle.doc_view.specs.declared.line.Line.{Line}
use Rattle.page_out.specs.declared.page.Page.{Page}
use Rattle.doc_view.specs.declared.paragraph.Saying.{Saying}
use Rattle.doc_view.specs.declared.reading.Manner.{Manner}
use Rattle.doc_view.specs.declared.reading.Seen.{Seen}
use Rattle.doc_view.specs.declared.references.Reference.{Reference}
use Rattle.doc_view.specs.declared.standing.Standing.{Standing}
use Rattle.doc_view.specs.declared.standing.Standing.TheVariants.{Outside, Inside, Cell, Row, HeadRow}
use Rattle.doc_view.specs.Course.{CourseAt, PutsItems}
use Rattle.doc_view.specs.Glyphs.{glyphs_text}
use Rattle.doc_view.specs.Labels.{opening_text}
use Rattle.doc_view.specs.Layout.{front_at, is_in_table, row_goes_on, closes_cell, layout_of, line_behind}
use Rattle.doc_view.specs.Layout.{paragraph_text}
use Rattle.doc_view.specs.Layout.{row_before, cell_before, some_here, text_from}
use Rattle.doc_view.specs.Lines.{lead_text, unsaid_text, line_after}
use Rattle.page_out.specs.Printed.{Prints}
use Rattle.doc_view.specs.Seen.{Formats, Paragraph, glyphs_in, is_here, paragraph_of, paragraph_ending, paragraphs_from}
use Rattle.doc_view.specs.Seen.{paragraphs_of, references_in, references_of, seen_from, some_shown, standing_of, style_of}
use Rattle.doc_view.specs.Seen.{with_values}
use Rattle.std.proofs.Math.ListN.{drop_of_length-le}
use Rattle.page_out.proofs.Public.{nothing_put, put_then}
use Rattle.doc_view.proofs.RangeLemmas.{front_then, seen_range}
use Rattle.doc_view.proofs.SayingLemmas.{left_end}
use Rattle.text_codes.specs.Halves.{half_text}

-- ---- lines

row_by : (before : List Paragraph) (paragraph : Paragraph) (standing : Standing) → paragraph.standing ≡ standing →
    row_before (paragraph ∷ before) ≡ (if row_goes_on standing then paragraph ∷ row_before before else [])
row_by before paragraph standing is =
    take_while-cons (λ (p : Paragraph). row_goes_on p.standing) paragraph before
    ∙ (λ i. if row_goes_on (is i) then paragraph ∷ row_before before else [])

-- what is here, by the paragraphs of the row
line_with : List Paragraph → Paragraph → List Paragraph → Line
line_with before paragraph row = record {
  some = is_here paragraph || some_here before;
  in_row = some_here row;
  in_cell = some_here (take_while (λ (p : Paragraph). not (closes_cell p.standing)) row);
  later = list_any (λ (p : Paragraph). closes_cell p.standing) row;
}

-- the same where the row goes on
line_in : (before : List Paragraph) (paragraph : Paragraph) (standing : Standing) → paragraph.standing ≡ standing →
    line_with before paragraph (paragraph ∷ row_before before)
    ≡ record {
      some = is_here paragraph || some_here before;
      in_row = is_here paragraph || some_here (row_before before);
      in_cell = some_here (if not (closes_cell standing) then paragraph ∷ cell_before before else []);
      later = closes_cell standing || list_any (λ (p : Paragraph). closes_cell p.standing) (row_before before);
    }
unfolding line_with
line_in before paragraph standing is =
    (λ i. record {
      some = is_here paragraph || some_here before;
      in_row = is_here paragraph || some_here (row_before before);
      in_cell =
          some_here
          (take_while-cons (λ (p : Paragraph). not (closes_cell p.standing)) paragraph (row_before before) i);
      later =
          closes_cell paragraph.standing || list_any (λ (p : Paragraph). closes_cell p.standing) (row_before before);
    })
    ∙ (λ i. record {
      some = is_here paragraph || some_here before;
      in_row = is_here paragraph || some_here (row_before before);
      in_cell = some_here (if not (closes_cell (is i)) then paragraph ∷ cell_before before else []);
      later = closes_cell (is i) || list_any (λ (p : Paragraph). closes_cell p.standing) (row_before before);
    })

-- what is here behind one paragraph more
line_by : (before : List Paragraph) (paragraph : Paragraph) (standing : Standing) → paragraph.standing ≡ standing →
    line_behind (paragraph ∷ before) ≡ line_after (line_behind before) standing (is_here paragraph)
unfolding line_with
line_by before paragraph Outside is = ap (line_with before paragraph) (row_by before paragraph Outside is)
line_by before paragraph Inside is =
    ap (line_with before paragraph) (row_by before paragraph Inside is) ∙ line_in before paragraph Inside is
line_by before paragraph Cell is =
    ap (line_with before paragraph) (row_by before paragraph Cell is) ∙ line_in before paragraph Cell is
line_by before paragraph Row is = ap (line_with before paragraph) (row_by before paragraph Row is)
line_by before paragraph HeadRow is = ap (line_with before paragraph) (row_by before paragraph HeadRow is)

pub line_on : (before : List Paragraph) (paragraph : Paragraph) (line : Line) → line ≡ line_behind before →
    line_after line paragraph.standing (is_here paragraph) ≡ line_behind (paragraph ∷ before)
line_on before paragraph line is =
    ap (λ (l : Line). line_after l paragraph.standing (is_here paragraph)) is
    ∙ sym (line_by before paragraph paragraph.standing refl)

-- ---- paragraphs one by one

-- what was put of a text: the paragraphs so far, where the others are left
pub record TextAt {K : Type 0} (sink : Ghosts K) (start : K) (page : Page) (out : K) (now : Page) (lead : List ℕ)
    (all rest : List Paragraph) (line : Line) (first references : List Reference) : Type 0 where
  pub before : List Paragraph
  pub line_is : line ≡ line_behind before
  pub text : List ℕ
  pub prints : Prints sink start page out now text
  pub whole : text ++ text_from lead before rest ≡ text_from lead [] all
  pub met : references ++ references_of rest ≡ first ++ references_of all
  pub some : (some_here before || some_here rest) ≡ some_here all

-- what a paragraph comes to where a line has this
abbrev pub paragraph_said : List ℕ → Line → Paragraph → List ℕ
paragraph_said lead line paragraph =
    let in_table = is_in_table paragraph.standing in
    if is_here paragraph then (front_at lead line in_table ++ opening_text in_table paragraph.values)
    ++ glyphs_text in_table (glyphs_in paragraph.items) else []

or_shift : (a b c : Bool) → (a || (b || c)) ≡ ((b || a) || c)
or_shift true true c = refl
or_shift true false c = refl
or_shift false true c = refl
or_shift false false c = refl

pub text_on : {K : Type 0} (sink : Ghosts K) (start : K) (page : Page) (out : K) (now : Page) (next : K) (after : Page)
    (lead : List ℕ) (all : List Paragraph) (paragraph : Paragraph) (rest : List Paragraph) (line : Line)
    (first references : List Reference) →
    TextAt sink start page out now lead all (paragraph ∷ rest) line first references →
    Prints sink out now next after (paragraph_said lead line paragraph) →
    TextAt sink start page next after lead all rest (line_after line paragraph.standing (is_here paragraph)) first
    (references ++ references_in paragraph.items)
unfolding text_from
text_on sink start page out now next after lead all paragraph rest line first references at put =
    let said = paragraph_said lead line paragraph in
    let same : said ≡ paragraph_text lead at.before paragraph =
    ap (λ (l : Line). paragraph_said lead l paragraph) at.line_is in
    record {
      before = paragraph ∷ at.before;
      line_is = line_on at.before paragraph line at.line_is;
      text = at.text ++ said;
      prints = put_then sink start out next page now after at.text said at.prints put;
      whole =
          append_assoc at.text said (text_from lead (paragraph ∷ at.before) rest)
          ∙ ap (λ (x : List ℕ). at.text ++ (x ++ text_from lead (paragraph ∷ at.before) rest)) same
          ∙ at.whole;
      met =
          append_assoc references (references_in paragraph.items) (references_of rest)
          ∙ ap (λ (x : List Reference). references ++ x)
          (sym (flat_map-cons (λ (p : Paragraph). references_in p.items) paragraph rest))
          ∙ at.met;
      some = sym (or_shift (some_here at.before) (is_here paragraph) (some_here rest)) ∙ at.some;
    }

-- where nothing is left
pub text_put : {K : Type 0} (sink : Ghosts K) (start : K) (page : Page) (out : K) (now : Page) (next : K) (after : Page)
    (lead : List ℕ) (all : List Paragraph) (line : Line) (first references : List Reference) →
    TextAt sink start page out now lead all [] line first references →
    Prints sink out now next after (if line.some then 10 ∷ [] else []) →
    Prints sink start page next after (layout_of lead all)
unfolding text_from
text_put sink start page out now next after lead all line first references at put =
    let end : Line → List ℕ = λ line. if line.some then 10 ∷ [] else [] in
    subst (λ (text : List ℕ). Prints sink start page next after text)
    (ap (λ (l : Line). at.text ++ end l) at.line_is ∙ at.whole)
    (put_then sink start out next page now after at.text (end line) at.prints put)

pub all_met : {K : Type 0} (sink : Ghosts K) (start : K) (page : Page) (out : K) (now : Page)
    (lead : List ℕ) (all : List Paragraph) (line : Line) (first references : List Reference) →
    TextAt sink start page out now lead all [] line first references → references ≡ first ++ references_of all
all_met sink start page out now lead all line first references at = sym (append-nil references) ∙ at.met

pub some_put : {K : Type 0} (sink : Ghosts K) (start : K) (page : Page) (out : K) (now : Page)
    (lead : List ℕ) (all : List Paragraph) (line : Line) (first references : List Reference) →
    TextAt sink start page out now lead all [] line first references → line.some ≡ some_here all
some_put sink start page out now lead all line first references at =
    ap (λ (l : Line). l.some) at.line_is ∙ sym (or_false (some_here at.before)) ∙ at.some

-- ---- one paragraph

-- what is said of a paragraph that is put from its start to its end
pub paragraph_put : {K : Type 0} (sink : Ghosts K) (before after : CourseAt K) (next : K) (page : Page) (seen : List
    Seen) →
    PutsItems sink before after seen → Prints sink after.out after.page next page (half_text after.saying.half) →
    Prints sink before.out before.page next page (unsaid_text before.saying seen)
paragraph_put sink before after next page seen passes put =
    subst (λ (text : List ℕ). Prints sink before.out before.page next page text)
    (sym (ap (unsaid_text before.saying) (sym (append-nil seen)) ∙ passes.says.goes_on []
    ∙ ap (λ (x : List ℕ). passes.text ++ x) (left_end after.saying passes.says.still)))
    (put_then sink before.out after.out next before.page after.page page passes.text (half_text after.saying.half)
    passes.prints put)

-- ---- the paragraphs of a text by its columns

-- the items from a place on begin with the paragraph there
pub paragraph_begins : (parts : Parts) → AreFullParts parts → (from to : ℕ) → from < to → to ≤ length parts.units.now →
    ((k : ℕ) (attached : Attached) → from ≤ k → k + 1 < to → slice_get (expanded parts.attachments.now) k ≡ Some
    attached →
    attached.mark ≡ None) →
    (to < length parts.units.now → (attached : Attached) → slice_get (expanded parts.attachments.now) (to - 1) ≡ Some
    attached →
    IsSome attached.mark) →
    stretches is_inside (drop from (items_in parts))
    ≡ slice_range (items_in parts) from to ∷ stretches is_inside (drop to (items_in parts))
paragraph_begins parts are from to some within inside ends =
    let items = items_in parts in
    let long : length items ≡ length parts.units.now = items_long parts are in
    let range =
    begins_range is_inside items from to (length items) some (omega (arith, long, within)) (omega arith)
    (λ k x y le until here there. no_mark x y (inside k (attached_of x) le until (attached_there parts are k x here)))
    (λ more x y here there. a_mark x y
    (ends (omega (arith, long, more)) (attached_of x) (attached_there parts are (to - 1) x here))) in
    let begins : BeginsStretch is_inside (drop from items) (to - from) =
    subst (λ (xs : List Item). BeginsStretch is_inside xs (to - from)) (rest_of items from) range in
    let place : from + (to - from) ≡ to = omega (arith, some) in
    stretches-first is_inside (drop from items) (to - from) begins
    ∙ ap (λ (xs : List Item). slice_range items from to ∷ stretches is_inside xs)
    (drop-drop (to - from) from items ∙ ap (λ (n : ℕ). drop n items) place)

-- the paragraph, by what is at its last item
pub paragraph_is : (formats : Formats) (manner : Manner) (parts : Parts) → AreFullParts parts → (from to unit : ℕ)
    (attached : Attached) → from < to → to ≤ length parts.units.now →
    slice_get parts.units.now (to - 1) ≡ Some unit → slice_get (expanded parts.attachments.now) (to - 1) ≡ Some attached
    →
    paragraph_of formats manner (take from (items_in parts)) (slice_range (items_in parts) from to)
    ≡ record {
      standing = standing_of unit attached.mark;
      values = None;
      items =
          seen_from formats manner (style_of attached.mark) (take from (items_in parts))
          (slice_range (items_in parts) from to);
    }
paragraph_is formats manner parts are from to unit attached some within unit_is last =
    let items = items_in parts in
    let part = slice_range items from to in
    let long : length part ≡ to - from = range_long items from to (omega (arith, items_long parts are, within)) in
    let one = there_is part (length part - 1) (omega (arith, long, some)) in
    let place : from + (length part - 1) ≡ to - 1 = omega (arith, long, some) in
    let here : slice_get items (to - 1) ≡ Some one.0 =
    subst (λ n. slice_get items n ≡ Some one.0) place (range_got items from to (length part - 1) one.0 one.1) in
    let same : attached_of one.0 ≡ attached =
    same_Some (attached_of one.0) attached (sym (attached_there parts are (to - 1) one.0 here) ∙ last) in
    let unit_same : one.0.unit ≡ unit =
    part_at (λ (item : Item). item.unit) items parts.units.now (to - 1) one.0 unit (units_are parts are) here unit_is in
    ap (λ (o : Option Item). paragraph_ending formats manner (take from items) part o) one.1
    ∙ (λ i. record {
      standing = standing_of (unit_same i) (same i).mark;
      values = None;
      items = seen_from formats manner (style_of (same i).mark) (take from items) part;
    })

style_by : (sheet : Sheet) (mark : Option Mark) → style_kind_at sheet 0 ≡ 1 →
    ForSome mark (λ (m : Mark). style_kind_at sheet m.istd ≡ 1) → style_kind_at sheet (style_of mark) ≡ 1
style_by sheet None normal right = normal
style_by sheet (Some mark) normal right = right mark refl

-- the style of a paragraph is one of paragraphs
pub right_style : (sheet : Sheet) (parts : Parts) → AreFullParts parts → (at : ℕ) (attached : Attached) →
    style_kind_at sheet 0 ≡ 1 → HoldsAtItems (items_in parts) (λ i item. HasParagraphStyle sheet item) →
    at < length parts.units.now → slice_get (expanded parts.attachments.now) at ≡ Some attached →
    style_kind_at sheet (style_of attached.mark) ≡ 1
right_style sheet parts are at attached normal styles within here =
    let items = items_in parts in
    let one = there_is items at (omega (arith, items_long parts are, within)) in
    let same : attached_of one.0 ≡ attached =
    same_Some (attached_of one.0) attached (sym (attached_there parts are at one.0 one.1) ∙ here) in
    subst (λ (b : Attached). style_kind_at sheet (style_of b.mark) ≡ 1) same
    (style_by sheet one.0.mark normal (styles at one.0 one.1))

-- ---- the loop

-- at the start all is left
pub text_start : {K : Type 0} (sink : Ghosts K) (start : K) (page : Page) (lead : List ℕ) (all : List Paragraph)
    (references : List Reference) →
    TextAt sink start page start page lead all all
    (record { some = false; in_row = false; in_cell = false; later = false }) references references
text_start sink start page lead all references = record {
  before = [];
  line_is = refl;
  text = [];
  prints = nothing_put sink start page;
  whole = refl;
  met = refl;
  some = refl;
}

-- the paragraphs of a text are those from its start on
pub all_left : (formats : Formats) (manner : Manner) (items : List Item) →
    paragraphs_from formats manner (take 0 items) (stretches is_inside (drop 0 items))
    ≡ paragraphs_of formats manner items
all_left formats manner items = refl

-- at its end none are left
pub none_left : (formats : Formats) (manner : Manner) (items : List Item) (at : ℕ) → length items ≤ at →
    paragraphs_from formats manner (take at items) (stretches is_inside (drop at items)) ≡ []
unfolding paragraphs_from
none_left formats manner items at past =
    ap (λ (xs : List Item). paragraphs_from formats manner (take at items) (stretches is_inside xs))
    (drop_of_length-le items past)
    ∙ ap (paragraphs_from formats manner (take at items)) (stretches-nil is_inside)

-- the paragraph of a place, and those behind it
pub next_left : (formats : Formats) (manner : Manner) (parts : Parts) → AreFullParts parts → (from to unit : ℕ)
    (attached : Attached) → from < to → to ≤ length parts.units.now →
    ((k : ℕ) (attached : Attached) → from ≤ k → k + 1 < to → slice_get (expanded parts.attachments.now) k ≡ Some
    attached →
    attached.mark ≡ None) →
    (to < length parts.units.now → (attached : Attached) → slice_get (expanded parts.attachments.now) (to - 1) ≡ Some
    attached →
    IsSome attached.mark) →
    slice_get parts.units.now (to - 1) ≡ Some unit → slice_get (expanded parts.attachments.now) (to - 1) ≡ Some attached
    →
    paragraphs_from formats manner (take from (items_in parts)) (stretches is_inside (drop from (items_in parts)))
    ≡ record {
      standing = standing_of unit attached.mark;
      values = None;
      items = seen_range formats manner (style_of attached.mark) (items_in parts) from to;
    } ∷ paragraphs_from formats manner (take to (items_in parts)) (stretches is_inside (drop to (items_in parts)))
unfolding paragraphs_from
next_left formats manner parts are from to unit attached some within inside ends unit_is last =
    let items = items_in parts in
    ap (paragraphs_from formats manner (take from items)) (paragraph_begins parts are from to some within inside ends)
    ∙ (λ i. paragraph_is formats manner parts are from to unit attached some within unit_is last i
    ∷ paragraphs_from formats manner (front_then items from to (omega (arith, some)) i)
    (stretches is_inside (drop to items)))

-- where no values are left
values_past : (values : List ParagraphValues) (k : ℕ) (standing : Standing) (items : List Seen)
    (rest : List Paragraph) → length values ≤ k →
    with_values (drop k values) (record { standing = standing; values = None; items = items } ∷ rest)
    ≡ record { standing = standing; values = slice_get values k; items = items } ∷ with_values (drop (k + 1) values) rest
unfolding with_values
values_past values k standing items rest past =
    let here : drop k values ≡ [] = drop_of_length-le values past in
    let next : drop (k + 1) values ≡ [] = drop_of_length-le values (omega (arith, past)) in
    let none : slice_get values k ≡ None = slice_get_past values k past in
    (λ i. with_values (here i) (record { standing = standing; values = None; items = items } ∷ rest))
    ∙ sym (λ i. record { standing = standing; values = none i; items = items } ∷ with_values (next i) rest)

values_here : (values : List ParagraphValues) (k : ℕ) (standing : Standing) (items : List Seen)
    (rest : List Paragraph) → k < length values →
    with_values (drop k values) (record { standing = standing; values = None; items = items } ∷ rest)
    ≡ record { standing = standing; values = slice_get values k; items = items } ∷ with_values (drop (k + 1) values) rest
unfolding with_values
values_here values k standing items rest low =
    let one = there_is values k low in
    (λ i. with_values (run_and_rest values k one.0 one.1 i)
    (record { standing = standing; values = None; items = items } ∷ rest))
    ∙ sym (λ i. record { standing = standing; values = one.1 i; items = items }
    ∷ with_values (drop (k + 1) values) rest)

-- the first of paragraphs has its values
pub values_next : (values : List ParagraphValues) (k : ℕ) (standing : Standing) (items : List Seen)
    (rest : List Paragraph) →
    with_values (drop k values) (record { standing = standing; values = None; items = items } ∷ rest)
    ≡ record { standing = standing; values = slice_get values k; items = items } ∷ with_values (drop (k + 1) values) rest
values_next values k standing items rest = elim (cases_lt k (length values)) [
  | inl less ↦ values_here values k standing items rest less
  | inr past ↦ values_past values k standing items rest past
]

-- no paragraph has none of its values
pub values_none : (values : List ParagraphValues) → with_values values [] ≡ []
unfolding with_values
values_none [] = refl
values_none (one ∷ more) = refl

-- without values paragraphs stay
pub no_values : (paragraphs : List Paragraph) → with_values [] paragraphs ≡ paragraphs
unfolding with_values
no_values paragraphs = refl

-- one paragraph more
pub paragraph_step : {K : Type 0} (sink : Ghosts K) (start : K) (page : Page) (out : K) (now : Page) (mid : K)
    (said : Page) (next : K) (after : Page) (lead : Lead) (line : Line) (all there rest : List Paragraph)
    (standing : Standing) (values : Option (Bor ParagraphValues)) (seen : List Seen) (saying done : Saying)
    (first references met : List Reference) →
    there ≡ record { standing = standing; values = option_map (λ v. v.now) values; items = seen } ∷ rest →
    saying
    ≡ record {
      lead = lead;
      line = line;
      in_table = is_in_table standing;
      values = values;
      begun = false;
      half = None;
    } →
    TextAt sink start page out now (lead_text lead) all there line first references →
    PutsItems sink (record { out = out; page = now; saying = saying; references = references })
    (record { out = mid; page = said; saying = done; references = met }) seen →
    Prints sink mid said next after (half_text done.half) →
    TextAt sink start page next after (lead_text lead) all rest (line_after line standing done.begun) first met
paragraph_step {K = K} sink start page out now mid said next after lead line all there rest standing values seen saying
    done first references met there_same saying_is at passes put =
    let paragraph : Paragraph = record { standing = standing; values = option_map (λ v. v.now) values; items = seen } in
    let from : CourseAt K = record { out = out; page = now; saying = saying; references = references } in
    let to : CourseAt K = record { out = mid; page = said; saying = done; references = met } in
    let here : TextAt sink start page out now (lead_text lead) all (paragraph ∷ rest) line first references =
    subst (λ (ps : List Paragraph). TextAt sink start page out now (lead_text lead) all ps line first references) there_same
    at in
    let whole : Prints sink out now next after (paragraph_said (lead_text lead) line paragraph) =
    subst (λ (s : Saying). Prints sink out now next after (unsaid_text s seen)) saying_is
    (paragraph_put sink from to next after seen passes put) in
    let begun : done.begun ≡ is_here paragraph =
    passes.says.begun ∙ ap (λ (s : Saying). s.begun || some_shown seen) saying_is in
    let step =
    text_on sink start page out now next after (lead_text lead) all paragraph rest line first references here whole in
    subst (λ (r : List Reference). TextAt sink start page next after (lead_text lead) all rest
    (line_after line standing done.begun) first r) (sym passes.references)
    (subst (λ (b : Bool). TextAt sink start page next after (lead_text lead) all rest (line_after line standing b) first
    (references ++ references_in seen)) (sym begun) step)
