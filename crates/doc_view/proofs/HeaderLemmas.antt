-- The header texts are put one by one.
use Rattle.std.proofs.Common.{◌≡◌, ◌∙◌, ℕ, ◌+◌, ◌≤◌, List, [], ◌∷◌, ◌++◌, length, drop, refl, sym, ap, subst}
use Rattle.std.proofs.Common.{append_assoc, append-nil, Some, Bool, true, false, not, ◌||◌}
use Rattle.std.specs.Prelude.{slice_get}
use Rattle.std.specs.List.{count_by}
use Rattle.std.proofs.Math.ListN.{drop_of_length-le}
use Rattle.run_lists.proofs.Public.{run_and_rest}
use Rattle.doc_model.specs.declared.item.Item.{Item}
use Rattle.doc_outer.specs.declared.sink.Sink.{Ghosts}
use Rattle.page_out.specs.declared.page.Page.{Page}
use Rattle.page_out.specs.Printed.{Prints}
use Rattle.page_out.proofs.Public.{nothing_put, put_then}
use Rattle.symbol_fonts.specs.declared.fonts.SymbolFonts.{SymbolFonts}
use Rattle.doc_view.specs.declared.reading.Manner.{Manner}
use Rattle.doc_view.specs.declared.reading.TextKind.TheVariants as text_kind
use Rattle.doc_view.specs.Course.{has_reference}
use Rattle.doc_view.specs.Headers.{header_lead, header_text, headers_from}
use Rattle.doc_view.specs.Layout.{layout_of, some_here}
use Rattle.doc_view.specs.Seen.{Formats, paragraphs_of, with_values}
use Rattle.doc_view.specs.Lines.{lead_text}
use Rattle.doc_view.specs.declared.line.Title.TheVariants as title
use Rattle.list_numbers.specs.declared.paragraph_values.ParagraphValues.{ParagraphValues}
use Rattle.doc_view.proofs.TextLemmas.{no_values}

-- a header text refers to no note
pub no_references : (hidden : Bool) (fonts : SymbolFonts) (items : List Item) →
    count_by (has_reference (record { hidden = hidden; kind = text_kind.Header; fonts = fonts })) items ≡ 0
no_references hidden fonts [] = refl
no_references hidden fonts (item ∷ items) = no_references hidden fonts items

-- what is before a header text
same_header_lead : (begun : Bool) (number : ℕ) →
    lead_text (record { is_apart = not begun; title = title.Header number }) ≡ header_lead begun number
same_header_lead true number = refl
same_header_lead false number = refl

-- a header text that is put
pub header_here : {K : Type 0} (sink : Ghosts K) (a b : K) (p q : Page) (formats : Formats) (manner : Manner)
    (begun : Bool) (number : ℕ) (text items : List Item) (values : List ParagraphValues) → values ≡ [] → items ≡ text →
    Prints sink a p b q (layout_of (lead_text (record { is_apart = not begun; title = title.Header number }))
    (with_values values (paragraphs_of formats manner items))) →
    Prints sink a p b q (header_text formats manner begun number text)
header_here sink a b p q formats manner begun number text items values none same put =
    subst (λ (said : List ℕ). Prints sink a p b q said)
    ((λ i. layout_of (same_header_lead begun number i) (with_values (none i) (paragraphs_of formats manner (same i))))
    ∙ ap (layout_of (header_lead begun number)) (no_values (paragraphs_of formats manner text))) put

pub header_some : (formats : Formats) (manner : Manner) (text items : List Item) (values : List ParagraphValues)
    (some : Bool) → values ≡ [] → items ≡ text →
    some ≡ some_here (with_values values (paragraphs_of formats manner items)) →
    some ≡ some_here (paragraphs_of formats manner text)
header_some formats manner text items values some none same is =
    is
    ∙ (λ i. some_here (with_values (none i) (paragraphs_of formats manner (same i))))
    ∙ ap some_here (no_values (paragraphs_of formats manner text))

-- what was put of the header texts, where those from this number on are left
pub record HeadersAt {K : Type 0} (sink : Ghosts K) (start : K) (page : Page) (out : K) (now : Page) (formats : Formats)
    (manner : Manner) (begun : Bool) (number : ℕ) (texts : List (List Item)) : Type 0 where
  pub text : List ℕ
  pub prints : Prints sink start page out now text
  pub whole :
      text ++ headers_from formats manner begun number (drop number texts)
      ≡ headers_from formats manner false 6 (drop 6 texts)

pub headers_start : {K : Type 0} (sink : Ghosts K) (start : K) (page : Page) (formats : Formats) (manner : Manner)
    (texts : List (List Item)) → HeadersAt sink start page start page formats manner false 6 texts
headers_start sink start page formats manner texts =
    record { text = []; prints = nothing_put sink start page; whole = refl }

pub header_on : {K : Type 0} (sink : Ghosts K) (start : K) (page : Page) (out : K) (now : Page) (next : K) (after : Page)
    (formats : Formats) (manner : Manner) (begun some : Bool) (number : ℕ) (texts : List (List Item))
    (text : List Item) → HeadersAt sink start page out now formats manner begun number texts →
    slice_get texts number ≡ Some text →
    Prints sink out now next after (header_text formats manner begun number text) →
    some ≡ (begun || some_here (paragraphs_of formats manner text)) →
    HeadersAt sink start page next after formats manner some (number + 1) texts
unfolding headers_from
header_on sink start page out now next after formats manner begun some number texts text at there put is =
    let said = header_text formats manner begun number text in
    let rest = drop (number + 1) texts in
    record {
      text = at.text ++ said;
      prints = put_then sink start out next page now after at.text said at.prints put;
      whole =
          append_assoc at.text said (headers_from formats manner some (number + 1) rest)
          ∙ ap (λ (b : Bool). at.text ++ (said ++ headers_from formats manner b (number + 1) rest)) is
          ∙ (λ i. at.text
          ++ headers_from formats manner begun number (sym (run_and_rest texts number text there) i))
          ∙ at.whole;
    }

pub headers_put : {K : Type 0} (sink : Ghosts K) (start : K) (page : Page) (out : K) (now : Page) (formats : Formats)
    (manner : Manner) (begun : Bool) (number : ℕ) (texts : List (List Item)) → length texts ≤ number →
    HeadersAt sink start page out now formats manner begun number texts →
    Prints sink start page out now (headers_from formats manner false 6 (drop 6 texts))
unfolding headers_from
headers_put sink start page out now formats manner begun number texts past at =
    let none : headers_from formats manner begun number (drop number texts) ≡ [] =
    ap (headers_from formats manner begun number) (drop_of_length-le texts past) in
    subst (λ (text : List ℕ). Prints sink start page out now text)
    (sym (append-nil at.text) ∙ ap (λ (x : List ℕ). at.text ++ x) (sym none) ∙ at.whole) at.prints
