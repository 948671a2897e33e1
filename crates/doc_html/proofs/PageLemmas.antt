-- A page that is written whole.
use Rattle.std.proofs.Common.{◌≡◌, ◌∙◌, ℕ, Bool, true, false, List, [], ◌∷◌, ◌++◌, refl, sym, ap, subst, Result, Ok}
use Rattle.std.proofs.Common.{Err}
use Rattle.std.proofs.Common.{append_assoc, append-nil, Option, Some, None, map}
use Rattle.std.specs.Prelude.{encode_utf8_all, OnOk, OnErr}
use Rattle.style_sheet.specs.Sheet.{Sheet}
use Rattle.doc_outer.specs.Counts.{Rose, CountGoesOn}
use Rattle.doc_outer.specs.Written.{Appends, AppendsPrefix}
use Rattle.doc_outer.specs.declared.sink.Sink.{Ghosts}
use Rattle.page_out.specs.declared.page.Page.{Page}
use Rattle.page_out.specs.Printed.{FailsIn, Prints}
use Rattle.html_page.specs.Pages.{page_text}
use Rattle.form_page.specs.declared.page.PageForm.{PageForm}
use Rattle.form_page.specs.Forms.{form_text}
use Rattle.doc_pictures.specs.Files.{ImageFiles}
use Rattle.html_page.specs.Sources.{PageSource}
use Rattle.plain_doc.specs.Sound.{IsSound}
use Rattle.plain_doc.proofs.Public.{sound_is_valid}
use Rattle.list_numbers.specs.declared.paragraph_values.ParagraphValues.{ParagraphValues}
use Rattle.list_numbers.specs.ParagraphValues.{AreParagraphValuesOf}
use Rattle.list_numbers.proofs.Public.{paragraph_values_of_one}
use Rattle.doc_view.specs.declared.view.Options.{Options}
use Rattle.doc_view.specs.Page.{AreFormats}
use Rattle.doc_view.specs.Seen.{Formats}
use Rattle.doc_view.proofs.Public.{same_formats, failed_page, formats_there, prefix_page, whole_page}
use Rattle.doc_places.specs.Places.{document_places}
use Rattle.doc_html.specs.Laws.{FormPagesAreOne, HtmlPagesAreReadBack, HtmlPagesAreSafe}
use Rattle.doc_html.specs.Head.{page_head}
use Rattle.doc_html.specs.Page.{IsFormPage, IsHtmlPage, IsSafe}
use Rattle.html_page.proofs.Public.{page_read, tags_known, page_nests}

-- ---- the page of a document

pub form_ok : {K E : Type 0} (sink : Ghosts K) (a b c : K) (p q : Page) (form : PageForm) (source : PageSource) (values : List
    ParagraphValues) (options : Options) (taken : Result (Unit {0}) E) → AreParagraphValuesOf source.document values → IsSound source.document → p.block ≡ [] → p.failed ≡ false →
    ((formats : Formats) → AreFormats source.document.sheet formats → Prints sink a p b q (form_text form source
    (page_head formats options source.document) (document_places formats values
    options
    source.document))) → OnOk taken (q.failed ≡ false) → OnOk taken (Appends (sink.written b) (sink.written c) q.block) →
    OnOk taken ((bytes : List ℕ) × (IsFormPage form options source bytes × Appends (sink.written a) (sink.written c)
    bytes))
form_ok sink a b c p q form source values options (Err e) are sound empty right put fine ends = tt
form_ok sink a b c p q form source values options (Ok u) are sound empty right put fine ends =
    let there = formats_there source.document.sheet (sound_is_valid source.document sound).bases in
    let bytes = encode_utf8_all (form_text form source (page_head there.0 options source.document) (document_places
    there.0 values options source.document)) in (
      bytes,
      (
        record { formats = there.0; are = there.1; values = values; are_values = are; text = refl },
        whole_page sink a b c p q bytes empty (put there.0 there.1) fine ends,
      ),
    )

pub form_prefix : {K E : Type 0} (sink : Ghosts K) (a b c : K) (p q : Page) (form : PageForm) (source : PageSource) (values : List
    ParagraphValues) (options : Options) (taken : Result (Unit {0}) E) → AreParagraphValuesOf source.document values → IsSound source.document → p.block ≡ [] → p.failed ≡ false →
    ((formats : Formats) → AreFormats source.document.sheet formats → Prints sink a p b q (form_text form source
    (page_head formats options source.document) (document_places formats values
    options
    source.document))) → OnErr taken (q.failed ≡ false → FailsIn sink b q c []) →
    OnErr taken (q.failed ≡ true → sink.written c ≡ sink.written b) → CountGoesOn (sink.faults b) (sink.faults c) →
    OnErr taken ((bytes : List ℕ) × (IsFormPage form options source bytes
    × AppendsPrefix (sink.written a) (sink.written c) bytes))
form_prefix sink a b c p q form source values options (Ok u) are sound empty right put fails stays on = tt
form_prefix sink a b c p q form source values options (Err e) are sound empty right put fails stays on =
    let there = formats_there source.document.sheet (sound_is_valid source.document sound).bases in
    let bytes = encode_utf8_all (form_text form source (page_head there.0 options source.document) (document_places
    there.0 values options source.document)) in (
      bytes,
      (
        record { formats = there.0; are = there.1; values = values; are_values = are; text = refl },
        prefix_page sink a c p bytes empty (failed_page sink a b c p q bytes right (put there.0 there.1) fails stays
            on),
      ),
    )

pub form_rose : {K E : Type 0} (sink : Ghosts K) (a b c : K) (p q : Page) (form : PageForm) (source : PageSource) (values : List
    ParagraphValues) (options : Options) (taken : Result (Unit {0}) E) → AreParagraphValuesOf source.document values → IsSound source.document → p.failed ≡ false →
    ((formats : Formats) → AreFormats source.document.sheet formats → Prints sink a p b q (form_text form source
    (page_head formats options source.document) (document_places formats values
    options
    source.document))) → OnErr taken (q.failed ≡ false → FailsIn sink b q c []) →
    OnErr taken (q.failed ≡ true → sink.written c ≡ sink.written b) → CountGoesOn (sink.faults b) (sink.faults c) →
    OnErr taken (Rose (sink.faults a) (sink.faults c))
form_rose sink a b c p q form source values options (Ok u) are sound right put fails stays on = tt
form_rose sink a b c p q form source values options (Err e) are sound right put fails stays on =
    let there = formats_there source.document.sheet (sound_is_valid source.document sound).bases in
    let bytes = encode_utf8_all (form_text form source (page_head there.0 options source.document) (document_places
    there.0 values options source.document)) in
    (failed_page sink a b c p q bytes right (put there.0 there.1) fails stays on).rose

-- a document has one page
pub form_pages_one : FormPagesAreOne
form_pages_one form options source one other a b =
    a.text
    ∙ ap (λ (formats : Formats). encode_utf8_all (form_text form source (page_head formats options source.document)
    (document_places formats a.values
    options source.document)))
    (same_formats source.document.sheet a.formats b.formats a.are b.are)
    ∙ ap (λ (values : List ParagraphValues). encode_utf8_all (form_text form source (page_head b.formats options
    source.document) (document_places
    b.formats values options source.document))) (paragraph_values_of_one source.document a.values b.values a.are_values b.are_values)
    ∙ sym b.text

-- each page is read back, and safe
pub html_pages_read : HtmlPagesAreReadBack
html_pages_read options source bytes is =
    let head = page_head is.formats options source.document in
    let places = document_places is.formats is.values options source.document in
    record {
      formats = is.formats;
      are = is.are;
      values = is.values;
      are_values = is.are_values;
      text = page_text source head places;
      bytes_are = is.text;
      reads = page_read source head places;
      safe = record { known = tags_known source head places; nests = page_nests source head places };
    }

pub html_pages_safe : HtmlPagesAreSafe
html_pages_safe options source bytes is =
    let back = html_pages_read options source bytes is in
    (back.text, (back.bytes_are, back.safe))

-- so is the one that was written
pub html_known : {K : Type 0} (sink : Ghosts K) (a b : K) (source : PageSource) (options : Options) → (bytes : List ℕ) ×
    (IsHtmlPage options source bytes × Appends (sink.written a) (sink.written b) bytes) → (page : List ℕ) × (IsSafe source.images
    page × Appends (sink.written a) (sink.written b) (encode_utf8_all page))
html_known sink a b source options written =
    let safe = html_pages_safe options source written.0 written.1.0 in (
      safe.0,
      (safe.1.1, subst (λ (bytes : List ℕ). Appends (sink.written a) (sink.written b) bytes) safe.1.0 written.1.1),
    )

pub html_safe : {K E : Type 0} (sink : Ghosts K) (a b : K) (source : PageSource) (options : Options)
    (taken : Result (Unit {0}) E) →
    OnOk taken ((bytes : List ℕ) × (IsHtmlPage options source bytes × Appends (sink.written a) (sink.written b)
    bytes)) →
    OnOk taken ((page : List ℕ) × (IsSafe source.images page × Appends (sink.written a) (sink.written b) (encode_utf8_all page)))
html_safe sink a b source options (Ok u) written = html_known sink a b source options written
html_safe sink a b source options (Err e) written = tt
