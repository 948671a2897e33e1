-- Places of a page in a form one after another, and the page that is put whole.
use Rattle.std.proofs.Common.{◌≡◌, ◌∙◌, ℕ, Bool, List, [], ◌∷◌, ◌++◌, None, refl, sym, ap, subst, false}
use Rattle.doc_outer.specs.declared.sink.Sink.{Ghosts}
use Rattle.page_out.specs.declared.page.Page.{Page}
use Rattle.page_out.specs.Printed.{Prints}
use Rattle.html_page.specs.Pages.{Head}
use Rattle.html_page.specs.Sources.{PageSource, page_source_of}
use Rattle.html_page.specs.declared.printer.HtmlPage.{HtmlPage}
use Rattle.html_page.proofs.Public.{places_none as html_none, places_then as html_then}
use Rattle.markdown_page.specs.declared.printer.MarkdownPage.{MarkdownPage}
use Rattle.markdown_page.proofs.Public.{places_none as markdown_none, places_then as markdown_then}
use Rattle.markdown_page.proofs.Public.{page_put as markdown_put}
use Rattle.markdown_page.specs.Pages.{page_text as markdown_text}
use Rattle.markdown_page.specs.Printed.{PutsPlaces as PutsMarkdown}
use Rattle.form_page.specs.declared.page.PageForm.{PageForm}
use Rattle.form_page.specs.declared.page.FormPage.{FormPage}
use Rattle.form_page.specs.declared.page.FormPage.TheVariants.{Html, Markdown}
use Rattle.form_page.specs.Forms.{Begins, Ends, HasNoHalf, IsFresh, Places, PutsPlaces, page_form_of, form_text}
use Rattle.form_page.specs.Forms.{page_in}
use Rattle.form_page.proofs.HtmlLemmas.{page_put as html_put}

pub places_none : {K : Type 0} (sink : Ghosts K) (at : K) (page : FormPage) → PutsPlaces sink at page at page []
places_none sink at (Html html) = html_none sink at html
places_none sink at (Markdown markdown) = markdown_none sink at markdown

pub places_then : {K : Type 0} (sink : Ghosts K) (a b c : K) (p q r : FormPage) (xs ys : Places) →
    PutsPlaces sink a p b q xs → PutsPlaces sink b q c r ys → PutsPlaces sink a p c r (xs ++ ys)
places_then sink a b c (Html p) (Html q) (Html r) xs ys one other = html_then sink a b c p q r xs ys one other
places_then sink a b c (Html p) (Html q) (Markdown r) xs ys one other = absurd other
places_then sink a b c (Html p) (Markdown q) (Html r) xs ys one other = absurd one
places_then sink a b c (Html p) (Markdown q) (Markdown r) xs ys one other = absurd one
places_then sink a b c (Markdown p) (Html q) (Html r) xs ys one other = absurd one
places_then sink a b c (Markdown p) (Html q) (Markdown r) xs ys one other = absurd one
places_then sink a b c (Markdown p) (Markdown q) (Html r) xs ys one other = absurd other
places_then sink a b c (Markdown p) (Markdown q) (Markdown r) xs ys one other =
    markdown_then sink a b c p q r xs ys one other

-- a page of which nothing was put
pub fresh_block : (page : FormPage) (block : List ℕ) (source : PageSource) → IsFresh page block source → (page_in page).block ≡ block
fresh_block (Html html) block source fresh = ap (λ (p : Page). p.block) fresh.0
fresh_block (Markdown markdown) block source fresh = ap (λ (p : Page). p.block) fresh.0

pub fresh_right : (page : FormPage) (block : List ℕ) (source : PageSource) → IsFresh page block source → (page_in page).failed ≡ false
fresh_right (Html html) block source fresh = ap (λ (p : Page). p.failed) fresh.0
fresh_right (Markdown markdown) block source fresh = ap (λ (p : Page). p.failed) fresh.0

-- no half waits
pub fresh_half : (page : FormPage) (block : List ℕ) (source : PageSource) → IsFresh page block source → HasNoHalf page
fresh_half (Html html) block source fresh = fresh.1.1.0
fresh_half (Markdown markdown) block source fresh = tt

begun_markdown : {K : Type 0} (sink : Ghosts K) (a b c : K) (p q r : MarkdownPage) (places : Places) →
    b ≡ a → q ≡ p → PutsMarkdown sink b q c r places → PutsMarkdown sink a p c r places
begun_markdown {K = K} sink a b c p q r places out page puts =
    subst (λ (at : K). PutsMarkdown sink at p c r places) out
    (subst (λ (m : MarkdownPage). PutsMarkdown sink b m c r places) page puts)

-- what is before the text, the places, and what is behind them are the page
pub whole_put : {K : Type 0} (sink : Ghosts K) (a b c d : K) (p q r s : FormPage) (block : List ℕ)
    (source : PageSource) (head : Head) (places : Places) → IsFresh p block source → Begins sink a p b q head → PutsPlaces sink b q c r places →
    Ends sink c r d s → Prints sink a (page_in p) d (page_in s) (form_text (page_form_of p) source head places)
whole_put sink a b c d (Html p) (Html q) (Html r) (Html s) block source head places fresh begins puts ends =
    html_put sink a b c d p.page q r s.page source head places begins.0 (begins.1.0 ∙ fresh.1.0) begins.1.1.0 (ap
    page_source_of begins.1.1.1 ∙ fresh.1.1.1) puts ends
whole_put sink a b c d (Html p) (Html q) (Html r) (Markdown s) block source head places fresh begins puts ends = absurd ends
whole_put sink a b c d (Html p) (Html q) (Markdown r) s block source head places fresh begins puts ends = absurd puts
whole_put sink a b c d (Html p) (Markdown q) r s block source head places fresh begins puts ends = absurd begins
whole_put sink a b c d (Markdown p) (Html q) r s block source head places fresh begins puts ends = absurd begins
whole_put sink a b c d (Markdown p) (Markdown q) (Html r) s block source head places fresh begins puts ends = absurd puts
whole_put sink a b c d (Markdown p) (Markdown q) (Markdown r) (Html s) block source head places fresh begins puts ends =
    absurd ends
whole_put sink a b c d (Markdown p) (Markdown q) (Markdown r) (Markdown s) block source head places fresh begins puts ends =
    markdown_put sink a c d p r s source.document places fresh.1.1 fresh.1.0
    (begun_markdown sink a b c p q r places begins.0 begins.1 puts) ends
