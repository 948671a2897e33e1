-- A page in HTML while it is printed.
use Rattle.std.specs.Prelude.{◌≡◌, ℕ, List, map}
use Rattle.doc_outer.specs.declared.sink.Sink.{Ghosts}
use Rattle.page_out.specs.Printed.{Prints}
use Rattle.html_text.specs.Tokens.{Token, printed}
use Rattle.view_paths.specs.Paths.{last_path}
use Rattle.view_paths.specs.Events.{Turn, events_up_to}
use Rattle.view_paths.specs.Events.{Tag as PathTag}
use Rattle.view_places.specs.declared.element.Element.{Element}
use Rattle.view_places.specs.Same.{same}
use Rattle.html_page.specs.declared.printer.HtmlPage.{HtmlPage}
use Rattle.html_page.specs.Sources.{page_source_of}
use Rattle.html_page.specs.Pages.{Events, Places, tokens_of, half_of}

-- events were printed; then this path is open
pub record PutsEvents {K : Type 0} (sink : Ghosts K) (before : K) (html : HtmlPage) (after : K) (left : HtmlPage)
    (events : Events) (to : List Element) : Type 0 where
  pub prints : Prints sink before html.page after left.page (printed (tokens_of (page_source_of html.source) html.half
      events))
  pub half : left.half ≡ half_of html.half events
  pub path : left.path ≡ to
  pub source : left.source ≡ html.source

-- places were printed, the last of which stays open
abbrev pub PutsPlaces : {K : Type 0} → Ghosts K → K → HtmlPage → K → HtmlPage → Places → Type 0
PutsPlaces sink before html after left places =
    PutsEvents sink before html after left (events_up_to same html.path places) (last_path html.path places)
