-- A document while it is read and written: where the reading is, and the places that were put.
use Rattle.std.specs.Prelude.{◌≡◌, ℕ, ◌+◌, ◌≤◌, Bool, false, not, ◌&&◌, ◌||◌, List, [], ◌++◌, Option, length, take, drop}
use Rattle.std.specs.Prelude.{if◌then◌else◌}
use Rattle.doc_outer.specs.declared.sink.Sink.{Ghosts}
use Rattle.doc_model.specs.declared.item.Item.{Item}
use Rattle.doc_model.specs.Settings.{is_inside}
use Rattle.doc_model.specs.Stretches.{stretches}
use Rattle.view_places.specs.declared.element.Element.{Element}
use Rattle.form_page.specs.declared.page.FormPage.{FormPage}
use Rattle.form_page.specs.Forms.{Places, PutsPlaces}
use Rattle.doc_view.specs.declared.reading.Manner.{Manner}
use Rattle.doc_view.specs.declared.reading.Seen.{Seen}
use Rattle.doc_view.specs.declared.references.Reference.{Reference}
use Rattle.doc_view.specs.declared.standing.Standing.{Standing}
use Rattle.doc_view.specs.Course.{IsCourse}
use Rattle.doc_view.specs.Layout.{ends_head, row_goes_on}
use Rattle.doc_view.specs.Seen.{Formats, Paragraph, paragraphs_from, references_in, some_shown}
use Rattle.doc_places.specs.Grid.{is_head_row}
use Rattle.view_places.specs.declared.element.Link.{Link}
use Rattle.doc_places.specs.declared.links.Origin.{Origin}
use Rattle.doc_places.specs.Places.{items_places, label_places, links_of, up_to_reference}
use Rattle.doc_html.specs.declared.reading.Reading.{Reading}
use Rattle.doc_html.specs.declared.writer.Writer.{Writer}

-- the paragraphs from a place on
abbrev pub paragraphs_left : Formats → Manner → List Item → ℕ → List Paragraph
paragraphs_left formats manner items place =
    paragraphs_from formats manner (take place items) (stretches is_inside (drop place items))

-- whether the row of a paragraph is a head, by the paragraphs behind it
abbrev pub head_by : Standing → List Paragraph → Bool
head_by standing more = if row_goes_on standing then is_head_row more else ends_head standing

-- the course is that of its place, no more references were met than items, and the last one ends there
pub record IsReading (manner : Manner) (items : List Item) (reading : Reading) : Type 0 where
  pub course : IsCourse manner items reading.course
  pub few : reading.count ≤ reading.course.place
  pub referred : reading.referred ≡ up_to_reference (take reading.course.place items)

-- what was written of a page, whether something of the paragraph was and up to which place, and how many references and
-- which were met
pub record WrittenAt (K : Type 0) : Type 0 where
  pub out : K
  pub page : FormPage
  pub begun : Bool
  pub count : ℕ
  pub place : ℕ
  pub references : List Reference

abbrev pub at : {K : Type 0} → K → Writer → Reading → WrittenAt K
at out writer reading = record {
  out = out;
  page = writer.page;
  begun = reading.begun;
  count = reading.count;
  place = reading.course.place;
  references = reading.course.references.list;
}

-- where nothing of the paragraph was written
abbrev pub at_front : {K : Type 0} → WrittenAt K → WrittenAt K
at_front at = record at { begun = false }

-- the links of a paragraph
abbrev pub links_in : Origin → List Item → ℕ → Option Link
links_in origin items = links_of origin.note items origin.begin

-- a label is before the first item that is shown
abbrev pub label_before : Bool → List Element → List ℕ → List Seen → Places
label_before begun block label seen = if some_shown seen && not begun then label_places block label else []

-- items of a paragraph with these links and this label were written
pub record WritesItems {K : Type 0} (sink : Ghosts K) (before after : WrittenAt K) (links : ℕ → Option Link) (block :
    List Element)
    (label : List ℕ) (seen : List Seen) : Type 0 where
  pub puts :
      PutsPlaces sink before.out before.page after.out after.page
      (label_before before.begun block label seen ++ items_places links block before.count before.place seen)
  pub begun : after.begun ≡ (before.begun || some_shown seen)
  pub count : after.count ≡ before.count + length (references_in seen)
  pub place : after.place ≡ before.place + length seen
  pub references : after.references ≡ before.references ++ references_in seen
