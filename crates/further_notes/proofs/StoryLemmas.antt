-- Each text of a further story that became a note is held whole, and each note that was there.
use Rattle.std.proofs.Common.{◌≡◌, ◌∙◌, ap, sym, refl, subst, ℕ, ◌<◌, Bool, true, false, ◌&&◌}
use Rattle.std.proofs.Common.{List, [], length, arith, inl, inr, Option, Some, None, slice_get}
use Rattle.std.specs.Prelude.{is_some, option_map}
use Rattle.std.specs.Option.{unwrap_or}
use Rattle.std.specs.List.{Contains}
use Rattle.std.proofs.lemmas.Option.{get_or_from_slice_get, slice_get-get_or, slice_get_within}
use Rattle.doc_bits.specs.Together.{AreTogether}
use Rattle.doc_bits.proofs.Public.{from_map, get-map, there_is}
use Rattle.doc_model.specs.declared.item.Item.{Item}
use Rattle.doc_model.specs.declared.item.NoteKind.{NoteKind}
use Rattle.doc_model.specs.declared.document.Document.{Document}
use Rattle.doc_mends.specs.declared.mends.MadeNote.{MadeNote}
use Rattle.doc_mends.specs.declared.mends.NoteStory.{NoteStory}
use Rattle.doc_mends.specs.declared.mends.NoteStory.TheVariants as note_story
use Rattle.doc_meaning.specs.Meaning.{MeansDocument}
use Rattle.further_notes.specs.declared.forms.NoteForm.{NoteForm}
use Rattle.further_notes.specs.declared.origins.NoteOrigin.{NoteOrigin}
use Rattle.further_notes.specs.declared.sources.NoteSource.{NoteSource}
use Rattle.further_notes.specs.declared.sources.NoteSource.TheVariants.{Own, Other}
use Rattle.further_notes.specs.declared.stories.NotedStories.{NotedStories}
use Rattle.further_notes.specs.declared.stories.NotedStories.TheVariants.{Both, Endnotes, Comments}
use Rattle.further_notes.specs.Forms.{as_note_text, note_form_of, story_titles, text_or_empty}
use Rattle.further_notes.specs.NoteFiles.{note_file}
use Rattle.further_notes.specs.Noted.{AreSteps, has_story}
use Rattle.further_notes.specs.Sources.{made_at, made_by, made_notes, note_kind_at, note_kinds, notes_before, origin_at}
use Rattle.further_notes.specs.Sources.{origin_by, source_text}
use Rattle.further_notes.specs.Splices.{CanSpliceNotes, document_with, first_state, item_noted, IsStorySplice}
use Rattle.further_notes.specs.Splices.{NoteState}
use Rattle.further_notes.specs.Splices.{sources_of, text_noted, with_notes}
use Rattle.further_notes.specs.UnitsStay.{HasNoteAt, IsStoryText, RefersTo, StaysOrRefers}
use Rattle.further_notes.specs.UnitsStay.{StoriesAreHeld}
use Rattle.further_notes.proofs.KindLemmas.{length-with_kinds}
use Rattle.further_notes.proofs.MeantLemmas.{meant_one}
use Rattle.further_notes.proofs.ReferLemmas.{fewer_before, kinds_long, listed, listed_from, listed_there, noted_there}
use Rattle.further_notes.proofs.ReferLemmas.{other_source}
use Rattle.further_notes.proofs.ReferLemmas.{own_kind, own_source, place_of_reference, refers_before, refers_within}
use Rattle.further_notes.proofs.ReferLemmas.{source_from, source_other, source_own, source_refers}

-- ---- the main text

-- an item refers to no note of both documents
abbrev AreApart : Option NoteKind → Option NoteKind → Type 0
AreApart own other = (is_some own && is_some other) ≡ false

noted_or_stays : (story : NoteStory) (kind : Option NoteKind) (item : Item) →
    StaysOrRefers item (item_noted story kind item)
noted_or_stays story None item = inl refl
noted_or_stays story (Some kind) item = inr (story, (kind, refl))

-- an item that refers to a note stays
still_noted : (story : NoteStory) (kind : Option NoteKind) (note : NoteKind) (item : Item) → item.note ≡ Some note →
    AreApart item.note kind → item_noted story kind item ≡ item
still_noted story None note item is one = refl
still_noted story (Some kind) note item is one =
    absurd (cc (sym (ap (λ (k : Option NoteKind). is_some k && true) is) ∙ one))

noted_twice : (story : NoteStory) (kind : Option NoteKind) (first item : Item) → StaysOrRefers first item →
    AreApart item.note kind → StaysOrRefers first (item_noted story kind item)
noted_twice story kind first item (inl same) one =
    subst (λ (i : Item). StaysOrRefers i (item_noted story kind item)) same (noted_or_stays story kind item)
noted_twice story kind first item (inr (other, (note, is))) one =
    let stays : item_noted story kind item ≡ item =
    still_noted story kind note item (ap (λ (i : Item). i.note) is) one in
    inr (other, (note, stays ∙ is))

-- ---- a state of the splice

-- what it has of the document that it began with, and of the stories
record HasTexts (wd table : List ℕ) (base : Document) (state : NoteState) : Type 0 where
  main : AreTogether StaysOrRefers base.main state.document.main
  heads : state.document.heads ≡ base.heads
  own : (at : ℕ) (text : List Item) → HasNoteAt base at text → HasNoteAt state.document at text
  texts :
      (note : ℕ) (origin : NoteOrigin) → slice_get state.origins note ≡ Some (Some origin) →
      IsStoryText wd table state.document (made_by note origin)

begins : (wd table : List ℕ) (base : Document) → HasTexts wd table base (first_state base)
begins wd table base = record {
  main = record {
    len = refl;
    each = λ k x y here there. inl (cc (sym there ∙ here));
  };
  heads = refl;
  own = λ at text has. has;
  texts = λ note origin is. absurd (cc is);
}

-- all texts of a story are among its notes
abbrev AreAllIn : (wd table : List ℕ) → NoteStory → NoteState → Type 0
AreAllIn wd table story state =
    (other : Document) (number : ℕ) → MeansDocument (note_file story wd table) other → number < length other.notes →
    (note : ℕ) × (slice_get state.origins note ≡ Some (Some (record { story = story; number = number })))

-- ---- one story

text_here : (texts : List (List Item)) (number : ℕ) (text : List Item) → slice_get texts number ≡ Some text →
    text_or_empty texts number ≡ text
text_here texts number text is = ap (λ (o : Option (List Item)). unwrap_or o []) is

-- the note behind a splice, by its source
note_behind : (form : NoteForm) (document other : Document) (number : ℕ) (source : NoteSource) →
    slice_get (sources_of document other) number ≡ Some source →
    slice_get (document_with form document other).notes number
    ≡ Some (source_text form document.notes other.notes source)
note_behind form document other number source here =
    get-map (source_text form document.notes other.notes) (sources_of document other) number source here

-- a note that was there has another number, and is at its item
record IsMoved (form : NoteForm) (document other : Document) (at number : ℕ) : Type 0 where
  note : ℕ
  refers : RefersTo (document_with form document other).main at note
  source : slice_get (sources_of document other) note ≡ Some (Own number)

moved : (form : NoteForm) (document other : Document) (at number : ℕ) → RefersTo document.main at number →
    IsMoved form document other at number
moved form document other at number refers =
    let low = refers_within document.main at number refers in
    let has = source_refers form.story (note_kinds other.main) document.main at (Own number) low
    (own_source (note_kinds other.main) document.main at number refers) in
    record {
      note = notes_before (note_kinds (text_noted form.story (note_kinds other.main) document.main)) at;
      refers = has.refers;
      source = has.here;
    }

own_behind : (form : NoteForm) (document other : Document) (at : ℕ) (text : List Item) → HasNoteAt document at text →
    HasNoteAt (document_with form document other) at text
own_behind form document other at text has =
    let to = moved form document other at has.0 has.1.0 in (
      to.note,
      (
        to.refers,
        note_behind form document other to.note (Own has.0) to.source
            ∙ ap (λ (t : List Item). Some t) (text_here document.notes has.0 text has.1.1),
      ),
    )

-- a text of another story, which was a note already
story_behind_own : (wd table : List ℕ) (form : NoteForm) (document other : Document) (number note : ℕ)
    (origin : NoteOrigin) → IsStoryText wd table document (made_by number origin) →
    slice_get (sources_of document other) note ≡ Some (Own number) →
    IsStoryText wd table (document_with form document other) (made_by note origin)
story_behind_own wd table form document other number note origin is here =
    let came = source_from form.story (note_kinds other.main) document.main note (Own number) here in
    let place : came.at ≡ is.at =
    place_of_reference document.main came.at is.at number
    (source_own (note_kinds other.main) document.main came.at number came.is) is.refers in
    record {
      story = is.story;
      means = is.means;
      text = is.text;
      text_is = is.text_is;
      at = is.at;
      referred = is.referred;
      refers = subst (λ (at : ℕ). RefersTo (document_with form document other).main at note) place came.refers;
      note_is =
          note_behind form document other note (Own number) here
          ∙ ap (λ (t : List Item). Some t)
          (text_here document.notes number
          (as_note_text origin.story (text_or_empty (story_titles origin.story wd table) origin.number) is.text)
          is.note_is);
    }

-- a text of this story
story_behind_other : (story : NoteStory) (wd table : List ℕ) (document other : Document) (number note : ℕ) →
    MeansDocument (note_file story wd table) other → CanSpliceNotes document other →
    slice_get (sources_of document other) note ≡ Some (Other number) →
    IsStoryText wd table (document_with (note_form_of story wd table) document other)
    (made_by note (record { story = story; number = number }))
story_behind_other story wd table document other number note means can here =
    let form = note_form_of story wd table in
    let kinds = note_kinds other.main in
    let came = source_from story kinds document.main note (Other number) here in
    let referred : RefersTo other.main came.at number =
    source_other document.main other.main came.at number came.is in
    let long : length (note_kinds document.main) ≡ length document.main = kinds_long document.main in
    let within = came.low in
    let fewer = fewer_before kinds came.at number (length (note_kinds document.main)) referred.some referred.before
    (omega (arith, within, long)) in
    let all = can.within in
    let it = there_is other.notes number (omega (arith, fewer, all)) in
    record {
      story = other;
      means = means;
      text = it.0;
      text_is = it.1;
      at = came.at;
      referred = referred;
      refers = came.refers;
      note_is =
          note_behind form document other note (Other number) here
          ∙ ap (λ (t : List Item). Some (as_note_text story (text_or_empty form.titles number) t))
          (text_here other.notes number it.0 it.1);
    }

-- ---- a step

origin_here : (origins : List (Option NoteOrigin)) (number : ℕ) (origin : NoteOrigin) →
    origin_at origins number ≡ Some origin → slice_get origins number ≡ Some (Some origin)
origin_here origins number origin is = by_entry (slice_get origins number) refl
  where
    by_entry : (o : Option (Option NoteOrigin)) → slice_get origins number ≡ o →
        slice_get origins number ≡ Some (Some origin)
    by_entry None there =
        absurd (cc (sym (ap (λ (p : Option (Option NoteOrigin)). unwrap_or p None) there) ∙ is))
    by_entry (Some found) there =
        there
        ∙ ap (λ (p : Option NoteOrigin). Some p)
        (sym (ap (λ (p : Option (Option NoteOrigin)). unwrap_or p None) there) ∙ is)

texts_behind : (story : NoteStory) (wd table : List ℕ) (base : Document) (old : NoteState) (other : Document)
    (note : ℕ) (origin : NoteOrigin) (source : NoteSource) → HasTexts wd table base old →
    MeansDocument (note_file story wd table) other → CanSpliceNotes old.document other →
    slice_get (sources_of old.document other) note ≡ Some source →
    origin_by story old.origins source ≡ Some origin →
    IsStoryText wd table (document_with (note_form_of story wd table) old.document other) (made_by note origin)
texts_behind story wd table base old other note origin (Own number) has means can here is =
    story_behind_own wd table (note_form_of story wd table) old.document other number note origin
    (has.texts number origin (origin_here old.origins number origin is)) here
texts_behind story wd table base old other note origin (Other number) has means can here is =
    let made : NoteOrigin = record { story = story; number = number } in
    let same : made ≡ origin = cc is in
    subst (λ (o : NoteOrigin). IsStoryText wd table
    (document_with (note_form_of story wd table) old.document other) (made_by note o)) same
    (story_behind_other story wd table old.document other number note means can here)

goes_on : (story : NoteStory) (wd table : List ℕ) (base : Document) (old : NoteState) (other : Document) →
    MeansDocument (note_file story wd table) other → CanSpliceNotes old.document other →
    HasTexts wd table base old → HasTexts wd table base (with_notes (note_form_of story wd table) old other)
goes_on story wd table base old other means can has =
    let form = note_form_of story wd table in
    let kinds = note_kinds other.main in
    let document = old.document in
    record {
      main = record {
        len = let len = has.main.len in len ∙ sym (length-with_kinds (item_noted story) kinds document.main);
        each = λ k x z here there.
            let low = slice_get_within base.main k x here in
            let len = has.main.len in
            let it = there_is document.main k (omega (arith, low, len)) in
            let long = kinds_long document.main in
            let apart = can.apart k (omega (arith, low, len, long)) in
            let one : AreApart it.0.note (note_kind_at kinds k) =
            sym (ap (λ (o : Option NoteKind). is_some o && is_some (note_kind_at kinds k))
            (own_kind document.main k it.0 it.1)) ∙ apart in
            let made : item_noted story (note_kind_at kinds k) it.0 ≡ z =
            cc (sym (noted_there story kinds document.main k it.0 it.1) ∙ there) in
            subst (StaysOrRefers x) made
            (noted_twice story (note_kind_at kinds k) x it.0 (has.main.each k x it.0 here it.1) one);
      };
      heads = has.heads;
      own = λ at text note. own_behind form document other at text (has.own at text note);
      texts = λ note origin is.
          let sources = sources_of document other in
          let it = from_map (origin_by story old.origins) sources note (Some origin) is in
          texts_behind story wd table base old other note origin it.0 has means can it.1.0 it.1.1;
    }

-- the texts of the story that is put in are all there
all_put : (story : NoteStory) (wd table : List ℕ) (old : NoteState) (other : Document) (number : ℕ) →
    CanSpliceNotes old.document other → number < length other.notes →
    (note : ℕ)
    × (slice_get (with_notes (note_form_of story wd table) old other).origins note
    ≡ Some (Some (record { story = story; number = number })))
all_put story wd table old other number can low =
    let kinds = note_kinds other.main in
    let main = old.document.main in
    let all = can.within in
    let long = kinds_long main in
    let at = refers_before kinds (length (note_kinds main)) number (omega (arith, low, all)) in
    let within = at.low in
    let none : is_some (note_kind_at (note_kinds main) at.at) ≡ false =
    first_alone (is_some (note_kind_at (note_kinds main) at.at)) (is_some (note_kind_at kinds at.at))
    (can.apart at.at within) at.some in
    let has = source_refers story kinds main at.at (Other number) (omega (arith, within, long))
    (other_source kinds main at.at number none at.some at.before) in
    let note = notes_before (note_kinds (text_noted story kinds main)) at.at in (
      note,
      get-map (origin_by story old.origins) (sources_of old.document other) note (Other number) has.here,
    )
  where
    first_alone : (a b : Bool) → (a && b) ≡ false → b ≡ true → a ≡ false
    first_alone true b none some = absurd (cc (sym some ∙ none))
    first_alone false b none some = refl

-- those that were there stay
all_stay : (story put : NoteStory) (wd table : List ℕ) (base : Document) (old : NoteState) (other : Document) →
    HasTexts wd table base old → AreAllIn wd table story old →
    AreAllIn wd table story (with_notes (note_form_of put wd table) old other)
all_stay story put wd table base old other has all document number means low =
    let form = note_form_of put wd table in
    let origin : NoteOrigin = record { story = story; number = number } in
    let was = all document number means low in
    let text = has.texts was.0 origin was.1 in
    let to = moved form old.document other text.at was.0 text.refers in (
      to.note,
      get-map (origin_by put old.origins) (sources_of old.document other) to.note (Own was.0) to.source
          ∙ ap (λ (o : Option (Option NoteOrigin)). Some (unwrap_or o None)) was.1,
    )

-- ---- the splice

step_holds : (story : NoteStory) (wd table : List ℕ) (base : Document) (old new : NoteState) →
    IsStorySplice story wd table old new → HasTexts wd table base old →
    HasTexts wd table base new × AreAllIn wd table story new
step_holds story wd table base old new is has =
    let by = is.by in
    let can = by.splice.can in
    let made = with_notes (note_form_of story wd table) old by.other in
    let whole : HasTexts wd table base made = goes_on story wd table base old by.other by.means can has in
    let all : AreAllIn wd table story made =
    λ other number means low.
    let same : other ≡ by.other =
    meant_one (note_file story wd table) other by.other by.bytes by.rules means by.means in
    all_put story wd table old by.other number can
    (subst (λ (d : Document). number < length d.notes) same low) in (
      subst (HasTexts wd table base) (sym by.splice.is) whole,
      subst (AreAllIn wd table story) (sym by.splice.is) all,
    )

step_keeps : (story put : NoteStory) (wd table : List ℕ) (base : Document) (old new : NoteState) →
    IsStorySplice put wd table old new → HasTexts wd table base old → AreAllIn wd table story old →
    AreAllIn wd table story new
step_keeps story put wd table base old new is has all =
    subst (AreAllIn wd table story) (sym is.by.splice.is)
    (all_stay story put wd table base old is.by.other has all)

record HasAll (stories : NotedStories) (wd table : List ℕ) (base : Document) (state : NoteState) : Type 0 where
  has : HasTexts wd table base state
  all : (story : NoteStory) → has_story stories story ≡ true → AreAllIn wd table story state

steps_hold : (stories : NotedStories) (wd table : List ℕ) (base : Document) (state : NoteState) →
    AreSteps stories wd table (first_state base) state → HasAll stories wd table base state
steps_hold Both wd table base state are =
    let first = step_holds note_story.Endnotes wd table base (first_state base) are.middle are.first
    (begins wd table base) in
    let second = step_holds note_story.Comments wd table base are.middle state are.second first.0 in
    record { has = second.0; all = both first.0 first.1 second.1 }
  where
    both : HasTexts wd table base are.middle → AreAllIn wd table note_story.Endnotes are.middle →
        AreAllIn wd table note_story.Comments state → (story : NoteStory) → has_story Both story ≡ true →
        AreAllIn wd table story state
    both has all more note_story.Endnotes among =
        step_keeps note_story.Endnotes note_story.Comments wd table base are.middle state are.second has all
    both has all more note_story.Comments among = more
steps_hold Endnotes wd table base state is =
    let step = step_holds note_story.Endnotes wd table base (first_state base) state is (begins wd table base) in
    record { has = step.0; all = alone step.1 }
  where
    alone : AreAllIn wd table note_story.Endnotes state → (story : NoteStory) → has_story Endnotes story ≡ true →
        AreAllIn wd table story state
    alone all note_story.Endnotes among = all
    alone all note_story.Comments among = absurd (cc among)
steps_hold Comments wd table base state is =
    let step = step_holds note_story.Comments wd table base (first_state base) state is (begins wd table base) in
    record { has = step.0; all = alone step.1 }
  where
    alone : AreAllIn wd table note_story.Comments state → (story : NoteStory) → has_story Comments story ≡ true →
        AreAllIn wd table story state
    alone all note_story.Endnotes among = absurd (cc among)
    alone all note_story.Comments among = all

-- ---- which notes were made

by_origin : (note : ℕ) (o : Option NoteOrigin) (made : MadeNote) → option_map (made_by note) o ≡ Some made →
    (origin : NoteOrigin) × ((o ≡ Some origin) × (made_by note origin ≡ made))
by_origin note None made is = absurd (cc is)
by_origin note (Some origin) made is = (origin, (refl, cc is))

made_from : (origins : List (Option NoteOrigin)) (made : MadeNote) → Contains (made_notes origins) made →
    (note : ℕ)
    × ((origin : NoteOrigin) × ((slice_get origins note ≡ Some (Some origin)) × (made_by note origin ≡ made)))
made_from origins made in_list =
    let there : slice_get (made_notes origins) in_list.0 ≡ Some made =
    slice_get-get_or (made_notes origins) in_list.0 made in_list.1
    ∙ ap (λ (m : MadeNote). Some m) in_list.2 in
    let was = listed_from (made_at origins) (length origins) in_list.0 made there in
    let by = by_origin was.at (origin_at origins was.at) made was.is in
    (was.at, (by.0, (origin_here origins was.at by.0 by.1.0, by.1.1)))

made_there : (origins : List (Option NoteOrigin)) (note : ℕ) (origin : NoteOrigin) →
    slice_get origins note ≡ Some (Some origin) → Contains (made_notes origins) (made_by note origin)
made_there origins note origin is =
    let low = slice_get_within origins note (Some origin) is in
    let here : made_at origins note ≡ Some (made_by note origin) =
    ap (λ (o : Option (Option NoteOrigin)). option_map (made_by note) (unwrap_or o None)) is in
    let at = length (listed (made_at origins) note) in
    let there : slice_get (made_notes origins) at ≡ Some (made_by note origin) =
    listed_there (made_at origins) (length origins) note (made_by note origin) low here in (
      at,
      slice_get_within (made_notes origins) at (made_by note origin) there,
      get_or_from_slice_get (made_notes origins) at (made_by note origin) (made_by note origin) there,
    )

pub stories_are_held : StoriesAreHeld
stories_are_held stories wd table document spliced made is =
    let state = is.last in
    let all = steps_hold stories wd table document state is.steps in
    let has = all.has in
    let same : spliced ≡ state.document = is.document_is in
    record {
      main = subst (λ (d : Document). AreTogether StaysOrRefers document.main d.main) (sym same) has.main;
      heads = ap (λ (d : Document). d.heads) same ∙ has.heads;
      own = λ at text note. subst (λ (d : Document). HasNoteAt d at text) (sym same) (has.own at text note);
      texts = λ note in_list.
          let from = made_from state.origins note (subst (λ (l : List MadeNote). Contains l note) is.made_are in_list)
          in
          subst (λ (d : Document). IsStoryText wd table d note) (sym same)
          (subst (λ (m : MadeNote). IsStoryText wd table state.document m) from.1.1.1
          (has.texts from.0 from.1.0 from.1.1.0));
      all = λ story among other number means low.
          let was = all.all story among other number means low in
          let origin : NoteOrigin = record { story = story; number = number } in (
            was.0,
            subst (λ (l : List MadeNote). Contains l (made_by was.0 origin)) (sym is.made_are)
                (made_there state.origins was.0 origin was.1),
          );
    }
