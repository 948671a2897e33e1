-- A file with its endnotes and comments as notes: what cannot be one, and that it is one.
use Rattle.std.proofs.Common.{◌≡◌, ◌∙◌, ◌++◌, ◌≤◌, inl, inr, refl, sym, ap, subst, ℕ, Bool, true, false, List, map, arith}
use Rattle.std.proofs.Common.{Option, Some, None, [], ◌∷◌}
use Rattle.std.specs.Prelude.{MatchOption, ◌||◌}
use Rattle.std.proofs.lemmas.Bool.{cases_eq, true≢false}
use Rattle.doc_bits.specs.declared.places.Where.TheVariants.{Wd}
use Rattle.doc_bits.specs.Number.{AreBytes}
use Rattle.doc_bits.specs.Rules.{Hold}
use Rattle.doc_bits.specs.Places.{Place, Upto, IsFirstPlace}
use Rattle.doc_bits.proofs.Public.{hold_or_first, not_zero}
use Rattle.cfb_streams.specs.Contents.{Contents, OuterContents, HasNamed}
use Rattle.cfb_streams.specs.Container.{HasContents}
use Rattle.cfb_streams.specs.Names.{wd_name}
use Rattle.cfb_streams.proofs.Public.{contents_unique}
use Rattle.fib_form.specs.FibRules.{fib_rules}
use Rattle.fib_versions.specs.declared.further.Further.TheVariants as further
use Rattle.fib_versions.specs.Versions.{further_count}
use Rattle.doc_model.specs.declared.document.Document.{Document}
use Rattle.doc_model.specs.Marks.{HasFormedBookmarks}
use Rattle.plain_doc.specs.Sound.{IsSound, document_rules}
use Rattle.plain_doc.proofs.Public.{document_rules-IsSingle}
use Rattle.file_rules.specs.FileRules.{FileText, contents_rules, table_stream_name}
use Rattle.file_rules.proofs.Public.{named_one, hold_out, text_one}
use Rattle.doc_read.specs.Holds.{FileParts, HoldsDocument, IsAccepted}
use Rattle.doc_read.proofs.Public.{file_parts_one}
use Rattle.doc_meaning.specs.Meaning.{MeansDocument}
use Rattle.doc_lift.specs.declared.lifting.Lifted.{Lifted}
use Rattle.doc_lift.specs.LiftedFiles.{IsLifted, lifted_rules}
use Rattle.doc_lift.proofs.Public.{lifted_single}
use Rattle.doc_losses.specs.References.{Names, names_of}
use Rattle.doc_losses.specs.Marks.{names_of_marks}
use Rattle.doc_losses.proofs.Public.{same_names}
use Rattle.doc_mends.specs.declared.mends.NoteStory.{NoteStory}
use Rattle.doc_mends.specs.declared.mends.NoteStory.TheVariants as note_story
use Rattle.doc_mends.specs.declared.mends.Mend.{Mend}
use Rattle.doc_mends.specs.declared.mends.Mend.TheVariants.{MakeNote}
use Rattle.doc_mends.specs.Mending.{IsMended}
use Rattle.doc_mends.proofs.Public.{bookmarks_stay, one_way}
use Rattle.huge_papx.specs.Texts.{IsStruckDefined}
use Rattle.huge_papx.proofs.Public.{struck_defined_one, struck_defined_formed}
use Rattle.further_notes.specs.declared.splicing.Spliced.{Spliced}
use Rattle.further_notes.specs.declared.stories.NotedStories.{NotedStories}
use Rattle.further_notes.specs.declared.stories.NotedStories.TheVariants.{Both, Endnotes, Comments}
use Rattle.further_notes.specs.NoteFiles.{story_behind}
use Rattle.further_notes.specs.Noted.{IsSpliced, HasNoSplice, has_story}
use Rattle.further_notes.proofs.Public.{meant_one, splice_is_one, splice_formed, has_some}
use Rattle.loss_report.specs.Features.{Inventory}
use Rattle.doc_fit.specs.declared.losses.Found.{Found}
use Rattle.doc_fit.specs.declared.opening.OpenedAny.{OpenedAny}
use Rattle.doc_fit.specs.Opened.{AreFoundLosses, IsOpenedAny}
use Rattle.doc_fit.specs.Noted.{IsNotedText, HasNoted, CanNote, CannotNote, AreNoted, IsFitDocument, AreLinesWith}
use Rattle.doc_fit.specs.Noted.{HasTwoStreams, LacksStory, IsSplicedOf, HasNoSpliceOf, IsStruckLifted, lines_left}
use Rattle.doc_fit.specs.Noted.{HasFileStreams, IsNotedReport, IsOpenedNoted, IsOpenedFit, IsFirstNoted, choices}
use Rattle.doc_fit.specs.Noted.{IsOpenedFirst, IsOpenedAsNoted, lacks_some}
use Rattle.doc_fit.proofs.MeaningLemmas.{mended_one}
use Rattle.doc_fit.proofs.LossLemmas.{wd_same, table_same}
use Rattle.doc_fit.proofs.OpenLemmas.{text_meant, opened_holds}
use Rattle.doc_fit.proofs.OneLemmas.{lines_one}
use Rattle.doc_fit.proofs.AcceptedLemmas.{wd_held, mended_held}

-- ---- one document

pub noted_text_one : (stories : NotedStories) (text : FileText) (meant one other : Document) (mends others : List Mend) →
    IsNotedText stories text meant one mends → IsNotedText stories text meant other others →
    (one ≡ other) × (mends ≡ others)
noted_text_one stories text meant one other mends others a b =
    let struck = struck_defined_one text meant a.struck b.struck a.strikes b.strikes a.struck_is b.struck_is in
    let spliced = splice_is_one stories text.wd text.table b.struck a.spliced b.spliced a.made b.made
    (subst (λ (d : Document). IsSpliced stories text.wd text.table d a.spliced a.made) struck.0 a.splice) b.splice in
    let names = names_of text.wd text.table in
    let same = one_way names b.spliced one other a.others b.others
    (subst (λ (d : Document). IsMended names d one a.others) spliced.0 a.mended_is) b.mended_is in (
      same.0,
      a.mends_are ∙ ((λ i. map MakeNote (spliced.1 i) ++ (struck.1 i ++ same.1 i)) ∙ sym b.mends_are),
    )

-- the text of the parts by which a file means its document
means_text : (file : List ℕ) (one other : Document) → (a : MeansDocument file one) → (b : MeansDocument file other) →
    a.parts.text ≡ b.parts.text
means_text file one other a b =
    ap (λ (p : FileParts). p.text) (file_parts_one file a.parts b.parts a.has_parts b.has_parts)

pub noted_one : (stories : NotedStories) (file : List ℕ) (one other : Document) → AreBytes file →
    (a : HasNoted stories file one) → (b : HasNoted stories file other) → (one ≡ other) × (a.mends ≡ b.mends)
noted_one stories file one other bytes a b =
    let meant : a.meant ≡ b.meant = meant_one file a.meant b.meant bytes a.rules a.means b.means in
    let text : a.means.parts.text ≡ b.means.parts.text = means_text file a.meant b.meant a.means b.means in
    noted_text_one stories b.means.parts.text b.meant one other a.mends b.mends
    (subst (λ (d : Document). IsNotedText stories b.means.parts.text d one a.mends) meant
    (subst (λ (t : FileText). IsNotedText stories t a.meant one a.mends) text a.noted_is)) b.noted_is

pub document_one : (noted : Option NotedStories) (file : List ℕ) (one other : Document) (mends others : List Mend) →
    AreBytes file → Hold (lifted_rules file) → IsFitDocument noted file one mends →
    IsFitDocument noted file other others → (one ≡ other) × (mends ≡ others)
document_one (Some stories) file one other mends others bytes rules a b =
    let same = noted_one stories file one other bytes a.noted b.noted in
    (same.0, a.mends_are ∙ (same.1 ∙ sym b.mends_are))
document_one None file one other mends others bytes rules a b =
    let same = mended_one file one other bytes rules a.mended b.mended in
    (same.document, a.mends_are ∙ (same.mends ∙ sym b.mends_are))

-- the same stories become notes of both
first_one : (among : List NotedStories) (file : List ℕ) (a b : Option NotedStories) → IsFirstNoted among file a →
    IsFirstNoted among file b → a ≡ b
first_one [] file a b x y = x ∙ sym y
first_one (stories ∷ others) file a b (inl x) (inl y) = x.0 ∙ sym y.0
first_one (stories ∷ others) file a b (inl x) (inr y) = absurd (y.0 x.1.0 x.1.1)
first_one (stories ∷ others) file a b (inr x) (inl y) = absurd (x.0 y.1.0 y.1.1)
first_one (stories ∷ others) file a b (inr x) (inr y) = first_one others file a b x.1 y.1

pub are_noted_one : (plain : Bool) (a b : Option NotedStories) (file : List ℕ) → AreNoted plain file a →
    AreNoted plain file b → a ≡ b
are_noted_one true a b file x y = x ∙ sym y
are_noted_one false a b file x y = first_one choices file a b x y

pub lines_with_one : (noted : Option NotedStories) (text : FileText) (inventory : Inventory) (a b : List (List ℕ)) →
    AreLinesWith noted text inventory a → AreLinesWith noted text inventory b → a ≡ b
lines_with_one noted text inventory a b x y =
    x.are ∙ (ap (lines_left noted) (lines_one text inventory x.all y.all x.are_all y.are_all) ∙ sym y.are)

-- ---- an accepted file

-- it has nothing of a further story
counts_none : (wd : List ℕ) (story : NoteStory) → Hold (fib_rules wd) → further_count wd (story_behind story) ≡ 0
counts_none wd note_story.Endnotes (_, (_, (_, (_, (_, (_, (stories, (_, parts)))))))) =
    elim (cases_eq (further_count wd further.Endnotes) 0) [
      | inl same ↦ same
      | inr some ↦ absurd (stories _ (record { entry = 1; below = omega arith; broken = (refl, some) }))
    ]
counts_none wd note_story.Comments (_, (_, (_, (_, (_, (_, (stories, (_, parts)))))))) =
    elim (cases_eq (further_count wd further.Comments) 0) [
      | inl same ↦ same
      | inr some ↦ absurd (stories _ (record { entry = 0; below = omega arith; broken = (refl, some) }))
    ]

-- some story is among them
story_among : (stories : NotedStories) → (story : NoteStory) × (has_story stories story ≡ true)
story_among Both = (note_story.Endnotes, refl)
story_among Endnotes = (note_story.Endnotes, refl)
story_among Comments = (note_story.Comments, refl)

pub never_noted : (stories : NotedStories) (file : List ℕ) (document other : Document) →
    HoldsDocument file document → HasNoted stories file other → ⊥
never_noted stories file document other holds has =
    let parts = has.means.parts in
    let there = has.means.has_parts in
    let container = holds.rules.1 in
    let same : container.0 ≡ parts.contents =
    contents_unique file container.0 parts.contents container.1.0 there.has_contents in
    let held = wd_held file parts.contents parts.text.wd
    (subst (λ (c : Contents). Hold (contents_rules c)) same container.1.1) there.has_contents there.has_text.has_wd in
    let among = story_among stories in
    let none = counts_none parts.text.wd among.0 (hold_out Wd (fib_rules parts.text.wd) held.0) in
    let some = has_some stories parts.text.wd parts.text.table _ _ _ has.noted_is.splice among.0 among.1 in
    omega (arith, some, none)

-- what it holds is what a fit of it is
pub document_held : (noted : Option NotedStories) (file : List ℕ) (document other : Document) (mends : List Mend) →
    IsAccepted file → HoldsDocument file document → IsFitDocument noted file other mends → other ≡ document
document_held (Some stories) file document other mends accepted holds is =
    absurd (never_noted stories file document other holds is.noted)
document_held None file document other mends accepted holds is =
    mended_held file document other accepted holds is.mended

-- ---- streams of what is lifted

two_same : (file : List ℕ) (lifted : Lifted) → (is : IsLifted file lifted) → (has : HasTwoStreams lifted) →
    (has.wd ≡ is.text.wd) × (has.table ≡ is.text.table)
two_same file lifted is has =
    let container = lifted.outer.container in
    let wd : has.wd ≡ is.text.wd =
    named_one file container wd_name has.wd is.text.wd is.has_contents has.named is.has_text.has_wd in
    let there : HasNamed container.streams (table_stream_name is.text.wd) has.table =
    subst (λ (w : List ℕ). HasNamed container.streams (table_stream_name w) has.table) wd has.named_table in (
      wd,
      named_one file container (table_stream_name is.text.wd) has.table is.text.table is.has_contents there
          is.has_text.has_table,
    )

-- ---- where stories cannot be notes

-- each of these stories has something
lacks_none : (stories : NotedStories) (wd : List ℕ) →
    ((story : NoteStory) → has_story stories story ≡ true → 1 ≤ further_count wd (story_behind story)) →
    lacks_some stories wd ≡ false
lacks_none Both wd some =
    let endnotes = some note_story.Endnotes refl in
    let comments = some note_story.Comments refl in
    λ i. not_zero (further_count wd further.Endnotes) (omega (arith, endnotes)) i
    || not_zero (further_count wd further.Comments) (omega (arith, comments)) i
lacks_none Endnotes wd some =
    let endnotes = some note_story.Endnotes refl in
    not_zero (further_count wd further.Endnotes) (omega (arith, endnotes))
lacks_none Comments wd some =
    let comments = some note_story.Comments refl in
    not_zero (further_count wd further.Comments) (omega (arith, comments))

module _ (stories : NotedStories) (file : List ℕ) (lifted : Lifted) (bytes : AreBytes file)
    (is : IsLifted file lifted) where
  -- what the file means with them as notes is by the text and the document that are lifted
  noted_lifted : (document : Document) → (has : HasNoted stories file document) →
      IsNotedText stories is.text lifted.document document has.mends
  noted_lifted document has =
      let meant : has.meant ≡ lifted.document =
      meant_one file has.meant lifted.document bytes is.rules has.means is.means in
      let text : has.means.parts.text ≡ is.text =
      means_text file has.meant lifted.document has.means is.means ∙ sym (text_meant file lifted is) in
      subst (λ (d : Document). IsNotedText stories is.text d document has.mends) meant
      (subst (λ (t : FileText). IsNotedText stories t has.meant document has.mends) text has.noted_is)

  pub lacks_one : LacksStory stories lifted → CannotNote stories file
  lacks_one lacks document has =
      let splice = (noted_lifted document has).splice in
      let wd = (two_same file lifted is lacks.streams).0 in
      let none = lacks_none stories is.text.wd
      (has_some stories is.text.wd is.text.table _ _ _ splice) in
      true≢false (sym lacks.lacks ∙ (ap (lacks_some stories) wd ∙ none))

  -- ---- what is struck

  module _ (struck : Lifted) (strikes : List Mend) (are : IsStruckLifted lifted struck strikes) where
    struck_there : IsStruckDefined is.text lifted.document struck.document strikes
    struck_there =
        subst (λ (t : FileText). IsStruckDefined t lifted.document struck.document strikes)
        (text_one file lifted.outer.container are.text is.text is.has_contents are.has_text is.has_text) are.struck_is

    two_there : (has : HasTwoStreams struck) → (has.wd ≡ is.text.wd) × (has.table ≡ is.text.table)
    two_there has =
        let container = are.outer in
        two_same file lifted is (record {
          wd = has.wd;
          named = subst (λ (o : OuterContents). HasNamed o.container.streams wd_name has.wd) container has.named;
          table = has.table;
          named_table = subst (λ (o : OuterContents). HasNamed o.container.streams (table_stream_name has.wd) has.table)
              container has.named_table;
        })

    pub struck_streams : HasFileStreams struck
    struck_streams =
        let outer = sym are.outer in
        record {
          streams = record {
            file = file;
            has_contents = subst (λ (o : OuterContents). HasContents file o.container) outer is.has_contents;
            wd = is.text.wd;
            named = subst (λ (o : OuterContents). HasNamed o.container.streams wd_name is.text.wd) outer
                is.has_text.has_wd;
            fib = is.fib;
            table = is.text.table;
            named_table = subst (λ (o : OuterContents). HasNamed o.container.streams (table_stream_name is.text.wd)
                is.text.table) outer is.has_text.has_table;
          };
          bytes = bytes;
        }

    pub no_splice : HasNoSpliceOf stories struck → CannotNote stories file
    no_splice none document has =
        let noted = noted_lifted document has in
        let same = two_there none.streams in
        let one = struck_defined_one is.text lifted.document noted.struck struck.document noted.strikes strikes
        noted.struck_is struck_there in
        none.none noted.spliced noted.made
        (subst (λ (d : Document). IsSpliced stories none.streams.wd none.streams.table d noted.spliced noted.made) one.0
        (subst (λ (w : List ℕ). IsSpliced stories w none.streams.table noted.struck noted.spliced noted.made) (sym same.0)
        (subst (λ (t : List ℕ). IsSpliced stories is.text.wd t noted.struck noted.spliced noted.made) (sym same.1)
        noted.splice)))

    -- ---- what is noted and mended

    module _ (spliced : Spliced) (splice : IsSplicedOf stories struck spliced) where
      splice_there :
          IsSpliced stories is.text.wd is.text.table struck.document spliced.document spliced.made.items
      splice_there =
          let same = two_there splice.streams in
          let made = spliced.made.items in
          subst (λ (t : List ℕ). IsSpliced stories is.text.wd t struck.document spliced.document made) same.1
          (subst (λ (w : List ℕ). IsSpliced stories w splice.streams.table struck.document spliced.document made) same.0
          splice.is)

      pub spliced_formed : HasFormedBookmarks spliced.document
      spliced_formed =
          splice_formed stories is.text.wd is.text.table struck.document spliced.document spliced.made.items splice_there
          (struck_defined_formed is.text lifted.document struck.document strikes is.formed struck_there)

      module _ (found : Found) (finds : AreFoundLosses lifted found) (after : Document) (others : List Mend)
          (mended : IsMended (names_of_marks found.marks) spliced.document after others) where
        noted_there : IsNotedText stories is.text lifted.document after (map MakeNote spliced.made.items ++ (strikes ++ others))
        noted_there =
            let losses = finds.losses in
            let wd : losses.wd ≡ is.text.wd = wd_same file lifted found.losses is losses in
            let table : losses.table ≡ is.text.table = table_same file lifted found.losses is losses in
            let names : names_of losses.wd losses.table ≡ names_of is.text.wd is.text.table =
            λ i. names_of (wd i) (table i) in
            record {
              struck = struck.document;
              strikes = strikes;
              struck_is = struck_there;
              spliced = spliced.document;
              made = spliced.made.items;
              splice = splice_there;
              others = others;
              mended_is = subst (λ (n : Names). IsMended n spliced.document after others)
                  (same_names losses.wd losses.table found.marks finds.marks ∙ names) mended;
              mends_are = refl;
            }

        pub noted_formed : HasFormedBookmarks after
        noted_formed = bookmarks_stay (names_of_marks found.marks) spliced.document after others spliced_formed mended

        -- where a rule on documents is broken then
        pub not_noted : (rule : ℕ) (place : Place) → IsFirstPlace (document_rules after) rule place →
            CannotNote stories file
        not_noted rule place first document has =
            let same = noted_text_one stories is.text lifted.document document after has.mends
            (map MakeNote spliced.made.items ++ (strikes ++ others)) (noted_lifted document has) noted_there in
            hold_or_first Upto (document_rules after) rule place (document_rules-IsSingle after)
            (subst (λ (d : Document). Hold (document_rules d)) same.0 has.sound.rules) first

        pub noted_report_is : (now : Lifted) (left : List (List ℕ)) (all : List Mend) → now.document ≡ after →
            left ≡ lines_left (Some stories) found.losses → all ≡ map MakeNote spliced.made.items ++ (strikes ++ others) →
            IsSound after → IsNotedReport stories file lifted now left all
        noted_report_is now left all here left_is all_are sound = record {
          lifts = is;
          noted_is = subst (λ (m : List Mend). IsNotedText stories is.text lifted.document now.document m) (sym all_are)
              (subst (λ (d : Document). IsNotedText stories is.text lifted.document d (map MakeNote spliced.made.items ++ (strikes
              ++ others))) (sym here) noted_there);
          all = found.losses;
          are_all = finds.losses;
          lines_are = left_is;
          sound = subst IsSound (sym here) sound;
        }

-- ---- what is found, by the streams

pub spliced_of : (stories : NotedStories) (lifted : Lifted) (two : HasTwoStreams lifted) (found : Option Spliced) →
    MatchOption found (HasNoSplice stories two.wd two.table lifted.document)
    (λ spliced. IsSpliced stories two.wd two.table lifted.document spliced.document spliced.made.items) →
    MatchOption found (HasNoSpliceOf stories lifted) (IsSplicedOf stories lifted)
spliced_of stories lifted two None none = record { streams = two; none = none }
spliced_of stories lifted two (Some spliced) is = record { streams = two; is = is }

-- ---- what is opened

noted_opened : (stories : NotedStories) (file : List ℕ) (opened : OpenedAny) → IsOpenedNoted stories file opened →
    IsSound opened.lifted.document
noted_opened stories file opened is = let by = is.by in by.sound

-- what is opened so is what the file means so
pub noted_by : (stories : NotedStories) (file : List ℕ) (before after : Lifted) (lines : List (List ℕ))
    (mends : List Mend) → IsNotedReport stories file before after lines mends → HasNoted stories file after.document
noted_by stories file before after lines mends by =
    let lifts = by.lifts in
    record {
      rules = lifts.rules;
      meant = before.document;
      means = lifts.means;
      mends = mends;
      noted_is = subst (λ (t : FileText). IsNotedText stories t before.document after.document mends)
          (text_meant file before lifts) by.noted_is;
      sound = by.sound;
    }

-- so the stories can become notes
can_note : (stories : NotedStories) (file : List ℕ) (opened : OpenedAny) → IsOpenedNoted stories file opened →
    CanNote stories file
can_note stories file opened is =
    (opened.lifted.document, noted_by stories file is.before opened.lifted opened.losses opened.mends.items is.by)

-- the first of these stories, or none of them
pub first_found : (stories : NotedStories) (others : List NotedStories) (file : List ℕ) (opened : OpenedAny) →
    IsOpenedNoted stories file opened → IsOpenedFirst (stories ∷ others) file opened
first_found stories others file opened is = record {
  stories = stories;
  first = inl (refl, can_note stories file opened is);
  by = is;
}

pub later_found : (stories : NotedStories) (others : List NotedStories) (file : List ℕ) (found : Option OpenedAny) →
    CannotNote stories file →
    MatchOption found (IsFirstNoted others file None) (IsOpenedFirst others file) →
    MatchOption found (IsFirstNoted (stories ∷ others) file None) (IsOpenedFirst (stories ∷ others) file)
later_found stories others file None cannot is = inr (cannot, is)
later_found stories others file (Some opened) cannot is = record {
  stories = is.stories;
  first = inr (cannot, is.first);
  by = is.by;
}

pub last_found : (stories : NotedStories) (file : List ℕ) (found : Option OpenedAny) →
    MatchOption found (CannotNote stories file) (IsOpenedNoted stories file) →
    MatchOption found (IsFirstNoted (stories ∷ []) file None) (IsOpenedFirst (stories ∷ []) file)
last_found stories file None cannot = inr (cannot, refl)
last_found stories file (Some opened) is = first_found stories [] file opened is

pub unless_plain : (plain : Bool) (file : List ℕ) (found : Option OpenedAny) → plain ≡ false →
    MatchOption found (IsFirstNoted choices file None) (IsOpenedFirst choices file) →
    MatchOption found (AreNoted plain file None) (IsOpenedAsNoted plain file)
unless_plain true file found is by = absurd (cc is)
unless_plain false file None is none = none
unless_plain false file (Some opened) is noted = record { stories = noted.stories; are = noted.first; by = noted.by }

pub opened_fit : (plain : Bool) (file : List ℕ) (noted : Option OpenedAny) (opened made : OpenedAny) →
    MatchOption noted (AreNoted plain file None) (IsOpenedAsNoted plain file) →
    IsOpenedAny file opened → MatchOption noted (made ≡ opened) (λ found. made ≡ found) →
    IsOpenedFit plain file made
opened_fit plain file None opened made never is same =
    subst (λ (o : OpenedAny). IsOpenedFit plain file o) (sym same) (record {
      holds = opened_holds file opened is;
      noted = None;
      are = never;
      by = is;
      sound = is.sound;
    })
opened_fit plain file (Some found) opened made noted is same =
    subst (λ (o : OpenedAny). IsOpenedFit plain file o) (sym same) (record {
      holds = opened_holds file opened is;
      noted = Some noted.stories;
      are = noted.are;
      by = noted.by;
      sound = noted_opened noted.stories file found noted.by;
    })

-- a file that is not lifted
pub not_lifted_noted : (stories : NotedStories) (file : List ℕ) (rule : ℕ) (place : Place) →
    IsFirstPlace (lifted_rules file) rule place → CannotNote stories file
not_lifted_noted stories file rule place first document has =
    hold_or_first Upto (lifted_rules file) rule place (lifted_single file) has.rules first
