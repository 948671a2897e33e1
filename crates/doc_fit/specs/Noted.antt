-- The document of a file with its endnotes and its comments as notes: they are read as footnotes are, and become notes
-- where the document breaks no rule then, once it is mended. Else it stays as it is without them.
use Rattle.std.specs.Prelude.{◌≡◌, ◌⊎◌, ℕ, Bool, true, false, not, ◌||◌, ◌==◌, eqb, List, [], ◌∷◌, ◌++◌, codes}
use Rattle.std.specs.Prelude.{filter, map, IsTrue, Option, Some, None}
use Rattle.std.specs.List.{starts_with}
use Rattle.doc_bits.specs.Number.{AreBytes}
use Rattle.doc_bits.specs.Rules.{Hold}
use Rattle.cfb_streams.specs.Contents.{HasNamed}
use Rattle.cfb_streams.specs.Names.{wd_name}
use Rattle.fib_versions.specs.declared.further.Further.TheVariants as further
use Rattle.fib_versions.specs.Versions.{further_count}
use Rattle.doc_model.specs.declared.document.Document.{Document}
use Rattle.plain_doc.specs.Sound.{IsSound}
use Rattle.file_rules.specs.FileRules.{FileText, HasFileText, table_stream_name}
use Rattle.doc_meaning.specs.Meaning.{MeansDocument}
use Rattle.doc_lift.specs.declared.lifting.Lifted.{Lifted}
use Rattle.doc_lift.specs.LiftedFiles.{IsLifted, lifted_rules}
use Rattle.doc_losses.specs.References.{names_of}
use Rattle.doc_mends.specs.declared.mends.MadeNote.{MadeNote}
use Rattle.doc_mends.specs.declared.mends.Mend.{Mend}
use Rattle.doc_mends.specs.declared.mends.Mend.TheVariants.{MakeNote}
use Rattle.doc_mends.specs.Mending.{IsMended}
use Rattle.huge_papx.specs.Texts.{IsStruckDefined}
use Rattle.loss_report.specs.Features.{Inventory}
use Rattle.further_notes.specs.declared.splicing.Spliced.{Spliced}
use Rattle.further_notes.specs.declared.stories.NotedStories.{NotedStories}
use Rattle.further_notes.specs.declared.stories.NotedStories.TheVariants.{Both, Endnotes, Comments}
use Rattle.further_notes.specs.Noted.{IsSpliced, HasNoSplice}
use Rattle.doc_fit.specs.declared.opening.OpenedAny.{OpenedAny}
use Rattle.doc_fit.specs.Rules.{HasMended, fit_rules}
use Rattle.doc_fit.specs.Losses.{HasLiftedStreams, AreFitLines, AreLossLines}
use Rattle.doc_fit.specs.Opened.{IsOpenedAny}

-- ---- documents

-- what a reviser deleted of the document of a text is struck, rows get the cells that Data has for them, the texts of
-- these stories become notes, and it is mended
pub record IsNotedText (stories : NotedStories) (text : FileText) (meant noted : Document) (mends : List Mend) :
    Type 0 where
  pub struck : Document
  pub strikes : List Mend
  pub struck_is : IsStruckDefined text meant struck strikes
  pub spliced : Document
  pub made : List MadeNote
  pub splice : IsSpliced stories text.wd text.table struck spliced made
  pub others : List Mend
  pub mended_is : IsMended (names_of text.wd text.table) spliced noted others
  pub mends_are : mends ≡ map MakeNote made ++ (strikes ++ others)

-- so is that of what a file means, and breaks no rule then
pub record HasNoted (stories : NotedStories) (file : List ℕ) (document : Document) : Type 0 where
  pub rules : Hold (lifted_rules file)
  pub meant : Document
  pub means : MeansDocument file meant
  pub mends : List Mend
  pub noted_is : IsNotedText stories means.parts.text meant document mends
  pub sound : IsSound document

abbrev pub CanNote : NotedStories → List ℕ → Type 0
CanNote stories file = (document : Document) × HasNoted stories file document

-- the texts of these stories of the file do not become notes
abbrev pub CannotNote : NotedStories → List ℕ → Type 0
CannotNote stories file = (document : Document) → ¬ HasNoted stories file document

-- Profile: both stories, or else the endnotes, or else the comments
abbrev pub one_story : List NotedStories
one_story = Endnotes ∷ Comments ∷ []

abbrev pub choices : List NotedStories
choices = Both ∷ one_story

-- the first of these that can become notes, or none
abbrev pub IsFirstNoted : List NotedStories → List ℕ → Option NotedStories → Type 0
IsFirstNoted [] file noted = noted ≡ None
IsFirstNoted (stories ∷ others) file noted =
    ((noted ≡ Some stories) × CanNote stories file) ⊎ (CannotNote stories file × IsFirstNoted others file noted)

-- which stories become notes: wherever they can, if they are to
abbrev pub AreNoted : (plain : Bool) → List ℕ → (noted : Option NotedStories) → Type 0
AreNoted true file noted = noted ≡ None
AreNoted false file noted = IsFirstNoted choices file noted

-- the mended document, and its mends
pub record IsMendedOf (file : List ℕ) (document : Document) (mends : List Mend) : Type 0 where
  pub mended : HasMended file document
  pub mends_are : mends ≡ mended.mends

pub record IsNotedOf (stories : NotedStories) (file : List ℕ) (document : Document) (mends : List Mend) : Type 0
  where
    pub noted : HasNoted stories file document
    pub mends_are : mends ≡ noted.mends

abbrev pub IsFitDocument : (noted : Option NotedStories) → List ℕ → Document → List Mend → Type 0
IsFitDocument (Some stories) file document mends = IsNotedOf stories file document mends
IsFitDocument None file document mends = IsMendedOf file document mends

-- ---- lines

-- of the parts and the story of the endnotes, which are not left out where these are notes; so of the comments
abbrev pub is_endnote_line : List ℕ → Bool
is_endnote_line line =
    starts_with eqb line (codes "part 46 ")
    || (starts_with eqb line (codes "part 47 ")
    || (starts_with eqb line (codes "part 48 ") || starts_with eqb line (codes "story endnotes ")))

abbrev pub is_comment_line : List ℕ → Bool
is_comment_line line =
    starts_with eqb line (codes "part 4 ")
    || (starts_with eqb line (codes "part 5 ")
    || (starts_with eqb line (codes "part 19 ") || starts_with eqb line (codes "story comments ")))

abbrev pub is_note_line : NotedStories → List ℕ → Bool
is_note_line Both line = is_endnote_line line || is_comment_line line
is_note_line Endnotes line = is_endnote_line line
is_note_line Comments line = is_comment_line line

abbrev pub lines_left : (noted : Option NotedStories) → List (List ℕ) → List (List ℕ)
lines_left (Some stories) lines = filter (λ line. not (is_note_line stories line)) lines
lines_left None lines = lines

pub record AreLinesWith (noted : Option NotedStories) (text : FileText) (inventory : Inventory)
    (lines : List (List ℕ)) : Type 0 where
  pub all : List (List ℕ)
  pub are_all : AreFitLines text inventory all
  pub are : lines ≡ lines_left noted all

-- ---- what is opened

-- the streams of what is lifted are those of a file of bytes
pub record HasFileStreams (lifted : Lifted) : Type 0 where
  pub streams : HasLiftedStreams lifted
  pub bytes : AreBytes streams.file

-- its WordDocument and its table stream
pub record HasTwoStreams (lifted : Lifted) : Type 0 where
  pub wd : List ℕ
  pub named : HasNamed lifted.outer.container.streams wd_name wd
  pub table : List ℕ
  pub named_table : HasNamed lifted.outer.container.streams (table_stream_name wd) table

-- a file has nothing of one of these stories
abbrev pub lacks_some : NotedStories → List ℕ → Bool
lacks_some Both wd = (further_count wd further.Endnotes == 0) || (further_count wd further.Comments == 0)
lacks_some Endnotes wd = further_count wd further.Endnotes == 0
lacks_some Comments wd = further_count wd further.Comments == 0

pub record LacksStory (stories : NotedStories) (lifted : Lifted) : Type 0 where
  pub streams : HasTwoStreams lifted
  pub lacks : IsTrue (lacks_some stories streams.wd)

-- the texts of these stories are notes of its document, or cannot be
pub record IsSplicedOf (stories : NotedStories) (lifted : Lifted) (spliced : Spliced) : Type 0 where
  pub streams : HasTwoStreams lifted
  pub is : IsSpliced stories streams.wd streams.table lifted.document spliced.document spliced.made.items

pub record HasNoSpliceOf (stories : NotedStories) (lifted : Lifted) : Type 0 where
  pub streams : HasTwoStreams lifted
  pub none : HasNoSplice stories streams.wd streams.table lifted.document

-- what a reviser deleted of what is lifted is struck, and rows get their cells
pub record IsStruckLifted (before after : Lifted) (strikes : List Mend) : Type 0 where
  pub outer : after.outer ≡ before.outer
  pub text : FileText
  pub has_text : HasFileText before.outer.container text
  pub struck_is : IsStruckDefined text before.document after.document strikes

-- what is lifted, before the texts of these stories are notes and after it is mended
pub record IsNotedReport (stories : NotedStories) (file : List ℕ) (before after : Lifted) (lines : List (List ℕ))
    (mends : List Mend) : Type 0 where
  pub lifts : IsLifted file before
  pub noted_is : IsNotedText stories lifts.text before.document after.document mends
  pub all : List (List ℕ)
  pub are_all : AreLossLines before all
  pub lines_are : lines ≡ lines_left (Some stories) all
  pub sound : IsSound after.document

-- the file with the texts of these stories as notes
pub record IsOpenedNoted (stories : NotedStories) (file : List ℕ) (opened : OpenedAny) : Type 0 where
  pub before : Lifted
  pub by : IsNotedReport stories file before opened.lifted opened.losses opened.mends.items

abbrev pub IsOpenedWith : (noted : Option NotedStories) → List ℕ → OpenedAny → Type 0
IsOpenedWith (Some stories) file opened = IsOpenedNoted stories file opened
IsOpenedWith None file opened = IsOpenedAny file opened

-- with the texts of some stories as notes, which are the first that can be
pub record IsOpenedFirst (among : List NotedStories) (file : List ℕ) (opened : OpenedAny) : Type 0 where
  pub stories : NotedStories
  pub first : IsFirstNoted among file (Some stories)
  pub by : IsOpenedNoted stories file opened

pub record IsOpenedAsNoted (plain : Bool) (file : List ℕ) (opened : OpenedAny) : Type 0 where
  pub stories : NotedStories
  pub are : AreNoted plain file (Some stories)
  pub by : IsOpenedNoted stories file opened

pub record IsOpenedFit (plain : Bool) (file : List ℕ) (opened : OpenedAny) : Type 0 where
  pub holds : Hold (fit_rules file)
  pub noted : Option NotedStories
  pub are : AreNoted plain file noted
  pub by : IsOpenedWith noted file opened
  pub sound : IsSound opened.lifted.document
