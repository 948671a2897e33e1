-- What the front of a text, behind a FIB of the early form, tells of the streams.
use Rattle.std.proofs.Common.{Option, ◌≡◌, ◌∙◌, ◌++◌, ◌+◌, ◌<◌, ◌≤◌, ◌^◌, refl, sym, ap, subst, inl, inr, ℕ, zero, suc}
use Rattle.std.proofs.Common.{List, [], ◌∷◌, Bool, length, map, take, drop, arith}
use Rattle.std.proofs.lemmas.Bool.{cases_lt}
use Rattle.std.proofs.lemmas.List.{length-drop, length-append, take-take}
use Rattle.doc_bits.specs.Rules.{Rules, Hold, Nowhere}
use Rattle.doc_bits.specs.Places.{Place}
use Rattle.cfb_streams.specs.Contents.{Contents, HasNamed}
use Rattle.fib_form.specs.Fib.{form_size}
use Rattle.fib_form.specs.FibFields.{FibFields, fib_fields, text_length}
use Rattle.fib_form.specs.FibBytes.{written_fib}
use Rattle.fib_form.specs.declared.form.Form.TheVariants.{Early}
use Rattle.fib_form.proofs.Public.{length-written_fib}
use Rattle.fib_versions.specs.Early.{early_pairs, early_fields}
use Rattle.fib_versions.specs.Versions.{all_text_length}
use Rattle.fib_versions.specs.VersionRules.{version_rules}
use Rattle.doc_model.specs.declared.document.Document.{Document}
use Rattle.doc_model.specs.Marks.{HasFormedBookmarks}
use Rattle.file_rules.specs.PartRules.{layout_rules, part_rules}
use Rattle.file_rules.specs.FileRules.{FileText, IsFrontOf, doc_source_of, rules_of_pieces, table_stream_name}
use Rattle.cfb_sectors.proofs.Public.{whole_length}
use Rattle.cfb_directory.specs.Reach.{BreaksName}
use Rattle.cfb_streams.specs.Container.{outer_rules, HasContents}
use Rattle.cfb_streams.proofs.Public.{directory_unique}
use Rattle.doc_read.specs.CarriedParts.{AreWithinBounds, LeavesRoom}
use Rattle.doc_read.specs.Opened.{IsReadDocument}
use Rattle.doc_read.proofs.Public.{bounded, leaves_room, parts-formed}
use Rattle.doc_meaning.specs.Meaning.{MeansFrom}
use Rattle.doc_meaning.specs.Apart.{IsReadTable}
use Rattle.doc_meaning.proofs.Public.{clx_table_len, apart_part, HasFront, whole_text, front_text, front_units}
use Rattle.doc_meaning.proofs.Public.{loaded_is_meant, story_same}
use Rattle.doc_lift.specs.declared.text_lifting.LiftedText.{LiftedText}
use Rattle.doc_lift.specs.LiftedRules.{lifted_wd, IsReadFor}
use Rattle.doc_lift.specs.LiftedTexts.{IsLiftedBy}
use Rattle.deleted_text.specs.Places.{AreDeletions}
use Rattle.deleted_text.specs.Texts.{AreTextDeletions}
use Rattle.huge_papx.specs.Offsets.{AreOffsets}
use Rattle.huge_papx.specs.Texts.{AreTextOffsets}
use Rattle.fib_form.specs.Fib.{table_part}
use Rattle.fib_form.specs.TableParts.{pair_number}
use Rattle.fib_form.specs.declared.stories.StoryKind.{StoryKind}
use Rattle.fib_form.specs.declared.stories.StoryKind.TheVariants.{Main, Notes, Heads}
use Rattle.fib_form.specs.declared.table_parts.TablePart.TheVariants.{PlcfBteChpx, PlcfBtePapx}
use Rattle.fkp_pages.specs.Bin.{IsBinTable}
use Rattle.piece_table.specs.Piece.{UnitPlace, flat_pieces}
use Rattle.file_rules.specs.Source.{story_length}
use Rattle.file_rules.specs.Units.{text_units}
use Rattle.file_rules.specs.FormatRules.{judged_places, text_count}
use Rattle.file_rules.proofs.Public.{bin_tables}
use Rattle.doc_lift.proofs.SkipLemmas.{read_table_len, read_loaded_for, read_part}
use Rattle.fib_versions.proofs.Public.{length-early_pairs}

-- a FIB that is long enough for the rules is as long as the early form
pub early_long : (wd : List ℕ) → Hold (version_rules wd) → form_size Early ≤ length wd
early_long wd hold = elim (cases_lt (length wd) (form_size Early)) [
  | inl less ↦ absurd (hold.0 (length wd) (refl, inl less))
  | inr enough ↦ enough
]

-- the stream stays as long as it was
pub length-lifted_wd : (wd : List ℕ) → form_size Early ≤ length wd → length (lifted_wd wd) ≡ length wd
length-lifted_wd wd long =
    let fib = early_fields wd (early_pairs wd) in
    omega (
      arith,
      long,
      length-append (written_fib fib) (drop (form_size Early) wd),
      length-written_fib fib (length-early_pairs wd),
      length-drop (form_size Early) wd,
    )

-- the FIB counts no more CPs than all stories have
pub front_short : (wd early : List ℕ) → fib_fields early ≡ early_fields wd (early_pairs wd) →
    text_length (fib_fields early).ccps ≤ all_text_length wd
front_short wd early fields =
    let same : text_length (fib_fields early).ccps ≡ text_length (fib_fields wd).ccps =
    ap (λ (f : FibFields). text_length f.ccps) fields in
    let own : text_length (fib_fields wd).ccps ≤ all_text_length wd = omega arith in
    omega (arith, same, own)

-- a stream of the root has 32-bit places
pub stream_small : (contents : Contents) (name bytes : List ℕ) → AreWithinBounds contents →
    HasNamed contents.streams name bytes → length bytes < 2 ^ 32
stream_small contents name bytes bounds named =
    let short = bounds.short named.index named.stream named.here in
    omega (arith, ap length named.same, short)

-- the table stream that is read has 32-bit places
pub read_small : (contents : Contents) (wd table : List ℕ) → AreWithinBounds contents → IsReadTable contents wd table →
    length table < 2 ^ 32
read_small contents wd table bounds reads =
    let small = stream_small contents (table_stream_name wd) reads.own bounds reads.has_table in
    omega (arith, small, clx_table_len (early_pairs wd) reads.own table reads.clx)

pub front_room : (contents : Contents) (wd table : List ℕ) (text_len : ℕ) (text : FileText) (units : List ℕ)
    (read : FileText) → AreWithinBounds contents → IsReadTable contents wd table → HasFront wd table text_len →
    IsFrontOf (lifted_wd wd) table text units → IsReadFor wd table units text read → LeavesRoom contents read.table
front_room contents wd table text_len text units read bounds reads has front is =
    let room = leaves_room contents (whole_text wd reads.own front.all) bounds
    (front_text contents wd table text_len text units reads has front) in
    let len = read_table_len wd table units text read front is in
    let own = clx_table_len (early_pairs wd) reads.own table reads.clx in
    record { few = room.few; short = omega (arith, len, own, room.short) }

pub front_meant : (contents : Contents) (wd table : List ℕ) (text_len : ℕ) (text : FileText) (units : List ℕ)
    (read : FileText) (document : Document) → IsReadTable contents wd table → HasFront wd table text_len →
    IsFrontOf (lifted_wd wd) table text units → IsReadFor wd table units text read →
    Hold (part_rules (doc_source_of read)) → IsReadDocument contents read document → MeansFrom contents document
front_meant contents wd table text_len text units read document reads has front is hold from =
    loaded_is_meant contents (whole_text wd reads.own front.all) table read from.lists document
    (front_text contents wd table text_len text units reads has front) reads.clx
    (read_loaded_for wd table text_len text units read has front is) hold from.has_lists from.document_is

pub read_formed : (contents : Contents) (text : FileText) (document : Document) →
    Hold (part_rules (doc_source_of text)) → IsReadDocument contents text document → HasFormedBookmarks document
read_formed contents text document hold read =
    parts-formed (record {
      contents = contents;
      text = text;
      lists = read.lists;
      sections = read.document_is.sections;
    }) document hold read.has_lists read.document_is.document_is

-- what is lifted, under the rules of the layer above
pub lifted_under : (rules below : Rules Place) (contents : Contents) (lifted : LiftedText) → Hold rules →
    IsLiftedBy below contents lifted → IsLiftedBy rules contents lifted
lifted_under rules below contents lifted hold is = record {
  hold = hold;
  text = is.text;
  has_text = is.has_text;
  fib = is.fib;
  units = is.units;
  deleted = is.deleted;
  offsets = is.offsets;
  means = is.means;
  formed = is.formed;
}

-- a stream with the early FIB in front, as it was written
pub record IsWrittenFront (wd lifted : List ℕ) : Type 0 where
  pub bytes : lifted ≡ lifted_wd wd
  pub fields : fib_fields lifted ≡ early_fields wd (early_pairs wd)

pub written_front : (wd : List ℕ) (early : FibFields) (lifted : List ℕ) → early ≡ early_fields wd (early_pairs wd) →
    lifted ≡ written_fib early ++ drop (form_size early.form) wd → fib_fields lifted ≡ early → IsWrittenFront wd lifted
written_front wd early lifted is bytes fields = record {
  bytes = bytes ∙ ap (λ (f : FibFields). written_fib f ++ drop (form_size f.form) wd) is;
  fields = fields ∙ is;
}

-- the early FIB of a FIB is that of its stream
pub early_same : (wd fib : List ℕ) (early : FibFields) → fib ≡ wd → early ≡ early_fields fib (early_pairs fib) →
    early ≡ early_fields wd (early_pairs wd)
early_same wd fib early same is = is ∙ ap (λ (w : List ℕ). early_fields w (early_pairs w)) same

-- so its front can be loaded
pub has_front : (wd table lifted : List ℕ) → IsWrittenFront wd lifted →
    Hold (rules_of_pieces lifted table (all_text_length wd)) → HasFront wd table (all_text_length wd)
has_front wd table lifted front hold = record {
  fields = sym (ap fib_fields front.bytes) ∙ front.fields;
  hold = subst (λ w. Hold (rules_of_pieces w table (all_text_length wd))) front.bytes hold;
}

-- the streams of the root are within bounds, whatever its storages have
pub outer_bounded : (file : List ℕ) (contents : Contents) → Hold (outer_rules file) → HasContents file contents →
    AreWithinBounds contents
outer_bounded file contents holds has =
    let same = directory_unique file holds.1.1.1.0 has.parts.directory holds.1.1.1.1.0 has.directory in
    bounded file contents (whole_length file holds.0.0) has
    (subst (λ sectors. Nowhere (BreaksName file sectors)) same holds.1.1.1.1.1.1.1.0)

-- ---- what a reviser deleted

-- what is said of the places of the characters, where the bin table is one
abbrev pub SaysDeletions : (wd table : List ℕ) → FileText → List Bool → Type 0
SaysDeletions wd table text flags =
    let bin = table_part wd table (pair_number PlcfBteChpx) in
    IsBinTable bin → AreDeletions wd bin (judged_places (doc_source_of text)) flags

pub deleted_found : (wd table fib : List ℕ) (text : FileText) (flags : List Bool) → fib ≡ wd →
    (IsBinTable (table_part fib table (pair_number PlcfBteChpx)) →
    AreDeletions wd (table_part fib table (pair_number PlcfBteChpx)) (judged_places (doc_source_of text)) flags) →
    SaysDeletions wd table text flags
deleted_found wd table fib text flags same found =
    subst (λ (f : List ℕ). IsBinTable (table_part f table (pair_number PlcfBteChpx)) →
    AreDeletions wd (table_part f table (pair_number PlcfBteChpx)) (judged_places (doc_source_of text)) flags) same
    found

map_front : {A B : Type 0} (f : A → B) (n : ℕ) (xs : List A) → map f (take n xs) ≡ take n (map f xs)
map_front f zero xs = refl
map_front f (suc n) [] = refl
map_front {B = B} f (suc n) (x ∷ xs) = ap (λ (l : List B). f x ∷ l) (map_front f n xs)

-- the front has the places of the whole text
front_places : (wd own table : List ℕ) (text : FileText) (units : List ℕ) →
    fib_fields (lifted_wd wd) ≡ early_fields wd (early_pairs wd) →
    (front : IsFrontOf (lifted_wd wd) table text units) →
    judged_places (doc_source_of text) ≡ judged_places (doc_source_of (whole_text wd own front.all))
front_places wd own table text units fields front =
    let at : UnitPlace → ℕ = λ place. place.at in
    let flat = flat_pieces front.all in
    let whole = whole_text wd own front.all in
    let counts : (story : StoryKind) → story_length (doc_source_of text) story ≡ story_length (doc_source_of whole)
    story =
    λ story. story_same (doc_source_of whole) (doc_source_of text) story (ap fib_fields front.wd_is ∙ fields) in
    let count : text_count (doc_source_of text) ≡ text_count (doc_source_of whole) =
    λ i. counts Main i + counts Notes i + counts Heads i in
    let most : text_count (doc_source_of text) ≤ text_length (fib_fields text.wd).ccps = omega arith in
    let few : text_count (doc_source_of text) ≤ text_length (fib_fields (lifted_wd wd)).ccps =
    subst (λ (w : List ℕ). text_count (doc_source_of text) ≤ text_length (fib_fields w).ccps) front.wd_is most in
    let n = text_length (fib_fields (lifted_wd wd)).ccps in
    ap (λ (l : List UnitPlace). take (text_count (doc_source_of text)) (map at l)) front.front
    ∙ (ap (take (text_count (doc_source_of text))) (map_front at n flat)
    ∙ (take-take (text_count (doc_source_of text)) n (map at flat) few
    ∙ ap (λ k. take k (map at flat)) count))

pub front_deleted : (contents : Contents) (wd table : List ℕ) (text_len : ℕ) (text : FileText) (units : List ℕ)
    (read : FileText) (flags : List Bool) → (reads : IsReadTable contents wd table) → HasFront wd table text_len →
    (front : IsFrontOf (lifted_wd wd) table text units) → IsReadFor wd table units text read →
    Hold (layout_rules (doc_source_of read)) → SaysDeletions wd table text flags →
    AreTextDeletions (whole_text wd reads.own front.all) flags
front_deleted contents wd table text_len text units read flags reads has front for hold says =
    let whole = whole_text wd reads.own front.all in
    let bytes = (read_part wd table units text read PlcfBteChpx has.fields front for
    (λ e. absurd (omega (arith, e)))).bytes in
    let bins = (bin_tables (doc_source_of read) hold.1).0 in
    let own : table_part wd table (pair_number PlcfBteChpx) ≡ table_part wd reads.own (pair_number PlcfBteChpx) =
    apart_part wd reads.own table PlcfBteChpx reads.clx (λ e. absurd (omega (arith, e))) in
    let found = says (subst IsBinTable bytes bins) in
    subst (λ (b : List ℕ). AreDeletions wd b (judged_places (doc_source_of whole)) flags) own
    (subst (λ (p : List ℕ). AreDeletions wd (table_part wd table (pair_number PlcfBteChpx)) p flags)
    (front_places wd reads.own table text units has.fields front) found)

-- ---- places of Data that paragraphs name

-- what is said of the places of the marks, where the bin table is one
abbrev pub SaysOffsets : (wd table units : List ℕ) → FileText → List (Option ℕ) → Type 0
SaysOffsets wd table units text offsets =
    let bin = table_part wd table (pair_number PlcfBtePapx) in
    IsBinTable bin → AreOffsets wd bin (judged_places (doc_source_of text)) units offsets

pub offsets_found : (wd table fib units : List ℕ) (text : FileText) (offsets : List (Option ℕ)) → fib ≡ wd →
    (IsBinTable (table_part fib table (pair_number PlcfBtePapx)) →
    AreOffsets wd (table_part fib table (pair_number PlcfBtePapx)) (judged_places (doc_source_of text)) units offsets) →
    SaysOffsets wd table units text offsets
offsets_found wd table fib units text offsets same found =
    subst (λ (f : List ℕ). IsBinTable (table_part f table (pair_number PlcfBtePapx)) →
    AreOffsets wd (table_part f table (pair_number PlcfBtePapx)) (judged_places (doc_source_of text)) units offsets)
    same found

pub front_offsets : (contents : Contents) (wd table : List ℕ) (text_len : ℕ) (text : FileText) (units : List ℕ)
    (read : FileText) (offsets : List (Option ℕ)) → (reads : IsReadTable contents wd table) → HasFront wd table text_len →
    (front : IsFrontOf (lifted_wd wd) table text units) → IsReadFor wd table units text read →
    Hold (layout_rules (doc_source_of read)) → SaysOffsets wd table units text offsets →
    AreTextOffsets (whole_text wd reads.own front.all) offsets
front_offsets contents wd table text_len text units read offsets reads has front for hold says =
    let whole = whole_text wd reads.own front.all in
    let bytes = (read_part wd table units text read PlcfBtePapx has.fields front for
    (λ e. absurd (omega (arith, e)))).bytes in
    let bins = (bin_tables (doc_source_of read) hold.1).1 in
    let own : table_part wd table (pair_number PlcfBtePapx) ≡ table_part wd reads.own (pair_number PlcfBtePapx) =
    apart_part wd reads.own table PlcfBtePapx reads.clx (λ e. absurd (omega (arith, e))) in
    let found = says (subst IsBinTable bytes bins) in
    let all : units ≡ text_units whole.wd whole.pieces = front_units wd table text_len text units has front in
    subst (λ (b : List ℕ). AreOffsets wd b (judged_places (doc_source_of whole)) (text_units whole.wd whole.pieces)
    offsets)
    own
    (subst (λ (u : List ℕ). AreOffsets wd (table_part wd table (pair_number PlcfBtePapx)) (judged_places (doc_source_of
    whole)) u
    offsets) all
    (subst (λ (p : List ℕ). AreOffsets wd (table_part wd table (pair_number PlcfBtePapx)) p units offsets)
    (front_places wd reads.own table text units has.fields front) found))
