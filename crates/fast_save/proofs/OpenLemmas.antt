-- What is known of the streams, the FIB and the pieces of a file that was read.
use Rattle.std.specs.Prelude.{slice_index, slice_range, ℕ, List}
use Rattle.std.specs.List.{flat_map, range_with_len}
use Rattle.std.proofs.Common.{◌≡◌, ◌∙◌, ◌∷◌, ◌+◌, ◌*◌, ◌<◌, ◌≤◌, [], sym, ap, subst, length, arith}
use Rattle.std.proofs.Common.{All}
use Rattle.std.proofs.lemmas.List.Elements.{All-nil, All-append, All-map, All-head, All-tail}
use Rattle.doc_bits.specs.declared.places.Where.TheVariants.{File, Wd, Table}
use Rattle.doc_bits.specs.Number.{AreBytes}
use Rattle.doc_bits.specs.Rules.{Hold, Nowhere, Among, Rules}
use Rattle.doc_bits.proofs.Public.{hold_or_first}
use Rattle.cfb_streams.specs.Contents.{Contents, HasNamed}
use Rattle.cfb_streams.specs.Container.{container_rules, HasContents}
use Rattle.cfb_streams.specs.Names.{wd_name}
use Rattle.cfb_streams.proofs.Public.{container_single, contents_unique}
use Rattle.cfb_sectors.specs.declared.faults.CfbFault.{CfbFault}
use Rattle.cfb_sectors.specs.declared.faults.CfbFault.TheVariants.{Rule as Broken}
use Rattle.cfb_sectors.specs.Judged.{IsCfbFault}
use Rattle.cfb_sectors.specs.Opening.{HasRightLength}
use Rattle.cfb_sectors.proofs.Public.{whole_length}
use Rattle.fib_form.specs.Fib.{fib_size, fib_pair}
use Rattle.fib_form.specs.FibFields.{FibFields, fib_fields, listed_pair, text_length}
use Rattle.fib_form.specs.FibRules.{fib_rules}
use Rattle.fib_form.proofs.Public.{is_fib}
use Rattle.fib_form.specs.TableParts.{pair_number}
use Rattle.fib_form.specs.declared.table_parts.TablePart.TheVariants.{Clx, PlcfSed}
use Rattle.fib_form.specs.declared.stories.StoryKind.TheVariants.{Main}
use Rattle.doc_parts.specs.declared.lists.Sed.{Sed}
use Rattle.doc_parts.specs.declared.fault.PartFault.{PartFault}
use Rattle.doc_parts.specs.declared.fault.PartFault.TheVariants.{Rule as WrongPart}
use Rattle.doc_parts.specs.Table.{IsPartFault}
use Rattle.doc_parts.specs.Sections.{AreSections, section_rules}
use Rattle.file_rules.specs.Source.{table_part_bytes, part_place, story_length}
use Rattle.file_rules.specs.SectionRules.{HasSections}
use Rattle.file_rules.proofs.Public.{pair-read, sections_one, named_one, hold_out}
use Rattle.prop_map.specs.declared.modifiers.Modifier.{Modifier}
use Rattle.piece_table.specs.Piece.{TextPiece, UnitPlace, unit_bytes, places_of_piece, flat_pieces}
use Rattle.piece_table.specs.Clx.{ClxParts}
use Rattle.piece_table.specs.ClxRules.{clx_rules, text_bounds, IsLongPrc, FitsPages}
use Rattle.piece_table.proofs.Public.{parts_unique, pieces_fit}
use Rattle.doc_model.specs.declared.document.Document.{Document}
use Rattle.file_rules.specs.FileRules.{doc_source_of, clx_of, wd_rules, table_rules, table_stream_name}
use Rattle.file_rules.specs.FileRules.{loading_rules, file_rules}
use Rattle.doc_read.specs.CarriedParts.{AreWithinBounds}
use Rattle.doc_read.specs.Holds.{FileParts, HasFileParts, HoldsDocument}
use Rattle.doc_read.proofs.Public.{named_bytes, contents-bounded, text_held}
use Rattle.doc_read.specs.Opened.{OpenedFile}
use Rattle.save_laws.proofs.Public.{held_rules}
use Rattle.session_text.specs.SessionText.{HaveFitModifiers}
use Rattle.fast_save.specs.Started.{IsOpenFile, IsReadFile}

abbrev pub read_file : (opened : OpenedFile) → IsOpenFile opened → IsReadFile opened.contents opened.fib
read_file opened opening = record {
  file = opening.file;
  rules = opening.is.holds.rules;
  parts = opening.is.holds.parts;
  has = opening.is.holds.has_parts;
  contents_are = opening.is.contents;
  fib_is = opening.is.fib;
}

-- ---- a file without a broken rule

pub container_holds : (file : List ℕ) → Hold (file_rules file) → Hold (container_rules file)
container_holds file rules = hold_out File (container_rules file) rules.0

pub file_whole : (file : List ℕ) → Hold (file_rules file) → HasRightLength file
file_whole file rules = whole_length file (container_holds file rules).0.0

module _ (contents : Contents) (fib : FibFields) (file : IsReadFile contents fib) where
  pub has_contents : HasContents file.file contents
  has_contents = subst (HasContents file.file) (sym file.contents_are) file.has.has_contents

  pub bounded : AreWithinBounds contents
  bounded = contents-bounded file.file contents (container_holds file.file file.rules) has_contents

  -- a stream of it is short
  pub named_short : (name bytes : List ℕ) → HasNamed contents.streams name bytes → length bytes ≤ 7143936
  named_short name bytes named =
      subst (λ (b : List ℕ). length b ≤ 7143936) (sym named.same) (bounded.short named.index named.stream named.here)

  pub wd_there : HasNamed contents.streams wd_name file.parts.text.wd
  wd_there =
      subst (λ (c : Contents). HasNamed c.streams wd_name file.parts.text.wd) (sym file.contents_are)
      file.has.has_text.has_wd

  pub table_there : HasNamed contents.streams (table_stream_name file.parts.text.wd) file.parts.text.table
  table_there =
      subst (λ (c : Contents). HasNamed c.streams (table_stream_name file.parts.text.wd) file.parts.text.table)
      (sym file.contents_are) file.has.has_text.has_table

  -- the streams of these names are those of the text
  pub wd_is : (bytes : List ℕ) → HasNamed contents.streams wd_name bytes → bytes ≡ file.parts.text.wd
  wd_is bytes named = named_one file.file contents wd_name bytes file.parts.text.wd has_contents named wd_there

  pub table_is : (bytes : List ℕ) → HasNamed contents.streams (table_stream_name file.parts.text.wd) bytes →
      bytes ≡ file.parts.text.table
  table_is bytes named =
      named_one file.file contents (table_stream_name file.parts.text.wd) bytes file.parts.text.table has_contents named
      table_there

  -- the sections that the table stream has by the FIB are those of the file
  pub sections_are : (table plc : List ℕ) (pair : ℕ × ℕ) (count : ℕ) (seds : List Sed) →
      HasNamed contents.streams (table_stream_name file.parts.text.wd) table →
      pair ≡ listed_pair fib.pairs (pair_number PlcfSed) → plc ≡ slice_range table pair.0 (pair.0 + pair.1) →
      count ≡ slice_index fib.ccps 0 → AreSections plc count seds → seds ≡ file.parts.lists.sections
  sections_are table plc pair count seds named pair_is plc_is count_is are =
      let wd = file.parts.text.wd in
      let source = doc_source_of file.parts.text in
      let t : table ≡ file.parts.text.table = table_is table named in
      let p : pair ≡ fib_pair wd (pair_number PlcfSed) = pair_is ∙ pair-read wd fib (pair_number PlcfSed) (omega arith)
      file.fib_is in
      let range : slice_range table pair.0 (pair.0 + pair.1) ≡ table_part_bytes source PlcfSed =
      λ i. slice_range (t i) (p i).0 ((p i).0 + (p i).1) in
      let bytes : plc ≡ table_part_bytes source PlcfSed = plc_is ∙ range in
      let count_of : count ≡ story_length source Main =
      count_is ∙ ap (λ (f : FibFields). slice_index f.ccps 0) file.fib_is in
      let has : HasSections source seds =
      subst (λ (b : List ℕ). AreSections b (story_length source Main) seds) bytes
      (subst (λ (n : ℕ). AreSections plc n seds) count_of are) in
      sections_one source seds file.parts.lists.sections has file.has.has_lists.has_sections

  -- and they break no rule
  pub sections_hold : (table plc : List ℕ) (pair : ℕ × ℕ) (count : ℕ) →
      HasNamed contents.streams (table_stream_name file.parts.text.wd) table →
      pair ≡ listed_pair fib.pairs (pair_number PlcfSed) → plc ≡ slice_range table pair.0 (pair.0 + pair.1) →
      count ≡ slice_index fib.ccps 0 → Hold (section_rules plc pair.0 count)
  sections_hold table plc pair count named pair_is plc_is count_is =
      let wd = file.parts.text.wd in
      let source = doc_source_of file.parts.text in
      let t : table ≡ file.parts.text.table = table_is table named in
      let p : pair ≡ fib_pair wd (pair_number PlcfSed) = pair_is ∙ pair-read wd fib (pair_number PlcfSed) (omega arith)
      file.fib_is in
      let range : slice_range table pair.0 (pair.0 + pair.1) ≡ table_part_bytes source PlcfSed =
      λ i. slice_range (t i) (p i).0 ((p i).0 + (p i).1) in
      let bytes : plc ≡ table_part_bytes source PlcfSed = plc_is ∙ range in
      let count_of : count ≡ story_length source Main =
      count_is ∙ ap (λ (f : FibFields). slice_index f.ccps 0) file.fib_is in
      let parts = (held_rules file.file file.parts file.rules file.has).parts_hold in
      let rules =
      hold_out Table (section_rules (table_part_bytes source PlcfSed) (part_place source PlcfSed) (story_length source
      Main))
      parts.0.0.0 in
      subst (λ (r : Rules ℕ). Hold r)
      (sym (λ i. section_rules (bytes i) (p i).0 (count_of i))) rules

-- what breaks no rule has no fault
pub no_cfb_fault : (file : List ℕ) (fault : CfbFault) (rule place : ℕ) → Hold (container_rules file) →
    IsCfbFault (container_rules file) fault → fault ≡ Broken rule place → ⊥
no_cfb_fault file fault rule place holds is same =
    hold_or_first (λ a b. a ≤ b) (container_rules file) rule place (container_single file) holds
    (subst (λ f. IsCfbFault (container_rules file) f) same is)

pub no_part_fault : (plc : List ℕ) (at count : ℕ) (fault : PartFault) (rule place : ℕ) →
    Hold (section_rules plc at count) → IsPartFault (section_rules plc at count) fault →
    fault ≡ WrongPart rule place → ⊥
no_part_fault plc at count fault rule place holds is same =
    hold_or_first (λ a b. a ≤ b) (section_rules plc at count) rule place tt holds
    (subst (λ f. IsPartFault (section_rules plc at count) f) same is)

-- ---- modifiers, piece by piece and CP by CP

all_units : (P : Modifier → Type 0) (piece : TextPiece) → P piece.modifier →
    All (λ (place : UnitPlace). P place.modifier) (places_of_piece piece)
all_units P piece has =
    let place : ℕ → UnitPlace =
    λ j. record { at = piece.at + j * unit_bytes piece.wide; wide = piece.wide; modifier = piece.modifier } in
    All-map (λ (place : UnitPlace). P place.modifier) place (range_with_len 0 piece.len) (λ k d below. has)

flat_units : (P : Modifier → Type 0) (pieces : List TextPiece) → All (λ (piece : TextPiece). P piece.modifier) pieces →
    All (λ (place : UnitPlace). P place.modifier) (flat_map places_of_piece pieces)
flat_units P [] all = All-nil (λ (place : UnitPlace). P place.modifier)
flat_units P (piece ∷ pieces) all =
    let Has : TextPiece → Type 0 = λ piece. P piece.modifier in
    All-append (λ (place : UnitPlace). P place.modifier) (places_of_piece piece) (flat_map places_of_piece pieces)
    (all_units P piece (All-head Has piece pieces all)) (flat_units P pieces (All-tail Has piece pieces all))

pub flat_modifiers : (P : Modifier → Type 0) (pieces : List TextPiece) →
    All (λ (piece : TextPiece). P piece.modifier) pieces → All (λ (place : UnitPlace). P place.modifier) (flat_pieces
    pieces)
unfolding flat_pieces
flat_modifiers P pieces all = flat_units P pieces all

-- ---- the text

pub table_holds : (file : List ℕ) (parts : FileParts) → Hold (file_rules file) → HasFileParts file parts →
    Hold (table_rules parts.text.wd parts.text.table)
table_holds file parts h has =
    let contents : h.1.0 ≡ parts.contents = contents_unique file h.1.0 parts.contents h.1.1.0 has.has_contents in
    let loading : Hold (loading_rules parts.contents) = subst (λ c. Hold (loading_rules c)) contents h.1.1.1.0 in
    text_held file parts.contents parts.text loading has.has_contents has.has_text

-- its FIB breaks no rule
pub fib_holds : (file : List ℕ) (parts : FileParts) → Hold (file_rules file) → HasFileParts file parts →
    Hold (fib_rules parts.text.wd)
fib_holds file parts h has =
    let contents : h.1.0 ≡ parts.contents = contents_unique file h.1.0 parts.contents h.1.1.0 has.has_contents in
    let loading : Hold (loading_rules parts.contents) = subst (λ c. Hold (loading_rules c)) contents h.1.1.1.0 in
    let wd : loading.1.0 ≡ parts.text.wd =
    named_one file parts.contents wd_name loading.1.0 parts.text.wd has.has_contents loading.1.1.0 has.has_text.has_wd
    in
    let held : Hold (wd_rules parts.contents parts.text.wd) =
    subst (λ (w : List ℕ). Hold (wd_rules parts.contents w)) wd loading.1.1.1 in
    hold_out Wd (fib_rules parts.text.wd) held.0

-- its FIB counts 15 quick saves at most
pub few_quick_saves : (file : List ℕ) (document : Document) (held : HoldsDocument file document) → AreBytes file →
    (fib_fields held.parts.text.wd).quick_saves < 16
few_quick_saves file document held bytes =
    let parts = held.parts in
    let has = held.has_parts in
    let wd = named_bytes file parts.contents wd_name parts.text.wd bytes has.has_contents has.has_text.has_wd in
    (is_fib parts.text.wd wd (fib_holds file parts held.rules has)).quick_saves

-- the modifiers of a file's pieces fit a page
pub given_fit : (file : List ℕ) (document : Document) (held : HoldsDocument file document) →
    HaveFitModifiers held.parts.text.pieces
given_fit file document held =
    let text = held.parts.text in
    let wd = text.wd in
    let clx = clx_of wd text.table in
    let at = (fib_pair wd (pair_number Clx)).0 in
    let bounds = text_bounds (fib_size wd) (length wd) in
    let table = table_holds file held.parts held.rules held.has_parts in
    let rules = hold_out Table (clx_rules clx at bounds (text_length (fib_fields wd).ccps)) table.1 in
    let parts = rules.1.0 in
    let is = held.has_parts.has_text.has_pieces in
    let same : parts ≡ is.parts = parts_unique clx parts is.parts rules.1.1.0 is.spelt in
    let none : Nowhere (Among (length is.parts.prcs) (IsLongPrc is.parts at)) =
    subst (λ (p : ClxParts). Nowhere (Among (length p.prcs) (IsLongPrc p at))) same rules.1.1.1.1.1 in
    flat_modifiers FitsPages text.pieces (pieces_fit is.parts at text.pieces none is.pieces_are is.modifiers)
