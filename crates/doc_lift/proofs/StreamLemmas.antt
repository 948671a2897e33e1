-- Streams that are filled by what functions make.
use Rattle.std.specs.Prelude.{slice_range, MatchOption}
use Rattle.std.proofs.Common.{◌≡◌, ◌∙◌, ◌++◌, ◌+◌, ◌≤◌, sym, ap, subst, ℕ, List, length, drop, arith}
use Rattle.std.proofs.Common.{Option, Some, None}
use Rattle.std.proofs.lemmas.Option.{none-some, same_Some}
use Rattle.std.proofs.lemmas.List.{length-append, length-drop}
use Rattle.fib_form.specs.Fib.{form_size, table_part}
use Rattle.fib_form.specs.FibFields.{ArePairs, fib_fields}
use Rattle.fib_form.specs.FibBytes.{written_fib}
use Rattle.fib_form.specs.TableParts.{pair_number}
use Rattle.fib_form.specs.declared.form.Form.TheVariants.{Early}
use Rattle.fib_form.specs.declared.table_parts.TablePart.{TablePart}
use Rattle.fib_form.proofs.Public.{length-written_fib}
use Rattle.fib_versions.specs.Early.{early_pairs, early_fields}
use Rattle.fkp_pages.specs.declared.kind.PageKind.{PageKind}
use Rattle.fkp_pages.specs.declared.kind.PageKind.TheVariants.{Chpx, Papx}
use Rattle.fkp_gaps.specs.Gaps.{ArePagesWithin}
use Rattle.fkp_gaps.specs.Filled.{IsFilledBin, next_page, with_empty_run}
use Rattle.fkp_gaps.proofs.Public.{filled_bin_is_one, length-with_empty_run}
use Rattle.page_copies.specs.Pages.{BinTables, bin_table_of}
use Rattle.doc_model.specs.declared.document.Document.{Document}
use Rattle.cfb_streams.specs.Contents.{Contents}
use Rattle.file_rules.specs.FileRules.{FileText}
use Rattle.doc_meaning.specs.Skipped.{bin_tables_of}
use Rattle.doc_meaning.specs.Filled.{CanFill, FillsStreams, filled_pairs}
use Rattle.doc_meaning.proofs.Public.{pair_same}
use Rattle.doc_lift.specs.declared.gap_filling.FilledStreams.{FilledStreams}
use Rattle.doc_lift.specs.FilledTexts.{AreFilledStreams, IsFrontWith, IsFilledOf}
use Rattle.doc_lift.specs.Filling.{HasFilled}
use Rattle.doc_lift.specs.Reading.{IsReadAtGaps}
use Rattle.doc_lift.proofs.FillLemmas.{HaveBinTables}

-- ---- bin tables

-- a part by the FIB of the file is that by the early FIB
pub part_is : (wd old_wd table bytes : List ℕ) (part : TablePart) → fib_fields old_wd ≡ early_fields wd (early_pairs wd) →
    bytes ≡ table_part wd table (pair_number part) → bytes ≡ table_part old_wd table (pair_number part)
part_is wd old_wd table bytes part fields is =
    is ∙ sym (ap (λ (p : ℕ × ℕ). slice_range table p.0 (p.0 + p.1)) (pair_same wd old_wd part fields))

pub both_pages : (bins : BinTables) (wd : List ℕ) → ArePagesWithin bins.characters wd →
    ArePagesWithin bins.paragraphs wd → (kind : PageKind) → ArePagesWithin (bin_table_of kind bins) wd
both_pages bins wd chars pars Chpx = chars
both_pages bins wd chars pars Papx = pars

-- the bin tables of streams, and those that are filled
pub record AreFilledBins (old_wd old_table chars pars : List ℕ) : Type 0 where
  pub characters : IsFilledBin Chpx (bin_table_of Chpx (bin_tables_of old_wd old_table)) old_wd (next_page old_wd) chars
  pub paragraphs : IsFilledBin Papx (bin_table_of Papx (bin_tables_of old_wd old_table)) old_wd (next_page old_wd) pars

pub filled_bins : (old_wd old_table c p chars pars : List ℕ) (m n : ℕ) →
    c ≡ bin_table_of Chpx (bin_tables_of old_wd old_table) → p ≡ bin_table_of Papx (bin_tables_of old_wd old_table) → m
    ≡ next_page old_wd →
    n ≡ next_page old_wd → IsFilledBin Chpx c old_wd m chars → IsFilledBin Papx p old_wd n pars →
    AreFilledBins old_wd old_table chars pars
filled_bins old_wd old_table c p chars pars m n c_is p_is m_is n_is a b = record {
  characters = subst (λ k. IsFilledBin Chpx (bin_table_of Chpx (bin_tables_of old_wd old_table)) old_wd k chars) m_is
      (subst (λ (t : List ℕ). IsFilledBin Chpx t old_wd m chars) c_is a);
  paragraphs = subst (λ k. IsFilledBin Papx (bin_table_of Papx (bin_tables_of old_wd old_table)) old_wd k pars) n_is
      (subst (λ (t : List ℕ). IsFilledBin Papx t old_wd n pars) p_is b);
}

both_filled : (old_wd old_table chars pars : List ℕ) → AreFilledBins old_wd old_table chars pars → (kind : PageKind) →
    IsFilledBin kind (bin_table_of kind (bin_tables_of old_wd old_table)) old_wd (next_page old_wd)
    (bin_table_of kind (record { characters = chars; paragraphs = pars }))
both_filled old_wd old_table chars pars are Chpx = are.characters
both_filled old_wd old_table chars pars are Papx = are.paragraphs

-- ---- streams

-- the table stream of filled streams is one
pub table_is_one : (wd old_wd old_table chars pars new_wd new_table : List ℕ) → HaveBinTables old_wd old_table →
    AreFilledBins old_wd old_table chars pars → FillsStreams wd old_wd old_table new_wd new_table →
    new_table ≡ old_table ++ (chars ++ pars)
table_is_one wd old_wd old_table chars pars new_wd new_table tables are fills =
    let bin = λ (kind : PageKind). bin_table_of kind (bin_tables_of old_wd old_table) in
    let first : fills.bins.characters ≡ chars =
    filled_bin_is_one Chpx (bin Chpx) old_wd (next_page old_wd) fills.bins.characters chars (tables Chpx)
    (fills.filled Chpx) are.characters in
    let second : fills.bins.paragraphs ≡ pars =
    filled_bin_is_one Papx (bin Papx) old_wd (next_page old_wd) fills.bins.paragraphs pars (tables Papx)
    (fills.filled Papx) are.paragraphs in
    fills.table_is ∙ (λ i. old_table ++ (first i ++ second i))

-- what functions make of streams
pub record AreMadeStreams (wd old_wd old_table chars pars : List ℕ) (pairs : List (ℕ × ℕ)) (front all : List ℕ) :
    Type 0 where
  pub bins : AreFilledBins old_wd old_table chars pars
  pub pairs_is :
      pairs ≡ filled_pairs (early_pairs wd) (length old_table) (record { characters = chars; paragraphs = pars })
  pub are : ArePairs pairs
  pub all_is : all ≡ old_table ++ (chars ++ pars)
  pub front_is : front ≡ written_fib (early_fields wd pairs) ++ drop (form_size Early) (with_empty_run old_wd)
  pub fields : fib_fields front ≡ early_fields wd pairs
  pub short : length all ≤ 7143936

pub made_filled : (wd old_wd old_table chars pars : List ℕ) (pairs : List (ℕ × ℕ)) (front all : List ℕ) →
    CanFill wd old_wd old_table → length old_wd ≤ 7143936 →
    AreMadeStreams wd old_wd old_table chars pars pairs front all → AreFilledStreams wd old_wd old_table front all
made_filled wd old_wd old_table chars pars pairs front all can old_short made =
    let bins : BinTables = record { characters = chars; paragraphs = pars } in
    let fib = early_fields wd pairs in
    let whole = with_empty_run old_wd in
    let long = length-with_empty_run old_wd in
    record {
      can = can;
      fills = record {
        bins = bins;
        filled = both_filled old_wd old_table chars pars made.bins;
        table_is = made.all_is;
        front = made.front_is ∙ ap (λ (ps : List (ℕ × ℕ)). written_fib (early_fields wd ps)
            ++ drop (form_size Early) whole) made.pairs_is;
        fields = made.fields ∙ ap (early_fields wd) made.pairs_is;
      };
      small = omega (
        arith,
        ap length made.front_is,
        length-append (written_fib fib) (drop (form_size Early) whole),
        length-written_fib fib made.are.count,
        length-drop (form_size Early) whole,
        long,
        old_short,
      );
      short = made.short;
    }

-- ---- what functions answer

-- no streams can be made
abbrev pub HasNoFilled : (wd old_wd old_table : List ℕ) → Type 0
HasNoFilled wd old_wd old_table =
    (new_wd : List ℕ) (new_table : List ℕ) → ¬ AreFilledStreams wd old_wd old_table new_wd new_table

pub streams_none : (wd old_wd old_table : List ℕ) (found : Option FilledStreams) → found ≡ None →
    MatchOption found (HasNoFilled wd old_wd old_table) (HasFilled wd old_wd old_table) →
    HasNoFilled wd old_wd old_table
streams_none wd old_wd old_table None is none = none
streams_none wd old_wd old_table (Some filled) is has = absurd (none-some filled (sym is))

pub streams_some : (wd old_wd old_table : List ℕ) (found : Option FilledStreams) (filled : FilledStreams) →
    found ≡ Some filled → MatchOption found (HasNoFilled wd old_wd old_table) (HasFilled wd old_wd old_table) →
    HasFilled wd old_wd old_table filled
streams_some wd old_wd old_table None filled is none = absurd (none-some filled is)
streams_some wd old_wd old_table (Some other) filled is has =
    subst (HasFilled wd old_wd old_table) (same_Some other filled is) has

-- no front has these units
abbrev pub HasNoFront : (wd new_wd new_table units : List ℕ) → Type 0
HasNoFront wd new_wd new_table units = (text : FileText) → ¬ IsFrontWith wd new_wd new_table units text

pub front_none : (wd new_wd new_table units : List ℕ) (found : Option FileText) → found ≡ None →
    MatchOption found (HasNoFront wd new_wd new_table units) (IsFrontWith wd new_wd new_table units) →
    HasNoFront wd new_wd new_table units
front_none wd new_wd new_table units None is none = none
front_none wd new_wd new_table units (Some text) is has = absurd (none-some text (sym is))

pub front_some : (wd new_wd new_table units : List ℕ) (found : Option FileText) (text : FileText) →
    found ≡ Some text →
    MatchOption found (HasNoFront wd new_wd new_table units) (IsFrontWith wd new_wd new_table units) →
    IsFrontWith wd new_wd new_table units text
front_some wd new_wd new_table units None text is none = absurd (none-some text is)
front_some wd new_wd new_table units (Some other) text is has =
    subst (IsFrontWith wd new_wd new_table units) (same_Some other text is) has

-- no text is filled
abbrev pub HasNoFilledText : (wd old_wd old_table units : List ℕ) → Type 0
HasNoFilledText wd old_wd old_table units = (other : FileText) → ¬ IsFilledOf wd old_wd old_table units other

pub document_none : (wd old_wd old_table units : List ℕ) (contents : Contents) (found : Option Document) →
    found ≡ None →
    MatchOption found (HasNoFilledText wd old_wd old_table units) (IsReadAtGaps wd old_wd old_table units contents) →
    HasNoFilledText wd old_wd old_table units
document_none wd old_wd old_table units contents None is none = none
document_none wd old_wd old_table units contents (Some document) is has = absurd (none-some document (sym is))

pub document_some : (wd old_wd old_table units : List ℕ) (contents : Contents) (found : Option Document)
    (document : Document) → found ≡ Some document →
    MatchOption found (HasNoFilledText wd old_wd old_table units) (IsReadAtGaps wd old_wd old_table units contents) →
    IsReadAtGaps wd old_wd old_table units contents document
document_some wd old_wd old_table units contents None document is none = absurd (none-some document is)
document_some wd old_wd old_table units contents (Some other) document is has =
    subst (IsReadAtGaps wd old_wd old_table units contents) (same_Some other document is) has
