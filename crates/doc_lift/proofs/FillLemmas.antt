-- Streams that are filled, and the text that is read of them.
use Rattle.std.specs.Prelude.{slice_range}
use Rattle.std.proofs.Common.{◌≡◌, ◌∙◌, ◌++◌, ◌+◌, sym, ap, subst, inl, inr, refl, ℕ, List}
use Rattle.std.proofs.Common.{drop, arith}
use Rattle.doc_bits.specs.Rules.{Hold, given}
use Rattle.doc_bits.specs.Places.{Upto}
use Rattle.doc_bits.proofs.Public.{hold_or_first, first_agrees}
use Rattle.cfb_streams.specs.Contents.{Contents}
use Rattle.fib_form.specs.Fib.{form_size}
use Rattle.fib_form.specs.FibBytes.{written_fib}
use Rattle.fib_form.specs.declared.form.Form.TheVariants.{Early}
use Rattle.fib_form.specs.declared.table_parts.TablePart.TheVariants.{PlcfBteChpx, PlcfBtePapx, Clx}
use Rattle.fkp_pages.specs.declared.kind.PageKind.{PageKind}
use Rattle.fkp_pages.specs.declared.kind.PageKind.TheVariants.{Chpx, Papx}
use Rattle.fkp_pages.specs.Bin.{IsBinTable}
use Rattle.fkp_gaps.specs.Filled.{next_page, with_empty_run}
use Rattle.fkp_gaps.proofs.Public.{filled_bin_is_one}
use Rattle.page_copies.specs.Pages.{BinTables, bin_table_of}
use Rattle.doc_model.specs.declared.document.Document.{Document}
use Rattle.file_rules.specs.declared.fault.ReadFault.{ReadFault}
use Rattle.file_rules.specs.declared.fault.ReadFault.TheVariants.{Refused, Memory}
use Rattle.file_rules.specs.Faults.{IsReadFault}
use Rattle.file_rules.specs.Source.{DocSource, table_part_bytes}
use Rattle.file_rules.specs.PartRules.{layout_rules, part_rules}
use Rattle.file_rules.specs.FileRules.{FileText, IsFrontOf, doc_source_of, clx_of}
use Rattle.file_rules.proofs.Public.{part_single, bin_tables, refused-given}
use Rattle.doc_read.specs.Opened.{IsReadDocument}
use Rattle.doc_meaning.specs.Skipped.{bin_tables_of}
use Rattle.doc_meaning.specs.Meaning.{MeansFrom}
use Rattle.doc_meaning.specs.Apart.{IsReadTable}
use Rattle.doc_meaning.specs.Filled.{BreaksAtGap, FillsStreams, HasFilledStreams, IsGapRule, filled_fields}
use Rattle.doc_meaning.proofs.Public.{pair_same, HasFront, whole_text, front_text, IsPair, layout_holds, bytes_kept}
use Rattle.doc_meaning.proofs.Public.{filled_is_meant}
use Rattle.doc_lift.specs.LiftedRules.{IsLiftedSource, IsReadFor, lifted_wd}
use Rattle.doc_lift.specs.FilledTexts.{AreFilledStreams, IsFrontWith, IsFilledOf, IsFilledText, IsFilledRead}
use Rattle.doc_lift.specs.FilledTexts.{IsReadFilled, filled_rules}
use Rattle.doc_lift.specs.Reading.{IsGapFault, IsReadAtGaps, IsRefusedAtGap}
use Rattle.doc_lift.proofs.SkipLemmas.{AreOneStreams, KeepsText, read_part, read_loaded_for, text_kept}
use Rattle.doc_lift.proofs.LiftLemmas.{front_meant}

-- ---- one way to fill

-- the bin tables of streams are tables
abbrev pub HaveBinTables : (wd table : List ℕ) → Type 0
HaveBinTables wd table = (kind : PageKind) → IsBinTable (bin_table_of kind (bin_tables_of wd table))

tables_of : (source : DocSource) → IsBinTable (table_part_bytes source PlcfBteChpx) × IsBinTable (table_part_bytes
    source PlcfBtePapx) →
    HaveBinTables source.wd source.table
tables_of source both Chpx = both.0
tables_of source both Papx = both.1

-- where a gap breaks the first broken rule they are
pub gap_bins : (source : DocSource) → BreaksAtGap source → HaveBinTables source.wd source.table
gap_bins source gap = tables_of source (bin_tables source (layout_holds source gap).1)

pub fills_one : (wd old_wd old_table a_wd a_table b_wd b_table : List ℕ) → HaveBinTables old_wd old_table →
    FillsStreams wd old_wd old_table a_wd a_table → FillsStreams wd old_wd old_table b_wd b_table →
    AreOneStreams a_wd a_table b_wd b_table
fills_one wd old_wd old_table a_wd a_table b_wd b_table tables a b =
    let bin = λ (kind : PageKind). bin_table_of kind (bin_tables_of old_wd old_table) in
    let chars : b.bins.characters ≡ a.bins.characters =
    filled_bin_is_one Chpx (bin Chpx) old_wd (next_page old_wd) b.bins.characters a.bins.characters (tables Chpx)
    (b.filled Chpx) (a.filled Chpx) in
    let pars : b.bins.paragraphs ≡ a.bins.paragraphs =
    filled_bin_is_one Papx (bin Papx) old_wd (next_page old_wd) b.bins.paragraphs a.bins.paragraphs (tables Papx)
    (b.filled Papx) (a.filled Papx) in
    let bins : b.bins ≡ a.bins = λ i. record { characters = chars i; paragraphs = pars i } in
    record {
      wd_is = b.front
          ∙ (ap (λ (t : BinTables). written_fib (filled_fields wd old_table t)
          ++ drop (form_size Early) (with_empty_run old_wd)) bins ∙ sym a.front);
      table_is = b.table_is
          ∙ (ap (λ (t : BinTables). old_table ++ (t.characters ++ t.paragraphs)) bins ∙ sym a.table_is);
    }

-- ---- the text that is read

-- the rules 33 to 38 hold of the text that is filled
pub filled_layout : (wd units : List ℕ) (read filled : FileText) → IsFilledRead wd units read filled →
    Hold (part_rules (doc_source_of filled)) → Hold (layout_rules (doc_source_of read))
filled_layout wd units read filled (inl is) hold = layout_holds (doc_source_of read) is.gap
filled_layout wd units read filled (inr plain) hold =
    (subst (λ (t : FileText). Hold (part_rules (doc_source_of t))) plain.1 hold).0

pub read_layout : (wd table : List ℕ) (source : DocSource) (is : IsLiftedSource wd table source) →
    Hold (part_rules source) → Hold (layout_rules (doc_source_of is.read))
read_layout wd table source is hold =
    filled_layout wd is.units is.read is.filled is.filled_is
    (subst (λ (s : DocSource). Hold (part_rules s)) is.source_is hold)

-- ---- what a filled text means

filled_streams : (wd units : List ℕ) (read filled : FileText) → IsFilledText wd units (doc_source_of read) filled →
    HasFilledStreams wd read filled
filled_streams wd units read filled is = record {
  gap = is.gap;
  can = is.is.streams.can;
  fills = is.is.streams.fills;
  small = is.is.streams.small;
}

filled_text_kept : (wd table : List ℕ) (text_len : ℕ) (text : FileText) (units : List ℕ) (read filled : FileText) →
    HasFront wd table text_len → (front : IsFrontOf (lifted_wd wd) table text units) →
    IsReadFor wd table units text read → IsFilledText wd units (doc_source_of read) filled →
    KeepsText (whole_text wd table front.all) filled
filled_text_kept wd table text_len text units read filled has front for is =
    let whole = whole_text wd table front.all in
    let pair : IsPair whole read filled = record {
      load = read_loaded_for wd table text_len text units read has front for;
      fill = filled_streams wd units read filled is;
    } in
    let own = read_part wd table units text read Clx has.fields front for (λ e. absurd (omega (arith, e))) in
    let clx : clx_of filled.wd filled.table ≡ clx_of (lifted_wd wd) table =
    bytes_kept whole read filled Clx pair (λ e. absurd (omega (arith, e))) (λ e. absurd (omega (arith, e)))
    ∙ (own.bytes
    ∙ sym (ap (λ (p : ℕ × ℕ). slice_range table p.0 (p.0 + p.1)) (pair_same wd (lifted_wd wd) Clx has.fields))) in
    text_kept wd table text_len text units filled has front is.is.text.front clx

pub filled_meant : (contents : Contents) (wd table : List ℕ) (text_len : ℕ) (text : FileText) (units : List ℕ)
    (read filled : FileText) (document : Document) → IsReadTable contents wd table → HasFront wd table text_len →
    IsFrontOf (lifted_wd wd) table text units → IsReadFor wd table units text read →
    IsFilledRead wd units read filled → Hold (part_rules (doc_source_of filled)) → IsReadDocument contents filled
    document →
    MeansFrom contents document
filled_meant contents wd table text_len text units read filled document reads has front for (inr plain) hold from =
    front_meant contents wd table text_len text units read document reads has front for
    (subst (λ (t : FileText). Hold (part_rules (doc_source_of t))) plain.1 hold)
    (subst (λ (t : FileText). IsReadDocument contents t document) plain.1 from)
filled_meant contents wd table text_len text units read filled document reads has front for (inl is) hold from =
    let kept = filled_text_kept wd table text_len text units read filled has front for is in
    filled_is_meant contents (whole_text wd reads.own front.all) table read filled from.lists document
    (front_text contents wd table text_len text units reads has front) reads.clx
    (read_loaded_for wd table text_len text units read has front for)
    (record {
      streams = filled_streams wd units read filled is;
      places = kept.places;
      units = kept.units;
    }) hold from.has_lists from.document_is

-- ---- how it is read

-- where the rules hold nothing is filled
pub plain_read : (wd units : List ℕ) (contents : Contents) (read : FileText) (document : Document) →
    Hold (part_rules (doc_source_of read)) → IsReadDocument contents read document →
    IsReadFilled wd units contents read document
plain_read wd units contents read document hold from = record {
  filled = read;
  filled_is = inr (
    λ other is. hold_or_first Upto (part_rules (doc_source_of read)) is.gap.number is.gap.place
        (part_single (doc_source_of read)) hold is.gap.first,
    refl,
  );
  rules = hold;
  document_is = from;
}

-- and where another rule is broken first
pub plain_refused : (wd units : List ℕ) (read : FileText) (fault : ReadFault) →
    IsReadFault (part_rules (doc_source_of read)) fault → ¬ IsGapFault fault →
    IsReadFault (filled_rules wd units read) fault
plain_refused wd units read (Refused number part offset) refused none =
    refused-given (IsFilledRead wd units read) (λ (t : FileText). part_rules (doc_source_of t)) read
    (Refused number part offset)
    (inr (
      λ other is.
          let same = first_agrees Upto (part_rules (doc_source_of read)) is.gap.number number is.gap.place (
            part,
            offset,
          )
          (part_single (doc_source_of read)) is.gap.first refused in
          none (subst IsGapRule same.0 is.gap.gap),
      refl,
    )) refused
plain_refused wd units read Memory refused none = tt

-- a refusal that names such a rule
pub gap_of : (source : DocSource) (fault : ReadFault) → IsReadFault (part_rules source) fault → IsGapFault fault →
    BreaksAtGap source
gap_of source (Refused number part offset) refused gap =
    record { number = number; place = (part, offset); first = refused; gap = gap }
gap_of source Memory refused gap = absurd gap

-- what is said of the streams of a text is said of those that it was loaded from
at_streams : (P : List ℕ → List ℕ → Type 0) (read : FileText) (wd table : List ℕ) → read.wd ≡ wd → read.table ≡ table →
    P wd table → P read.wd read.table
at_streams P read wd table wd_is table_is p =
    subst (λ (t : List ℕ). P read.wd t) (sym table_is) (subst (λ (w : List ℕ). P w table) (sym wd_is) p)

pub to_streams : (P : List ℕ → List ℕ → Type 0) (read : FileText) (wd table : List ℕ) → read.wd ≡ wd →
    read.table ≡ table → P read.wd read.table → P wd table
to_streams P read wd table wd_is table_is p =
    subst (λ (t : List ℕ). P wd t) table_is (subst (λ (w : List ℕ). P w read.table) wd_is p)

pub gap_read : (wd units old_wd old_table : List ℕ) (contents : Contents) (read : FileText) (document : Document) →
    read.wd ≡ old_wd → read.table ≡ old_table → BreaksAtGap (doc_source_of read) →
    IsReadAtGaps wd old_wd old_table units contents document → IsReadFilled wd units contents read document
gap_read wd units old_wd old_table contents read document wd_is table_is gap found = record {
  filled = found.filled;
  filled_is = inl (record {
    gap = gap;
    is = at_streams (λ w t. IsFilledOf wd w t units found.filled) read old_wd old_table wd_is table_is found.is;
  });
  rules = found.rules;
  document_is = found.document_is;
}

-- a filled text that is refused
pub gap_refused : (wd units old_wd old_table : List ℕ) (read : FileText) (fault : ReadFault) → read.wd ≡ old_wd →
    read.table ≡ old_table → BreaksAtGap (doc_source_of read) → IsRefusedAtGap wd old_wd old_table units fault →
    IsReadFault (filled_rules wd units read) fault
gap_refused wd units old_wd old_table read fault wd_is table_is gap (inl is) =
    refused-given (IsFilledRead wd units read) (λ (t : FileText). part_rules (doc_source_of t)) is.filled fault
    (inl (record {
      gap = gap;
      is = at_streams (λ w t. IsFilledOf wd w t units is.filled) read old_wd old_table wd_is table_is is.is;
    })) is.refused
gap_refused wd units old_wd old_table read fault wd_is table_is gap (inr none) =
    subst (IsReadFault (filled_rules wd units read)) (sym none) tt

-- a text of which nothing is filled stays refused
pub gap_stays : (wd units old_wd old_table : List ℕ) (read : FileText) (fault : ReadFault) → read.wd ≡ old_wd →
    read.table ≡ old_table → IsReadFault (part_rules (doc_source_of read)) fault →
    ((other : FileText) → ¬ IsFilledOf wd old_wd old_table units other) → IsReadFault (filled_rules wd units read) fault
gap_stays wd units old_wd old_table read fault wd_is table_is refused none =
    refused-given (IsFilledRead wd units read) (λ (t : FileText). part_rules (doc_source_of t)) read fault
    (inr (
      λ other is. at_streams (λ w t. ¬ IsFilledOf wd w t units other) read old_wd old_table wd_is table_is
          (none other) is.is,
      refl,
    )) refused

-- the rules of the layer above
pub lifted_fault : (wd table units : List ℕ) (text read : FileText) (fault : ReadFault) →
    IsFrontOf (lifted_wd wd) table text units → IsReadFor wd table units text read →
    IsReadFault (filled_rules wd units read) fault → IsReadFault (given (IsLiftedSource wd table) part_rules) fault
lifted_fault wd table units text read (Refused number part offset) front for refused = (
  doc_source_of refused.0,
  (
    record {
      text = text;
      units = units;
      front = front;
      read = read;
      read_is = for;
      filled = refused.0;
      filled_is = refused.1.0;
      source_is = refl;
    },
    refused.1.1,
  ),
)
lifted_fault wd table units text read Memory front for refused = tt

-- ---- no filled text

pub no_streams : (wd old_wd old_table units : List ℕ) →
    ((new_wd new_table : List ℕ) → ¬ AreFilledStreams wd old_wd old_table new_wd new_table) → (other : FileText) →
    ¬ IsFilledOf wd old_wd old_table units other
no_streams wd old_wd old_table units none other is = none other.wd other.table is.streams

pub no_front : (wd old_wd old_table new_wd new_table units : List ℕ) → HaveBinTables old_wd old_table →
    AreFilledStreams wd old_wd old_table new_wd new_table →
    ((text : FileText) → ¬ IsFrontWith wd new_wd new_table units text) → (other : FileText) →
    ¬ IsFilledOf wd old_wd old_table units other
no_front wd old_wd old_table new_wd new_table units tables are none other is =
    let one = fills_one wd old_wd old_table new_wd new_table other.wd other.table tables are.fills is.streams.fills in
    none other
    (subst (λ (t : List ℕ). IsFrontWith wd new_wd t units other) one.table_is
    (subst (λ (w : List ℕ). IsFrontWith wd w other.table units other) one.wd_is is.text))

-- the text of filled streams
pub filled_found : (wd old_wd old_table new_wd new_table units : List ℕ) (text : FileText) →
    AreFilledStreams wd old_wd old_table new_wd new_table → IsFrontWith wd new_wd new_table units text →
    IsFilledOf wd old_wd old_table units text
filled_found wd old_wd old_table new_wd new_table units text are front = record {
  streams = at_streams (λ w t. AreFilledStreams wd old_wd old_table w t) text new_wd new_table front.front.wd_is
      front.front.table_is are;
  text = at_streams (λ w t. IsFrontWith wd w t units text) text new_wd new_table front.front.wd_is
      front.front.table_is front;
}
