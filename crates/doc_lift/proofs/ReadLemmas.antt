-- What is read of a text that was loaded for the one that the streams name.
use Rattle.std.specs.Prelude.{MatchOption}
use Rattle.std.proofs.Common.{◌≡◌, ◌∙◌, ◌≤◌, sym, ap, subst, refl, ℕ, List, length, Option, Some, None, arith}
use Rattle.doc_bits.specs.Rules.{Hold, given}
use Rattle.cfb_streams.specs.Contents.{Contents, HasNamed}
use Rattle.cfb_streams.specs.Names.{wd_name}
use Rattle.fib_form.specs.FibFields.{fib_fields}
use Rattle.fib_versions.specs.Versions.{all_text_length}
use Rattle.fib_versions.specs.VersionRules.{version_rules}
use Rattle.file_rules.specs.declared.fault.ReadFault.{ReadFault}
use Rattle.file_rules.specs.Faults.{IsReadFault}
use Rattle.file_rules.specs.PartRules.{part_rules}
use Rattle.file_rules.specs.FileRules.{FileText, IsFrontOf, doc_source_of, rules_of_pieces}
use Rattle.file_rules.proofs.Public.{refused-next}
use Rattle.doc_read.specs.CarriedParts.{AreWithinBounds, LeavesRoom}
use Rattle.doc_meaning.specs.Apart.{IsReadTable}
use Rattle.doc_meaning.proofs.Public.{HasFront, whole_text, front_text, front_units}
use Rattle.doc_lift.specs.declared.text_lifting.LiftedText.{LiftedText}
use Rattle.doc_lift.specs.LiftedRules.{IsLiftedSource, IsReadFor, IsSkippedText, SkipsStreams, lifted_wd}
use Rattle.doc_lift.specs.LiftedRules.{read_table_rules}
use Rattle.doc_lift.specs.LiftedTexts.{IsLiftedBy}
use Rattle.doc_lift.specs.FilledTexts.{IsReadFilled, filled_rules}
use Rattle.doc_lift.specs.Reading.{IsTextRead}
use Rattle.doc_lift.proofs.SkipLemmas.{chosen, streams_one, skipped_len}
use Rattle.doc_lift.proofs.LiftLemmas.{SaysDeletions, early_long, length-lifted_wd, stream_small, front_room}
use Rattle.doc_lift.proofs.LiftLemmas.{front_deleted, read_formed, SaysOffsets, front_offsets}
use Rattle.doc_lift.proofs.FillLemmas.{filled_layout, filled_meant, lifted_fault}

-- the front of a text of a WordDocument, and what is read in place of it
pub record IsFrontRead (contents : Contents) (wd table units : List ℕ) (text read : FileText) : Type 0 where
  pub reads : IsReadTable contents wd table
  pub version : Hold (version_rules wd)
  pub has : HasFront wd table (all_text_length wd)
  pub front : IsFrontOf (lifted_wd wd) table text units
  pub for : IsReadFor wd table units text read

pub lifted_text : (contents : Contents) (wd table units : List ℕ) (text read : FileText) (lifted : LiftedText) →
    IsFrontRead contents wd table units text read → IsReadFilled wd units contents read lifted.document →
    lifted.units.items ≡ units → SaysDeletions wd table text lifted.deleted.items →
    SaysOffsets wd table units text lifted.offsets.items → IsLiftedBy (read_table_rules wd table) contents lifted
lifted_text contents wd table units text read lifted is found units_are says named =
    let count = all_text_length wd in
    let filled = found.filled in
    let source : IsLiftedSource wd table (doc_source_of filled) = record {
      text = text;
      units = units;
      front = is.front;
      read = read;
      read_is = is.for;
      filled = filled;
      filled_is = found.filled_is;
      source_is = refl;
    } in
    record {
      hold = (is.has.hold, (doc_source_of filled, (source, found.rules)));
      text = whole_text wd is.reads.own is.front.all;
      has_text = front_text contents wd table count text units is.reads is.has is.front;
      fib = is.version;
      units = units_are ∙ front_units wd table count text units is.has is.front;
      deleted = front_deleted contents wd table count text units read lifted.deleted.items is.reads is.has is.front
          is.for (filled_layout wd units read filled found.filled_is found.rules) says;
      offsets = front_offsets contents wd table count text units read lifted.offsets.items is.reads is.has is.front
          is.for (filled_layout wd units read filled found.filled_is found.rules) named;
      means = filled_meant contents wd table count text units read filled lifted.document is.reads is.has is.front is.for
          found.filled_is found.rules found.document_is;
      formed = read_formed contents filled lifted.document found.rules found.document_is;
    }

pub refused_text : (contents : Contents) (wd table units : List ℕ) (text read : FileText) (fault : ReadFault) →
    IsFrontRead contents wd table units text read → IsReadFault (filled_rules wd units read) fault →
    IsReadFault (read_table_rules wd table) fault
refused_text contents wd table units text read fault is refused =
    refused-next (rules_of_pieces (lifted_wd wd) table (all_text_length wd)) (given (IsLiftedSource wd table)
    part_rules) fault is.has.hold (lifted_fault wd table units text read fault is.front is.for refused)

pub text_room : (contents : Contents) (wd table units : List ℕ) (text read : FileText) → AreWithinBounds contents →
    IsFrontRead contents wd table units text read → LeavesRoom contents read.table
text_room contents wd table units text read bounds is =
    front_room contents wd table (all_text_length wd) text units read bounds is.reads is.has is.front is.for

-- ---- the streams of what is read

-- a stream of the root is no longer than the longest file
stream_short : (contents : Contents) (name bytes : List ℕ) → AreWithinBounds contents →
    HasNamed contents.streams name bytes → length bytes ≤ 7143936
stream_short contents name bytes bounds named =
    let short = bounds.short named.index named.stream named.here in
    omega (arith, ap length named.same, short)

-- those in which codes are skipped
pub skipped_read : (contents : Contents) (wd table units new_wd new_table w t : List ℕ) (read : FileText) →
    AreWithinBounds contents → IsReadTable contents wd table → Hold (version_rules wd) →
    SkipsStreams wd table new_wd new_table → IsSkippedText wd table units read → w ≡ new_wd → t ≡ new_table →
    IsTextRead wd read w t
skipped_read contents wd table units new_wd new_table w t read bounds reads version skips is w_is t_is =
    let one = streams_one wd table new_wd new_table read.wd read.table skips is.streams in
    let long = early_long wd version in
    let len = skipped_len wd table new_wd new_table skips long in
    let short = stream_short contents wd_name wd bounds reads.has_wd in
    record {
      wd_is = one.wd_is ∙ sym w_is;
      table_is = one.table_is ∙ sym t_is;
      own = stream_small contents wd_name wd bounds reads.has_wd;
      long = omega (arith, long, len, ap length w_is);
      short = omega (arith, short, len, ap length w_is);
      fields = ap fib_fields w_is ∙ skips.fields;
    }

-- those in which none is
pub plain_read_streams : (contents : Contents) (wd table units w : List ℕ) (text : FileText) → AreWithinBounds contents →
    IsReadTable contents wd table → Hold (version_rules wd) → HasFront wd table (all_text_length wd) →
    IsFrontOf (lifted_wd wd) table text units → w ≡ lifted_wd wd → IsTextRead wd text w table
plain_read_streams contents wd table units w text bounds reads version has front w_is =
    let long = early_long wd version in
    let len = length-lifted_wd wd long in
    let short = stream_short contents wd_name wd bounds reads.has_wd in
    record {
      wd_is = front.wd_is ∙ sym w_is;
      table_is = front.table_is;
      own = stream_small contents wd_name wd bounds reads.has_wd;
      long = omega (arith, long, len, ap length w_is);
      short = omega (arith, short, len, ap length w_is);
      fields = ap fib_fields w_is ∙ has.fields;
    }

-- ---- what is read in place of a text

abbrev pub IsFoundText : (wd table units : List ℕ) → Option FileText → Type 0
IsFoundText wd table units found =
    MatchOption found ((other : FileText) → ¬ IsSkippedText wd table units other) (IsSkippedText wd table units)

pub found_for : (wd table units met : List ℕ) (text read other : FileText) (found : Option FileText) → met ≡ units →
    IsFoundText wd table met found → found ≡ Some other → read ≡ other → IsReadFor wd table units text read
found_for wd table units met text read other found same is there read_is =
    chosen wd table units met text read found same is
    (subst (λ (o : Option FileText). MatchOption o (read ≡ text) (λ x. read ≡ x)) (sym there) read_is)

pub none_for : (wd table units met : List ℕ) (text : FileText) (found : Option FileText) → met ≡ units →
    IsFoundText wd table met found → found ≡ None → IsReadFor wd table units text text
none_for wd table units met text found same is there =
    chosen wd table units met text text found same is
    (subst (λ (o : Option FileText). MatchOption o (text ≡ text) (λ x. text ≡ x)) (sym there) refl)

-- the skipped text that is found
pub found_skipped : (wd table units met : List ℕ) (read other : FileText) (found : Option FileText) → met ≡ units →
    IsFoundText wd table met found → found ≡ Some other → read ≡ other → IsSkippedText wd table units read
found_skipped wd table units met read other found same is there read_is =
    subst (λ (us : List ℕ). IsSkippedText wd table us read) same
    (subst (IsSkippedText wd table met) (sym read_is)
    (subst (IsFoundText wd table met) there is))
