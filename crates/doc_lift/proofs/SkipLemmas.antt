-- Streams in which the codes that are not read are skipped, and the text that is read of them.
use Rattle.std.specs.Prelude.{slice_get, slice_range, MatchOption}
use Rattle.std.proofs.Common.{◌≡◌, ◌∙◌, ◌++◌, ◌+◌, ◌≤◌, sym, ap, subst, inl, inr, ℕ, List, []}
use Rattle.std.proofs.Common.{length, map, take, drop, Option, Some, None, arith}
use Rattle.std.proofs.lemmas.List.{length-append, length-drop}
use Rattle.doc_bits.specs.declared.places.Where.{Where}
use Rattle.doc_bits.specs.Rules.{Rules, Hold, IsSingle}
use Rattle.doc_bits.specs.Places.{Place, Upto}
use Rattle.doc_bits.proofs.Public.{hold_or_first, get-map, slice_get-take, length-range}
use Rattle.prl_skips.proofs.Public.{put_length}
use Rattle.fib_form.specs.Fib.{form_size, fib_pair, table_part}
use Rattle.fib_form.specs.FibFields.{FibFields, fib_fields, text_length}
use Rattle.fib_form.specs.FibBytes.{written_fib}
use Rattle.fib_form.specs.TableParts.{pair_number}
use Rattle.fib_form.specs.declared.form.Form.TheVariants.{Early}
use Rattle.fib_form.specs.declared.table_parts.TablePart.{TablePart}
use Rattle.fib_form.specs.declared.table_parts.TablePart.TheVariants.{PlcfBteChpx, PlcfBtePapx, Clx}
use Rattle.fib_form.proofs.Public.{length-written_fib, drop_front}
use Rattle.fib_versions.specs.Early.{early_pairs, early_fields}
use Rattle.fib_versions.specs.Versions.{all_text_length}
use Rattle.piece_table.specs.Piece.{TextPiece, UnitPlace, flat_pieces}
use Rattle.piece_table.specs.Clx.{IsClx}
use Rattle.piece_table.proofs.Public.{clx_pieces_one}
use Rattle.page_copies.specs.Pages.{BinTables, SkipsPages}
use Rattle.page_copies.proofs.Public.{pages_one}
use Rattle.part_skips.proofs.Public.{puts_sheet_one}
use Rattle.file_rules.specs.declared.fault.ReadFault.{ReadFault}
use Rattle.file_rules.specs.declared.fault.ReadFault.TheVariants.{Refused}
use Rattle.file_rules.specs.Faults.{IsReadFault}
use Rattle.file_rules.specs.Units.{unit_at, text_units}
use Rattle.file_rules.specs.Source.{part_place, table_part_bytes}
use Rattle.file_rules.specs.FormatRules.{text_count}
use Rattle.file_rules.specs.FileRules.{FileText, IsFrontOf, doc_source_of, clx_of, rules_of_pieces}
use Rattle.doc_meaning.specs.Skipped.{SkipsTable, KeepsSepxs, bin_tables_of, plcf_sed, sheet_from, sheet_to}
use Rattle.doc_meaning.specs.Lifted.{IsOtherPart, KeepsPlaces, KeepsUnits}
use Rattle.doc_meaning.specs.Loaded.{KeepsTable, IsLoadedFor}
use Rattle.doc_meaning.proofs.Public.{pair_same, table_part_kept, HasFront, whole_text, front_get, front_loaded}
use Rattle.doc_meaning.proofs.Public.{front_units}
use Rattle.doc_lift.specs.LiftedRules.{lifted_wd, SkipsStreams, IsSkippedText, IsReadFor}
use Rattle.fib_versions.proofs.Public.{length-early_pairs}

-- ---- one way to skip

table_one : (pairs : List (ℕ × ℕ)) (old a b : List ℕ) → SkipsTable pairs old a → SkipsTable pairs old b → a ≡ b
table_one pairs old a b (inl one) (inl other) =
    puts_sheet_one (sheet_from pairs) (sheet_to pairs) old a b one.puts other.puts
table_one pairs old a b (inl one) (inr stays) = absurd (stays.0 one.first)
table_one pairs old a b (inr stays) (inl other) = absurd (stays.0 other.first)
table_one pairs old a b (inr one) (inr other) = one.1 ∙ sym other.1

-- the streams are one
pub record AreOneStreams (wd table other_wd other_table : List ℕ) : Type 0 where
  pub wd_is : other_wd ≡ wd
  pub table_is : other_table ≡ table

pub streams_one : (wd table a_wd a_table b_wd b_table : List ℕ) → SkipsStreams wd table a_wd a_table →
    SkipsStreams wd table b_wd b_table → AreOneStreams a_wd a_table b_wd b_table
streams_one wd table a_wd a_table b_wd b_table a b =
    let pages = pages_one (bin_tables_of wd table) wd b.pages a.pages b.skips a.skips in
    let front = written_fib (early_fields wd (early_pairs wd)) in
    record {
      wd_is = b.front ∙ (ap (λ (p : List ℕ). front ++ drop (form_size Early) p) pages ∙ sym a.front);
      table_is = table_one (early_pairs wd) table b_table a_table b.table_is a.table_is;
    }

-- ---- lengths

pub skipped_len : (wd table new_wd new_table : List ℕ) → SkipsStreams wd table new_wd new_table →
    form_size Early ≤ length wd → length new_wd ≡ length wd
skipped_len wd table new_wd new_table skips long =
    let fib = early_fields wd (early_pairs wd) in
    omega (
      arith,
      long,
      ap length skips.front,
      length-append (written_fib fib) (drop (form_size Early) skips.pages),
      length-written_fib fib (length-early_pairs wd),
      length-drop (form_size Early) skips.pages,
      skips.skips.len,
    )

pub table_len : (pairs : List (ℕ × ℕ)) (old new : List ℕ) → SkipsTable pairs old new → length new ≡ length old
table_len pairs old new (inr stays) = ap length stays.1
table_len pairs old new (inl skips) =
    let from = sheet_from pairs in
    let to = sheet_to pairs in
    let within = skips.first.within in
    put_length old new skips.puts.sheet from to (omega arith) within
    (skips.puts.len ∙ length-range old from to within) skips.puts.put

-- ---- parts

kept_table : (wd table new : List ℕ) (pieces : List TextPiece) → SkipsTable (early_pairs wd) table new →
    KeepsTable (whole_text wd table pieces) new
kept_table wd table new pieces (inl skips) = inl skips
kept_table wd table new pieces (inr stays) = inr stays.1

-- a part by the pair of the file, where a FIB has the fields of the early form
pub skipped_part : (wd table new_wd new_table : List ℕ) (part : TablePart) →
    fib_fields new_wd ≡ early_fields wd (early_pairs wd) → SkipsTable (early_pairs wd) table new_table → IsOtherPart
    part →
    table_part new_wd new_table (pair_number part) ≡ table_part wd table (pair_number part)
skipped_part wd table new_wd new_table part fields skips other =
    ap (λ (p : ℕ × ℕ). slice_range new_table p.0 (p.0 + p.1)) (pair_same wd new_wd part fields)
    ∙ table_part_kept (whole_text wd table []) new_table part (kept_table wd table new_table [] skips) other

-- where a part begins and which bytes it has, in what is read
pub record ReadsPart (wd table : List ℕ) (read : FileText) (part : TablePart) : Type 0 where
  pub place : part_place (doc_source_of read) part ≡ (fib_pair wd (pair_number part)).0
  pub bytes : table_part_bytes (doc_source_of read) part ≡ table_part wd table (pair_number part)

pub read_part : (wd table units : List ℕ) (text read : FileText) (part : TablePart) →
    fib_fields (lifted_wd wd) ≡ early_fields wd (early_pairs wd) → IsFrontOf (lifted_wd wd) table text units →
    IsReadFor wd table units text read → IsOtherPart part → ReadsPart wd table read part
read_part wd table units text read part fields front (inl skips) other = record {
  place = ap (λ (p : ℕ × ℕ). p.0) (pair_same wd read.wd part skips.streams.fields);
  bytes = skipped_part wd table read.wd read.table part skips.streams.fields skips.streams.table_is other;
}
read_part wd table units text read part fields front (inr plain) other =
    let wd_is : read.wd ≡ lifted_wd wd = ap (λ (t : FileText). t.wd) plain.1 ∙ front.wd_is in
    let table_is : read.table ≡ table = ap (λ (t : FileText). t.table) plain.1 ∙ front.table_is in
    let pair : fib_pair read.wd (pair_number part) ≡ fib_pair wd (pair_number part) =
    ap (λ (w : List ℕ). fib_pair w (pair_number part)) wd_is ∙ pair_same wd (lifted_wd wd) part fields in
    record {
      place = ap (λ (p : ℕ × ℕ). p.0) pair;
      bytes = ap (λ (p : ℕ × ℕ). slice_range read.table p.0 (p.0 + p.1)) pair
          ∙ ap (λ (t : List ℕ). table_part wd t (pair_number part)) table_is;
    }

-- ---- pieces and units

-- the pieces of two loaded fronts of the same Clx are one
pub pieces_one : (wd table other_wd other_table units others : List ℕ) (text other : FileText)
    (one : IsFrontOf wd table text units) (two : IsFrontOf other_wd other_table other others) →
    clx_of other_wd other_table ≡ clx_of wd table → two.all ≡ one.all
pieces_one wd table other_wd other_table units others text other one two same =
    clx_pieces_one (clx_of wd table) two.all one.all (subst (λ b. IsClx b two.all) same two.has_pieces) one.has_pieces

-- so are the units of two fronts of the same streams
pub units_one : (wd table other_wd other_table units others : List ℕ) (text other : FileText) →
    IsFrontOf wd table text units → IsFrontOf other_wd other_table other others →
    AreOneStreams wd table other_wd other_table → others ≡ units
units_one wd table other_wd other_table units others text other one two streams =
    let wd_is = streams.wd_is in
    let table_is = streams.table_is in
    let clx : clx_of other_wd other_table ≡ clx_of wd table = λ i. clx_of (wd_is i) (table_is i) in
    let all = pieces_one wd table other_wd other_table units others text other one two clx in
    two.units_are ∙ ((λ i. text_units (wd_is i) (all i)) ∙ sym one.units_are)

some_one : (x y : ℕ) → Some x ≡ Some y → x ≡ y
some_one x y same = cc same

-- the front of a Clx that is the same has the places and the units of the text that the streams name
pub record KeepsText (old new : FileText) : Type 0 where
  pub places : KeepsPlaces old.pieces new.pieces (text_count (doc_source_of new))
  pub units : KeepsUnits old new (text_count (doc_source_of new))

pub text_kept : (wd table : List ℕ) (text_len : ℕ) (text : FileText) (units : List ℕ) (read : FileText) →
    HasFront wd table text_len → (front : IsFrontOf (lifted_wd wd) table text units) →
    IsFrontOf read.wd read.table read units → clx_of read.wd read.table ≡ clx_of (lifted_wd wd) table →
    KeepsText (whole_text wd table front.all) read
text_kept wd table text_len text units read has front own clx =
    let all : own.all ≡ front.all =
    pieces_one (lifted_wd wd) table read.wd read.table units units text read front own clx in
    let flat = flat_pieces front.all in
    let count = text_length (fib_fields read.wd).ccps in
    let places_are : flat_pieces read.pieces ≡ take count flat =
    own.front ∙ ap (λ (ps : List TextPiece). take count (flat_pieces ps)) all in
    let few : text_count (doc_source_of read) ≤ count = omega arith in
    let units_are : map (unit_at read.wd) flat ≡ map (unit_at wd) flat =
    sym (ap (text_units read.wd) all) ∙ (sym own.units_are
    ∙ front_units wd table text_len text units has front) in
    record {
      places = λ cp below.
          ap (λ (places : List UnitPlace). slice_get places cp) places_are
          ∙ front_get flat count cp (omega (arith, below, few));
      units = λ cp place below here.
          let there : slice_get flat cp ≡ Some place =
          slice_get-take count flat cp place (sym (ap (λ (places : List UnitPlace). slice_get places cp) places_are)
          ∙ here) in
          some_one (unit_at read.wd place) (unit_at wd place)
          (sym (get-map (unit_at read.wd) flat cp place there)
          ∙ (ap (λ (us : List ℕ). slice_get us cp) units_are ∙ get-map (unit_at wd) flat cp place there));
    }

-- a skipped text is loaded in place of the one that the streams name
pub skipped_loaded : (wd table : List ℕ) (text_len : ℕ) (text : FileText) (units : List ℕ)
    (read : FileText) → HasFront wd table text_len → (front : IsFrontOf (lifted_wd wd) table text units) →
    IsSkippedText wd table units read → IsLoadedFor (whole_text wd table front.all) read
skipped_loaded wd table text_len text units read has front is =
    let streams = is.streams in
    let early = early_fields wd (early_pairs wd) in
    let clx : clx_of read.wd read.table ≡ clx_of (lifted_wd wd) table =
    skipped_part wd table read.wd read.table Clx streams.fields streams.table_is (λ e. absurd (omega (arith, e)))
    ∙ sym (ap (λ (p : ℕ × ℕ). slice_range table p.0 (p.0 + p.1)) (pair_same wd (lifted_wd wd) Clx has.fields)) in
    let kept = text_kept wd table text_len text units read has front is.front clx in
    record {
      pages = streams.pages;
      kept_pages = inl streams.skips;
      behind = ap (drop (form_size Early)) streams.front
          ∙ drop_front (written_fib early) (drop (form_size Early) streams.pages) (form_size Early)
          (length-written_fib early (length-early_pairs wd));
      fields = streams.fields;
      table = kept_table wd table read.table front.all streams.table_is;
      places = kept.places;
      units = kept.units;
      sepxs = is.sepxs;
    }

pub read_loaded_for : (wd table : List ℕ) (text_len : ℕ) (text : FileText) (units : List ℕ)
    (read : FileText) → HasFront wd table text_len → (front : IsFrontOf (lifted_wd wd) table text units) →
    IsReadFor wd table units text read → IsLoadedFor (whole_text wd table front.all) read
read_loaded_for wd table text_len text units read has front (inl skips) =
    skipped_loaded wd table text_len text units read has front skips
read_loaded_for wd table text_len text units read has front (inr plain) =
    subst (IsLoadedFor (whole_text wd table front.all)) (sym plain.1)
    (front_loaded wd table text_len text units has front)

pub read_table_len : (wd table units : List ℕ) (text read : FileText) → IsFrontOf (lifted_wd wd) table text units →
    IsReadFor wd table units text read → length read.table ≡ length table
read_table_len wd table units text read front (inl skips) =
    table_len (early_pairs wd) table read.table skips.streams.table_is
read_table_len wd table units text read front (inr plain) =
    ap length (ap (λ (t : FileText). t.table) plain.1 ∙ front.table_is)

-- ---- whether there is a skipped text

-- what is said of streams is said of those of a text
at_text : (P : List ℕ → List ℕ → Type 0) (wd table units : List ℕ) (text : FileText) → IsFrontOf wd table text units →
    P wd table → P text.wd text.table
at_text P wd table units text front p =
    subst (λ (t : List ℕ). P text.wd t) (sym front.table_is) (subst (λ (w : List ℕ). P w table) (sym front.wd_is) p)

pub skipped_found : (wd table new_wd new_table units : List ℕ) (text : FileText) →
    SkipsStreams wd table new_wd new_table → Hold (rules_of_pieces new_wd new_table (all_text_length wd)) →
    IsFrontOf new_wd new_table text units → KeepsSepxs (plcf_sed wd table) wd new_wd →
    IsSkippedText wd table units text
skipped_found wd table new_wd new_table units text skips rules front sepxs = record {
  streams = at_text (SkipsStreams wd table) new_wd new_table units text front skips;
  rules = at_text (λ w t. Hold (rules_of_pieces w t (all_text_length wd))) new_wd new_table units text front rules;
  front = at_text (λ w t. IsFrontOf w t text units) new_wd new_table units text front front;
  sepxs = at_text (λ w t. KeepsSepxs (plcf_sed wd table) wd w) new_wd new_table units text front sepxs;
}

-- a skipped text has the units and the Sepxs that the loaded front of the skipped streams has
pub skipped_keeps : (wd table new_wd new_table units found_units : List ℕ) (found text : FileText) →
    SkipsStreams wd table new_wd new_table → IsFrontOf new_wd new_table found found_units →
    IsSkippedText wd table units text → (found_units ≡ units) × KeepsSepxs (plcf_sed wd table) wd new_wd
skipped_keeps wd table new_wd new_table units found_units found text skips front is =
    let one = streams_one wd table text.wd text.table new_wd new_table is.streams skips in (
      units_one text.wd text.table new_wd new_table units found_units text found is.front front one,
      subst (KeepsSepxs (plcf_sed wd table) wd) (sym one.wd_is) is.sepxs,
    )

-- and breaks none of the rules 26 to 32
pub skipped_holds : (wd table new_wd new_table units : List ℕ) (text : FileText) →
    SkipsStreams wd table new_wd new_table → IsSkippedText wd table units text →
    Hold (rules_of_pieces new_wd new_table (all_text_length wd))
skipped_holds wd table new_wd new_table units text skips is =
    let one = streams_one wd table text.wd text.table new_wd new_table is.streams skips in
    subst (λ (t : List ℕ). Hold (rules_of_pieces new_wd t (all_text_length wd))) (sym one.table_is)
    (subst (λ (w : List ℕ). Hold (rules_of_pieces w text.table (all_text_length wd))) (sym one.wd_is) is.rules)

-- ---- what functions make

pub pages_skipped : (wd table fib old new chars pars : List ℕ) → fib ≡ wd →
    chars ≡ table_part fib table (pair_number PlcfBteChpx) → pars ≡ table_part fib table (pair_number PlcfBtePapx) → old
    ≡ wd →
    SkipsPages (record { characters = chars; paragraphs = pars }) old new → SkipsPages (bin_tables_of wd table) wd new
pages_skipped wd table fib old new chars pars same chars_is pars_is old_is skips =
    let first : chars ≡ table_part wd table (pair_number PlcfBteChpx) =
    chars_is ∙ ap (λ (w : List ℕ). table_part w table (pair_number PlcfBteChpx)) same in
    let second : pars ≡ table_part wd table (pair_number PlcfBtePapx) =
    pars_is ∙ ap (λ (w : List ℕ). table_part w table (pair_number PlcfBtePapx)) same in
    let bins : BinTables = record { characters = chars; paragraphs = pars } in
    let both : bins ≡ bin_tables_of wd table = λ i. record { characters = first i; paragraphs = second i } in
    subst (λ (o : List ℕ). SkipsPages (bin_tables_of wd table) o new) old_is
    (subst (λ (b : BinTables). SkipsPages b old new) both skips)

-- pages with an early FIB in front
pub front_skipped : (wd table fib pages front sheet : List ℕ) (early : FibFields) → fib ≡ wd →
    early ≡ early_fields fib (early_pairs fib) → SkipsPages (bin_tables_of wd table) wd pages →
    front ≡ written_fib early ++ drop (form_size early.form) pages → fib_fields front ≡ early →
    SkipsTable early.pairs table sheet → SkipsStreams wd table front sheet
front_skipped wd table fib pages front sheet early same early_is skips bytes fields table_is =
    let is : early ≡ early_fields wd (early_pairs wd) =
    early_is ∙ ap (λ (w : List ℕ). early_fields w (early_pairs w)) same in
    record {
      pages = pages;
      skips = skips;
      front = bytes ∙ ap (λ (f : FibFields). written_fib f ++ drop (form_size f.form) pages) is;
      fields = fields ∙ is;
      table_is = subst (λ (f : FibFields). SkipsTable f.pairs table sheet) is table_is;
    }

-- what is read is the text that is found, or the other one
pub chosen : (wd table units met : List ℕ) (text read : FileText) (found : Option FileText) → met ≡ units →
    MatchOption found ((other : FileText) → ¬ IsSkippedText wd table met other) (IsSkippedText wd table met) →
    MatchOption found (read ≡ text) (λ other. read ≡ other) → IsReadFor wd table units text read
chosen wd table units met text read None same none is =
    inr (subst (λ (us : List ℕ). (other : FileText) → ¬ IsSkippedText wd table us other) same none, is)
chosen wd table units met text read (Some other) same skips is =
    inl (subst (λ (us : List ℕ). IsSkippedText wd table us read) same
    (subst (IsSkippedText wd table met) (sym is) skips))

-- the streams and the length with which a text is loaded are those of skipped streams
pub record AreLoaded (wd new_wd new_table w t : List ℕ) (len : ℕ) : Type 0 where
  pub wd_is : w ≡ new_wd
  pub table_is : t ≡ new_table
  pub len_is : len ≡ all_text_length wd

-- a front that is loaded of them
pub loaded_front : (wd new_wd new_table w t : List ℕ) (len : ℕ) (text : FileText) (found : List ℕ) →
    AreLoaded wd new_wd new_table w t len → IsFrontOf w t text found → IsFrontOf new_wd new_table text found
loaded_front wd new_wd new_table w t len text found are front =
    subst (λ (b : List ℕ). IsFrontOf new_wd b text found) are.table_is
    (subst (λ (b : List ℕ). IsFrontOf b t text found) are.wd_is front)

pub loaded_rules : (wd new_wd new_table w t : List ℕ) (len : ℕ) → AreLoaded wd new_wd new_table w t len →
    Hold (rules_of_pieces w t len) → Hold (rules_of_pieces new_wd new_table (all_text_length wd))
loaded_rules wd new_wd new_table w t len are hold =
    subst (λ n. Hold (rules_of_pieces new_wd new_table n)) are.len_is
    (subst (λ (b : List ℕ). Hold (rules_of_pieces new_wd b len)) are.table_is
    (subst (λ (b : List ℕ). Hold (rules_of_pieces b t len)) are.wd_is hold))

pub rules_loaded : (wd new_wd new_table w t : List ℕ) (len : ℕ) → AreLoaded wd new_wd new_table w t len →
    Hold (rules_of_pieces new_wd new_table (all_text_length wd)) → Hold (rules_of_pieces w t len)
rules_loaded wd new_wd new_table w t len are hold =
    subst (λ n. Hold (rules_of_pieces w t n)) (sym are.len_is)
    (subst (λ (b : List ℕ). Hold (rules_of_pieces w b (all_text_length wd))) (sym are.table_is)
    (subst (λ (b : List ℕ). Hold (rules_of_pieces b new_table (all_text_length wd))) (sym are.wd_is) hold))

-- what is compared is that of the file and of the skipped stream
pub record AreCompared (wd table new_wd found sections nw met : List ℕ) : Type 0 where
  pub sections_are : sections ≡ plcf_sed wd table
  pub wd_is : nw ≡ new_wd
  pub units_are : met ≡ found

pub text_found : (wd table new_wd new_table w t : List ℕ) (len : ℕ) (text : FileText)
    (units found sections nw met : List ℕ) → SkipsStreams wd table new_wd new_table →
    AreLoaded wd new_wd new_table w t len → AreCompared wd table new_wd found sections nw met →
    Hold (rules_of_pieces w t len) → IsFrontOf w t text found → (met ≡ units) × KeepsSepxs sections wd nw →
    IsSkippedText wd table units text
text_found wd table new_wd new_table w t len text units found sections nw met skips are compared hold front keeps =
    skipped_found wd table new_wd new_table units text skips (loaded_rules wd new_wd new_table w t len are hold)
    (subst (λ (us : List ℕ). IsFrontOf new_wd new_table text us) (sym compared.units_are ∙ keeps.0)
    (loaded_front wd new_wd new_table w t len text found are front))
    (subst (λ (b : List ℕ). KeepsSepxs (plcf_sed wd table) wd b) compared.wd_is
    (subst (λ (b : List ℕ). KeepsSepxs b wd nw) compared.sections_are keeps.1))

pub text_keeps : (wd table new_wd new_table w t : List ℕ) (len : ℕ) (text other : FileText)
    (units found sections nw met : List ℕ) → SkipsStreams wd table new_wd new_table →
    AreLoaded wd new_wd new_table w t len → AreCompared wd table new_wd found sections nw met →
    IsFrontOf w t text found → IsSkippedText wd table units other → (met ≡ units) × KeepsSepxs sections wd nw
text_keeps wd table new_wd new_table w t len text other units found sections nw met skips are compared front is =
    let keeps = skipped_keeps wd table new_wd new_table units found text other skips
    (loaded_front wd new_wd new_table w t len text found are front) is in (
      compared.units_are ∙ keeps.0,
      subst (λ (b : List ℕ). KeepsSepxs b wd nw) (sym compared.sections_are)
          (subst (λ (b : List ℕ). KeepsSepxs (plcf_sed wd table) wd b) (sym compared.wd_is) keeps.1),
    )

-- a refusal says that the rules do not hold
pub refused_none : (rules : Rules Place) (fault : ReadFault) (number : ℕ) (part : Where) (offset : ℕ) →
    fault ≡ Refused number part offset → IsReadFault rules fault → IsSingle rules → Hold rules → ⊥
refused_none rules fault number part offset is refused single hold =
    hold_or_first Upto rules number (part, offset) single hold (subst (IsReadFault rules) is refused)
