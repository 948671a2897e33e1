-- Where the style sheet of a file is: one place, and what calls tell of it.
use Rattle.std.proofs.Common.{◌≡◌, ◌∙◌, inl, inr, refl, sym, ap, subst, ℕ, ◌+◌, ◌<◌, ◌≤◌, List, Some, None, Option, option_map, length, MatchOption}
use Rattle.std.proofs.Common.{slice_get, arith}
use Rattle.std.proofs.lemmas.Bool.{cases_lt}
use Rattle.std.proofs.lemmas.Option.{same_Some, none-some, slice_get_within}
use Rattle.doc_bits.specs.Number.{AreBytes}
use Rattle.doc_bits.specs.Rules.{Hold}
use Rattle.doc_bits.proofs.Public.{AreBytes-range, hold_or_first}
use Rattle.cfb_sectors.specs.Judged.{IsCfbFault}
use Rattle.cfb_sectors.specs.declared.faults.CfbFault.{CfbFault}
use Rattle.cfb_sectors.specs.declared.faults.CfbFault.TheVariants.{Rule}
use Rattle.cfb_directory.specs.Directory.{AreSameNames}
use Rattle.cfb_streams.specs.Contents.{Contents, Stream}
use Rattle.cfb_streams.specs.Container.{HasContents, outer_rules}
use Rattle.cfb_streams.specs.Names.{wd_name, table_name}
use Rattle.cfb_streams.proofs.Public.{contents_stored, contents_unique, named_place, outer_single}
use Rattle.fib_form.specs.Fib.{fib_pair, fib_which_table, table_part}
use Rattle.file_mends.specs.declared.mends.FileMend.{FileMend}
use Rattle.file_mends.specs.declared.sheet_changes.SheetChange.{SheetChange}
use Rattle.file_mends.specs.SheetChanges.{ChangesSheet}
use Rattle.file_mends.specs.Rewritten.{rewritten}
use Rattle.file_mends.specs.Mends.{MendsSheet}
use Rattle.file_mends.specs.SheetPlaces.{SheetPlace, IsSheetOf, IsSheetIn, IsSheetBy, IsSheetAmong, IsSheetPlace}

abbrev sheet_by : ℕ → List ℕ → List ℕ → SheetPlace
sheet_by at part sectors = record { at = at; part = part; sectors = sectors }

of_one : (stream : Stream) (wd : List ℕ) (a b : SheetPlace) → IsSheetOf stream wd a → IsSheetOf stream wd b → a ≡ b
of_one stream wd a b x y =
    let at : a.at ≡ b.at = x.at_is ∙ sym y.at_is in
    let part : a.part ≡ b.part = x.part_is ∙ sym y.part_is in
    let sectors : a.sectors ≡ b.sectors = same_Some a.sectors b.sectors (sym x.chain ∙ y.chain) in
    let first : a ≡ sheet_by b.at a.part a.sectors = ap (λ n. sheet_by n a.part a.sectors) at in
    let second : sheet_by b.at a.part a.sectors ≡ sheet_by b.at b.part a.sectors =
    ap (λ p. sheet_by b.at p a.sectors) part in
    first ∙ (second ∙ ap (λ s. sheet_by b.at b.part s) sectors)

in_one : (file : List ℕ) (contents : Contents) (wd : List ℕ) (a b : SheetPlace) → HasContents file contents →
    IsSheetIn contents wd a → IsSheetIn contents wd b → a ≡ b
in_one file contents wd a b has x y =
    let one = x.is in
    let other = y.is in
    let index : x.index ≡ y.index =
    named_place file contents has (table_name (fib_which_table wd)) x.index y.index x.stream y.stream x.here y.here
    one.named other.named in
    let there : slice_get contents.streams y.index ≡ Some x.stream =
    subst (λ i. slice_get contents.streams i ≡ Some x.stream) index x.here in
    let stream : x.stream ≡ y.stream = same_Some x.stream y.stream (sym there ∙ y.here) in
    of_one y.stream wd a b (subst (λ (s : Stream). IsSheetOf s wd a) stream one) other

among_one : (file : List ℕ) (contents : Contents) (a b : SheetPlace) → HasContents file contents →
    IsSheetAmong contents a → IsSheetAmong contents b → a ≡ b
among_one file contents a b has x y =
    let one = x.is in
    let other = y.is in
    let index : x.index ≡ y.index =
    named_place file contents has wd_name x.index y.index x.stream y.stream x.here y.here one.named other.named in
    let there : slice_get contents.streams y.index ≡ Some x.stream =
    subst (λ i. slice_get contents.streams i ≡ Some x.stream) index x.here in
    let stream : x.stream ≡ y.stream = same_Some x.stream y.stream (sym there ∙ y.here) in
    let same : IsSheetBy contents y.stream a = subst (λ (s : Stream). IsSheetBy contents s a) stream one in
    in_one file contents (y.stream).bytes a b has same.is other.is

pub sheet_one : (file : List ℕ) (a b : SheetPlace) → IsSheetPlace file a → IsSheetPlace file b → a ≡ b
sheet_one file a b x y =
    let contents : x.contents ≡ y.contents = contents_unique file x.contents y.contents x.has y.has in
    among_one file y.contents a b y.has (subst (λ (c : Contents). IsSheetAmong c a) contents x.among) y.among

-- the bytes of the sheet are bytes
pub sheet_bytes : (file : List ℕ) (sheet : SheetPlace) → AreBytes file → IsSheetPlace file sheet → AreBytes sheet.part
sheet_bytes file sheet are is =
    let among = is.among in
    let by = among.is in
    let table = by.is in
    let one = table.is in
    let stored = contents_stored file is.contents are is.has table.index table.stream table.here in
    let pair = fib_pair (among.stream).bytes 1 in
    subst AreBytes (sym one.part_is) (AreBytes-range (table.stream).bytes pair.0 (pair.0 + pair.1) stored.small)

-- ---- for the code

-- none of the streams has it
pub none_in : (contents : Contents) (wd : List ℕ) (count : ℕ) → count ≡ length contents.streams →
    ((k : ℕ) (stream : Stream) (sheet : SheetPlace) → k < count → slice_get contents.streams k ≡ Some stream →
    ¬ IsSheetOf stream wd sheet) →
    (sheet : SheetPlace) → ¬ IsSheetIn contents wd sheet
none_in contents wd count all none sheet is =
    let within = slice_get_within contents.streams is.index is.stream is.here in
    none is.index is.stream sheet (omega (arith, within, all)) is.here is.is

-- none of the streams is a WordDocument that has it
pub none_by : (contents : Contents) (count : ℕ) → length contents.streams ≤ count →
    ((k : ℕ) (stream : Stream) (sheet : SheetPlace) → k < count → slice_get contents.streams k ≡ Some stream →
    ¬ IsSheetBy contents stream sheet) →
    (sheet : SheetPlace) → ¬ IsSheetAmong contents sheet
none_by contents count all none sheet is =
    let within = slice_get_within contents.streams is.index is.stream is.here in
    none is.index is.stream sheet (omega (arith, within, all)) is.here is.is

-- nor is one more of them
pub more_by : (contents : Contents) (i : ℕ) →
    ((k : ℕ) (stream : Stream) (sheet : SheetPlace) → k < i → slice_get contents.streams k ≡ Some stream →
    ¬ IsSheetBy contents stream sheet) →
    ((stream : Stream) (sheet : SheetPlace) → slice_get contents.streams i ≡ Some stream →
    ¬ IsSheetBy contents stream sheet) →
    (k : ℕ) (stream : Stream) (sheet : SheetPlace) → k < i + 1 → slice_get contents.streams k ≡ Some stream →
    ¬ IsSheetBy contents stream sheet
more_by contents i before here k stream sheet low there by = elim (cases_lt k i) [
  | inl less ↦ before k stream sheet less there by
  | inr past ↦
      let same : k ≡ i = omega (arith, low, past) in
      here stream sheet (subst (λ n. slice_get contents.streams n ≡ Some stream) same there) by
]

-- what a call told of the bytes of a stream is so of the stream
bytes_there : (found : Option Stream) (bytes : List ℕ) (stream : Stream) →
    option_map (λ (s : Stream). s.bytes) found ≡ Some bytes → found ≡ Some stream → stream.bytes ≡ bytes
bytes_there found bytes stream is there =
    same_Some stream.bytes bytes (sym (ap (option_map (λ (s : Stream). s.bytes)) there) ∙ is)

-- WordDocument is too short, or has none
pub short_wd : (contents : Contents) (found : Option Stream) (bytes : List ℕ) →
    option_map (λ (s : Stream). s.bytes) found ≡ Some bytes → length bytes < 900 → (stream : Stream)
    (sheet : SheetPlace) → found ≡ Some stream → ¬ IsSheetBy contents stream sheet
short_wd contents found bytes is short stream sheet there by =
    let same = bytes_there found bytes stream is there in
    let long : 900 ≤ length bytes = subst (λ (b : List ℕ). 900 ≤ length b) same by.long in
    omega (arith, short, long)

pub no_sheet : (contents : Contents) (found : Option Stream) (bytes : List ℕ) →
    option_map (λ (s : Stream). s.bytes) found ≡ Some bytes →
    ((sheet : SheetPlace) → ¬ IsSheetIn contents bytes sheet) → (stream : Stream) (sheet : SheetPlace) →
    found ≡ Some stream → ¬ IsSheetBy contents stream sheet
no_sheet contents found bytes is none stream sheet there by =
    none sheet (subst (λ b. IsSheetIn contents b sheet) (bytes_there found bytes stream is there) by.is)

stream_there : (found : Option Stream) (bytes : List ℕ) → option_map (λ (s : Stream). s.bytes) found ≡ Some bytes →
    (stream : Stream) × (found ≡ Some stream)
stream_there None bytes is = absurd (none-some bytes is)
stream_there (Some stream) bytes is = (stream, refl)

-- the stream is WordDocument, and has it
pub sheet_is : (contents : Contents) (i : ℕ) (name bytes : List ℕ) (sheet : SheetPlace) →
    option_map (λ (s : Stream). s.name) (slice_get contents.streams i) ≡ Some name →
    option_map (λ (s : Stream). s.bytes) (slice_get contents.streams i) ≡ Some bytes → AreSameNames name wd_name →
    900 ≤ length bytes → IsSheetIn contents bytes sheet → IsSheetAmong contents sheet
sheet_is contents i name bytes sheet name_is bytes_are named long is =
    let there = stream_there (slice_get contents.streams i) bytes bytes_are in
    let stream = there.0 in
    let same = bytes_there (slice_get contents.streams i) bytes stream bytes_are there.1 in
    let same_name : stream.name ≡ name =
    same_Some stream.name name (sym (ap (option_map (λ (s : Stream). s.name)) there.1) ∙ name_is) in
    record {
      index = i;
      stream = stream;
      here = there.1;
      is = record {
        named = subst (λ n. AreSameNames n wd_name) (sym same_name) named;
        long = subst (λ (b : List ℕ). 900 ≤ length b) (sym same) long;
        is = subst (λ b. IsSheetIn contents b sheet) (sym same) is;
      };
    }

-- what is found for WordDocument is found in the file
pub sheet_found : (contents : Contents) (i : ℕ) (name bytes : List ℕ) (found : Option SheetPlace) →
    option_map (λ (s : Stream). s.name) (slice_get contents.streams i) ≡ Some name →
    option_map (λ (s : Stream). s.bytes) (slice_get contents.streams i) ≡ Some bytes → AreSameNames name wd_name →
    900 ≤ length bytes →
    MatchOption found ((sheet : SheetPlace) → ¬ IsSheetIn contents bytes sheet) (IsSheetIn contents bytes) →
    MatchOption found
    ((stream : Stream) (sheet : SheetPlace) → slice_get contents.streams i ≡ Some stream →
    ¬ IsSheetBy contents stream sheet)
    (IsSheetAmong contents)
sheet_found contents i name bytes None name_is bytes_are named long none =
    no_sheet contents (slice_get contents.streams i) bytes bytes_are none
sheet_found contents i name bytes (Some sheet) name_is bytes_are named long is =
    sheet_is contents i name bytes sheet name_is bytes_are named long is

-- what calls told of a stream: its name, its bytes, its sectors
pub record IsStreamAs (found : Option Stream) (name bytes : List ℕ) (chain : Option (List ℕ)) : Type 0 where
  pub name_is : option_map (λ (s : Stream). s.name) found ≡ Some name
  pub bytes_are : option_map (λ (s : Stream). s.bytes) found ≡ Some bytes
  pub chain_is : option_map (λ (s : Stream). s.chain) found ≡ Some chain

-- the stream is the table stream, and has it
pub table_is : (contents : Contents) (i : ℕ) (wd name bytes sectors : List ℕ) (sheet : SheetPlace) →
    IsStreamAs (slice_get contents.streams i) name bytes (Some sectors) →
    AreSameNames name (table_name (fib_which_table wd)) → sheet.sectors ≡ sectors → sheet.at ≡ (fib_pair wd 1).0 →
    sheet.part ≡ table_part wd bytes 1 → IsSheetIn contents wd sheet
table_is contents i wd name bytes sectors sheet told named sectors_are at_is part_is =
    let there = stream_there (slice_get contents.streams i) bytes told.bytes_are in
    let stream = there.0 in
    let same = bytes_there (slice_get contents.streams i) bytes stream told.bytes_are there.1 in
    let same_name : stream.name ≡ name =
    same_Some stream.name name (sym (ap (option_map (λ (s : Stream). s.name)) there.1) ∙ told.name_is) in
    let same_chain : stream.chain ≡ Some sectors =
    same_Some stream.chain (Some sectors) (sym (ap (option_map (λ (s : Stream). s.chain)) there.1) ∙ told.chain_is) in
    record {
      index = i;
      stream = stream;
      here = there.1;
      is = record {
        named = subst (λ n. AreSameNames n (table_name (fib_which_table wd))) (sym same_name) named;
        chain = same_chain ∙ ap (λ s. Some s) (sym sectors_are);
        at_is = at_is;
        part_is = part_is ∙ ap (λ b. table_part wd b 1) (sym same);
      };
    }

-- no table stream: another name, or no sectors of its own
pub other_name : (found : Option Stream) (wd name : List ℕ) → option_map (λ (s : Stream). s.name) found ≡ Some name →
    ¬ AreSameNames name (table_name (fib_which_table wd)) → (stream : Stream) (sheet : SheetPlace) →
    found ≡ Some stream → ¬ IsSheetOf stream wd sheet
other_name found wd name is other stream sheet there of =
    let same : stream.name ≡ name =
    same_Some stream.name name (sym (ap (option_map (λ (s : Stream). s.name)) there) ∙ is) in
    other (subst (λ n. AreSameNames n (table_name (fib_which_table wd))) same of.named)

pub no_chain : (found : Option Stream) (wd : List ℕ) → option_map (λ (s : Stream). s.chain) found ≡ Some None →
    (stream : Stream) (sheet : SheetPlace) → found ≡ Some stream → ¬ IsSheetOf stream wd sheet
no_chain found wd is stream sheet there of =
    let same : stream.chain ≡ None =
    same_Some stream.chain None (sym (ap (option_map (λ (s : Stream). s.chain)) there) ∙ is) in
    none-some sheet.sectors (sym same ∙ of.chain)

-- ---- what is mended

-- the sheet is not changed
pub unchanged : (file : List ℕ) (sheet : SheetPlace) (rule offset : ℕ) → IsSheetPlace file sheet →
    ((change : SheetChange) → ¬ ChangesSheet sheet rule offset change) →
    (mend : FileMend) (mended : List ℕ) → ¬ MendsSheet file rule offset mend mended
unchanged file sheet rule offset is none mend mended here =
    none here.change
    (subst (λ (s : SheetPlace). ChangesSheet s rule offset here.change)
    (sheet_one file here.sheet sheet here.is_sheet is) here.changes)

-- it is
pub sheet_mended : (file : List ℕ) (sheet : SheetPlace) (rule offset : ℕ) (change : SheetChange)
    (copy sectors bytes : List ℕ) → IsSheetPlace file sheet → ChangesSheet sheet rule offset change →
    copy ≡ rewritten sectors change.at bytes file → sectors ≡ sheet.sectors → bytes ≡ change.bytes →
    MendsSheet file rule offset change.mend copy
sheet_mended file sheet rule offset change copy sectors bytes is_sheet changes copy_is same_sectors same_bytes =
    record {
      sheet = sheet;
      is_sheet = is_sheet;
      change = change;
      changes = changes;
      mend_is = refl;
      mended_is =
          copy_is
          ∙ (ap (λ s. rewritten s change.at bytes file) same_sectors
          ∙ ap (λ b. rewritten sheet.sectors change.at b file) same_bytes);
    }

-- there is none
pub no_place : (file : List ℕ) (contents : Contents) (rule offset : ℕ) → HasContents file contents →
    ((sheet : SheetPlace) → ¬ IsSheetAmong contents sheet) →
    (mend : FileMend) (mended : List ℕ) → ¬ MendsSheet file rule offset mend mended
no_place file contents rule offset has none mend mended here =
    let is = here.is_sheet in
    let same = contents_unique file is.contents contents is.has has in
    none here.sheet (subst (λ (c : Contents). IsSheetAmong c here.sheet) same is.among)

-- a file that breaks one of the rules 1 to 14 has none
pub refused_sheet : (file : List ℕ) (rule offset : ℕ) (fault : CfbFault) (number at : ℕ) → fault ≡ Rule number at →
    IsCfbFault (outer_rules file) fault → (mend : FileMend) (mended : List ℕ) →
    ¬ MendsSheet file rule offset mend mended
refused_sheet file rule offset fault number at is refused mend mended here =
    let sheet = here.is_sheet in
    hold_or_first (λ a b. a ≤ b) (outer_rules file) number at (outer_single file) sheet.hold
    (subst (IsCfbFault (outer_rules file)) is refused)
