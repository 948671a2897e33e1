-- The changes of tab stops that are read: one list of their places, one copy of a file.
use Rattle.std.proofs.Common.{◌≡◌, ◌∙◌, inl, inr, refl, sym, ap, subst, ℕ, suc, ◌+◌, ◌<◌, ◌≤◌, List, [], ◌∷◌, ◌++◌, arith, length, drop}
use Rattle.std.proofs.Common.{Option, Some, None, MatchOption, option_map, slice_get, slice_index, drop-cons}
use Rattle.std.proofs.lemmas.Bool.{cases_lt}
use Rattle.std.proofs.lemmas.Option.{same_Some, none-some, slice_get_within}
use Rattle.doc_bits.specs.Number.{AreBytes}
use Rattle.doc_bits.specs.Rules.{Hold}
use Rattle.doc_bits.proofs.Public.{hold_or_first}
use Rattle.cfb_sectors.specs.Judged.{IsCfbFault}
use Rattle.cfb_sectors.specs.declared.faults.CfbFault.{CfbFault}
use Rattle.cfb_sectors.specs.declared.faults.CfbFault.TheVariants.{Rule}
use Rattle.cfb_directory.specs.Directory.{AreSameNames}
use Rattle.cfb_streams.specs.Contents.{Contents, Stream, HasNoNamed}
use Rattle.cfb_streams.specs.Container.{HasContents, outer_rules}
use Rattle.cfb_streams.specs.Names.{wd_name, table_name}
use Rattle.cfb_streams.proofs.Public.{contents_unique, named_place, outer_single}
use Rattle.fib_form.specs.Fib.{fib_pair, fib_which_table, table_part}
use Rattle.tab_stops.specs.Pages.{AreStopsOfPages}
use Rattle.tab_stops.proofs.Public.{clx_one, pages_one, sheet_one}
use Rattle.file_mends.specs.declared.mends.FileMend.{FileMend}
use Rattle.file_mends.specs.declared.mends.FileMend.TheVariants.{StopsRead}
use Rattle.file_mends.specs.declared.mended_sheets.MendedCopy.{MendedCopy}
use Rattle.file_mends.specs.Rewritten.{place_of_byte, with_byte}
use Rattle.file_mends.specs.Streams.{FileStreams, HasStream, AreFileStreams, IsOfFile}
use Rattle.file_mends.specs.Stops.{AreWdStops, AreTableStops, AreWithin, with_low_bytes, with_codes}
use Rattle.file_mends.specs.Stops.{ReadsCodes, ReadsStops, HasNoStops}
use Rattle.file_mends.proofs.RewrittenLemmas.{with_byte_bytes}

-- ---- the streams

-- a stream of a name is one
pub record AreOneStream (a b : List ℕ) (s t : Option (List ℕ)) : Type 0 where
  pub bytes : a ≡ b
  pub sectors : s ≡ t

pub stream_one : (file : List ℕ) (contents : Contents) (name a b : List ℕ) (s t : Option (List ℕ)) →
    HasContents file contents → HasStream contents name a s → HasStream contents name b t → AreOneStream a b s t
stream_one file contents name a b s t has x y =
    let index : x.index ≡ y.index =
    named_place file contents has name x.index y.index x.stream y.stream x.here y.here x.named y.named in
    let there : slice_get contents.streams y.index ≡ Some x.stream =
    subst (λ i. slice_get contents.streams i ≡ Some x.stream) index x.here in
    let stream : x.stream ≡ y.stream = same_Some x.stream y.stream (sym there ∙ y.here) in
    record {
      bytes = x.bytes_are ∙ (ap (λ (k : Stream). k.bytes) stream ∙ sym y.bytes_are);
      sectors = x.sectors_are ∙ (ap (λ (k : Stream). k.chain) stream ∙ sym y.sectors_are);
    }

abbrev streams_by : List ℕ → Option (List ℕ) → List ℕ → Option (List ℕ) → FileStreams
streams_by wd wd_sectors table table_sectors =
    record { wd = wd; wd_sectors = wd_sectors; table = table; table_sectors = table_sectors }

pub streams_one : (file : List ℕ) (contents : Contents) (a b : FileStreams) → HasContents file contents →
    AreFileStreams contents a → AreFileStreams contents b → a ≡ b
streams_one file contents a b has x y =
    let wd = stream_one file contents wd_name a.wd b.wd a.wd_sectors b.wd_sectors has x.wd y.wd in
    let table =
    stream_one file contents (table_name (fib_which_table b.wd)) a.table b.table a.table_sectors b.table_sectors has
    (subst (λ w. HasStream contents (table_name (fib_which_table w)) a.table a.table_sectors) wd.bytes x.table) y.table in
    let first : a ≡ streams_by b.wd a.wd_sectors a.table a.table_sectors =
    ap (λ w. streams_by w a.wd_sectors a.table a.table_sectors) wd.bytes in
    let second : streams_by b.wd a.wd_sectors a.table a.table_sectors
    ≡ streams_by b.wd b.wd_sectors a.table a.table_sectors =
    ap (λ s. streams_by b.wd s a.table a.table_sectors) wd.sectors in
    let third : streams_by b.wd b.wd_sectors a.table a.table_sectors
    ≡ streams_by b.wd b.wd_sectors b.table a.table_sectors =
    ap (λ t. streams_by b.wd b.wd_sectors t a.table_sectors) table.bytes in
    first ∙ (second ∙ (third ∙ ap (λ s. streams_by b.wd b.wd_sectors b.table s) table.sectors))

-- there is no stream of the name
pub no_stream : (contents : Contents) (name bytes : List ℕ) (sectors : Option (List ℕ)) →
    HasNoNamed contents.streams name → ¬ HasStream contents name bytes sectors
no_stream contents name bytes sectors none has = none has.index has.stream has.here has.named

-- ---- in one way

within_one : (sectors : Option (List ℕ)) (are : List ℕ → Type 0) (a b : List ℕ) →
    ((x y : List ℕ) → are x → are y → x ≡ y) → AreWithin sectors are a → AreWithin sectors are b → a ≡ b
within_one None are a b one x y = x ∙ sym y
within_one (Some sectors) are a b one x y = one a b x y

wd_one : (wd table a b : List ℕ) → AreWdStops wd table a → AreWdStops wd table b → a ≡ b
wd_one wd table a b x y =
    pages_one (record { characters = table_part wd table 12; paragraphs = table_part wd table 13 }) wd a b x y

table_one : (wd table a b : List ℕ) → AreTableStops wd table a → AreTableStops wd table b → a ≡ b
table_one wd table a b x y =
    let sheet : x.sheet ≡ y.sheet =
    sheet_one (table_part wd table 1) (fib_pair wd 1).0 x.sheet y.sheet x.are_sheet y.are_sheet in
    let prcs : x.prcs ≡ y.prcs =
    clx_one (table_part wd table 33) (fib_pair wd 33).0 x.prcs y.prcs x.are_prcs y.are_prcs in
    x.joined ∙ (ap (λ l. l ++ x.prcs) sheet ∙ (ap (λ l. y.sheet ++ l) prcs ∙ sym y.joined))

pub codes_one : (file : List ℕ) (streams : FileStreams) (mend other : FileMend) (a b : List ℕ) →
    ReadsCodes file streams mend a → ReadsCodes file streams other b → (mend ≡ other) × (a ≡ b)
codes_one file streams mend other a b x y =
    let pages : x.pages ≡ y.pages =
    within_one streams.wd_sectors (AreWdStops streams.wd streams.table) x.pages y.pages
    (wd_one streams.wd streams.table) x.are_pages y.are_pages in
    let parts : x.parts ≡ y.parts =
    within_one streams.table_sectors (AreTableStops streams.wd streams.table) x.parts y.parts
    (table_one streams.wd streams.table) x.are_parts y.are_parts in (
      x.mend_is
          ∙ (ap (λ (l : List ℕ). StopsRead (length l + length x.parts)) pages
          ∙ (ap (λ (l : List ℕ). StopsRead (length y.pages + length l)) parts ∙ sym y.mend_is)),
      x.read_is
          ∙ (ap (λ l. with_codes streams.table_sectors x.parts (with_codes streams.wd_sectors l file)) pages
          ∙ (ap (λ l. with_codes streams.table_sectors l (with_codes streams.wd_sectors y.pages file)) parts
          ∙ sym y.read_is)),
    )

pub stops_one : (file : List ℕ) (mend other : FileMend) (a b : List ℕ) → ReadsStops file mend a →
    ReadsStops file other b → (mend ≡ other) × (a ≡ b)
stops_one file mend other a b x y =
    let contents : x.contents ≡ y.contents = contents_unique file x.contents y.contents x.has y.has in
    let streams : x.streams ≡ y.streams =
    streams_one file y.contents x.streams y.streams y.has
    (subst (λ (c : Contents). AreFileStreams c x.streams) contents x.are_streams) y.are_streams in
    codes_one file y.streams mend other a b (subst (λ (s : FileStreams). ReadsCodes file s mend a) streams x.reads)
    y.reads

-- what stops are read of breaks none of the rules 1 to 14 but for rule 10
pub stops_hold : (file : List ℕ) (mend : FileMend) (read : List ℕ) → ReadsStops file mend read → Hold (outer_rules file)
stops_hold file mend read is = is.hold

-- ---- bytes

low_bytes : (sectors places file : List ℕ) → AreBytes file → AreBytes (with_low_bytes sectors places file)
low_bytes sectors [] file are = are
low_bytes sectors (place ∷ places) file are =
    low_bytes sectors places (with_byte file (place_of_byte sectors place) 0x0D)
    (with_byte_bytes file (place_of_byte sectors place) 0x0D are (omega arith))

codes_bytes : (sectors : Option (List ℕ)) (places file : List ℕ) → AreBytes file →
    AreBytes (with_codes sectors places file)
codes_bytes None places file are = are
codes_bytes (Some sectors) places file are = low_bytes sectors places file are

pub stops_bytes : (file : List ℕ) (mend : FileMend) (read : List ℕ) → AreBytes file → ReadsStops file mend read →
    AreBytes read
stops_bytes file mend read are is =
    let reads = is.reads in
    let streams = is.streams in
    subst AreBytes (sym reads.read_is)
    (codes_bytes streams.table_sectors reads.parts (with_codes streams.wd_sectors reads.pages file)
    (codes_bytes streams.wd_sectors reads.pages file are))

-- ---- for the code

-- one place more
pub low_step : (sectors places file made : List ℕ) (k : ℕ) → k < length places →
    made ≡ with_byte file (place_of_byte sectors (slice_index places k)) 0x0D →
    with_low_bytes sectors (drop (k + 1) places) made ≡ with_low_bytes sectors (drop k places) file
low_step sectors places file made k below is =
    let count : k + 1 ≡ suc k = omega arith in
    let here = drop-cons places k 0 below in
    ap (λ n. with_low_bytes sectors (drop n places) made) count
    ∙ (ap (λ m. with_low_bytes sectors (drop (suc k) places) m) is
    ∙ sym (ap (λ l. with_low_bytes sectors l file) here))

-- no code is read
pub no_codes : (file : List ℕ) (streams : FileStreams) (pages parts : List ℕ) →
    AreWithin streams.wd_sectors (AreWdStops streams.wd streams.table) pages →
    AreWithin streams.table_sectors (AreTableStops streams.wd streams.table) parts →
    length pages + length parts ≡ 0 → (mend : FileMend) (read : List ℕ) → ¬ ReadsCodes file streams mend read
no_codes file streams pages parts are_pages are_parts none mend read is =
    let same : is.pages ≡ pages =
    within_one streams.wd_sectors (AreWdStops streams.wd streams.table) is.pages pages
    (wd_one streams.wd streams.table) is.are_pages are_pages in
    let others : is.parts ≡ parts =
    within_one streams.table_sectors (AreTableStops streams.wd streams.table) is.parts parts
    (table_one streams.wd streams.table) is.are_parts are_parts in
    let some = is.some in
    let front = ap length same in
    let rest = ap length others in
    omega (arith, some, none, front, rest)

-- a file whose streams are not there has none
pub no_streams : (file : List ℕ) (contents : Contents) → HasContents file contents →
    ((streams : FileStreams) → ¬ AreFileStreams contents streams) → HasNoStops file
no_streams file contents has none mend read is =
    let same = contents_unique file is.contents contents is.has has in
    none is.streams (subst (λ (c : Contents). AreFileStreams c is.streams) same is.are_streams)

-- what is read of the two streams is read of the file
pub reads_none : (file : List ℕ) (contents : Contents) (streams : FileStreams) → HasContents file contents →
    AreFileStreams contents streams → ((mend : FileMend) (read : List ℕ) → ¬ ReadsCodes file streams mend read) →
    HasNoStops file
reads_none file contents streams has are none mend read is =
    let same = contents_unique file is.contents contents is.has has in
    let one =
    streams_one file contents is.streams streams has
    (subst (λ (c : Contents). AreFileStreams c is.streams) same is.are_streams) are in
    none mend read (subst (λ (s : FileStreams). ReadsCodes file s mend read) one is.reads)

-- a file that breaks one of the rules 1 to 14 has none
pub refused_stops : (file : List ℕ) (fault : CfbFault) (number at : ℕ) → fault ≡ Rule number at →
    IsCfbFault (outer_rules file) fault → HasNoStops file
refused_stops file fault number at is refused mend read here =
    hold_or_first (λ a b. a ≤ b) (outer_rules file) number at (outer_single file) here.hold
    (subst (IsCfbFault (outer_rules file)) is refused)

-- ---- a stream by its name

-- none of the first streams has the name
abbrev pub HaveOthers : Contents → List ℕ → ℕ → Type 0
HaveOthers contents name count = (k : ℕ) (stream : Stream) → k < count → slice_get contents.streams k ≡ Some stream →
    ¬ AreSameNames stream.name name

-- nor has one more of them
pub more_others : (contents : Contents) (name own : List ℕ) (i : ℕ) → HaveOthers contents name i →
    option_map (λ (s : Stream). s.name) (slice_get contents.streams i) ≡ Some own → ¬ AreSameNames own name →
    HaveOthers contents name (i + 1)
more_others contents name own i before is other k stream low there = elim (cases_lt k i) [
  | inl less ↦ before k stream less there
  | inr past ↦
      let same : k ≡ i = omega (arith, low, past) in
      let here : slice_get contents.streams i ≡ Some stream =
      subst (λ n. slice_get contents.streams n ≡ Some stream) same there in
      let named : stream.name ≡ own =
      same_Some stream.name own (sym (ap (option_map (λ (s : Stream). s.name)) here) ∙ is) in
      λ has. other (subst (λ n. AreSameNames n name) named has)
]

-- no stream has it
pub all_others : (contents : Contents) (name : List ℕ) (count : ℕ) → length contents.streams ≤ count →
    HaveOthers contents name count → HasNoNamed contents.streams name
all_others contents name count all before i stream there =
    let within = slice_get_within contents.streams i stream there in
    before i stream (omega (arith, within, all)) there

-- one of them has it
has_named : (contents : Contents) (i : ℕ) (name own bytes : List ℕ) (sectors : Option (List ℕ)) (found : Option Stream) →
    found ≡ slice_get contents.streams i → option_map (λ (s : Stream). s.name) found ≡ Some own →
    option_map (λ (s : Stream). s.bytes) found ≡ Some bytes →
    option_map (λ (s : Stream). s.chain) found ≡ Some sectors → AreSameNames own name →
    HasStream contents name bytes sectors
has_named contents i name own bytes sectors None here name_is bytes_are chain_is named = absurd (none-some own name_is)
has_named contents i name own bytes sectors (Some stream) here name_is bytes_are chain_is named = record {
  index = i;
  stream = stream;
  here = sym here;
  named = subst (λ n. AreSameNames n name) (sym (same_Some stream.name own name_is)) named;
  bytes_are = sym (same_Some stream.bytes bytes bytes_are);
  sectors_are = sym (same_Some stream.chain sectors chain_is);
}

pub stream_named : (contents : Contents) (i : ℕ) (name own bytes : List ℕ) (sectors : Option (List ℕ)) →
    option_map (λ (s : Stream). s.name) (slice_get contents.streams i) ≡ Some own →
    option_map (λ (s : Stream). s.bytes) (slice_get contents.streams i) ≡ Some bytes →
    option_map (λ (s : Stream). s.chain) (slice_get contents.streams i) ≡ Some sectors → AreSameNames own name →
    HasStream contents name bytes sectors
stream_named contents i name own bytes sectors name_is bytes_are chain_is named =
    has_named contents i name own bytes sectors (slice_get contents.streams i) refl name_is bytes_are chain_is named

-- ---- the two streams are not there

-- there is no WordDocument, or it is too short
pub no_wd : (contents : Contents) → HasNoNamed contents.streams wd_name → (streams : FileStreams) →
    ¬ AreFileStreams contents streams
no_wd contents none streams are = no_stream contents wd_name streams.wd streams.wd_sectors none are.wd

pub short_stream : (contents : Contents) (wd : List ℕ) (sectors : Option (List ℕ)) → IsOfFile contents →
    HasStream contents wd_name wd sectors → length wd < 900 → (streams : FileStreams) → ¬ AreFileStreams contents streams
short_stream contents wd sectors of has short streams are =
    let one = stream_one of.file contents wd_name streams.wd wd streams.wd_sectors sectors of.has are.wd has in
    let long = are.long in
    let same = ap length one.bytes in
    omega (arith, short, long, same)

-- nor the table stream
pub no_table : (contents : Contents) (wd : List ℕ) (sectors : Option (List ℕ)) → IsOfFile contents →
    HasStream contents wd_name wd sectors → HasNoNamed contents.streams (table_name (fib_which_table wd)) →
    (streams : FileStreams) → ¬ AreFileStreams contents streams
no_table contents wd sectors of has none streams are =
    let one = stream_one of.file contents wd_name streams.wd wd streams.wd_sectors sectors of.has are.wd has in
    no_stream contents (table_name (fib_which_table wd)) streams.table streams.table_sectors none
    (subst (λ w. HasStream contents (table_name (fib_which_table w)) streams.table streams.table_sectors) one.bytes
    are.table)

-- what is made of the two streams is made of the file
pub reads_as : (file : List ℕ) (contents : Contents) (streams : FileStreams) (found : Option MendedCopy) →
    Hold (outer_rules file) → HasContents file contents → AreFileStreams contents streams →
    MatchOption found ((mend : FileMend) (read : List ℕ) → ¬ ReadsCodes file streams mend read)
    (λ made. ReadsCodes file streams made.mend made.copy.items) →
    MatchOption found (HasNoStops file) (λ made. ReadsStops file made.mend made.copy.items)
reads_as file contents streams None hold has are none = reads_none file contents streams has are none
reads_as file contents streams (Some made) hold has are reads =
    record { hold = hold; contents = contents; has = has; streams = streams; are_streams = are; reads = reads }
