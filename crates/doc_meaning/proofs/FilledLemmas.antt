-- A text whose gaps are filled reads the same as the one that the streams name, so its document is meant.
use Rattle.std.specs.Prelude.{slice_range, slice_set}
use Rattle.std.proofs.Common.{◌≡◌, ◌≢◌, ◌∙◌, ◌+◌, ◌-◌, ◌*◌, ◌<◌, ◌≤◌, ◌^◌, refl, sym, ap, subst, inl, inr, ℕ, List, []}
use Rattle.std.proofs.Common.{length, ◌++◌, take, drop, arith}
use Rattle.std.proofs.lemmas.Bool.{cases_lt}
use Rattle.std.proofs.lemmas.List.{append-nil, append_assoc, length-append, length-set, get_or-set_other}
use Rattle.std.proofs.lemmas.List.{get_or-set_same, drop_all}
use Rattle.doc_bits.specs.Number.{u16_at}
use Rattle.doc_bits.specs.Rules.{Hold}
use Rattle.doc_bits.specs.Places.{Place, Upto}
use Rattle.doc_bits.proofs.Public.{first_breaks, breaks_within, range_mid, number_at-before}
use Rattle.fib_form.specs.Fib.{form_size, kept_pairs, fib_pair, table_part}
use Rattle.fib_form.specs.FibFields.{FibFields, fib_fields, listed_pair}
use Rattle.fib_form.specs.FibBytes.{written_fib}
use Rattle.fib_form.specs.Stories.{story_ccp}
use Rattle.fib_form.specs.TableParts.{pair_number}
use Rattle.fib_form.specs.declared.form.Form.TheVariants.{Early}
use Rattle.fib_form.specs.declared.stories.StoryKind.{StoryKind}
use Rattle.fib_form.specs.declared.stories.StoryKind.TheVariants.{Main}
use Rattle.fib_form.specs.declared.table_parts.TablePart.{TablePart}
use Rattle.fib_form.specs.declared.table_parts.TablePart.TheVariants.{Stshf, PlcfSed, PlcfBteChpx, PlcfBtePapx, PlfLst}
use Rattle.fib_form.proofs.Public.{pair_at-fib_pairs, length-written_fib, drop_front, take_front}
use Rattle.fib_versions.specs.Early.{early_pairs, early_fields}
use Rattle.fib_versions.proofs.Public.{length-early_pairs}
use Rattle.fkp_pages.specs.declared.kind.PageKind.{PageKind}
use Rattle.fkp_pages.specs.declared.kind.PageKind.TheVariants.{Chpx, Papx}
use Rattle.fkp_pages.specs.Fkp.{HasRunAnswer}
use Rattle.fkp_pages.specs.Bin.{IsBinTable, IsBinPage, page_at}
use Rattle.fkp_pages.specs.Properties.{IsListAnswered, HasListAt}
use Rattle.fkp_gaps.specs.Filled.{next_page, with_empty_run}
use Rattle.fkp_gaps.proofs.Public.{named_within, filled_places_have_lists, stream_range, stream_number}
use Rattle.page_copies.specs.Pages.{BinTables, bin_table_of}
use Rattle.style_sheet.specs.Sheet.{Sheet}
use Rattle.style_sheet.specs.Stsh.{HasStyleSheet}
use Rattle.doc_parts.specs.declared.lists.Sed.{Sed}
use Rattle.doc_parts.specs.Sections.{AreSections, HasSepx}
use Rattle.file_rules.specs.Source.{DocSource, part_place, table_part_bytes, story_length}
use Rattle.file_rules.specs.SheetRules.{HasSheet}
use Rattle.file_rules.specs.SectionRules.{HasSections, section_fc, sepx_list}
use Rattle.file_rules.specs.ListRules.{HasLevels}
use Rattle.file_rules.specs.PartRules.{layout_rules, part_rules}
use Rattle.file_rules.specs.FileRules.{FileText, doc_source_of}
use Rattle.file_rules.proofs.Public.{bin_tables, story_count, layout_ascends}
use Rattle.doc_read.proofs.Public.{sepx-there}
use Rattle.doc_meaning.specs.Skipped.{bin_tables_of}
use Rattle.doc_meaning.specs.Lifted.{IsListFor, KeepsLists, KeepsSections, ReadsTheSame, IsPlainPart}
use Rattle.doc_meaning.specs.Loaded.{IsLoadedFor}
use Rattle.doc_meaning.specs.Filled.{BreaksAtGap, IsPartWithin, AreLevelsWithin, HasFilledStreams, IsFilledFor}
use Rattle.doc_meaning.specs.Filled.{filled_pairs, filled_fields, IsGapRule, FilledIsMeant}
use Rattle.doc_meaning.proofs.BehindLemmas.{range_behind, number_behind, length_behind}
use Rattle.doc_meaning.proofs.EarlyLemmas.{part_below, early_part, pair_same}
use Rattle.doc_meaning.proofs.TableLemmas.{no_range, StandBehindPart, levels_from}
use Rattle.doc_meaning.proofs.ApartLemmas.{range_before, number_before, levels_end_before, reads_apart}
use Rattle.doc_meaning.proofs.ListLemmas.{plain_of}
use Rattle.doc_meaning.proofs.ItemLemmas.{sepx_found}
use Rattle.doc_meaning.proofs.LoadedLemmas.{bin_same, loaded_reads}
use Rattle.doc_meaning.proofs.GapLemmas.{gap_kept}
use Rattle.doc_meaning.proofs.DocumentLemmas.{means_same}

-- ---- what the first broken rule tells

low_rule : (number : ℕ) → IsGapRule number → 39 ≤ number
low_rule number (inl is) = omega (arith, is)
low_rule number (inr (inl is)) = omega (arith, is)
low_rule number (inr (inr (inl is))) = omega (arith, is)
low_rule number (inr (inr (inr (inl is)))) = omega (arith, is)
low_rule number (inr (inr (inr (inr is)))) = omega (arith, is)

-- the rules 33 to 38 hold
pub layout_holds : (source : DocSource) → BreaksAtGap source → Hold (layout_rules source)
layout_holds source broken = elim broken.first [
  | inl first ↦
      let within = breaks_within (layout_rules source) 33 39 broken.number broken.place (layout_ascends source)
      (first_breaks Upto (layout_rules source) broken.number broken.place first) in
      absurd (omega (arith, within.1, low_rule broken.number broken.gap))
  | inr behind ↦ behind.0
]

-- ---- the FIB

pairs_len : (wd : List ℕ) (at : ℕ) (bins : BinTables) → length (filled_pairs (early_pairs wd) at bins) ≡ kept_pairs
pairs_len wd at bins =
    let first = slice_set (early_pairs wd) (pair_number PlcfBteChpx) (at, length bins.characters) in
    length-set first (pair_number PlcfBtePapx) (at + length bins.characters, length bins.paragraphs)
    ∙ (length-set (early_pairs wd) (pair_number PlcfBteChpx) (at, length bins.characters) ∙ length-early_pairs wd)

other_pair : (wd : List ℕ) (at : ℕ) (bins : BinTables) (part : TablePart) → pair_number part ≢ pair_number PlcfBteChpx →
    pair_number part ≢ pair_number PlcfBtePapx →
    listed_pair (filled_pairs (early_pairs wd) at bins) (pair_number part) ≡ fib_pair wd (pair_number part)
other_pair wd at bins part no_chpx no_papx =
    let first = slice_set (early_pairs wd) (pair_number PlcfBteChpx) (at, length bins.characters) in
    get_or-set_other first (pair_number PlcfBtePapx) (pair_number part)
    (at + length bins.characters, length bins.paragraphs) (0, 0) no_papx
    ∙ (get_or-set_other (early_pairs wd) (pair_number PlcfBteChpx) (pair_number part) (at, length bins.characters) (
      0,
      0,
    )
    no_chpx ∙ early_part wd part)

bin_pair : PageKind → ℕ → BinTables → ℕ × ℕ
bin_pair Chpx at bins = (at, length bins.characters)
bin_pair Papx at bins = (at + length bins.characters, length bins.paragraphs)

-- a pair of a stream with these fields
pair_there : (wd old_table new_wd : List ℕ) (bins : BinTables) (part : TablePart) →
    fib_fields new_wd ≡ filled_fields wd old_table bins →
    fib_pair new_wd (pair_number part) ≡ listed_pair (filled_pairs (early_pairs wd) (length old_table) bins)
    (pair_number part)
pair_there wd old_table new_wd bins part fields =
    sym (pair_at-fib_pairs new_wd (pair_number part) (part_below part))
    ∙ ap (λ (f : FibFields). listed_pair f.pairs (pair_number part)) fields

-- ---- a filled text, and the one that was loaded

pub record IsPair (old loaded new : FileText) : Type 0 where
  pub load : IsLoadedFor old loaded
  pub fill : HasFilledStreams old.wd loaded new

pair_kept : (old loaded new : FileText) (part : TablePart) → IsPair old loaded new →
    pair_number part ≢ pair_number PlcfBteChpx → pair_number part ≢ pair_number PlcfBtePapx →
    fib_pair new.wd (pair_number part) ≡ fib_pair old.wd (pair_number part)
pair_kept old loaded new part is no_chpx no_papx =
    let fills = is.fill.fills in
    pair_there old.wd loaded.table new.wd fills.bins part fills.fields
    ∙ other_pair old.wd (length loaded.table) fills.bins part no_chpx no_papx

-- the table stream has the loaded one in front
table_front : (old loaded new : FileText) → IsPair old loaded new →
    take (length loaded.table) new.table ≡ take (length loaded.table) loaded.table
table_front old loaded new is =
    let fills = is.fill.fills in
    let more = fills.bins.characters ++ fills.bins.paragraphs in
    let n = length loaded.table in
    ap (take n) fills.table_is ∙ (take_front loaded.table more n refl
    ∙ (sym (take_front loaded.table [] n refl) ∙ ap (take n) (append-nil loaded.table)))

range_within : (old new : List ℕ) (pair : ℕ × ℕ) → take (length old) new ≡ take (length old) old →
    IsPartWithin (length old) pair →
    slice_range new pair.0 (pair.0 + pair.1) ≡ slice_range old pair.0 (pair.0 + pair.1)
range_within old new pair same (inl none) =
    no_range new pair.0 pair.1 none ∙ sym (no_range old pair.0 pair.1 none)
range_within old new pair same (inr within) =
    range_before old new (length old) pair.0 (pair.0 + pair.1) same (omega (arith, within)) within

-- where a part of the loaded text is
part_within : (old loaded new : FileText) (part : TablePart) → IsPair old loaded new →
    IsPartWithin (length loaded.table) (fib_pair old.wd (pair_number part))
part_within old loaded new part is =
    subst (IsPartWithin (length loaded.table)) (early_part old.wd part)
    (is.fill.can.parts.each (pair_number part) (part_below part))

-- the bytes of a part that is no bin table
pub bytes_kept : (old loaded new : FileText) (part : TablePart) → IsPair old loaded new →
    pair_number part ≢ pair_number PlcfBteChpx → pair_number part ≢ pair_number PlcfBtePapx →
    table_part_bytes (doc_source_of new) part ≡ table_part_bytes (doc_source_of loaded) part
bytes_kept old loaded new part is no_chpx no_papx =
    let pair = fib_pair old.wd (pair_number part) in
    let mine : fib_pair new.wd (pair_number part) ≡ pair = pair_kept old loaded new part is no_chpx no_papx in
    let its : fib_pair loaded.wd (pair_number part) ≡ pair = pair_same old.wd loaded.wd part is.load.fields in
    ap (λ (p : ℕ × ℕ). slice_range new.table p.0 (p.0 + p.1)) mine
    ∙ (range_within loaded.table new.table pair (table_front old loaded new is) (part_within old loaded new part is)
    ∙ sym (ap (λ (p : ℕ × ℕ). slice_range loaded.table p.0 (p.0 + p.1)) its))

-- the bin tables
abbrev filled_bins : (old loaded new : FileText) → IsPair old loaded new → BinTables
filled_bins old loaded new is = let fills = is.fill.fills in fills.bins

bins_are : (old loaded new : FileText) (kind : PageKind) (is : IsPair old loaded new) →
    bin_table_of kind (bin_tables_of new.wd new.table) ≡ bin_table_of kind (filled_bins old loaded new is)
bins_are old loaded new Chpx is =
    let fills = is.fill.fills in
    let at = length loaded.table in
    let chars = fills.bins.characters in
    let first = slice_set (early_pairs old.wd) (pair_number PlcfBteChpx) (at, length chars) in
    let pair : fib_pair new.wd (pair_number PlcfBteChpx) ≡ (at, length chars) =
    pair_there old.wd loaded.table new.wd fills.bins PlcfBteChpx fills.fields
    ∙ (get_or-set_other first (pair_number PlcfBtePapx) (pair_number PlcfBteChpx)
    (at + length chars, length fills.bins.paragraphs) (0, 0) (λ e. absurd (omega (arith, e)))
    ∙ get_or-set_same (early_pairs old.wd) (pair_number PlcfBteChpx) (at, length chars) (0, 0)
    (omega (arith, length-early_pairs old.wd))) in
    ap (λ (p : ℕ × ℕ). slice_range new.table p.0 (p.0 + p.1)) pair
    ∙ range_mid new.table loaded.table chars fills.bins.paragraphs at (at + length chars) fills.table_is refl refl
bins_are old loaded new Papx is =
    let fills = is.fill.fills in
    let at = length loaded.table in
    let chars = fills.bins.characters in
    let pars = fills.bins.paragraphs in
    let first = slice_set (early_pairs old.wd) (pair_number PlcfBteChpx) (at, length chars) in
    let from = at + length chars in
    let pair : fib_pair new.wd (pair_number PlcfBtePapx) ≡ (from, length pars) =
    pair_there old.wd loaded.table new.wd fills.bins PlcfBtePapx fills.fields
    ∙ get_or-set_same first (pair_number PlcfBtePapx) (from, length pars) (0, 0)
    (omega (
      arith,
      length-early_pairs old.wd,
      length-set (early_pairs old.wd) (pair_number PlcfBteChpx)
          (at, length chars),
    )) in
    let front = loaded.table ++ chars in
    let whole : new.table ≡ front ++ (pars ++ []) =
    fills.table_is ∙ (sym (append_assoc loaded.table chars pars)
    ∙ ap (λ (l : List ℕ). front ++ l) (sym (append-nil pars))) in
    let len : length front ≡ from = length-append loaded.table chars in
    ap (λ (p : ℕ × ℕ). slice_range new.table p.0 (p.0 + p.1)) pair
    ∙ range_mid new.table front pars [] from (from + length pars) whole (sym len) (omega (arith, len))

-- ---- WordDocument

-- behind the FIB it is the loaded one with the page behind it
wd_behind : (old loaded new : FileText) → IsPair old loaded new →
    drop (form_size Early) new.wd ≡ drop (form_size Early) (with_empty_run loaded.wd)
wd_behind old loaded new is =
    let fills = is.fill.fills in
    let fib = filled_fields old.wd loaded.table fills.bins in
    ap (drop (form_size Early)) fills.front
    ∙ drop_front (written_fib fib) (drop (form_size Early) (with_empty_run loaded.wd)) (form_size Early)
    (length-written_fib fib (pairs_len old.wd (length loaded.table) fills.bins))

-- a range behind the FIB
range_stays : (old loaded new : FileText) (from to : ℕ) → IsPair old loaded new → form_size Early ≤ from → from ≤ to →
    to ≤ length loaded.wd → slice_range new.wd from to ≡ slice_range loaded.wd from to
range_stays old loaded new from to is low order within =
    range_behind (with_empty_run loaded.wd) new.wd (form_size Early) from to (wd_behind old loaded new is) low
    ∙ stream_range loaded.wd from to order within

number_stays : (old loaded new : FileText) (at : ℕ) → IsPair old loaded new → form_size Early ≤ at →
    at + 2 ≤ length loaded.wd → u16_at new.wd at ≡ u16_at loaded.wd at
number_stays old loaded new at is low within =
    number_behind (with_empty_run loaded.wd) new.wd (form_size Early) at 2 (wd_behind old loaded new is) low
    ∙ stream_number loaded.wd at within

-- ---- lists

bins_right : (old loaded new : FileText) (kind : PageKind) → IsPair old loaded new →
    IsBinTable (bin_table_of kind (bin_tables_of loaded.wd loaded.table))
bins_right old loaded new Chpx is =
    (bin_tables (doc_source_of loaded) (layout_holds (doc_source_of loaded) is.fill.gap).1).0
bins_right old loaded new Papx is =
    (bin_tables (doc_source_of loaded) (layout_holds (doc_source_of loaded) is.fill.gap).1).1

-- a list of the filled stream is one of the stream with the page behind it
list_there : (old loaded new : FileText) (kind : PageKind) (fc : ℕ) (made : List ℕ) (is : IsPair old loaded new) →
    (has : HasListAt kind (bin_table_of kind (bin_tables_of new.wd new.table)) new.wd fc made) → 2 ≤ has.number →
    HasListAt kind (bin_table_of kind (filled_bins old loaded new is)) (with_empty_run loaded.wd) fc made
list_there old loaded new kind fc made is has low =
    let number = has.number in
    let there = has.within in
    let behind = wd_behind old loaded new is in
    let len = length_behind (with_empty_run loaded.wd) new.wd (form_size Early) behind (omega (arith, low, there)) in
    let page : page_at new.wd number ≡ page_at (with_empty_run loaded.wd) number =
    range_behind (with_empty_run loaded.wd) new.wd (form_size Early) (512 * number) (512 * number + 512) behind
    (omega (arith, low)) in
    record {
      number = number;
      named = subst (λ bin. IsBinPage bin fc number) (bins_are old loaded new kind is) has.named;
      within = omega (arith, there, len);
      answer = has.answer;
      answers = subst (λ p. HasRunAnswer kind p fc has.answer) page has.answers;
      answered = subst (λ p. IsListAnswered kind p has.answer made) page has.answered;
    }

filled_lists : (old loaded new : FileText) (kind : PageKind) → IsPair old loaded new → KeepsLists kind old new
filled_lists old loaded new kind is = λ fc made has low.
    let bin = bin_table_of kind (bin_tables_of loaded.wd loaded.table) in
    let pages = is.fill.can.pages kind in
    elim (filled_places_have_lists kind bin loaded.wd (bin_table_of kind (filled_bins old loaded new is)) fc made
    (bins_right old loaded new kind is) pages (is.fill.fills.filled kind)
    (list_there old loaded new kind fc made is has low)) [
      | inl own ↦
          (loaded_reads old loaded is.load).lists kind fc made own
          (named_within bin loaded.wd fc own.number pages own.named).0
      | inr gap ↦ inr (gap_kept kind old loaded fc is.load gap.0, gap.1)
    ]

-- ---- stories and sections

ccps_same : (old new : DocSource) (story : StoryKind) → (fib_fields new.wd).ccps ≡ (fib_fields old.wd).ccps →
    story_length new story ≡ story_length old story
ccps_same old new story same =
    sym (story_count new story) ∙ (ap (λ c. story_ccp c story) same ∙ story_count old story)

counts_kept : (old loaded new : FileText) (story : StoryKind) → IsPair old loaded new →
    story_length (doc_source_of new) story ≡ story_length (doc_source_of old) story
counts_kept old loaded new story is =
    ccps_same (doc_source_of old) (doc_source_of new) story (ap (λ (f : FibFields). f.ccps) is.fill.fills.fields)

-- the Sepx of a section
sepx_kept : (old loaded new : FileText) (list : List Sed) (k : ℕ) → IsPair old loaded new →
    HasSections (doc_source_of loaded) list → k < length list → HasSepx new.wd (section_fc list k) →
    HasSepx loaded.wd (section_fc list k)
    × (sepx_list new.wd (section_fc list k) ≡ sepx_list loaded.wd (section_fc list k))
sepx_kept old loaded new list k is has below there =
    let fc = section_fc list k in
    let small = is.fill.small in
    let within = there.within in
    let rules = layout_holds (doc_source_of loaded) is.fill.gap in
    let own : HasSepx loaded.wd fc =
    sepx_found loaded.wd fc (sepx-there (doc_source_of loaded) list k rules.0 has below)
    (λ none. absurd (omega (arith, none, within, small))) in
    let after = own.after_fib in
    let inside = own.within in
    let count : u16_at new.wd fc ≡ u16_at loaded.wd fc =
    number_stays old loaded new fc is (omega (arith, after)) (omega (arith, inside)) in (
      own,
      ap (λ n. slice_range new.wd (fc + 2) (fc + 2 + n)) count
          ∙ range_stays old loaded new (fc + 2) (fc + 2 + u16_at loaded.wd fc) is (omega (arith, after)) (omega arith)
          inside,
    )

filled_sections : (old loaded new : FileText) → IsPair old loaded new → KeepsSections old new
filled_sections old loaded new is = λ list k has below there.
    let part : table_part_bytes (doc_source_of new) PlcfSed ≡ table_part_bytes (doc_source_of loaded) PlcfSed =
    bytes_kept old loaded new PlcfSed is (λ e. absurd (omega (arith, e))) (λ e. absurd (omega (arith, e))) in
    let same = loaded_reads old loaded is.load in
    let count : story_length (doc_source_of new) Main ≡ story_length (doc_source_of loaded) Main =
    counts_kept old loaded new Main is ∙ sym (same.counts Main) in
    let own : HasSections (doc_source_of loaded) list =
    subst (λ n. AreSections (table_part_bytes (doc_source_of loaded) PlcfSed) n list) count
    (subst (λ b. AreSections b (story_length (doc_source_of new) Main) list) part has) in
    let sepx = sepx_kept old loaded new list k is own below there in
    sepx.1 ∙ same.sections list k own below sepx.0

-- ---- the sheet and the levels

filled_sheet : (old loaded new : FileText) (sheet : Sheet) → IsPair old loaded new → HasSheet (doc_source_of new) sheet
    →
    HasSheet (doc_source_of old) sheet
filled_sheet old loaded new sheet is has =
    (loaded_reads old loaded is.load).sheet sheet
    (subst (λ b. HasStyleSheet b sheet)
    (bytes_kept old loaded new Stshf is (λ e. absurd (omega (arith, e))) (λ e. absurd (omega (arith, e)))) has)

-- both streams end before a place, so nothing is behind it
none_behind : (xs ys : List ℕ) (place : ℕ) → length xs ≤ place → length ys ≤ place → drop place xs ≡ drop place ys
none_behind xs ys place a b = drop_all place xs a ∙ sym (drop_all place ys b)

levels_within : (old new : List ℕ) (pair : ℕ × ℕ) (len : ℕ) (bytes : List ℕ) →
    take (length old) new ≡ take (length old) old → AreLevelsWithin old pair →
    StandBehindPart new pair.0 (slice_range old pair.0 (pair.0 + pair.1)) len bytes →
    StandBehindPart old pair.0 (slice_range old pair.0 (pair.0 + pair.1)) len bytes
levels_within old new pair len bytes same (inl none) have =
    let place = length old + length new in
    levels_from old new place pair len bytes (none_behind new old place (omega arith) (omega arith)) (inl none) have
levels_within old new pair len bytes same (inr ends) have =
    levels_end_before old new (length old) pair len bytes same ends have

filled_levels : (old loaded new : FileText) (bytes : List ℕ) → IsPair old loaded new →
    HasLevels (doc_source_of new) bytes → HasLevels (doc_source_of old) bytes
filled_levels old loaded new bytes is has =
    let pair = fib_pair old.wd (pair_number PlfLst) in
    let no_chpx : pair_number PlfLst ≢ pair_number PlcfBteChpx = λ e. absurd (omega (arith, e)) in
    let no_papx : pair_number PlfLst ≢ pair_number PlcfBtePapx = λ e. absurd (omega (arith, e)) in
    let own : fib_pair loaded.wd (pair_number PlfLst) ≡ pair = pair_same old.wd loaded.wd PlfLst is.load.fields in
    let at : part_place (doc_source_of new) PlfLst ≡ pair.0 =
    ap (λ (p : ℕ × ℕ). p.0) (pair_kept old loaded new PlfLst is no_chpx no_papx) in
    let part : table_part_bytes (doc_source_of new) PlfLst ≡ slice_range loaded.table pair.0 (pair.0 + pair.1) =
    bytes_kept old loaded new PlfLst is no_chpx no_papx
    ∙ ap (λ (p : ℕ × ℕ). slice_range loaded.table p.0 (p.0 + p.1)) own in
    let here : StandBehindPart new.table pair.0 (table_part_bytes (doc_source_of new) PlfLst) has.len bytes =
    subst (λ n. StandBehindPart new.table n (table_part_bytes (doc_source_of new) PlfLst) has.len bytes) at
    (has.have, has.bytes_are) in
    let stand = subst (λ b. StandBehindPart new.table pair.0 b has.len bytes) part here in
    let within = subst (AreLevelsWithin loaded.table) (early_part old.wd PlfLst) is.fill.can.parts.levels in
    let mid = levels_within loaded.table new.table pair has.len bytes (table_front old loaded new is) within stand in
    let back : StandBehindPart loaded.table (fib_pair loaded.wd (pair_number PlfLst)).0
    (table_part_bytes (doc_source_of loaded) PlfLst) has.len bytes =
    subst (λ (p : ℕ × ℕ). StandBehindPart loaded.table p.0 (slice_range loaded.table p.0 (p.0 + p.1)) has.len bytes)
    (sym own) mid in
    (loaded_reads old loaded is.load).levels bytes
    (record { len = has.len; have = back.0; bytes_are = back.1 })

-- ---- the text

filled_reads : (old loaded new : FileText) → IsLoadedFor old loaded → IsFilledFor old loaded new →
    ReadsTheSame old new
filled_reads old loaded new load fill =
    let is : IsPair old loaded new = record { load = load; fill = fill.streams } in
    let same = loaded_reads old loaded load in
    record {
      counts = λ story. counts_kept old loaded new story is;
      kept = ap (λ (f : FibFields). f.kept) is.fill.fills.fields;
      pairs = λ part plain. pair_kept old loaded new part is plain.no_chpx plain.no_papx;
      parts = λ part plain. bytes_kept old loaded new part is plain.no_chpx plain.no_papx ∙ same.parts part plain;
      sheet = λ sheet has. filled_sheet old loaded new sheet is has;
      levels = λ bytes has. filled_levels old loaded new bytes is has;
      places = fill.places;
      units = fill.units;
      lists = λ kind. filled_lists old loaded new kind is;
      sections = filled_sections old loaded new is;
    }

pub filled_is_meant : FilledIsMeant
filled_is_meant contents old table loaded new lists document has_text clx load fill hold has from =
    means_same contents old (record { text = new; lists = lists; hold = hold; has = has }) document has_text
    (reads_apart old table new clx
    (filled_reads (record old { table = table }) loaded new load fill)) from
