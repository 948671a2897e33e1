-- What a save that can be appended has: the streams that are there, and the runs that are added.
use Rattle.std.specs.Prelude.{slice_range}
use Rattle.std.proofs.Common.{◌≡◌, ◌∙◌, refl, sym, ap, subst, inl, inr, ℕ, ◌+◌, ◌*◌, ◌/◌, ◌<◌, ◌≤◌, ◌^◌}
use Rattle.std.proofs.Common.{List, [], length, All, arith, lit<}
use Rattle.std.proofs.lemmas.Bool.{cases_lt}
use Rattle.std.proofs.lemmas.List.{nil_from_length}
use Rattle.doc_bits.specs.declared.places.Where.TheVariants.{Wd}
use Rattle.doc_bits.specs.Rules.{Hold, Nowhere}
use Rattle.cfb_streams.specs.Contents.{Contents}
use Rattle.cfb_streams.specs.Names.{wd_name, table_name}
use Rattle.fib_form.specs.Fib.{form_size, fib_form, fib_size, fib_pair, table_part}
use Rattle.fib_form.specs.FibFields.{FibFields, listed_pair}
use Rattle.fib_form.specs.FibRules.{fib_rules}
use Rattle.fib_form.proofs.Public.{form_size-least}
use Rattle.fib_form.specs.TableParts.{pair_number}
use Rattle.fib_form.specs.declared.table_parts.TablePart.{TablePart}
use Rattle.fib_form.specs.declared.table_parts.TablePart.TheVariants.{PlcfBteChpx, PlcfBtePapx}
use Rattle.fkp_pages.specs.declared.kind.PageKind.{PageKind}
use Rattle.fkp_pages.specs.declared.kind.PageKind.TheVariants.{Chpx, Papx}
use Rattle.fkp_pages.specs.Bin.{IsBinTable}
use Rattle.fkp_pages.specs.Runs.{AreRuns, HasRunNumbers}
use Rattle.fkp_pages.specs.PageBytes.{last_fc}
use Rattle.fkp_pages.specs.Pages.{first_fc, ArePagesOf, AreWholePages}
use Rattle.fkp_pages.proofs.Public.{runs_have_pages, pages_are_whole}
use Rattle.doc_model.specs.declared.item.Item.{Item}
use Rattle.doc_model.specs.Document.{IsFormedText}
use Rattle.doc_model.specs.Formed.{IsFormed}
use Rattle.plain_doc.specs.RightDocument.{IsValidDocument}
use Rattle.doc_model.specs.Stretches.{stretches}
use Rattle.plain_doc.proofs.Public.{sound_is_valid}
use Rattle.file_rules.specs.Source.{table_part_bytes}
use Rattle.file_rules.specs.PairRules.{BreaksPairs, IsReadPair}
use Rattle.file_rules.specs.FileRules.{FileText, doc_source_of, wd_rules, table_rules}
use Rattle.file_rules.specs.FileRules.{table_stream_name}
use Rattle.file_rules.proofs.Public.{named_one, part-inside, pair-read, table_part-empty, bin_tables, hold_out}
use Rattle.doc_read.proofs.Public.{text_held}
use Rattle.full_save.specs.Runs.{joins_run, text_runs}
use Rattle.full_save.proofs.Public.{last_fc-text_runs, IsWritableItem, length-runs_from}
use Rattle.save_laws.proofs.Public.{few_stretches, AreHeld, held_rules}
use Rattle.save_laws.specs.Places.{PagedStream}
use Rattle.save_laws.specs.GivenFiles.{paged_stream_of}
use Rattle.fast_save_layout.specs.Saves.{FastSave}
use Rattle.fast_save_layout.specs.MarkRuns.{mark_runs, runs_end}
use Rattle.fast_save_layout.specs.RenewedStreams.{bytes_named}
use Rattle.fast_save_layout.specs.OldParts.{StaysWithin, named_part}
use Rattle.fast_save_layout.specs.Appended.{old_wd, old_table, old_bins, old_stream, added_end, added_runs, added_pages}
use Rattle.fast_save_layout.specs.Appended.{added_page_count, runs_begin, bins_end, first_page, fast_fib}
use Rattle.fast_save_layout.specs.Kept.{CanBeFastSaved}
use Rattle.fast_save_layout.proofs.MarkLemmas.{AreMade, made_first, length-made, end_is}
use Rattle.fast_save_layout.proofs.AddedRuns.{writable_items, text_right, text_first, kept_end_low, marks_made, no_text}
use Rattle.fast_save_layout.proofs.AddedRuns.{no_marks, characters_right, marks_right}
use Rattle.fast_save_layout.proofs.StreamLemmas.{named_is}

-- a save that can be appended, of a well-formed document, with well-formed items
pub record Ready : Type 0 where
  pub save : FastSave
  pub can : CanBeFastSaved save
  pub formed : IsFormed save.document
  pub items : IsFormedText save.added

abbrev pub ready : (save : FastSave) → CanBeFastSaved save → IsFormed save.document → IsFormedText save.added → Ready
ready save can formed items = record { save = save; can = can; formed = formed; items = items }

pub is_valid : (r : Ready) → IsValidDocument r.save.document
is_valid r = sound_is_valid r.save.document r.can.sound

-- ---- the file that is there

abbrev pub the_text : Ready → FileText
the_text r = r.can.held.parts.text

rules_held : (r : Ready) → AreHeld r.save.file r.can.held.parts
rules_held r = held_rules r.save.file r.can.held.parts r.can.held.rules r.can.held.has_parts

pub wd_is : (r : Ready) → old_wd r.save ≡ (the_text r).wd
wd_is r =
    let has = r.can.held.has_parts in
    ap (λ (c : Contents). bytes_named c.streams wd_name) r.can.contents
    ∙ named_is r.save.file r.can.held.parts.contents wd_name (the_text r).wd has.has_contents has.has_text.has_wd

pub table_is : (r : Ready) → old_table r.save ≡ (the_text r).table
table_is r =
    let has = r.can.held.has_parts in
    let start : old_table r.save ≡ bytes_named r.can.held.parts.contents.streams (table_stream_name (the_text r).wd) =
    (λ i. bytes_named (r.can.contents i).streams (table_name (r.can.fib i).which_table)) in
    start
    ∙ named_is r.save.file r.can.held.parts.contents (table_stream_name (the_text r).wd) (the_text r).table
    has.has_contents has.has_text.has_table

pub stream_is : (r : Ready) → old_stream r.save ≡ paged_stream_of (doc_source_of (the_text r))
stream_is r = λ i. record {
  wd = wd_is r i;
  characters = table_part (wd_is r i) (table_is r i) (pair_number PlcfBteChpx);
  paragraphs = table_part (wd_is r i) (table_is r i) (pair_number PlcfBtePapx);
}

tables_hold : (r : Ready) → Hold (table_rules (the_text r).wd (the_text r).table)
tables_hold r =
    let has = r.can.held.has_parts in
    text_held r.save.file r.can.held.parts.contents (the_text r) (rules_held r).loading has.has_contents has.has_text

bins_are : (r : Ready) → IsBinTable (table_part_bytes (doc_source_of (the_text r)) PlcfBteChpx)
    × IsBinTable (table_part_bytes (doc_source_of (the_text r)) PlcfBtePapx)
bins_are r = bin_tables (doc_source_of (the_text r)) (rules_held r).parts_hold.0.1

pub old_table_is : (kind : PageKind) (r : Ready) → IsBinTable (old_bins kind r.save)
old_table_is Chpx r = subst (λ (s : PagedStream). IsBinTable s.characters) (sym (stream_is r)) (bins_are r).0
old_table_is Papx r = subst (λ (s : PagedStream). IsBinTable s.paragraphs) (sym (stream_is r)) (bins_are r).1

-- the form of the FIB that is there
pub form_is : (r : Ready) → r.save.fib.form ≡ fib_form (old_wd r.save)
form_is r = ap (λ (fib : FibFields). fib.form) r.can.fib ∙ ap fib_form (sym (wd_is r))

-- a save keeps it
pub form_stays : (save : FastSave) (clx : List ℕ) → (fast_fib save clx).form ≡ save.fib.form
unfolding fast_fib
form_stays save clx = refl

-- WordDocument has a FIB
pub long_wd : (r : Ready) → form_size r.save.fib.form ≤ length (old_wd r.save)
long_wd r =
    let has = r.can.held.has_parts in
    let h = (rules_held r).loading in
    let wd : h.1.0 ≡ (the_text r).wd =
    named_one r.save.file r.can.held.parts.contents wd_name h.1.0 (the_text r).wd has.has_contents h.1.1.0
    has.has_text.has_wd in
    let held : Hold (wd_rules r.can.held.parts.contents (the_text r).wd) =
    subst (λ w. Hold (wd_rules r.can.held.parts.contents w)) wd h.1.1.1 in
    let rules = hold_out Wd (fib_rules (the_text r).wd) held.0 in
    let len = ap length (wd_is r) in
    let size : form_size r.save.fib.form ≡ fib_size (the_text r).wd =
    ap (λ (fib : FibFields). form_size fib.form) r.can.fib in
    elim (cases_lt (length (the_text r).wd) (fib_size (the_text r).wd)) [
      | inl short ↦ absurd (rules.0 (length (the_text r).wd) (refl, short))
      | inr long ↦ omega (arith, long, len, size)
    ]

-- ---- the parts of its table stream

-- a pair by the fields of the FIB
pair_is : (r : Ready) (part : TablePart) → pair_number part < 93 →
    listed_pair r.save.fib.pairs (pair_number part) ≡ fib_pair (old_wd r.save) (pair_number part)
pair_is r part below =
    pair-read (the_text r).wd r.save.fib (pair_number part) below r.can.fib
    ∙ ap (λ wd. fib_pair wd (pair_number part)) (sym (wd_is r))

bins_within : (r : Ready) (part : TablePart) → pair_number part < 93 → IsReadPair (pair_number part) →
    IsBinTable (table_part_bytes (doc_source_of (the_text r)) part) → StaysWithin r.save.fib (old_table r.save) part
bins_within r part below read is =
    let wd = (the_text r).wd in
    let table = (the_text r).table in
    let none : Nowhere (BreaksPairs wd (length table)) = λ p b. (tables_hold r).0 (Wd, p) (refl, b) in
    let long = is.table in
    let some : ¬ ((fib_pair wd (pair_number part)).1 ≡ 0) = λ e.
    let empty = table_part-empty wd table (pair_number part) e in
    omega (arith, empty, long) in
    let inside = part-inside wd (length table) part read none some in
    let pair = pair-read wd r.save.fib (pair_number part) below r.can.fib in
    let one = ap (λ (p : ℕ × ℕ). p.0) pair in
    let two = ap (λ (p : ℕ × ℕ). p.1) pair in
    let len = ap length (table_is r) in
    omega (arith, inside, one, two, len)

pub characters_within : (r : Ready) → StaysWithin r.save.fib (old_table r.save) PlcfBteChpx
characters_within r = bins_within r PlcfBteChpx (omega arith) (5, (lit< tt, refl)) (bins_are r).0

pub paragraphs_within : (r : Ready) → StaysWithin r.save.fib (old_table r.save) PlcfBtePapx
paragraphs_within r = bins_within r PlcfBtePapx (omega arith) (6, (lit< tt, refl)) (bins_are r).1

part_named : (r : Ready) (part : TablePart) → pair_number part < 93 →
    named_part r.save.fib (old_table r.save) part ≡ table_part (old_wd r.save) (old_table r.save) (pair_number part)
part_named r part below =
    ap (λ (pair : ℕ × ℕ). slice_range (old_table r.save) pair.0 (pair.0 + pair.1)) (pair_is r part below)

pub characters_named : (r : Ready) → named_part r.save.fib (old_table r.save) PlcfBteChpx ≡ old_bins Chpx r.save
characters_named r = part_named r PlcfBteChpx (omega arith)

pub paragraphs_named : (r : Ready) → named_part r.save.fib (old_table r.save) PlcfBtePapx ≡ old_bins Papx r.save
paragraphs_named r = part_named r PlcfBtePapx (omega arith)

-- ---- where the added text is

pub record IsBase (r : Ready) : Type 0 where
  pub long : form_size r.save.fib.form ≤ length (old_wd r.save)
  pub behind : length (old_wd r.save) ≤ r.save.base
  pub low : 1024 ≤ r.save.base
  pub whole : r.save.base ≡ 512 * (r.save.base / 512)
  pub small : r.save.base + 2 * length r.save.added ≤ 2 ^ 28

pub base_is : (r : Ready) → IsBase r
base_is r =
    let long = long_wd r in
    let len = ap length (wd_is r) in
    let base = r.can.base in
    let room = r.can.room in
    let least = form_size-least r.save.fib.form in
    record {
      long = omega (arith, long);
      behind = omega (arith, base, len);
      low = omega (arith, base, len, long, least);
      whole = omega (arith, base);
      small = omega (arith, room);
    }

-- ---- the runs that are added

pub items_writable : (r : Ready) → All IsWritableItem r.save.added
items_writable r = writable_items r.save.added r.items r.can.short

-- runs of items, of which there are some
pub record AreAdded (kind : PageKind) (r : Ready) : Type 0 where
  pub right : AreRuns kind (added_runs kind r.save)
  pub numbers : All HasRunNumbers (added_runs kind r.save)
  pub some : 0 < length (added_runs kind r.save)
  pub first : first_fc (added_runs kind r.save) ≡ runs_begin kind r.save
  pub last : last_fc (added_runs kind r.save) ≡ bins_end kind r.save

-- what is added is small, with a unit more
pub text_small : (r : Ready) → r.save.base + 2 * length r.save.added + 2 < 2 ^ 32
text_small r = let small = (base_is r).small in omega (arith, small)

pub marks_added : (r : Ready) → 0 < length r.save.added →
    AreMade Papx (text_runs Papx r.save.base r.save.added) (added_runs Papx r.save)
marks_added r some =
    marks_made r.save.base r.save.added (items_writable r) (text_small r) (old_bins Papx r.save) some

pub added_are : (kind : PageKind) (r : Ready) → 0 < length r.save.added → AreAdded kind r
added_are Chpx r some =
    let runs = text_right r.save.base r.save.added (items_writable r) (text_small r) Chpx some in
    record {
      right = runs.right;
      numbers = runs.numbers;
      some = runs.some;
      first = text_first Chpx r.save.base r.save.added some;
      last = last_fc-text_runs Chpx r.save.base r.save.added some;
    }
added_are Papx r some =
    let made = marks_added r some in
    let runs = text_right r.save.base r.save.added (items_writable r) (text_small r) Papx some in
    record {
      right = made.right;
      numbers = made.numbers;
      some = made.some;
      first = made_first (runs_begin Papx r.save) r.save.added (text_runs Papx r.save.base r.save.added) runs.some;
      last = end_is (runs_begin Papx r.save) (added_runs Papx r.save) made.some;
    }

none_added : (kind : PageKind) (save : FastSave) → save.added ≡ [] → added_runs kind save ≡ []
none_added Chpx save none = ap (λ (items : List Item). text_runs Chpx save.base items) none ∙ no_text Chpx save.base
none_added Papx save none =
    ap (λ (items : List Item). mark_runs (old_bins Papx save) save.base items) none
    ∙ no_marks (old_bins Papx save) save.base

-- there are no runs where there are no items
pub none_there : (kind : PageKind) (r : Ready) → length r.save.added ≤ 0 → added_runs kind r.save ≡ []
none_there kind r none = none_added kind r.save (nil_from_length r.save.added (omega (arith, none)))

pub runs_right : (kind : PageKind) (r : Ready) → AreRuns kind (added_runs kind r.save)
runs_right Chpx r = characters_right r.save.base r.save.added (items_writable r) (text_small r)
runs_right Papx r =
    marks_right r.save.base r.save.added (items_writable r) (text_small r) (old_bins Papx r.save)

-- where the bin table ends: one unit behind the text at most
pub end_low : (kind : PageKind) (r : Ready) → bins_end kind r.save ≤ added_end r.save + 2
end_low Chpx r = omega arith
end_low Papx r = elim (cases_lt 0 (length r.save.added)) [
  | inl some ↦
      let high = (marks_added r some).high in
      let own = (added_are Papx r some).last in
      let text = last_fc-text_runs Papx r.save.base r.save.added some in
      omega (arith, high, own, text)
  | inr none ↦
      let begins = ap (runs_end (runs_begin Papx r.save)) (none_there Papx r none) in
      let low = kept_end_low (old_bins Papx r.save) r.save.base in
      omega (arith, begins, low)
]

-- without runs that is where they would begin, or behind it
pub end_high : (kind : PageKind) (r : Ready) → length r.save.added ≤ 0 → runs_begin kind r.save ≤ bins_end kind r.save
end_high Chpx r none = omega arith
end_high Papx r none =
    let begins = ap (runs_end (runs_begin Papx r.save)) (none_there Papx r none) in omega (arith, begins)

-- ---- their pages

pub pages_are : (kind : PageKind) (r : Ready) →
    ArePagesOf kind (added_runs kind r.save) (added_pages kind r.save)
pages_are kind r = runs_have_pages kind (added_runs kind r.save) (runs_right kind r).writable

pub pages_whole : (kind : PageKind) (r : Ready) → AreWholePages (added_runs kind r.save) (added_pages kind r.save)
pages_whole kind r =
    pages_are_whole kind (added_runs kind r.save) (added_pages kind r.save) (runs_right kind r) (pages_are kind r)

-- there are no more runs than items
few_runs : (kind : PageKind) (r : Ready) → length (added_runs kind r.save) ≤ length r.save.added
few_runs Chpx r =
    omega (
      arith,
      length-runs_from Chpx r.save.base (stretches (joins_run Chpx) r.save.added),
      few_stretches (joins_run Chpx) r.save.added,
    )
few_runs Papx r =
    omega (
      arith,
      length-made (runs_begin Papx r.save) r.save.added (text_runs Papx r.save.base r.save.added),
      length-runs_from Papx r.save.base (stretches (joins_run Papx) r.save.added),
      few_stretches (joins_run Papx) r.save.added,
    )

-- the numbers of pages are small
pub record HaveRoom (r : Ready) : Type 0 where
  pub characters : first_page Chpx r.save + length (added_runs Chpx r.save) ≤ 2 ^ 22
  pub paragraphs : first_page Papx r.save + length (added_runs Papx r.save) ≤ 2 ^ 22
  pub low : 2 ≤ first_page Chpx r.save
  pub pages :
      512 * (first_page Papx r.save + length (added_pages Papx r.save).starts)
      ≤ r.save.base + 2 * length r.save.added + 511 + 512 * added_page_count r.save

pub have_room : (r : Ready) → HaveRoom r
have_room r =
    let room = r.can.room in
    let few = r.can.few_added in
    let chp = few_runs Chpx r in
    let pap = few_runs Papx r in
    let low = (base_is r).low in
    record {
      characters = omega (arith, room, few, chp);
      paragraphs = omega (arith, room, few, pap);
      low = omega (arith, low);
      pages = omega arith;
    }
