-- WordDocument of a save behind an old stream: what is where.
use Rattle.std.specs.Prelude.{slice_get, slice_index, replicate}
use Rattle.std.proofs.Common.{◌≡◌, ◌∙◌, refl, sym, ap, subst, inl, inr, ℕ, ◌+◌, ◌-◌, ◌*◌, ◌/◌, ◌<◌, ◌≤◌, ◌^◌}
use Rattle.std.proofs.Common.{List, [], ◌++◌, length, map, drop, Some, arith, append_assoc}
use Rattle.std.proofs.Common.{length-append}
use Rattle.std.proofs.lemmas.Bool.{cases_lt}
use Rattle.std.proofs.lemmas.List.{append-nil, length-map, length-drop, get_or_append_left, get_or-append-add}
use Rattle.std.proofs.lemmas.List.{get_or-drop}
use Rattle.std.proofs.lemmas.Option.{slice_get_within, get_or_from_slice_get}
use Rattle.doc_bits.proofs.Public.{All_at, get-map, from_map, number_at-after, number_at-before}
use Rattle.doc_bits.specs.Number.{u16_at}
use Rattle.doc_bits.specs.Rules.{Hold}
use Rattle.cfb_layout.specs.Sectors.{units_for, filled, padded_to_unit}
use Rattle.cfb_layout.proofs.Public.{length-filled, entry_at, filled_at}
use Rattle.fib_form.specs.Fib.{kept_pairs, form_size, fib_form, fib_size}
use Rattle.fib_form.specs.FibFields.{FibFields, fib_fields, IsFib, AreFibCcps, IsKeptFlags}
use Rattle.fib_form.specs.FibBytes.{written_fib}
use Rattle.fib_form.specs.FibRules.{fib_rules}
use Rattle.fib_form.proofs.Public.{read_back, sum-three, form_size-most, length-written_fib}
use Rattle.fkp_pages.specs.declared.kind.PageKind.{PageKind}
use Rattle.fkp_pages.specs.declared.kind.PageKind.TheVariants.{Chpx, Papx}
use Rattle.fkp_pages.specs.declared.lists.Bin.{Bin}
use Rattle.fkp_pages.specs.declared.packing.Pages.{Pages}
use Rattle.fkp_pages.specs.Bin.{ArePrintableBins, bin_fcs, printed_bin}
use Rattle.fkp_pages.specs.InARow.{numbered_bins}
use Rattle.fkp_pages.specs.Rows.{IsPageRow, NamesRow, row_bins}
use Rattle.fkp_pages.specs.PageBytes.{last_fc}
use Rattle.fkp_pages.proofs.Public.{longer_tables_name_both}
use Rattle.piece_table.specs.Printing.{IsPrintedClx}
use Rattle.doc_model.specs.declared.item.Item.{Item}
use Rattle.doc_bits.specs.declared.places.Where.TheVariants.{Main}
use Rattle.fib_form.specs.declared.fib.KeptFib.{KeptFib}
use Rattle.prop_map.specs.Settings.{Properties}
use Rattle.doc_model.specs.declared.carried.Carried.{Carried}
use Rattle.doc_model.specs.Collected.{sections_of}
use Rattle.doc_model.specs.Document.{IsFormedItem}
use Rattle.plain_doc.proofs.Public.{main_ends}
use Rattle.doc_model.proofs.Public.{collected_from}
use Rattle.save_laws.proofs.Public.{FitsSepx, length-story_slots, length-loose_if}
use Rattle.std.proofs.lemmas.List.Concat.{length-flat_map}
use Rattle.full_save.specs.WordDocument.{units_bytes}
use Rattle.full_save.proofs.Public.{IsWritableItem, character_run, paragraph_run, AreAllowed, entries_are_pairs}
use Rattle.full_save.proofs.Public.{entries_are_wide, table_allowed, few_collected}
use Rattle.save_laws.specs.Places.{GivenUnit, given_of, fib_end}
use Rattle.save_laws.specs.Plans.{AreRunsOf, HaveRow, IsWrittenPlan}
use Rattle.save_laws.specs.KeptPages.{KeepsBytes, KeepsPages}
use Rattle.save_laws.specs.Slots.{story_counts}
use Rattle.fast_save_layout.specs.Saves.{FastSave, plan_of}
use Rattle.fast_save_layout.specs.KeptBins.{kept_bins}
use Rattle.fast_save_layout.specs.Kept.{CanBeFastSaved}
use Rattle.fast_save_layout.specs.Bodies.{AreNewParts}
use Rattle.fast_save_layout.specs.declared.writing.NewParts.{NewParts}
use Rattle.fast_save_layout.specs.PlannedSections.{planned_sepxes}
use Rattle.fast_save_layout.specs.Appended.{old_wd, old_bins, old_stream, runs_begin, bins_end, added_runs}
use Rattle.fast_save_layout.specs.Appended.{added_pages, first_page}
use Rattle.fast_save_layout.specs.Appended.{added_pages_end, added_bytes, fast_bin_table, fast_text, fast_entries}
use Rattle.fast_save_layout.specs.Appended.{fast_table}
use Rattle.fast_save_layout.specs.Appended.{fast_fib, fast_wd, fast_saved_text}
use Rattle.fast_save_layout.proofs.FilledTable.{table_parts, parts_within}
use Rattle.fast_save_layout.proofs.PlannedLemmas.{length-planned}
use Rattle.fast_save_layout.proofs.KeptBinLemmas.{first_are_before}
use Rattle.fast_save_layout.proofs.ReadyLemmas.{Ready, ready, is_valid, base_is, the_text, items_writable, added_are}
use Rattle.fast_save_layout.proofs.ReadyLemmas.{none_there}
use Rattle.fast_save_layout.proofs.ReadyLemmas.{form_is, form_stays}
use Rattle.fast_save_layout.proofs.ReadyLemmas.{marks_added, pages_are, pages_whole, have_room}
use Rattle.fast_save_layout.proofs.BodyLemmas.{body_sizes}
use Rattle.fast_save_layout.proofs.TableLemmas.{kept_low, bins_printable, begins_there, ranges_are_kept}

-- a save with the Clx of its pieces, and room for one more quick save
pub record Made : Type 0 where
  pub ready : Ready
  pub clx : List ℕ
  pub printed : IsPrintedClx ready.save.pieces clx
  pub few_saves : ready.save.fib.quick_saves < 15

-- that of new parts
abbrev pub made_of : (save : FastSave) (parts : NewParts) → CanBeFastSaved save → AreNewParts save parts → Made
made_of save parts can is = record {
  ready = ready save can is.formed is.items;
  clx = is.clx;
  printed = is.printed;
  few_saves = is.few_saves;
}

abbrev pub the_save : Made → FastSave
the_save m = m.ready.save

abbrev pub new_fib : Made → FibFields
new_fib m = fast_fib (the_save m) m.clx

abbrev pub new_wd : Made → List ℕ
new_wd m = fast_wd (the_save m) m.clx

-- where the FIB ends, in the old stream and in the new one, and what is behind it
abbrev pub fib_len : Made → ℕ
fib_len m = form_size (the_save m).fib.form

abbrev pub old_rest : Made → List ℕ
old_rest m = drop (fib_len m) (old_wd (the_save m))

-- ---- its parts

-- FIB and old bytes and zeros; units and zeros; pages of characters; pages of paragraphs; Sepxes
pub record Parts : Type 0 where
  pub front : List ℕ
  pub text : List ℕ
  pub chp : List ℕ
  pub pap : List ℕ
  pub sepx : List ℕ

abbrev pub added_units : Made → List ℕ
added_units m = map (λ (item : Item). item.unit) (the_save m).added

abbrev pub parts_of : Made → Parts
parts_of m = record {
  front = filled (the_save m).base 0 (written_fib (new_fib m) ++ old_rest m);
  text = padded_to_unit 512 0 (units_bytes (added_units m));
  chp = (added_pages Chpx (the_save m)).bytes;
  pap = (added_pages Papx (the_save m)).bytes;
  sepx = planned_sepxes (the_save m).places (sections_of (the_save m).document.main);
}

abbrev pub joined_parts : Parts → List ℕ
joined_parts p = p.front ++ (p.text ++ (p.chp ++ (p.pap ++ p.sepx)))

pub wd_parts : (m : Made) → new_wd m ≡ joined_parts (parts_of m)
unfolding fast_wd added_bytes
wd_parts m = refl

pub parts_cut : (p : Parts) →
    (joined_parts p ≡ (p.front ++ p.text) ++ (p.chp ++ (p.pap ++ p.sepx)))
    × ((joined_parts p ≡ (p.front ++ (p.text ++ p.chp)) ++ (p.pap ++ p.sepx))
    × (joined_parts p ≡ (p.front ++ (p.text ++ (p.chp ++ p.pap))) ++ (p.sepx ++ [])))
parts_cut p = (simp (append_assoc) refl, (simp (append_assoc) refl, simp (append_assoc, append-nil) refl))

-- ---- the FIB

pub allowed : (m : Made) → AreAllowed (fast_entries (the_save m) m.clx)
allowed m = table_allowed (the_save m).document (fast_text (the_save m) m.clx)

pub table_small : (m : Made) → length (fast_table (the_save m) m.clx) < 2 ^ 31
table_small m = m.ready.can.table m.clx m.printed

parts_small : (m : Made) → length (table_parts (the_save m) m.clx) < 2 ^ 32
parts_small m = omega (arith, table_small m, parts_within (the_save m) m.clx)

pub counts_by : (r : Ready) → AreFibCcps (story_counts r.save.document r.save.ends)
counts_by r =
    let d = r.save.document in
    let ends = r.save.ends in
    let right = is_valid r in
    let some = (main_ends d right).some in
    let most = right.few in
    let notes = length-flat_map (λ (text : List Item). text) d.notes in
    let heads = length-flat_map (λ (text : List Item). text) d.heads in
    let note_slots = length-story_slots d.notes ends.notes in
    let head_slots = length-story_slots d.heads ends.heads in
    let counted = sum-three (story_counts d ends) refl in
    record {
      three = refl;
      main = omega (arith, some);
      all = omega (
        arith,
        counted,
        some,
        most,
        notes,
        heads,
        note_slots,
        head_slots,
        length-loose_if ends.notes,
        length-loose_if ends.heads,
      );
    }

counts_are : (m : Made) → AreFibCcps (story_counts (the_save m).document (the_save m).ends)
counts_are m = counts_by m.ready

pub pairs_count : (m : Made) → length (new_fib m).pairs ≡ kept_pairs
unfolding fast_fib
pairs_count m = (entries_are_pairs (fast_entries (the_save m) m.clx) (allowed m)).count

-- ---- how long the parts are

pub record Sizes (m : Made) : Type 0 where
  pub fib : length (written_fib (new_fib m)) ≡ fib_len m
  pub old : length (written_fib (new_fib m) ++ old_rest m) ≡ length (old_wd (the_save m))
  pub front : length (parts_of m).front ≡ (the_save m).base
  pub text : length (parts_of m).text ≡ 512 * ((2 * length (the_save m).added + 511) / 512)
  pub units : length (units_bytes (added_units m)) ≡ 2 * length (the_save m).added
  pub chp : length (parts_of m).chp ≡ 512 * length (added_pages Chpx (the_save m)).starts
  pub pap : length (parts_of m).pap ≡ 512 * length (added_pages Papx (the_save m)).starts

pub sizes : (m : Made) → Sizes m
sizes m =
    let r = m.ready in
    let base = base_is r in
    let long = base.long in
    let behind = base.behind in
    let fib : length (written_fib (new_fib m)) ≡ fib_len m = length-written_fib (new_fib m) (pairs_count m)
    ∙ ap form_size (form_stays (the_save m) m.clx) in
    let rest = length-drop (fib_len m) (old_wd (the_save m)) in
    let both = length-append (written_fib (new_fib m)) (old_rest m) in
    let old : length (written_fib (new_fib m) ++ old_rest m) ≡ length (old_wd (the_save m)) =
    omega (arith, fib, rest, both, long) in
    let body = body_sizes r in
    record {
      fib = fib;
      old = old;
      front = length-filled (the_save m).base 0 (written_fib (new_fib m) ++ old_rest m) (omega (arith, old, behind));
      text = body.text;
      units = body.units;
      chp = (pages_whole Chpx r).size;
      pap = (pages_whole Papx r).size;
    }

-- where the pages and the Sepxes begin
pub record Places (m : Made) : Type 0 where
  pub characters : length ((parts_of m).front ++ (parts_of m).text) ≡ 512 * first_page Chpx (the_save m)
  pub paragraphs :
      length ((parts_of m).front ++ ((parts_of m).text ++ (parts_of m).chp)) ≡ 512 * first_page Papx (the_save m)
  pub sections :
      length ((parts_of m).front ++ ((parts_of m).text ++ ((parts_of m).chp ++ (parts_of m).pap)))
      ≡ added_pages_end (the_save m)

pub places : (m : Made) → Places m
places m =
    let p = parts_of m in
    let size = sizes m in
    let whole = (base_is m.ready).whole in
    let a1 = length-append p.front p.text in
    let a2 = length-append p.front (p.text ++ p.chp) in
    let a3 = length-append p.text p.chp in
    let a4 = length-append p.front (p.text ++ (p.chp ++ p.pap)) in
    let a5 = length-append p.text (p.chp ++ p.pap) in
    let a6 = length-append p.chp p.pap in
    record {
      characters = omega (arith, a1, size.front, size.text, whole);
      paragraphs = omega (arith, a2, a3, size.front, size.text, size.chp, whole);
      sections = omega (arith, a4, a5, a6, size.front, size.text, size.chp, size.pap, whole);
    }

-- the properties of sections fit Sepxes
pub sections_fit : (r : Ready) (k : ℕ) (section : ℕ × Properties) →
    slice_get (sections_of r.save.document.main) k ≡ Some section → FitsSepx section.1
sections_fit r k section here =
    let d = r.save.document in
    let from = collected_from (λ (item : Item). item.sect) 0 d.main k section here in
    let formed = All_at IsFormedItem d.main from.index from.item r.formed.main.each from.here in
    let right = ((is_valid r).texts Main d.main refl).short from.index from.item from.here in
    record { formed = formed.maps.sect section.1 from.has; short = right.sect section.1 from.has }

-- the Sepxes are short
short_sepxes : (m : Made) → length (parts_of m).sepx ≤ 503 * 500000
short_sepxes m =
    let d = (the_save m).document in
    let planned =
    length-planned (the_save m).places (sections_of d.main) (λ k section here. (sections_fit m.ready k section
    here).short) in
    let few = few_collected (λ (item : Item). item.sect) 0 d.main in
    let right = is_valid m.ready in
    let most = right.few in
    omega (arith, planned, few, most)

pub short_added : (m : Made) → length (added_bytes (the_save m)) + (the_save m).base < 2 ^ 30
unfolding added_bytes
short_added m =
    let p = parts_of m in
    let r = m.ready in
    let size = sizes m in
    let room = r.can.room in
    let sepx = short_sepxes m in
    let a1 = length-append p.text (p.chp ++ (p.pap ++ p.sepx)) in
    let a2 = length-append p.chp (p.pap ++ p.sepx) in
    let a3 = length-append p.pap p.sepx in
    omega (arith, a1, a2, a3, size.text, size.chp, size.pap, room, sepx)

pub length-new_wd : (m : Made) → length (new_wd m) ≡ (the_save m).base + length (added_bytes (the_save m))
unfolding fast_wd
length-new_wd m =
    let size = sizes m in
    let a = length-append (parts_of m).front (added_bytes (the_save m)) in
    omega (arith, a, size.front)

-- ---- the FIB is read

-- what a FIB keeps is what the document carries
abbrev pub kept_of : Carried → KeptFib
kept_of carried = record { lid = carried.lid; lid_fe = carried.lid_fe; flags = carried.flags }

pub kept_is : (r : Ready) → kept_of r.save.document.carried ≡ r.save.fib.kept
kept_is r =
    let held = r.can.held.document_is.carried in
    let same : kept_of r.save.document.carried ≡ kept_of r.can.saved.carried = ap kept_of r.can.carried in
    let read : kept_of r.can.saved.carried ≡ (fib_fields (the_text r).wd).kept =
    (λ i. record { lid = held.lid i; lid_fe = held.lid_fe i; flags = held.flags i }) in
    same ∙ (read ∙ ap (λ (fib : FibFields). fib.kept) (sym r.can.fib))

pub is_fib : (m : Made) → IsFib (new_fib m)
unfolding fast_fib
is_fib m =
    let save = the_save m in
    let r = m.ready in
    let carried = r.formed.carried in
    let short = short_added m in
    let few = m.few_saves in
    let kept = kept_is r in
    let which = ap (λ (fib : FibFields). fib.which_table) r.can.fib in
    record {
      languages = subst (λ (k : KeptFib). (k.lid < 2 ^ 16) × (k.lid_fe < 2 ^ 16)) kept carried.languages;
      flags = subst (λ (k : KeptFib). IsKeptFlags k.flags) kept carried.flags;
      quick_saves = omega (arith, few);
      which_table = omega (arith, which);
      cb_mac = omega (arith, short);
      counts = counts_are m;
      pairs = entries_are_pairs (fast_entries save m.clx) (allowed m);
      wide = entries_are_wide (fast_entries save m.clx) (parts_small m);
    }

pub record IsFibRead (m : Made) : Type 0 where
  pub rules : Hold (fib_rules (new_wd m))
  pub fields : fib_fields (new_wd m) ≡ new_fib m

fib_first : (m : Made) → (more : List ℕ) × (new_wd m ≡ written_fib (new_fib m) ++ more)
unfolding filled
fib_first m =
    let save = the_save m in
    let fib = written_fib (new_fib m) in
    let old = old_rest m in
    let zeros = replicate (save.base - length (fib ++ old)) 0 in
    let p = parts_of m in
    let rest = p.text ++ (p.chp ++ (p.pap ++ p.sepx)) in (
      old ++ (zeros ++ rest),
      wd_parts m ∙ (append_assoc (fib ++ old) zeros rest ∙ append_assoc fib old (zeros ++ rest)),
    )

pub fib_read : (m : Made) → IsFibRead m
fib_read m =
    let first = fib_first m in
    let read = read_back (new_fib m) first.0 (is_fib m) in
    record {
      rules = subst (λ wd. Hold (fib_rules wd)) (sym first.1) read.0;
      fields = ap fib_fields first.1 ∙ read.1;
    }

-- ---- what is kept

bytes_kept : (m : Made) (i : ℕ) → fib_end (old_wd (the_save m)) ≤ i → i < length (old_wd (the_save m)) →
    slice_index (new_wd m) i ≡ slice_index (old_wd (the_save m)) i
bytes_kept m i low high =
    let save = the_save m in
    let size = sizes m in
    let base = base_is m.ready in
    let behind = base.behind in
    let fib = written_fib (new_fib m) in
    let end = fib_len m in
    let old = old_rest m in
    let p = parts_of m in
    let rest = p.text ++ (p.chp ++ (p.pap ++ p.sepx)) in
    let there : end ≡ fib_size (old_wd save) = ap form_size (form_is m.ready) in
    let at : i ≡ length fib + (i - end) = omega (arith, size.fib, low, there) in
    let back : end + (i - end) ≡ i = omega (arith, low, there) in
    let one : slice_index (new_wd m) i ≡ slice_index p.front i =
    ap (λ (wd : List ℕ). slice_index wd i) (wd_parts m)
    ∙ get_or_append_left p.front rest 0 i (omega (arith, size.front, high, behind)) in
    let two : slice_index p.front i ≡ slice_index (fib ++ old) i =
    filled_at save.base 0 (fib ++ old) i (omega (arith, size.old, high)) in
    let three : slice_index (fib ++ old) i ≡ slice_index old (i - end) =
    ap (slice_index (fib ++ old)) at ∙ get_or-append-add fib old (i - end) 0 in
    let four : slice_index old (i - end) ≡ slice_index (old_wd save) i =
    get_or-drop end (old_wd save) (i - end) 0 ∙ ap (slice_index (old_wd save)) back in
    one ∙ (two ∙ (three ∙ four))

-- the FIB has the form of the old one
form_kept : (m : Made) → fib_form (new_wd m) ≡ fib_form (old_wd (the_save m))
form_kept m =
    ap (λ (fib : FibFields). fib.form) (fib_read m).fields ∙ (form_stays (the_save m) m.clx ∙ form_is m.ready)

pub keeps_bytes : (m : Made) → KeepsBytes (old_wd (the_save m)) (new_wd m)
keeps_bytes m =
    let len = length-new_wd m in
    let behind = (base_is m.ready).behind in
    record { longer = omega (arith, len, behind); bytes = bytes_kept m; form = form_kept m }

pub keeps_pages : (m : Made) →
    KeepsPages (old_stream (the_save m)) (fast_saved_text (the_save m) m.clx).stream (the_save m).base
keeps_pages m = record {
  bytes = keeps_bytes m;
  within = (base_is m.ready).behind;
  characters = ranges_are_kept Chpx m.ready;
  paragraphs = ranges_are_kept Papx m.ready;
}

-- ---- what is added

unit_there : (m : Made) (k : ℕ) (item : Item) → slice_get (the_save m).added k ≡ Some item →
    u16_at (new_wd m) ((the_save m).base + 2 * k) ≡ item.unit
unfolding padded_to_unit
unit_there m k item here =
    let save = the_save m in
    let p = parts_of m in
    let units = added_units m in
    let zeros : List ℕ = replicate (units_for 512 (length (units_bytes units)) * 512 - length (units_bytes units)) 0 in
    let rest = p.chp ++ (p.pap ++ p.sepx) in
    let size = sizes m in
    let within = slice_get_within save.added k item here in
    let count = length-map save.added (λ (item : Item). item.unit) in
    let at : save.base + 2 * k ≡ length p.front + 2 * k = ap (λ n. n + 2 * k) (sym size.front) in
    let unit : slice_index units k ≡ item.unit =
    get_or_from_slice_get units k item.unit 0 (get-map (λ (i : Item). i.unit) save.added k item here) in
    let small = (All_at IsWritableItem save.added k item (items_writable m.ready) here).unit in
    ap (λ wd. u16_at wd (save.base + 2 * k)) (wd_parts m)
    ∙ (ap (λ n. u16_at (joined_parts p) n) at
    ∙ (number_at-after p.front (p.text ++ rest) (2 * k) 2
    ∙ (number_at-before p.text rest (2 * k) 2 (omega (arith, size.text, within))
    ∙ (number_at-before (units_bytes units) zeros (2 * k) 2 (omega (arith, size.units, within))
    ∙ (entry_at 2 units k (2 * k) (omega (arith, count, within)) (omega (arith, unit, small)) refl ∙ unit)))))

runs_of : (m : Made) → AreRunsOf (plan_of (the_save m)) (added_runs Chpx (the_save m)) (added_runs Papx (the_save m))
runs_of m =
    let save = the_save m in
    let items = save.added in
    record {
      character = λ k given here.
          let found = from_map given_of items k given here in
          let run = character_run save.base items k found.0 found.1.0 in
          (run.0, (run.1.0, run.1.1 ∙ ap (λ (g : GivenUnit). g.chp) found.1.1));
      paragraph = λ k given mark here marked.
          let found = from_map given_of items k given here in
          let own = ap (λ (g : GivenUnit). g.mark) found.1.1 ∙ marked in
          let run = paragraph_run save.base items k found.0 mark found.1.0 own in
          let some : 0 < length items = omega (arith, slice_get_within items k found.0 found.1.0) in
          let holds = (marks_added m.ready some).holds (save.base + 2 * k) run.0 run.1.0 in
          (holds.wide, (holds.in_run, (holds.istd ∙ run.1.1.0, holds.maps ∙ run.1.1.1)));
    }

some_items : (kind : PageKind) (r : Ready) → 0 < length (added_runs kind r.save) → 0 < length r.save.added
some_items kind r some = elim (cases_lt 0 (length r.save.added)) [
  | inl any ↦ any
  | inr none ↦
      let runs = ap length (none_there kind r none) in
      absurd (omega (arith, some, runs))
]

row_there : (kind : PageKind) (m : Made) → 0 < length (added_runs kind (the_save m)) →
    IsPageRow kind (new_wd m) (added_runs kind (the_save m)) (first_page kind (the_save m))
row_there Chpx m some =
    let added = added_are Chpx m.ready (some_items Chpx m.ready some) in
    let p = parts_of m in
    let room = have_room m.ready in
    let few = (pages_whole Chpx m.ready).few in
    record {
      pages = added_pages Chpx (the_save m);
      before = p.front ++ p.text;
      behind = p.pap ++ p.sepx;
      right = added.right;
      numbers = added.numbers;
      pages_are = pages_are Chpx m.ready;
      some = some;
      low = room.low;
      high = omega (arith, room.characters, few);
      begins = (places m).characters;
      there = wd_parts m ∙ (parts_cut p).0;
    }
row_there Papx m some =
    let added = added_are Papx m.ready (some_items Papx m.ready some) in
    let p = parts_of m in
    let room = have_room m.ready in
    let few = (pages_whole Papx m.ready).few in
    let low = room.low in
    record {
      pages = added_pages Papx (the_save m);
      before = p.front ++ (p.text ++ p.chp);
      behind = p.sepx;
      right = added.right;
      numbers = added.numbers;
      pages_are = pages_are Papx m.ready;
      some = some;
      low = omega (arith, low);
      high = omega (arith, room.paragraphs, few);
      begins = (places m).paragraphs;
      there = wd_parts m ∙ (parts_cut p).1.0;
    }

-- the table names the pages of the row
named : (kind : PageKind) (m : Made) → 0 < length (added_runs kind (the_save m)) →
    (row : IsPageRow kind (new_wd m) (added_runs kind (the_save m)) (first_page kind (the_save m))) →
    row.pages ≡ added_pages kind (the_save m) → NamesRow row (fast_bin_table kind (the_save m))
unfolding fast_bin_table
named kind m some row same =
    let r = m.ready in
    let save = the_save m in
    let runs = added_runs kind save in
    let first = first_page kind save in
    let added = added_are kind r (some_items kind r some) in
    let old = old_bins kind save in
    let bins = kept_bins old save.base in
    let own : List Bin = numbered_bins first (added_pages kind save).starts in
    let more : own ≡ row_bins row = ap (λ (pages : Pages). numbered_bins first pages.starts) (sym same) in
    let end : bins_end kind save ≡ last_fc runs = sym added.last in
    let place = runs_begin kind save in
    let printable : ArePrintableBins (bins ++ row_bins row) (last_fc runs) =
    subst (λ (n : ℕ). ArePrintableBins (bins ++ row_bins row) n) end
    (subst (λ (b : List Bin). ArePrintableBins (bins ++ b) (bins_end kind save)) more (bins_printable kind r)) in
    let begins : place ≤ slice_index (bin_fcs (row_bins row) (last_fc runs)) 0 =
    subst (λ (n : ℕ). place ≤ slice_index (bin_fcs (row_bins row) n) 0) end
    (subst (λ (b : List Bin). place ≤ slice_index (bin_fcs b (bins_end kind save)) 0) more (begins_there kind r)) in
    let both =
    longer_tables_name_both kind (new_wd m) runs first place old bins row
    (first_are_before old place bins (kept_low kind r)) printable begins in
    let table : printed_bin (bins ++ row_bins row) (last_fc runs) ≡ printed_bin (bins ++ own) (bins_end kind save) =
    (λ i. printed_bin (bins ++ sym more i) (sym end i)) in
    subst (λ (t : List ℕ). NamesRow row t) table both.names

pub have_row : (kind : PageKind) (m : Made) →
    HaveRow kind (new_wd m) (fast_bin_table kind (the_save m)) (added_runs kind (the_save m))
unfolding row_there
have_row Chpx m some =
    let row = row_there Chpx m some in (first_page Chpx (the_save m), (row, named Chpx m some row refl))
have_row Papx m some =
    let row = row_there Papx m some in (first_page Papx (the_save m), (row, named Papx m some row refl))

pub written_plan : (m : Made) → IsWrittenPlan (plan_of (the_save m)) (fast_saved_text (the_save m) m.clx).stream
written_plan m =
    let save = the_save m in
    let base = base_is m.ready in
    let low = base.low in
    let size = sizes m in
    let len = ap length (wd_parts m) in
    let p = parts_of m in
    let a1 = length-append p.front (p.text ++ (p.chp ++ (p.pap ++ p.sepx))) in
    let a2 = length-append p.text (p.chp ++ (p.pap ++ p.sepx)) in
    let count = length-map save.added given_of in
    record {
      behind_fib = omega (arith, low, form_size-most (fib_form (new_wd m)));
      within = omega (arith, len, a1, a2, count, size.front, size.text);
      units = λ k given here.
          let found = from_map given_of save.added k given here in
          unit_there m k found.0 found.1.0 ∙ ap (λ (g : GivenUnit). g.unit) found.1.1;
      characters = added_runs Chpx save;
      paragraphs = added_runs Papx save;
      runs = runs_of m;
      character_row = have_row Chpx m;
      paragraph_row = have_row Papx m;
    }
