-- What the calls of a save make, as the layout says it.
use Rattle.std.specs.Prelude.{replicate}
use Rattle.std.proofs.Common.{◌≡◌, ◌∙◌, ap, ℕ, ◌+◌, ◌-◌, ◌<◌, ◌^◌, true, List, [], ◌++◌, length, map, drop, arith}
use Rattle.std.proofs.Common.{length-append}
use Rattle.cfb_layout.specs.Sectors.{filled, padded_to_unit}
use Rattle.fib_form.specs.FibFields.{FibFields}
use Rattle.fib_form.specs.FibBytes.{written_fib}
use Rattle.fkp_pages.specs.declared.kind.PageKind.TheVariants.{Chpx, Papx}
use Rattle.fkp_pages.specs.Packed.{pages_of}
use Rattle.doc_model.specs.declared.document.Document.{Document}
use Rattle.doc_model.specs.declared.item.Item.{Item}
use Rattle.doc_model.specs.Collected.{sections_of}
use Rattle.full_save.specs.Runs.{text_runs}
use Rattle.full_save.specs.TableStream.{entries_pairs}
use Rattle.full_save.specs.WordDocument.{units_bytes}
use Rattle.save_laws.specs.Slots.{story_counts}
use Rattle.fast_save_layout.specs.declared.saving.EditedText.{EditedText}
use Rattle.fast_save_layout.specs.declared.saving.SavedFile.{SavedFile}
use Rattle.fast_save_layout.specs.declared.writing.NewParts.{NewParts}
use Rattle.fast_save_layout.specs.Saves.{FastSave, fast_save_of}
use Rattle.fast_save_layout.specs.Kept.{CanBeFastSaved}
use Rattle.fast_save_layout.specs.Bodies.{AreNewParts, streams_by, change_by}
use Rattle.fast_save_layout.specs.MarkRuns.{mark_runs}
use Rattle.fast_save_layout.specs.PlannedSections.{planned_sepxes}
use Rattle.fast_save_layout.specs.RenewedStreams.{renewed_streams}
use Rattle.fast_save_layout.specs.Appended.{table_name_of, old_wd, old_bins, added_bytes, fast_entries, fast_table}
use Rattle.fast_save_layout.specs.Appended.{fast_fib}
use Rattle.fast_save_layout.specs.Appended.{fast_wd, fast_streams, change_of}
use Rattle.fast_save_layout.proofs.PlannedLemmas.{length-planned}
use Rattle.fast_save_layout.proofs.ReadyLemmas.{Ready, is_valid}
use Rattle.fast_save_layout.proofs.BodyLemmas.{text_part, text_and_pages, body_is, body_short}
use Rattle.fast_save_layout.proofs.WrittenLemmas.{sections_fit, made_of, sizes}
use Rattle.full_save.proofs.Public.{few_collected}

-- the units and the pages, part by part
pub pages_made : (save : FastSave) (items : List Item) (old none first second third : List ℕ) → items ≡ save.added →
    old ≡ old_bins Papx save → none ≡ [] →
    first ≡ none ++ padded_to_unit 512 0 (units_bytes (map (λ (item : Item). item.unit) items)) →
    second ≡ first ++ (pages_of Chpx (text_runs Chpx save.base items)).bytes →
    third ≡ second ++ (pages_of Papx (mark_runs old save.base items)).bytes → third ≡ text_and_pages save
pages_made save items old none first second third same bins empty one two three =
    let a : first ≡ text_part save =
    one ∙ (λ i. empty i ++ padded_to_unit 512 0 (units_bytes (map (λ (item : Item). item.unit) (same i)))) in
    let b = two ∙ (λ i. a i ++ (pages_of Chpx (text_runs Chpx save.base (same i))).bytes) in
    three ∙ (λ i. b i ++ (pages_of Papx (mark_runs (bins i) save.base (same i))).bytes)

-- what is added is short
pub added_short : (r : Ready) → r.save.base + length (added_bytes r.save) < 2 ^ 30
added_short r =
    let d = r.save.document in
    let sepx = planned_sepxes r.save.places (sections_of d.main) in
    let whole = ap length (body_is r.save) in
    let both = length-append (text_and_pages r.save) sepx in
    let short = body_short r in
    let planned =
    length-planned r.save.places (sections_of d.main) (λ k section here. (sections_fit r k section here).short) in
    let few = few_collected (λ (item : Item). item.sect) 0 d.main in
    let right = is_valid r in
    let most = right.few in
    omega (arith, whole, both, short, planned, few, most)

pub fib_made : (save : FastSave) (clx : List ℕ) (fib : FibFields) (mac : ℕ) (counts : List ℕ)
    (pairs : List (ℕ × ℕ)) →
    fib ≡ record save.fib {
      quick_saves = save.fib.quick_saves + 1;
      complex = true;
      cb_mac = mac;
      ccps = counts;
      pairs = pairs;
    } → mac ≡ save.base + length (added_bytes save) → counts ≡ story_counts save.document save.ends →
    pairs ≡ entries_pairs (fast_entries save clx) → fib ≡ fast_fib save clx
unfolding fast_fib
fib_made save clx fib mac counts pairs is mac_is counts_is pairs_is = is ∙ (λ i. record {
  form = save.fib.form;
  kept = save.fib.kept;
  quick_saves = save.fib.quick_saves + 1;
  complex = true;
  which_table = save.fib.which_table;
  cb_mac = mac_is i;
  ccps = counts_is i;
  pairs = pairs_is i;
})

-- the streams that are laid out, and what is changed where the file keeps its own sectors
pub streams_made : (old : SavedFile) (document : Document) (text : EditedText) (parts : NewParts)
    (can : CanBeFastSaved (fast_save_of old document text)) (are : AreNewParts (fast_save_of old document text) parts) →
    streams_by old text.base parts ≡ fast_streams (fast_save_of old document text) are.clx
unfolding fast_streams fast_wd
streams_made old document text parts can are =
    let save = fast_save_of old document text in
    let m = made_of save parts can are in
    let wd = old_wd save in
    let name = table_name_of save in
    let fib = written_fib (fast_fib save are.clx) in
    (λ i. renewed_streams name (filled save.base 0 (are.fib i ++ drop (length (are.fib i)) wd) ++ are.added i)
    (are.table i) save.contents.streams)
    ∙ ap (λ (n : ℕ). renewed_streams name (filled save.base 0 (fib ++ drop n wd) ++ added_bytes save) (fast_table save
    are.clx) save.contents.streams) (sizes m).fib

pub change_made : (old : SavedFile) (document : Document) (text : EditedText) (parts : NewParts)
    (are : AreNewParts (fast_save_of old document text) parts) →
    change_by old text.base parts ≡ change_of (fast_save_of old document text) are.clx
change_made old document text parts are =
    let save = fast_save_of old document text in
    λ i. record {
      fib = are.fib i;
      tail = replicate (save.base - length (old_wd save)) 0 ++ are.added i;
      table = are.table i;
    }
