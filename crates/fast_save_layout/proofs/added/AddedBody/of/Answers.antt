use Rattle.std.proofs.Common.{◌≡◌, ◌∙◌, ◌+◌, ◌*◌, ◌≤◌, ◌++◌, ℕ, List, length, refl, sym, ap, subst, arith}
use Rattle.std.specs.Prelude.{All}
use Rattle.cfb_layout.specs.Sectors.{units_for}
use Rattle.fkp_pages.specs.declared.kind.PageKind.TheVariants.{Chpx, Papx}
use Rattle.fkp_pages.specs.Bin.{IsBinTable, ArePrintableBins, printed_bin}
use Rattle.fkp_pages.specs.Runs.{AreRuns}
use Rattle.fkp_pages.specs.Packed.{pages_of}
use Rattle.fkp_pages.specs.InARow.{numbered_bins}
use Rattle.doc_model.specs.declared.item.Item.{Item}
use Rattle.doc_model.specs.declared.document.Document.{Document}
use Rattle.doc_model.specs.Collected.{sections_of}
use Rattle.full_save.specs.Runs.{text_runs}
use Rattle.full_save.specs.Sections.{HasSavableSection}
use Rattle.full_save.proofs.Public.{sections_savable, few_items}
use Rattle.fast_save_layout.specs.Saves.{FastSave, fast_save_of}
use Rattle.fast_save_layout.specs.KeptBins.{kept_bins}
use Rattle.fast_save_layout.specs.MarkRuns.{mark_runs, mark_runs_end}
use Rattle.fast_save_layout.specs.PlannedSections.{planned_sepxes, planned_seds}
use Rattle.fast_save_layout.specs.Appended.{fast_bin_table, fast_seds}
use Rattle.fast_save_layout.proofs.ReadyLemmas.{ready, is_valid, characters_within, paragraphs_within, characters_named}
use Rattle.fast_save_layout.proofs.ReadyLemmas.{paragraphs_named, old_table_is, runs_right, have_room}
use Rattle.fast_save_layout.proofs.TableLemmas.{bins_printable}
use Rattle.fast_save_layout.proofs.BodyLemmas.{body_end, body_short, body_is}
use Rattle.fast_save_layout.proofs.SavedLemmas.{printable}
use Rattle.fast_save_layout.proofs.AppendSteps.{pages_made}
use Rattle.fast_save_layout.proofs.added.AddedBody.of.Goals as goal

pub old_part-table-requires : goal.old_part-table-requires
old_part-table-requires c =
    let save : FastSave = fast_save_of c.args.old.now c.args.document.now c.args.text.now in
    let r = ready save c.requires.kept c.requires.formed c.len-len.ensures.formed in
    characters_within r

pub add_characters-requires-clause-old : goal.add_characters-requires-clause-old
add_characters-requires-clause-old c =
    let save : FastSave = fast_save_of c.args.old.now c.args.document.now c.args.text.now in
    let r = ready save c.requires.kept c.requires.formed c.len-len.ensures.formed in
    let old = c.old_part-table.ensures ∙ characters_named r in
    subst IsBinTable (sym old) (old_table_is Chpx r)

pub add_characters-requires-clause-runs : goal.add_characters-requires-clause-runs
add_characters-requires-clause-runs c =
    let save : FastSave = fast_save_of c.args.old.now c.args.document.now c.args.text.now in
    let r = ready save c.requires.kept c.requires.formed c.len-len.ensures.formed in
    let same : c.args.text.now.added.now ≡ c.args.text.now.added.now = refl in
    subst (λ (xs : List Item). AreRuns Chpx (text_runs Chpx save.base xs)) (sym same) (runs_right Chpx r)

pub add_characters-requires-clause-room : goal.add_characters-requires-clause-room
add_characters-requires-clause-room c =
    let save : FastSave = fast_save_of c.args.old.now c.args.document.now c.args.text.now in
    let r = ready save c.requires.kept c.requires.formed c.len-len.ensures.formed in
    let same : c.args.text.now.added.now ≡ c.args.text.now.added.now = refl in
    let first = c.pages_for-first.ensures ∙ ap (λ (n : ℕ). units_for 512 (save.base + 2 * n)) c.len-len.ensures.len in
    subst (λ (x : ℕ × List Item). x.0 + length (text_runs Chpx save.base x.1) ≤ 4194304)
    (λ i. (sym first i, sym same i)) (have_room r).characters

pub add_characters-requires-clause-printable : goal.add_characters-requires-clause-printable
add_characters-requires-clause-printable c =
    let save : FastSave = fast_save_of c.args.old.now c.args.document.now c.args.text.now in
    let r = ready save c.requires.kept c.requires.formed c.len-len.ensures.formed in
    let same : c.args.text.now.added.now ≡ c.args.text.now.added.now = refl in
    let old = c.old_part-table.ensures ∙ characters_named r in
    let first = c.pages_for-first.ensures ∙ ap (λ (n : ℕ). units_for 512 (save.base + 2 * n)) c.len-len.ensures.len in
    subst (λ (x : List ℕ × (ℕ × List Item)). ArePrintableBins
    (kept_bins x.0 save.base ++ numbered_bins x.1.0 (pages_of Chpx (text_runs Chpx save.base x.1.1)).starts)
    (save.base + 2 * length x.1.1)) (λ i. (sym old i, (sym first i, sym same i))) (bins_printable Chpx r)

pub old_part-table-requires-2 : goal.old_part-table-requires-2
old_part-table-requires-2 c =
    let save : FastSave = fast_save_of c.args.old.now c.args.document.now c.args.text.now in
    let r = ready save c.requires.kept c.requires.formed c.len-len.ensures.formed in
    paragraphs_within r

pub add_paragraphs-requires-clause-old : goal.add_paragraphs-requires-clause-old
add_paragraphs-requires-clause-old c =
    let save : FastSave = fast_save_of c.args.old.now c.args.document.now c.args.text.now in
    let r = ready save c.requires.kept c.requires.formed c.len-len.ensures.formed in
    let old = c.old_part-table-2.ensures ∙ paragraphs_named r in
    subst IsBinTable (sym old) (old_table_is Papx r)

pub add_paragraphs-requires-clause-runs : goal.add_paragraphs-requires-clause-runs
add_paragraphs-requires-clause-runs c =
    let save : FastSave = fast_save_of c.args.old.now c.args.document.now c.args.text.now in
    let r = ready save c.requires.kept c.requires.formed c.len-len.ensures.formed in
    let same : c.args.text.now.added.now ≡ c.args.text.now.added.now = refl in
    let old = c.old_part-table-2.ensures ∙ paragraphs_named r in
    subst (λ (x : List ℕ × List Item). AreRuns Papx (mark_runs x.0 save.base x.1)) (λ i. (sym old i, sym same i))
    (runs_right Papx r)

pub add_paragraphs-requires-clause-room : goal.add_paragraphs-requires-clause-room
add_paragraphs-requires-clause-room c =
    let save : FastSave = fast_save_of c.args.old.now c.args.document.now c.args.text.now in
    let r = ready save c.requires.kept c.requires.formed c.len-len.ensures.formed in
    let same : c.args.text.now.added.now ≡ c.args.text.now.added.now = refl in
    let first = c.pages_for-first.ensures ∙ ap (λ (n : ℕ). units_for 512 (save.base + 2 * n)) c.len-len.ensures.len in
    let next = c.in_ok-characters.ensures.next
    ∙ (λ i. first i + length (pages_of Chpx (text_runs Chpx save.base (same i))).starts) in
    let old = c.old_part-table-2.ensures ∙ paragraphs_named r in
    subst (λ (x : List ℕ × (ℕ × List Item)). x.1.0 + length (mark_runs x.0 save.base x.1.1) ≤ 4194304)
    (λ i. (sym old i, (sym next i, sym same i))) (have_room r).paragraphs

pub add_paragraphs-requires-clause-printable : goal.add_paragraphs-requires-clause-printable
add_paragraphs-requires-clause-printable c =
    let save : FastSave = fast_save_of c.args.old.now c.args.document.now c.args.text.now in
    let r = ready save c.requires.kept c.requires.formed c.len-len.ensures.formed in
    let same : c.args.text.now.added.now ≡ c.args.text.now.added.now = refl in
    let old = c.old_part-table-2.ensures ∙ paragraphs_named r in
    let first = c.pages_for-first.ensures ∙ ap (λ (n : ℕ). units_for 512 (save.base + 2 * n)) c.len-len.ensures.len in
    let next = c.in_ok-characters.ensures.next
    ∙ (λ i. first i + length (pages_of Chpx (text_runs Chpx save.base (same i))).starts) in
    subst (λ (x : List ℕ × (ℕ × List Item)). ArePrintableBins
    (kept_bins x.0 save.base ++ numbered_bins x.1.0 (pages_of Papx (mark_runs x.0 save.base x.1.1)).starts)
    (mark_runs_end x.0 save.base x.1.1)) (λ i. (sym old i, (sym next i, sym same i))) (bins_printable Papx r)

pub append_sections-requires-clause-sections : goal.append_sections-requires-clause-sections
append_sections-requires-clause-sections c =
    let save : FastSave = fast_save_of c.args.old.now c.args.document.now c.args.text.now in
    let r = ready save c.requires.kept c.requires.formed c.len-len.ensures.formed in
    subst (λ (d : Document). All HasSavableSection d.main) (sym c.document.view_is)
    (sections_savable save.document r.formed (is_valid r))

pub append_sections-requires-clause-few : goal.append_sections-requires-clause-few
append_sections-requires-clause-few c =
    let save : FastSave = fast_save_of c.args.old.now c.args.document.now c.args.text.now in
    let r = ready save c.requires.kept c.requires.formed c.len-len.ensures.formed in
    let few = few_items save.document (is_valid r) in
    let stories = few.stories in
    let len = ap (λ (d : Document). length d.main) c.document.view_is in
    omega (arith, stories, len)

pub append_sections-requires-clause-room : goal.append_sections-requires-clause-room
append_sections-requires-clause-room c =
    let save : FastSave = fast_save_of c.args.old.now c.args.document.now c.args.text.now in
    let r = ready save c.requires.kept c.requires.formed c.len-len.ensures.formed in
    let same : c.args.text.now.added.now ≡ c.args.text.now.added.now = refl in
    let old = c.old_part-table-2.ensures ∙ paragraphs_named r in
    let made = pages_made save c.args.text.now.added.now c.old_part-table-2.result.now c.new-bytes.result
    c.add_text.new.out c.add_characters.new.out c.add_paragraphs.new.out same old c.new-bytes.ensures
    c.in_ok-add_text.ensures c.in_ok-characters.ensures.bytes c.in_ok-paragraphs.ensures.bytes in
    let len = ap length made in
    let short = body_short r in
    omega (arith, len, short)

pub counts_of-requires-clause-main : goal.counts_of-requires-clause-main
counts_of-requires-clause-main c =
    let save : FastSave = fast_save_of c.args.old.now c.args.document.now c.args.text.now in
    let r = ready save c.requires.kept c.requires.formed c.len-len.ensures.formed in
    let few = few_items save.document (is_valid r) in
    let n = few.stories in
    omega (arith, n)

pub counts_of-requires-clause-notes : goal.counts_of-requires-clause-notes
counts_of-requires-clause-notes c =
    let save : FastSave = fast_save_of c.args.old.now c.args.document.now c.args.text.now in
    let r = ready save c.requires.kept c.requires.formed c.len-len.ensures.formed in
    let few = few_items save.document (is_valid r) in
    let n = few.notes in
    omega (arith, n)

pub counts_of-requires-clause-heads : goal.counts_of-requires-clause-heads
counts_of-requires-clause-heads c =
    let save : FastSave = fast_save_of c.args.old.now c.args.document.now c.args.text.now in
    let r = ready save c.requires.kept c.requires.formed c.len-len.ensures.formed in
    let few = few_items save.document (is_valid r) in
    let n = few.heads in
    omega (arith, n)

pub print_clx-requires : goal.print_clx-requires
print_clx-requires c =
    let save : FastSave = fast_save_of c.args.old.now c.args.document.now c.args.text.now in
    let r = ready save c.requires.kept c.requires.formed c.len-len.ensures.formed in
    printable r

pub returns : goal.returns
unfolding fast_bin_table
returns c =
    let save : FastSave = fast_save_of c.args.old.now c.args.document.now c.args.text.now in
    let r = ready save c.requires.kept c.requires.formed c.len-len.ensures.formed in
    let same : c.args.text.now.added.now ≡ c.args.text.now.added.now = refl in
    let first = c.pages_for-first.ensures ∙ ap (λ (n : ℕ). units_for 512 (save.base + 2 * n)) c.len-len.ensures.len in
    let next = c.in_ok-characters.ensures.next
    ∙ (λ i. first i + length (pages_of Chpx (text_runs Chpx save.base (same i))).starts) in
    let characters = c.old_part-table.ensures ∙ characters_named r in
    let paragraphs = c.old_part-table-2.ensures ∙ paragraphs_named r in
    let made = pages_made save c.args.text.now.added.now c.old_part-table-2.result.now c.new-bytes.result
    c.add_text.new.out c.add_characters.new.out c.add_paragraphs.new.out same paragraphs c.new-bytes.ensures
    c.in_ok-add_text.ensures c.in_ok-characters.ensures.bytes c.in_ok-paragraphs.ensures.bytes in
    let main : c.document.inside.main ≡ save.document.main = ap (λ (d : Document). d.main) c.document.view_is in
    let table : c.in_ok-characters.characters.table ≡ fast_bin_table Chpx save = c.in_ok-characters.ensures.table
    ∙ (λ i. printed_bin
    (kept_bins (characters i) save.base
    ++ numbered_bins (first i) (pages_of Chpx (text_runs Chpx save.base (same i))).starts)
    (save.base + 2 * length (same i))) in
    let marks : c.in_ok-paragraphs.paragraphs.table ≡ fast_bin_table Papx save = c.in_ok-paragraphs.ensures.table
    ∙ (λ i. printed_bin
    (kept_bins (paragraphs i) save.base
    ++ numbered_bins (next i) (pages_of Papx (mark_runs (paragraphs i) save.base (same i))).starts)
    (mark_runs_end (paragraphs i) save.base (same i))) in
    let seds : c.in_ok-seds.seds ≡ fast_seds save = c.in_ok-seds.ensures.seds
    ∙ ((λ i. planned_seds 0 (save.base + length (made i)) save.places (sections_of (main i)))
    ∙ ap (λ (n : ℕ). planned_seds 0 n save.places (sections_of save.document.main)) (body_end r)) in
    record {
      items = r.items;
      bytes = c.in_ok-seds.ensures.bytes
          ∙ ((λ i. made i ++ planned_sepxes save.places (sections_of (main i))) ∙ body_is save);
      printed = c.in_ok-print_clx.ensures;
      text = (λ i. record {
        counts = c.counts_of.ensures i;
        seds = seds i;
        characters = table i;
        paragraphs = marks i;
        clx = c.in_ok-print_clx.field-0;
      });
    }
