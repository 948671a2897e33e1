use Rattle.doc_model.specs.declared.document.Document.{Document}
use Rattle.std.proofs.Common.{◌≡◌, ◌≤◌, ◌<◌, ◌+◌, ◌*◌, ◌^◌, ◌++◌, ℕ, List, length, ap, sym, subst, ◌∙◌, arith}
use Rattle.std.specs.Prelude.{All}
use Rattle.fkp_pages.specs.declared.kind.PageKind.TheVariants.{Chpx, Papx}
use Rattle.fkp_pages.specs.declared.lists.Run.{Run}
use Rattle.fkp_pages.specs.declared.lists.Bin.{Bin}
use Rattle.fkp_pages.specs.Bin.{ArePrintableBins, printed_bin}
use Rattle.fkp_pages.specs.Runs.{AreRuns}
use Rattle.fkp_pages.specs.Packed.{pages_of}
use Rattle.fkp_pages.specs.InARow.{numbered_bins}
use Rattle.cfb_layout.specs.Sectors.{units_for, padded_to_unit}
use Rattle.doc_model.specs.Collected.{sections_of}
use Rattle.full_save.specs.Text.{text_items}
use Rattle.full_save.specs.Sections.{sepxes, seds_from, HasSavableSection}
use Rattle.full_save.specs.WordDocument.{text_offset, text_bytes, document_pages, one_piece_clx}
use Rattle.full_save.specs.WordDocument.{first_character_page, first_paragraph_page, pages_end}
use Rattle.full_save.proofs.StreamLengths.{few_runs, few_pages}
use Rattle.full_save.proofs.TextLaidOut.{few_items, runs_are}
use Rattle.full_save.proofs.BodyLemmas.{length-units, last_fc-text_runs, sections_savable, bins_printable}
use Rattle.full_save.proofs.BodyLemmas.{text_and_pages, body_is}
use Rattle.full_save.proofs.BodyLemmas.{pages_end_is, pages_short}
use Rattle.full_save.proofs.word_document.WordBody.of.Goals as goal

pub overflow_mul-end : goal.overflow_mul-end
overflow_mul-end c =
    let few = few_items c.args.document.now c.requires.right in
    let units = length-units c.args.document.now c.args.text.now c.requires.text in
    omega arith

pub overflow_add-end : goal.overflow_add-end
overflow_add-end c =
    let few = few_items c.args.document.now c.requires.right in
    let units = length-units c.args.document.now c.args.text.now c.requires.text in
    omega arith

pub table_text-requires-clause-some : goal.table_text-requires-clause-some
table_text-requires-clause-some c =
    let few = few_items c.args.document.now c.requires.right in
    let units = length-units c.args.document.now c.args.text.now c.requires.text in
    omega arith

pub table_text-requires-clause-most : goal.table_text-requires-clause-most
table_text-requires-clause-most c =
    let few = few_items c.args.document.now c.requires.right in
    let units = length-units c.args.document.now c.args.text.now c.requires.text in
    omega arith

pub pages_for-first-requires : goal.pages_for-first-requires
pages_for-first-requires c =
    let few = few_items c.args.document.now c.requires.right in
    let units = length-units c.args.document.now c.args.text.now c.requires.text in
    omega arith

pub append_document-requires-clause-few : goal.append_document-requires-clause-few
append_document-requires-clause-few c =
    let few = few_items c.args.document.now c.requires.right in
    omega arith

pub append_chpx_pages-requires-clause-runs : goal.append_chpx_pages-requires-clause-runs
append_chpx_pages-requires-clause-runs c =
    let d = c.args.document.now in
    let formed = c.requires.formed in
    let right = c.requires.right in
    let text = c.requires.text in
    subst (λ (runs : List Run). AreRuns Chpx runs) (sym text.characters) (runs_are Chpx d formed right).right

pub append_papx_pages-requires-clause-runs : goal.append_papx_pages-requires-clause-runs
append_papx_pages-requires-clause-runs c =
    let d = c.args.document.now in
    let formed = c.requires.formed in
    let right = c.requires.right in
    let text = c.requires.text in
    subst (λ (runs : List Run). AreRuns Papx runs) (sym text.paragraphs) (runs_are Papx d formed right).right

pub append_chpx_pages-requires-clause-room : goal.append_chpx_pages-requires-clause-room
append_chpx_pages-requires-clause-room c =
    let d = c.args.document.now in
    let formed = c.requires.formed in
    let right = c.requires.right in
    let text = c.requires.text in
    let few = few_items d right in
    let units = length-units d c.args.text.now text in
    let len : c.args.text.now.len ≡ length (text_items d) = units in
    let first = c.pages_for-first.ensures in
    let runs = few_runs Chpx text_offset (text_items d) in
    let characters = ap length text.characters in
    omega arith

pub append_papx_pages-requires-clause-room : goal.append_papx_pages-requires-clause-room
append_papx_pages-requires-clause-room c =
    let d = c.args.document.now in
    let formed = c.requires.formed in
    let right = c.requires.right in
    let text = c.requires.text in
    let few = few_items d right in
    let units = length-units d c.args.text.now text in
    let len : c.args.text.now.len ≡ length (text_items d) = units in
    let first = c.pages_for-first.ensures in
    let runs = few_runs Chpx text_offset (text_items d) in
    let characters = ap length text.characters in
    let second = c.in_ok-second.ensures.next in
    let pages = few_pages Chpx d formed right in
    let starts = ap (λ (runs : List Run). length (pages_of Chpx runs).starts) text.characters in
    let later = few_runs Papx text_offset (text_items d) in
    let paragraphs = ap length text.paragraphs in
    omega arith

pub append_sepxes-requires-clause-sections : goal.append_sepxes-requires-clause-sections
append_sepxes-requires-clause-sections c =
    let d = c.args.document.now in
    let formed = c.requires.formed in
    let right = c.requires.right in
    subst (λ (x : Document). All HasSavableSection x.main) (sym c.document.view_is) (sections_savable d formed right)

pub append_sepxes-requires-clause-room : goal.append_sepxes-requires-clause-room
append_sepxes-requires-clause-room c =
    let d = c.args.document.now in
    let formed = c.requires.formed in
    let right = c.requires.right in
    let text = c.requires.text in
    let few = few_items d right in
    let units = length-units d c.args.text.now text in
    let len : c.args.text.now.len ≡ length (text_items d) = units in
    let one : c.append_document.new.out ≡ padded_to_unit 512 0 (text_bytes d) =
    c.in_ok-append_document.ensures ∙ ap (λ (xs : List ℕ). xs ++ padded_to_unit 512 0 (text_bytes d))
    c.new-bytes.ensures in
    let two : c.append_chpx_pages.new.out ≡ padded_to_unit 512 0 (text_bytes d) ++ (document_pages Chpx d).bytes =
    c.in_ok-second.ensures.bytes
    ∙ (ap (λ (xs : List ℕ). xs ++ (pages_of Chpx c.args.text.now.characters).bytes) one
    ∙ ap (λ (runs : List Run). padded_to_unit 512 0 (text_bytes d) ++ (pages_of Chpx runs).bytes) text.characters) in
    let three : c.append_papx_pages.new.out ≡ text_and_pages d =
    c.in_ok-append_papx_pages.ensures.bytes
    ∙ (ap (λ (xs : List ℕ). xs ++ (pages_of Papx c.args.text.now.paragraphs).bytes) two
    ∙ ap (λ (runs : List Run). (padded_to_unit 512 0 (text_bytes d) ++ (document_pages Chpx d).bytes) ++ (pages_of Papx
    runs).bytes) text.paragraphs) in
    let short = pages_short d formed right in
    let size = ap length three in
    omega arith

pub table_text-requires-clause-characters : goal.table_text-requires-clause-characters
table_text-requires-clause-characters c =
    let d = c.args.document.now in
    let formed = c.requires.formed in
    let right = c.requires.right in
    let text = c.requires.text in
    let few = few_items d right in
    let units = length-units d c.args.text.now text in
    let len : c.args.text.now.len ≡ length (text_items d) = units in
    let number : c.pages_for-first.result ≡ first_character_page d =
    c.pages_for-first.ensures ∙ ap (λ (n : ℕ). units_for 512 (text_offset + 2 * n)) len in
    let starts = ap (λ (runs : List Run). (pages_of Chpx runs).starts) text.characters in
    let character_bins : c.append_chpx_pages.new.bins ≡ numbered_bins (first_character_page d) (document_pages Chpx
    d).starts =
    c.in_ok-second.ensures.bins
    ∙ (ap (λ (xs : List Bin). xs ++ numbered_bins c.pages_for-first.result (pages_of Chpx
    c.args.text.now.characters).starts) c.new-characters.ensures
    ∙ (λ i. numbered_bins (number i) (starts i))) in
    let end : 1024 + 2 * c.args.text.now.len ≡ text_offset + 2 * length (text_items d) = ap (λ (n : ℕ). text_offset + 2
    * n)
    len in
    let pages = few_pages Chpx d formed right in
    let small : first_character_page d + length (document_pages Chpx d).starts ≤ 2 ^ 22 = omega arith in
    let printable = bins_printable Chpx d (first_character_page d) formed right small in
    subst (λ (bins : List Bin). ArePrintableBins bins (1024 + 2 * c.args.text.now.len)) (sym character_bins)
    (subst (λ (n : ℕ). ArePrintableBins (numbered_bins (first_character_page d) (document_pages Chpx d).starts) n)
    (sym end) printable)

pub table_text-requires-clause-paragraphs : goal.table_text-requires-clause-paragraphs
table_text-requires-clause-paragraphs c =
    let d = c.args.document.now in
    let formed = c.requires.formed in
    let right = c.requires.right in
    let text = c.requires.text in
    let few = few_items d right in
    let units = length-units d c.args.text.now text in
    let len : c.args.text.now.len ≡ length (text_items d) = units in
    let number : c.pages_for-first.result ≡ first_character_page d =
    c.pages_for-first.ensures ∙ ap (λ (n : ℕ). units_for 512 (text_offset + 2 * n)) len in
    let starts = ap (λ (runs : List Run). (pages_of Chpx runs).starts) text.characters in
    let character_bins : c.append_chpx_pages.new.bins ≡ numbered_bins (first_character_page d) (document_pages Chpx
    d).starts =
    c.in_ok-second.ensures.bins
    ∙ (ap (λ (xs : List Bin). xs ++ numbered_bins c.pages_for-first.result (pages_of Chpx
    c.args.text.now.characters).starts) c.new-characters.ensures
    ∙ (λ i. numbered_bins (number i) (starts i))) in
    let end : 1024 + 2 * c.args.text.now.len ≡ text_offset + 2 * length (text_items d) = ap (λ (n : ℕ). text_offset + 2
    * n)
    len in
    let pages = few_pages Chpx d formed right in
    let next : c.in_ok-second.second ≡ first_paragraph_page d =
    c.in_ok-second.ensures.next ∙ (λ i. number i + length (starts i)) in
    let later = ap (λ (runs : List Run). (pages_of Papx runs).starts) text.paragraphs in
    let paragraph_bins : c.append_papx_pages.new.bins ≡ numbered_bins (first_paragraph_page d) (document_pages Papx
    d).starts =
    c.in_ok-append_papx_pages.ensures.bins
    ∙ (ap (λ (xs : List Bin). xs ++ numbered_bins c.in_ok-second.second (pages_of Papx
    c.args.text.now.paragraphs).starts) c.new-paragraphs.ensures
    ∙ (λ i. numbered_bins (next i) (later i))) in
    let more = few_pages Papx d formed right in
    let small : first_paragraph_page d + length (document_pages Papx d).starts ≤ 2 ^ 22 = omega arith in
    let printable = bins_printable Papx d (first_paragraph_page d) formed right small in
    subst (λ (bins : List Bin). ArePrintableBins bins (1024 + 2 * c.args.text.now.len)) (sym paragraph_bins)
    (subst (λ (n : ℕ). ArePrintableBins (numbered_bins (first_paragraph_page d) (document_pages Papx d).starts) n)
    (sym end) printable)

pub returns : goal.returns
returns c =
    let d = c.args.document.now in
    let formed = c.requires.formed in
    let right = c.requires.right in
    let text = c.requires.text in
    let few = few_items d right in
    let units = length-units d c.args.text.now text in
    let len : c.args.text.now.len ≡ length (text_items d) = units in
    let one : c.append_document.new.out ≡ padded_to_unit 512 0 (text_bytes d) =
    c.in_ok-append_document.ensures ∙ ap (λ (xs : List ℕ). xs ++ padded_to_unit 512 0 (text_bytes d))
    c.new-bytes.ensures in
    let two : c.append_chpx_pages.new.out ≡ padded_to_unit 512 0 (text_bytes d) ++ (document_pages Chpx d).bytes =
    c.in_ok-second.ensures.bytes
    ∙ (ap (λ (xs : List ℕ). xs ++ (pages_of Chpx c.args.text.now.characters).bytes) one
    ∙ ap (λ (runs : List Run). padded_to_unit 512 0 (text_bytes d) ++ (pages_of Chpx runs).bytes) text.characters) in
    let three : c.append_papx_pages.new.out ≡ text_and_pages d =
    c.in_ok-append_papx_pages.ensures.bytes
    ∙ (ap (λ (xs : List ℕ). xs ++ (pages_of Papx c.args.text.now.paragraphs).bytes) two
    ∙ ap (λ (runs : List Run). (padded_to_unit 512 0 (text_bytes d) ++ (document_pages Chpx d).bytes) ++ (pages_of Papx
    runs).bytes) text.paragraphs) in
    let number : c.pages_for-first.result ≡ first_character_page d =
    c.pages_for-first.ensures ∙ ap (λ (n : ℕ). units_for 512 (text_offset + 2 * n)) len in
    let starts = ap (λ (runs : List Run). (pages_of Chpx runs).starts) text.characters in
    let character_bins : c.append_chpx_pages.new.bins ≡ numbered_bins (first_character_page d) (document_pages Chpx
    d).starts =
    c.in_ok-second.ensures.bins
    ∙ (ap (λ (xs : List Bin). xs ++ numbered_bins c.pages_for-first.result (pages_of Chpx
    c.args.text.now.characters).starts) c.new-characters.ensures
    ∙ (λ i. numbered_bins (number i) (starts i))) in
    let end : 1024 + 2 * c.args.text.now.len ≡ text_offset + 2 * length (text_items d) = ap (λ (n : ℕ). text_offset + 2
    * n)
    len in
    let pages = few_pages Chpx d formed right in
    let next : c.in_ok-second.second ≡ first_paragraph_page d =
    c.in_ok-second.ensures.next ∙ (λ i. number i + length (starts i)) in
    let later = ap (λ (runs : List Run). (pages_of Papx runs).starts) text.paragraphs in
    let paragraph_bins : c.append_papx_pages.new.bins ≡ numbered_bins (first_paragraph_page d) (document_pages Papx
    d).starts =
    c.in_ok-append_papx_pages.ensures.bins
    ∙ (ap (λ (xs : List Bin). xs ++ numbered_bins c.in_ok-second.second (pages_of Papx
    c.args.text.now.paragraphs).starts) c.new-paragraphs.ensures
    ∙ (λ i. numbered_bins (next i) (later i))) in
    let more = few_pages Papx d formed right in
    let sections = ap (λ (x : Document). sections_of x.main) c.document.view_is in
    let place : 1024 + length c.append_papx_pages.new.out ≡ pages_end d = ap (λ (xs : List ℕ). 1024 + length xs) three
    ∙ pages_end_is d formed right in
    let seds = c.in_ok-seds.ensures.seds ∙ (λ i. seds_from 0 (place i) (sections i)) in
    let positive : 0 < length (text_items d) = omega arith in
    let last_character = end ∙ sym (last_fc-text_runs Chpx text_offset (text_items d) positive) in
    let last_paragraph = end ∙ sym (last_fc-text_runs Papx text_offset (text_items d) positive) in
    record {
      bytes =
          c.in_ok-seds.ensures.bytes ∙ ((λ i. three i ++ sepxes (sections i)) ∙ body_is d);
      text =
          c.in_ok-table.ensures
          ∙ (λ i. record {
            counts = text.counts_are i;
            seds = seds i;
            characters = printed_bin (character_bins i) (last_character i);
            paragraphs = printed_bin (paragraph_bins i) (last_paragraph i);
            clx = one_piece_clx (len i);
          });
    }
