-- A text that is loaded in place of the one that the streams name reads the same, so its document is meant.
use Rattle.std.specs.Prelude.{slice_range}
use Rattle.std.proofs.Common.{◌≡◌, ◌∙◌, ◌+◌, ◌*◌, ◌≤◌, refl, sym, ap, subst, inl, inr, ℕ, List, length}
use Rattle.std.proofs.Common.{arith}
use Rattle.fib_form.specs.Fib.{form_size, fib_pair, table_part}
use Rattle.fib_form.specs.FibFields.{FibFields}
use Rattle.fib_form.specs.TableParts.{pair_number}
use Rattle.fib_form.specs.declared.form.Form.TheVariants.{Early}
use Rattle.fib_form.specs.declared.stories.StoryKind.TheVariants.{Main}
use Rattle.fib_form.specs.declared.table_parts.TablePart.{TablePart}
use Rattle.fib_form.specs.declared.table_parts.TablePart.TheVariants.{Stshf, PlcfSed, PlcfBteChpx, PlcfBtePapx, PlfLst}
use Rattle.fkp_pages.specs.declared.kind.PageKind.{PageKind}
use Rattle.fkp_pages.specs.declared.kind.PageKind.TheVariants.{Chpx, Papx}
use Rattle.fkp_pages.specs.Fkp.{HasRunAnswer}
use Rattle.fkp_pages.specs.Bin.{IsBinPage, page_at}
use Rattle.fkp_pages.specs.Properties.{IsListAnswered, HasListAt}
use Rattle.page_copies.specs.Pages.{bin_table_of}
use Rattle.page_copies.specs.Laws.{HasListBefore}
use Rattle.page_copies.proofs.Public.{list_before}
use Rattle.style_sheet.specs.Sheet.{Sheet}
use Rattle.style_sheet.specs.Stsh.{HasStyleSheet}
use Rattle.doc_parts.specs.declared.lists.Sed.{Sed}
use Rattle.doc_parts.specs.Sections.{AreSections}
use Rattle.file_rules.specs.Source.{table_part_bytes, story_length}
use Rattle.file_rules.specs.SheetRules.{HasSheet}
use Rattle.file_rules.specs.SectionRules.{section_fc, sepx_list}
use Rattle.file_rules.specs.ListRules.{HasLevels}
use Rattle.file_rules.specs.FileRules.{FileText, doc_source_of}
use Rattle.file_rules.proofs.Public.{index_of_get}
use Rattle.doc_meaning.specs.Skipped.{bin_tables_of, plcf_sed, fc_sepx}
use Rattle.doc_meaning.specs.Lifted.{KeepsLists, KeepsSections, IsOtherPart, ReadsTheSame}
use Rattle.doc_meaning.specs.Loaded.{MaySkipPages, KeepsTable, IsLoadedFor, LoadedIsMeant}
use Rattle.doc_meaning.proofs.BehindLemmas.{range_behind, length_behind}
use Rattle.doc_meaning.proofs.EarlyLemmas.{pair_same, story_same}
use Rattle.doc_meaning.proofs.TableLemmas.{other_part, sheet_before, StandBehindPart, levels_stand}
use Rattle.doc_meaning.proofs.ApartLemmas.{reads_apart}
use Rattle.doc_meaning.proofs.DocumentLemmas.{means_same}

-- ---- parts

-- the bytes of a part, where a FIB has these fields
part_at_pair : (old new : FileText) (part : TablePart) → IsLoadedFor old new →
    table_part_bytes (doc_source_of new) part ≡ table_part old.wd new.table (pair_number part)
part_at_pair old new part loaded =
    ap (λ (p : ℕ × ℕ). slice_range new.table p.0 (p.0 + p.1)) (pair_same old.wd new.wd part loaded.fields)

pub table_part_kept : (old : FileText) (table : List ℕ) (part : TablePart) → KeepsTable old table → IsOtherPart part →
    table_part old.wd table (pair_number part) ≡ table_part old.wd old.table (pair_number part)
table_part_kept old table part (inl skips) other = other_part old.wd old.table table part skips other
table_part_kept old table part (inr same) other = ap (λ (t : List ℕ). table_part old.wd t (pair_number part)) same

pub part_kept : (old new : FileText) (part : TablePart) → IsLoadedFor old new → IsOtherPart part →
    table_part_bytes (doc_source_of new) part ≡ table_part_bytes (doc_source_of old) part
part_kept old new part loaded other =
    part_at_pair old new part loaded ∙ table_part_kept old new.table part loaded.table other

-- the style sheet
table_sheet_kept : (old : FileText) (table : List ℕ) (sheet : Sheet) → KeepsTable old table →
    HasStyleSheet (table_part old.wd table (pair_number Stshf)) sheet →
    HasStyleSheet (table_part old.wd old.table (pair_number Stshf)) sheet
table_sheet_kept old table sheet (inl skips) has = sheet_before old.wd old.table table sheet skips has
table_sheet_kept old table sheet (inr same) has =
    subst (λ (t : List ℕ). HasStyleSheet (table_part old.wd t (pair_number Stshf)) sheet) same has

sheet_kept : (old new : FileText) (sheet : Sheet) → IsLoadedFor old new → HasSheet (doc_source_of new) sheet →
    HasSheet (doc_source_of old) sheet
sheet_kept old new sheet loaded has =
    table_sheet_kept old new.table sheet loaded.table
    (subst (λ b. HasStyleSheet b sheet) (part_at_pair old new Stshf loaded) has)

-- the levels of the lists
table_levels_kept : (old : FileText) (table : List ℕ) (len : ℕ) (bytes : List ℕ) → KeepsTable old table →
    StandBehindPart table (fib_pair old.wd (pair_number PlfLst)).0 (table_part old.wd old.table (pair_number PlfLst))
    len
    bytes →
    StandBehindPart old.table (fib_pair old.wd (pair_number PlfLst)).0 (table_part old.wd old.table (pair_number
    PlfLst)) len
    bytes
table_levels_kept old table len bytes (inl skips) stand = levels_stand old.wd old.table table len bytes skips stand
table_levels_kept old table len bytes (inr same) stand =
    let part = table_part old.wd old.table (pair_number PlfLst) in
    subst (λ (t : List ℕ). StandBehindPart t (fib_pair old.wd (pair_number PlfLst)).0 part len bytes) same stand

levels_kept : (old new : FileText) (bytes : List ℕ) → IsLoadedFor old new → HasLevels (doc_source_of new) bytes →
    HasLevels (doc_source_of old) bytes
levels_kept old new bytes loaded has =
    let pair = fib_pair old.wd (pair_number PlfLst) in
    let at : (fib_pair new.wd (pair_number PlfLst)).0 ≡ pair.0 =
    ap (λ (p : ℕ × ℕ). p.0) (pair_same old.wd new.wd PlfLst loaded.fields) in
    let part : table_part_bytes (doc_source_of new) PlfLst ≡ table_part_bytes (doc_source_of old) PlfLst =
    part_kept old new PlfLst loaded (λ e. absurd (omega (arith, e))) in
    let here : StandBehindPart new.table pair.0 (table_part_bytes (doc_source_of new) PlfLst) has.len bytes =
    subst (λ n. StandBehindPart new.table n (table_part_bytes (doc_source_of new) PlfLst) has.len bytes) at
    (has.have, has.bytes_are) in
    let stand : StandBehindPart new.table pair.0 (table_part_bytes (doc_source_of old) PlfLst) has.len bytes =
    subst (λ b. StandBehindPart new.table pair.0 b has.len bytes) part here in
    let next = table_levels_kept old new.table has.len bytes loaded.table stand in
    record { len = has.len; have = next.0; bytes_are = next.1 }

-- ---- pages

pub bin_same : (kind : PageKind) (old new : FileText) → IsLoadedFor old new →
    bin_table_of kind (bin_tables_of new.wd new.table) ≡ bin_table_of kind (bin_tables_of old.wd old.table)
bin_same Chpx old new loaded = part_kept old new PlcfBteChpx loaded (λ e. absurd (omega (arith, e)))
bin_same Papx old new loaded = part_kept old new PlcfBtePapx loaded (λ e. absurd (omega (arith, e)))

-- a list as it is
same_list : (kind : PageKind) (bin wd : List ℕ) (fc : ℕ) (made : List ℕ) (has : HasListAt kind bin wd fc made) →
    2 ≤ has.number → HasListBefore kind bin wd fc made
same_list kind bin wd fc made has low = record { list = made; has = has; low = low; copy = inr refl }

list_in_pages : (kind : PageKind) (old : FileText) (pages : List ℕ) (fc : ℕ) (made : List ℕ) → MaySkipPages old pages →
    (has : HasListAt kind (bin_table_of kind (bin_tables_of old.wd old.table)) pages fc made) → 2 ≤ has.number →
    HasListBefore kind (bin_table_of kind (bin_tables_of old.wd old.table)) old.wd fc made
list_in_pages kind old pages fc made (inl skips) has low =
    list_before kind (bin_tables_of old.wd old.table) old.wd pages fc made skips has low
list_in_pages kind old pages fc made (inr same) has low =
    let bin = bin_table_of kind (bin_tables_of old.wd old.table) in
    subst (λ (w : List ℕ). HasListBefore kind bin w fc made) same (same_list kind bin pages fc made has low)

lists_kept : (kind : PageKind) (old new : FileText) → IsLoadedFor old new → KeepsLists kind old new
lists_kept kind old new loaded = λ fc made has low.
    let number = has.number in
    let pages = loaded.pages in
    let within = has.within in
    let len = length_behind pages new.wd (form_size Early) loaded.behind (omega (arith, low, within)) in
    let page : page_at new.wd number ≡ page_at pages number =
    range_behind pages new.wd (form_size Early) (512 * number) (512 * number + 512) loaded.behind
    (omega (arith, low)) in
    inl (list_in_pages kind old pages fc made loaded.kept_pages (record {
      number = number;
      named = subst (λ bin. IsBinPage bin fc number) (bin_same kind old new loaded) has.named;
      within = omega (arith, within, len);
      answer = has.answer;
      answers = subst (λ p. HasRunAnswer kind p fc has.answer) page has.answers;
      answered = subst (λ p. IsListAnswered kind p has.answer made) page has.answered;
    }) low)

-- ---- sections

pub pages_len : (old : FileText) (pages : List ℕ) → MaySkipPages old pages → length pages ≡ length old.wd
pages_len old pages (inl skips) = skips.len
pages_len old pages (inr same) = ap length same

sections_kept : (old new : FileText) → IsLoadedFor old new → KeepsSections old new
sections_kept old new loaded = λ list k has below sepx.
    let bytes = plcf_sed old.wd old.table in
    let part : table_part_bytes (doc_source_of new) PlcfSed ≡ bytes =
    part_kept old new PlcfSed loaded (λ e. absurd (omega (arith, e))) in
    let main_len = story_length (doc_source_of new) Main in
    let entries : AreSections bytes main_len list = subst (λ b. AreSections b main_len list) part has in
    let fc : section_fc list k ≡ fc_sepx bytes k =
    index_of_get (λ (sed : Sed). sed.sepx) list k _ (entries.leading.each k below) in
    let after = sepx.after_fib in
    let within = sepx.within in
    let len = length_behind loaded.pages new.wd (form_size Early) loaded.behind (omega (arith, after, within)) in
    let all = pages_len old loaded.pages loaded.kept_pages in
    let kept = loaded.sepxs k (omega (arith, below, entries.all)) (omega (arith, after, fc))
    (omega (arith, within, len, all, fc)) in
    ap (sepx_list new.wd) fc ∙ (kept.1 ∙ ap (sepx_list old.wd) (sym fc))

-- ---- the text

pub loaded_reads : (old new : FileText) → IsLoadedFor old new → ReadsTheSame old new
loaded_reads old new loaded = record {
  counts = λ story. story_same (doc_source_of old) (doc_source_of new) story loaded.fields;
  kept = ap (λ (f : FibFields). f.kept) loaded.fields;
  pairs = λ part plain. pair_same old.wd new.wd part loaded.fields;
  parts = λ part plain. part_kept old new part loaded plain.reads.no_sheet;
  sheet = λ sheet has. sheet_kept old new sheet loaded has;
  levels = λ bytes has. levels_kept old new bytes loaded has;
  places = loaded.places;
  units = loaded.units;
  lists = λ kind. lists_kept kind old new loaded;
  sections = sections_kept old new loaded;
}

pub loaded_is_meant : LoadedIsMeant
loaded_is_meant contents old table new lists document has_text clx loaded hold has from =
    means_same contents old (record { text = new; lists = lists; hold = hold; has = has }) document has_text
    (reads_apart old table new clx (loaded_reads (record old { table = table }) new loaded)) from
