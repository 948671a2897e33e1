-- What is counted of a text, run by run, and how long the lists are that a save has of it.
use Rattle.std.specs.Prelude.{slice_get, replicate, is_some, All}
use Rattle.std.specs.Prelude.{if◌then◌else◌, ◌==◌, sum_by}
use Rattle.std.proofs.Common.{◌≡◌, ◌≢◌, ◌∙◌, refl, sym, ap, subst, ℕ, ◌+◌, ◌*◌, ◌%◌, ◌<◌, ◌≤◌, List, [], ◌∷◌}
use Rattle.std.proofs.Common.{◌++◌, length, map, take, drop, get_or, Bool, false, Option, Some, None, arith}
use Rattle.std.proofs.Common.{length-append, eqb-true}
use Rattle.std.proofs.lemmas.Bool.{cond_both, eqb-false}
use Rattle.std.proofs.lemmas.List.{take_more, take_all}
use Rattle.std.proofs.lemmas.List.Sums.{sum_by-append, sum_by-cons, sum_by_push, sum_by-le, sum_by_more_le}
use Rattle.std.proofs.lemmas.List.Elements.{All-weaker}
use Rattle.std.proofs.lemmas.List.Folds.{sum_by-replicate}
use Rattle.std.proofs.lemmas.Option.{slice_get_within, get_or_from_slice_get}
use Rattle.doc_bits.specs.Number.{number_bytes}
use Rattle.doc_bits.proofs.Public.{All_at, All-from_slice_get, from_map, length-number_bytes}
use Rattle.prop_map.specs.Settings.{Properties}
use Rattle.prop_map.specs.Printing.{printed_list}
use Rattle.style_sheet.specs.Counted.{written_counted}
use Rattle.document_bookmarks.specs.declared.bookmark_order.Bookmark.{Bookmark}
use Rattle.doc_parts.proofs.Public.{sum_by-of_map}
use Rattle.run_lists.specs.declared.runs.Run.{Run}
use Rattle.run_lists.specs.Spread.{expanded, total_len}
use Rattle.run_lists.proofs.Public.{spread-nil, spread_push, extent_more}
use Rattle.doc_model.specs.declared.item.Item.{Item}
use Rattle.doc_model.specs.Collected.{entry_before, collected, joined_texts}
use Rattle.doc_columns.specs.declared.attached.Attached.{Attached}
use Rattle.doc_columns.specs.Attached.{attached_of}
use Rattle.full_save.specs.declared.measures.Measure.{Measure}
use Rattle.full_save.specs.declared.measures.Measure.TheVariants.{Fields, SepxBytes}
use Rattle.full_save.specs.Sections.{is_plain_section, sepx_bytes, sepxes}
use Rattle.full_save.specs.TableText.{FitParts}
use Rattle.full_save.specs.Lengths.{one_if, sepx_length, measured, text_measure, IsMeasurable, bookmark_name_length}
use Rattle.full_save.proofs.ListLemmas.{drop_here}

-- ---- runs

-- the first runs count so much
pub record AreMeasured (measure : Measure) (runs : List (Run Attached)) (k sum : ℕ) : Type 0 where
  pub is : sum ≡ sum_by (measured measure) (expanded (take k runs))
  pub bound : sum ≤ 503 * total_len (take k runs)

pub none_measured : (measure : Measure) (runs : List (Run Attached)) → AreMeasured measure runs 0 0
none_measured measure runs = record {
  is = sym (ap (sum_by (measured measure)) (spread-nil Attached));
  bound = omega arith;
}

pub one_measured : (measure : Measure) (runs : List (Run Attached)) (k sum more : ℕ) (run : Run Attached) →
    slice_get runs k ≡ Some run → more ≡ run.count * measured measure run.value → more ≤ run.count * 503 →
    AreMeasured measure runs k sum → AreMeasured measure runs (k + 1) (sum + more)
one_measured measure runs k sum more run here is bound so =
    let f = measured measure in
    let below = slice_get_within runs k run here in
    let same : get_or runs k run ≡ run = get_or_from_slice_get runs k run run here in
    let count : (get_or runs k run).count ≡ run.count = ap (λ (r : Run Attached). r.count) same in
    let front : take (k + 1) runs ≡ take k runs ++ run ∷ [] =
    take_more runs k run below ∙ ap (λ (r : Run Attached). take k runs ++ r ∷ []) same in
    let before = so.bound in
    record {
      is = (λ i. so.is i + (is ∙ sym (sum_by-replicate f run.count run.value)) i)
          ∙ sym (sum_by-append f (expanded (take k runs)) (replicate run.count run.value))
          ∙ ap (sum_by f) (sym (ap expanded front ∙ spread_push (take k runs) run));
      bound = omega (arith, before, bound, count, extent_more runs k run below);
    }

pub all_measured : (measure : Measure) (runs : List (Run Attached)) (k sum : ℕ) → length runs ≤ k →
    AreMeasured measure runs k sum → AreMeasured measure runs (length runs) sum
all_measured measure runs k sum all so =
    let same : take k runs ≡ take (length runs) runs =
    take_all k runs all ∙ sym (take_all (length runs) runs (omega arith)) in
    record {
      is = so.is ∙ ap (λ (rs : List (Run Attached)). sum_by (measured measure) (expanded rs)) same;
      bound = subst (λ (rs : List (Run Attached)). sum ≤ 503 * total_len rs) same so.bound;
    }

-- what is beside the items of a text is measurable
pub attached_measurable : (measure : Measure) (text : List Item) (attachments : List Attached) → attachments ≡ map
    attached_of text →
    All (λ (item : Item). IsMeasurable measure (attached_of item)) text → All (IsMeasurable measure) attachments
attached_measurable measure text attachments is all =
    subst (All (IsMeasurable measure)) (sym is)
    (All-from_slice_get (IsMeasurable measure) (map attached_of text) (λ k attached here.
    let from = from_map attached_of text k attached here in
    subst (IsMeasurable measure) from.1.1
    (All_at (λ (item : Item). IsMeasurable measure (attached_of item)) text k from.0 all from.1.0)))

-- a text counts what is beside its items
pub attached_measure : (measure : Measure) (text : List Item) (attachments : List Attached) → attachments ≡ map
    attached_of text →
    sum_by (measured measure) attachments ≡ text_measure measure text
attached_measure measure text attachments is =
    ap (sum_by (measured measure)) is ∙ sum_by-of_map (measured measure) attached_of text

-- where no Sepxes are measured, all is measurable
pub plain_measurable : (measure : Measure) (text : List Item) → ¬ (measure ≡ SepxBytes) →
    All (λ (item : Item). IsMeasurable measure (attached_of item)) text
plain_measurable measure text other =
    All-from_slice_get (λ (item : Item). IsMeasurable measure (attached_of item)) text
    (λ k item here is. absurd (other is))

-- ---- texts

-- what is left to be counted of texts
pub record AreTextsMeasured (texts : List (List Item)) (k units fields : ℕ) : Type 0 where
  pub units_are : units + length (joined_texts (drop k texts)) ≡ length (joined_texts texts)
  pub fields_are :
      fields + text_measure Fields (joined_texts (drop k texts)) ≡ text_measure Fields (joined_texts texts)
  pub bound : fields ≤ 503 * units

pub one_text_measured : (texts : List (List Item)) (k units fields more count : ℕ) (text : List Item) →
    slice_get texts k ≡ Some text → count ≡ length text → more ≡ text_measure Fields text →
    more ≤ 503 * length text → AreTextsMeasured texts k units fields →
    AreTextsMeasured texts (k + 1) (units + count) (fields + more)
one_text_measured texts k units fields more count text here long is bound so =
    let below = slice_get_within texts k text here in
    let same : get_or texts k [] ≡ text = get_or_from_slice_get texts k text [] here in
    let rest = joined_texts (drop (k + 1) texts) in
    let left : joined_texts (drop k texts) ≡ text ++ rest =
    ap joined_texts (drop_here texts k [] below) ∙ ap (λ (t : List Item). t ++ rest) same in
    let length_left = ap length left ∙ length-append text rest in
    let fields_left = ap (text_measure Fields) left
    ∙ sum_by-append (λ (item : Item). measured Fields (attached_of item)) text rest in
    let u = so.units_are in
    let f = so.fields_are in
    let b = so.bound in
    record {
      units_are = omega (arith, u, length_left, long);
      fields_are = omega (arith, f, fields_left, is);
      bound = omega (arith, b, bound, long);
    }

-- ---- lists that have an entry for some items

entry_long : {A : Type 0} (o : Option A) (cp : ℕ) (rest : List (ℕ × A)) →
    length (entry_before o cp rest) ≡ one_if (is_some o) + length rest
entry_long None cp rest = omega arith
entry_long (Some value) cp rest = omega arith

pub length-collected : {A : Type 0} (what : Item → Option A) (has : Item → ℕ) (from : ℕ) (items : List Item) →
    ((item : Item) → one_if (is_some (what item)) ≡ has item) →
    length (collected what from items) ≡ sum_by has items
unfolding collected
length-collected what has from [] each = refl
length-collected what has from (item ∷ items) each =
    entry_long (what item) from (collected what (from + 1) items)
    ∙ (λ i. each item i + length-collected what has (from + 1) items each i)
    ∙ sym (sum_by-cons has item items)

entry_sepxes : (o : Option Properties) (cp : ℕ) (rest : List (ℕ × Properties)) →
    length (sepxes (entry_before o cp rest)) ≡ sepx_length o + length (sepxes rest)
entry_sepxes None cp rest = omega arith
entry_sepxes (Some properties) cp rest = length-append (sepx_bytes properties) (sepxes rest)

-- the Sepxes of a text are as long as its sections count
pub length-sepxes_from : (from : ℕ) (main : List Item) →
    length (sepxes (collected (λ (item : Item). item.sect) from main)) ≡ text_measure SepxBytes main
unfolding collected
length-sepxes_from from [] = refl
length-sepxes_from from (item ∷ items) =
    entry_sepxes item.sect from (collected (λ (item : Item). item.sect) (from + 1) items)
    ∙ ap (λ (n : ℕ). sepx_length item.sect + n) (length-sepxes_from (from + 1) items)
    ∙ sym (sum_by-cons (λ (item : Item). measured SepxBytes (attached_of item)) item items)

-- the pad of so many bytes, by what is left of them
pad_long : (left : ℕ) → left < 2 → length {A = ℕ} (if left == 0 then [] else 0 ∷ []) ≡ left
pad_long left few =
    let none : List ℕ = [] in
    let one : List ℕ = 0 ∷ [] in
    cond_both (left == 0) none one (λ (pad : List ℕ). length pad ≡ left) (λ is. sym (eqb-true left 0 is))
    (λ is. omega (arith, few, eqb-false left 0 is))

-- the bytes of a counted list, with its pad
pub length-counted_list : (bytes : List ℕ) → length (written_counted bytes) ≡ 2 + length bytes + length bytes % 2
length-counted_list bytes =
    let pad : List ℕ = if length bytes % 2 == 0 then [] else 0 ∷ [] in
    omega (
      arith,
      pad_long (length bytes % 2) (omega arith),
      length-append (number_bytes 2 (length bytes)) (bytes ++ pad),
      length-append bytes pad,
      length-number_bytes 2 (length bytes),
    )

-- the Sepx of a section that has properties
pub sepx_long : (properties : Properties) (plain : Bool) → is_plain_section properties ≡ plain → false ≡ plain →
    length (sepx_bytes properties) ≡ 2 + length (printed_list properties) + length (printed_list properties) % 2
sepx_long properties plain is not =
    let bytes : Bool → List ℕ = λ b. if b then [] else written_counted (printed_list properties) in
    ap (λ (b : Bool). length (bytes b)) (is ∙ sym not) ∙ length-counted_list (printed_list properties)

-- ---- bookmarks

-- no name is long
pub names_few : (bookmarks : List Bookmark) → FitParts bookmarks →
    sum_by bookmark_name_length bookmarks ≤ length bookmarks * 512
names_few bookmarks fit =
    sum_by-le bookmark_name_length 512 bookmarks
    (All-weaker (λ (b : Bookmark). length b.name ≤ 255) (λ (b : Bookmark). bookmark_name_length b ≤ 512)
    (λ b short. omega (arith, short)) bookmarks fit.short)

-- a bookmark more
pub names_next : (bookmarks : List Bookmark) (k : ℕ) (bookmark : Bookmark) →
    slice_get bookmarks k ≡ Some bookmark →
    sum_by bookmark_name_length (take (k + 1) bookmarks) ≡ sum_by bookmark_name_length (take k bookmarks) +
    bookmark_name_length bookmark
names_next bookmarks k bookmark here =
    let below = slice_get_within bookmarks k bookmark here in
    let same = get_or_from_slice_get bookmarks k bookmark bookmark here in
    ap (sum_by bookmark_name_length)
    (take_more bookmarks k bookmark below ∙ ap (λ (b : Bookmark). take k bookmarks ++ b ∷ []) same)
    ∙ sum_by_push bookmark_name_length (take k bookmarks) bookmark

pub names_short : (bookmarks : List Bookmark) (k : ℕ) (bookmark : Bookmark) → slice_get bookmarks k ≡ Some bookmark →
    FitParts bookmarks →
    sum_by bookmark_name_length (take k bookmarks) + bookmark_name_length bookmark ≤ 16000 * 512
names_short bookmarks k bookmark here fit =
    let below = slice_get_within bookmarks k bookmark here in
    let same = get_or_from_slice_get bookmarks k bookmark bookmark here in
    let few = fit.few in
    omega (
      arith,
      few,
      names_few bookmarks fit,
      sum_by_more_le bookmark_name_length bookmarks k bookmark below,
      ap bookmark_name_length same,
    )

-- where there are some
pub some_names : (bookmarks : List Bookmark) → length bookmarks ≢ 0 →
    6 + sum_by bookmark_name_length bookmarks ≡ (if length bookmarks == 0 then 0 else 6 + sum_by bookmark_name_length
    bookmarks)
some_names bookmarks some =
    let all = 6 + sum_by bookmark_name_length bookmarks in
    cond_both (length bookmarks == 0) 0 all (λ (k : ℕ). all ≡ k)
    (λ none. absurd (some (eqb-true (length bookmarks) 0 none))) (λ more. refl)
