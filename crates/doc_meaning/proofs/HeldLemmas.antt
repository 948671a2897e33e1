-- The rules 33 to 57 hold of a text that is loaded in place of one of which they hold.
-- Nothing that they read of it changes by the codes that are skipped.
use Rattle.std.specs.Prelude.{slice_get, slice_index, slice_range}
use Rattle.std.proofs.Common.{◌≡◌, ◌≢◌, ◌⊎◌, ◌∙◌, ◌+◌, ◌-◌, ◌*◌, ◌<◌, ◌≤◌, refl, sym, ap, subst, inl, inr, ℕ, zero, suc}
use Rattle.std.proofs.Common.{List, [], ◌∷◌, length, map, take, drop, Option, Some, None, arith}
use Rattle.std.proofs.lemmas.Option.{none-some, same_Some}
use Rattle.doc_bits.specs.declared.places.Where.TheVariants.{Table}
use Rattle.doc_bits.specs.Number.{AreBytes, u16_at}
use Rattle.doc_bits.specs.Rules.{Hold, Nowhere}
use Rattle.doc_bits.specs.Places.{rules_in}
use Rattle.doc_bits.proofs.Public.{hold_in, length-range}
use Rattle.sprm_table.specs.Sprm.{HasSprmFaultAt}
use Rattle.prop_map.specs.Formed.{character_groups, paragraph_groups}
use Rattle.prop_map.specs.Modifiers.{no_modifier}
use Rattle.prop_map.proofs.Public.{IsPropertyMap-empty}
use Rattle.prl_skips.proofs.Public.{put_length, right_skips}
use Rattle.fib_form.specs.Fib.{form_size, fib_pair, table_part}
use Rattle.fib_form.specs.FibFields.{listed_pair}
use Rattle.fib_form.specs.TableParts.{pair_number}
use Rattle.fib_form.specs.declared.form.Form.TheVariants.{Early}
use Rattle.fib_form.specs.declared.stories.StoryKind.{StoryKind}
use Rattle.fib_form.specs.declared.stories.StoryKind.TheVariants.{Main, Notes, Heads}
use Rattle.fib_form.specs.declared.table_parts.TablePart.{TablePart}
use Rattle.fib_form.specs.declared.table_parts.TablePart.TheVariants.{Stshf, PlcfSed, PlfLst}
use Rattle.fib_versions.specs.Early.{early_pairs}
use Rattle.fkp_pages.specs.declared.kind.PageKind.{PageKind}
use Rattle.fkp_pages.specs.declared.kind.PageKind.TheVariants.{Chpx, Papx}
use Rattle.fkp_pages.specs.declared.kind.RunAnswer.{RunAnswer}
use Rattle.fkp_pages.specs.declared.kind.RunAnswer.TheVariants.{Found, Empty, NoRun, BadCount, Leaves}
use Rattle.fkp_pages.specs.Fkp.{HasRunAnswer, least_list}
use Rattle.fkp_pages.specs.Bin.{IsBinTable, IsBinPage, page_at}
use Rattle.fkp_pages.specs.Properties.{IsListAnswered, HasListAt}
use Rattle.fkp_pages.specs.Runs.{run_groups}
use Rattle.page_copies.specs.Pages.{bin_table_of}
use Rattle.page_copies.specs.Laws.{IsListCopy}
use Rattle.page_copies.proofs.Public.{HasListAfter, list_after, same_after}
use Rattle.part_skips.proofs.Public.{sheet_holds}
use Rattle.piece_table.specs.Piece.{UnitPlace, flat_pieces}
use Rattle.style_sheet.specs.Stsh.{stsh_rules}
use Rattle.direct_props.specs.Laws.{IsValidModifier}
use Rattle.direct_props.specs.PageRules.{IsValidPlace, AreValidPlaces}
use Rattle.direct_props.specs.Stretches.{HasValidList}
use Rattle.direct_props.specs.RightLists.{HasValidListAt}
use Rattle.direct_props.proofs.Public.{IsValid, character_there, mark_there, cut_rest, right_lists_are_valid, right_of}
use Rattle.direct_props.proofs.Public.{right_places_have_lists, right_places_hold}
use Rattle.doc_parts.specs.declared.lists.Sed.{Sed}
use Rattle.doc_parts.specs.Levels.{HasLists, level_start, level_count, list_part, level_rules}
use Rattle.doc_parts.specs.Sections.{AreSections, HasSepx}
use Rattle.doc_parts.proofs.Public.{level_start-up, level_start-zero}
use Rattle.file_rules.specs.Units.{unit_at, text_units, unit_places_in}
use Rattle.file_rules.specs.Source.{DocSource, part_place, table_part_bytes, story_length}
use Rattle.file_rules.specs.SectionRules.{HasSections, section_fc, sepx_list}
use Rattle.file_rules.specs.BinRules.{rules_of_bins}
use Rattle.file_rules.specs.FormatRules.{text_count, judged_units, judged_places}
use Rattle.file_rules.specs.SheetRules.{rules_of_sheet}
use Rattle.file_rules.specs.ListRules.{rules_of_lists}
use Rattle.file_rules.specs.PartRules.{part_rules}
use Rattle.file_rules.specs.FileRules.{FileText, doc_source_of}
use Rattle.file_rules.proofs.Public.{bin_tables, hold_out, index_of_get, levels_empty}
use Rattle.doc_meaning.specs.Skipped.{bin_tables_of, plcf_sed, fc_sepx, sheet_from, sheet_to, StandsFrom, SkipsFirst}
use Rattle.doc_meaning.specs.Apart.{clx_from, clx_to, EndBefore, LevelsStandApart, SkipsClx, ReadsClx}
use Rattle.doc_meaning.specs.Lifted.{IsReadPart}
use Rattle.doc_meaning.specs.Loaded.{MaySkipPages, KeepsTable, IsLoadedFor}
use Rattle.doc_meaning.proofs.AlikeLemmas.{ReadsAlike, HasSepxAlike, bin_in, KeepsRules, rules_kept}
use Rattle.doc_meaning.proofs.ApartLemmas.{range_before, levels_before_place, before_clx, behind_clx, clx_table_len}
use Rattle.doc_meaning.proofs.ApartLemmas.{apart_part, bin_apart, other_table, count_same}
use Rattle.doc_meaning.proofs.BehindLemmas.{drop_behind, range_behind, length_behind}
use Rattle.doc_meaning.proofs.EarlyLemmas.{early_part, pair_same, story_same}
use Rattle.doc_meaning.proofs.LoadedLemmas.{part_kept, bin_same, pages_len}
use Rattle.doc_meaning.proofs.TableLemmas.{behind_sheet, sheet_there, no_range, other_stands, levels_behind}

-- ---- levels

-- where the part is the same, and its levels begin where they began
levels_like : (old new : List ℕ) (at lcb : ℕ) → length new ≡ length old → list_part new at lcb ≡ list_part old at lcb →
    ((k : ℕ) → k ≤ level_count (list_part old at lcb) → level_start new (at + lcb) k ≡ level_start old (at + lcb) k) →
    Hold (level_rules old at lcb) → Hold (level_rules new at lcb)
levels_like old new at lcb len part starts hold = λ p broken. elim broken [
  | inl wrong ↦ hold p (inl (wrong.0, λ has. wrong.1 (subst HasLists (sym part) has)))
  | inr leaving ↦
      let k = leaving.entry in
      let low : k < level_count (list_part old at lcb) =
      subst (λ (l : List ℕ). k < level_count l) part leaving.below in
      let leaves = leaving.broken in
      let this = starts k (omega (arith, low)) in
      let next = starts (k + 1) (omega (arith, low)) in
      hold p (inr (record {
        entry = k;
        below = low;
        broken = record { here = leaves.here ∙ this; beyond = omega (arith, leaves.beyond, len, next) };
      }))
]

-- those behind a place
levels_hold_from : (old new : List ℕ) (place : ℕ) (pair : ℕ × ℕ) → length new ≡ length old →
    drop place new ≡ drop place old → StandsFrom place pair →
    Hold (level_rules old pair.0 (length (slice_range old pair.0 (pair.0 + pair.1)))) →
    Hold (level_rules new pair.0 (length (slice_range old pair.0 (pair.0 + pair.1))))
levels_hold_from old new place pair len same (inl none) hold =
    (levels_empty new pair.0 (length (slice_range old pair.0 (pair.0 + pair.1)))
    (ap length (no_range old pair.0 pair.1 none))).0
levels_hold_from old new place pair len same (inr low) hold =
    let at = pair.0 in
    let lcb = length (slice_range old at (at + pair.1)) in
    levels_like old new at lcb len (range_behind old new place at (at + lcb) same low)
    (λ k upto. levels_behind old new (at + lcb) k (drop_behind old new place (at + lcb) same (omega (arith, low)))) hold

-- those before one
levels_hold_before : (old new : List ℕ) (place : ℕ) (pair : ℕ × ℕ) → length new ≡ length old →
    take place new ≡ take place old → EndBefore old pair place →
    Hold (level_rules old pair.0 (length (slice_range old pair.0 (pair.0 + pair.1)))) →
    Hold (level_rules new pair.0 (length (slice_range old pair.0 (pair.0 + pair.1))))
levels_hold_before old new place pair len same ends hold =
    let at = pair.0 in
    let from = at + pair.1 in
    let count = level_count (list_part old at pair.1) in
    let lcb : length (slice_range old at from) ≡ pair.1 =
    length-range old at from ends.within ∙ (let width : from - at ≡ pair.1 = omega arith in width) in
    let begins : from ≤ place =
    omega (arith, level_start-up old from 0 count (omega arith), level_start-zero old from, ends.before) in
    let own : Hold (level_rules old at pair.1) = subst (λ n. Hold (level_rules old at n)) lcb hold in
    subst (λ n. Hold (level_rules new at n)) (sym lcb)
    (levels_like old new at pair.1 len (range_before old new place at from same (omega (arith, begins)) begins)
    (λ k upto. levels_before_place old new place from k same
    (omega (arith, level_start-up old from k count upto, ends.before))) own)

levels_hold_apart : (old new : List ℕ) (from to : ℕ) (pair : ℕ × ℕ) → length new ≡ length old →
    take from new ≡ take from old → drop to new ≡ drop to old → LevelsStandApart from to old pair →
    Hold (level_rules old pair.0 (length (slice_range old pair.0 (pair.0 + pair.1)))) →
    Hold (level_rules new pair.0 (length (slice_range old pair.0 (pair.0 + pair.1))))
levels_hold_apart old new from to pair len before behind (inl none) =
    levels_hold_from old new to pair len behind (inl none)
levels_hold_apart old new from to pair len before behind (inr (inl low)) =
    levels_hold_from old new to pair len behind (inr low)
levels_hold_apart old new from to pair len before behind (inr (inr ends)) =
    levels_hold_before old new from pair len before ends

-- those of two table streams of one FIB hold of one by the part of the other
levels_by_part : (old new : DocSource) → part_place new PlfLst ≡ part_place old PlfLst →
    table_part_bytes new PlfLst ≡ table_part_bytes old PlfLst →
    (Hold (level_rules old.table (part_place old PlfLst) (length (table_part_bytes old PlfLst))) →
    Hold (level_rules new.table (part_place old PlfLst) (length (table_part_bytes old PlfLst)))) →
    Hold (rules_of_lists old) → Hold (rules_of_lists new)
levels_by_part old new at bytes keeps hold =
    let own = hold_out Table (level_rules old.table (part_place old PlfLst) (length (table_part_bytes old PlfLst))) hold
    in
    hold_in Table (level_rules new.table (part_place new PlfLst) (length (table_part_bytes new PlfLst)))
    (subst (λ (n : ℕ × ℕ). Hold (level_rules new.table n.0 n.1)) (λ i. (sym at i, length (sym bytes i))) (keeps own))

-- ---- a table stream in which the Prcs are skipped

clx_levels : (text : FileText) (table : List ℕ) → ReadsClx (early_pairs text.wd) text.table table →
    Hold (level_rules text.table (part_place (doc_source_of text) PlfLst) (length (table_part_bytes (doc_source_of text)
    PlfLst))) →
    Hold (level_rules table (part_place (doc_source_of text) PlfLst) (length (table_part_bytes (doc_source_of text)
    PlfLst)))
clx_levels text table (inl skips) =
    let wd = text.wd in
    let old = text.table in
    let pairs = early_pairs wd in
    levels_hold_apart old table (clx_from pairs) (clx_to pairs) (fib_pair wd (pair_number PlfLst))
    (clx_table_len pairs old table (inl skips)) (before_clx pairs old table skips) (behind_clx pairs old table skips)
    (subst (LevelsStandApart (clx_from pairs) (clx_to pairs) old) (early_part wd PlfLst) skips.apart.levels)
clx_levels text table (inr stays) =
    subst (λ (t : List ℕ). Hold (level_rules t (part_place (doc_source_of text) PlfLst)
    (length (table_part_bytes (doc_source_of text) PlfLst)))) (sym stays.1)

clx_alike : (text : FileText) (table : List ℕ) → ReadsClx (early_pairs text.wd) text.table table →
    ReadsAlike (doc_source_of text) (doc_source_of (other_table text table))
clx_alike text table clx = record {
  count = λ story. count_same text table story;
  pairs = λ part reads. refl;
  bytes = λ part reads. apart_part text.wd text.table table part clx reads.no_clx;
  len = clx_table_len (early_pairs text.wd) text.table table clx;
  units = refl;
  places = refl;
}

clx_keeps : (text : FileText) (table : List ℕ) → ReadsClx (early_pairs text.wd) text.table table →
    KeepsRules (doc_source_of text) (doc_source_of (other_table text table))
clx_keeps text table clx =
    let old = doc_source_of text in
    let new = doc_source_of (other_table text table) in
    let wd = text.wd in
    let sheet : table_part_bytes new Stshf ≡ table_part_bytes old Stshf =
    apart_part wd text.table table Stshf clx (λ e. absurd (omega (arith, e))) in
    let list : table_part_bytes new PlfLst ≡ table_part_bytes old PlfLst =
    apart_part wd text.table table PlfLst clx (λ e. absurd (omega (arith, e))) in
    record {
      alike = clx_alike text table clx;
      sheet = subst (λ (b : List ℕ). Hold (rules_in Table (stsh_rules b (part_place old Stshf)))) (sym sheet);
      levels = levels_by_part old new refl list (clx_levels text table clx);
      sepxs = λ sections k has low there. record { there = there; list = refl };
      pages = λ bins kind fc valid.
          subst (λ (bin : List ℕ). IsValidPlace kind wd bin fc) (sym (bin_apart kind wd text.table table clx)) valid;
    }

-- ---- a text that is loaded

-- the table stream is as long as it was
table_kept_len : (old : FileText) (table : List ℕ) → KeepsTable old table → length table ≡ length old.table
table_kept_len old table (inr same) = ap length same
table_kept_len old table (inl skips) =
    let pairs = early_pairs old.wd in
    let from = sheet_from pairs in
    let to = sheet_to pairs in
    let within = skips.first.within in
    put_length old.table table skips.puts.sheet from to (omega arith) within
    (skips.puts.len ∙ length-range old.table from to within) skips.puts.put

-- the first entries of two lists that have the same first places
front_mapped : (f g : UnitPlace → ℕ) (n : ℕ) (xs ys : List UnitPlace) →
    ((i : ℕ) → i < n → slice_get xs i ≡ slice_get ys i) →
    ((i : ℕ) (place : UnitPlace) → i < n → slice_get xs i ≡ Some place → f place ≡ g place) →
    take n (map f xs) ≡ take n (map g ys)
front_mapped f g zero xs ys same made = refl
front_mapped f g (suc n) [] [] same made = refl
front_mapped f g (suc n) [] (y ∷ ys) same made = absurd (none-some y (same 0 (omega arith)))
front_mapped f g (suc n) (x ∷ xs) [] same made = absurd (none-some x (sym (same 0 (omega arith))))
front_mapped f g (suc n) (x ∷ xs) (y ∷ ys) same made =
    let here : x ≡ y = same_Some x y (same 0 (omega arith)) in
    let first : f x ≡ g y = made 0 x (omega arith) refl ∙ ap g here in
    let rest : take n (map f xs) ≡ take n (map g ys) =
    front_mapped f g n xs ys (λ i low. same (suc i) (omega (arith, low)))
    (λ i place low there. made (suc i) place (omega (arith, low)) there) in
    λ i. first i ∷ rest i

loaded_alike : (old new : FileText) → IsLoadedFor old new → ReadsAlike (doc_source_of old) (doc_source_of new)
loaded_alike old new loaded =
    let counts : (story : StoryKind) → story_length (doc_source_of new) story ≡ story_length (doc_source_of old) story =
    λ story. story_same (doc_source_of old) (doc_source_of new) story loaded.fields in
    let count : text_count (doc_source_of new) ≡ text_count (doc_source_of old) =
    λ i. counts Main i + counts Notes i + counts Heads i in
    let n = text_count (doc_source_of new) in
    record {
      count = counts;
      pairs = λ part reads. pair_same old.wd new.wd part loaded.fields;
      bytes = λ part reads. part_kept old new part loaded reads.no_sheet;
      len = table_kept_len old new.table loaded.table;
      units =
          front_mapped (unit_at new.wd) (unit_at old.wd) n (flat_pieces new.pieces) (flat_pieces old.pieces)
          loaded.places (λ cp place low there. loaded.units cp place low there)
          ∙ ap (λ k. take k (text_units old.wd old.pieces)) count;
      places =
          front_mapped (λ place. place.at) (λ place. place.at) n (flat_pieces new.pieces) (flat_pieces old.pieces)
          loaded.places (λ cp place low there. refl)
          ∙ ap (λ k. take k (unit_places_in old.pieces)) count;
    }

-- ---- its style sheet and its levels

sheet_after : (wd old new : List ℕ) (at : ℕ) → SkipsFirst (early_pairs wd) old new →
    Hold (stsh_rules (table_part wd old (pair_number Stshf)) at) → Hold (stsh_rules (table_part wd new (pair_number
    Stshf)) at)
sheet_after wd old new at skips hold =
    let pairs = early_pairs wd in
    let pair : listed_pair pairs (pair_number Stshf) ≡ fib_pair wd (pair_number Stshf) = early_part wd Stshf in
    let own : Hold (stsh_rules (slice_range old (sheet_from pairs) (sheet_to pairs)) at) =
    subst (λ (p : ℕ × ℕ). Hold (stsh_rules (slice_range old p.0 (p.0 + p.1)) at)) (sym pair) hold in
    let made =
    sheet_holds (slice_range old (sheet_from pairs) (sheet_to pairs)) skips.puts.sheet at skips.puts.skips own in
    subst (λ (p : ℕ × ℕ). Hold (stsh_rules (slice_range new p.0 (p.0 + p.1)) at)) pair
    (subst (λ (b : List ℕ). Hold (stsh_rules b at)) (sym (sheet_there pairs old new skips)) made)

table_sheet_after : (old : FileText) (table : List ℕ) (at : ℕ) → KeepsTable old table →
    Hold (stsh_rules (table_part old.wd old.table (pair_number Stshf)) at) →
    Hold (stsh_rules (table_part old.wd table (pair_number Stshf)) at)
table_sheet_after old table at (inl skips) = sheet_after old.wd old.table table at skips
table_sheet_after old table at (inr same) =
    subst (λ (t : List ℕ). Hold (stsh_rules (table_part old.wd t (pair_number Stshf)) at)) (sym same)

loaded_sheet : (old new : FileText) → IsLoadedFor old new → Hold (rules_of_sheet (doc_source_of old)) →
    Hold (rules_of_sheet (doc_source_of new))
loaded_sheet old new loaded hold =
    let at = part_place (doc_source_of old) Stshf in
    let pair = pair_same old.wd new.wd Stshf loaded.fields in
    let made = table_sheet_after old new.table at loaded.table
    (hold_out Table (stsh_rules (table_part_bytes (doc_source_of old) Stshf) at) hold) in
    hold_in Table (stsh_rules (table_part_bytes (doc_source_of new) Stshf) (part_place (doc_source_of new) Stshf))
    (subst (λ (p : ℕ × ℕ). Hold (stsh_rules (slice_range new.table p.0 (p.0 + p.1)) p.0)) (sym pair) made)

loaded_levels : (old : FileText) (table : List ℕ) → KeepsTable old table →
    Hold (level_rules old.table (part_place (doc_source_of old) PlfLst) (length (table_part_bytes (doc_source_of old)
    PlfLst))) →
    Hold (level_rules table (part_place (doc_source_of old) PlfLst) (length (table_part_bytes (doc_source_of old)
    PlfLst)))
loaded_levels old table (inl skips) =
    let pairs = early_pairs old.wd in
    levels_hold_from old.table table (sheet_to pairs) (fib_pair old.wd (pair_number PlfLst))
    (table_kept_len old table (inl skips)) (behind_sheet pairs old.table table skips)
    (other_stands old.wd old.table table PlfLst skips (λ e. absurd (omega (arith, e))))
loaded_levels old table (inr same) =
    subst (λ (t : List ℕ). Hold (level_rules t (part_place (doc_source_of old) PlfLst)
    (length (table_part_bytes (doc_source_of old) PlfLst)))) (sym same)

-- ---- its Sepxs

loaded_sepxs : (old new : FileText) (list : List Sed) (k : ℕ) → IsLoadedFor old new →
    HasSections (doc_source_of old) list → k < length list → HasSepx old.wd (section_fc list k) →
    HasSepxAlike old.wd new.wd (section_fc list k)
loaded_sepxs old new list k loaded has low there =
    let bytes = plcf_sed old.wd old.table in
    let entries : AreSections bytes (story_length (doc_source_of old) Main) list = has in
    let place = section_fc list k in
    let fc : place ≡ fc_sepx bytes k =
    index_of_get (λ (sed : Sed). sed.sepx) list k _ (entries.leading.each k low) in
    let after = there.after_fib in
    let within = there.within in
    let all = pages_len old loaded.pages loaded.kept_pages in
    let len : length loaded.pages ≡ length new.wd =
    length_behind new.wd loaded.pages (form_size Early) (sym loaded.behind) (omega (arith, all, after, within)) in
    let kept = loaded.sepxs k (omega (arith, low, entries.all)) (omega (arith, after, fc)) (omega (arith, within, fc)) in
    let same = subst (λ n. (u16_at new.wd n ≡ u16_at old.wd n) × (sepx_list new.wd n ≡ sepx_list old.wd n)) (sym fc)
    kept in
    record {
      there = record { after_fib = after; within = omega (arith, within, len, all, same.0) };
      list = same.1;
    }

-- ---- its pages

-- a place that breaks no rule has a list
no_changes : IsValidModifier no_modifier
no_changes = record {
  formed = record { chp = IsPropertyMap-empty character_groups; pap = IsPropertyMap-empty paragraph_groups };
  small = λ n some. absurd (none-some n some);
}

valid_of : (kind : PageKind) (wd bin : List ℕ) (fc : ℕ) → IsValidPlace kind wd bin fc → IsValid kind wd bin fc
valid_of kind wd bin fc valid =
    let one = fc ∷ [] in
    let are : AreValidPlaces kind wd bin one = λ k low.
    let is : 0 ≡ k = omega (arith, low) in
    subst (λ j. IsValidPlace kind wd bin (slice_index one j)) is valid in
    right_of kind wd bin one (right_places_hold kind wd bin one are) 0 (omega arith)

valid_list : (kind : PageKind) (wd bin : List ℕ) (fc : ℕ) → AreBytes wd → IsValidPlace kind wd bin fc →
    (list : List ℕ) × HasListAt kind bin wd fc list
valid_list Chpx wd bin fc bytes valid =
    let found = character_there wd bin fc no_modifier bytes (valid_of Chpx wd bin fc valid) no_changes in
    (found.is.list, found.is.has)
valid_list Papx wd bin fc bytes valid =
    let found = mark_there wd bin fc no_modifier bytes (valid_of Papx wd bin fc valid) no_changes in
    (found.is.list, found.is.has)

-- the copy of a right list is right
copy_right : (kind : PageKind) (list made : List ℕ) → IsListCopy kind list made →
    Nowhere (HasSprmFaultAt (drop (least_list kind) list) (run_groups kind)) →
    Nowhere (HasSprmFaultAt (drop (least_list kind) made) (run_groups kind))
copy_right kind list made (inl skips) none =
    right_skips (drop (least_list kind) list) (drop (least_list kind) made) (run_groups kind) skips.sprms none
copy_right kind list made (inr same) none =
    subst (λ (l : List ℕ). Nowhere (HasSprmFaultAt (drop (least_list kind) l) (run_groups kind))) (sym same) none

answer_right : (kind : PageKind) (old new : List ℕ) (answer : RunAnswer) (list made : List ℕ) →
    IsListCopy kind list made → IsListAnswered kind old answer list → IsListAnswered kind new answer made →
    HasValidList kind old answer → HasValidList kind new answer
answer_right kind old new (Found from to) list made copy was is right =
    let least = least_list kind in
    let room = right.room in
    let old_rest : drop least list ≡ slice_range old (from + least) to =
    ap (drop least) was ∙ cut_rest old from to least room in
    let new_rest : drop least made ≡ slice_range new (from + least) to =
    ap (drop least) is ∙ cut_rest new from to least room in
    record {
      room = room;
      within = right.within;
      sprms = subst (λ (l : List ℕ). Nowhere (HasSprmFaultAt l (run_groups kind))) new_rest
          (copy_right kind list made copy
          (subst (λ (l : List ℕ). Nowhere (HasSprmFaultAt l (run_groups kind))) (sym old_rest) right.sprms));
    }
answer_right kind old new Empty list made copy was is right = tt
answer_right kind old new NoRun list made copy was is right = absurd right
answer_right kind old new BadCount list made copy was is right = absurd right
answer_right kind old new (Leaves entry) list made copy was is right = absurd right

pages_after : (kind : PageKind) (old : FileText) (pages : List ℕ) (fc : ℕ) (list : List ℕ) → MaySkipPages old pages →
    (has : HasListAt kind (bin_table_of kind (bin_tables_of old.wd old.table)) old.wd fc list) → 2 ≤ has.number →
    HasListAfter kind (page_at pages has.number) fc has.answer list
pages_after kind old pages fc list (inl skips) has low =
    list_after kind (bin_tables_of old.wd old.table) old.wd pages fc list skips has low
pages_after kind old pages fc list (inr same) has low =
    same_after kind (page_at old.wd has.number) (page_at pages has.number) fc has.answer list
    (ap (λ (w : List ℕ). page_at w has.number) same) has.answers has.answered

loaded_valid : (kind : PageKind) (old new : FileText) (fc : ℕ) → AreBytes old.wd → IsLoadedFor old new →
    IsBinTable (bin_in (doc_source_of old) kind) → IsValidPlace kind old.wd (bin_in (doc_source_of old) kind) fc →
    IsValidPlace kind new.wd (bin_in (doc_source_of new) kind) fc
loaded_valid kind old new fc bytes loaded table valid =
    let bin = bin_in (doc_source_of old) kind in
    let pages = loaded.pages in
    let found = valid_list kind old.wd bin fc bytes valid in
    let list = found.0 in
    let is = right_places_have_lists kind old.wd bin fc list valid found.1 in
    let number = is.number in
    let low = is.low in
    let within = is.within in
    let has : HasListAt kind bin old.wd fc list = record {
      number = number;
      named = is.named;
      within = within;
      answer = is.answer;
      answers = is.answers;
      answered = is.answered;
    } in
    let after = pages_after kind old pages fc list loaded.kept_pages has low in
    let all = pages_len old pages loaded.kept_pages in
    let len : length pages ≡ length new.wd =
    length_behind new.wd pages (form_size Early) (sym loaded.behind) (omega (arith, all, low, within)) in
    let page : page_at new.wd number ≡ page_at pages number =
    range_behind pages new.wd (form_size Early) (512 * number) (512 * number + 512) loaded.behind (omega (arith, low)) in
    let right = answer_right kind (page_at old.wd number) (page_at pages number) is.answer list after.made after.copy
    is.answered after.answered is.right in
    subst (λ (b : List ℕ). IsValidPlace kind new.wd b fc) (sym (bin_same kind old new loaded))
    (right_lists_are_valid kind new.wd bin fc after.made table (record {
      number = number;
      named = is.named;
      low = low;
      within = omega (arith, within, len, all);
      answer = is.answer;
      answers = subst (λ (p : List ℕ). HasRunAnswer kind p fc is.answer) (sym page) after.answers;
      right = subst (λ (p : List ℕ). HasValidList kind p is.answer) (sym page) right;
      answered = subst (λ (p : List ℕ). IsListAnswered kind p is.answer after.made) (sym page) after.answered;
    }))

bins_are : (source : DocSource) (kind : PageKind) → Hold (rules_of_bins source) → IsBinTable (bin_in source kind)
bins_are source Chpx hold = (bin_tables source hold).0
bins_are source Papx hold = (bin_tables source hold).1

-- ---- all rules

loaded_keeps : (old new : FileText) → AreBytes old.wd → IsLoadedFor old new →
    KeepsRules (doc_source_of old) (doc_source_of new)
loaded_keeps old new bytes loaded = record {
  alike = loaded_alike old new loaded;
  sheet = loaded_sheet old new loaded;
  levels = levels_by_part (doc_source_of old) (doc_source_of new)
      (ap (λ (p : ℕ × ℕ). p.0) (pair_same old.wd new.wd PlfLst loaded.fields))
      (part_kept old new PlfLst loaded (λ e. absurd (omega (arith, e)))) (loaded_levels old new.table loaded.table);
  sepxs = λ list k has low there. loaded_sepxs old new list k loaded has low there;
  pages = λ bins kind fc valid.
      loaded_valid kind old new fc bytes loaded (bins_are (doc_source_of old) kind bins) valid;
}

-- of a text of which they hold they hold once the Prcs are skipped, and then of what is loaded of that
pub loaded_holds : (old : FileText) (table : List ℕ) (new : FileText) → AreBytes old.wd →
    ReadsClx (early_pairs old.wd) old.table table → IsLoadedFor (record old { table = table }) new →
    Hold (part_rules (doc_source_of old)) → Hold (part_rules (doc_source_of new))
loaded_holds old table new bytes clx loaded hold =
    let mid = other_table old table in
    rules_kept (doc_source_of mid) (doc_source_of new) (loaded_keeps mid new bytes loaded)
    (rules_kept (doc_source_of old) (doc_source_of mid) (clx_keeps old table clx) hold)
