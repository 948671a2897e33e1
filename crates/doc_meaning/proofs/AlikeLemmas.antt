-- The rules 33 to 57 hold of a source that reads alike to one of which they hold.
use Rattle.std.specs.Prelude.{slice_index, slice_range}
use Rattle.std.specs.List.{range_with_len}
use Rattle.std.proofs.Common.{◌≡◌, ◌≢◌, ◌⊎◌, ◌∙◌, ◌+◌, ◌*◌, ◌<◌, ◌≤◌, refl, sym, ap, subst, inl, inr, ℕ, ◌==◌, ◌||◌}
use Rattle.std.proofs.Common.{false, List, [], ◌∷◌, length, map, filter, take, arith}
use Rattle.doc_bits.specs.declared.places.Where.TheVariants as stands
use Rattle.doc_bits.specs.Rules.{Rules, rule, ◌then◌, given, Hold, Nowhere}
use Rattle.doc_bits.specs.Places.{Place, rules_in}
use Rattle.sprm_table.specs.Sprm.{HasSprmFaultAt}
use Rattle.prop_map.specs.Formed.{section_groups}
use Rattle.text_codes.specs.Paragraph.{is_paragraph_end}
use Rattle.fib_form.specs.Fib.{fib_pair, fib_pair_place}
use Rattle.fib_form.specs.TableParts.{pair_number}
use Rattle.fib_form.specs.declared.stories.StoryKind.{StoryKind}
use Rattle.fib_form.specs.declared.stories.StoryKind.TheVariants.{Main, Notes, Heads}
use Rattle.fib_form.specs.declared.table_parts.TablePart.{TablePart}
use Rattle.fib_form.specs.declared.table_parts.TablePart.TheVariants.{PlcffndRef, PlcffndTxt, PlcfSed, PlcfHdd}
use Rattle.fib_form.specs.declared.table_parts.TablePart.TheVariants.{PlcfBteChpx, PlcfBtePapx, PlcfFldMom}
use Rattle.fib_form.specs.declared.table_parts.TablePart.TheVariants.{PlcfFldHdr, PlcfFldFtn, SttbfBkmk, PlcfBkf}
use Rattle.fib_form.specs.declared.table_parts.TablePart.TheVariants.{PlcfBkl}
use Rattle.fkp_pages.specs.declared.kind.PageKind.{PageKind}
use Rattle.fkp_pages.specs.declared.kind.PageKind.TheVariants.{Chpx, Papx}
use Rattle.page_copies.specs.Pages.{bin_table_of}
use Rattle.direct_props.specs.PageRules.{IsValidPlace, AreValidPlaces}
use Rattle.doc_parts.specs.declared.lists.Sed.{Sed}
use Rattle.doc_parts.specs.Sections.{section_rules, AreSections, HasSepx, place_of_fc_sepx}
use Rattle.doc_parts.specs.Stories.{ref_form, ref_cps, AreCuts}
use Rattle.doc_parts.specs.Table.{BreaksTable}
use Rattle.doc_parts.specs.BookmarkParts.{BookmarkParts, parts_at, BreaksParts}
use Rattle.file_rules.specs.Source.{DocSource, part_place, table_part_bytes, story_length, story_begin, story_units}
use Rattle.file_rules.specs.Source.{story_places}
use Rattle.file_rules.specs.TextCuts.{BreaksCuts}
use Rattle.file_rules.specs.SectionRules.{LacksSepx, sepx_list, section_fc, HasSections, BreaksSectionMarks}
use Rattle.file_rules.specs.SectionRules.{sed_rules, rules_of_sections}
use Rattle.file_rules.specs.BinRules.{BreaksBinTable, rules_of_bins}
use Rattle.file_rules.specs.FormatRules.{text_count, judged_units, judged_places, ends_section, paragraph_end_places}
use Rattle.file_rules.specs.FormatRules.{rules_of_formats}
use Rattle.file_rules.specs.SheetRules.{rules_of_sheet}
use Rattle.file_rules.specs.FieldRules.{BreaksFields, BreaksStoryFields, field_part, rules_of_fields}
use Rattle.file_rules.specs.NoteRules.{ref_count, HasEntries, HasNoteCuts, rules_of_notes}
use Rattle.file_rules.specs.HeadRules.{IsHeadTable, rules_of_heads}
use Rattle.file_rules.specs.EndRules.{last_text_end, HasLooseUnit, rules_of_ends}
use Rattle.file_rules.specs.ListRules.{rules_of_lists}
use Rattle.file_rules.specs.BookmarkRules.{bookmark_parts, HasLeavingPair, rules_of_bookmarks}
use Rattle.file_rules.specs.PartRules.{part_rules}
use Rattle.file_rules.proofs.Public.{formats_hold, right_characters, right_paragraphs}
use Rattle.doc_meaning.specs.Skipped.{bin_tables_of}
use Rattle.doc_meaning.specs.Lifted.{IsReadPart}
use Rattle.doc_meaning.proofs.ApartLemmas.{range_take}
use Rattle.doc_meaning.proofs.ItemLemmas.{sepx_found}
use Rattle.doc_meaning.proofs.ListLemmas.{read_of}

-- the stories are the same by CP, and so are the parts but for the style sheet and the Clx
pub record ReadsAlike (old new : DocSource) : Type 0 where
  pub count : (story : StoryKind) → story_length new story ≡ story_length old story
  pub pairs : (part : TablePart) → IsReadPart part → fib_pair new.wd (pair_number part) ≡ fib_pair old.wd (pair_number
      part)
  pub bytes : (part : TablePart) → IsReadPart part → table_part_bytes new part ≡ table_part_bytes old part
  pub len : length new.table ≡ length old.table
  pub units : judged_units new ≡ judged_units old
  pub places : judged_places new ≡ judged_places old

-- a Sepx that is there is there in the other stream, with the same list
pub record HasSepxAlike (old new : List ℕ) (fc : ℕ) : Type 0 where
  pub there : HasSepx new fc
  pub list : sepx_list new fc ≡ sepx_list old fc

-- the bin table of a source
abbrev pub bin_in : DocSource → PageKind → List ℕ
bin_in source kind = bin_table_of kind (bin_tables_of source.wd source.table)

-- and the rules on the style sheet, the levels, the Sepxs and the pages hold where they held
pub record KeepsRules (old new : DocSource) : Type 0 where
  pub alike : ReadsAlike old new
  pub sheet : Hold (rules_of_sheet old) → Hold (rules_of_sheet new)
  pub levels : Hold (rules_of_lists old) → Hold (rules_of_lists new)
  pub sepxs :
      (list : List Sed) (k : ℕ) → HasSections old list → k < length list → HasSepx old.wd (section_fc list k) →
      HasSepxAlike old.wd new.wd (section_fc list k)
  pub pages :
      Hold (rules_of_bins old) → (kind : PageKind) (fc : ℕ) → IsValidPlace kind old.wd (bin_in old kind) fc →
      IsValidPlace kind new.wd (bin_in new kind) fc

-- ---- parts and stories

place_alike : (old new : DocSource) (part : TablePart) → ReadsAlike old new → IsReadPart part →
    part_place new part ≡ part_place old part
place_alike old new part alike reads = ap (λ (p : ℕ × ℕ). p.0) (alike.pairs part reads)

begin_alike : (old new : DocSource) (story : StoryKind) → ReadsAlike old new →
    story_begin new story ≡ story_begin old story
begin_alike old new Main alike = refl
begin_alike old new Notes alike = alike.count Main
begin_alike old new Heads alike = omega (arith, alike.count Main, alike.count Notes)

story_inside : (source : DocSource) (story : StoryKind) →
    story_begin source story + story_length source story ≤ text_count source
story_inside source Main = omega arith
story_inside source Notes = omega arith
story_inside source Heads = omega arith

-- a range of the front of two lists
range_alike : (xs ys : List ℕ) (m n a b c d : ℕ) → take m xs ≡ take n ys → a ≡ c → b ≡ d → a ≤ b → b ≤ m → d ≤ n →
    slice_range xs a b ≡ slice_range ys c d
range_alike xs ys m n a b c d front from to up low inside =
    sym (range_take xs m a b (omega (arith, up, low)) low)
    ∙ ((λ i. slice_range (front i) (from i) (to i)) ∙ range_take ys n c d (omega (arith, from, to, up, inside)) inside)

units_alike : (old new : DocSource) (story : StoryKind) → ReadsAlike old new →
    story_units new story ≡ story_units old story
units_alike old new story alike =
    let begin = begin_alike old new story alike in
    let count = alike.count story in
    range_alike new.text.units old.text.units (text_count new) (text_count old) (story_begin new story)
    (story_begin new story + story_length new story) (story_begin old story)
    (story_begin old story + story_length old story) alike.units begin (λ i. begin i + count i) (omega arith)
    (story_inside new story) (story_inside old story)

places_alike : (old new : DocSource) (story : StoryKind) → ReadsAlike old new →
    story_places new story ≡ story_places old story
places_alike old new story alike =
    let begin = begin_alike old new story alike in
    let count = alike.count story in
    range_alike new.text.places old.text.places (text_count new) (text_count old) (story_begin new story)
    (story_begin new story + story_length new story) (story_begin old story)
    (story_begin old story + story_length old story) alike.places begin (λ i. begin i + count i) (omega arith)
    (story_inside new story) (story_inside old story)

-- rules that are the same hold
held : (new old : Rules Place) → new ≡ old → Hold old → Hold new
held new old same hold = subst (λ (r : Rules Place). Hold r) (sym same) hold

-- ---- 33 to 36

sections_alike : (old new : DocSource) (list : List Sed) → ReadsAlike old new → HasSections old list →
    HasSections new list
sections_alike old new list alike has =
    let bytes = alike.bytes PlcfSed (read_of PlcfSed refl) in
    let count = alike.count Main in
    subst (λ (p : List ℕ × ℕ). AreSections p.0 p.1 list) (λ i. (sym bytes i, sym count i)) has

-- no section lacks its Sepx
lacks_none : (old new : DocSource) (list : List Sed) (k : ℕ) → KeepsRules old new → HasSections old list →
    k < length list → LacksSepx new.wd (section_fc list k) → LacksSepx old.wd (section_fc list k)
lacks_none old new list k keeps has low lacks = record {
  properties = lacks.properties;
  missing = λ there. lacks.missing (keeps.sepxs list k has low there).there;
}

sed_held : (old new : DocSource) (list : List Sed) → KeepsRules old new → HasSections old list →
    Hold (sed_rules old list) → Hold (sed_rules new list)
sed_held old new list keeps has (marks, (sepxs, lists)) =
    let alike = keeps.alike in
    let at = place_alike old new PlcfSed alike (read_of PlcfSed refl) in
    let units = units_alike old new Main alike in
    let found : (k : ℕ) → k < length list → ¬ (LacksSepx old.wd (section_fc list k)) = λ k low lacks.
    sepxs (stands.Table, place_of_fc_sepx (part_place old PlcfSed) (length list) k)
    (refl, record { entry = k; below = low; broken = record { here = refl; broken = lacks } }) in (
      held (rules_in stands.Table (rule 34 (BreaksSectionMarks (story_units new Main) list (part_place new PlcfSed))))
          (rules_in stands.Table (rule 34 (BreaksSectionMarks (story_units old Main) list (part_place old PlcfSed))))
          (λ i. rules_in stands.Table (rule 34 (BreaksSectionMarks (units i) list (at i)))) marks,
      (
        λ p broken.
            let k = broken.1.entry in
            found k broken.1.below (lacks_none old new list k keeps has broken.1.below broken.1.broken.broken),
        λ p broken.
            let k = broken.1.entry in
            let low = broken.1.below in
            let fault = broken.1.broken in
            let there = sepx_found old.wd (section_fc list k) (found k low) fault.properties in
            let list_is = (keeps.sepxs list k has low there).list in
            lists p (
              broken.0,
              record {
                entry = k;
                below = low;
                broken = record {
                  properties = fault.properties;
                  fault = record {
                    offset = fault.fault.offset;
                    here = fault.fault.here;
                    broken = subst (λ (l : List ℕ). HasSprmFaultAt l section_groups fault.fault.offset) list_is
                        fault.fault.broken;
                  };
                };
              },
            ),
      ),
    )

sections_held : (old new : DocSource) → KeepsRules old new → Hold (rules_of_sections old) →
    Hold (rules_of_sections new)
sections_held old new keeps (table, (list, (has, rest))) =
    let alike = keeps.alike in
    let bytes = alike.bytes PlcfSed (read_of PlcfSed refl) in
    let at = place_alike old new PlcfSed alike (read_of PlcfSed refl) in
    let count = alike.count Main in (
      held
          (rules_in stands.Table
          (section_rules (table_part_bytes new PlcfSed) (part_place new PlcfSed) (story_length new Main)))
          (rules_in stands.Table
          (section_rules (table_part_bytes old PlcfSed) (part_place old PlcfSed) (story_length old Main)))
          (λ i. rules_in stands.Table (section_rules (bytes i) (at i) (count i))) table,
      (list, (sections_alike old new list alike has, sed_held old new list keeps has rest)),
    )

-- ---- 37 and 38

bins_alike : (old new : DocSource) → ReadsAlike old new → rules_of_bins new ≡ rules_of_bins old
bins_alike old new alike =
    let chars = alike.bytes PlcfBteChpx (read_of PlcfBteChpx refl) in
    let pars = alike.bytes PlcfBtePapx (read_of PlcfBtePapx refl) in
    let chars_at = place_alike old new PlcfBteChpx alike (read_of PlcfBteChpx refl) in
    let pars_at = place_alike old new PlcfBtePapx alike (read_of PlcfBtePapx refl) in
    λ i. rules_in stands.Table (rule 37 (BreaksBinTable (chars i) (chars_at i)))
    then rules_in stands.Table (rule 38 (BreaksBinTable (pars i) (pars_at i)))

-- ---- 39 to 48

valid_alike : (kind : PageKind) (wd bin new_wd new_bin places new_places : List ℕ) → new_places ≡ places →
    ((fc : ℕ) → IsValidPlace kind wd bin fc → IsValidPlace kind new_wd new_bin fc) →
    AreValidPlaces kind wd bin places → AreValidPlaces kind new_wd new_bin new_places
valid_alike kind wd bin new_wd new_bin places new_places same valid are =
    subst (AreValidPlaces kind new_wd new_bin) (sym same) (λ k low. valid (slice_index places k) (are k low))

ends_alike : (old new : DocSource) (list : List Sed) → ReadsAlike old new →
    paragraph_end_places new list ≡ paragraph_end_places old list
ends_alike old new list alike =
    let units = alike.units in
    let places = alike.places in
    let count = alike.count Main in
    λ i. map (slice_index (places i))
    (filter (λ cp. is_paragraph_end (slice_index (units i) cp) (ends_section list (count i) cp))
    (range_with_len 0 (length (units i))))

formats_held : (old new : DocSource) → KeepsRules old new → Hold (rules_of_bins old) → Hold (rules_of_formats old) →
    Hold (rules_of_formats new)
formats_held old new keeps bins hold =
    let alike = keeps.alike in
    let list = hold.0 in
    let has : HasSections old list = hold.1.0 in
    formats_hold new list (sections_alike old new list alike has)
    (valid_alike Chpx old.wd (table_part_bytes old PlcfBteChpx) new.wd (table_part_bytes new PlcfBteChpx) (judged_places
    old)
    (judged_places new) alike.places (keeps.pages bins Chpx) (right_characters old list hold has))
    (valid_alike Papx old.wd (table_part_bytes old PlcfBtePapx) new.wd (table_part_bytes new PlcfBtePapx)
    (paragraph_end_places old list) (paragraph_end_places new list) (ends_alike old new list alike)
    (keeps.pages bins Papx) (right_paragraphs old list hold has))

-- ---- 52 to 55

field_is : (story : StoryKind) → IsReadPart (field_part story)
field_is Main = read_of PlcfFldMom refl
field_is Notes = read_of PlcfFldFtn refl
field_is Heads = read_of PlcfFldHdr refl

fields_broken_alike : (old new : DocSource) (story : StoryKind) → ReadsAlike old new →
    BreaksStoryFields new story ≡ BreaksStoryFields old story
fields_broken_alike old new story alike =
    let part = field_part story in
    let units = units_alike old new story alike in
    let bytes = alike.bytes part (field_is story) in
    let at = place_alike old new part alike (field_is story) in
    λ i. BreaksFields (units i) (bytes i) (at i)

fields_alike : (old new : DocSource) → ReadsAlike old new → rules_of_fields new ≡ rules_of_fields old
fields_alike old new alike =
    let main = fields_broken_alike old new Main alike in
    let notes = fields_broken_alike old new Notes alike in
    let heads = fields_broken_alike old new Heads alike in
    λ i. rules_in stands.Table (rule 52 (λ place. main i place ⊎ (notes i place ⊎ heads i place)))

notes_alike : (old new : DocSource) → ReadsAlike old new → rules_of_notes new ≡ rules_of_notes old
notes_alike old new alike =
    let refs = alike.bytes PlcffndRef (read_of PlcffndRef refl) in
    let cuts = alike.bytes PlcffndTxt (read_of PlcffndTxt refl) in
    let refs_at = place_alike old new PlcffndRef alike (read_of PlcffndRef refl) in
    let cuts_at = place_alike old new PlcffndTxt alike (read_of PlcffndTxt refl) in
    let main = alike.count Main in
    let notes = alike.count Notes in
    λ i. rules_in stands.Table
    (rule 53 (λ place. BreaksTable ref_form (ref_cps (main i)) (refs i) (refs_at i) place
    ⊎ (HasEntries (refs i)
    × BreaksCuts (length (cuts i) ≡ 4 * (ref_count (refs i) + 2)) (cuts i) (notes i) (cuts_at i) place)))

heads_alike : (old new : DocSource) → ReadsAlike old new → rules_of_heads new ≡ rules_of_heads old
heads_alike old new alike =
    let sections = alike.bytes PlcfSed (read_of PlcfSed refl) in
    let heads = alike.bytes PlcfHdd (read_of PlcfHdd refl) in
    let at = place_alike old new PlcfHdd alike (read_of PlcfHdd refl) in
    let main = alike.count Main in
    let count = alike.count Heads in
    λ i. given (AreSections (sections i) (main i))
    (λ (list : List Sed). rules_in stands.Table
    (rule 54 (BreaksCuts (IsHeadTable (length (heads i)) (length list)) (heads i) (count i) (at i))))

note_cuts_alike : (old new : DocSource) → ReadsAlike old new → HasNoteCuts new ≡ HasNoteCuts old
note_cuts_alike old new alike =
    let refs = alike.bytes PlcffndRef (read_of PlcffndRef refl) in
    let cuts = alike.bytes PlcffndTxt (read_of PlcffndTxt refl) in
    let count = alike.count Notes in
    λ i list. (HasEntries (refs i) × AreCuts (cuts i) (count i) list) ⊎ ((¬ (HasEntries (refs i))) × (list ≡ []))

ends_rules_alike : (old new : DocSource) → ReadsAlike old new → rules_of_ends new ≡ rules_of_ends old
ends_rules_alike old new alike =
    let cuts = note_cuts_alike old new alike in
    let heads = alike.bytes PlcfHdd (read_of PlcfHdd refl) in
    let count = alike.count Heads in
    let note_places = places_alike old new Notes alike in
    let note_units = units_alike old new Notes alike in
    let head_places = places_alike old new Heads alike in
    let head_units = units_alike old new Heads alike in
    λ i. given (cuts i)
    (λ (first : List ℕ). given (AreCuts (heads i) (count i))
    (λ (next : List ℕ). rules_in stands.Wd
    (rule 55 (λ place. HasLooseUnit (note_places i) (note_units i) (last_text_end first) place
    ⊎ HasLooseUnit (head_places i) (head_units i) (last_text_end next) place))))

-- ---- 57

leaving_alike : (old new : DocSource) → ReadsAlike old new → HasLeavingPair new ≡ HasLeavingPair old
leaving_alike old new alike =
    let names = alike.pairs SttbfBkmk (read_of SttbfBkmk refl) in
    let starts = alike.pairs PlcfBkf (read_of PlcfBkf refl) in
    let ends = alike.pairs PlcfBkl (read_of PlcfBkl refl) in
    let len = alike.len in
    λ i place. ((place ≡ fib_pair_place (pair_number SttbfBkmk)) × (len i < (names i).0 + (names i).1))
    ⊎ (((place ≡ fib_pair_place (pair_number PlcfBkf)) × (len i < (starts i).0 + (starts i).1))
    ⊎ ((place ≡ fib_pair_place (pair_number PlcfBkl)) × (len i < (ends i).0 + (ends i).1)))

bookmark_parts_alike : (old new : DocSource) → ReadsAlike old new → bookmark_parts new ≡ bookmark_parts old
bookmark_parts_alike old new alike =
    let names = alike.bytes SttbfBkmk (read_of SttbfBkmk refl) in
    let starts = alike.bytes PlcfBkf (read_of PlcfBkf refl) in
    let ends = alike.bytes PlcfBkl (read_of PlcfBkl refl) in
    let names_at = place_alike old new SttbfBkmk alike (read_of SttbfBkmk refl) in
    let starts_at = place_alike old new PlcfBkf alike (read_of PlcfBkf refl) in
    let ends_at = place_alike old new PlcfBkl alike (read_of PlcfBkl refl) in
    λ i. parts_at (names i) (starts i) (ends i) (names_at i ∷ starts_at i ∷ ends_at i ∷ [])

bookmarks_alike : (old new : DocSource) → ReadsAlike old new → rules_of_bookmarks new ≡ rules_of_bookmarks old
bookmarks_alike old new alike =
    let names = alike.pairs SttbfBkmk (read_of SttbfBkmk refl) in
    let leaving = leaving_alike old new alike in
    let parts = bookmark_parts_alike old new alike in
    λ i. rule 57 (λ (place : Place). (6 < (names i).1)
    × (((place.0 ≡ stands.Wd) × leaving i place.1)
    ⊎ ((place.0 ≡ stands.Table) × (Nowhere (leaving i) × BreaksParts (parts i) place.1))))

-- ---- all of them

pub rules_kept : (old new : DocSource) → KeepsRules old new → Hold (part_rules old) → Hold (part_rules new)
rules_kept old new keeps ((sections, bins), (formats, (sheet, (fields, (notes, (heads, (ends, (levels, bookmarks)))))))) =
    let alike = keeps.alike in (
      (
        sections_held old new keeps sections,
        held (rules_of_bins new) (rules_of_bins old) (bins_alike old new alike) bins,
      ),
      (
        formats_held old new keeps bins formats,
        (
          keeps.sheet sheet,
          (
            held (rules_of_fields new) (rules_of_fields old) (fields_alike old new alike) fields,
            (
              held (rules_of_notes new) (rules_of_notes old) (notes_alike old new alike) notes,
              (
                held (rules_of_heads new) (rules_of_heads old) (heads_alike old new alike) heads,
                (
                  held (rules_of_ends new) (rules_of_ends old) (ends_rules_alike old new alike) ends,
                  (
                    keeps.levels levels,
                    held (rules_of_bookmarks new) (rules_of_bookmarks old) (bookmarks_alike old new alike) bookmarks,
                  ),
                ),
              ),
            ),
          ),
        ),
      ),
    )
