-- A file that is accepted has no text that a reviser deleted.
use Rattle.std.specs.Prelude.{IsTrue, slice_index, slice_index_or, slice_range, if◌then◌else◌}
use Rattle.std.proofs.Common.{◌≡◌, ◌∙◌, sym, ap, subst, refl, inl, inr, ℕ, zero, suc, ◌+◌, ◌-◌, ◌==◌, Bool, true}
use Rattle.std.proofs.Common.{false, ◌&&◌, ◌||◌, not, List, [], ◌∷◌, ◌++◌, length, take, drop, get_or}
use Rattle.std.proofs.Common.{Option, Some, None, All, add-one, append_assoc, arith}
use Rattle.std.specs.List.{filter_map, flat_map}
use Rattle.std.proofs.Math.Seq.{take-append_seam, drop-append_seam}
use Rattle.std.proofs.lemmas.Bool.{cases_lt}
use Rattle.std.proofs.lemmas.Grind.{flat_map-append}
use Rattle.std.proofs.lemmas.List.{get_or-take, get_or-drop, get_or_past, length-take}
use Rattle.std.proofs.lemmas.List.Elements.{All-head, All-take, All-drop}
use Rattle.doc_bits.specs.Rules.{Nowhere}
use Rattle.doc_bits.specs.declared.places.Story.{Story}
use Rattle.doc_bits.specs.declared.places.Story.TheVariants.{Main}
use Rattle.sprm_table.specs.Sprm.{Prl, IsPrl, spelling, SpellsSprmList, HasSprmFaultAt}
use Rattle.sprm_table.specs.Codes.{IsRefusedIn}
use Rattle.prop_map.specs.Formed.{character_groups}
use Rattle.fib_form.specs.declared.table_parts.TablePart.TheVariants.{PlcfBteChpx}
use Rattle.fkp_pages.specs.declared.kind.PageKind.TheVariants.{Chpx}
use Rattle.fkp_pages.specs.declared.kind.RunAnswer.{RunAnswer}
use Rattle.fkp_pages.specs.declared.kind.RunAnswer.TheVariants.{Found, Empty, NoRun, BadCount, Leaves}
use Rattle.fkp_pages.specs.Bin.{page_at}
use Rattle.fkp_pages.specs.Properties.{IsListAnswered}
use Rattle.direct_props.specs.PageRules.{IsValidPlace}
use Rattle.direct_props.specs.Stretches.{HasValidList}
use Rattle.direct_props.proofs.Public.{right_places_have_lists}
use Rattle.doc_parts.specs.Tabulated.{tabulate}
use Rattle.doc_losses.proofs.Public.{listed_more, joined_more}
use Rattle.doc_model.specs.declared.item.Item.{Item}
use Rattle.doc_model.specs.declared.document.Document.{Document}
use Rattle.plain_doc.specs.declared.rules_texts.Side.{Side}
use Rattle.plain_doc.specs.declared.rules_texts.Side.TheVariants.{Notes, Heads}
use Rattle.file_rules.specs.Source.{table_part_bytes}
use Rattle.file_rules.specs.FormatRules.{judged_places}
use Rattle.file_rules.specs.FileRules.{doc_source_of}
use Rattle.file_rules.proofs.Public.{right_characters}
use Rattle.doc_read.proofs.Public.{RightText}
use Rattle.doc_mends.specs.declared.mends.DeletedRange.{DeletedRange}
use Rattle.doc_mends.specs.declared.mends.Mend.{Mend}
use Rattle.doc_mends.specs.Mends.{all_struck, struck_ranges}
use Rattle.doc_mends.specs.Sides.{side_name}
use Rattle.deleted_text.specs.declared.ranges.StoryBegins.{StoryBegins}
use Rattle.deleted_text.specs.Deletions.{SaysDeleted}
use Rattle.deleted_text.specs.Places.{IsDeletedAt}
use Rattle.deleted_text.specs.Ranges.{is_deleted, run_end, range_at, text_ranges, text_flags, texts_ranges}
use Rattle.deleted_text.specs.Ranges.{items_before, document_ranges, begins_of}
use Rattle.deleted_text.specs.Strikes.{strike_mends}
use Rattle.deleted_text.specs.Texts.{AreTextDeletions, IsStruckText}
use Rattle.deleted_text.proofs.CodeLemmas.{deletion_there}
use Rattle.deleted_text.proofs.PlaceLemmas.{nothing_said}

-- ---- a list that says so has a fault

-- the group of characters has the code, and it is not read
refused_code : (code : ℕ) → code ≡ 0x0800 → IsRefusedIn character_groups code
refused_code code is = subst (IsRefusedIn character_groups) (sym is) (refl, refl)

-- an entry whose code is not read is a fault of a list
pub refused_there : (list : List ℕ) (groups : ℕ) (prls before : List Prl) (entry : Prl) (after : List Prl) →
    SpellsSprmList list prls → prls ≡ before ++ entry ∷ after → IsRefusedIn groups entry.0 →
    Nowhere (HasSprmFaultAt list groups) → ⊥
refused_there list groups prls before entry after spelt joined refused none =
    let front = flat_map spelling before in
    let more = flat_map spelling after ++ spelt.rest in
    let entries : All IsPrl (before ++ entry ∷ after) = subst (All IsPrl) joined spelt.entries in
    let all : list ≡ front ++ (spelling entry ++ more) =
    spelt.spelt
    ∙ (ap (λ (l : List Prl). flat_map spelling l ++ spelt.rest) joined
    ∙ (ap (λ (l : List ℕ). l ++ spelt.rest) (flat_map-append spelling before (entry ∷ after))
    ∙ (append_assoc front (spelling entry ++ flat_map spelling after) spelt.rest
    ∙ ap (λ (l : List ℕ). front ++ l)
    (append_assoc (spelling entry) (flat_map spelling after) spelt.rest)))) in
    let left : drop (length front) list ≡ spelling entry ++ more =
    ap (drop (length front)) all ∙ drop-append_seam front (spelling entry ++ more) in
    let back : All IsPrl (entry ∷ after) =
    subst (All IsPrl) (drop-append_seam before (entry ∷ after))
    (All-drop IsPrl (length before) (before ++ entry ∷ after) entries) in
    none (length front) (inr (record {
      before = before;
      front = record {
        entries = subst (All IsPrl) (take-append_seam before (entry ∷ after))
            (All-take IsPrl (length before) (before ++ entry ∷ after) entries);
        place = refl;
        spelt = all ∙ ap (λ (l : List ℕ). front ++ l) (sym left);
      };
      here = record {
        prl = entry;
        more = more;
        entry = All-head IsPrl entry after back;
        spelt = left;
        refused = refused;
      };
    }))

fault_there : (list : List ℕ) → SaysDeleted list → Nowhere (HasSprmFaultAt list character_groups) → ⊥
fault_there list says none =
    let found = deletion_there says.prls says.deleted in
    refused_there list character_groups says.prls found.before found.entry found.after says.spelt found.joined
    (refused_code found.entry.0 found.code) none

-- ---- no flag, no range

abbrev pub AreFalse : List Bool → Type 0
AreFalse flags = (k : ℕ) → get_or flags k false ≡ false

front_false : (flags : List Bool) (n : ℕ) → AreFalse flags → AreFalse (take n flags)
front_false flags n none = λ k. elim (cases_lt k n) [
  | inl low ↦ get_or-take n flags k false low ∙ none k
  | inr past ↦ get_or_past (take n flags) k false (omega (arith, past, length-take n flags))
]

back_false : (flags : List Bool) (n : ℕ) → AreFalse flags → AreFalse (drop n flags)
back_false flags n none = λ k. get_or-drop n flags k false ∙ none (n + k)

no_range : (story : Story) (flags : List Bool) (at : ℕ) → AreFalse flags → range_at story flags at ≡ None
no_range story flags at none =
    let not_there : is_deleted flags at ≡ false = none at in
    ap (λ (b : Bool). if (b && (at == 0 || not (is_deleted flags (at - 1)))) then Some (record {
      story = story;
      from = at;
      to = run_end flags at;
    }) else None) not_there

pub none_listed : {A : Type 0} (f : ℕ → Option A) (n : ℕ) → ((i : ℕ) → f i ≡ None) →
    filter_map (λ o. o) (tabulate f n) ≡ []
unfolding tabulate
none_listed f zero none = refl
none_listed {A = A} f (suc n) none =
    ap (λ k. filter_map (λ (o : Option A). o) (tabulate f k)) (sym (add-one n))
    ∙ (listed_more f n
    ∙ (ap (λ (l : List A). l ++ filter_map (λ (o : Option A). o) (f n ∷ [])) (none_listed f n none)
    ∙ ap (λ (o : Option A). filter_map (λ (p : Option A). p) (o ∷ [])) (none n)))

pub none_joined : {A : Type 0} (f : ℕ → List A) (n : ℕ) → ((i : ℕ) → f i ≡ []) → flat_map (λ l. l) (tabulate f n) ≡ []
unfolding tabulate
none_joined f zero none = refl
none_joined {A = A} f (suc n) none =
    ap (λ k. flat_map (λ (m : List A). m) (tabulate f k)) (sym (add-one n))
    ∙ (joined_more f n ∙ (ap (λ (l : List A). l ++ f n) (none_joined f n none) ∙ none n))

text_none : (story : Story) (flags : List Bool) → AreFalse flags → text_ranges story flags ≡ []
text_none story flags none = none_listed (range_at story flags) (length flags) (λ at. no_range story flags at none)

texts_none : (side : Side) (flags : List Bool) (texts : List (List Item)) → AreFalse flags →
    texts_ranges side flags texts ≡ []
texts_none side flags texts none =
    none_joined (λ i. text_ranges (side_name side i) (text_flags flags texts i)) (length texts)
    (λ i. text_none (side_name side i) (text_flags flags texts i)
    (front_false (drop (items_before texts i) flags) _ (back_false flags (items_before texts i) none)))

pub ranges_none : (begins : StoryBegins) (flags : List Bool) (document : Document) → AreFalse flags →
    document_ranges begins flags document ≡ []
ranges_none begins flags document none =
    let main = text_none Main (take (length document.main) flags) (front_false flags (length document.main) none) in
    let notes = texts_none Notes (drop begins.notes flags) document.notes (back_false flags begins.notes none) in
    let heads = texts_none Heads (drop begins.heads flags) document.heads (back_false flags begins.heads none) in
    λ i. main i ++ (notes i ++ heads i)

-- ---- accepted files

-- a right place has an accepted list
right_says : (wd bin : List ℕ) (fc : ℕ) → IsValidPlace Chpx wd bin fc → IsDeletedAt wd bin fc → ⊥
right_says wd bin fc right deleted =
    let found = right_places_have_lists Chpx wd bin fc deleted.list right deleted.has in
    by_answer wd found.number found.answer deleted.list found.right found.answered deleted.says
  where
    by_answer : (wd : List ℕ) (number : ℕ) (answer : RunAnswer) (list : List ℕ) →
        HasValidList Chpx (page_at wd number) answer → IsListAnswered Chpx (page_at wd number) answer list →
        SaysDeleted list → ⊥
    by_answer wd number (Found from to) list right is says =
        let page = page_at wd number in
        let plain : from + 0 ≡ from = omega arith in
        let none = subst (λ n. Nowhere (HasSprmFaultAt (slice_range page n to) character_groups)) plain right.sprms in
        fault_there (slice_range page from to) (subst SaysDeleted is says) none
    by_answer wd number Empty list right is says = nothing_said (subst SaysDeleted is says)
    by_answer wd number NoRun list right is says = absurd right
    by_answer wd number BadCount list right is says = absurd right
    by_answer wd number (Leaves entry) list right is says = absurd right

-- the text of a file that breaks none of the rules 1 to 57
pub held_false : (r : RightText) (flags : List Bool) → AreTextDeletions r.text flags → AreFalse flags
held_false r flags are = λ k. elim (cases_lt k (length flags)) [
  | inr past ↦ get_or_past flags k false past
  | inl low ↦
      let source = doc_source_of r.text in
      let right = right_characters source r.lists.sections r.hold.1.0 r.has.has_sections in
      none_true (slice_index_or flags k false) (λ t. right_says source.wd (table_part_bytes source PlcfBteChpx)
      (slice_index (judged_places source) k) (right k (omega (arith, low, are.len))) ((are.each k low).0 t))
]
  where
    none_true : (b : Bool) → (IsTrue b → ⊥) → b ≡ false
    none_true true none = absurd (none refl)
    none_true false none = refl

pub struck_none : (r : RightText) (meant struck : Document) (mends : List Mend) →
    IsStruckText r.text meant struck mends → (struck ≡ meant) × (mends ≡ [])
struck_none r meant struck mends is =
    let none : is.ranges ≡ [] =
    is.deleted.are
    ∙ ranges_none (begins_of r.text.wd) is.deleted.flags meant (held_false r is.deleted.flags is.deleted.deletions) in (
      is.is.document_is ∙ ap (λ (l : List DeletedRange). all_struck (struck_ranges meant l) meant) none,
      is.is.mends_are ∙ ap (strike_mends meant) none,
    )
