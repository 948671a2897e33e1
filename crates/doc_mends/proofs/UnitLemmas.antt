-- The units of a text whose references are cut, and that gets an end.
use Rattle.std.proofs.Common.{◌≡◌, ◌≢◌, ◌∙◌, ap, sym, refl, ℕ, zero, suc, ◌+◌, ◌-◌, ◌<◌, ◌≤◌, ◌==◌, Bool, true, false}
use Rattle.std.proofs.Common.{not, List, [], ◌∷◌, ◌++◌, length, take, arith, inl, inr}
use Rattle.std.proofs.Common.{Option, Some, None, slice_get, append_assoc}
use Rattle.std.specs.Prelude.{is_some, if◌then◌else◌}
use Rattle.std.specs.Option.{unwrap_or}
use Rattle.std.specs.List.{flat_map, list_any}
use Rattle.std.proofs.lemmas.Bool.{cases_Bool, eq-eqb, ne_eqb}
use Rattle.std.proofs.lemmas.List.{append-nil, map-append, take_all, take_more}
use Rattle.std.proofs.lemmas.Option.{get_or_from_slice_get}
use Rattle.doc_bits.specs.declared.places.Story.{Story}
use Rattle.doc_bits.proofs.Public.{get-map, there_is}
use Rattle.doc_parts.specs.Tabulated.{tabulate}
use Rattle.doc_parts.proofs.Public.{length-tabulate}
use Rattle.doc_losses.proofs.Public.{joined_more}
use Rattle.fib_versions.specs.declared.further.Further.{Further}
use Rattle.text_codes.specs.Paragraph.{paragraph_mark}
use Rattle.text_losses.specs.declared.features.Reference.{Reference}
use Rattle.doc_model.specs.declared.item.Item.{Item}
use Rattle.doc_losses.specs.References.{Names, marked_story_at, text_marks, reference_at, text_references}
use Rattle.doc_mends.specs.PlainRows.{plain_unit}
use Rattle.doc_mends.specs.Cuts.{reference_flags, unflagged}
use Rattle.doc_mends.specs.Ends.{is_ended, last_item, last_left, ending_item, with_end}
use Rattle.doc_mends.proofs.CutLemmas.{unflagged-one, unflagged_more, unflagged_all}
use Rattle.doc_mends.proofs.EndLemmas.{stays_ended, gets_end}
use Rattle.doc_mends.proofs.GroupLemmas.{listed_at, passes}
use Rattle.doc_mends.proofs.PlainUnitLemmas.{units}

-- ---- references that are cut

abbrev pub is_at : ℕ → Reference → Bool
is_at at reference = reference.at == at

none_elsewhere : (story : Story) (at k : ℕ) (mark : Option Further) → k ≢ at →
    passes (is_at at) (reference_at story k mark) ≡ false
none_elsewhere story at k None other = refl
none_elsewhere story at k (Some to) other = ne_eqb k at other

one_here : (story : Story) (at : ℕ) (mark : Option Further) →
    passes (is_at at) (reference_at story at mark) ≡ is_some mark
one_here story at None = refl
one_here story at (Some to) = eq-eqb at at refl

pub flag_there : (names : Names) (story : Story) (begin : ℕ) (text : List Item) (at : ℕ) → at < length text →
    slice_get (reference_flags names story begin text) at
    ≡ Some (list_any (is_at at) (text_references names story begin text))
flag_there names story begin text at low =
    let marks : List (Option Further) = text_marks names story begin text in
    let len : length marks ≡ length text = length-tabulate (marked_story_at names story begin text) (length text) in
    let it = there_is marks at (omega (arith, low, len)) in
    let found = listed_at (is_at at) (λ (k : ℕ). reference_at story k (unwrap_or (slice_get marks k) None))
    (length marks) at (omega (arith, low, len))
    (λ k other. none_elsewhere story at k (unwrap_or (slice_get marks k) None) other) in
    get-map is_some marks at it.0 it.1
    ∙ ap (λ (b : Bool). Some b)
    (sym (found
    ∙ (one_here story at (unwrap_or (slice_get marks at) None)
    ∙ ap (λ (o : Option (Option Further)). is_some (unwrap_or o None)) it.1)))

-- ---- what is left, unit by unit

pub part_left : (flag row : Bool) (unit made : ℕ) → made ≡ (if row then plain_unit unit else unit) →
    (if flag then [] else if row then plain_unit unit ∷ [] else unit ∷ []) ≡ unflagged (flag ∷ []) (made ∷ [])
part_left flag row unit made is = by_cases flag row is ∙ sym (unflagged-one flag made)
  where
    by_cases : (flag row : Bool) → made ≡ (if row then plain_unit unit else unit) →
        (if flag then [] else if row then plain_unit unit ∷ [] else unit ∷ []) ≡ (if flag then [] else made ∷ [])
    by_cases true row is = refl
    by_cases false true is = ap (λ (u : ℕ). u ∷ []) (sym is)
    by_cases false false is = ap (λ (u : ℕ). u ∷ []) (sym is)

-- the parts of a list that is cut
pub record ArePartsOf (flags : List Bool) (list : List ℕ) (part : ℕ → List ℕ) : Type 0 where
  pub len : length flags ≡ length list
  pub each :
      (at : ℕ) (flag : Bool) (unit : ℕ) → slice_get flags at ≡ Some flag → slice_get list at ≡ Some unit →
      part at ≡ unflagged (flag ∷ []) (unit ∷ [])

parts_upto : (flags : List Bool) (list : List ℕ) (part : ℕ → List ℕ) (n : ℕ) → ArePartsOf flags list part →
    n ≤ length list → flat_map (λ l. l) (tabulate part n) ≡ unflagged (take n flags) (take n list)
unfolding tabulate unflagged
parts_upto flags list part zero are low = refl
parts_upto flags list part (suc n) are low =
    let next : suc n ≡ n + 1 = omega arith in
    let one = there_is flags n (let len = are.len in omega (arith, low, len)) in
    let other = there_is list n (omega (arith, low)) in
    ap (λ (k : ℕ). flat_map (λ (l : List ℕ). l) (tabulate part k)) next
    ∙ (joined_more part n
    ∙ (ap (λ (l : List ℕ). l ++ part n) (parts_upto flags list part n are (omega (arith, low)))
    ∙ (ap (λ (l : List ℕ). unflagged (take n flags) (take n list) ++ l)
    (are.each n one.0 other.0 one.1 other.1)
    ∙ (sym (unflagged_more flags list n one.0 other.0 one.1 other.1)
    ∙ ap (λ (k : ℕ). unflagged (take k flags) (take k list)) (sym next)))))

pub parts_joined : (flags : List Bool) (list : List ℕ) (part : ℕ → List ℕ) (n : ℕ) → ArePartsOf flags list part →
    n ≡ length list → flat_map (λ l. l) (tabulate part n) ≡ unflagged flags list
parts_joined flags list part n are is =
    parts_upto flags list part n are (omega (arith, is)) ∙ unflagged_all flags list n are.len (omega (arith, is))

-- ---- ends

last_units : (text : List Item) → units (take (length text - 1) text ++ last_left (last_item text)) ≡ units text
last_units [] = refl
last_units (item ∷ items) =
    let text : List Item = item ∷ items in
    let last : ℕ = length text - 1 in
    let low : last < length text = omega arith in
    let it = there_is text last low in
    let next : last + 1 ≡ length text = omega arith in
    let whole : take last text ++ it.0 ∷ [] ≡ text =
    ap (λ (i : Item). take last text ++ i ∷ []) (sym (get_or_from_slice_get text last it.0 it.0 it.1))
    ∙ (sym (take_more text last it.0 low)
    ∙ (ap (λ (n : ℕ). take n text) next ∙ take_all (length text) text (omega arith))) in
    map-append (λ (i : Item). i.unit) (take last text) (last_left (last_item text))
    ∙ (ap (λ (o : Option Item). units (take last text) ++ units (last_left o)) it.1
    ∙ (sym (map-append (λ (i : Item). i.unit) (take last text) (it.0 ∷ [])) ∙ ap units whole))

abbrev pub end_mark : Bool → List ℕ
end_mark is = if is then paragraph_mark ∷ [] else []

pub end_units : (is_head : Bool) (text : List Item) →
    units (with_end is_head text) ≡ units text ++ end_mark (not (is_ended is_head text))
end_units is_head text = elim (cases_Bool (is_ended is_head text)) [
  | inl is ↦
      ap units (stays_ended is_head text is)
      ∙ (sym (append-nil (units text)) ∙ ap (λ (b : Bool). units text ++ end_mark (not b)) (sym is))
  | inr is ↦
      let front : List Item = take (length text - 1) text in
      let left : List Item = last_left (last_item text) in
      let end : List Item = ending_item (last_item text) ∷ [] in
      ap units (gets_end is_head text is)
      ∙ (ap units (sym (append_assoc front left end))
      ∙ (map-append (λ (i : Item). i.unit) (front ++ left) end
      ∙ (ap (λ (l : List ℕ). l ++ paragraph_mark ∷ []) (last_units text)
      ∙ ap (λ (b : Bool). units text ++ end_mark (not b)) (sym is))))
]
