-- The runs of a text: each item is in one with its properties, and pages can be written of them.
use Rattle.std.specs.Prelude.{slice_get, is_some, All}
use Rattle.std.specs.Option.{ForSome}
use Rattle.std.specs.FinMap.{empty}
use Rattle.std.proofs.Common.{◌≡◌, ◌⊎◌, inl, inr, ℕ, zero, suc, ◌+◌, ◌-◌, ◌*◌, ◌^◌, ◌<◌, ◌≤◌, Bool, true, false, not}
use Rattle.std.proofs.Common.{List, []}
use Rattle.std.proofs.Common.{◌∷◌, ◌++◌, length, take, Some, None, Option, refl, sym, ap, ◌∙◌, subst, arith}
use Rattle.std.proofs.Common.{length-append}
use Rattle.std.proofs.lemmas.Bool.{cases_lt, true≢false}
use Rattle.std.proofs.lemmas.List.Elements.{All-nil, All-cons, All-head, All-tail}
use Rattle.std.proofs.lemmas.Option.{slice_get_within, same_Some, none-some}
use Rattle.doc_bits.proofs.Public.{there_is, All_at, All-from_slice_get}
use Rattle.prop_map.specs.Settings.{Properties}
use Rattle.prop_map.specs.Formed.{IsPropertyMap, character_groups, paragraph_groups}
use Rattle.prop_map.specs.Printing.{printed_list}
use Rattle.prop_map.proofs.Public.{IsPropertyMap-empty, entries-empty}
use Rattle.fkp_pages.specs.declared.kind.PageKind.{PageKind}
use Rattle.fkp_pages.specs.declared.kind.PageKind.TheVariants.{Chpx, Papx}
use Rattle.fkp_pages.specs.declared.lists.Run.{Run}
use Rattle.fkp_pages.specs.Runs.{run_groups, most_printed, IsWritableRun, AreRuns, HasRunNumbers}
use Rattle.doc_model.specs.declared.item.Mark.{Mark}
use Rattle.doc_model.specs.declared.item.Item.{Item}
use Rattle.doc_model.specs.Collected.{joined_texts}
use Rattle.doc_model.specs.Stretches.{stretches, joins_next, IsJoinedStretch}
use Rattle.doc_model.specs.Settings.{is_alike, is_inside}
use Rattle.doc_model.proofs.Public.{are_stretches, same_properties-Decides, in_joined}
use Rattle.full_save.specs.Runs.{joins_run, mark_properties, item_properties, run_at, runs_from, text_runs}
use Rattle.fkp_pages.specs.Rows.{IsInRun}

-- ---- the part that an element is in

-- it is in front or behind
abbrev pub IsAtSeam : {A : Type 0} → List A → List A → ℕ → A → Type 0
IsAtSeam front back i x =
    (slice_get front i ≡ Some x) ⊎ ((k : ℕ) × ((i ≡ length front + k) × (slice_get back k ≡ Some x)))

pub at_seam : {A : Type 0} (front back : List A) (i : ℕ) (x : A) → slice_get (front ++ back) i ≡ Some x →
    IsAtSeam front back i x
at_seam [] back i x here = let e : i ≡ 0 + i = omega arith in inr (i, (e, here))
at_seam (first ∷ front) back zero x here = inl here
at_seam (first ∷ front) back (suc i) x here = elim (at_seam front back i x here) [
  | inl before ↦ inl before
  | inr behind ↦ let e = behind.1.0 in inr (behind.0, (omega (arith, e), behind.1.1))
]

record IsInPart (parts : List (List Item)) (i : ℕ) (item : Item) : Type 0 where
  number : ℕ
  part : List Item
  offset : ℕ
  there : slice_get parts number ≡ Some part
  here : slice_get part offset ≡ Some item
  at : i ≡ length (joined_texts (take number parts)) + offset

in_part : (parts : List (List Item)) (i : ℕ) (item : Item) → slice_get (joined_texts parts) i ≡ Some item →
    IsInPart parts i item
in_part [] i item here = absurd (none-some item here)
in_part (part ∷ parts) i item here = elim (at_seam part (joined_texts parts) i item here) [
  | inl front ↦ record { number = zero; part = part; offset = i; there = refl; here = front; at = omega arith }
  | inr back ↦
      let found = in_part parts back.0 item back.1.1 in
      let e = back.1.0 in
      let f = found.at in
      let len = length-append part (joined_texts (take found.number parts)) in
      record {
        number = suc found.number;
        part = found.part;
        offset = found.offset;
        there = found.there;
        here = found.here;
        at = omega (arith, e, f, len);
      }
]

-- the run of a part
run_there : (kind : PageKind) (at : ℕ) (parts : List (List Item)) (k place : ℕ) (part : List Item) →
    slice_get parts k ≡ Some part → place ≡ at + 2 * length (joined_texts (take k parts)) →
    slice_get (runs_from kind at parts) k ≡ Some (run_at kind place part)
unfolding runs_from
run_there kind at [] k place part here e = absurd (none-some part here)
run_there kind at (first ∷ parts) zero place part here e =
    let same : at ≡ place = omega (arith, e) in
    let is = same_Some first part here in
    λ i. Some (run_at kind (same i) (is i))
run_there kind at (first ∷ parts) (suc k) place part here e =
    let len = length-append first (joined_texts (take k parts)) in
    run_there kind (at + 2 * length first) parts k place part here (omega (arith, e, len))

-- the run that holds an item
in_run : (kind : PageKind) (at : ℕ) (parts : List (List Item)) (i : ℕ) (item : Item) (found : IsInPart parts i item) →
    IsInRun (runs_from kind at parts) (at + 2 * i)
    (run_at kind (at + 2 * length (joined_texts (take found.number parts))) found.part)
in_run kind at parts i item found =
    let e = found.at in
    let within = slice_get_within found.part found.offset item found.here in
    record {
      number = found.number;
      there =
          run_there kind at parts found.number (at + 2 * length (joined_texts (take found.number parts))) found.part
          found.there refl;
      from = omega (arith, e);
      to = omega (arith, e, within);
    }

-- ---- what the items of a stretch have in common

-- an item of a stretch joins the next one
joined_next : (joins : Item → Item → Bool) (part : List Item) (k : ℕ) (item next : Item) → IsJoinedStretch joins part →
    slice_get part k ≡ Some item → slice_get part (k + 1) ≡ Some next → joins item next ≡ true
joined_next joins part k item next joined here there =
    let within = slice_get_within part (k + 1) next there in
    let is = joined k within in
    subst (λ o. joins_next joins (Some item) o ≡ true) there
    (subst (λ o. joins_next joins o (slice_get part (k + 1)) ≡ true) here is)

-- so many items later the properties of characters are the same
alike_later : (part : List Item) (k n : ℕ) (item later : Item) → IsJoinedStretch is_alike part →
    slice_get part k ≡ Some item → slice_get part (k + n) ≡ Some later → item.chp ≡ later.chp
alike_later part k zero item later joined here there =
    let e : k + 0 ≡ k = omega arith in
    ap (λ (i : Item). i.chp)
    (same_Some item later (sym here ∙ subst (λ m. slice_get part m ≡ Some later) e there))
alike_later part k (suc n) item later joined here there =
    let within = slice_get_within part (k + suc n) later there in
    let before = there_is part (k + n) (omega (arith, within)) in
    let e : k + suc n ≡ k + n + 1 = omega arith in
    let next : slice_get part (k + n + 1) ≡ Some later = subst (λ m. slice_get part m ≡ Some later) e there in
    let joins = joined_next is_alike part (k + n) before.0 later joined before.1 next in
    alike_later part k n item before.0 joined here before.1
    ∙ (same_properties-Decides before.0.chp later.chp).0 joins

-- each item is in a run of characters that has its properties
pub character_run : (at : ℕ) (items : List Item) (i : ℕ) (item : Item) → slice_get items i ≡ Some item →
    (run : Run) × (IsInRun (text_runs Chpx at items) (at + 2 * i) run × (run.map ≡ item.chp))
character_run at items i item here =
    let parts = stretches is_alike items in
    let cut = are_stretches is_alike items in
    let found = in_part parts i item (subst (λ xs. slice_get xs i ≡ Some item) (sym cut.whole) here) in
    let joined = All_at (IsJoinedStretch is_alike) parts found.number found.part cut.joined found.there in
    let within = slice_get_within found.part found.offset item found.here in
    let last = there_is found.part (length found.part - 1) (omega (arith, within)) in
    let e : length found.part - 1 ≡ found.offset + (length found.part - 1 - found.offset) = omega (arith, within) in
    let there : slice_get found.part (found.offset + (length found.part - 1 - found.offset)) ≡ Some last.0 =
    subst (λ m. slice_get found.part m ≡ Some last.0) e last.1 in
    let same =
    alike_later found.part found.offset (length found.part - 1 - found.offset) item last.0 joined found.here there in
    let run = run_at Chpx (at + 2 * length (joined_texts (take found.number parts))) found.part in (
      run,
      (in_run Chpx at parts i item found, ap (λ o. (item_properties Chpx o).1) last.1 ∙ sym same),
    )

-- an item with a mark is the last of its paragraph
marked_last : (part : List Item) (k : ℕ) (item : Item) (mark : Mark) → IsJoinedStretch is_inside part →
    slice_get part k ≡ Some item → item.mark ≡ Some mark → k + 1 ≡ length part
marked_last part k item mark joined here marked =
    let within = slice_get_within part k item here in
    elim (cases_lt (k + 1) (length part)) [
      | inl more ↦
          let next = there_is part (k + 1) more in
          let goes : not (is_some item.mark) ≡ true = joined_next is_inside part k item next.0 joined here next.1 in
          let ends : not (is_some item.mark) ≡ false = ap (λ o. not (is_some o)) marked in
          absurd (true≢false (sym goes ∙ ends))
      | inr all ↦ omega (arith, within, all)
    ]

-- each item with a mark is in a run of paragraphs that has the mark's style and properties
pub paragraph_run : (at : ℕ) (items : List Item) (i : ℕ) (item : Item) (mark : Mark) →
    slice_get items i ≡ Some item → item.mark ≡ Some mark →
    (run : Run) × (IsInRun (text_runs Papx at items) (at + 2 * i) run × ((run.istd ≡ mark.istd) × (run.map ≡ mark.pap)))
paragraph_run at items i item mark here marked =
    let parts = stretches is_inside items in
    let cut = are_stretches is_inside items in
    let found = in_part parts i item (subst (λ xs. slice_get xs i ≡ Some item) (sym cut.whole) here) in
    let joined = All_at (IsJoinedStretch is_inside) parts found.number found.part cut.joined found.there in
    let last = marked_last found.part found.offset item mark joined found.here marked in
    let e : found.offset ≡ length found.part - 1 = omega (arith, last) in
    let there : slice_get found.part (length found.part - 1) ≡ Some item =
    subst (λ n. slice_get found.part n ≡ Some item) e found.here in
    let properties : item_properties Papx (slice_get found.part (length found.part - 1)) ≡ (mark.istd, mark.pap) =
    ap (item_properties Papx) there ∙ ap mark_properties marked in
    let run = run_at Papx (at + 2 * length (joined_texts (take found.number parts))) found.part in (
      run,
      (
        in_run Papx at parts i item found,
        (ap (λ (s : ℕ × Properties). s.0) properties, ap (λ (s : ℕ × Properties). s.1) properties),
      ),
    )

-- ---- what can be written of an item

pub record IsWritableMark (mark : Mark) : Type 0 where
  pub istd : mark.istd < 2 ^ 16
  pub formed : IsPropertyMap paragraph_groups mark.pap
  pub short : length (printed_list mark.pap) ≤ 480

-- its unit and its properties have their bits and fit a page
pub record IsWritableItem (item : Item) : Type 0 where
  pub unit : item.unit < 2 ^ 16
  pub formed : IsPropertyMap character_groups item.chp
  pub short : length (printed_list item.chp) ≤ 255
  pub mark : ForSome item.mark IsWritableMark

-- the properties of a run
record AreRunProperties (kind : PageKind) (properties : ℕ × Properties) : Type 0 where
  istd : properties.0 < 2 ^ 16
  formed : IsPropertyMap (run_groups kind) properties.1
  short : length (printed_list properties.1) ≤ most_printed kind

no_properties : (kind : PageKind) → AreRunProperties kind (0, empty)
no_properties Chpx =
    record {
      istd = omega arith;
      formed = IsPropertyMap-empty (run_groups Chpx);
      short = rw entries-empty (omega arith);
    }
no_properties Papx =
    record {
      istd = omega arith;
      formed = IsPropertyMap-empty (run_groups Papx);
      short = rw entries-empty (omega arith);
    }

of_mark : (mark : Option Mark) → ForSome mark IsWritableMark → AreRunProperties Papx (mark_properties mark)
of_mark None writable = no_properties Papx
of_mark (Some mark) writable =
    let is = writable mark refl in record { istd = is.istd; formed = is.formed; short = is.short }

of_item : (kind : PageKind) (item : Item) → IsWritableItem item → AreRunProperties kind (item_properties kind (Some
    item))
of_item Chpx item writable = record { istd = omega arith; formed = writable.formed; short = writable.short }
of_item Papx item writable = of_mark item.mark writable.mark

-- a part that is not empty and whose last item can be written
record IsWritablePart (kind : PageKind) (part : List Item) : Type 0 where
  some : 0 < length part
  properties : AreRunProperties kind (item_properties kind (slice_get part (length part - 1)))

part_writable : (kind : PageKind) (part : List Item) → 0 < length part →
    ((k : ℕ) (item : Item) → slice_get part k ≡ Some item → IsWritableItem item) → IsWritablePart kind part
part_writable kind part some writable =
    let last = there_is part (length part - 1) (omega (arith, some)) in
    record {
      some = some;
      properties =
          subst (λ o. AreRunProperties kind (item_properties kind o)) (sym last.1)
          (of_item kind last.0 (writable (length part - 1) last.0 last.1));
    }

parts_writable : (kind : PageKind) (items : List Item) → All IsWritableItem items →
    All (IsWritablePart kind) (stretches (joins_run kind) items)
parts_writable kind items writable =
    let parts = stretches (joins_run kind) items in
    let cut = are_stretches (joins_run kind) items in
    All-from_slice_get (IsWritablePart kind) parts (λ n part there.
    part_writable kind part (All_at (λ (p : List Item). 0 < length p) parts n part cut.some there)
    (λ k item here.
    let i : ℕ = length (joined_texts (take n parts)) + k in
    let at : slice_get items i ≡ Some item =
    subst (λ xs. slice_get xs i ≡ Some item) cut.whole (in_joined parts n part k item there here) in
    All_at IsWritableItem items i item writable at))

-- ---- the runs

runs_writable : (kind : PageKind) (at : ℕ) (parts : List (List Item)) → All (IsWritablePart kind) parts →
    All (IsWritableRun kind) (runs_from kind at parts)
unfolding runs_from
runs_writable kind at [] writable = All-nil (IsWritableRun kind)
runs_writable kind at (part ∷ parts) writable =
    let is = All-head (IsWritablePart kind) part parts writable in
    let some = is.some in
    All-cons (IsWritableRun kind) (run_at kind at part) (runs_from kind (at + 2 * length part) parts)
    (record { order = omega (arith, some); formed = is.properties.formed; short = is.properties.short })
    (runs_writable kind (at + 2 * length part) parts (All-tail (IsWritablePart kind) part parts writable))

runs_touch : (kind : PageKind) (at : ℕ) (parts : List (List Item)) (k : ℕ) (run next : Run) →
    slice_get (runs_from kind at parts) k ≡ Some run → slice_get (runs_from kind at parts) (k + 1) ≡ Some next →
    run.to ≡ next.from
unfolding runs_from
runs_touch kind at [] k run next here there = absurd (none-some run here)
runs_touch kind at (part ∷ []) zero run next here there = absurd (none-some next there)
runs_touch kind at (part ∷ []) (suc k) run next here there = absurd (none-some run here)
runs_touch kind at (part ∷ (other ∷ parts)) zero run next here there =
    let second = run_at kind (at + 2 * length part) other in
    ap (λ (r : Run). r.to) (sym (same_Some (run_at kind at part) run here))
    ∙ ap (λ (r : Run). r.from) (same_Some second next there)
runs_touch kind at (part ∷ (other ∷ parts)) (suc k) run next here there =
    let e : suc k + 1 ≡ suc (k + 1) = omega arith in
    let runs = runs_from kind at (part ∷ (other ∷ parts)) in
    let later : slice_get runs (suc (k + 1)) ≡ Some next = subst (λ n. slice_get runs n ≡ Some next) e there in
    runs_touch kind (at + 2 * length part) (other ∷ parts) k run next here later

runs_numbers : (kind : PageKind) (at : ℕ) (parts : List (List Item)) → All (IsWritablePart kind) parts →
    at + 2 * length (joined_texts parts) < 2 ^ 32 → All HasRunNumbers (runs_from kind at parts)
unfolding runs_from
runs_numbers kind at [] writable small = All-nil HasRunNumbers
runs_numbers kind at (part ∷ parts) writable small =
    let is = All-head (IsWritablePart kind) part parts writable in
    let len = length-append part (joined_texts parts) in
    All-cons HasRunNumbers (run_at kind at part) (runs_from kind (at + 2 * length part) parts)
    (record { from = omega (arith, small, len); to = omega (arith, small, len); istd = is.properties.istd })
    (runs_numbers kind (at + 2 * length part) parts (All-tail (IsWritablePart kind) part parts writable)
    (omega (arith, small, len)))

some_run : (kind : PageKind) (at : ℕ) (parts : List (List Item)) → 0 < length (joined_texts parts) →
    0 < length (runs_from kind at parts)
unfolding runs_from
some_run kind at [] some = absurd (omega (arith, some))
some_run kind at (part ∷ parts) some = omega arith

-- the runs of items that can be written
pub record AreTextRuns (kind : PageKind) (runs : List Run) : Type 0 where
  pub right : AreRuns kind runs
  pub numbers : All HasRunNumbers runs
  pub some : 0 < length runs

pub text_runs_right : (kind : PageKind) (at : ℕ) (items : List Item) → All IsWritableItem items → 0 < length items →
    at + 2 * length items < 2 ^ 32 → AreTextRuns kind (text_runs kind at items)
text_runs_right kind at items writable some small =
    let parts = stretches (joins_run kind) items in
    let cut = are_stretches (joins_run kind) items in
    let are = parts_writable kind items writable in
    let len : length (joined_texts parts) ≡ length items = ap length cut.whole in
    record {
      right = record { writable = runs_writable kind at parts are; touch = runs_touch kind at parts };
      numbers = runs_numbers kind at parts are (omega (arith, len, small));
      some = some_run kind at parts (omega (arith, len, some));
    }
