-- The run of an added unit ends with it where a mark does, and beyond it where none does.
use Rattle.std.specs.Prelude.{slice_get, is_some}
use Rattle.std.proofs.Common.{◌≡◌, ◌∙◌, refl, sym, ap, subst, inl, inr, ℕ, zero, suc, ◌+◌, ◌-◌, ◌*◌, ◌<◌, ◌≤◌}
use Rattle.std.proofs.Common.{Bool}
use Rattle.std.proofs.Common.{true, false, not, cond, List, [], ◌∷◌, length, map, Option, Some, arith}
use Rattle.std.proofs.lemmas.Bool.{cases_Bool, cases_lt, cond-true, cond-false, true≢false}
use Rattle.std.proofs.lemmas.Option.{same_Some, none-some, slice_get_within, get_or_from_slice_get}
use Rattle.doc_bits.proofs.Public.{get-map}
use Rattle.fkp_pages.specs.declared.kind.PageKind.TheVariants.{Papx}
use Rattle.fkp_pages.specs.declared.lists.Run.{Run}
use Rattle.fkp_pages.specs.PageBytes.{last_fc}
use Rattle.fkp_pages.specs.Pages.{first_fc}
use Rattle.doc_model.specs.declared.item.Mark.{Mark}
use Rattle.doc_model.specs.declared.item.Item.{Item}
use Rattle.doc_model.specs.Settings.{is_inside}
use Rattle.doc_model.specs.Stretches.{stretch_from, stretches}
use Rattle.full_save.specs.Runs.{run_at, runs_from, text_runs}
use Rattle.full_save.proofs.Public.{last_fc-text_runs, length-runs_from}
use Rattle.doc_model.proofs.Public.{Leads, leads}
use Rattle.fast_save_layout.specs.KeptBins.{kept_end}
use Rattle.fast_save_layout.specs.MarkRuns.{is_open_item, leaves_open, longer, longer_if_open, runs_begun_at}
use Rattle.fast_save_layout.specs.MarkEnds.{RunsEndWithMarks}
use Rattle.fast_save_layout.proofs.AddedRuns.{text_first, kept_end_low}
use Rattle.fast_save_layout.proofs.MarkLemmas.{reached_first}

-- the run of an item, among those of its text: where no mark ends the item it goes on, or is the last one
record IsAt (runs : List Run) (at : ℕ) (mark : Option Mark) : Type 0 where
  number : ℕ
  run : Run
  there : slice_get runs number ≡ Some run
  from : run.from ≤ at
  to : at + 2 ≤ run.to
  mark_ends : is_some mark ≡ true → run.to ≡ at + 2
  goes_on : is_some mark ≡ false → run.to ≡ at + 2 → number + 1 ≡ length runs

abbrev paragraphs : List Item → List (List Item)
paragraphs items = stretches is_inside items

abbrev marked : Item → Bool
marked item = is_some item.mark

-- the run of another place, behind one more
behind_one : (one : Run) (runs : List Run) (at : ℕ) (mark : Option Mark) → IsAt runs at mark → IsAt (one ∷ runs) at mark
behind_one one runs at mark is = record {
  number = suc is.number;
  run = is.run;
  there = is.there;
  from = is.from;
  to = is.to;
  mark_ends = is.mark_ends;
  goes_on = λ none ends. let last = is.goes_on none ends in omega (arith, last);
}

-- ---- a paragraph with an item more at its front

abbrev rest_of : ℕ → List (List Item) → List Run
rest_of at more = runs_from Papx at more

earlier_first : (at : ℕ) (x y : Item) (front : List Item) (more : List (List Item)) (place : ℕ) (mark : Option Mark) →
    (run : Run) → slice_get (run_at Papx (at + 2) (y ∷ front) ∷ rest_of (at + 2 + 2 * length (y ∷ front)) more) 0
    ≡ Some run → run.from ≤ place → place + 2 ≤ run.to → (is_some mark ≡ true → run.to ≡ place + 2) →
    (is_some mark ≡ false → run.to ≡ place + 2 → 0 ≡ length more) →
    IsAt (run_at Papx at (x ∷ (y ∷ front)) ∷ rest_of (at + 2 * length (x ∷ (y ∷ front))) more) place mark
earlier_first at x y front more place mark run here from to ends on =
    let old = run_at Papx (at + 2) (y ∷ front) in
    let same = same_Some old run here in
    let begins = ap (λ (r : Run). r.from) same in
    let stops = ap (λ (r : Run). r.to) same in
    record {
      number = 0;
      run = run_at Papx at (x ∷ (y ∷ front));
      there = refl;
      from = omega (arith, begins, from);
      to = omega (arith, stops, to);
      mark_ends = λ some. let is = ends some in omega (arith, stops, is);
      goes_on = λ none is.
          let last = on none (omega (arith, stops, is)) in
          omega (arith, last, length-runs_from Papx (at + 2 * length (x ∷ (y ∷ front))) more);
    }

earlier_later : (at : ℕ) (x y : Item) (front : List Item) (more : List (List Item)) (place : ℕ) (mark : Option Mark) →
    (number : ℕ) (run : Run) →
    slice_get (rest_of (at + 2 + 2 * length (y ∷ front)) more) number ≡ Some run → run.from ≤ place →
    place + 2 ≤ run.to → (is_some mark ≡ true → run.to ≡ place + 2) →
    (is_some mark ≡ false → run.to ≡ place + 2 → number + 1 ≡ length more) →
    IsAt (run_at Papx at (x ∷ (y ∷ front)) ∷ rest_of (at + 2 * length (x ∷ (y ∷ front))) more) place mark
earlier_later at x y front more place mark number run here from to ends on =
    let seam : at + 2 + 2 * length (y ∷ front) ≡ at + 2 * length (x ∷ (y ∷ front)) = omega arith in
    record {
      number = suc number;
      run = run;
      there = subst (λ (n : ℕ). slice_get (rest_of n more) number ≡ Some run) seam here;
      from = from;
      to = to;
      mark_ends = ends;
      goes_on = λ none is.
          let last = on none is in
          omega (arith, last, length-runs_from Papx (at + 2 * length (x ∷ (y ∷ front))) more);
    }

earlier_by : (at : ℕ) (x y : Item) (front : List Item) (more : List (List Item)) (place : ℕ) (mark : Option Mark) →
    (number : ℕ) (run : Run) →
    slice_get (run_at Papx (at + 2) (y ∷ front) ∷ rest_of (at + 2 + 2 * length (y ∷ front)) more) number ≡ Some run →
    run.from ≤ place → place + 2 ≤ run.to → (is_some mark ≡ true → run.to ≡ place + 2) →
    (is_some mark ≡ false → run.to ≡ place + 2 → number ≡ length more) →
    IsAt (run_at Papx at (x ∷ (y ∷ front)) ∷ rest_of (at + 2 * length (x ∷ (y ∷ front))) more) place mark
earlier_by at x y front more place mark zero run here from to ends on =
    earlier_first at x y front more place mark run here from to ends on
earlier_by at x y front more place mark (suc number) run here from to ends on =
    earlier_later at x y front more place mark number run here from to ends
    (λ none is. let last = on none is in omega (arith, last))

earlier : (at : ℕ) (x y : Item) (front : List Item) (more : List (List Item)) (place : ℕ) (mark : Option Mark) →
    IsAt (runs_from Papx (at + 2) ((y ∷ front) ∷ more)) place mark →
    IsAt (runs_from Papx at ((x ∷ (y ∷ front)) ∷ more)) place mark
unfolding runs_from
earlier at x y front more place mark is =
    earlier_by at x y front more place mark is.number is.run is.there is.from is.to is.mark_ends
    (λ none ends.
    let last = is.goes_on none ends in
    omega (arith, last, length-runs_from Papx (at + 2 + 2 * length (y ∷ front)) more))

-- ---- each item in its turn

joined_as : (x y : Item) (parts : List (List Item)) (lead : Leads y parts) (b : Bool) → is_inside x y ≡ b →
    stretch_from is_inside x parts ≡ cond b ((x ∷ (y ∷ lead.front)) ∷ lead.more) ((x ∷ []) ∷ parts)
joined_as x y parts lead true inside =
    ap (stretch_from is_inside x) lead.is
    ∙ cond-true (is_inside x y) ((x ∷ (y ∷ lead.front)) ∷ lead.more)
    ((x ∷ []) ∷ ((y ∷ lead.front) ∷ lead.more)) inside
joined_as x y parts lead false apart =
    ap (stretch_from is_inside x) lead.is
    ∙ (cond-false (is_inside x y) ((x ∷ (y ∷ lead.front)) ∷ lead.more)
    ((x ∷ []) ∷ ((y ∷ lead.front) ∷ lead.more)) apart
    ∙ ap (λ (p : List (List Item)). (x ∷ []) ∷ p) (sym lead.is))

-- an item alone in its paragraph
alone : (at : ℕ) (x item : Item) (more : List (List Item)) → x ≡ item → (is_some item.mark ≡ false → length more ≡ 0) →
    IsAt (run_at Papx at (x ∷ []) ∷ rest_of (at + 2) more) (at + 2 * 0) item.mark
alone at x item more same last = record {
  number = 0;
  run = run_at Papx at (x ∷ []);
  there = refl;
  from = omega arith;
  to = omega arith;
  mark_ends = λ some. omega arith;
  goes_on = λ none is. let all = last none in omega (arith, all, length-runs_from Papx (at + 2) more);
}

-- an item that is followed by others of its paragraph
followed : (at : ℕ) (x y : Item) (front : List Item) (more : List (List Item)) (item : Item) → x ≡ item →
    is_some x.mark ≡ false →
    IsAt (run_at Papx at (x ∷ (y ∷ front)) ∷ rest_of (at + 2 * length (x ∷ (y ∷ front))) more) (at + 2 * 0) item.mark
followed at x y front more item same none = record {
  number = 0;
  run = run_at Papx at (x ∷ (y ∷ front));
  there = refl;
  from = omega arith;
  to = omega arith;
  mark_ends = λ some. absurd (true≢false (sym some ∙ (ap (λ (i : Item). is_some i.mark) (sym same) ∙ none)));
  goes_on = λ other is. absurd (omega (arith, is));
}

next_place : (at k : ℕ) (runs : List Run) (mark : Option Mark) → IsAt runs (at + 2 + 2 * k) mark →
    IsAt runs (at + 2 * suc k) mark
next_place at k runs mark is =
    let e : at + 2 + 2 * k ≡ at + 2 * suc k = omega arith in subst (λ (n : ℕ). IsAt runs n mark) e is

by_text : (at : ℕ) (items : List Item) (k : ℕ) (item : Item) → slice_get items k ≡ Some item →
    IsAt (text_runs Papx at items) (at + 2 * k) item.mark
unfolding stretches runs_from
by_text at [] k item here = absurd (none-some item here)
by_text at (x ∷ []) zero item here = alone at x item [] (same_Some x item here) (λ none. refl)
by_text at (x ∷ []) (suc k) item here = absurd (none-some item here)
by_text at (x ∷ (y ∷ ys)) zero item here =
    let parts = stretch_from is_inside y (stretches is_inside ys) in
    let lead : Leads y parts = leads is_inside y (stretches is_inside ys) in
    let same = same_Some x item here in
    elim (cases_Bool (is_some x.mark)) [
      | inl some ↦
          let split = joined_as x y parts lead false (ap not some) in
          subst (λ (p : List (List Item)). IsAt (runs_from Papx at p) (at + 2 * 0) item.mark) (sym split)
          (alone at x item parts same
          (λ none. absurd (true≢false (sym some ∙ (ap (λ (i : Item). is_some i.mark) same ∙ none)))))
      | inr none ↦
          let split = joined_as x y parts lead true (ap not none) in
          subst (λ (p : List (List Item)). IsAt (runs_from Papx at p) (at + 2 * 0) item.mark) (sym split)
          (followed at x y lead.front lead.more item same none)
    ]
by_text at (x ∷ (y ∷ ys)) (suc k) item here =
    let parts = stretch_from is_inside y (stretches is_inside ys) in
    let lead : Leads y parts = leads is_inside y (stretches is_inside ys) in
    let later = by_text (at + 2) (y ∷ ys) k item here in
    elim (cases_Bool (is_some x.mark)) [
      | inl some ↦
          let split = joined_as x y parts lead false (ap not some) in
          subst (λ (p : List (List Item)). IsAt (runs_from Papx at p) (at + 2 * suc k) item.mark) (sym split)
          (next_place at k (run_at Papx at (x ∷ []) ∷ rest_of (at + 2) parts) item.mark
          (behind_one (run_at Papx at (x ∷ [])) (rest_of (at + 2) parts) (at + 2 + 2 * k) item.mark later))
      | inr none ↦
          let split = joined_as x y parts lead true (ap not none) in
          let led =
          subst (λ (p : List (List Item)). IsAt (runs_from Papx (at + 2) p) (at + 2 + 2 * k) item.mark) lead.is later in
          subst (λ (p : List (List Item)). IsAt (runs_from Papx at p) (at + 2 * suc k) item.mark) (sym split)
          (next_place at k (runs_from Papx at ((x ∷ (y ∷ lead.front)) ∷ lead.more)) item.mark
          (earlier at x y lead.front lead.more (at + 2 + 2 * k) item.mark led))
    ]

-- ---- the last run holds a unit more

abbrev longer_run : Run → Run
longer_run run = record run { to = run.to + 2 }

longer_last : (runs : List Run) (n : ℕ) (run : Run) → slice_get runs n ≡ Some run → n + 1 ≡ length runs →
    slice_get (longer runs) n ≡ Some (longer_run run)
unfolding longer
longer_last [] n run here last = absurd (none-some run here)
longer_last (one ∷ []) zero run here last = ap (λ (r : Run). Some (longer_run r)) (same_Some one run here)
longer_last (one ∷ []) (suc n) run here last = absurd (none-some run here)
longer_last (one ∷ (two ∷ runs)) zero run here last = absurd (omega (arith, last))
longer_last (one ∷ (two ∷ runs)) (suc n) run here last = longer_last (two ∷ runs) n run here (omega (arith, last))

longer_before : (runs : List Run) (n : ℕ) (run : Run) → slice_get runs n ≡ Some run → n + 1 < length runs →
    slice_get (longer runs) n ≡ Some run
unfolding longer
longer_before [] n run here low = absurd (none-some run here)
longer_before (one ∷ []) n run here low = absurd (omega (arith, low))
longer_before (one ∷ (two ∷ runs)) zero run here low = here
longer_before (one ∷ (two ∷ runs)) (suc n) run here low = longer_before (two ∷ runs) n run here (omega (arith, low))

-- the last run ends where they all do
last_ends : (runs : List Run) (n : ℕ) (run : Run) → slice_get runs n ≡ Some run → n + 1 ≡ length runs →
    run.to ≡ last_fc runs
last_ends runs n run here last =
    let tos = map (λ (r : Run). r.to) runs in
    let e : n ≡ length runs - 1 = omega (arith, last) in
    let got = get_or_from_slice_get tos (length runs - 1) run.to 0
    (get-map (λ (r : Run). r.to) runs (length runs - 1) run (subst (λ (m : ℕ). slice_get runs m ≡ Some run) e here)) in
    sym got

-- ---- the first one begins earlier

begun_at : (place : ℕ) (runs : List Run) (n : ℕ) (run : Run) → slice_get runs n ≡ Some run → place ≤ first_fc runs →
    (found : Run) × ((slice_get (runs_begun_at place runs) n ≡ Some found) × ((found.from ≤ run.from) × (found.to ≡
    run.to)))
begun_at place [] n run here low = absurd (none-some run here)
begun_at place (one ∷ runs) zero run here low =
    let same = same_Some one run here in
    let from = ap (λ (r : Run). r.from) same in (
      record { from = place; to = one.to; istd = one.istd; map = one.map },
      (refl, (omega (arith, low, from), ap (λ (r : Run). r.to) same)),
    )
begun_at place (one ∷ runs) (suc n) run here low = (run, (here, (omega arith, refl)))

-- ---- the law

-- what is known of the run of an item, where the last one may hold a unit more
record IsBounded (runs : List Run) (at : ℕ) (mark : Option Mark) : Type 0 where
  number : ℕ
  run : Run
  there : slice_get runs number ≡ Some run
  from : run.from ≤ at
  to : at < run.to
  mark_ends : is_some mark ≡ true → run.to ≡ at + 2
  goes_on : is_some mark ≡ false → at + 2 < run.to

module _ (base : ℕ) (items : List Item) (k : ℕ) (item : Item) (here : slice_get items k ≡ Some item) where
  abbrev runs : List Run
  runs = text_runs Papx base items

  abbrev place : ℕ
  place = base + 2 * k

  own : IsAt runs place item.mark
  own = by_text base items k item here

  -- in the last run an item that ends it is the last one
  last_decides : own.run.to ≡ place + 2 → own.number + 1 ≡ length runs → leaves_open items ≡ not (is_some item.mark)
  last_decides ends last =
      let within = slice_get_within items k item here in
      let all = last_ends runs own.number own.run own.there last in
      let text = last_fc-text_runs Papx base items (omega (arith, within)) in
      let e : k ≡ length items - 1 = omega (arith, ends, all, text, within) in
      ap is_open_item (subst (λ (n : ℕ). slice_get items n ≡ Some item) e here)

  ends_by : (open_end : Bool) → leaves_open items ≡ open_end →
      IsBounded (cond open_end (longer runs) runs) place item.mark
  ends_by true unended = elim (cases_lt (own.number + 1) (length runs)) [
    | inl low ↦ record {
      number = own.number;
      run = own.run;
      there = longer_before runs own.number own.run own.there low;
      from = own.from;
      to = let to = own.to in omega (arith, to);
      mark_ends = own.mark_ends;
      goes_on = λ none.
          let to = own.to in
          let ne : ¬ (own.run.to ≡ place + 2) = λ ends. let last = own.goes_on none ends in
          absurd (omega (arith, last, low)) in
          omega (arith, to, ne);
    }
    | inr high ↦
        let within = slice_get_within runs own.number own.run own.there in
        let last : own.number + 1 ≡ length runs = omega (arith, high, within) in
        record {
          number = own.number;
          run = longer_run own.run;
          there = longer_last runs own.number own.run own.there last;
          from = own.from;
          to = let to = own.to in omega (arith, to);
          mark_ends = λ some.
              let decides = last_decides (own.mark_ends some) last in
              absurd (true≢false (sym unended ∙ (decides ∙ ap not some)));
          goes_on = λ none. let to = own.to in omega (arith, to);
        }
  ]
  ends_by false ended = record {
    number = own.number;
    run = own.run;
    there = own.there;
    from = own.from;
    to = let to = own.to in omega (arith, to);
    mark_ends = own.mark_ends;
    goes_on = λ none.
        let to = own.to in
        let ne : ¬ (own.run.to ≡ place + 2) = λ ends.
        let decides = last_decides ends (own.goes_on none ends) in
        absurd (true≢false (sym (ap not none) ∙ (sym decides ∙ ended))) in
        omega (arith, to, ne);
  }

pub runs_end_with_marks : RunsEndWithMarks
runs_end_with_marks table base items k item here =
    let is : IsBounded (longer_if_open items (text_runs Papx base items)) (base + 2 * k) item.mark =
    ends_by base items k item here (leaves_open items) refl in
    let within = slice_get_within items k item here in
    let first = text_first Papx base items (omega (arith, within)) in
    let same = reached_first items (text_runs Papx base items) in
    let low = kept_end_low table base in
    let found = begun_at (kept_end table base) (longer_if_open items (text_runs Papx base items)) is.number is.run
    is.there
    (omega (arith, first, same, low)) in
    let from = is.from in
    let to = is.to in
    let earlier_from = found.1.1.0 in
    let same_to = found.1.1.1 in
    record {
      run = found.0;
      in_run = record {
        number = is.number;
        there = found.1.0;
        from = omega (arith, from, earlier_from);
        to = omega (arith, to, same_to);
      };
      mark_ends = λ some. let ends = is.mark_ends some in omega (arith, ends, same_to);
      goes_on = λ none. let on = is.goes_on none in omega (arith, on, same_to);
    }
