-- Runs of which the first one begins at another place, and of which the last one may hold a unit more.
use Rattle.std.specs.Prelude.{slice_get, slice_index}
use Rattle.std.proofs.Common.{◌≡◌, ◌∙◌, refl, sym, ap, subst, ℕ, zero, suc, ◌+◌, ◌-◌, ◌^◌, ◌<◌, ◌≤◌, true, false}
use Rattle.std.proofs.Common.{cond}
use Rattle.std.proofs.Common.{Bool, List, [], ◌∷◌, ◌++◌, length, map, Some, All, arith}
use Rattle.std.proofs.lemmas.List.Elements.{All-cons, All-head, All-tail}
use Rattle.std.proofs.lemmas.Option.{same_Some, none-some}
use Rattle.fkp_pages.specs.declared.kind.PageKind.{PageKind}
use Rattle.fkp_pages.specs.declared.kind.PageKind.TheVariants.{Papx}
use Rattle.fkp_pages.specs.declared.lists.Run.{Run}
use Rattle.fkp_pages.specs.Runs.{IsWritableRun, AreRuns, HasRunNumbers}
use Rattle.fkp_pages.specs.Rows.{IsInRun}
use Rattle.fkp_pages.specs.Written.{is_bare_run}
use Rattle.fkp_pages.specs.PageBytes.{last_fc}
use Rattle.fkp_pages.specs.Pages.{first_fc}
use Rattle.doc_model.specs.declared.item.Item.{Item}
use Rattle.fast_save_layout.specs.MarkRuns.{leaves_open, longer, longer_if_open, runs_begun_at, runs_end}

-- the run that holds a place has the style and the properties of another
pub record HoldsIt (runs : List Run) (fc : ℕ) (run : Run) : Type 0 where
  pub wide : Run
  pub in_run : IsInRun runs fc wide
  pub istd : wide.istd ≡ run.istd
  pub maps : wide.map ≡ run.map

-- what runs that are made of others have of them: the places, and a unit more at most
pub record AreMade (kind : PageKind) (runs made : List Run) : Type 0 where
  pub right : AreRuns kind made
  pub numbers : All HasRunNumbers made
  pub some : 0 < length made
  pub high : last_fc made ≤ last_fc runs + 2
  pub holds : (fc : ℕ) (run : Run) → IsInRun runs fc run → HoldsIt made fc run

-- ---- the last run holds a unit more

abbrev longer_run : Run → Run
longer_run run = record run { to = run.to + 2 }

pub longer-push : (runs : List Run) (run : Run) → longer (runs ++ run ∷ []) ≡ runs ++ longer_run run ∷ []
unfolding longer
longer-push [] run = refl
longer-push (one ∷ []) run = refl
longer-push (one ∷ (next ∷ runs)) run = ap (λ (rest : List Run). one ∷ rest) (longer-push (next ∷ runs) run)

pub length-longer : (runs : List Run) → length (longer runs) ≡ length runs
unfolding longer
length-longer [] = refl
length-longer (run ∷ []) = refl
length-longer (run ∷ (next ∷ runs)) = ap suc (length-longer (next ∷ runs))

longer_writable : (kind : PageKind) (runs : List Run) → All (IsWritableRun kind) runs →
    All (IsWritableRun kind) (longer runs)
unfolding longer
longer_writable kind [] all = all
longer_writable kind (run ∷ []) all =
    let own = All-head (IsWritableRun kind) run [] all in
    let order = own.order in
    All-cons (IsWritableRun kind) (longer_run run) []
    (record { order = omega (arith, order); formed = own.formed; short = own.short })
    (All-tail (IsWritableRun kind) run [] all)
longer_writable kind (run ∷ (next ∷ runs)) all =
    All-cons (IsWritableRun kind) run (longer (next ∷ runs)) (All-head (IsWritableRun kind) run (next ∷ runs) all)
    (longer_writable kind (next ∷ runs) (All-tail (IsWritableRun kind) run (next ∷ runs) all))

-- the first of them begins where it did
longer_first : (run next : Run) (runs : List Run) → slice_get (longer (run ∷ runs)) 0 ≡ Some next →
    next.from ≡ run.from
unfolding longer
longer_first run next [] here = ap (λ (r : Run). r.from) (sym (same_Some (longer_run run) next here))
longer_first run next (other ∷ runs) here = ap (λ (r : Run). r.from) (sym (same_Some run next here))

longer_touch : (runs : List Run) →
    ((k : ℕ) (run next : Run) → slice_get runs k ≡ Some run → slice_get runs (k + 1) ≡ Some next →
    run.to ≡ next.from) →
    (k : ℕ) (run next : Run) → slice_get (longer runs) k ≡ Some run → slice_get (longer runs) (k + 1) ≡ Some next →
    run.to ≡ next.from
unfolding longer
longer_touch [] touch k run next here there = absurd (none-some run here)
longer_touch (one ∷ []) touch zero run next here there = absurd (none-some next there)
longer_touch (one ∷ []) touch (suc k) run next here there = absurd (none-some run here)
longer_touch (one ∷ (two ∷ runs)) touch zero run next here there =
    ap (λ (r : Run). r.to) (sym (same_Some one run here))
    ∙ (touch 0 one two refl refl ∙ sym (longer_first two next runs there))
longer_touch (one ∷ (two ∷ runs)) touch (suc k) run next here there =
    longer_touch (two ∷ runs) (λ n a b at behind.
    let e : suc (n + 1) ≡ suc n + 1 = omega arith in
    touch (suc n) a b at (subst (λ m. slice_get (one ∷ (two ∷ runs)) m ≡ Some b) e behind)) k run next here
    (let e : suc k + 1 ≡ suc (k + 1) = omega arith in
    subst (λ m. slice_get (one ∷ longer (two ∷ runs)) m ≡ Some next) e there)

last_more : (run : Run) (runs : List Run) → 0 < length runs → last_fc (run ∷ runs) ≡ last_fc runs
last_more run runs some =
    let e : suc (length runs) - 1 ≡ suc (length runs - 1) = omega (arith, some) in
    ap (λ (n : ℕ). slice_index (map (λ (r : Run). r.to) (run ∷ runs)) n) e

longer_numbers : (runs : List Run) → last_fc runs + 2 < 2 ^ 32 → All HasRunNumbers runs →
    All HasRunNumbers (longer runs)
unfolding longer
longer_numbers [] small all = all
longer_numbers (run ∷ []) small all =
    let own = All-head HasRunNumbers run [] all in
    All-cons HasRunNumbers (longer_run run) []
    (record { from = own.from; to = omega (arith, small); istd = own.istd }) (All-tail HasRunNumbers run [] all)
longer_numbers (run ∷ (next ∷ runs)) small all =
    let last = last_more run (next ∷ runs) (omega arith) in
    All-cons HasRunNumbers run (longer (next ∷ runs)) (All-head HasRunNumbers run (next ∷ runs) all)
    (longer_numbers (next ∷ runs) (omega (arith, small, last)) (All-tail HasRunNumbers run (next ∷ runs) all))

longer_last : (runs : List Run) → last_fc (longer runs) ≤ last_fc runs + 2
unfolding longer
longer_last [] = omega arith
longer_last (run ∷ []) = omega arith
longer_last (run ∷ (next ∷ runs)) =
    let rest = longer_last (next ∷ runs) in
    let len = length-longer (next ∷ runs) in
    let last = last_more run (next ∷ runs) (omega arith) in
    let longer_is = last_more run (longer (next ∷ runs)) (omega (arith, len)) in
    omega (arith, rest, last, longer_is)

-- a run after one more
behind_one : (one : Run) (runs : List Run) (fc : ℕ) (run : Run) → HoldsIt runs fc run → HoldsIt (one ∷ runs) fc run
behind_one one runs fc run is = record {
  wide = is.wide;
  in_run = record {
    number = suc is.in_run.number;
    there = is.in_run.there;
    from = is.in_run.from;
    to = is.in_run.to;
  };
  istd = is.istd;
  maps = is.maps;
}

longer_holds : (runs : List Run) (fc k : ℕ) (run : Run) → slice_get runs k ≡ Some run → run.from ≤ fc → fc < run.to →
    HoldsIt (longer runs) fc run
unfolding longer
longer_holds [] fc k run here from to = absurd (none-some run here)
longer_holds (one ∷ []) fc zero run here from to =
    let same = same_Some one run here in
    let ends : fc < one.to = subst (λ (r : Run). fc < r.to) (sym same) to in
    record {
      wide = longer_run one;
      in_run = record {
        number = 0;
        there = refl;
        from = subst (λ (r : Run). r.from ≤ fc) (sym same) from;
        to = omega (arith, ends);
      };
      istd = ap (λ (r : Run). r.istd) same;
      maps = ap (λ (r : Run). r.map) same;
    }
longer_holds (one ∷ []) fc (suc k) run here from to = absurd (none-some run here)
longer_holds (one ∷ (next ∷ runs)) fc zero run here from to =
    let same = same_Some one run here in
    record {
      wide = one;
      in_run = record {
        number = 0;
        there = refl;
        from = subst (λ (r : Run). r.from ≤ fc) (sym same) from;
        to = subst (λ (r : Run). fc < r.to) (sym same) to;
      };
      istd = ap (λ (r : Run). r.istd) same;
      maps = ap (λ (r : Run). r.map) same;
    }
longer_holds (one ∷ (next ∷ runs)) fc (suc k) run here from to =
    behind_one one (longer (next ∷ runs)) fc run (longer_holds (next ∷ runs) fc k run here from to)

longer_bare : (runs : List Run) → map (is_bare_run Papx) (longer runs) ≡ map (is_bare_run Papx) runs
unfolding longer
longer_bare [] = refl
longer_bare (run ∷ []) = refl
longer_bare (run ∷ (next ∷ runs)) = ap (λ (rest : List Bool). is_bare_run Papx run ∷ rest) (longer_bare (next ∷ runs))

longer_begins : (runs : List Run) → first_fc (longer runs) ≡ first_fc runs
unfolding longer
longer_begins [] = refl
longer_begins (run ∷ []) = refl
longer_begins (run ∷ (next ∷ runs)) = refl

longer_are : (kind : PageKind) (runs : List Run) → AreRuns kind runs → All HasRunNumbers runs → 0 < length runs →
    last_fc runs + 2 < 2 ^ 32 → AreMade kind runs (longer runs)
longer_are kind runs right numbers some small =
    let len = length-longer runs in
    record {
      right = record {
        writable = longer_writable kind runs right.writable;
        touch = longer_touch runs right.touch;
      };
      numbers = longer_numbers runs small numbers;
      some = omega (arith, some, len);
      high = longer_last runs;
      holds = λ fc run in_run. longer_holds runs fc in_run.number run in_run.there in_run.from in_run.to;
    }

same_are : (kind : PageKind) (runs : List Run) → AreRuns kind runs → All HasRunNumbers runs → 0 < length runs →
    AreMade kind runs runs
same_are kind runs right numbers some = record {
  right = right;
  numbers = numbers;
  some = some;
  high = omega arith;
  holds = λ fc run in_run. record { wide = run; in_run = in_run; istd = refl; maps = refl };
}

reached_are : (kind : PageKind) (items : List Item) (runs : List Run) → AreRuns kind runs → All HasRunNumbers runs →
    0 < length runs → last_fc runs + 2 < 2 ^ 32 → AreMade kind runs (longer_if_open items runs)
reached_are kind items runs right numbers some small =
    elim (leaves_open items) as (λ b. AreMade kind runs (cond b (longer runs) runs)) [
      | true ↦ longer_are kind runs right numbers some small
      | false ↦ same_are kind runs right numbers some
    ]

pub reached_first : (items : List Item) (runs : List Run) → first_fc (longer_if_open items runs) ≡ first_fc runs
reached_first items runs = elim (leaves_open items) as (λ b. first_fc (cond b (longer runs) runs) ≡ first_fc runs) [
  | true ↦ longer_begins runs
  | false ↦ refl
]

reached_bare : (items : List Item) (runs : List Run) →
    map (is_bare_run Papx) (longer_if_open items runs) ≡ map (is_bare_run Papx) runs
reached_bare items runs =
    elim (leaves_open items) as (λ b. map (is_bare_run Papx) (cond b (longer runs) runs) ≡ map (is_bare_run Papx) runs) [
      | true ↦ longer_bare runs
      | false ↦ refl
    ]

length-reached : (items : List Item) (runs : List Run) → length (longer_if_open items runs) ≡ length runs
length-reached items runs = elim (leaves_open items) as (λ b. length (cond b (longer runs) runs) ≡ length runs) [
  | true ↦ length-longer runs
  | false ↦ refl
]

-- ---- the first run begins at another place

abbrev pub begun_run : ℕ → Run → Run
begun_run place run = record { from = place; to = run.to; istd = run.istd; map = run.map }

length-begun : (place : ℕ) (runs : List Run) → length (runs_begun_at place runs) ≡ length runs
length-begun place [] = refl
length-begun place (run ∷ runs) = refl

begun_bare : (place : ℕ) (runs : List Run) → map (is_bare_run Papx) (runs_begun_at place runs) ≡ map (is_bare_run Papx)
    runs
begun_bare place [] = refl
begun_bare place (run ∷ runs) = refl

begun_writable : (kind : PageKind) (place : ℕ) (runs : List Run) → place ≤ first_fc runs →
    All (IsWritableRun kind) runs → All (IsWritableRun kind) (runs_begun_at place runs)
begun_writable kind place [] low all = all
begun_writable kind place (run ∷ runs) low all =
    let own = All-head (IsWritableRun kind) run runs all in
    let order = own.order in
    All-cons (IsWritableRun kind) (begun_run place run) runs
    (record { order = omega (arith, low, order); formed = own.formed; short = own.short })
    (All-tail (IsWritableRun kind) run runs all)

begun_touch : (place : ℕ) (runs : List Run) →
    ((k : ℕ) (run next : Run) → slice_get runs k ≡ Some run → slice_get runs (k + 1) ≡ Some next →
    run.to ≡ next.from) →
    (k : ℕ) (run next : Run) → slice_get (runs_begun_at place runs) k ≡ Some run →
    slice_get (runs_begun_at place runs) (k + 1) ≡ Some next → run.to ≡ next.from
begun_touch place [] touch k run next here there = absurd (none-some run here)
begun_touch place (one ∷ runs) touch zero run next here there =
    ap (λ (r : Run). r.to) (sym (same_Some (begun_run place one) run here)) ∙ touch 0 one next refl there
begun_touch place (one ∷ runs) touch (suc k) run next here there =
    let e : suc k + 1 ≡ suc (k + 1) = omega arith in
    touch (suc k) run next here
    (subst (λ m. slice_get (one ∷ runs) m ≡ Some next) (sym e)
    (subst (λ m. slice_get (begun_run place one ∷ runs) m ≡ Some next) e there))

begun_numbers : (place : ℕ) (runs : List Run) → place ≤ first_fc runs → All HasRunNumbers runs →
    All HasRunNumbers (runs_begun_at place runs)
begun_numbers place [] low all = all
begun_numbers place (run ∷ runs) low all =
    let own = All-head HasRunNumbers run runs all in
    let from = own.from in
    All-cons HasRunNumbers (begun_run place run) runs
    (record { from = omega (arith, low, from); to = own.to; istd = own.istd }) (All-tail HasRunNumbers run runs all)

pub end_is : (place : ℕ) (runs : List Run) → 0 < length runs → last_fc runs ≡ runs_end place runs
end_is place [] some = absurd (omega (arith, some))
end_is place (run ∷ runs) some = refl

begun_first : (place : ℕ) (runs : List Run) → 0 < length runs → first_fc (runs_begun_at place runs) ≡ place
begun_first place [] some = absurd (omega (arith, some))
begun_first place (run ∷ runs) some = refl

begun_last : (place : ℕ) (runs : List Run) → last_fc (runs_begun_at place runs) ≡ last_fc runs
begun_last place [] = refl
begun_last place (run ∷ runs) = refl

begun_holds : (place : ℕ) (runs : List Run) (fc k : ℕ) (run : Run) → place ≤ first_fc runs →
    slice_get runs k ≡ Some run → run.from ≤ fc → fc < run.to → HoldsIt (runs_begun_at place runs) fc run
begun_holds place [] fc k run low here from to = absurd (none-some run here)
begun_holds place (one ∷ runs) fc zero run low here from to =
    let same = same_Some one run here in
    let begins : one.from ≤ fc = subst (λ (r : Run). r.from ≤ fc) (sym same) from in
    record {
      wide = begun_run place one;
      in_run = record {
        number = 0;
        there = refl;
        from = omega (arith, low, begins);
        to = subst (λ (r : Run). fc < r.to) (sym same) to;
      };
      istd = ap (λ (r : Run). r.istd) same;
      maps = ap (λ (r : Run). r.map) same;
    }
begun_holds place (one ∷ runs) fc (suc k) run low here from to = record {
  wide = run;
  in_run = record { number = suc k; there = here; from = from; to = to };
  istd = refl;
  maps = refl;
}

begun_are : (kind : PageKind) (place : ℕ) (runs : List Run) → place ≤ first_fc runs → AreRuns kind runs →
    All HasRunNumbers runs → 0 < length runs → AreMade kind runs (runs_begun_at place runs)
begun_are kind place runs low right numbers some =
    let len = length-begun place runs in
    let last = begun_last place runs in
    record {
      right = record {
        writable = begun_writable kind place runs low right.writable;
        touch = begun_touch place runs right.touch;
      };
      numbers = begun_numbers place runs low numbers;
      some = omega (arith, len, some);
      high = omega (arith, last);
      holds = λ fc run in_run. begun_holds place runs fc in_run.number run low in_run.there in_run.from in_run.to;
    }

-- ---- both

pub made_are : (kind : PageKind) (place : ℕ) (items : List Item) (runs : List Run) → place ≤ first_fc runs →
    AreRuns kind runs → All HasRunNumbers runs → 0 < length runs → last_fc runs + 2 < 2 ^ 32 →
    AreMade kind runs (runs_begun_at place (longer_if_open items runs))
made_are kind place items runs low right numbers some small =
    let long = reached_are kind items runs right numbers some small in
    let first = reached_first items runs in
    let all = begun_are kind place (longer_if_open items runs) (omega (arith, low, first)) long.right long.numbers
    long.some in
    let last = begun_last place (longer_if_open items runs) in
    let high = long.high in
    record {
      right = all.right;
      numbers = all.numbers;
      some = all.some;
      high = omega (arith, last, high);
      holds = λ fc run in_run.
          let one = long.holds fc run in_run in
          let two = all.holds fc one.wide one.in_run in
          record {
            wide = two.wide;
            in_run = two.in_run;
            istd = two.istd ∙ one.istd;
            maps = two.maps ∙ one.maps;
          };
    }

pub made_first : (place : ℕ) (items : List Item) (runs : List Run) → 0 < length runs →
    first_fc (runs_begun_at place (longer_if_open items runs)) ≡ place
made_first place items runs some =
    let len = length-reached items runs in begun_first place (longer_if_open items runs) (omega (arith, some, len))

pub length-made : (place : ℕ) (items : List Item) (runs : List Run) →
    length (runs_begun_at place (longer_if_open items runs)) ≡ length runs
length-made place items runs = length-begun place (longer_if_open items runs) ∙ length-reached items runs

pub made_bare : (place : ℕ) (items : List Item) (runs : List Run) →
    map (is_bare_run Papx) (runs_begun_at place (longer_if_open items runs)) ≡ map (is_bare_run Papx) runs
made_bare place items runs = begun_bare place (longer_if_open items runs) ∙ reached_bare items runs
