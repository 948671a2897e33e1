-- What a page answers is one thing, so a place breaks at most one of the rules, at one offset.
use Rattle.std.proofs.Common.{◌≡◌, ◌≢◌, ◌<◌, ◌≤◌, ◌+◌, ◌-◌, ◌*◌, ◌∙◌, inl, inr, ap, refl, sym, subst, ℕ, List, length}
use Rattle.std.proofs.Common.{slice_range, take, drop, Option, arith, length-take, length-drop}
use Rattle.doc_bits.specs.Rules.{Nowhere, IsLeast, LeastOrNone, From}
use Rattle.fkp_pages.specs.declared.kind.PageKind.{PageKind}
use Rattle.fkp_pages.specs.declared.kind.RunAnswer.{RunAnswer}
use Rattle.fkp_pages.specs.declared.kind.RunAnswer.TheVariants.{Found, NoRun, BadCount, Leaves}
use Rattle.sprm_table.specs.Sprm.{HasSprmFaultAt, IsFirstSprmFault, fault_place}
use Rattle.sprm_table.specs.declared.faults.SprmFault.{SprmFault}
use Rattle.std.proofs.lemmas.Bool.{cases_lt}
use Rattle.std.proofs.lemmas.List.{get_or_past}
use Rattle.fkp_pages.specs.declared.kind.PageKind.TheVariants.{Chpx, Papx}
use Rattle.doc_bits.proofs.Public.{least_same, least_from}
use Rattle.fkp_pages.specs.Runs.{run_groups}
use Rattle.fkp_pages.specs.Fkp.{HasRunAnswer, HasRunCount, page_run_count, least_list}
use Rattle.fkp_pages.specs.Bin.{IsBinTable, page_at}
use Rattle.fkp_pages.specs.Laws.{RunAnswerIsOne}
use Rattle.fkp_pages.proofs.Public.{bin_page_one}
use Rattle.direct_props.specs.PageRules.{HasPageAnswer, HasBadPage, IsInNoRun, HasListOutside, HasPageListFault}
use Rattle.direct_props.specs.PageRules.{LooksBad}
use Rattle.direct_props.specs.PageRules.{HasListRoom}

-- both the number of the page and its answer are one
pub record IsSameAnswer (n m : ℕ) (a b : RunAnswer) : Type 0 where
  pub number : n ≡ m
  pub answer : a ≡ b

pub page_answer_one : (kind : PageKind) (wd bin : List ℕ) (fc n m : ℕ) (a b : RunAnswer) → RunAnswerIsOne →
    IsBinTable bin → HasPageAnswer kind wd bin fc n a → HasPageAnswer kind wd bin fc m b → IsSameAnswer n m a b
page_answer_one kind wd bin fc n m a b law table one other =
    let e : n ≡ m = bin_page_one bin fc n m table one.page other.page in
    record {
      number = e;
      answer = law kind (page_at wd m) fc a b (subst (λ k. HasRunAnswer kind (page_at wd k) fc a) e
          one.answers) other.answers;
    }

-- the fault of one list is that of the same list
same_fault : (wd : List ℕ) (least groups p m n x from y to : ℕ) → m ≡ n → x ≡ from → y ≡ to →
    From (512 * m + x + least) (HasSprmFaultAt (slice_range (page_at wd m) (x + least) y) groups) p →
    From (512 * n + from + least) (HasSprmFaultAt (slice_range (page_at wd n) (from + least) to) groups) p
same_fault wd least groups p m n x from y to a b c f =
    subst (λ k. From (512 * k + from + least) (HasSprmFaultAt (slice_range (page_at wd k) (from + least) to) groups)
    p) a
    (subst (λ k. From (512 * m + k + least) (HasSprmFaultAt (slice_range (page_at wd m) (k + least) to) groups) p) b
    (subst (λ k. From (512 * m + x + least) (HasSprmFaultAt (slice_range (page_at wd m) (x + least) k) groups) p) c f))

module _ (kind : PageKind) (wd bin : List ℕ) (fc number : ℕ) (answer : RunAnswer) (law : RunAnswerIsOne)
    (table : IsBinTable bin) (has : HasPageAnswer kind wd bin fc number answer) where
  same : (m : ℕ) (other : RunAnswer) → HasPageAnswer kind wd bin fc m other → IsSameAnswer number m answer other
  same m other h = page_answer_one kind wd bin fc number m answer other law table has h

  -- a page that looks bad is bad
  pub bad_here : LooksBad wd number answer → IsLeast (λ a b. a ≤ b) (HasBadPage kind wd bin fc) (512 * number + 511)
  bad_here bad = record {
    broken = record {
      number = number;
      page = has.page;
      here = refl;
      bad = elim bad [
        | inl low ↦ inl low
        | inr more ↦ elim more [
          | inl short ↦ inr (inl short)
          | inr e ↦ inr (inr (subst (λ a. HasRunAnswer kind (page_at wd number) fc a) e has.answers))
        ]
      ];
    };
    least = λ p w.
        let e : number ≡ w.number = bin_page_one bin fc number w.number table has.page w.page in
        let here = w.here in omega arith;
  }

  pub not_bad : ¬ (LooksBad wd number answer) → Nowhere (HasBadPage kind wd bin fc)
  not_bad good p w =
      let e : number ≡ w.number = bin_page_one bin fc number w.number table has.page w.page in
      elim w.bad [
        | inl low ↦ good (inl (omega arith))
        | inr more ↦ elim more [
          | inl short ↦ good (inr (inl (omega arith)))
          | inr a ↦ good (inr (inr (law kind (page_at wd number) fc answer BadCount has.answers
              (subst (λ k. HasRunAnswer kind (page_at wd k) fc BadCount) (sym e) a))))
        ]
      ]

  -- no run holds the place
  pub no_run_here : answer ≡ NoRun → IsLeast (λ a b. a ≤ b) (IsInNoRun kind wd bin fc) fc
  no_run_here e = record {
    broken = record { number = number; answer = subst (λ a. HasPageAnswer kind wd bin fc number a) e has; here = refl };
    least = λ p w. let here = w.here in omega arith;
  }

  pub runs_here : answer ≢ NoRun → Nowhere (IsInNoRun kind wd bin fc)
  runs_here other p w = other (same w.number NoRun w.answer).answer

  -- the list leaves the page
  pub outside_here : (entry : ℕ) → answer ≡ Leaves entry → IsLeast (λ a b. a ≤ b) (HasListOutside kind wd bin fc)
      (512 * number + entry)
  outside_here entry e = record {
    broken = record {
      number = number;
      entry = entry;
      answer = subst (λ a. HasPageAnswer kind wd bin fc number a) e
          has;
      here = refl;
    };
    least = λ p w.
        let s = same w.number (Leaves w.entry) w.answer in
        let number_is = s.number in
        let leaves : Leaves entry ≡ Leaves w.entry = sym e ∙ s.answer in
        let entry_is : entry ≡ w.entry = cc in
        let here = w.here in omega arith;
  }

  pub inside_here : ((entry : ℕ) → answer ≢ Leaves entry) → Nowhere (HasListOutside kind wd bin fc)
  inside_here other p w = other w.entry (same w.number (Leaves w.entry) w.answer).answer

  -- the list has a fault
  pub fault_here : (from to : ℕ) (found : Option ℕ) → answer ≡ Found from to →
      LeastOrNone (From (512 * number + from + least_list kind) (HasSprmFaultAt (slice_range (page_at wd number)
      (from + least_list kind) to) (run_groups kind))) found →
      LeastOrNone (HasPageListFault kind wd bin fc) found
  fault_here from to found e h =
      least_same (From (512 * number + from + least_list kind) (HasSprmFaultAt (slice_range (page_at wd number)
      (from + least_list kind) to) (run_groups kind))) (HasPageListFault kind wd bin fc) found
      (λ p f. record {
        number = number;
        from = from;
        to = to;
        answer = subst (λ a. HasPageAnswer kind wd bin fc number
            a) e has;
        fault = f;
      })
      (λ p w.
      let s = same w.number (Found w.from w.to) w.answer in
      let founds : Found from to ≡ Found w.from w.to = sym e ∙ s.answer in
      let from_is : w.from ≡ from = cc in
      let to_is : w.to ≡ to = cc in
      same_fault wd (least_list kind) (run_groups kind) p w.number number w.from from w.to to (sym s.number) from_is
      to_is w.fault)
      h

  pub no_list_here : ((from to : ℕ) → answer ≢ Found from to) → Nowhere (HasPageListFault kind wd bin fc)
  no_list_here other p w = other w.from w.to (same w.number (Found w.from w.to) w.answer).answer

-- a page with a count has 512 bytes, so it is in the stream
pub counted_there : (kind : PageKind) (wd : List ℕ) (number : ℕ) → HasRunCount kind (page_at wd number) →
    512 * number + 512 ≤ length wd
counted_there kind wd number count =
    elim (cases_lt (length wd) (512 * number + 512)) [
      | inl short ↦
          let none : page_run_count (page_at wd number) ≡ 0 = get_or_past (page_at wd number) 511 0 (simp (
            length-take,
            length-drop,
          ) (omega arith)) in
          let some = count.some in
          absurd (omega arith)
      | inr there ↦ there
    ]

-- the list that a page answers with has room in it
pub found_has_room : (kind : PageKind) (wd : List ℕ) (fc number from to : ℕ) → HasRunAnswer kind (page_at wd number)
    fc (Found from to) → HasListRoom kind wd number from to
found_has_room kind wd fc number from to a =
    let list = a.1.answers in
    record {
      there = counted_there kind wd number a.0;
      room = rw (list.starts, list.ends) list.within.room;
      within = rw list.ends list.within.within;
    }

-- an entry is in its page
pub leaves_small : (kind : PageKind) (page : List ℕ) (fc entry : ℕ) → HasRunAnswer kind page fc (Leaves entry) →
    entry < 512
leaves_small Chpx page fc entry a = let here = a.1.answers.here in let most = a.0.most in let below = a.1.first.below
    in omega arith
leaves_small Papx page fc entry a = let here = a.1.answers.here in let most = a.0.most in let below = a.1.first.below
    in omega arith

-- a list without a fault
pub list_right : (base groups : ℕ) (bytes list : List ℕ) → bytes ≡ list → Nowhere (HasSprmFaultAt bytes groups) →
    Nowhere (From base (HasSprmFaultAt list groups))
list_right base groups bytes list e none p f = none f.offset (subst (λ l. HasSprmFaultAt l groups f.offset) (sym e)
    f.broken)

-- a list with one
pub list_wrong : (base groups place : ℕ) (fault : SprmFault) (bytes list : List ℕ) → bytes ≡ list →
    place ≡ base + fault_place fault → IsFirstSprmFault bytes groups fault → IsLeast (λ a b. a ≤ b)
    (From base (HasSprmFaultAt list groups)) place
list_wrong base groups place fault bytes list e here first =
    subst (λ l. IsLeast (λ a b. a ≤ b) (From base (HasSprmFaultAt l groups)) place) e
    (subst (λ k. IsLeast (λ a b. a ≤ b) (From base (HasSprmFaultAt bytes groups)) k) (sym here)
    (least_from (HasSprmFaultAt bytes groups) base (fault_place fault) first.least))

-- a part of a page by its own bounds
pub same_cut : (page whole : List ℕ) (start from to : ℕ) → page ≡ whole → start ≡ from → take (to - start)
    (drop start page) ≡ slice_range whole from to
same_cut page whole start from to e s = ap (λ p. take (to - start) (drop start p)) e ∙ ap (λ k. take (to - k)
    (drop k whole)) s
