-- A copy answers as its page does.
use Rattle.std.proofs.Common.{◌≡◌, inl, inr, ℕ, ◌+◌, ◌*◌, ◌<◌, ◌≤◌, List, [], length}
use Rattle.std.proofs.Common.{slice_index}
use Rattle.std.proofs.Common.{slice_range, refl, sym, ap, ◌∙◌, subst, arith}
use Rattle.std.proofs.lemmas.List.{get_or-take}
use Rattle.doc_bits.proofs.Public.{number_at-same}
use Rattle.sprm_table.proofs.Public.{spells_end}
use Rattle.prl_skips.specs.Skips.{SkipsRefused}
use Rattle.fkp_pages.specs.declared.kind.PageKind.{PageKind}
use Rattle.fkp_pages.specs.declared.kind.PageKind.TheVariants.{Chpx, Papx}
use Rattle.fkp_pages.specs.declared.kind.RunAnswer.{RunAnswer}
use Rattle.fkp_pages.specs.declared.kind.RunAnswer.TheVariants.{Found, Empty, NoRun, BadCount, Leaves}
use Rattle.fkp_pages.specs.Fkp.{run_entry_size, page_run_count, page_fc, run_entry_place, entry_byte, HasRunCount}
use Rattle.fkp_pages.specs.Fkp.{HoldsFc, IsFirstRun, IsListOf}
use Rattle.fkp_pages.specs.Fkp.{HasRunAnswer}
use Rattle.fkp_pages.specs.Properties.{bare_list, IsListAnswered}
use Rattle.page_copies.specs.Copies.{SkipsList, IsCopyOf}
use Rattle.page_copies.specs.Laws.{HasSkippedAnswer, HasAnswerBefore}
use Rattle.page_copies.specs.Places.{HasListsApart}
use Rattle.page_copies.proofs.PlaceLemmas.{entry_low}

-- a byte of the front
byte_same : (kind : PageKind) (old new : List ℕ) (i : ℕ) → IsCopyOf kind old new →
    i < run_entry_place kind old (page_run_count old) → slice_index new i ≡ slice_index old i
byte_same kind old new i c low =
    let n = run_entry_place kind old (page_run_count old) in
    sym (get_or-take n new i 0 low) ∙ (ap (λ l. slice_index l i) c.front ∙ get_or-take n old i 0 low)

-- the fcs end where the entries begin
pub fcs_end : (kind : PageKind) (page : List ℕ) → 4 * (page_run_count page + 1) ≤ run_entry_place kind page
    (page_run_count page)
fcs_end Chpx page = omega arith
fcs_end Papx page = omega arith

pub fc_same : (kind : PageKind) (old new : List ℕ) (j : ℕ) → IsCopyOf kind old new → j ≤ page_run_count old →
    page_fc new j ≡ page_fc old j
fc_same kind old new j c low =
    let end = fcs_end kind old in
    number_at-same new old (4 * j) (4 * j) 4 (λ i below. byte_same kind old new (4 * j + i) c (omega arith))

pub entry_same : (kind : PageKind) (old new : List ℕ) (run : ℕ) → IsCopyOf kind old new → run < page_run_count old →
    entry_byte kind new run ≡ entry_byte kind old run
entry_same kind old new run c low =
    ap (λ n. slice_index new (4 * (n + 1) + run_entry_size kind * run)) c.count
    ∙ byte_same kind old new (run_entry_place kind old run) c (entry_low kind old run low)

-- a run of the copy holds the places that the run of the page holds
holds_same : (kind : PageKind) (old new : List ℕ) (run fc : ℕ) → IsCopyOf kind old new → run < page_run_count old →
    HoldsFc old run fc → HoldsFc new run fc
holds_same kind old new run fc c low h =
    let a = fc_same kind old new run c (omega arith) in
    let b = fc_same kind old new (run + 1) c (omega arith) in
    let from = h.from in
    let to = h.to in
    record { from = omega arith; to = omega arith }

held_same : (kind : PageKind) (old new : List ℕ) (run fc : ℕ) → IsCopyOf kind old new → run < page_run_count old →
    HoldsFc new run fc → HoldsFc old run fc
held_same kind old new run fc c low h =
    let a = fc_same kind old new run c (omega arith) in
    let b = fc_same kind old new (run + 1) c (omega arith) in
    let from = h.from in
    let to = h.to in
    record { from = omega arith; to = omega arith }

first_same : (kind : PageKind) (old new : List ℕ) (fc run : ℕ) → IsCopyOf kind old new → IsFirstRun old fc run →
    IsFirstRun new fc run
first_same kind old new fc run c f =
    let low = f.below in
    let count = c.count in
    record {
      below = omega arith;
      holds = holds_same kind old new run fc c low f.holds;
      first = λ other before h. f.first other before (held_same kind old new other fc c (omega arith) h);
    }

counted_same : (kind : PageKind) (old new : List ℕ) → IsCopyOf kind old new → HasRunCount kind old →
    HasRunCount kind new
counted_same kind old new c h =
    let count = c.count in
    let some = h.some in
    let most = h.most in
    record { some = omega arith; most = omega arith }

none_skipped : SkipsRefused [] []
none_skipped =
    let none = spells_end [] (inl (omega arith)) in
    record { prls = []; spelt = none; skips = none; rest = refl }

-- the list of a run without properties stays
bare_stays : (kind : PageKind) → SkipsList kind (bare_list kind) (bare_list kind)
bare_stays Chpx = record { istd = refl; sprms = inl none_skipped }
bare_stays Papx = record { istd = refl; sprms = inl none_skipped }

pub copy_answers : (kind : PageKind) (old new : List ℕ) (fc : ℕ) (answer : RunAnswer) (list : List ℕ) →
    length old ≡ 512 → IsCopyOf kind old new → HasRunAnswer kind old fc answer → IsListAnswered kind old answer list →
    HasSkippedAnswer kind new fc answer list
copy_answers kind old new fc (Found from to) list size c h is =
    let low = h.1.first.below in
    let copy = c.lists h.1.run from to low h.1.answers in
    record {
      answers = (
        counted_same kind old new c h.0,
        record { run = h.1.run; first = first_same kind old new fc h.1.run c h.1.first; answers = copy.0 },
      );
      made = slice_range new from to;
      answered = refl;
      skips = subst (λ l. SkipsList kind l (slice_range new from to)) (sym is) copy.1;
    }
copy_answers kind old new fc Empty list size c h is =
    let low = h.1.first.below in
    record {
      answers = (
        counted_same kind old new c h.0,
        record {
          run = h.1.run;
          first = first_same kind old new fc h.1.run c h.1.first;
          answers = entry_same kind old new h.1.run c low ∙ h.1.answers;
        },
      );
      made = bare_list kind;
      answered = refl;
      skips = subst (λ l. SkipsList kind l (bare_list kind)) (sym is) (bare_stays kind);
    }
copy_answers kind old new fc NoRun list size c h is = absurd is
copy_answers kind old new fc BadCount list size c h is = absurd is
copy_answers kind old new fc (Leaves entry) list size c h is = absurd is

-- ---- what the page answers, from what its copy answers

pub counted_back : (kind : PageKind) (old new : List ℕ) → IsCopyOf kind old new → HasRunCount kind new →
    HasRunCount kind old
counted_back kind old new c h =
    let count = c.count in
    let some = h.some in
    let most = h.most in
    record { some = omega arith; most = omega arith }

first_back : (kind : PageKind) (old new : List ℕ) (fc run : ℕ) → IsCopyOf kind old new → IsFirstRun new fc run →
    IsFirstRun old fc run
first_back kind old new fc run c f =
    let below = f.below in
    let count = c.count in
    let low : run < page_run_count old = omega arith in
    record {
      below = low;
      holds = held_same kind old new run fc c low f.holds;
      first = λ other before h. f.first other before (holds_same kind old new other fc c (omega arith) h);
    }

-- the run's list, before its codes are skipped
abbrev IsBefore : PageKind → List ℕ → List ℕ → ℕ → ℕ → ℕ → Type 0
IsBefore kind old new run from to =
    IsListOf kind old run from to × SkipsList kind (slice_range old from to) (slice_range new from to)

list_back : (kind : PageKind) (old new : List ℕ) (run from to : ℕ) → HasListsApart kind old → IsCopyOf kind old new →
    run < page_run_count old → IsListOf kind new run from to → IsBefore kind old new run from to
list_back kind old new run from to apart c low is = elim (apart run low) [
  | inl none ↦ absurd (is.some (entry_same kind old new run c low ∙ none))
  | inr has ↦
      let p = has.place in
      let copy = c.lists run p.from p.to low has.is.list in
      let starts : p.from ≡ from = copy.0.starts ∙ sym is.starts in
      let ends : p.to ≡ to = copy.0.ends ∙ sym is.ends in
      subst (λ k. IsBefore kind old new run k to) starts
      (subst (λ k. IsBefore kind old new run p.from k) ends (has.is.list, copy.1))
]

pub copy_answered : (kind : PageKind) (old new : List ℕ) (fc : ℕ) (answer : RunAnswer) (made : List ℕ) →
    HasListsApart kind old → IsCopyOf kind old new → HasRunAnswer kind new fc answer →
    IsListAnswered kind new answer made → HasAnswerBefore kind old fc made
copy_answered kind old new fc (Found from to) made apart c h is =
    let first = first_back kind old new fc h.1.run c h.1.first in
    let list = list_back kind old new h.1.run from to apart c first.below h.1.answers in
    record {
      answer = Found from to;
      answers = (counted_back kind old new c h.0, record { run = h.1.run; first = first; answers = list.0 });
      list = slice_range old from to;
      answered = refl;
      skips = subst (SkipsList kind (slice_range old from to)) (sym is) list.1;
    }
copy_answered kind old new fc Empty made apart c h is =
    let first = first_back kind old new fc h.1.run c h.1.first in
    record {
      answer = Empty;
      answers = (
        counted_back kind old new c h.0,
        record {
          run = h.1.run;
          first = first;
          answers = sym (entry_same kind old new h.1.run c first.below) ∙ h.1.answers;
        },
      );
      list = bare_list kind;
      answered = refl;
      skips = subst (SkipsList kind (bare_list kind)) (sym is) (bare_stays kind);
    }
copy_answered kind old new fc NoRun made apart c h is = absurd is
copy_answered kind old new fc BadCount made apart c h is = absurd is
copy_answered kind old new fc (Leaves entry) made apart c h is = absurd is
