-- A text that is gone through once: its runs so far, and all of them at its end.
use Rattle.std.specs.Prelude.{slice_get, is_some}
use Rattle.std.specs.FinMap.{empty}
use Rattle.std.proofs.Common.{◌≡◌, ◌≢◌, ◌∙◌, refl, sym, ap, inl, inr, ℕ, ◌+◌, ◌-◌, ◌*◌, true, false}
use Rattle.std.proofs.Common.{not, cond}
use Rattle.std.proofs.Common.{List, [], ◌∷◌, ◌++◌, length, Option, Some, None, arith, length-append}
use Rattle.std.proofs.lemmas.Bool.{cases_Bool, true≢false}
use Rattle.std.proofs.lemmas.Option.{none-some}
use Rattle.doc_bits.proofs.Public.{slice_get_push}
use Rattle.fkp_pages.specs.declared.kind.PageKind.TheVariants.{Papx}
use Rattle.fkp_pages.specs.declared.lists.Run.{Run}
use Rattle.doc_model.specs.declared.item.Mark.{Mark}
use Rattle.doc_model.specs.declared.item.Item.{Item}
use Rattle.doc_model.specs.Stretches.{stretches}
use Rattle.full_save.specs.Runs.{joins_run, runs_from, text_runs}
use Rattle.full_save.proofs.Public.{paragraphs_go_on, paragraphs_end, paragraphs_none_left, paragraphs_left}
use Rattle.fast_save_layout.specs.declared.runs.ParagraphRuns.{ParagraphRuns}
use Rattle.fast_save_layout.specs.MarkRuns.{is_open_item, leaves_open, longer, longer_if_open, runs_begun_at}
use Rattle.fast_save_layout.specs.MarkRuns.{begin_after}
use Rattle.fast_save_layout.specs.RunsSoFar.{AreMarksSoFar}
use Rattle.fast_save_layout.proofs.MarkLemmas.{longer-push, begun_run}

-- the last item decides
leaves_open-push : (items : List Item) (item : Item) → leaves_open (items ++ item ∷ []) ≡ not (is_some item.mark)
leaves_open-push items item =
    let at : length (items ++ item ∷ []) - 1 ≡ length items = omega (arith, length-append items (item ∷ [])) in
    ap (λ (n : ℕ). is_open_item (slice_get (items ++ item ∷ []) n)) at ∙ ap is_open_item (slice_get_push items item)

begun-push : (place : ℕ) (runs : List Run) (run : Run) →
    runs_begun_at place (runs ++ run ∷ []) ≡ runs_begun_at place runs ++ begun_run (begin_after place runs run.from) run
    ∷ []
begun-push place [] run = refl
begun-push place (one ∷ runs) run = refl

begin_after-begun : (place : ℕ) (runs : List Run) (from : ℕ) →
    begin_after place (runs_begun_at place runs) from ≡ begin_after place runs from
begin_after-begun place [] from = refl
begin_after-begun place (run ∷ runs) from = refl

-- before the first item
pub none_yet : (at : ℕ) (runs : ParagraphRuns) → runs.closed ≡ [] → runs.from ≡ at → AreMarksSoFar at [] runs
unfolding stretches runs_from
none_yet at runs none from = record {
  text = [];
  paragraphs = record {
    part = [];
    are = record {
      joined = λ k h. absurd (omega (arith, h));
      stands = omega (arith, from);
      goes_on = λ more. ap (λ (n : ℕ). runs_from Papx n (stretches (joins_run Papx) more)) from;
    };
    last = λ item here. absurd (none-some item here);
  };
  closed_are = none;
  open_ends = λ more. absurd (true≢false (sym more));
  mark_ends = λ ended. omega (arith, from);
}

-- an item without a mark
pub one_more : (at : ℕ) (done : List Item) (item : Item) (runs : ParagraphRuns) → item.mark ≡ None →
    AreMarksSoFar at done runs → AreMarksSoFar at (done ++ item ∷ []) runs
one_more at done item runs unmarked so =
    let stands = so.paragraphs.are.stands in
    let unended : leaves_open (done ++ item ∷ []) ≡ true =
    leaves_open-push done item ∙ ap (λ (o : Option Mark). not (is_some o)) unmarked in
    record {
      text = so.text;
      paragraphs = paragraphs_go_on at done item (record { closed = so.text; from = runs.from }) unmarked
          so.paragraphs;
      closed_are = so.closed_are;
      open_ends = λ more. omega (arith, stands, length-append done (item ∷ []));
      mark_ends = λ ended. absurd (true≢false (sym unended ∙ ended));
    }

-- an item with a mark
pub one_ended : (at end begin : ℕ) (done : List Item) (item : Item) (mark : Mark) (old new : ParagraphRuns) →
    end ≡ at + 2 * length (done ++ item ∷ []) → item.mark ≡ Some mark →
    begin ≡ begin_after old.start old.closed old.from →
    new.closed ≡ old.closed ++ (record { from = begin; to = end; istd = mark.istd; map = mark.pap }) ∷ [] →
    new.from ≡ end → new.start ≡ old.start → AreMarksSoFar at done old → AreMarksSoFar at (done ++ item ∷ []) new
one_ended at end begin done item mark old new here marked begins closed from start so =
    let run : Run = record { from = old.from; to = end; istd = mark.istd; map = mark.pap } in
    let ended : leaves_open (done ++ item ∷ []) ≡ false =
    leaves_open-push done item ∙ ap (λ (o : Option Mark). not (is_some o)) marked in
    let text : List Run = so.text ++ run ∷ [] in
    let place : begin ≡ begin_after old.start so.text old.from =
    begins
    ∙ (ap (λ (runs : List Run). begin_after old.start runs old.from) so.closed_are
    ∙ begin_after-begun old.start so.text old.from) in
    record {
      text = text;
      paragraphs = paragraphs_end at end done item mark (record { closed = so.text; from = old.from })
          (record { closed = text; from = new.from }) here marked refl from so.paragraphs;
      closed_are =
          closed
          ∙ ((λ i. so.closed_are i ++ begun_run (place i) run ∷ [])
          ∙ (sym (begun-push old.start so.text run) ∙ ap (λ (n : ℕ). runs_begun_at n text) (sym start)));
      open_ends = λ more. absurd (true≢false (sym more ∙ ended));
      mark_ends = λ is. omega (arith, from, here);
    }

-- at the end, where all items have a run
pub all_ended : (at end : ℕ) (done : List Item) (runs : ParagraphRuns) → end ≡ at + 2 * length done →
    runs.from ≡ end → AreMarksSoFar at done runs →
    runs.closed ≡ runs_begun_at runs.start (longer_if_open done (text_runs Papx at done))
all_ended at end done runs here from so =
    let closed_end : leaves_open done ≡ false = elim (cases_Bool (leaves_open done)) [
      | inl more ↦
          let before = so.open_ends more in
          absurd (omega (arith, before, here, from))
      | inr ended ↦ ended
    ] in
    let all : so.text ≡ text_runs Papx at done =
    paragraphs_none_left at end done (record { closed = so.text; from = runs.from }) here from so.paragraphs in
    so.closed_are
    ∙ (ap (runs_begun_at runs.start) all
    ∙ ap (λ b. runs_begun_at runs.start (cond b (longer (text_runs Papx at done)) (text_runs Papx at done))) (sym
    closed_end))

-- and where no mark ends the last ones
pub rest_ended : (at end begin : ℕ) (done : List Item) (runs : ParagraphRuns) (all : List Run) →
    end ≡ at + 2 * length done → runs.from ≢ end → begin ≡ begin_after runs.start runs.closed runs.from →
    all ≡ runs.closed ++ (record { from = begin; to = end + 2; istd = 0; map = empty }) ∷ [] →
    AreMarksSoFar at done runs → all ≡ runs_begun_at runs.start (longer_if_open done (text_runs Papx at done))
rest_ended at end begin done runs all here apart begins closed so =
    let unmarked : leaves_open done ≡ true = elim (cases_Bool (leaves_open done)) [
      | inl more ↦ more
      | inr ended ↦
          let at_end = so.mark_ends ended in
          absurd (apart (omega (arith, at_end, here)))
    ] in
    let rest : Run = record { from = runs.from; to = end; istd = 0; map = empty } in
    let more : Run = record { from = runs.from; to = end + 2; istd = 0; map = empty } in
    let text : List Run = so.text ++ rest ∷ [] in
    let whole : text ≡ text_runs Papx at done =
    paragraphs_left at end done (record { closed = so.text; from = runs.from }) text here apart refl so.paragraphs in
    let place : begin ≡ begin_after runs.start so.text runs.from =
    begins
    ∙ (ap (λ (closed : List Run). begin_after runs.start closed runs.from) so.closed_are
    ∙ begin_after-begun runs.start so.text runs.from) in
    closed
    ∙ ((λ i. so.closed_are i ++ begun_run (place i) more ∷ [])
    ∙ (sym (begun-push runs.start so.text more)
    ∙ (ap (runs_begun_at runs.start) (sym (longer-push so.text rest))
    ∙ (ap (λ (list : List Run). runs_begun_at runs.start (longer list)) whole
    ∙ ap (λ b. runs_begun_at runs.start (cond b (longer (text_runs Papx at done)) (text_runs Papx at done))) (sym
    unmarked)))))
