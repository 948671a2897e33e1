-- The runs of characters and of paragraphs, one item further and at the end.
use Rattle.std.proofs.Common.{◌≡◌, ◌≢◌, ◌≤◌, ◌+◌, ◌-◌, ◌*◌, ◌∙◌, ap, refl, sym, subst, ℕ, Bool, true, false, not}
use Rattle.std.proofs.Common.{List, [], ◌∷◌, ◌++◌, length, slice_get, Option, Some, None, arith}
use Rattle.std.specs.Prelude.{is_some}
use Rattle.std.specs.FinMap.{empty}
use Rattle.std.proofs.lemmas.List.{length-append}
use Rattle.std.proofs.lemmas.Option.{same_Some}
use Rattle.doc_bits.proofs.Public.{slice_get_push, there_is}
use Rattle.prop_map.specs.Settings.{Properties}
use Rattle.fkp_pages.specs.declared.kind.PageKind.{PageKind}
use Rattle.fkp_pages.specs.declared.kind.PageKind.TheVariants.{Chpx, Papx}
use Rattle.fkp_pages.specs.declared.lists.Run.{Run}
use Rattle.doc_model.specs.declared.item.Mark.{Mark}
use Rattle.doc_model.specs.declared.item.Item.{Item}
use Rattle.doc_model.specs.Settings.{is_alike, is_inside, same_properties}
use Rattle.doc_model.specs.Stretches.{joins_next, goes_over}
use Rattle.doc_model.proofs.Public.{same_properties-Decides}
use Rattle.full_save.specs.declared.runs.CharacterRuns.{CharacterRuns}
use Rattle.full_save.specs.declared.runs.ParagraphRuns.{ParagraphRuns}
use Rattle.full_save.specs.Runs.{item_properties, mark_properties, run_at, text_runs}
use Rattle.full_save.specs.RunsSoFar.{RunsSoFar, AreRunsSoFar, EndsWith, AreCharactersSoFar, AreParagraphsSoFar}
use Rattle.full_save.proofs.RunLemmas.{joined_more, grow_part, close_before, close_behind, all_closed, last_closed}

-- what is last
last_push : {A : Type 0} (xs : List A) (x : A) → slice_get (xs ++ x ∷ []) (length (xs ++ x ∷ []) - 1) ≡ Some x
last_push xs x =
    let e : length (xs ++ x ∷ []) - 1 ≡ length xs = omega (arith, length-append xs (x ∷ [])) in
    ap (slice_get (xs ++ x ∷ [])) e ∙ slice_get_push xs x

last_is : (xs : List Item) → 1 ≤ length xs → (x : Item) × (slice_get xs (length xs - 1) ≡ Some x)
last_is xs some = there_is xs (length xs - 1) (omega arith)

ends_push : (IsSuch : Item → Type 0) (part : List Item) (x : Item) → IsSuch x → EndsWith IsSuch (part ++ x ∷ [])
ends_push IsSuch part x such item here = subst IsSuch (same_Some x item (sym (last_push part x) ∙ here)) such

-- a run by what it has
run_is :
    (kind : PageKind) (from end : ℕ) (part : List Item) (properties : ℕ × Properties) →
    item_properties kind (slice_get part (length part - 1)) ≡ properties → end ≡ from + 2 * length part →
    run_at kind from part ≡ record { from = from; to = end; istd = properties.0; map = properties.1 }
run_is kind from end part properties has place =
    let run : ℕ × Properties → ℕ → Run = λ s to. record { from = from; to = to; istd = s.0; map = s.1 } in
    ap (λ (s : ℕ × Properties). run s (from + 2 * length part)) has ∙ ap (λ (to : ℕ). run properties to) (sym place)

-- ---- characters

-- an item with the properties of the last run
pub characters_go_on :
    (at : ℕ) (done : List Item) (item : Item) (runs : CharacterRuns) → runs.chp ≡ item.chp →
    AreCharactersSoFar at done runs → AreCharactersSoFar at (done ++ item ∷ []) runs
characters_go_on at done item runs same so =
    let alike : 1 ≤ length so.part → goes_over is_alike so.part (item ∷ []) ≡ true = λ some.
    let last = last_is so.part some in
    let chp : last.0.chp ≡ item.chp = so.last last.0 last.1 ∙ same in
    ap (λ (o : Option Item). joins_next is_alike o (Some item)) last.1
    ∙ (same_properties-Decides last.0.chp item.chp).1 chp in
    record {
      part = so.part ++ item ∷ [];
      are = grow_part Chpx at done runs.closed runs.from so.part item (joined_more is_alike so.part item so.are.joined
          alike) so.are;
      last = ends_push (λ (x : Item). x.chp ≡ runs.chp) so.part item (sym same);
    }

-- the last run has items
some_open : (kind : PageKind) (at end : ℕ) (done : List Item) (runs : RunsSoFar) → end ≡ at + 2 * length done →
    runs.from ≢ end → AreRunsSoFar kind at done runs → 1 ≤ length runs.part
some_open kind at end done runs here apart are =
    let stands = are.stands in
    let low : runs.from ≤ end = omega arith in
    let ne : ¬ (length runs.part ≡ 0) = λ none. apart (omega (arith, stands, here, none)) in
    omega (arith, ne)

false_from : (b : Bool) → ¬ (b ≡ true) → b ≡ false
false_from true h = absurd (h refl)
false_from false h = refl

-- an item with other properties
pub characters_change :
    (at end : ℕ) (done : List Item) (item : Item) (old new : CharacterRuns) → end ≡ at + 2 * length done →
    old.from ≢ end → old.chp ≢ item.chp →
    new.closed ≡ old.closed ++ (record { from = old.from; to = end; istd = 0; map = old.chp }) ∷ [] →
    new.from ≡ end → new.chp ≡ item.chp →
    AreCharactersSoFar at done old → AreCharactersSoFar at (done ++ item ∷ []) new
characters_change at end done item old new here apart other closed from chp so =
    let runs : RunsSoFar = record { closed = old.closed; from = old.from; part = so.part } in
    let some = some_open Chpx at end done runs here apart so.are in
    let stands = so.are.stands in
    let last = last_is so.part some in
    let has : last.0.chp ≡ old.chp = so.last last.0 last.1 in
    let not_alike : ¬ (same_properties last.0.chp item.chp ≡ true) = λ same.
    other (sym has ∙ (same_properties-Decides last.0.chp item.chp).0 same) in
    let ends : goes_over is_alike so.part (item ∷ []) ≡ false =
    ap (λ (o : Option Item). joins_next is_alike o (Some item)) last.1 ∙ false_from (same_properties last.0.chp
    item.chp) not_alike in
    let run = run_is Chpx old.from end so.part (0, old.chp)
    (ap (item_properties Chpx) last.1 ∙ ap (λ (s : Properties). (0, s)) has) (omega arith) in
    let before = close_before Chpx at done old.closed old.from end so.part item some ends here so.are in
    let closed_is : new.closed ≡ old.closed ++ run_at Chpx old.from so.part ∷ [] =
    closed ∙ ap (λ (r : Run). old.closed ++ r ∷ []) (sym run) in
    record {
      part = item ∷ [];
      are = subst (λ (rs : List Run). AreRunsSoFar Chpx at (done ++ item ∷ []) (record {
        closed = rs;
        from = new.from;
        part = item ∷ [];
      }))
          (sym closed_is)
          (subst (λ (place : ℕ). AreRunsSoFar Chpx at (done ++ item ∷ []) (record {
            closed = old.closed ++ run_at Chpx
                old.from so.part ∷ [];
            from = place;
            part = item ∷ [];
          }))
          (sym from) before);
      last = λ x here_x. ap (λ (i : Item). i.chp) (sym (same_Some item x here_x)) ∙ sym chp;
    }

pub characters_none_left :
    (at end : ℕ) (done : List Item) (runs : CharacterRuns) → end ≡ at + 2 * length done → runs.from ≡ end →
    AreCharactersSoFar at done runs → runs.closed ≡ text_runs Chpx at done
characters_none_left at end done runs here from so =
    let stands = so.are.stands in
    all_closed Chpx at done runs.closed runs.from so.part (omega arith) so.are

pub characters_left :
    (at end : ℕ) (done : List Item) (runs : CharacterRuns) (closed : List Run) → end ≡ at + 2 * length done →
    runs.from ≢ end → closed ≡ runs.closed ++ (record { from = runs.from; to = end; istd = 0; map = runs.chp }) ∷ [] →
    AreCharactersSoFar at done runs → closed ≡ text_runs Chpx at done
characters_left at end done runs closed here apart is so =
    let open_runs : RunsSoFar = record { closed = runs.closed; from = runs.from; part = so.part } in
    let some = some_open Chpx at end done open_runs here apart so.are in
    let stands = so.are.stands in
    let last = last_is so.part some in
    let has : last.0.chp ≡ runs.chp = so.last last.0 last.1 in
    let run = run_is Chpx runs.from end so.part (0, runs.chp)
    (ap (item_properties Chpx) last.1 ∙ ap (λ (s : Properties). (0, s)) has) (omega arith) in
    is ∙ (ap (λ (r : Run). runs.closed ++ r ∷ []) (sym run) ∙ last_closed Chpx at done runs.closed runs.from so.part
    some so.are)

-- ---- paragraphs

-- an item without a mark joins the next one
inside : (part : List Item) (item : Item) → EndsWith (λ x. x.mark ≡ None) part → 1 ≤ length part →
    goes_over is_inside part (item ∷ []) ≡ true
inside part item last some =
    let end = last_is part some in
    let open_end = last end.0 end.1 in
    ap (λ (o : Option Item). joins_next is_inside o (Some item)) end.1
    ∙ ap (λ (o : Option Mark). not (is_some o)) open_end

pub paragraphs_go_on :
    (at : ℕ) (done : List Item) (item : Item) (runs : ParagraphRuns) → item.mark ≡ None →
    AreParagraphsSoFar at done runs → AreParagraphsSoFar at (done ++ item ∷ []) runs
paragraphs_go_on at done item runs unmarked so = record {
  part = so.part ++ item ∷ [];
  are = grow_part Papx at done runs.closed runs.from so.part item
      (joined_more is_inside so.part item so.are.joined (inside so.part item so.last)) so.are;
  last = ends_push (λ (x : Item). x.mark ≡ None) so.part item unmarked;
}

joins_not : (item : Item) (mark : Mark) → item.mark ≡ Some mark → (next : Option Item) → joins_next is_inside
    (Some item) next ≡ false
joins_not item mark has None = refl
joins_not item mark has (Some next) = ap (λ (o : Option Mark). not (is_some o)) has

-- an item with a mark joins nothing
marked : (part more : List Item) (item : Item) (mark : Mark) → item.mark ≡ Some mark →
    goes_over is_inside (part ++ item ∷ []) more ≡ false
marked part more item mark has =
    ap (λ (o : Option Item). joins_next is_inside o (slice_get more 0)) (last_push part item) ∙ joins_not item mark
    has (slice_get more 0)

pub paragraphs_end :
    (at end : ℕ) (done : List Item) (item : Item) (mark : Mark) (old new : ParagraphRuns) →
    end ≡ at + 2 * length (done ++ item ∷ []) → item.mark ≡ Some mark →
    new.closed ≡ old.closed ++ (record { from = old.from; to = end; istd = mark.istd; map = mark.pap }) ∷ [] →
    new.from ≡ end → AreParagraphsSoFar at done old → AreParagraphsSoFar at (done ++ item ∷ []) new
paragraphs_end at end done item mark old new here has closed from so =
    let part = so.part ++ item ∷ [] in
    let grown =
    grow_part Papx at done old.closed old.from so.part item
    (joined_more is_inside so.part item so.are.joined (inside so.part item so.last)) so.are in
    let stands = grown.stands in
    let some : 1 ≤ length part = omega (arith, length-append so.part (item ∷ [])) in
    let run = run_is Papx old.from end part (mark.istd, mark.pap)
    (ap (item_properties Papx) (last_push so.part item) ∙ ap mark_properties has) (omega arith) in
    let behind = close_behind Papx at (done ++ item ∷ []) old.closed old.from end part some
    (λ more. marked so.part more item mark has) here grown in
    let closed_is : new.closed ≡ old.closed ++ run_at Papx old.from part ∷ [] =
    closed ∙ ap (λ (r : Run). old.closed ++ r ∷ []) (sym run) in
    record {
      part = [];
      are = subst (λ (rs : List Run). AreRunsSoFar Papx at (done ++ item ∷ []) (record {
        closed = rs;
        from = new.from;
        part = [];
      }))
          (sym closed_is)
          (subst (λ (place : ℕ). AreRunsSoFar Papx at (done ++ item ∷ []) (record {
            closed = old.closed ++ run_at Papx
                old.from part ∷ [];
            from = place;
            part = [];
          }))
          (sym from) behind);
      last = λ x none. absurd (cc);
    }

pub paragraphs_none_left :
    (at end : ℕ) (done : List Item) (runs : ParagraphRuns) → end ≡ at + 2 * length done → runs.from ≡ end →
    AreParagraphsSoFar at done runs → runs.closed ≡ text_runs Papx at done
paragraphs_none_left at end done runs here from so =
    let stands = so.are.stands in
    all_closed Papx at done runs.closed runs.from so.part (omega arith) so.are

pub paragraphs_left :
    (at end : ℕ) (done : List Item) (runs : ParagraphRuns) (closed : List Run) → end ≡ at + 2 * length done →
    runs.from ≢ end → closed ≡ runs.closed ++ (record { from = runs.from; to = end; istd = 0; map = empty }) ∷ [] →
    AreParagraphsSoFar at done runs → closed ≡ text_runs Papx at done
paragraphs_left at end done runs closed here apart is so =
    let open_runs : RunsSoFar = record { closed = runs.closed; from = runs.from; part = so.part } in
    let some = some_open Papx at end done open_runs here apart so.are in
    let stands = so.are.stands in
    let last = last_is so.part some in
    let run = run_is Papx runs.from end so.part (0, empty)
    (ap (item_properties Papx) last.1 ∙ ap mark_properties (so.last last.0 last.1)) (omega arith) in
    is ∙ (ap (λ (r : Run). runs.closed ++ r ∷ []) (sym run) ∙ last_closed Papx at done runs.closed runs.from so.part
    some so.are)
