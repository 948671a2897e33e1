-- The runs of characters and of paragraphs, some items with the same properties further.
use Rattle.std.specs.Prelude.{slice_get}
use Rattle.std.proofs.Common.{◌≡◌, ◌≢◌, ◌∙◌, ap, sym, subst, ℕ, zero, suc, ◌+◌, ◌-◌, ◌*◌, ◌<◌, ◌≤◌, List, [], ◌∷◌, ◌++◌}
use Rattle.std.proofs.Common.{length}
use Rattle.std.proofs.Common.{map, take, get_or, Option, Some, None, arith, length-append}
use Rattle.std.proofs.lemmas.List.{append-nil, take_all, length-map, length-take}
use Rattle.std.proofs.lemmas.Option.{slice_get_within, get_or_from_slice_get}
use Rattle.doc_bits.proofs.Public.{there_is}
use Rattle.prop_map.specs.Settings.{Properties}
use Rattle.run_lists.specs.declared.runs.Run.{Run as ValueRun}
use Rattle.run_lists.specs.Spread.{expanded, total_len}
use Rattle.run_lists.proofs.Public.{length-spread, extent-nil, extent_all, extent_more, count_within}
use Rattle.doc_model.specs.declared.item.Mark.{Mark}
use Rattle.doc_model.specs.declared.item.Item.{Item}
use Rattle.full_save.specs.declared.runs.CharacterRuns.{CharacterRuns}
use Rattle.full_save.specs.declared.runs.ParagraphRuns.{ParagraphRuns}
use Rattle.full_save.specs.Alike.{HaveAlike}
use Rattle.full_save.specs.RunsSoFar.{AreCharactersSoFar, AreParagraphsSoFar, ParagraphEnds, ParagraphsGoOn}
use Rattle.full_save.proofs.AlikeLemmas.{alike_fewer, alike_rest, alike_run, text_next}
use Rattle.full_save.proofs.SoFarLemmas.{characters_go_on, characters_change, paragraphs_go_on}

-- ---- some items further

pub characters_more : (at : ℕ) (done text : List Item) (place count : ℕ) (runs : CharacterRuns) →
    HaveAlike (λ (item : Item). item.chp) runs.chp text place count →
    AreCharactersSoFar at (done ++ take place text) runs → AreCharactersSoFar at (done ++ take (place + count) text)
    runs
characters_more at done text place zero runs are so =
    let e : place ≡ place + 0 = omega arith in
    subst (λ (n : ℕ). AreCharactersSoFar at (done ++ take n text) runs) e so
characters_more at done text place (suc count) runs are so =
    let within = are.within in
    let j : ℕ = place + count in
    let there = there_is text j (omega (arith, within)) in
    let chp : Item → Properties = λ item. item.chp in
    let before = characters_more at done text place count runs (alike_fewer chp runs.chp text place count are) so in
    let same : runs.chp ≡ there.0.chp = sym (are.each j there.0 (omega arith) (omega arith) there.1) in
    let after = characters_go_on at (done ++ take j text) there.0 runs same before in
    let e : j + 1 ≡ place + suc count = omega arith in
    subst (λ (n : ℕ). AreCharactersSoFar at (done ++ take n text) runs) e
    (subst (λ (xs : List Item). AreCharactersSoFar at xs runs) (text_next done text j there.0 there.1) after)

-- where a run begins, it may have any properties
pub characters_begin : (at end : ℕ) (done : List Item) (old : CharacterRuns) (chp : Properties) →
    end ≡ at + 2 * length done → old.from ≡ end → AreCharactersSoFar at done old →
    AreCharactersSoFar at done (record { closed = old.closed; from = old.from; chp = chp })
characters_begin at end done old chp here from so =
    let stands = so.are.stands in
    let none : length so.part ≡ 0 = omega (arith, stands, here, from) in
    record {
      part = so.part;
      are = so.are;
      last = λ item there. absurd (omega (arith, none, slice_get_within so.part (length so.part - 1) item there));
    }

-- items with other properties
pub characters_changed : (at end : ℕ) (done text : List Item) (place count : ℕ) (old new : CharacterRuns) →
    1 ≤ count → end ≡ at + 2 * length (done ++ take place text) → old.from ≢ end → old.chp ≢ new.chp →
    HaveAlike (λ (item : Item). item.chp) new.chp text place count →
    new.closed ≡ old.closed ++ (record { from = old.from; to = end; istd = 0; map = old.chp }) ∷ [] →
    new.from ≡ end → AreCharactersSoFar at (done ++ take place text) old →
    AreCharactersSoFar at (done ++ take (place + count) text) new
characters_changed at end done text place count old new some here apart other are closed from so =
    let within = are.within in
    let there = there_is text place (omega (arith, within, some)) in
    let has : there.0.chp ≡ new.chp = are.each place there.0 (omega arith) (omega (arith, some)) there.1 in
    let first = characters_change at end (done ++ take place text) there.0 old new here apart
    (λ same. other (same ∙ has)) closed from (sym has) so in
    let chp : Item → Properties = λ item. item.chp in
    let rest = characters_more at done text (place + 1) (count - 1) new
    (alike_rest chp new.chp text place count are some)
    (subst (λ (xs : List Item). AreCharactersSoFar at xs new) (text_next done text place there.0 there.1) first) in
    let e : place + 1 + (count - 1) ≡ place + count = omega (arith, some) in
    subst (λ (n : ℕ). AreCharactersSoFar at (done ++ take n text) new) e rest

-- where the next unit is
pub next_place : {A : Type 0} (what : Item → A) (value : A) (at end : ℕ) (done text : List Item) (place count : ℕ) →
    end ≡ at + 2 * (length done + place) → HaveAlike what value text place count →
    end ≡ at + 2 * length (done ++ take place text)
next_place what value at end done text place count here are =
    let within = are.within in
    omega (arith, here, within, length-append done (take place text), length-take place text)

-- items without a mark
pub paragraphs_more : (at : ℕ) (done text : List Item) (place count : ℕ) (runs : ParagraphRuns) →
    HaveAlike (λ (item : Item). item.mark) None text place count →
    AreParagraphsSoFar at (done ++ take place text) runs → AreParagraphsSoFar at (done ++ take (place + count) text)
    runs
paragraphs_more at done text place zero runs are so =
    let e : place ≡ place + 0 = omega arith in
    subst (λ (n : ℕ). AreParagraphsSoFar at (done ++ take n text) runs) e so
paragraphs_more at done text place (suc count) runs are so =
    let within = are.within in
    let j : ℕ = place + count in
    let there = there_is text j (omega (arith, within)) in
    let mark : Item → Option Mark = λ item. item.mark in
    let before = paragraphs_more at done text place count runs (alike_fewer mark None text place count are) so in
    let unmarked : there.0.mark ≡ None = are.each j there.0 (omega arith) (omega arith) there.1 in
    let after = paragraphs_go_on at (done ++ take j text) there.0 runs unmarked before in
    let e : j + 1 ≡ place + suc count = omega arith in
    subst (λ (n : ℕ). AreParagraphsSoFar at (done ++ take n text) runs) e
    (subst (λ (xs : List Item). AreParagraphsSoFar at xs runs) (text_next done text j there.0 there.1) after)

-- ---- a walk over the runs of a column

-- the runs before a number are gone through, and the next one begins at `at`
pub record IsWalked {A R : Type 0} (So : ℕ → List Item → R → Type 0) (what : Item → A) (runs : List (ValueRun A))
    (start k at : ℕ) (old new : R) : Type 0 where
  pub place : at ≡ start + 2 * total_len (take k runs)
  pub goes :
      (base : ℕ) (done text : List Item) → start ≡ base + 2 * length done → expanded runs ≡ map what text →
      So base done old → So base (done ++ take (total_len (take k runs)) text) new

pub walk_begins : {A R : Type 0} (So : ℕ → List Item → R → Type 0) (what : Item → A) (runs : List (ValueRun A))
    (start : ℕ) (old : R) → IsWalked So what runs start 0 start old old
walk_begins {A} So what runs start old =
    let none : total_len (take 0 runs) ≡ 0 = extent-nil A in
    record {
      place = omega (arith, none);
      goes = λ base done text here spelt so.
          subst (λ (xs : List Item). So base xs old)
          (sym (ap (λ (n : ℕ). done ++ take n text) none ∙ append-nil done)) so;
    }

pub walk_next : {A R : Type 0} (So : ℕ → List Item → R → Type 0) (what : Item → A) (runs : List (ValueRun A))
    (start k at : ℕ) (run : ValueRun A) (old mid new : R) → slice_get runs k ≡ Some run →
    ((base : ℕ) (done text : List Item) (place : ℕ) → at ≡ base + 2 * (length done + place) →
    HaveAlike what run.value text place run.count → So base (done ++ take place text) mid →
    So base (done ++ take (place + run.count) text) new) →
    IsWalked So what runs start k at old mid → IsWalked So what runs start (k + 1) (at + 2 * run.count) old new
walk_next {A} So what runs start k at run old mid new here step walked =
    let below = slice_get_within runs k run here in
    let is = get_or_from_slice_get runs k run run here in
    let count : (get_or runs k run).count ≡ run.count = ap (λ (r : ValueRun A). r.count) is in
    let more : total_len (take (k + 1) runs) ≡ total_len (take k runs) + run.count =
    omega (arith, extent_more runs k run below, count) in
    let place = walked.place in
    record {
      place = omega (arith, place, more);
      goes = λ base done text begins spelt so.
          let first = walked.goes base done text begins spelt so in
          let alike = alike_run what text runs k run spelt here in
          subst (λ (n : ℕ). So base (done ++ take n text) new) (sym more)
          (step base done text (total_len (take k runs)) (omega (arith, place, begins)) alike first);
    }

pub walk_ends : {A R : Type 0} (So : ℕ → List Item → R → Type 0) (what : Item → A) (runs : List (ValueRun A))
    (start k at : ℕ) (old new : R) → length runs ≤ k → IsWalked So what runs start k at old new →
    (base : ℕ) (done text : List Item) → start ≡ base + 2 * length done → expanded runs ≡ map what text →
    So base done old → So base (done ++ text) new
walk_ends So what runs start k at old new all walked base done text begins spelt so =
    let long : length text ≤ total_len (take k runs) =
    omega (arith, extent_all runs k all, length-spread runs, ap length spelt, length-map text what) in
    subst (λ (xs : List Item). So base (done ++ xs) new) (take_all (total_len (take k runs)) text long)
    (walked.goes base done text begins spelt so)

-- a run ends within the list
pub run_fits : {A : Type 0} (runs : List (ValueRun A)) (k : ℕ) (run : ValueRun A) → slice_get runs k ≡ Some run →
    total_len (take k runs) + run.count ≤ total_len runs
run_fits {A} runs k run here =
    let below = slice_get_within runs k run here in
    let is = get_or_from_slice_get runs k run run here in
    let count : (get_or runs k run).count ≡ run.count = ap (λ (r : ValueRun A). r.count) is in
    omega (arith, count_within runs k run below, count)

-- ---- items with a mark each

pub record AreMarkedUpTo (mark : Mark) (count start i : ℕ) (old new : ParagraphRuns) : Type 0 where
  pub most : i ≤ count
  pub goes :
      (at : ℕ) (done text : List Item) (place : ℕ) → start ≡ at + 2 * (length done + place) →
      HaveAlike (λ (item : Item). item.mark) (Some mark) text place count →
      AreParagraphsSoFar at (done ++ take place text) old → AreParagraphsSoFar at (done ++ take (place + i) text) new

pub none_marked : (mark : Mark) (count start : ℕ) (old : ParagraphRuns) → AreMarkedUpTo mark count start 0 old old
none_marked mark count start old = record {
  most = omega arith;
  goes = λ at done text place here are so.
      let e : place ≡ place + 0 = omega arith in
      subst (λ (n : ℕ). AreParagraphsSoFar at (done ++ take n text) old) e so;
}

pub one_marked : (mark : Mark) (count start i : ℕ) (old mid new : ParagraphRuns) → i < count →
    ParagraphEnds mark (start + 2 * (i + 1)) mid new → AreMarkedUpTo mark count start i old mid →
    AreMarkedUpTo mark count start (i + 1) old new
one_marked mark count start i old mid new below ends marked = record {
  most = omega (arith, below);
  goes = λ at done text place here are so.
      let within = are.within in
      let j : ℕ = place + i in
      let there = there_is text j (omega (arith, within, below)) in
      let has : there.0.mark ≡ Some mark = are.each j there.0 (omega arith) (omega (arith, below)) there.1 in
      let front : List Item = done ++ take j text in
      let end : start + 2 * (i + 1) ≡ at + 2 * length (front ++ there.0 ∷ []) =
      omega (
        arith,
        here,
        within,
        below,
        length-append front (there.0 ∷ []),
        length-append done (take j text),
        length-take j text,
      ) in
      let after = ends at front there.0 end has (marked.goes at done text place here are so) in
      let e : j + 1 ≡ place + (i + 1) = omega arith in
      subst (λ (n : ℕ). AreParagraphsSoFar at (done ++ take n text) new) e
      (subst (λ (xs : List Item). AreParagraphsSoFar at xs new) (text_next done text j there.0 there.1) after);
}

pub all_marked : (mark : Mark) (count start i : ℕ) (old new : ParagraphRuns) → count ≤ i →
    AreMarkedUpTo mark count start i old new → ParagraphsGoOn (Some mark) count start old new
all_marked mark count start i old new all marked = λ at done text place here are so.
    let most = marked.most in
    let e : place + i ≡ place + count = omega (arith, all, most) in
    subst (λ (n : ℕ). AreParagraphsSoFar at (done ++ take n text) new) e (marked.goes at done text place here are so)
