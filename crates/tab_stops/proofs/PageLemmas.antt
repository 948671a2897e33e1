-- The runs of a page, and the pages of a stream.
use Rattle.std.specs.Prelude.{slice_range}
use Rattle.std.proofs.Common.{◌≡◌, ◌≢◌, ◌↔◌, refl, subst, inl, inr, ℕ, ◌+◌, ◌*◌, List, Bool, true, false, Some, arith}
use Rattle.std.proofs.lemmas.Option.{none-some}
use Rattle.fkp_pages.specs.declared.kind.PageKind.TheVariants.{Papx}
use Rattle.fkp_pages.specs.declared.kind.RunAnswer.{RunAnswer}
use Rattle.fkp_pages.specs.declared.kind.RunAnswer.TheVariants.{Found, Empty, NoRun, BadCount, Leaves}
use Rattle.fkp_pages.specs.Fkp.{IsListOf, IsAnswerOf}
use Rattle.fkp_pages.specs.Bin.{page_at}
use Rattle.page_copies.specs.Names.{named_flag}
use Rattle.page_copies.specs.Places.{HasNoList}
use Rattle.page_copies.specs.Pages.{BinTables, kind_alone}
use Rattle.tab_stops.specs.Lists.{AreListStops, PushesStops}
use Rattle.tab_stops.specs.Pages.{AreRunStops, ArePageStops, AreStopsAt, IsParagraphPage}
use Rattle.tab_stops.proofs.ListLemmas.{pushes_none}

-- a run whose answer is no list has none
no_run : (page : List ℕ) (run : ℕ) (answer : RunAnswer) → IsAnswerOf Papx page run answer →
    ((from to : ℕ) → answer ≢ Found from to) → HasNoList Papx page run
no_run page run (Found a b) is none from to list = none a b refl
no_run page run Empty is none from to list = list.some is
no_run page run NoRun is none from to list = is
no_run page run BadCount is none from to list = is
no_run page run (Leaves entry) is none from to list = is.beyond list.within

pub run_none : (page : List ℕ) (at run : ℕ) (answer : RunAnswer) (old : List ℕ) → IsAnswerOf Papx page run answer →
    ((from to : ℕ) → answer ≢ Found from to) → PushesStops (AreRunStops page at run) old old
run_none page at run answer old is none =
    pushes_none (AreRunStops page at run) old (inr (no_run page run answer is none, refl))

pub run_found : (page list : List ℕ) (at run from to sprms : ℕ) (old new : List ℕ) → IsListOf Papx page run from to →
    sprms ≡ from + 2 → list ≡ slice_range page sprms to → PushesStops (AreListStops list (at + sprms)) old new →
    PushesStops (AreRunStops page at run) old new
run_found page list at run from to sprms old new is place same pushes = record {
  stops = pushes.stops;
  are_stops = inl (record {
    from = from;
    to = to;
    list = is;
    stops = subst (λ n. AreListStops (slice_range page n to) (at + n) pushes.stops) place
        (subst (λ l. AreListStops l (at + sprms) pushes.stops) same pushes.are_stops);
  });
  pushed = pushes.pushed;
}

-- a page that one table alone names
pub alone_of : (c p : Bool) (characters paragraphs : ℕ) → characters ≡ named_flag c → paragraphs ≡ named_flag p →
    ((characters ≡ 0) × (paragraphs ≡ 1)) ↔ (kind_alone c p ≡ Some Papx)
alone_of true true x y a b = (λ e. absurd (omega (arith, a, e.0)), λ e. absurd (none-some Papx e))
alone_of true false x y a b = (λ e. absurd (omega (arith, a, e.0)), λ e. absurd (cc e))
alone_of false true x y a b = (λ e. refl, λ e. (a, b))
alone_of false false x y a b = (λ e. absurd (omega (arith, b, e.1)), λ e. absurd (none-some Papx e))

pub page_none : (bins : BinTables) (wd : List ℕ) (number : ℕ) (old : List ℕ) → ¬ IsParagraphPage bins wd number →
    PushesStops (AreStopsAt bins wd number) old old
page_none bins wd number old none = pushes_none (AreStopsAt bins wd number) old (inr (none, refl))

pub page_found : (bins : BinTables) (wd page : List ℕ) (number at : ℕ) (old new : List ℕ) →
    IsParagraphPage bins wd number → page ≡ page_at wd number → at ≡ 512 * number →
    PushesStops (ArePageStops page at) old new → PushesStops (AreStopsAt bins wd number) old new
page_found bins wd page number at old new is same place pushes = record {
  stops = pushes.stops;
  are_stops = inl (
    is,
    subst (λ n. ArePageStops (page_at wd number) n pushes.stops) place
        (subst (λ p. ArePageStops p at pushes.stops) same pushes.are_stops),
  );
  pushed = pushes.pushed;
}
