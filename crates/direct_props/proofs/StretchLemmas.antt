-- The places around a place at which the list is the same.
use Rattle.std.proofs.Common.{◌≡◌, ◌<◌, ◌≤◌, ◌+◌, ◌-◌, ◌*◌, ◌^◌, ◌∙◌, inl, inr, ap, refl, sym, subst, ℕ, List, length}
use Rattle.std.proofs.Common.{take, drop, min, max, None, arith}
use Rattle.std.specs.Prelude.{slice_range}
use Rattle.std.proofs.lemmas.List.{drop-drop, drop-take, take-take}
use Rattle.fkp_pages.specs.declared.kind.PageKind.{PageKind}
use Rattle.fkp_pages.specs.declared.kind.RunAnswer.{RunAnswer}
use Rattle.fkp_pages.specs.declared.kind.RunAnswer.TheVariants.{Found, Empty, NoRun, BadCount, Leaves}
use Rattle.fkp_pages.specs.declared.bin_table.BinRange.{BinRange}
use Rattle.fkp_pages.specs.declared.reading.Met.{Met}
use Rattle.fkp_pages.specs.Fkp.{HasRunAnswer, least_list}
use Rattle.fkp_pages.specs.Stretch.{HasStretch, IsRunCursor}
use Rattle.fkp_pages.proofs.Public.{run_answer_one}
use Rattle.fkp_pages.specs.Bin.{IsBinTable, IsBinPage, HasBinRange, page_at}
use Rattle.fkp_pages.specs.Laws.{RunAnswerIsOne}
use Rattle.direct_props.specs.declared.rules.PageRule.TheVariants as breaks
use Rattle.direct_props.specs.declared.pages.PageCursor.{PageCursor}
use Rattle.direct_props.specs.declared.pages.PageStretch.{PageStretch}
use Rattle.direct_props.specs.PageRules.{HasPageAnswer, IsValidPlace, IsValidBetween}
use Rattle.direct_props.specs.Stretches.{HasValidList}
use Rattle.direct_props.specs.Pages.{IsPageCursor, IsStreamPage, HasPageAround}
use Rattle.direct_props.proofs.AnswerLemmas.{not_bad, runs_here, inside_here, fault_here, no_list_here, found_has_room}

-- a range without its first bytes
pub cut_rest : (page : List ℕ) (from to k : ℕ) → from + k ≤ to → drop k (take (to - from) (drop from page)) ≡
    slice_range page (from + k) to
cut_rest page from to k h =
    let long : to - from ≡ k + (to - (from + k)) = omega arith in
    ap (λ n. drop k (take n (drop from page))) long
    ∙ (drop-take k (to - (from + k)) (drop from page) ∙ ap (λ xs. take (to - (from + k)) xs) (drop-drop k from page))

-- the page that a range names
pub bin_page_of : (bin : List ℕ) (fc other : ℕ) (range : BinRange) → HasBinRange bin fc range → range.from ≤ other →
    other < range.to → IsBinPage bin other range.page
bin_page_of bin fc other range h low high =
    let from = h.from in
    let to = h.to in
    record {
      entry = h.entry;
      range = record { below = h.holds.below; from = omega arith; to = omega arith };
      page = h.page;
    }

-- a range of one place is that of another in it
pub range_at : (bin : List ℕ) (fc other : ℕ) (range : BinRange) → HasBinRange bin fc range → range.from ≤ other →
    other < range.to → HasBinRange bin other range
range_at bin fc other range h low high =
    let from = h.from in
    let to = h.to in
    record {
      entry = h.entry;
      holds = record { below = h.holds.below; from = omega arith; to = omega arith };
      from = h.from;
      to = h.to;
      page = h.page;
    }

-- a number of a page has 22 bits
pub small_page : (bin : List ℕ) (fc : ℕ) (range : BinRange) → HasBinRange bin fc range → range.page < 2 ^ 22
small_page bin fc range h = let page = h.page in omega arith

-- a place with a right list breaks no rule
pub right_here : (kind : PageKind) (wd bin : List ℕ) (fc number : ℕ) (answer : RunAnswer) → RunAnswerIsOne →
    IsBinTable bin →
    HasPageAnswer kind wd bin fc number answer → 2 ≤ number → 512 * number + 512 ≤ length wd →
    HasValidList kind (page_at wd number) answer → IsValidPlace kind wd bin fc
right_here kind wd bin fc number (Found from to) law table has low there list breaks.Bin = λ p w. w.none
    has.page.entry has.page.range
right_here kind wd bin fc number (Found from to) law table has low there list breaks.Page = not_bad kind wd bin fc
    number (Found from to) law table has (λ bad. elim bad [
      | inl b ↦ omega arith
      | inr more ↦ elim more
          [ inl b ↦ omega arith | inr b ↦ cc ]
    ])
right_here kind wd bin fc number (Found from to) law table has low there list breaks.Run = runs_here kind wd bin fc
    number (Found from to) law table has (λ e. cc)
right_here kind wd bin fc number (Found from to) law table has low there list breaks.List = inside_here kind wd bin fc
    number (Found from to) law table has (λ entry e. cc)
right_here kind wd bin fc number (Found from to) law table has low there list breaks.Sprm =
    fault_here kind wd bin fc number (Found from to) law table has from to None refl (λ p f. list.sprms f.offset
    f.broken)
right_here kind wd bin fc number Empty law table has low there list breaks.Bin = λ p w. w.none has.page.entry
    has.page.range
right_here kind wd bin fc number Empty law table has low there list breaks.Page = not_bad kind wd bin fc number Empty
    law table has (λ bad. elim bad [ inl b ↦ omega arith | inr more ↦ elim more [ inl b ↦ omega arith | inr b ↦ cc ] ])
right_here kind wd bin fc number Empty law table has low there list breaks.Run = runs_here kind wd bin fc number Empty
    law table has (λ e. cc)
right_here kind wd bin fc number Empty law table has low there list breaks.List = inside_here kind wd bin fc number
    Empty law table has (λ entry e. cc)
right_here kind wd bin fc number Empty law table has low there list breaks.Sprm = no_list_here kind wd bin fc number
    Empty law table has (λ from to e. cc)
right_here kind wd bin fc number NoRun law table has low there list page_rule = absurd list
right_here kind wd bin fc number BadCount law table has low there list page_rule = absurd list
right_here kind wd bin fc number (Leaves entry) law table has low there list page_rule = absurd list

-- where a place breaks no rule its list is right
pub right_list : (kind : PageKind) (wd bin : List ℕ) (fc number : ℕ) (answer : RunAnswer) → HasPageAnswer kind wd bin
    fc number answer → IsValidPlace kind wd bin fc → HasValidList kind (page_at wd number) answer
right_list kind wd bin fc number (Found from to) has right =
    let room = found_has_room kind wd fc number from to has.answers in
    record {
      room = room.room;
      within = room.within;
      sprms = λ p f. right breaks.Sprm (512 * number + from + least_list kind + p) (record {
        number = number;
        from = from;
        to = to;
        answer = has;
        fault = record { offset = p; here = refl; broken = f };
      });
    }
right_list kind wd bin fc number Empty has right = tt
right_list kind wd bin fc number NoRun has right = right breaks.Run fc (record {
  number = number;
  answer = has;
  here = refl;
})
right_list kind wd bin fc number BadCount has right = right breaks.Page (512 * number + 511)
    (record { number = number; page = has.page; here = refl; bad = inr (inr has.answers) })
right_list kind wd bin fc number (Leaves entry) has right = right breaks.List (512 * number + entry)
    (record { number = number; entry = entry; answer = has; here = refl })

-- the places that a range of the bin table and a stretch of its page have in common
pub page_stretch : (kind : PageKind) (wd bin : List ℕ) (fc : ℕ) (found : PageCursor) (page : List ℕ) (met : Met) →
    HasBinRange bin fc found.range → IsPageCursor wd bin found → page ≡ page_at wd found.range.page →
    IsStreamPage wd found.range.page →
    HasStretch kind page fc met.stretch → IsRunCursor page met.next →
    HasPageAround kind wd bin fc (record {
      first = max found.range.from met.stretch.first;
      last = min (found.range.to - 1) met.stretch.last;
      number = found.range.page;
      answer = met.stretch.answer;
      next = record { range = found.range; runs = met.next };
    })
page_stretch kind wd bin fc found page met h known e in_stream s runs =
    let range_from = h.from in
    let range_to = h.to in
    let from = h.holds.from in
    let to = h.holds.to in
    let first = s.around.from in
    let last = s.around.to in
    record {
      from = omega arith;
      to = omega arith;
      page = in_stream;
      each = λ other a b. record {
        page = bin_page_of bin fc other found.range h (omega arith) (omega arith);
        answers = subst (λ p. HasRunAnswer kind p other met.stretch.answer) e (s.answers other (omega arith)
            (omega arith));
      };
      next = record { named = known.named; small = known.small; runs = subst (λ p. IsRunCursor p met.next) e runs };
    }

-- a page that answers a right list breaks no rule at its places
pub right_stretch : (kind : PageKind) (wd bin : List ℕ) (fc : ℕ) (stretch : PageStretch) → IsBinTable bin →
    HasPageAround kind wd bin fc stretch →
    HasValidList kind (page_at wd stretch.number) stretch.answer →
    IsValidPlace kind wd bin fc × IsValidBetween kind wd bin stretch.first stretch.last
right_stretch kind wd bin fc stretch table h list =
    let between : IsValidBetween kind wd bin stretch.first stretch.last =
    λ other a b. right_here kind wd bin other stretch.number stretch.answer run_answer_one table (h.each other a b)
    h.page.low h.page.within list in
    (between fc h.from h.to, between)

-- a range of a page is a range of the stream
pub in_page : (wd : List ℕ) (number from to : ℕ) → from ≤ 512 → to ≤ 512 → slice_range (page_at wd number) from to ≡
    slice_range wd (512 * number + from) (512 * number + to)
in_page wd number from to a b =
    let rest = drop (512 * number) wd in
    let size : 512 * number + 512 - 512 * number ≡ from + (512 - from) = omega arith in
    let width : 512 * number + to - (512 * number + from) ≡ to - from = omega arith in
    ap (λ n. take (to - from) (drop from (take n rest))) size
    ∙ (ap (take (to - from)) (drop-take from (512 - from) rest)
    ∙ (take-take (to - from) (512 - from) (drop from rest) (omega arith)
    ∙ (ap (take (to - from)) (drop-drop from (512 * number) wd)
    ∙ sym (ap (λ n. take n (drop (512 * number + from) wd)) width))))
