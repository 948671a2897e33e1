-- Where the rules on pages hold, each place is right, and has a right list; and the other way round.
use Rattle.std.proofs.Common.{◌<◌, ◌≤◌, ◌+◌, ◌*◌, ℕ, List, length, slice_index_or, inl, inr, refl}
use Rattle.std.proofs.lemmas.Bool.{cases_lt}
use Rattle.doc_bits.specs.Rules.{Hold}
use Rattle.fkp_pages.specs.declared.kind.PageKind.{PageKind}
use Rattle.direct_props.specs.declared.rules.PageRule.TheVariants as breaks
use Rattle.fkp_pages.proofs.Public.{run_answer_one}
use Rattle.direct_props.specs.PageRules.{page_rules, IsValidPlace}
use Rattle.direct_props.specs.RightLists.{RightListsAreValid, RightPlacesHaveLists, RightPlacesHold}
use Rattle.direct_props.proofs.StretchLemmas.{right_here, right_list}

pub right_where_hold : (kind : PageKind) (wd bin places : List ℕ) → Hold (page_rules kind wd bin places) → (k : ℕ) →
    k < length places → IsValidPlace kind wd bin (slice_index_or places k 0)
right_where_hold kind wd bin places h k below breaks.Bin p b = h.0 p (record { entry = k; below = below; broken = b })
right_where_hold kind wd bin places h k below breaks.Page p b = h.1.0 p (record {
  entry = k;
  below = below;
  broken = b;
})
right_where_hold kind wd bin places h k below breaks.Run p b = h.1.1.0 p (record {
  entry = k;
  below = below;
  broken = b;
})
right_where_hold kind wd bin places h k below breaks.List p b = h.1.1.1.0 p (record {
  entry = k;
  below = below;
  broken = b;
})
right_where_hold kind wd bin places h k below breaks.Sprm p b = h.1.1.1.1 p (record {
  entry = k;
  below = below;
  broken = b;
})

pub right_places_hold : RightPlacesHold
right_places_hold kind wd bin places right = (
  λ p w. right w.entry w.below breaks.Bin p w.broken,
  (
    λ p w. right w.entry w.below breaks.Page p w.broken,
    (
      λ p w. right w.entry w.below breaks.Run p w.broken,
      (λ p w. right w.entry w.below breaks.List p w.broken, λ p w. right w.entry w.below breaks.Sprm p w.broken),
    ),
  ),
)

pub right_lists_are_valid : RightListsAreValid
right_lists_are_valid kind wd bin fc list table h =
    right_here kind wd bin fc h.number h.answer run_answer_one table (record { page = h.named; answers = h.answers })
    h.low h.within h.right

pub right_places_have_lists : RightPlacesHaveLists
right_places_have_lists kind wd bin fc list right has =
    let low : 2 ≤ has.number = elim (cases_lt has.number 2) [
      | inl less ↦ absurd (right breaks.Page (512 * has.number + 511) (record {
        number = has.number;
        page = has.named;
        here = refl;
        bad = inl less;
      }))
      | inr enough ↦ enough
    ] in
    record {
      number = has.number;
      named = has.named;
      low = low;
      within = has.within;
      answer = has.answer;
      answers = has.answers;
      right = right_list kind wd bin fc has.number has.answer (record { page = has.named; answers = has.answers })
          right;
      answered = has.answered;
    }
