-- A place that breaks no rule has its list.
use Rattle.std.proofs.Common.{◌≡◌, ◌⊎◌, ◌∙◌, inl, inr, refl, sym, subst, ℕ, zero, suc, ◌+◌, ◌*◌, ◌<◌, ◌≤◌, List, []}
use Rattle.std.proofs.Common.{◌∷◌, length, drop, arith, get_or}
use Rattle.std.specs.Prelude.{slice_range, slice_index}
use Rattle.std.proofs.lemmas.Bool.{cases_lt, cases_eq}
use Rattle.doc_bits.specs.Plc.{plc_cp}
use Rattle.doc_bits.specs.Rules.{Nowhere, Hold}
use Rattle.sprm_table.specs.Sprm.{IsAcceptedList}
use Rattle.doc_bits.specs.Number.{AreBytes}
use Rattle.doc_bits.proofs.Public.{length-range, AreBytes-range}
use Rattle.sprm_table.proofs.Public.{passed_none, passed_end}
use Rattle.fkp_pages.specs.declared.kind.PageKind.{PageKind}
use Rattle.fkp_pages.specs.declared.kind.PageKind.TheVariants.{Chpx, Papx}
use Rattle.fkp_pages.specs.declared.kind.RunAnswer.TheVariants.{Found, Empty}
use Rattle.fkp_pages.specs.Fkp.{HasRunCount, HoldsFc, IsFirstRun, IsListWithin, page_run_count, most_runs, page_fc}
use Rattle.fkp_pages.specs.Fkp.{entry_byte, run_entry_place, list_from, list_to, least_list}
use Rattle.fkp_pages.specs.Bin.{IsBinRange, IsBinPage, bin_count, page_number, page_at}
use Rattle.fkp_pages.specs.Properties.{HasListAt}
use Rattle.fkp_pages.specs.Runs.{run_groups}
use Rattle.direct_props.specs.PageRules.{page_rules, IsValidPlace, HasPageAnswer, HasNoPage, HasBadPage, IsInNoRun}
use Rattle.direct_props.specs.PageRules.{HasListOutside, HasPageListFault}
use Rattle.direct_props.proofs.AnswerLemmas.{found_has_room}
use Rattle.direct_props.proofs.StretchLemmas.{cut_rest}
use Rattle.prop_map.proofs.Public.{accepted_of}
use Rattle.direct_props.proofs.FirstOf.{first_or_none}
use Rattle.direct_props.specs.declared.rules.PageRule.TheVariants as breaks

-- a place that breaks none of the five rules on pages
pub record IsValid (kind : PageKind) (wd bin : List ℕ) (fc : ℕ) : Type 0 where
  pub bin_page : Nowhere (HasNoPage bin fc)
  pub page : Nowhere (HasBadPage kind wd bin fc)
  pub run : Nowhere (IsInNoRun kind wd bin fc)
  pub list : Nowhere (HasListOutside kind wd bin fc)
  pub sprms : Nowhere (HasPageListFault kind wd bin fc)

pub right_of : (kind : PageKind) (wd bin places : List ℕ) → Hold (page_rules kind wd bin places) → (k : ℕ) →
    k < length places → IsValid kind wd bin (slice_index places k)
right_of kind wd bin places h k below = record {
  bin_page = λ p b. h.0 p (record { entry = k; below = below; broken = b });
  page = λ p b. h.1.0 p (record { entry = k; below = below; broken = b });
  run = λ p b. h.1.1.0 p (record { entry = k; below = below; broken = b });
  list = λ p b. h.1.1.1.0 p (record { entry = k; below = below; broken = b });
  sprms = λ p b. h.1.1.1.1 p (record { entry = k; below = below; broken = b });
}

-- the same of a right place
pub right_at : (kind : PageKind) (wd bin : List ℕ) (fc : ℕ) → IsValidPlace kind wd bin fc → IsValid kind wd bin fc
right_at kind wd bin fc right = record {
  bin_page = right breaks.Bin;
  page = right breaks.Page;
  run = right breaks.Run;
  list = right breaks.List;
  sprms = right breaks.Sprm;
}

-- ---- the parts of a place's answer

in_range : (bin : List ℕ) (fc k : ℕ) → IsBinRange bin fc k ⊎ (¬ (IsBinRange bin fc k))
in_range bin fc k = elim (cases_lt k (bin_count bin)) [
  | inr over ↦ inr (λ r. let below = r.below in omega arith)
  | inl below ↦ elim (cases_lt fc (plc_cp bin k)) [
    | inl before ↦ inr (λ r. let from = r.from in omega arith)
    | inr from ↦ elim (cases_lt fc (plc_cp bin (k + 1))) [
      | inl to ↦ inl (record { below = below; from = from; to = to })
      | inr after ↦ inr (λ r. let to = r.to in omega arith)
    ]
  ]
]

holds_or_not : (page : List ℕ) (fc run : ℕ) → HoldsFc page run fc ⊎ (¬ (HoldsFc page run fc))
holds_or_not page fc run = elim (cases_lt fc (page_fc page run)) [
  | inl before ↦ inr (λ r. let from = r.from in omega arith)
  | inr from ↦ elim (cases_lt fc (page_fc page (run + 1))) [
    | inl to ↦ inl (record { from = from; to = to })
    | inr after ↦ inr (λ r. let to = r.to in omega arith)
  ]
]

counted_or_not : (kind : PageKind) (page : List ℕ) → HasRunCount kind page ⊎ (¬ (HasRunCount kind page))
counted_or_not kind page = elim (cases_lt (page_run_count page) 1) [
  | inl none ↦ inr (λ c. let some = c.some in omega arith)
  | inr some ↦ elim (cases_lt (most_runs kind) (page_run_count page)) [
    | inl over ↦ inr (λ c. let most = c.most in omega arith)
    | inr most ↦ inl (record { some = some; most = most })
  ]
]

within_or_not : (kind : PageKind) (page : List ℕ) (at : ℕ) → IsListWithin kind page at ⊎ (¬ (IsListWithin kind page at))
within_or_not kind page at = elim (cases_lt (list_to kind page at) (list_from kind page at + least_list kind)) [
  | inl short ↦ inr (λ w. let room = w.room in omega arith)
  | inr room ↦ elim (cases_lt 511 (list_to kind page at)) [
    | inl over ↦ inr (λ w. let within = w.within in omega arith)
    | inr within ↦ inl (record { room = room; within = within })
  ]
]

-- ---- the list

-- a list with room for itself, which is accepted
pub record HasAcceptedList (kind : PageKind) (wd bin : List ℕ) (fc : ℕ) : Type 0 where
  pub list : List ℕ
  pub has : HasListAt kind bin wd fc list
  pub bytes : AreBytes list
  pub long : least_list kind ≤ length list
  pub accepted : IsAcceptedList (drop (least_list kind) list) (run_groups kind)

nothing_accepted : (groups : ℕ) → IsAcceptedList [] groups
nothing_accepted groups = passed_end [] groups 0 (passed_none [] groups) (inl (omega arith))

bare : (kind : PageKind) (wd bin : List ℕ) (fc number : ℕ) → HasPageAnswer kind wd bin fc number Empty →
    512 * number + 512 ≤ length wd → HasAcceptedList kind wd bin fc
bare Chpx wd bin fc number has there = record {
  list = [];
  has = record {
    number = number;
    named = has.page;
    within = there;
    answer = Empty;
    answers = has.answers;
    answered = refl;
  };
  bytes = λ i. omega arith;
  long = omega arith;
  accepted = nothing_accepted (run_groups Chpx);
}
bare Papx wd bin fc number has there = record {
  list = 0 ∷ 0 ∷ [];
  has = record {
    number = number;
    named = has.page;
    within = there;
    answer = Empty;
    answers = has.answers;
    answered = refl;
  };
  bytes = zeroes;
  long = omega arith;
  accepted = nothing_accepted (run_groups Papx);
}
  where
    zeroes : (i : ℕ) → get_or (0 ∷ 0 ∷ []) i 0 < 256
    zeroes zero = omega arith
    zeroes (suc zero) = omega arith
    zeroes (suc (suc i)) = omega arith

there_list : (kind : PageKind) (wd bin : List ℕ) (fc number from to : ℕ) → AreBytes wd → HasPageAnswer kind wd bin fc
    number (Found from to) → 512 * number + 512 ≤ length wd → IsValid kind wd bin fc → HasAcceptedList kind wd bin fc
there_list kind wd bin fc number from to bytes has there right =
    let page = page_at wd number in
    let found = found_has_room kind wd fc number from to has.answers in
    let room = found.room in
    let within = found.within in
    let page_bytes = AreBytes-range wd (512 * number) (512 * number + 512) bytes in
    let page_long : length page ≡ 512 = length-range wd (512 * number) (512 * number + 512) there ∙ (omega arith) in
    let list_long = length-range page from to (omega arith) in
    record {
      list = slice_range page from to;
      has = record {
        number = number;
        named = has.page;
        within = there;
        answer = Found from to;
        answers = has.answers;
        answered = refl;
      };
      bytes = AreBytes-range page from to page_bytes;
      long = omega arith;
      accepted =
          subst (λ xs. IsAcceptedList xs (run_groups kind)) (sym (cut_rest page from to (least_list kind) room))
          (accepted_of (slice_range page (from + least_list kind) to) (run_groups kind) (AreBytes-range page
          (from + least_list kind) to page_bytes)
          (λ p f. right.sprms (512 * number + from + least_list kind + p) (record {
            number = number;
            from = from;
            to = to;
            answer = has;
            fault = record { offset = p; here = refl; broken = f };
          })));
    }

run_list_there : (kind : PageKind) (wd bin : List ℕ) (fc number run : ℕ) → AreBytes wd → IsBinPage bin fc number →
    512 * number + 512 ≤ length wd → HasRunCount kind (page_at wd number) → IsFirstRun (page_at wd number) fc run →
    IsValid kind wd bin fc → HasAcceptedList kind wd bin fc
run_list_there kind wd bin fc number run bytes named there count first right =
    let page = page_at wd number in
    let at = 2 * entry_byte kind page run in
    elim (cases_eq (entry_byte kind page run) 0) [
      | inl none ↦ bare kind wd bin fc number (record {
        page = named;
        answers = (
          count,
          record {
            run = run;
            first = first;
            answers = none;
          },
        );
      }) there
      | inr some ↦ elim (within_or_not kind page at) [
        | inl within ↦
            there_list kind wd bin fc number (list_from kind page at) (list_to kind page at) bytes
            (record {
              page = named;
              answers = (
                count,
                record {
                  run = run;
                  first = first;
                  answers = record { some = some; starts = refl; ends = refl; within = within };
                },
              );
            }) there right
        | inr beyond ↦ absurd (right.list (512 * number + run_entry_place kind page run) (record {
          number = number;
          entry = run_entry_place kind page run;
          answer = record {
            page = named;
            answers = (
              count,
              record {
                run = run;
                first = first;
                answers = record { some = some; here = refl; beyond = beyond };
              },
            );
          };
          here = refl;
        }))
      ]
    ]

page_list_there : (kind : PageKind) (wd bin : List ℕ) (fc number : ℕ) → AreBytes wd → IsBinPage bin fc number →
    512 * number + 512 ≤ length wd → IsValid kind wd bin fc → HasAcceptedList kind wd bin fc
page_list_there kind wd bin fc number bytes named there right =
    let page = page_at wd number in
    elim (counted_or_not kind page) [
      | inr bad ↦ absurd (right.page (512 * number + 511) (record {
        number = number;
        page = named;
        here = refl;
        bad = inr (inr bad);
      }))
      | inl count ↦ elim (first_or_none (page_run_count page) (λ run. HoldsFc page run fc) (holds_or_not page fc)) [
        | inl found ↦ run_list_there kind wd bin fc number found.0 bytes named there count
            (record { below = found.1.below; holds = found.1.is; first = found.1.first }) right
        | inr none ↦ absurd (right.run fc (record {
          number = number;
          answer = record {
            page = named;
            answers = (
              count,
              none,
            );
          };
          here = refl;
        }))
      ]
    ]

-- a right place has its list
pub list_there : (kind : PageKind) (wd bin : List ℕ) (fc : ℕ) → AreBytes wd → IsValid kind wd bin fc → HasAcceptedList
    kind wd bin fc
list_there kind wd bin fc bytes right = elim (first_or_none (bin_count bin) (IsBinRange bin fc) (in_range bin fc)) [
  | inr none ↦ absurd (right.bin_page fc (record { here = refl; none = λ k range. none k range.below range }))
  | inl found ↦
      let number = page_number bin found.0 in
      let named : IsBinPage bin fc number = record { entry = found.0; range = found.1.is; page = refl } in
      elim (cases_lt (length wd) (512 * number + 512)) [
        | inl short ↦ absurd (right.page (512 * number + 511) (record {
          number = number;
          page = named;
          here = refl;
          bad = inr (inl short);
        }))
        | inr there ↦ page_list_there kind wd bin fc number bytes named there right
      ]
]
