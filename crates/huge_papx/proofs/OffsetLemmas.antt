-- Which place of Data the paragraph of a place names.
use Rattle.std.specs.Prelude.{MatchOption}
use Rattle.std.proofs.Common.{◌≡◌, sym, subst, ℕ, ◌+◌, ◌*◌, ◌<◌, ◌≤◌, List, [], ◌∷◌, length, drop, arith}
use Rattle.std.proofs.Common.{Option, Some, None}
use Rattle.text_codes.specs.Paragraph.{cell_mark}
use Rattle.fkp_pages.specs.declared.kind.PageKind.TheVariants.{Papx}
use Rattle.fkp_pages.specs.declared.kind.RunAnswer.{RunAnswer}
use Rattle.fkp_pages.specs.declared.kind.RunAnswer.TheVariants.{Found, Empty, NoRun, BadCount, Leaves}
use Rattle.fkp_pages.specs.Bin.{IsBinTable, IsBinPage, HasNoBin, page_at}
use Rattle.fkp_pages.specs.Fkp.{HasRunAnswer}
use Rattle.fkp_pages.specs.Properties.{HasListAt, IsListAnswered}
use Rattle.fkp_pages.proofs.Public.{bin_page_one, run_answer_one, list_at_one}
use Rattle.huge_papx.specs.declared.lists.Sought.TheVariants.{HugePapx}
use Rattle.huge_papx.specs.Lists.{HasLastValue}
use Rattle.huge_papx.specs.Offsets.{NamesOffset, IsNamedAt, NamesNothing, IsOffsetOf, IsInPage, AnswersList}
use Rattle.huge_papx.proofs.ListLemmas.{nothing_last}
use Rattle.deleted_text.proofs.Public.{spells_nothing}

-- ---- answers

-- the list of a run without properties names none
pub bare_names_none : (offset : ℕ) → NamesOffset (0 ∷ 0 ∷ []) offset → ⊥
bare_names_none offset names = nothing_last HugePapx [] names.value spells_nothing names.has

pub in_page : (page : List ℕ) (fc : ℕ) (answer : RunAnswer) → length page ≡ 512 → HasRunAnswer Papx page fc answer →
    IsInPage page answer
in_page page fc (Found from to) len has =
    let list = has.1.answers in
    let within = list.within in (
      omega (arith, within.room, list.starts, list.ends),
      omega (arith, within.within, list.ends, len),
    )
in_page page fc Empty len has = tt
in_page page fc NoRun len has = tt
in_page page fc BadCount len has = tt
in_page page fc (Leaves entry) len has = tt

answer_list : (page : List ℕ) (answer : RunAnswer) (list : List ℕ) (offset : ℕ) →
    IsListAnswered Papx page answer list → NamesOffset list offset → AnswersList page answer list
answer_list page (Found from to) list offset is names = is
answer_list page Empty list offset is names =
    absurd (bare_names_none offset (subst (λ (l : List ℕ). NamesOffset l offset) is names))
answer_list page NoRun list offset is names = absurd is
answer_list page BadCount list offset is names = absurd is
answer_list page (Leaves entry) list offset is names = absurd is

answered_list : (page : List ℕ) (answer : RunAnswer) (list : List ℕ) → AnswersList page answer list →
    IsListAnswered Papx page answer list
answered_list page (Found from to) list is = is
answered_list page Empty list is = absurd is
answered_list page NoRun list is = absurd is
answered_list page BadCount list is = absurd is
answered_list page (Leaves entry) list is = absurd is

-- ---- places

pub no_bin : (wd bin : List ℕ) (fc : ℕ) → HasNoBin bin fc → NamesNothing wd bin fc
no_bin wd bin fc none list offset has names = none has.named.entry has.named.range

pub no_page : (wd bin : List ℕ) (fc number : ℕ) → IsBinTable bin → IsBinPage bin fc number →
    length wd < 512 * number + 512 → NamesNothing wd bin fc
no_page wd bin fc number table named short list offset has names =
    let within = has.within in
    let same : has.number ≡ number = bin_page_one bin fc has.number number table has.named named in
    absurd (omega (arith, short, within, same))

pub no_list : (wd bin : List ℕ) (fc number : ℕ) (answer : RunAnswer) → IsBinTable bin → IsBinPage bin fc number →
    HasRunAnswer Papx (page_at wd number) fc answer →
    ((list : List ℕ) → ¬ AnswersList (page_at wd number) answer list) → NamesNothing wd bin fc
no_list wd bin fc number answer table named here none list offset has names =
    let same : has.number ≡ number = bin_page_one bin fc has.number number table has.named named in
    let page = page_at wd number in
    let there : HasRunAnswer Papx page fc has.answer =
    subst (λ n. HasRunAnswer Papx (page_at wd n) fc has.answer) same has.answers in
    let answers : has.answer ≡ answer = run_answer_one Papx page fc has.answer answer there here in
    let answered : IsListAnswered Papx page answer list =
    subst (λ a. IsListAnswered Papx page a list) answers
    (subst (λ n. IsListAnswered Papx (page_at wd n) has.answer list) same has.answered) in
    none list (answer_list page answer list offset answered names)

pub list_there : (wd bin : List ℕ) (fc number : ℕ) (answer : RunAnswer) (list : List ℕ) → IsBinPage bin fc number →
    512 * number + 512 ≤ length wd → HasRunAnswer Papx (page_at wd number) fc answer →
    AnswersList (page_at wd number) answer list → HasListAt Papx bin wd fc list
list_there wd bin fc number answer list named within here is = record {
  number = number;
  named = named;
  within = within;
  answer = answer;
  answers = here;
  answered = answered_list (page_at wd number) answer list is;
}

-- the list of the place names none
pub not_named : (wd bin : List ℕ) (fc unit offset : ℕ) (list : List ℕ) → IsBinTable bin →
    HasListAt Papx bin wd fc list → ((offset : ℕ) → ¬ NamesOffset list offset) → IsNamedAt wd bin fc unit offset → ⊥
not_named wd bin fc unit offset list table has none is =
    none offset (subst (λ (l : List ℕ). NamesOffset l offset) (list_at_one Papx bin wd fc is.list list table is.has has)
    is.names)

-- ---- what is found

pub listed : {A : Type 0} (now : A → List ℕ) (wd bin : List ℕ) (fc number : ℕ) (page : List ℕ) (answer : RunAnswer) →
    page ≡ page_at wd number → IsBinTable bin → IsBinPage bin fc number → 512 * number + 512 ≤ length wd →
    HasRunAnswer Papx page fc answer → (found : Option A) →
    MatchOption found ((list : List ℕ) → ¬ AnswersList page answer list) (λ x. AnswersList page answer (now x)) →
    MatchOption found (NamesNothing wd bin fc) (λ x. HasListAt Papx bin wd fc (now x))
listed now wd bin fc number page answer same table named within here None none =
    no_list wd bin fc number answer table named (subst (λ (p : List ℕ). HasRunAnswer Papx p fc answer) same here)
    (subst (λ (p : List ℕ). (list : List ℕ) → ¬ AnswersList p answer list) same none)
listed now wd bin fc number page answer same table named within here (Some x) is =
    list_there wd bin fc number answer (now x) named within
    (subst (λ (p : List ℕ). HasRunAnswer Papx p fc answer) same here)
    (subst (λ (p : List ℕ). AnswersList p answer (now x)) same is)

pub offset_listed : (wd bin : List ℕ) (fc unit : ℕ) (list : List ℕ) → unit ≡ cell_mark → IsBinTable bin →
    HasListAt Papx bin wd fc list → (found : Option ℕ) →
    MatchOption found ((offset : ℕ) → ¬ NamesOffset list offset) (NamesOffset list) → IsOffsetOf wd bin fc unit found
offset_listed wd bin fc unit list cell table has None none =
    λ offset is. not_named wd bin fc unit offset list table has none is
offset_listed wd bin fc unit list cell table has (Some offset) names =
    record { cell = cell; list = list; has = has; names = names }
