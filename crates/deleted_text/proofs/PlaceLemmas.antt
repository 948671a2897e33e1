-- What the page of a place says of it, and of the places around it.
use Rattle.std.specs.Prelude.{IsTrue, slice_range, slice_index, slice_index_or}
use Rattle.std.proofs.Common.{◌≡◌, ◌↔◌, sym, subst, refl, inl, inr, ℕ, ◌+◌, ◌*◌, ◌-◌, ◌/◌, ◌%◌, ◌<◌, ◌≤◌}
use Rattle.std.proofs.Common.{Bool, true, false, List, [], ◌∷◌, ◌++◌, length, arith}
use Rattle.std.proofs.Math.Seq.{get_or-append_seam}
use Rattle.std.proofs.lemmas.Bool.{cases_lt}
use Rattle.std.proofs.lemmas.List.{length-append, get_or_append_left}
use Rattle.std.proofs.lemmas.List.Elements.{All-nil}
use Rattle.doc_bits.specs.Plc.{plc_cp}
use Rattle.sprm_table.specs.Sprm.{Prl, IsPrl, SpellsSprmList}
use Rattle.sprm_table.proofs.Public.{spelt_unique}
use Rattle.fkp_pages.specs.declared.kind.PageKind.TheVariants.{Chpx}
use Rattle.fkp_pages.specs.declared.kind.RunAnswer.{RunAnswer}
use Rattle.fkp_pages.specs.declared.kind.RunAnswer.TheVariants.{Found, Empty, NoRun, BadCount, Leaves}
use Rattle.fkp_pages.specs.declared.bin_table.BinRange.{BinRange}
use Rattle.fkp_pages.specs.declared.reading.Stretch.{Stretch}
use Rattle.fkp_pages.specs.Bin.{IsBinTable, HasBinRange, HasNoBin, page_at}
use Rattle.fkp_pages.specs.Fkp.{HasRunAnswer}
use Rattle.fkp_pages.specs.Stretch.{HasStretch}
use Rattle.fkp_pages.specs.Properties.{IsListAnswered}
use Rattle.fkp_pages.proofs.Public.{bin_page_one, run_answer_one}
use Rattle.deleted_text.specs.Deletions.{SaysDeleted, deleted_by}
use Rattle.deleted_text.specs.Places.{IsDeletedAt, IsAround, IsInPage, AnswersDeleted}
use Rattle.direct_props.proofs.Public.{bin_page_of}

-- ---- lists

pub spells_nothing : SpellsSprmList [] []
spells_nothing = record { rest = []; entries = All-nil IsPrl; spelt = refl; ends = inl (omega arith) }

pub nothing_said : SaysDeleted [] → ⊥
nothing_said says =
    let none : says.prls ≡ [] = spelt_unique [] says.prls [] says.spelt spells_nothing in
    absurd (cc (subst (λ (l : List Prl). deleted_by false l ≡ true) none says.deleted))

-- ---- answers

pub in_page : (page : List ℕ) (fc : ℕ) (answer : RunAnswer) → length page ≡ 512 → HasRunAnswer Chpx page fc answer →
    IsInPage page answer
in_page page fc (Found from to) len has =
    let list = has.1.answers in
    let within = list.within in (
      omega (arith, within.room, list.starts, list.ends),
      omega (arith, within.within, list.ends, len),
    )
in_page page fc Empty len has = tt
in_page page fc NoRun len has = tt
in_page page fc BadCount len has = tt
in_page page fc (Leaves entry) len has = tt

answer_says : (page : List ℕ) (answer : RunAnswer) (list : List ℕ) → IsListAnswered Chpx page answer list →
    SaysDeleted list → AnswersDeleted page answer
answer_says page (Found from to) list is says = subst SaysDeleted is says
answer_says page Empty list is says = absurd (nothing_said (subst SaysDeleted is says))
answer_says page NoRun list is says = absurd is
answer_says page BadCount list is says = absurd is
answer_says page (Leaves entry) list is says = absurd is

-- the list that is answered and says so
record SaidBy (page : List ℕ) (answer : RunAnswer) : Type 0 where
  list : List ℕ
  answered : IsListAnswered Chpx page answer list
  says : SaysDeleted list

said_by : (page : List ℕ) (answer : RunAnswer) → AnswersDeleted page answer → SaidBy page answer
said_by page (Found from to) says = record { list = slice_range page from to; answered = refl; says = says }
said_by page Empty says = absurd says
said_by page NoRun says = absurd says
said_by page BadCount says = absurd says
said_by page (Leaves entry) says = absurd says

-- ---- places

pub no_bin : (wd bin : List ℕ) (fc : ℕ) → HasNoBin bin fc → IsDeletedAt wd bin fc → ⊥
no_bin wd bin fc none deleted = none deleted.has.named.entry deleted.has.named.range

pub no_page : (wd bin : List ℕ) (fc : ℕ) (range : BinRange) → IsBinTable bin → HasBinRange bin fc range →
    length wd < 512 * range.page + 512 → IsDeletedAt wd bin fc → ⊥
no_page wd bin fc range table has short deleted =
    let within = deleted.has.within in
    let named = bin_page_of bin fc fc range has (omega (arith, has.from, has.holds.from)) (omega (
      arith,
      has.to,
      has.holds.to,
    )) in
    let same : deleted.has.number ≡ range.page =
    bin_page_one bin fc deleted.has.number range.page table deleted.has.named named in
    omega (arith, short, within, same)

pub around_none : (wd bin : List ℕ) (fc : ℕ) → (IsDeletedAt wd bin fc → ⊥) →
    IsAround wd bin (record { first = fc; last = fc; deleted = false })
around_none wd bin fc none = λ other low high.
    let same : other ≡ fc = omega (arith, low, high) in
    ((λ t. absurd (cc t)), λ deleted. absurd (none (subst (IsDeletedAt wd bin) same deleted)))

-- the page of a range answers alike at the places of a stretch
pub around_all : (wd bin : List ℕ) (fc : ℕ) (range : BinRange) (stretch : Stretch) (deleted : Bool) (other : ℕ) →
    IsBinTable bin → HasBinRange bin fc range → 512 * range.page + 512 ≤ length wd →
    HasStretch Chpx (page_at wd range.page) fc stretch →
    (IsTrue deleted ↔ AnswersDeleted (page_at wd range.page) stretch.answer) → range.from ≤ other → other < range.to →
    stretch.first ≤ other → other ≤ stretch.last → (IsTrue deleted ↔ IsDeletedAt wd bin other)
around_all wd bin fc range stretch deleted other table has within met says low high first last =
    let page = page_at wd range.page in
    let named = bin_page_of bin fc other range has low high in
    let here = met.answers other first last in (
      λ t.
          let said = said_by page stretch.answer (says.0 t) in
          record {
            list = said.list;
            has = record {
              number = range.page;
              named = named;
              within = within;
              answer = stretch.answer;
              answers = here;
              answered = said.answered;
            };
            says = said.says;
          },
      λ is.
          let same : is.has.number ≡ range.page =
          bin_page_one bin other is.has.number range.page table is.has.named named in
          let there : HasRunAnswer Chpx page other is.has.answer =
          subst (λ n. HasRunAnswer Chpx (page_at wd n) other is.has.answer) same is.has.answers in
          let answer : is.has.answer ≡ stretch.answer =
          run_answer_one Chpx page other is.has.answer stretch.answer there here in
          let answered : IsListAnswered Chpx page stretch.answer is.list =
          subst (λ a. IsListAnswered Chpx page a is.list) answer
          (subst (λ n. IsListAnswered Chpx (page_at wd n) is.has.answer is.list) same is.has.answered) in
          says.1 (answer_says page stretch.answer is.list answered is.says),
    )

-- ---- flags

-- those so far
abbrev pub AreFlags : (wd bin places : List ℕ) → List Bool → Type 0
AreFlags wd bin places flags =
    (k : ℕ) → k < length flags → (IsTrue (slice_index_or flags k false) ↔ IsDeletedAt wd bin (slice_index places k))

-- one more
pub flags_more : (wd bin places : List ℕ) (flags : List Bool) (b : Bool) (fc : ℕ) → AreFlags wd bin places flags →
    fc ≡ slice_index places (length flags) → (IsTrue b ↔ IsDeletedAt wd bin fc) →
    AreFlags wd bin places (flags ++ b ∷ [])
flags_more wd bin places flags b fc each at here = λ k low. elim (cases_lt k (length flags)) [
  | inl lo ↦
      subst (λ (x : Bool). IsTrue x ↔ IsDeletedAt wd bin (slice_index places k))
      (sym (get_or_append_left flags (b ∷ []) false k lo)) (each k lo)
  | inr hi ↦
      let last : length flags ≡ k = omega (arith, low, hi, length-append flags (b ∷ [])) in
      let now : IsTrue (slice_index_or (flags ++ b ∷ []) (length flags) false) ↔
      IsDeletedAt wd bin (slice_index places (length flags)) =
      subst (λ (x : Bool). IsTrue x ↔ IsDeletedAt wd bin (slice_index places (length flags)))
      (sym (get_or-append_seam flags b [] false))
      (subst (λ n. IsTrue b ↔ IsDeletedAt wd bin n) at here) in
      subst (λ n. IsTrue (slice_index_or (flags ++ b ∷ []) n false) ↔ IsDeletedAt wd bin (slice_index places n)) last
      now
]

-- ---- bin tables

pub table_sizes : (bin : List ℕ) → IsBinTable bin → (4 ≤ length bin) × ((length bin - 4) % 8 ≡ 0)
table_sizes bin is = let whole = is.table in (omega (arith, whole), omega (arith, whole))

pub is_table : (bin : List ℕ) → 4 ≤ length bin → (length bin - 4) % 8 ≡ 0 →
    ((k : ℕ) → k < (length bin - 4) / 8 → plc_cp bin k < plc_cp bin (k + 1)) → IsBinTable bin
is_table bin long whole each = record { table = omega (arith, long, whole); ascend = each }
