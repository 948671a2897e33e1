-- A list that says that its text was deleted has the word sprmCFRMarkDel; pages none of whose lists says so.
use Rattle.std.specs.Prelude.{slice_range, slice_index, slice_index_or, replicate}
use Rattle.std.proofs.Common.{◌≡◌, ◌∙◌, sym, ap, subst, refl, ℕ, ◌+◌, ◌/◌, ◌<◌, ◌≤◌, ◌==◌, Bool, true, false}
use Rattle.std.proofs.Common.{List, [], ◌∷◌, ◌++◌, length, All, append_assoc, arith}
use Rattle.std.specs.List.{flat_map}
use Rattle.std.proofs.Math.Seq.{drop-append_seam}
use Rattle.std.proofs.lemmas.Bool.{eqb-true}
use Rattle.std.proofs.lemmas.Grind.{flat_map-append}
use Rattle.std.proofs.lemmas.List.{length-append, length-replicate, get_or-replicate}
use Rattle.std.proofs.lemmas.List.Elements.{All-head, All-drop}
use Rattle.doc_bits.specs.Number.{u16_at, number_bytes}
use Rattle.doc_bits.proofs.Public.{length-number_bytes, number_at-read_back}
use Rattle.sprm_table.specs.Sprm.{Prl, IsPrl, spelling, SpellsSprmList}
use Rattle.sprm_table.specs.Operands.{size_of, operand_bytes}
use Rattle.fkp_pages.specs.declared.kind.PageKind.TheVariants.{Chpx}
use Rattle.fkp_pages.specs.declared.kind.RunAnswer.{RunAnswer}
use Rattle.fkp_pages.specs.declared.kind.RunAnswer.TheVariants.{Found, Empty, NoRun, BadCount, Leaves}
use Rattle.fkp_pages.specs.Bin.{page_at}
use Rattle.fkp_pages.specs.Fkp.{HasRunAnswer, IsAnswerOf, IsListOf}
use Rattle.fkp_pages.specs.Properties.{IsListAnswered}
use Rattle.page_copies.specs.Names.{names_page, named_flag}
use Rattle.page_copies.proofs.Public.{page_named}
use Rattle.deleted_text.specs.Deletions.{deleted_by, SaysDeleted, LacksCode}
use Rattle.deleted_text.specs.Places.{AreDeletions, IsDeletedAt, IsInPage, AnswersDeleted, SaysNothing}
use Rattle.deleted_text.proofs.PlaceLemmas.{nothing_said}

-- ---- the entry

-- an entry of the code, among the others
pub record HasDeletion (prls : List Prl) : Type 0 where
  pub before : List Prl
  pub entry : Prl
  pub after : List Prl
  pub joined : prls ≡ before ++ entry ∷ after
  pub code : entry.0 ≡ 0x0800

pub deletion_there : (prls : List Prl) → deleted_by false prls ≡ true → HasDeletion prls
deletion_there [] says = absurd (cc says)
deletion_there (prl ∷ prls) says = by_code (prl.0 == 0x0800) refl (λ rest. deletion_there prls rest)
  where
    by_code : (is : Bool) → (prl.0 == 0x0800) ≡ is → (deleted_by false prls ≡ true → HasDeletion prls) →
        HasDeletion (prl ∷ prls)
    by_code true is there =
        record { before = []; entry = prl; after = prls; joined = refl; code = eqb-true prl.0 0x0800 is }
    by_code false is there =
        let rest = there (rw is at says) in
        record {
          before = prl ∷ rest.before;
          entry = rest.entry;
          after = rest.after;
          joined = ap (λ (l : List Prl). prl ∷ l) rest.joined;
          code = rest.code;
        }

-- ---- its word

-- the bytes have the word at a place
record HasWord (bytes : List ℕ) (word : ℕ) : Type 0 where
  at : ℕ
  within : at + 2 ≤ length bytes
  is : u16_at bytes at ≡ word

-- the code of an entry is in the list
code_there : (list : List ℕ) (prls before : List Prl) (entry : Prl) (after : List Prl) → SpellsSprmList list prls →
    prls ≡ before ++ entry ∷ after → HasWord list entry.0
code_there list prls before entry after spelt joined =
    let front = flat_map spelling before in
    let code = number_bytes 2 entry.0 in
    let value = operand_bytes (size_of entry.0) entry.1 in
    let more = flat_map spelling after ++ spelt.rest in
    let entries : All IsPrl (before ++ entry ∷ after) = subst (All IsPrl) joined spelt.entries in
    let back : All IsPrl (entry ∷ after) =
    subst (All IsPrl) (drop-append_seam before (entry ∷ after))
    (All-drop IsPrl (length before) (before ++ entry ∷ after) entries) in
    let first : IsPrl entry = All-head IsPrl entry after back in
    let all : list ≡ front ++ (code ++ (value ++ more)) =
    spelt.spelt
    ∙ (ap (λ (l : List Prl). flat_map spelling l ++ spelt.rest) joined
    ∙ (ap (λ (l : List ℕ). l ++ spelt.rest) (flat_map-append spelling before (entry ∷ after))
    ∙ (append_assoc front (spelling entry ++ flat_map spelling after) spelt.rest
    ∙ ap (λ (l : List ℕ). front ++ l)
    (append_assoc (spelling entry) (flat_map spelling after) spelt.rest ∙ append_assoc code value more)))) in
    record {
      at = length front;
      within = omega (
        arith,
        ap length all,
        length-append front (code ++ (value ++ more)),
        length-append code (value ++ more),
        length-number_bytes 2 entry.0,
      );
      is = ap (λ (l : List ℕ). u16_at l (length front)) all
          ∙ number_at-read_back 2 entry.0 front (value ++ more) first.word;
    }

-- a list without the code says nothing
pub lacks_says : (list : List ℕ) → LacksCode list → SaysDeleted list → ⊥
lacks_says list lacks says =
    let found = deletion_there says.prls says.deleted in
    let word = code_there list says.prls found.before found.entry found.after says.spelt found.joined in
    lacks word.at word.within (word.is ∙ found.code)

-- ---- pages

-- the range of the answer of a run is in the page
pub run_in_page : (page : List ℕ) (run : ℕ) (answer : RunAnswer) → length page ≡ 512 → IsAnswerOf Chpx page run answer →
    IsInPage page answer
run_in_page page run (Found from to) len is =
    let within = is.within in (
      omega (arith, within.room, is.starts, is.ends),
      omega (arith, within.within, is.ends, len),
    )
run_in_page page run Empty len is = tt
run_in_page page run NoRun len is = tt
run_in_page page run BadCount len is = tt
run_in_page page run (Leaves entry) len is = tt

-- where the answer of a run does not say so, neither does its list
pub run_silent : (page : List ℕ) (run : ℕ) (answer : RunAnswer) → IsAnswerOf Chpx page run answer →
    (AnswersDeleted page answer → ⊥) → (from to : ℕ) → IsListOf Chpx page run from to →
    SaysDeleted (slice_range page from to) → ⊥
run_silent page run (Found first last) is none from to list says =
    let begin : from ≡ first = list.starts ∙ sym is.starts in
    let end : to ≡ last = list.ends ∙ sym is.ends in
    none (subst (λ n. SaysDeleted (slice_range page first n)) end
    (subst (λ n. SaysDeleted (slice_range page n to)) begin says))
run_silent page run Empty is none from to list says = list.some is
run_silent page run NoRun is none from to list says = absurd is
run_silent page run BadCount is none from to list says = absurd is
run_silent page run (Leaves entry) is none from to list says = is.beyond list.within

page_silent : (page list : List ℕ) (fc : ℕ) (answer : RunAnswer) → SaysNothing page → HasRunAnswer Chpx page fc answer →
    IsListAnswered Chpx page answer list → SaysDeleted list → ⊥
page_silent page list fc (Found from to) nothing has is says =
    nothing has.0 has.1.run from to has.1.first.below has.1.answers (subst SaysDeleted is says)
page_silent page list fc Empty nothing has is says = nothing_said (subst SaysDeleted is says)
page_silent page list fc NoRun nothing has is says = absurd is
page_silent page list fc BadCount nothing has is says = absurd is
page_silent page list fc (Leaves entry) nothing has is says = absurd is

-- where no page that is named says so, no place is deleted
pub silent_places : (wd bin marks : List ℕ) (count : ℕ) → length wd / 512 ≤ count →
    ((number : ℕ) → number < count → slice_index marks number ≡ named_flag (names_page bin number)) →
    ((number : ℕ) → number < count → slice_index marks number ≡ 1 → SaysNothing (page_at wd number)) →
    (fc : ℕ) → IsDeletedAt wd bin fc → ⊥
silent_places wd bin marks count all marked nothing fc deleted =
    let has = deleted.has in
    let within = has.within in
    let low : has.number < count = omega (arith, within, all) in
    let named = page_named bin fc has.number has.named in
    let mark : slice_index marks has.number ≡ 1 = marked has.number low ∙ ap named_flag named in
    page_silent (page_at wd has.number) deleted.list fc has.answer (nothing has.number low mark) has.answers
    has.answered deleted.says

pub silent_flags : (wd bin places : List ℕ) (flags : List Bool) (n : ℕ) → n ≡ length places → flags ≡ replicate n false →
    ((fc : ℕ) → IsDeletedAt wd bin fc → ⊥) → AreDeletions wd bin places flags
silent_flags wd bin places flags n size are silent =
    let long : length flags ≡ n = ap length are ∙ length-replicate n false in
    record {
      len = long ∙ size;
      each = λ k low.
          let read : slice_index_or flags k false ≡ false =
          ap (λ (l : List Bool). slice_index_or l k false) are
          ∙ get_or-replicate n k false false (omega (arith, low, long)) in
          ((λ t. absurd (cc (sym read ∙ t))), λ is. absurd (silent (slice_index places k) is));
    }
