-- Pages are skipped in one way.
use Rattle.std.specs.Prelude.{slice_range}
use Rattle.std.proofs.Common.{◌≡◌, inl, inr, ℕ, ◌+◌, ◌-◌, ◌*◌, ◌/◌, ◌<◌, ◌≤◌, List, ◌++◌, length, take, drop}
use Rattle.std.proofs.Common.{slice_index, Option, Some, None, sym, ◌∙◌, arith}
use Rattle.std.proofs.lemmas.Bool.{cases_lt, cases_eq}
use Rattle.std.proofs.lemmas.List.{ext_get_or, take-append-drop}
use Rattle.prl_skips.proofs.Public.{byte_of_range, or_one}
use Rattle.fkp_pages.specs.declared.kind.PageKind.{PageKind}
use Rattle.fkp_pages.specs.Fkp.{least_list}
use Rattle.fkp_pages.specs.Bin.{page_at}
use Rattle.page_copies.specs.Places.{IsInNoList}
use Rattle.page_copies.specs.Copies.{SkipsList, IsCopyOf}
use Rattle.page_copies.specs.Pages.{BinTables, IsPageCopy, page_kind, SkipsPage, SkipsPages}

list_one : (kind : PageKind) (old a b : List ℕ) → SkipsList kind old a → SkipsList kind old b → a ≡ b
list_one kind old a b one other =
    let n = least_list kind in
    let head : take n a ≡ take n b = one.istd ∙ sym other.istd in
    let sprms : drop n a ≡ drop n b = or_one (drop n old) (drop n a) (drop n b) one.sprms other.sprms in
    sym (take-append-drop n a) ∙ ((λ i. head i ++ sprms i) ∙ take-append-drop n b)

-- a byte that two copies of a page have not alike would be in no list
copy_byte : (kind : PageKind) (old a b : List ℕ) (i : ℕ) → IsCopyOf kind old a → IsCopyOf kind old b →
    slice_index a i ≡ slice_index b i
copy_byte kind old a b i one other = elim (cases_eq (slice_index a i) (slice_index b i)) [
  | inl same ↦ same
  | inr differ ↦
      let none : IsInNoList kind old i = λ run p low is. elim (cases_lt i p.from) [
        | inl before ↦ inl before
        | inr after ↦ elim (cases_lt i p.to) [
          | inr behind ↦ inr behind
          | inl inside ↦
              let mine = one.lists run p.from p.to low is.list in
              let its = other.lists run p.from p.to low is.list in
              absurd (differ (byte_of_range a b p.from p.to i after inside
              (list_one kind (slice_range old p.from p.to) (slice_range a p.from p.to) (slice_range b p.from p.to)
              mine.1 its.1)))
        ]
      ] in
      one.outside i none ∙ sym (other.outside i none)
]

copy_one : (kind : PageKind) (old a b : List ℕ) → IsPageCopy kind old a → IsPageCopy kind old b → a ≡ b
copy_one kind old a b (inl one) (inl other) =
    ext_get_or 0 a b (one.1.size ∙ sym other.1.size) (λ i low. copy_byte kind old a b i one.1 other.1)
copy_one kind old a b (inl one) (inr stays) = absurd (stays.0 one.0)
copy_one kind old a b (inr stays) (inl other) = absurd (stays.0 other.0)
copy_one kind old a b (inr one) (inr other) = one.1 ∙ sym other.1

page_one : (kind : Option PageKind) (old a b : List ℕ) → SkipsPage kind old a → SkipsPage kind old b → a ≡ b
page_one None old a b one other = one ∙ sym other
page_one (Some kind) old a b one other = copy_one kind old a b one other

-- a byte by its page
byte_of_page : (bins : BinTables) (old a b : List ℕ) (i : ℕ) → SkipsPages bins old a → SkipsPages bins old b →
    slice_index a i ≡ slice_index b i
byte_of_page bins old a b i one other = elim (cases_lt i 1024) [
  | inl first ↦ one.outside i (inl first) ∙ sym (other.outside i (inl first))
  | inr low ↦ elim (cases_lt i (512 * (length old / 512))) [
    | inr last ↦ one.outside i (inr last) ∙ sym (other.outside i (inr last))
    | inl high ↦
        let number = i / 512 in
        let from : 512 * number ≤ i = omega arith in
        let to : i < 512 * number + 512 = omega arith in
        let second : 2 ≤ number = omega (arith, low) in
        let within : 512 * number + 512 ≤ length old = omega (arith, high) in
        byte_of_range a b (512 * number) (512 * number + 512) i from to
        (page_one (page_kind bins number) (page_at old number) (page_at a number) (page_at b number)
        (one.pages number second within) (other.pages number second within))
  ]
]

pub pages_one : (bins : BinTables) (old a b : List ℕ) → SkipsPages bins old a → SkipsPages bins old b → a ≡ b
pages_one bins old a b one other =
    ext_get_or 0 a b (one.len ∙ sym other.len) (λ i low. byte_of_page bins old a b i one other)
