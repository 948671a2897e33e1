-- A list in a page, as it is written and as it is read.
use Rattle.std.proofs.Common.{◌≡◌, ℕ, ◌+◌, ◌-◌, ◌*◌, ◌/◌, ◌%◌, ◌==◌, Bool, true, false, List, [], ◌∷◌, ◌++◌, length}
use Rattle.std.proofs.Common.{take, refl, sym, ap, ◌∙◌, arith, append_assoc, length-append, eq-eqb}
use Rattle.std.specs.Prelude.{slice_index, slice_range, if◌then◌else◌}
use Rattle.std.proofs.lemmas.Bool.{ne_eqb, eqb-true}
use Rattle.std.proofs.lemmas.List.{get_or_at, take_at, drop_at}
use Rattle.fkp_pages.specs.declared.kind.PageKind.{PageKind}
use Rattle.fkp_pages.specs.declared.kind.PageKind.TheVariants.{Chpx, Papx}
use Rattle.fkp_pages.specs.Fkp.{list_from, list_to, spelled_list}

-- the list that is read at the place, and how far what is written reaches
pub record IsListAt (kind : PageKind) (page : List ℕ) (at : ℕ) (list : List ℕ) : Type 0 where
  pub reach : list_to kind page at ≡ at + length (spelled_list kind list)
  pub len : list_from kind page at + length list ≡ list_to kind page at
  pub is : slice_range page (list_from kind page at) (list_to kind page at) ≡ list

-- a part of joined lists
part_of : (front part back : List ℕ) (from to : ℕ) → length front ≡ from → from + length part ≡ to →
    slice_range (front ++ (part ++ back)) from to ≡ part
part_of front part back from to a e =
    let n : to - from ≡ length part = omega arith in
    ap (take (to - from)) (drop_at front (part ++ back) from a) ∙ (ap (λ m. take m (part ++ back)) n ∙ take_at part
    back (length part) refl)

-- the same behind a head
behind_head : (front head list back page : List ℕ) (from to : ℕ) → page ≡ front ++ ((head ++ list) ++ back) →
    length front + length head ≡ from → from + length list ≡ to → slice_range page from to ≡ list
behind_head front head list back page from to p a e =
    let split : page ≡ (front ++ head) ++ (list ++ back) = p ∙ simp append_assoc in
    ap (λ l. slice_range l from to) split ∙ part_of (front ++ head) list back from to (length-append front head ∙ a) e

-- the byte at the place
first_byte : (front rest page : List ℕ) (byte at : ℕ) → page ≡ front ++ byte ∷ rest → length front ≡ at →
    slice_index page at ≡ byte
first_byte front rest page byte at p a = ap (λ l. slice_index l at) p ∙ get_or_at front byte rest 0 at a

odd_list : (front list back page : List ℕ) (at : ℕ) → page ≡ front ++ (((length list + 1) / 2 ∷ list) ++ back) →
    length front ≡ at → length list % 2 ≡ 1 → IsListAt Papx page at list
odd_list front list back page at p a odd =
    let half = (length list + 1) / 2 in
    let byte : slice_index page at ≡ half = first_byte front (list ++ back) page half at p a in
    let test : (slice_index page at == 0) ≡ false = ne_eqb (slice_index page at) 0 (omega arith) in
    let spelled : (length list % 2 == 1) ≡ true = eq-eqb (length list % 2) 1 odd in
    let from : list_from Papx page at ≡ at + 1 = ap (λ b. if b then at + 2 else at + 1) test in
    let to : list_to Papx page at ≡ at + 2 * half = ap (λ b. if b then at + 2 + 2 * slice_index page (at + 1) else at
    + 2 * slice_index page at) test ∙ ap (λ n. at + 2 * n) byte in
    let size : length (spelled_list Papx list) ≡ 1 + length list = ap (λ b. length (if b then half ∷ list else 0 ∷
    (length list / 2 ∷ list))) spelled ∙ omega arith in
    record {
      reach = omega arith;
      len = omega arith;
      is = rw (from, to) (behind_head front (half ∷ []) list back page (at + 1) (at + 2 * half) p (omega arith)
          (omega arith));
    }

even_list : (front list back page : List ℕ) (at : ℕ) → page ≡ front ++ ((0 ∷ (length list / 2 ∷ list)) ++ back) →
    length front ≡ at → (length list % 2 ≡ 1 → ⊥) → IsListAt Papx page at list
even_list front list back page at p a even =
    let half = length list / 2 in
    let byte : slice_index page at ≡ 0 = first_byte front (half ∷ (list ++ back)) page 0 at p a in
    let split : page ≡ (front ++ 0 ∷ []) ++ half ∷ (list ++ back) = p ∙ simp append_assoc in
    let next : slice_index page (at + 1) ≡ half = first_byte (front ++ 0 ∷ []) (list ++ back) page half (at + 1) split
    (length-append front (0 ∷ []) ∙ omega arith) in
    let test : (slice_index page at == 0) ≡ true = eq-eqb (slice_index page at) 0 byte in
    let spelled : (length list % 2 == 1) ≡ false = ne_eqb (length list % 2) 1 even in
    let from : list_from Papx page at ≡ at + 2 = ap (λ b. if b then at + 2 else at + 1) test in
    let to : list_to Papx page at ≡ at + 2 + 2 * half = ap (λ b. if b then at + 2 + 2 * slice_index page (at + 1)
    else at + 2 * slice_index page at) test ∙ ap (λ n. at + 2 + 2 * n) next in
    let size : length (spelled_list Papx list) ≡ 2 + length list = ap (λ b. length (if b then (length list + 1) / 2 ∷
    list else 0 ∷ (half ∷ list))) spelled ∙ omega arith in
    record {
      reach = omega arith;
      len = omega arith;
      is = rw (from, to) (behind_head front (0 ∷ (half ∷ [])) list back page (at + 2) (at + 2 + 2 * half) p
          (omega arith) (omega arith));
    }

chpx_list : (front list back page : List ℕ) (at : ℕ) → page ≡ front ++ ((length list ∷ list) ++ back) →
    length front ≡ at → IsListAt Chpx page at list
chpx_list front list back page at p a =
    let byte : slice_index page at ≡ length list = first_byte front (list ++ back) page (length list) at p a in
    record {
      reach = omega arith;
      len = omega arith;
      is = behind_head front (length list ∷ []) list back page (at + 1) (at + 1 + slice_index page at) p (omega arith)
          (omega arith);
    }

papx_list : (front list back page : List ℕ) (at : ℕ) (odd : Bool) → odd ≡ (length list % 2 == 1) → page ≡ front ++
    ((if odd then (length list + 1) / 2 ∷ list else 0 ∷ (length list / 2 ∷ list)) ++ back) → length front ≡ at →
    IsListAt Papx page at list
papx_list front list back page at true o p a = odd_list front list back page at p a (eqb-true (length list % 2) 1
    (sym o))
papx_list front list back page at false o p a =
    even_list front list back page at p a (λ e. let yes = eq-eqb (length list % 2) 1 e in absurd (cc))

-- a list that is in a page as it is spelled is read there
pub list_at : (kind : PageKind) (front list back page : List ℕ) (at : ℕ) → page ≡ front ++ (spelled_list kind list ++
    back) → length front ≡ at → IsListAt kind page at list
list_at Chpx front list back page at p a = chpx_list front list back page at p a
list_at Papx front list back page at p a = papx_list front list back page at (length list % 2 == 1) refl p a
