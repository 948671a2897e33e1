-- A document is mended in one way.
use Rattle.std.proofs.Common.{◌≡◌, ◌∙◌, ap, sym, refl, ℕ, zero, suc, ◌<◌, ◌⊎◌, inl, inr, arith}
use Rattle.std.proofs.Common.{List, [], ◌∷◌, ◌++◌, length, get_or, map}
use Rattle.std.specs.List.{Contains, AllPairs}
use Rattle.std.proofs.lemmas.List.Elements.{All-contains}
use Rattle.std.proofs.lemmas.List.Kept.{AllPairs-from_increasing}
use Rattle.style_sheet.specs.Sheet.{Sheet}
use Rattle.style_sheet.specs.Chain.{HasNoChain}
use Rattle.doc_model.specs.declared.document.Document.{Document}
use Rattle.doc_mends.specs.declared.mends.Mend.{Mend}
use Rattle.doc_mends.specs.declared.mends.Mend.TheVariants.{DropBase}
use Rattle.doc_mends.specs.Bases.{other_bases, bases_dropped, AreEndless, IsDropOf, DropsBases}
use Rattle.doc_mends.specs.Cuts.{references_cut}
use Rattle.doc_mends.specs.Ends.{with_ends}
use Rattle.doc_losses.specs.References.{Names}
use Rattle.doc_mends.specs.Mending.{mended_in_place, mends_in_place, mends_of_texts, MendsAreOne}

-- ---- ascending lists of the same numbers are one

abbrev Rises : List ℕ → Type 0
Rises ns = AllPairs (λ a b. a < b) ns

first : (n : ℕ) (ns : List ℕ) → Contains (n ∷ ns) n
first n ns = (zero, omega arith, refl)

none_in : (n : ℕ) → ¬ (Contains [] n)
none_in n there = let low = there.1 in omega (arith, low)

by_place : (m : ℕ) (ns : List ℕ) (n k : ℕ) → k < length (m ∷ ns) → get_or (m ∷ ns) k n ≡ n → (m ≡ n) ⊎ Contains ns n
by_place m ns n zero low is = inl is
by_place m ns n (suc k) low is = inr (k, omega (arith, low), is)

first_or_later : (m : ℕ) (ns : List ℕ) (n : ℕ) → Contains (m ∷ ns) n → (m ≡ n) ⊎ Contains ns n
first_or_later m ns n there = by_place m ns n there.0 there.1 there.2

later : (m : ℕ) (ns : List ℕ) (n : ℕ) → Contains ns n → Contains (m ∷ ns) n
later m ns n there = let low = there.1 in (suc there.0, omega (arith, low), there.2)

rest_rises : (m : ℕ) (ns : List ℕ) → Rises (m ∷ ns) → Rises ns
rest_rises m ns rises i j d up low = rises (suc i) (suc j) d (omega (arith, up)) (omega (arith, low))

below_later : (m : ℕ) (ns : List ℕ) (n : ℕ) → Rises (m ∷ ns) → Contains ns n → m < n
below_later m ns n rises there =
    let low = there.1 in
    let up : m < get_or ns there.0 n = rises zero (suc there.0) n (omega arith) (omega (arith, low)) in
    omega (arith, up, there.2)

same_first : (m n : ℕ) (ms ns : List ℕ) → Rises (m ∷ ms) → Rises (n ∷ ns) → Contains (n ∷ ns) m →
    Contains (m ∷ ms) n → m ≡ n
same_first m n ms ns rises also into back = elim (first_or_later n ns m into) [
  | inl same ↦ sym same
  | inr behind ↦ elim (first_or_later m ms n back) [
    | inl same ↦ same
    | inr other ↦
        let up = below_later n ns m also behind in
        let down = below_later m ms n rises other in
        absurd (omega (arith, up, down))
  ]
]

-- a later number of one list is a later one of the other, as their first ones are the same
stays_later : (m n : ℕ) (ms ns : List ℕ) → m ≡ n → Rises (m ∷ ms) →
    ((k : ℕ) → Contains (m ∷ ms) k → Contains (n ∷ ns) k) → (k : ℕ) → Contains ms k → Contains ns k
stays_later m n ms ns same rises into k there = elim (first_or_later n ns k (into k (later m ms k there))) [
  | inl here ↦ let up = below_later m ms k rises there in absurd (omega (arith, up, same, here))
  | inr behind ↦ behind
]

same_members : (ms ns : List ℕ) → Rises ms → Rises ns → ((k : ℕ) → Contains ms k → Contains ns k) →
    ((k : ℕ) → Contains ns k → Contains ms k) → ms ≡ ns
same_members [] [] rises also into back = refl
same_members [] (n ∷ ns) rises also into back = absurd (none_in n (back n (first n ns)))
same_members (m ∷ ms) [] rises also into back = absurd (none_in m (into m (first m ms)))
same_members (m ∷ ms) (n ∷ ns) rises also into back =
    let same : m ≡ n = same_first m n ms ns rises also (into m (first m ms)) (back n (first n ns)) in
    ap (λ (k : ℕ). k ∷ ms) same
    ∙ ap (λ (t : List ℕ). n ∷ t) (same_members ms ns (rest_rises m ms rises) (rest_rises n ns also)
    (stays_later m n ms ns same rises into) (stays_later n m ns ms (sym same) also back))

-- ---- bases

endless_within : (sheet : Sheet) (count : ℕ) (one other : List ℕ) → AreEndless sheet count one →
    AreEndless sheet count other → (k : ℕ) → Contains one k → Contains other k
endless_within sheet count one other a b k there =
    b.all k (All-contains (λ (istd : ℕ). istd < count) one k a.below there)
    (All-contains (HasNoChain sheet) one k a.each there)

endless_one : (sheet : Sheet) (count : ℕ) (one other : List ℕ) → AreEndless sheet count one →
    AreEndless sheet count other → one ≡ other
endless_one sheet count one other a b =
    same_members one other (AllPairs-from_increasing one a.ascend) (AllPairs-from_increasing other b.ascend)
    (endless_within sheet count one other a b) (endless_within sheet count other one b a)

drop_one : (sheet : Sheet) (one other : List ℕ) → IsDropOf sheet one → IsDropOf sheet other → one ≡ other
drop_one sheet one other a b =
    a.list
    ∙ (ap (λ (l : List ℕ). other_bases sheet ++ l)
    (endless_one (bases_dropped (other_bases sheet) sheet) (length sheet.styles) a.endless b.endless a.are b.are)
    ∙ sym b.list)

drops_one : (meant one other : Document) (mends others : List Mend) → DropsBases meant one mends →
    DropsBases meant other others → (one ≡ other) × (mends ≡ others)
drops_one meant one other mends others a b =
    let same : a.istds ≡ b.istds = drop_one meant.sheet a.istds b.istds a.drop b.drop in (
      a.document
          ∙ (ap (λ (l : List ℕ). record meant { sheet = bases_dropped l meant.sheet }) same ∙ sym b.document),
      a.named ∙ (ap (λ (l : List ℕ). map DropBase l) same ∙ sym b.named),
    )

-- ---- all mends

abbrev pub mends_after : Names → Document → List Mend
mends_after names based = mends_in_place based ++ mends_of_texts names (mended_in_place based)

pub one_way : MendsAreOne
one_way names meant one other mends others a b =
    let same = drops_one meant a.based b.based a.bases b.bases a.drops b.drops in (
      a.document_is
          ∙ (ap (λ (d : Document). with_ends (references_cut names (mended_in_place d))) same.0
          ∙ sym b.document_is),
      a.mends_are
          ∙ (ap (λ (l : List Mend). l ++ mends_after names a.based) same.1
          ∙ (ap (λ (d : Document). b.bases ++ mends_after names d) same.0 ∙ sym b.mends_are)),
    )
