-- The order of places, and the least place of a rule of two parts.
use Rattle.std.proofs.Common.{◌≡◌, ◌∙◌, ◌⊎◌, inl, inr, refl, sym, ap, ℕ, zero, suc, ◌<◌, ◌≤◌, Option, Some, None, arith}
use Rattle.doc_bits.specs.declared.places.Where.{Where}
use Rattle.doc_bits.specs.declared.places.Where.TheVariants.{File, Wd, Table, Sheet, Main, Note, Head}
use Rattle.doc_bits.specs.Rules.{Nowhere, IsLeast}
use Rattle.doc_bits.specs.Places.{Place, rank, inner, Upto, LeastPlaceOrNone}

-- a place of a part that comes before
pub upto_later : (p q : Place) → rank p.0 < rank q.0 → Upto p q
upto_later p q h = record {
  part = omega arith;
  number = λ e. absurd (omega arith);
  offset = λ e f. absurd (omega
      arith);
}

-- in one part the lesser offset comes first
pub upto_same : (p q : Place) → p.0 ≡ q.0 → p.1 ≤ q.1 → Upto p q
upto_same p q e h =
    let f : rank p.0 ≡ rank q.0 = ap rank e in
    let g : inner p.0 ≡ inner q.0 = ap inner e in
    record { part = omega arith; number = λ _. omega arith; offset = λ _ _. h }

-- of two notes or header texts, the one with the lesser number comes first
pub upto_next : (p q : Place) → rank p.0 ≡ rank q.0 → inner p.0 < inner q.0 → Upto p q
upto_next p q e h = record { part = omega arith; number = λ _. omega arith; offset = λ _ f. absurd (omega arith) }

-- the kind of place of a rank and a number
where_of : ℕ → ℕ → Where
where_of zero k = File
where_of (suc zero) k = Wd
where_of (suc (suc zero)) k = Table
where_of (suc (suc (suc zero))) k = Sheet
where_of (suc (suc (suc (suc zero)))) k = Main
where_of (suc (suc (suc (suc (suc zero))))) k = Note k
where_of (suc (suc (suc (suc (suc (suc n)))))) k = Head k

where_back : (part : Where) → where_of (rank part) (inner part) ≡ part
unfolding where_of
where_back File = refl
where_back Wd = refl
where_back Table = refl
where_back Sheet = refl
where_back Main = refl
where_back (Note k) = refl
where_back (Head k) = refl

-- two places of which each is the other or comes before it are one
pub place_one : (p q : Place) → Upto p q → Upto q p → p ≡ q
place_one p q a b =
    let pa = a.part in
    let pb = b.part in
    let ranks : rank p.0 ≡ rank q.0 = omega arith in
    let na = a.number ranks in
    let nb = b.number (sym ranks) in
    let inners : inner p.0 ≡ inner q.0 = omega arith in
    let oa = a.offset ranks inners in
    let ob = b.offset (sym ranks) (sym inners) in
    let offsets : p.1 ≡ q.1 = omega arith in
    let same : where_of (rank p.0) (inner p.0) ≡ where_of (rank q.0) (inner q.0) =
    ap (λ r. where_of r (inner p.0)) ranks ∙ ap (λ k. where_of (rank q.0) k) inners in
    let parts : p.0 ≡ q.0 = sym (where_back p.0) ∙ (same ∙ where_back q.0) in
    λ i. (parts i, offsets i)

-- of two parts of a rule, the first comes first
pub least_first : (A B : Place → Type 0) (p : Place) → IsLeast Upto A p → ((q : Place) → B q → Upto p q) →
    IsLeast Upto (λ q. A q ⊎ B q) p
least_first A B p first later = record {
  broken = inl first.broken;
  least = λ q w. elim w [ inl a ↦ first.least q a | inr b ↦ later q b ];
}

-- where the first holds, it is the second
pub least_second : (A B : Place → Type 0) (o : Option Place) → Nowhere A → LeastPlaceOrNone B o → LeastPlaceOrNone
    (λ q. A q ⊎ B q) o
least_second A B None none second = λ q w. elim w [ inl a ↦ none q a | inr b ↦ second q b ]
least_second A B (Some p) none second = record {
  broken = inr second.broken;
  least = λ q w. elim w [ inl a ↦ absurd (none q a) | inr b ↦ second.least q b ];
}

-- two ways to say one rule
pub same_places : (A B : Place → Type 0) (o : Option Place) → ((q : Place) → A q → B q) → ((q : Place) → B q → A q) →
    LeastPlaceOrNone A o → LeastPlaceOrNone B o
same_places A B None to from h = λ q b. h q (from q b)
same_places A B (Some p) to from h = record { broken = to p h.broken; least = λ q b. h.least q (from q b) }
