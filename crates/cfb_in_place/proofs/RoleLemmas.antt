-- Sectors that are given to a part.
use Rattle.std.proofs.Common.{◌≡◌, ◌≢◌, ◌⊎◌, inl, inr, ℕ, suc, ◌+◌, ◌<◌, List, [], ◌∷◌, ◌++◌, Some, length, take}
use Rattle.std.proofs.Common.{drop, replicate, slice_index, slice_get, slice_set, refl, sym, ap, ◌∙◌, subst, arith}
use Rattle.std.proofs.Common.{length-take, length-set}
use Rattle.std.specs.List.{range_with_len}
use Rattle.std.proofs.lemmas.Bool.{cases_lt, cases_eq}
use Rattle.std.proofs.lemmas.List.{get_or-take, append_assoc, get_or-replicate}
use Rattle.std.proofs.lemmas.List.{length-replicate}
use Rattle.std.proofs.Math.Seq.{take-append_seam}
use Rattle.std.proofs.lemmas.Option.{slice_get_within, get_or_from_slice_get}
use Rattle.cfb_sectors.specs.SectorChain.{HasSector}
use Rattle.cfb_layout.proofs.Public.{range_more}
use Rattle.cfb_in_place.specs.declared.roles.Part.{Part}
use Rattle.cfb_in_place.specs.declared.roles.Part.TheVariants.{Fat, MiniFat, Directory, Grown, Fresh}
use Rattle.cfb_in_place.specs.declared.roles.Role.{Role}
use Rattle.cfb_in_place.specs.Roles.{AreGiven, PartSectors, IsSectorAt, IsOfPart, AreRoles, other_role}
use Rattle.cfb_in_place.proofs.PickLemmas.{place_in, place_there, place_has}
use Rattle.doc_bits.proofs.Public.{set_here, set_other}

pub given_none : (old : List Role) (sectors : List ℕ) (part : Part) → AreGiven old old (take 0 sectors) part
given_none old sectors part = record {
  len = refl;
  there = λ i h. absurd (let len = length-take 0 sectors in omega arith);
  kept = λ s none. refl;
}

pub given_step : (old mid : List Role) (sectors : List ℕ) (part : Part) (k : ℕ) → AreGiven old mid (take k sectors) part
    → k < length sectors → slice_index sectors k < length old → ((i j : ℕ) → i < j → j < length sectors →
    slice_index sectors i ≢ slice_index sectors j) → AreGiven old (slice_set mid (slice_index sectors k) (record {
      part = part;
      index = k;
    })) (take (k + 1) sectors) part
given_step old mid sectors part k is low inside distinct =
    let at = slice_index sectors k in
    let role : Role = record { part = part; index = k } in
    let len = is.len in
    let less = length-take k sectors in
    let more = length-take (k + 1) sectors in
    let value : (i : ℕ) → i < k + 1 → slice_index (take (k + 1) sectors) i ≡ slice_index sectors i = λ i h.
    get_or-take (k + 1) sectors i 0 h in
    let front : (i : ℕ) → i < k → slice_index (take k sectors) i ≡ slice_index sectors i = λ i h. get_or-take k
    sectors i 0 h in
    record {
      len = length-set mid at role ∙ is.len;
      there = λ i h. elim (cases_eq i k) [
        | inl e ↦
            let place : slice_index (take (k + 1) sectors) i ≡ at = value i (omega arith) ∙ ap (λ n. slice_index
            sectors n) e in
            ap (λ s. slice_get (slice_set mid at role) s) place
            ∙ (set_here mid at role (omega arith)
            ∙ ap (λ n. Some (record { part = part; index = n })) (sym e))
        | inr other ↦
            let place : slice_index (take (k + 1) sectors) i ≡ slice_index sectors i = value i (omega arith) in
            let before : i < k = omega arith in
            ap (λ s. slice_get (slice_set mid at role) s) place
            ∙ (set_other mid at (slice_index sectors i) role (distinct i k before low)
            ∙ (ap (λ s. slice_get mid s) (sym (front i before)) ∙ is.there i (omega arith)))
      ];
      kept = λ s none.
          set_other mid at s role (λ e. none (record {
            index = k;
            inside = omega arith;
            here = value k (omega arith) ∙ sym e;
          }))
          ∙ is.kept s (λ has. let inside2 = has.inside in none (record {
            index = has.index;
            inside = omega arith;
            here = value has.index (omega arith) ∙ (sym (front has.index (omega arith)) ∙ has.here);
          }));
    }

-- one number more of a row
pub row_more : (front numbers new : List ℕ) (from at n end : ℕ) → numbers ≡ front ++ range_with_len from n → new ≡
    numbers ++ at ∷ [] → at ≡ from + n → end ≡ n + 1 → new ≡ front ++ range_with_len from end
row_more front numbers new from at n end a b here last =
    let one : suc n ≡ end = omega arith in
    b ∙ (ap (λ xs. xs ++ at ∷ []) a
    ∙ (append_assoc front (range_with_len from n) (at ∷ [])
    ∙ (ap (λ k. front ++ (range_with_len from n ++ k ∷ [])) here
    ∙ (ap (λ xs. front ++ xs) (sym (range_more from n)) ∙ ap (λ m. front ++ range_with_len from m) one))))

-- a sector's role: that of the part, or the one it had
given_role : (old new : List Role) (sectors : List ℕ) (part : Part) (s : ℕ) (role : Role) → AreGiven old new sectors
    part → slice_get new s ≡ Some role → (IsSectorAt sectors s role.index × (role.part ≡ part)) ⊎ ((¬ HasSector sectors
    s) × (slice_get old s ≡ Some role))
given_role old new sectors part s role is here = elim (cases_lt (place_in sectors s) (length sectors)) [
  | inl low ↦
      let at = place_there sectors s low in
      let there : slice_get new s ≡ Some (record { part = part; index = place_in sectors s }) = ap (λ k. slice_get new
      k) (sym at) ∙ is.there (place_in sectors s) low in
      let same : role ≡ record { part = part; index = place_in sectors s } = cc in
      let index : place_in sectors s ≡ role.index = sym (ap (λ (r : Role). r.index) same) in
      inl (
        subst (λ i. IsSectorAt sectors s i) index (record { inside = low; here = at }),
        ap (λ (r : Role). r.part) same,
      )
  | inr high ↦
      let none : ¬ HasSector sectors s = λ has. (let more = place_has sectors s has.index has.inside has.here in omega
      arith) in
      inr (none, sym (is.kept s none) ∙ here)
]

-- a role of sectors that no part has
no_role : (count s : ℕ) (role : Role) → slice_get (replicate count other_role) s ≡ Some role → role ≡ other_role
no_role count s role here =
    let low = slice_get_within (replicate count other_role) s role here in
    let len = length-replicate count other_role in
    sym (get_or_from_slice_get (replicate count other_role) s role other_role here) ∙ get_or-replicate count s
    other_role other_role (omega arith)

-- whose each sector is, where each part was given its sectors
pub roles_are : (sectors : PartSectors) (one two three four five six : List Role) → one ≡ replicate (length one)
    other_role → AreGiven one two sectors.fresh Fresh → AreGiven two three sectors.grown Grown → AreGiven three four
    sectors.entries Directory → AreGiven four five sectors.minis MiniFat → AreGiven five six sectors.fats Fat →
    AreRoles (length one) sectors six
roles_are sectors one two three four five six none a b c d e = record {
  len = e.len ∙ (d.len ∙ (c.len ∙ (b.len ∙ a.len)));
  each = λ s role here. elim (given_role five six sectors.fats Fat s role e here) [
    | inl is ↦ subst (λ part. IsOfPart sectors s role.index part) (sym is.1) is.0
    | inr fat ↦ elim (given_role four five sectors.minis MiniFat s role d fat.1) [
      | inl is ↦ subst (λ part. IsOfPart sectors s role.index part) (sym is.1) is.0
      | inr mini ↦ elim (given_role three four sectors.entries Directory s role c mini.1) [
        | inl is ↦ subst (λ part. IsOfPart sectors s role.index part) (sym is.1) is.0
        | inr entry ↦ elim (given_role two three sectors.grown Grown s role b entry.1) [
          | inl is ↦ subst (λ part. IsOfPart sectors s role.index part) (sym is.1) is.0
          | inr grown ↦ elim (given_role one two sectors.fresh Fresh s role a grown.1) [
            | inl is ↦ subst (λ part. IsOfPart sectors s role.index part) (sym is.1) is.0
            | inr fresh ↦
                let first : slice_get (replicate (length one) other_role) s ≡ Some role = ap (λ rs. slice_get rs s)
                (sym none) ∙ fresh.1 in
                subst (λ (r : Role). IsOfPart sectors s r.index r.part) (sym (no_role (length one) s role first))
                (record {
                  fats = fat.0;
                  minis = mini.0;
                  entries = entry.0;
                  grown = grown.0;
                  fresh = fresh.0;
                })
          ]
        ]
      ]
    ]
  ];
}

-- what is lent comes back whole
pub lent_back : (len : ℕ) (new old : List Role) → length new ≡ len → take len (new ++ drop (length new) old) ≡ new
lent_back len new old e =
    ap (λ n. take n (new ++ drop (length new) old)) (sym e) ∙ take-append_seam new (drop (length new) old)
