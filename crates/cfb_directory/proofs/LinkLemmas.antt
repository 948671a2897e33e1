-- The links that are checked, as a list of their places.
use Rattle.std.proofs.Common.{◌≡◌, inl, inr, ℕ, ◌+◌, ◌<◌, ◌≤◌, Option, List, [], ◌∷◌, ◌++◌, length, slice_index, refl}
use Rattle.std.proofs.Common.{sym, ap, ◌∙◌, subst, arith}
use Rattle.std.proofs.lemmas.Bool.{cases_lt, cases_eq}
use Rattle.doc_bits.specs.Number.{u32_at}
use Rattle.doc_bits.specs.Rules.{Among, LeastOrNone}
use Rattle.doc_bits.proofs.Public.{least_same}
use Rattle.cfb_sectors.specs.SectorChain.{HasSector}
use Rattle.cfb_directory.specs.Reach.{entry_place, IsReachedEntry, IsLink, IsNamedBefore, BreaksLink}
use Rattle.cfb_directory.specs.Links.{ListsLinks, IsFirstNamed, IsWrongLinkAt}
use Rattle.cfb_sectors.proofs.Public.{pushed_before, pushed_last, length_pushed}

-- the links of the root's child and of the first entries
pub record IsLinkFront (file directory order : List ℕ) (count : ℕ) (links : List ℕ) : Type 0 where
  pub sound : (i : ℕ) → i < length links → IsLink file directory (slice_index links i)
  pub child : HasSector links (entry_place directory 0 + 76)
  pub lefts : (i : ℕ) → i < count → HasSector links (entry_place directory (slice_index order i) + 68)
  pub rights : (i : ℕ) → i < count → HasSector links (entry_place directory (slice_index order i) + 72)
  pub inside : (i : ℕ) → i < length links → slice_index links i + 4 ≤ length file

-- the links of one entry more
pub front_step : (file directory order links : List ℕ) (n at : ℕ) → IsLinkFront file directory order n links →
    IsReachedEntry file directory (slice_index order n) → at ≡ entry_place directory (slice_index order n) →
    at + 128 ≤ length file → IsLinkFront file directory order (n + 1) ((links ++ (at + 68) ∷ []) ++ (at + 72) ∷ [])
front_step file directory order links n at f reached e low =
    let one = links ++ (at + 68) ∷ [] in
    let len = length_pushed links (at + 68) in
    let len2 = length_pushed (links ++ (at + 68) ∷ []) (at + 72) in
    let two = (links ++ (at + 68) ∷ []) ++ (at + 72) ∷ [] in
    let old : (i : ℕ) → i < length links →
    slice_index ((links ++ (at + 68) ∷ []) ++ (at + 72) ∷ []) i ≡ slice_index links i =
    λ i h. pushed_before (links ++ (at + 68) ∷ []) (at + 72) i (omega arith) ∙ pushed_before links (at + 68) i h in
    let left : (i : ℕ) → i ≡ length links → slice_index ((links ++ (at + 68) ∷ []) ++ (at + 72) ∷ []) i ≡ at + 68 =
    λ i h. pushed_before (links ++ (at + 68) ∷ []) (at + 72) i (omega arith) ∙ pushed_last links (at + 68) i h in
    let right : (i : ℕ) → i ≡ length links + 1 → slice_index ((links ++ (at + 68) ∷ []) ++ (at + 72) ∷ []) i ≡ at + 72 =
    λ i h. pushed_last (links ++ (at + 68) ∷ []) (at + 72) i (omega arith) in
    let has : (k : ℕ) → HasSector links k → HasSector ((links ++ (at + 68) ∷ []) ++ (at + 72) ∷ []) k =
    λ k h. record
    { index = h.index; inside = (let i = h.inside in omega arith); here = old h.index h.inside ∙ h.here } in
    record {
      sound = λ i h. elim (cases_lt i (length links)) [
        | inl lo ↦ subst (IsLink file directory) (sym (old i lo)) (f.sound i lo)
        | inr hi ↦ elim (cases_eq i (length links)) [
          | inl same ↦ subst (IsLink file directory) (sym (left i same))
              (inr (record { entry = slice_index order n; reached = reached; here = inl (ap (λ x. x + 68) e) }))
          | inr other ↦ subst (IsLink file directory) (sym (right i (omega arith)))
              (inr (record { entry = slice_index order n; reached = reached; here = inr (ap (λ x. x + 72) e) }))
        ]
      ];
      child = has (entry_place directory 0 + 76) f.child;
      lefts = λ i h. elim (cases_lt i n) [
        | inl lo ↦ has (entry_place directory (slice_index order i) + 68) (f.lefts i lo)
        | inr hi ↦
            let same : i ≡ n = omega arith in
            record {
              index = length links;
              inside = omega arith;
              here = left (length links) refl
                  ∙ (ap (λ x. x + 68) e ∙ ap (λ k. entry_place directory (slice_index order k) + 68) (sym same));
            }
      ];
      rights = λ i h. elim (cases_lt i n) [
        | inl lo ↦ has (entry_place directory (slice_index order i) + 72) (f.rights i lo)
        | inr hi ↦
            let same : i ≡ n = omega arith in
            record {
              index = length links + 1;
              inside = omega arith;
              here = right (length links + 1) refl
                  ∙ (ap (λ x. x + 72) e ∙ ap (λ k. entry_place directory (slice_index order k) + 72) (sym same));
            }
      ];
      inside = λ i h. elim (cases_lt i (length links)) [
        | inl lo ↦ rw (old i lo) (f.inside i lo)
        | inr hi ↦ elim (cases_eq i (length links)) [
          | inl same ↦ rw (left i same) (omega arith)
          | inr other ↦ rw (right i (omega arith)) (omega arith)
        ]
      ];
    }

-- the least link that names an entry is below a link exactly where some link that names it is
pub first_before : (file directory links first : List ℕ) (link : ℕ) → ListsLinks file directory links →
    IsFirstNamed file links (length links) first → u32_at file link < length first → link + 4 ≤ length file →
    slice_index first (u32_at file link) < link → IsNamedBefore file directory link
first_before file directory links first link lists f there low below =
    let named = f.named (u32_at file link) there (omega arith) in
    record {
      earlier = slice_index first (u32_at file link);
      link = subst (IsLink file directory) named.has.here (lists.sound named.has.index named.has.inside);
      below = below;
      same = named.names;
    }

pub before_first : (file directory links first : List ℕ) (link : ℕ) → ListsLinks file directory links →
    IsFirstNamed file links (length links) first → u32_at file link < length first → IsNamedBefore file directory link →
    slice_index first (u32_at file link) < link
before_first file directory links first link lists f there b =
    let has = lists.complete b.earlier b.link in
    let names : u32_at file (slice_index links has.index) ≡ u32_at file link = ap (u32_at file) has.here ∙ b.same in
    let least = f.least has.index has.inside (rw names there) in
    let same : slice_index first (u32_at file (slice_index links has.index)) ≡ slice_index first (u32_at file link) =
    ap (λ k. slice_index first k) names in
    let here = has.here in
    let below = b.below in omega arith

-- the least place of all listed links is that of all links
pub links_least : (file directory links : List ℕ) (o : Option ℕ) → ListsLinks file directory links →
    LeastOrNone (Among (length links) (λ i. IsWrongLinkAt file directory (slice_index links i))) o →
    LeastOrNone (BreaksLink file directory) o
links_least file directory links o lists =
    least_same (Among (length links) (λ i. IsWrongLinkAt file directory (slice_index links i))) (BreaksLink file
    directory)
    o
    (λ p w. record {
      link = subst (IsLink file directory) (sym w.broken.here) (lists.sound w.entry w.below);
      wrong =
          w.broken.wrong;
    })
    (λ p w. let has = lists.complete p w.link in record
    { entry = has.index; below = has.inside; broken = record { here = sym has.here; wrong = w.wrong } })
