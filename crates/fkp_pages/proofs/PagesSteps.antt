-- Pages as they are written, page by page.
use Rattle.std.proofs.Common.{◌≡◌, ℕ, ◌+◌, ◌-◌, ◌<◌, ◌≤◌, List, [], ◌∷◌, ◌++◌, length, map, take, drop, get_or, sym}
use Rattle.std.proofs.Common.{ap, ◌∙◌, subst, arith, length-append, length-take, length-drop, add-zero}
use Rattle.std.specs.List.{flat_map}
use Rattle.std.proofs.Math.Seq.{take-add}
use Rattle.std.proofs.lemmas.List.{append-nil, drop-drop, take-take, take_all, map-append, get_or_push, take_rest}
use Rattle.std.proofs.lemmas.List.{get_or-map, get_or-take, get_or-drop}
use Rattle.std.proofs.lemmas.List.Concat.{flat_map-append}
use Rattle.fkp_pages.specs.declared.kind.PageKind.{PageKind}
use Rattle.fkp_pages.specs.declared.lists.Run.{Run}
use Rattle.fkp_pages.specs.Packing.{page_items, IsPacking}
use Rattle.fkp_pages.specs.PageBytes.{FitsPage, page_bytes}
use Rattle.fkp_pages.specs.Pages.{first_fc}
use Rattle.fkp_pages.proofs.PackingLemmas.{IsClosed, packing_none, packing_more}

-- the first runs are on pages, and the last page could not take the next run too
pub record AreFirstPages (kind : PageKind) (runs : List Run) (done : ℕ) (bytes starts : List ℕ) : Type 0 where
  pub within : done ≤ length runs
  pub parts : List (List Run)
  pub packed : IsPacking (FitsPage kind) (take done runs) parts
  pub closed : done < length runs → IsClosed (FitsPage kind) parts (drop done runs)
  pub bytes_are : bytes ≡ flat_map (page_bytes kind) parts
  pub starts_are : starts ≡ map first_fc parts

pub no_pages_yet : (kind : PageKind) (runs : List Run) (bytes starts : List ℕ) → bytes ≡ [] → starts ≡ [] →
    AreFirstPages kind runs 0 bytes starts
no_pages_yet kind runs bytes starts b s = record {
  within = omega arith;
  parts = [];
  packed = packing_none (FitsPage kind);
  closed = λ more. record { full = λ k e fits. absurd (omega arith) };
  bytes_are = b;
  starts_are = s;
}

-- one page more
pub next_page : (kind : PageKind) (runs page : List Run) (done count : ℕ) (bytes starts : List ℕ) → AreFirstPages kind
    runs done bytes starts → page ≡ take count (drop done runs) → 0 < count → count ≤ length (drop done runs) →
    FitsPage kind page → (count < length (drop done runs) → ¬ (FitsPage kind (take (count + 1) (drop done runs)))) →
    AreFirstPages kind runs (done + count) (bytes ++ page_bytes kind page) (starts ++ first_fc page ∷ [])
next_page kind runs page done count bytes starts h e some within fits full =
    let Fits : List Run → Type 0 = FitsPage kind in
    let left = length-drop done runs in
    let len : length page ≡ count = ap length e ∙ omega (arith, length-take count (drop done runs)) in
    let before = h.within in
    let one : take 1 page ≡ take 1 (drop done runs) = ap (take 1) e ∙ take-take 1 count (drop done runs) (omega arith)
    in
    let closed : IsClosed Fits h.parts page = record {
      full = λ k last both. (h.closed (omega arith)).full k last (subst (λ l. Fits (page_items h.parts k ++ l)) one
          both);
    } in
    let joined : take (done + count) runs ≡ take done runs ++ page = take-add done count runs ∙ ap (λ l. take done
    runs ++ l) (sym e) in
    record {
      within = omega arith;
      parts = h.parts ++ page ∷ [];
      packed = rw joined (packing_more Fits (take done runs) h.parts page h.packed closed (omega arith) fits);
      closed = λ more. record {
        full = λ k last both.
            let n : length (h.parts ++ page ∷ []) ≡ length h.parts + 1 = length-append h.parts (page ∷ []) in
            let here : page_items (h.parts ++ page ∷ []) k ≡ page = get_or_push h.parts page [] k (omega arith) in
            let both2 : Fits (page ++ take 1 (drop (done + count) runs)) = subst
            (λ l. Fits (l ++ take 1 (drop (done + count) runs))) here both in
            let all : take (count + 1) (drop done runs) ≡ page ++ take 1 (drop (done + count) runs) =
            take-add count 1 (drop done runs) ∙ (ap (λ l. l ++ take 1 (drop count (drop done runs))) (sym e) ∙ ap
            (λ l. page ++ take 1 l) (drop-drop count done runs)) in
            full (omega arith) (subst Fits (sym all) both2);
      };
      bytes_are = ap (λ l. l ++ page_bytes kind page) h.bytes_are ∙ (ap (λ l. flat_map (page_bytes kind) h.parts ++ l)
          (sym (append-nil (page_bytes kind page))) ∙ sym (flat_map-append (page_bytes kind) h.parts (page ∷ [])));
      starts_are = ap (λ l. l ++ first_fc page ∷ []) h.starts_are ∙ sym (map-append first_fc h.parts (page ∷ []));
    }

-- where the first run of a page begins
first_of_page : (runs : List Run) (done count : ℕ) (run : Run) → 0 < count → done < length runs →
    first_fc (take count (drop done runs)) ≡ (get_or runs done run).from
first_of_page runs done count run some within =
    let len : 0 < length (take count (drop done runs)) = omega (
      arith,
      length-take count (drop done runs),
      length-drop done runs,
    ) in
    let own : get_or (take count (drop done runs)) 0 run ≡ get_or runs done run =
    get_or-take count (drop done runs) 0 run some ∙ (get_or-drop done runs 0 run ∙ ap (λ n. get_or runs n run)
    (add-zero done)) in
    get_or-map (λ x. x.from) (take count (drop done runs)) 0 run 0 len ∙ ap (λ x. x.from) own

-- the same, as it is written
pub next_page_written : (kind : PageKind) (runs rest page : List Run) (done count : ℕ) (bytes starts bytes2 starts2 :
    List ℕ) (run : Run) → AreFirstPages kind runs done bytes starts → done < length runs →
    rest ≡ take (length runs - done) (drop done runs) → page ≡ take (done + count - done) (drop done runs) →
    0 < count → count ≤ length rest → FitsPage kind (take count rest) → (count < length rest →
    ¬ (FitsPage kind (take (count + 1) rest))) → bytes2 ≡ bytes ++ page_bytes kind page → starts2 ≡ starts ++
    (get_or runs done run).from ∷ [] → AreFirstPages kind runs (done + count) bytes2 starts2
next_page_written kind runs rest page done count bytes starts bytes2 starts2 run h within r p some upto fits full b s =
    let Fits : List Run → Type 0 = FitsPage kind in
    let rest_is : rest ≡ drop done runs = r ∙ take_rest runs done in
    let n : done + count - done ≡ count = omega arith in
    let page_is : page ≡ take count (drop done runs) = p ∙ ap (λ m. take m (drop done runs)) n in
    let fits2 : Fits page = subst Fits (ap (take count) rest_is ∙ sym page_is) fits in
    let first : first_fc page ≡ (get_or runs done run).from = ap first_fc page_is ∙ first_of_page runs done count run
    some within in
    let next = next_page kind runs page done count bytes starts h page_is some (subst (λ l. count ≤ length l) rest_is
    upto) fits2 (subst (λ l. count < length l → ¬ (Fits (take (count + 1) l))) rest_is full) in
    let starts_are : starts2 ≡ starts ++ first_fc page ∷ [] = s ∙ ap (λ m. starts ++ m ∷ []) (sym first) in
    rw (b, starts_are) next

-- all pages
pub pages_done : (kind : PageKind) (runs : List Run) (done : ℕ) (bytes starts : List ℕ) (h : AreFirstPages kind runs
    done bytes starts) → length runs ≤ done → IsPacking (FitsPage kind) runs h.parts
pages_done kind runs done bytes starts h all = subst (λ l. IsPacking (FitsPage kind) l h.parts) (take_all done runs
    all) h.packed
