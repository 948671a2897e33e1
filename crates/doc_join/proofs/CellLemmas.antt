-- The open cells of texts that are joined, and of texts that are alike.
use Rattle.std.proofs.Common.{◌≡◌, ◌∙◌, refl, sym, ap, ℕ, zero, suc, ◌+◌, ◌<◌, ◌≤◌, List, [], ◌∷◌, ◌++◌, length}
use Rattle.std.proofs.Common.{take, Some, arith, append_assoc}
use Rattle.std.proofs.Math.Seq.{take-length}
use Rattle.std.specs.Prelude.{slice_get}
use Rattle.std.proofs.lemmas.List.{append-nil, take_more}
use Rattle.std.proofs.lemmas.Option.{get_or_from_slice_get}
use Rattle.doc_bits.proofs.Public.{there_is}
use Rattle.doc_model.specs.declared.item.Item.{Item}
use Rattle.plain_doc.specs.Rows.{open_cells, cells_after}
use Rattle.plain_doc.proofs.Public.{open_cells-nil}
use Rattle.doc_columns.proofs.Public.{cells_onto_last}

-- a part of a text with its next item
part_more : (text : List Item) (n : ℕ) (item : Item) → slice_get text n ≡ Some item → n < length text →
    take (suc n) text ≡ take n text ++ item ∷ []
part_more text n item here within =
    let next : suc n ≡ n + 1 = omega arith in
    ap (λ k. take k text) next
    ∙ (take_more text n item within
    ∙ ap (λ (x : Item). take n text ++ x ∷ []) (get_or_from_slice_get text n item item here))

-- where no row is open before, only what comes later is counted
behind_upto : (front text : List Item) (n : ℕ) → open_cells front ≡ 0 → n ≤ length text →
    open_cells (front ++ take n text) ≡ open_cells (take n text)
behind_upto front text zero closed within = ap open_cells (append-nil front) ∙ (closed ∙ sym open_cells-nil)
behind_upto front text (suc n) closed within =
    let found = there_is text n (omega (arith, within)) in
    let item = found.0 in
    let more = part_more text n item found.1 (omega (arith, within)) in
    ap (λ t. open_cells (front ++ t)) more
    ∙ (ap open_cells (sym (append_assoc front (take n text) (item ∷ [])))
    ∙ (cells_onto_last (front ++ take n text) item
    ∙ (ap (λ cells. cells_after cells item) (behind_upto front text n closed (omega (arith, within)))
    ∙ (sym (cells_onto_last (take n text) item) ∙ ap open_cells (sym more)))))

pub cells_behind : (front text : List Item) → open_cells front ≡ 0 → open_cells (front ++ text) ≡ open_cells text
cells_behind front text closed =
    ap (λ t. open_cells (front ++ t)) (sym (take-length text))
    ∙ (behind_upto front text (length text) closed (omega arith) ∙ ap open_cells (take-length text))

-- items that count alike
pub record CountAlike (one other : List Item) : Type 0 where
  pub long : length one ≡ length other
  pub each :
      (i : ℕ) (x y : Item) (cells : ℕ) → slice_get one i ≡ Some x → slice_get other i ≡ Some y →
      cells_after cells x ≡ cells_after cells y

pub alike_upto : (one other : List Item) (n : ℕ) → CountAlike one other → n ≤ length one →
    open_cells (take n one) ≡ open_cells (take n other)
alike_upto one other zero alike within = refl
alike_upto one other (suc n) alike within =
    let same = alike.long in
    let found = there_is one n (omega (arith, within)) in
    let facing = there_is other n (omega (arith, within, same)) in
    let more = part_more one n found.0 found.1 (omega (arith, within)) in
    let second_maps = part_more other n facing.0 facing.1 (omega (arith, within, same)) in
    ap open_cells more
    ∙ (cells_onto_last (take n one) found.0
    ∙ (ap (λ cells. cells_after cells found.0) (alike_upto one other n alike (omega (arith, within)))
    ∙ (alike.each n found.0 facing.0 (open_cells (take n other)) found.1 facing.1
    ∙ (sym (cells_onto_last (take n other) facing.0) ∙ ap open_cells (sym second_maps)))))

pub cells_alike : (one other : List Item) → CountAlike one other → open_cells one ≡ open_cells other
cells_alike one other alike =
    ap open_cells (sym (take-length one))
    ∙ (alike_upto one other (length one) alike (omega arith)
    ∙ (ap (λ n. open_cells (take n other)) alike.long ∙ ap open_cells (take-length other)))
