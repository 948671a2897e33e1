use Rattle.std.specs.Prelude.{nat_lt, filter}
use Rattle.std.specs.List.{range_with_len}
use Rattle.std.proofs.Common.{◌≡◌, ◌∙◌, ◌+◌, ◌++◌, [], ◌∷◌, List, Bool, true, false, cond, map, sym, ap}
use Rattle.std.proofs.Common.{append-nil, append_assoc, arith}
use Rattle.std.proofs.lemmas.Bool.{lt-ltb, le-ltb}
use Rattle.std.proofs.lemmas.List.FromFn.{filter_of_map_range_with_len_more}
use Rattle.doc_bits.specs.Plc.{plc_cp}
use Rattle.fkp_pages.specs.declared.lists.Bin.{Bin}
use Rattle.fast_save_layout.specs.KeptBins.{bin_of}
use Rattle.fast_save_layout.proofs.kept_bins.keep_bins.Goals as goal
use Rattle.fast_save_layout.proofs.kept_bins.keep_bins.Goals.{then-first-before+in_ok-add, else-first-before}

pub loop-k-preserved : goal.loop-k-preserved
loop-k-preserved c =
    let table = c.args.table.now in
    let before = c.args.before in
    let first_ones = c.args.bins.now in
    let k = c.loop-k.k in
    let p : Bin → Bool = λ bin. nat_lt bin.first before in
    let kept = filter p (map (bin_of table) (range_with_len 0 k)) in
    let own = bin_of table k in
    let first = c.get32-first.ensures in
    let more = filter_of_map_range_with_len_more p (bin_of table) 0 k k (omega arith) in
    elim c.if-first-before.branch [
      | then-first-before+in_ok-add w ↦
          let low = w.if-first-before.true in
          let passes : nat_lt (plc_cp table k) before ≡ true =
          lt-ltb (plc_cp table k) before (omega (arith, first, low)) in
          let added : Bin = record { first = c.get32-first.result; page = w.page_of-page.result } in
          let same : added ≡ own = (λ i. record { first = first i; page = w.page_of-page.ensures i }) in
          let longer : kept ++ added ∷ [] ≡ filter p (map (bin_of table) (range_with_len 0 (k + 1))) =
          ap (λ (bin : Bin). kept ++ bin ∷ []) same
          ∙ (sym (ap (λ b. kept ++ cond b (own ∷ []) []) passes) ∙ sym more) in
          w.bins-is
          ∙ (w.in_ok-add.ensures.ok
          ∙ (ap (λ (bins : List Bin). bins ++ added ∷ []) c.loop-k.invariant
          ∙ (append_assoc first_ones kept (added ∷ []) ∙ ap (λ (bins : List Bin). first_ones ++ bins) longer)))
      | else-first-before w ↦
          let high = w.if-first-before.false in
          let fails : nat_lt (plc_cp table k) before ≡ false =
          le-ltb (plc_cp table k) before (omega (arith, first, high)) in
          w.bins-is
          ∙ (c.loop-k.invariant
          ∙ ap (λ (bins : List Bin). first_ones ++ bins)
          (sym (append-nil kept) ∙ (sym (ap (λ b. kept ++ cond b (own ∷ []) []) fails) ∙ sym more)))
    ]
