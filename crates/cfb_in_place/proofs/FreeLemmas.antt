-- Entries that are freed one after another.
use Rattle.std.proofs.Common.{◌≡◌, inl, inr, ℕ, ◌+◌, ◌<◌, List, length, take, slice_index, slice_set}
use Rattle.std.proofs.Common.{refl, sym, ap, ◌∙◌, arith, length-take, length-set}
use Rattle.std.proofs.lemmas.Bool.{cases_eq}
use Rattle.std.proofs.lemmas.List.{get_or-take, get_or-set_same, get_or-set_other}
use Rattle.cfb_layout.specs.Sectors.{free_sector}
use Rattle.cfb_in_place.specs.Tables.{AreFreed}

pub freed_none : (old freed : List ℕ) → AreFreed old old (take 0 freed)
freed_none old freed = record {
  len = refl;
  free = λ s has. absurd (let inside = has.inside in let len = length-take 0 freed in omega arith);
  kept = λ s none. refl;
}

pub freed_step : (old mid freed : List ℕ) (k : ℕ) → AreFreed old mid (take k freed) → k < length freed → slice_index
    freed k < length old → AreFreed old (slice_set mid (slice_index freed k) free_sector) (take (k + 1) freed)
freed_step old mid freed k is low inside =
    let at = slice_index freed k in
    let len = is.len in
    let less = length-take k freed in
    let more = length-take (k + 1) freed in
    let value : (i : ℕ) → i < k + 1 → slice_index (take (k + 1) freed) i ≡ slice_index freed i = λ i h. get_or-take
    (k + 1) freed i 0 h in
    record {
      len = length-set mid at free_sector ∙ is.len;
      free = λ s has. elim (cases_eq s at) [
        | inl e ↦ ap (λ x. slice_index (slice_set mid at free_sector) x) e ∙ get_or-set_same mid at free_sector 0
            (omega arith)
        | inr other ↦
            let index = has.index in
            let low2 = has.inside in
            let here = sym (value has.index (omega arith)) ∙ has.here in
            let before : index < k = elim (cases_eq index k) [
              | inl last ↦ absurd (other (sym here ∙ ap (λ n. slice_index freed n) last))
              | inr less2 ↦ omega arith
            ] in
            get_or-set_other mid at s free_sector 0 other
            ∙ is.free s (record {
              index = index;
              inside = omega arith;
              here = get_or-take k freed index 0 before ∙ here;
            })
      ];
      kept = λ s none.
          get_or-set_other mid at s free_sector 0 (λ e. none (record {
            index = k;
            inside = omega arith;
            here = value k (omega arith) ∙ sym e;
          }))
          ∙ is.kept s (λ has. let inside2 = has.inside in none (record {
            index = has.index;
            inside = omega arith;
            here = value has.index (omega arith) ∙ (sym (get_or-take k freed has.index 0 (omega arith)) ∙ has.here);
          }));
    }
