use Rattle.std.proofs.Common.{◌∙◌, ◌∷◌, ◌++◌, [], List, ℕ, Option, Some, sym, ap}
use Rattle.doc_parts.specs.declared.lists.Sed.{Sed}
use Rattle.fast_save.proofs.StartLemmas.{placed_more}
use Rattle.fast_save.proofs.parts.places_of.Goals as goal

pub loop-k-preserved : goal.loop-k-preserved
loop-k-preserved c =
    let sepx = c.get-sepx.result.1 in
    let sed : Sed = record { start = c.get-sepx.result.0; sepx = sepx } in
    let more = placed_more c.args.seds.now c.loop-k.k sed c.get-sepx.ensures in
    c.in_ok-push.ensures.items
    ∙ (ap (λ (places : List (Option ℕ)). places ++ Some sepx ∷ []) c.loop-k.invariant ∙ sym more)
