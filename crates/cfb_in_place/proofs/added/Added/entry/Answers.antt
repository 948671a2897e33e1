use Rattle.std.proofs.Common.{inl, inr, refl, arith}
use Rattle.std.proofs.lemmas.Bool.{false≢true}
use Rattle.cfb_in_place.proofs.EntryLemmas.{entry_last, entry_next}
use Rattle.cfb_in_place.proofs.added.Added.entry.Goals as goal

pub returns-then-is_last : goal.returns-then-is_last
returns-then-is_last c =
    let below = c.if-sector-fat_from.false in
    let fat = c.fat_from.ensures in
    entry_last c.args.self.now c.args.sector c.requires (omega arith) (c.if-is_last.ensures.0 refl)

pub returns : goal.returns
returns c =
    let below = c.if-sector-fat_from.false in
    let fat = c.fat_from.ensures in
    entry_next c.args.self.now c.args.sector c.requires (omega arith)
    (λ one. false≢true (c.if-is_last.ensures.1 (inl one))) (λ other. false≢true (c.if-is_last.ensures.1 (inr other)))
