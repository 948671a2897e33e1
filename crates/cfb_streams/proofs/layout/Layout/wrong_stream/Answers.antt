use Rattle.std.proofs.Common.{subst}
use Rattle.doc_bits.specs.Rules.{LeastOrNone}
use Rattle.cfb_sectors.specs.Chain.{fat_table, BreaksChain}
use Rattle.cfb_streams.specs.StreamRules.{IsWrongStream, mini_table_of}
use Rattle.cfb_sectors.specs.Tables.{table_at}
use Rattle.cfb_streams.proofs.FoundLemmas.{short_wrong, long_wrong}
use Rattle.cfb_streams.proofs.layout.Layout.wrong_stream.Goals as goal

pub returns-in_ok-wrong-in-Short-clause-least : goal.returns-in_ok-wrong-in-Short-clause-least
returns-in_ok-wrong-in-Short-clause-least c =
    subst
    (λ p. LeastOrNone (IsWrongStream p.file p.parts.directory p.parts.mini_fat c.args.entry)
    c.in_ok-wrong-in-Short.wrong) c.self.view_is
    (short_wrong c.self.inside.entries.file c.self.inside.entries.directory c.self.inside.mini.sectors c.args.entry
    c.in_ok-wrong-in-Short.wrong c.in-Short.ensures.0
    (subst (λ h. LeastOrNone (BreaksChain
    (mini_table_of c.self.inside.entries.file c.self.inside.entries.directory c.self.inside.mini.sectors) h)
    c.in_ok-wrong-in-Short.wrong) c.in-Short.ensures.1
    (subst (λ t. LeastOrNone (BreaksChain (table_at t) c.in-Short.claim) c.in_ok-wrong-in-Short.wrong)
    c.self.invariant.is_mini c.in_ok-wrong-in-Short.ensures.broken)))

pub returns-in_ok-wrong-in-Long-clause-least : goal.returns-in_ok-wrong-in-Long-clause-least
returns-in_ok-wrong-in-Long-clause-least c =
    subst
    (λ p. LeastOrNone (IsWrongStream p.file p.parts.directory p.parts.mini_fat c.args.entry)
    c.in_ok-wrong-in-Long.wrong) c.self.view_is
    (long_wrong c.self.inside.entries.file c.self.inside.entries.directory c.self.inside.mini.sectors c.args.entry
    c.in_ok-wrong-in-Long.wrong c.in-Long.ensures.0
    (subst (λ h. LeastOrNone (BreaksChain (fat_table c.self.inside.entries.file) h) c.in_ok-wrong-in-Long.wrong)
    c.in-Long.ensures.1
    (subst (λ t. LeastOrNone (BreaksChain (table_at t) c.in-Long.claim) c.in_ok-wrong-in-Long.wrong)
    c.self.invariant.is_fat c.in_ok-wrong-in-Long.ensures.broken)))
