use Rattle.std.proofs.Common.{◌∙◌, subst}
use Rattle.cfb_streams.specs.StreamRules.{mini_fat_head}
use Rattle.cfb_sectors.specs.Judged.{IsFoundChain}
use Rattle.cfb_sectors.specs.Tables.{table_at}
use Rattle.cfb_streams.proofs.FoundLemmas.{found_mini_fat}
use Rattle.cfb_streams.proofs.parts.find_mini_fat.Goals as goal

pub returns-clause-found : goal.returns-clause-found
returns-clause-found c =
    found_mini_fat c.args.file.now c.in_ok-found.found (λ e. c.if-get32-eq0.false (c.get32.ensures ∙ e))
    (subst (λ t. IsFoundChain (table_at t) (mini_fat_head c.args.file.now) c.in_ok-found.found) c.requires.is_fat
    (subst (λ h. IsFoundChain (table_at c.args.fat.now) h c.in_ok-found.found) c.header_claim-claim.ensures
    c.in_ok-found.ensures.found))
