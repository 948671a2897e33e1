use Rattle.std.proofs.Common.{◌∙◌, subst}
use Rattle.std.proofs.lemmas.Bool.{iff_false}
use Rattle.cfb_directory.specs.Reach.{directory_head}
use Rattle.cfb_sectors.specs.Judged.{IsFoundChain}
use Rattle.cfb_sectors.specs.Tables.{table_at}
use Rattle.cfb_streams.proofs.FoundLemmas.{found_directory}
use Rattle.cfb_streams.proofs.parts.find_directory.Goals as goal

pub returns-clause-found : goal.returns-clause-found
returns-clause-found c =
    found_directory c.args.file.now c.in_ok-found.found (iff_false c.in_ok-long.ensures.long c.if-long.false)
    (subst (λ t. IsFoundChain (table_at t) (directory_head c.args.file.now) c.in_ok-found.found)
    (c.in_ok-long.ensures.kept ∙ c.requires.is_fat)
    (subst (λ h. IsFoundChain (table_at c.is_long_directory.new.fat) h c.in_ok-found.found) c.header_claim-claim.ensures
    c.in_ok-found.ensures.found))
