use Rattle.std.proofs.Common.{refl}
use Rattle.code_losses.proofs.TallyLemmas.{listing_again, listing_first}
use Rattle.code_losses.proofs.counts.CodeCounts.meet.Goals as goal

pub returns-then-not-meet-clause-listing : goal.returns-then-not-meet-clause-listing
returns-then-not-meet-clause-listing c = λ lists front value is.
    listing_first c.args.self.now _ lists front c.args.code value c.requires.few refl is c.if-not-meet.ensures refl

pub returns-clause-listing : goal.returns-clause-listing
returns-clause-listing c = λ lists front value is.
    listing_again c.args.self.now _ lists front c.args.code value c.meet-again.result c.requires.few refl is
    c.if-not-meet.ensures c.meet-again.ensures
