use Rattle.std.proofs.Common.{refl, subst}
use Rattle.page_copies.specs.Places.{StandApart}
use Rattle.page_copies.proofs.PlaceLemmas.{place_one}
use Rattle.page_copies.proofs.places.is_apart_from.Goals as goal

pub returns-in-Some : goal.returns-in-Some
returns-in-Some c = (
  λ apart other is. subst (λ q. StandApart c.args.place q)
      (place_one c.args.kind c.args.page.now c.args.run c.in-Some.other other c.in-Some.ensures is)
      (c.stand_apart.ensures.0 apart),
  λ apart. c.stand_apart.ensures.1 (apart c.in-Some.other c.in-Some.ensures),
)

pub returns-in-None : goal.returns-in-None
returns-in-None c = (λ apart other is. absurd (c.in-None.ensures other.from other.to is.list), λ apart. refl)
