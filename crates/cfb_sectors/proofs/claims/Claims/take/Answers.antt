use Rattle.std.proofs.Common.{◌≡◌, ◌<◌, ◌∙◌, length, ap, sym, subst, arith}
use Rattle.cfb_sectors.specs.Claims.{TakesSectors}
use Rattle.cfb_sectors.proofs.ClaimLemmas.{take_again, take_free}
use Rattle.cfb_sectors.proofs.claims.Claims.take.Goals as goal

pub returns-then-has-clause-takes : goal.returns-then-has-clause-takes
returns-then-has-clause-takes c =
    let len : length c.self.inside.shared ≡ length c.self.inside.taken = c.self.invariant in
    let view = ap (λ k. length k.taken) c.self.view_is in
    let low : c.args.sector < length c.self.inside.shared = omega (arith, c.requires) in
    subst (λ k. TakesSectors (λ s. s ≡ c.args.sector) k (record {
      taken = c.self.inside.taken;
      shared = c.meet.new.self;
    }))
    c.self.view_is
    (subst (λ m. TakesSectors (λ s. s ≡ c.args.sector)
    (record { taken = c.self.inside.taken; shared = c.self.inside.shared })
    (record { taken = c.self.inside.taken; shared = m })) (sym c.meet.ensures)
    (take_again (record { taken = c.self.inside.taken; shared = c.self.inside.shared }) c.args.sector
    (sym c.has.ensures ∙ c.if-has.true) low))

pub returns-clause-takes : goal.returns-clause-takes
returns-clause-takes c =
    let view = ap (λ k. length k.taken) c.self.view_is in
    let low : c.args.sector < length c.self.inside.taken = omega (arith, c.requires) in
    subst (λ k. TakesSectors (λ s. s ≡ c.args.sector) k (record {
      taken = c.meet-2.new.self;
      shared =
          c.self.inside.shared;
    }))
    c.self.view_is
    (subst (λ m. TakesSectors (λ s. s ≡ c.args.sector)
    (record { taken = c.self.inside.taken; shared = c.self.inside.shared })
    (record { taken = m; shared = c.self.inside.shared })) (sym c.meet-2.ensures)
    (take_free (record { taken = c.self.inside.taken; shared = c.self.inside.shared }) c.args.sector
    (sym c.has.ensures ∙ c.if-has.false) low))
