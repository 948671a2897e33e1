use Rattle.std.proofs.Common.{length, slice_index, sym, ap, ◌∙◌, subst}
use Rattle.cfb_sectors.specs.Ends.{IsKnownEndAt, with_known_end, before, Remembers}
use Rattle.cfb_sectors.proofs.EndLemmas.{end_few, end_step, put_step, before_some, kept_known, put_known, not_known}
use Rattle.cfb_sectors.proofs.EndLemmas.{is_known}
use Rattle.cfb_sectors.proofs.ends.note.Goals as goal

pub returns-then-is_some-clause-known : goal.returns-then-is_some-clause-known
returns-then-is_some-clause-known c = is_known c.args.ends.now c.args.sector c.get.result c.get.ensures
    (sym c.is_some.ensures ∙ c.if-is_some.true)

pub end_before-requires : goal.end_before-requires
end_before-requires c = end_few (λ s. slice_index c.args.entries.now s) (length c.args.ends.now.counts) c.args.ends.now
    (slice_index c.args.entries.now c.args.sector) c.get-rest.result c.requires.remembers c.requires.few
    c.get-rest.ensures

pub returns-clause-remembers : goal.returns-clause-remembers
returns-clause-remembers c =
    let new = not_known c.args.ends.now c.args.sector c.get.result c.get.ensures
    (sym c.is_some.ensures ∙ c.if-is_some.false) in
    subst (Remembers (λ s. slice_index c.args.entries.now s) (length c.args.ends.now.counts))
    (sym (c.put.ensures ∙ ap (with_known_end c.args.ends.now c.args.sector) c.end_before.ensures))
    (put_step (λ s. slice_index c.args.entries.now s) (length c.args.ends.now.counts) c.args.ends.now c.args.sector
    (before c.args.sector c.get-rest.result) c.requires.remembers c.requires.inside c.requires.goes_on
    (before_some c.args.sector c.get-rest.result)
    (end_step (λ s. slice_index c.args.entries.now s) (length c.args.ends.now.counts) c.args.ends.now c.args.sector
    c.get-rest.result c.requires.remembers c.requires.inside new c.requires.goes_on c.get-rest.ensures))

pub returns-clause-kept : goal.returns-clause-kept
returns-clause-kept c = λ t h.
    subst (λ k. IsKnownEndAt k t)
    (sym (c.put.ensures ∙ ap (with_known_end c.args.ends.now c.args.sector) c.end_before.ensures))
    (kept_known c.args.ends.now c.args.sector t (before c.args.sector c.get-rest.result) c.requires.inside
    (before_some c.args.sector c.get-rest.result) h)

pub returns-clause-known : goal.returns-clause-known
returns-clause-known c =
    subst (λ k. IsKnownEndAt k c.args.sector)
    (sym (c.put.ensures ∙ ap (with_known_end c.args.ends.now c.args.sector) c.end_before.ensures))
    (put_known c.args.ends.now c.args.sector (before c.args.sector c.get-rest.result) c.requires.inside
    (before_some c.args.sector c.get-rest.result))
