use Rattle.std.proofs.Common.{◌≡◌, ◌<◌, ◌≤◌, ◌*◌, inl, inr, sym, ap, ◌∙◌, subst, arith}
use Rattle.std.proofs.lemmas.Bool.{cases_lt, iff_false}
use Rattle.cfb_sectors.specs.SectorChain.{IsFullPath, last_of, end_of_chain}
use Rattle.cfb_sectors.specs.Tables.{table_at}
use Rattle.cfb_sectors.proofs.ChainLemmas.{path_short}
use Rattle.cfb_sectors.proofs.JudgeLemmas.{way_least, holds_none, full_holds}
use Rattle.cfb_sectors.proofs.table.Table.broken_at.Goals as goal
use Rattle.cfb_sectors.proofs.table.Table.broken_at.Goals.{then-entry-via-then-entry}
use Rattle.cfb_sectors.proofs.table.Table.broken_at.Goals.{then-entry-via-else-entry+then-is_less}

pub is_less-requires : goal.is_less-requires
is_less-requires c =
    let e = c.in_ok-end.ensures.end in
    let short = path_short _ _ _ e.sectors e.full.path in
    let count = e.count in omega (arith, c.in_ok-end.ensures.range)

pub returns-then-entry-clause-broken : goal.returns-then-entry-clause-broken
returns-then-entry-clause-broken c =
    let kept = c.in_ok-end.ensures.kept in
    let e = c.in_ok-end.ensures.end in
    let entry : c.entry.result ≡ (table_at c.args.self.now).entry (last_of e.sectors) =
    c.entry.ensures
    ∙ (ap (λ t. (table_at t).entry c.in_ok-end.end.last) kept ∙ ap (table_at c.args.self.now).entry e.last) in
    way_least (table_at c.args.self.now) c.args.claim.now c.place.result (record {
      sectors = e.sectors;
      full = subst (λ h. IsFullPath (table_at c.args.self.now).entry c.args.self.now.valid h.start e.sectors)
          c.claim.view_is e.full;
      wrong = elim c.then-entry.branch [
        | then-entry-via-then-entry w ↦ inl (λ ends. w.if-entry.true (entry ∙ ends))
        | then-entry-via-else-entry+then-is_less w ↦ inr
            (subst (λ n. n * c.args.claim.now.unit < c.args.claim.now.size) e.count
            (w.is_less.ensures.0 w.if-is_less.true))
      ];
      here = c.place.ensures
          ∙ (ap (λ t. (table_at t).place c.in_ok-end.end.last) kept ∙ ap (table_at c.args.self.now).place e.last);
    })

pub returns-clause-broken : goal.returns-clause-broken
returns-clause-broken c =
    let kept = c.in_ok-end.ensures.kept in
    let e = c.in_ok-end.ensures.end in
    let entry : c.entry.result ≡ (table_at c.args.self.now).entry (last_of e.sectors) =
    c.entry.ensures
    ∙ (ap (λ t. (table_at t).entry c.in_ok-end.end.last) kept ∙ ap (table_at c.args.self.now).entry e.last) in
    let range : c.args.self.now.valid ≤ end_of_chain = omega (arith, c.in_ok-end.ensures.range) in
    let full = subst (λ h. IsFullPath (table_at c.args.self.now).entry c.args.self.now.valid h.start e.sectors)
    c.claim.view_is e.full in
    let fewer = iff_false c.is_less.ensures c.if-is_less.false in
    let enough : c.args.claim.now.size ≤ c.in_ok-end.end.count * c.args.claim.now.unit =
    elim (cases_lt (c.in_ok-end.end.count * c.args.claim.now.unit) c.args.claim.now.size) [
      | inl lo ↦ absurd (fewer lo)
      | inr hi ↦ hi
    ] in
    holds_none (table_at c.args.self.now) c.args.claim.now e.sectors
    (full_holds (table_at c.args.self.now) c.args.claim.now e.sectors range full (sym entry ∙ c.if-entry.false)
    (subst (λ n. c.args.claim.now.size ≤ n * c.args.claim.now.unit) e.count enough))
