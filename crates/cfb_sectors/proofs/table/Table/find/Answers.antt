use Rattle.std.proofs.Common.{◌≡◌, ◌<◌, ◌*◌, inl, inr, ap, ◌∙◌, subst}
use Rattle.cfb_sectors.specs.SectorChain.{IsFullPath, last_of}
use Rattle.cfb_sectors.specs.Tables.{table_at}
use Rattle.cfb_sectors.proofs.JudgeLemmas.{way_least}
use Rattle.cfb_sectors.proofs.table.Table.find.Goals as goal
use Rattle.cfb_sectors.proofs.table.Table.find.Goals.{then-entry-via-then-entry}
use Rattle.cfb_sectors.proofs.table.Table.find.Goals.{then-entry-via-else-entry+then-is_less}

pub returns-then-entry-clause-found : goal.returns-then-entry-clause-found
returns-then-entry-clause-found c =
    let kept = c.in_ok-path.ensures.kept in
    let last : c.last_sector-last.result ≡ last_of c.in_ok-path.path.items = c.last_sector-last.ensures ∙ ap last_of
    c.deref.ensures.value in
    let entry : c.entry.result ≡ (table_at c.args.self.now).entry (last_of c.in_ok-path.path.items) =
    c.entry.ensures
    ∙ (ap (λ t. (table_at t).entry c.last_sector-last.result) kept ∙ ap (table_at c.args.self.now).entry last) in
    way_least (table_at c.args.self.now) c.args.claim.now c.place.result (record {
      sectors = c.in_ok-path.path.items;
      full = subst
          (λ h. IsFullPath (table_at c.args.self.now).entry c.args.self.now.valid h.start c.in_ok-path.path.items)
          c.claim.view_is c.in_ok-path.ensures.path;
      wrong = elim c.then-entry.branch [
        | then-entry-via-then-entry w ↦ inl (λ e. w.if-entry.true (entry ∙ e))
        | then-entry-via-else-entry+then-is_less w ↦ inr
            (subst (λ n. n * c.args.claim.now.unit < c.args.claim.now.size) (w.len.ensures ∙ c.in_ok-path.path.ok.0)
            (w.is_less.ensures.0 w.if-is_less.true))
      ];
      here = c.place.ensures
          ∙ (ap (λ t. (table_at t).place c.last_sector-last.result) kept ∙ ap (table_at c.args.self.now).place last);
    })
