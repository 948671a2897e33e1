use Rattle.std.proofs.Common.{◌∙◌, ap, subst, sym, List, ℕ, arith}
use Rattle.fkp_pages.specs.declared.kind.PageKind.TheVariants.{Papx}
use Rattle.fkp_pages.specs.Bin.{IsBinTable}
use Rattle.fkp_pages.specs.Runs.{AreRuns}
use Rattle.save_laws.specs.SharedPages.{pages_taken}
use Rattle.fast_save_layout.specs.AddedPages.{paragraph_bins}
use Rattle.fast_save_layout.specs.MarkRuns.{mark_runs}
use Rattle.fast_save_layout.proofs.AddedRuns.{writable_items, characters_right, marks_right}
use Rattle.fast_save_layout.proofs.counted.added_pages.Goals as goal

pub character_pages-requires-clause-runs : goal.character_pages-requires-clause-runs
character_pages-requires-clause-runs c =
    let base = c.args.text.now.base in
    let items = c.args.text.now.added.now in
    let writable = writable_items items c.len-len.ensures.formed c.requires.text.short in
    characters_right base items writable c.requires.text.small

pub paragraph_pages-requires-clause-table : goal.paragraph_pages-requires-clause-table
paragraph_pages-requires-clause-table c =
    subst IsBinTable (sym (c.old_part-table.ensures ∙ c.requires.file.named)) c.requires.file.table

pub paragraph_pages-requires-clause-runs : goal.paragraph_pages-requires-clause-runs
paragraph_pages-requires-clause-runs c =
    let base = c.args.text.now.base in
    let items = c.args.text.now.added.now in
    let writable = writable_items items c.len-len.ensures.formed c.requires.text.short in
    let old = c.old_part-table.ensures ∙ c.requires.file.named in
    subst (λ (table : List ℕ). AreRuns Papx (mark_runs table base items)) (sym old)
    (marks_right base items writable c.requires.text.small
    (paragraph_bins c.args.old.now.fib.now c.args.old.now.container.now))

pub returns : goal.returns
returns c =
    let base = c.args.text.now.base in
    let items = c.args.text.now.added.now in
    let old = c.old_part-table.ensures ∙ c.requires.file.named in
    let paragraphs = c.in_ok-paragraphs.ensures.count
    ∙ ap (λ (table : List ℕ). pages_taken Papx (mark_runs table base items)) old in
    omega (arith, c.in_ok-characters.ensures.count, paragraphs)
