-- Each list of runs has its span.
use Rattle.std.proofs.Common.{List, subst, ap, arith}
use Rattle.prop_map.specs.Settings.{Properties}
use Rattle.run_lists.specs.declared.runs.Run.{Run}
use Rattle.run_lists.specs.Spread.{total_len}
use Rattle.doc_columns.specs.declared.attached.Attached.{Attached}
use Rattle.doc_columns.specs.Windows.{IsSpanOf}
use Rattle.doc_columns.proofs.WindowLemmas.{within_columns, window_of}
use Rattle.doc_columns.proofs.shared_text.spans.Goals as goal

pub span-requires-clause-within : goal.span-requires-clause-within
span-requires-clause-within c =
    omega (
      arith,
      (within_columns c.args.whole.now c.args.to c.requires.whole c.requires.within).chps,
      ap total_len c.deref.ensures.value,
    )

pub span-requires-2-clause-within : goal.span-requires-2-clause-within
span-requires-2-clause-within c =
    omega (
      arith,
      (within_columns c.args.whole.now c.args.to c.requires.whole c.requires.within).attachments,
      ap total_len c.deref-2.ensures.value,
    )

pub returns-clause-window : goal.returns-clause-window
returns-clause-window c =
    let from = c.args.from in
    let to = c.args.to in
    let chps = c.in-Some.chps in
    let attachments = c.in-Some-span.attachments in
    (window_of c.args.whole.now from to chps attachments c.requires.whole
    c.requires.ordered (within_columns c.args.whole.now to c.requires.whole c.requires.within).units
    (subst (λ (runs : List (Run Properties)). IsSpanOf runs from to chps) c.deref.ensures.value c.in-Some.ensures.span)
    (subst (λ (runs : List (Run Attached)). IsSpanOf runs from to attachments) c.deref-2.ensures.value
    c.in-Some-span.ensures.span)).window

pub returns-clause-items : goal.returns-clause-items
returns-clause-items c =
    let from = c.args.from in
    let to = c.args.to in
    let chps = c.in-Some.chps in
    let attachments = c.in-Some-span.attachments in
    (window_of c.args.whole.now from to chps attachments c.requires.whole
    c.requires.ordered (within_columns c.args.whole.now to c.requires.whole c.requires.within).units
    (subst (λ (runs : List (Run Properties)). IsSpanOf runs from to chps) c.deref.ensures.value c.in-Some.ensures.span)
    (subst (λ (runs : List (Run Attached)). IsSpanOf runs from to attachments) c.deref-2.ensures.value
    c.in-Some-span.ensures.span)).items
