use Rattle.std.proofs.Common.{refl, sym, ◌∙◌, subst}
use Rattle.std.proofs.lemmas.Result.{err_from_is_err_and}
use Rattle.doc_bits.specs.Rules.{Nowhere, LeastOrNone}
use Rattle.cfb_directory.specs.Reach.{ListsReached, BreaksRoot, BreaksTree, BreaksName}
use Rattle.cfb_directory.specs.Order.{ListsStreams}
use Rattle.cfb_directory.proofs.EntryLemmas.{tree_fault, names_fault}
use Rattle.cfb_sectors.proofs.Public.{refused_first, none_nowhere}
use Rattle.cfb_directory.proofs.entries.Entries.read.Goals as goal

pub returns-in_err-refuse-2 : goal.returns-in_err-refuse-2
returns-in_err-refuse-2 c =
    let root = subst (λ d. LeastOrNone (BreaksRoot c.args.file.now d) c.wrong_root.result) c.deref.ensures.value
    c.wrong_root.ensures in
    let tree = subst (λ d. LeastOrNone (BreaksTree c.args.file.now d) c.in_ok-tree.tree) c.deref-3.ensures.value
    c.in_ok-tree.ensures in
    let p = err_from_is_err_and c.from_residual-in_err-refuse-2.result c.from_residual-in_err-refuse-2.ensures.1 in
    rw (p.1, p.2)
    (tree_fault c.args.file.now c.args.directory.items c.in_err-refuse-2.field-0.0
    (none_nowhere (BreaksRoot c.args.file.now c.args.directory.items) c.wrong_root.result root c.in_ok-refuse.ensures)
    (refused_first 8 (BreaksTree c.args.file.now c.args.directory.items) c.in_ok-tree.tree c.in_err-refuse-2.field-0.0
    tree c.in_err-refuse-2.ensures))

pub returns-in_err-refuse-3 : goal.returns-in_err-refuse-3
returns-in_err-refuse-3 c =
    let root = subst (λ d. LeastOrNone (BreaksRoot c.args.file.now d) c.wrong_root.result) c.deref.ensures.value
    c.wrong_root.ensures in
    let tree = subst (λ d. LeastOrNone (BreaksTree c.args.file.now d) c.in_ok-tree.tree) c.deref-3.ensures.value
    c.in_ok-tree.ensures in
    let names = subst (λ d. LeastOrNone (BreaksName c.args.file.now d) c.in_ok-names.names) c.deref-5.ensures.value
    c.in_ok-names.ensures in
    let p = err_from_is_err_and c.from_residual-in_err-refuse-3.result c.from_residual-in_err-refuse-3.ensures.1 in
    rw (p.1, p.2)
    (names_fault c.args.file.now c.args.directory.items c.in_err-refuse-3.field-0.0
    (none_nowhere (BreaksRoot c.args.file.now c.args.directory.items) c.wrong_root.result root c.in_ok-refuse.ensures)
    (none_nowhere (BreaksTree c.args.file.now c.args.directory.items) c.in_ok-tree.tree tree c.in_ok-refuse-2.ensures)
    (refused_first 9 (BreaksName c.args.file.now c.args.directory.items) c.in_ok-names.names
    c.in_err-refuse-3.field-0.0 names c.in_err-refuse-3.ensures))

pub list_streams-requires-clause-names : goal.list_streams-requires-clause-names
list_streams-requires-clause-names c =
    let same = c.deref-5.ensures.value ∙ sym c.deref-7.ensures.value in
    subst (λ d. Nowhere (BreaksName c.args.file.now d)) same
    (none_nowhere (BreaksName c.args.file.now c.deref-5.result.now) c.in_ok-names.names c.in_ok-names.ensures
    c.in_ok-refuse-3.ensures)

pub invariant_of-result : goal.invariant_of-result
invariant_of-result c = record {
  is_directory = c.requires.directory_is;
  inside = c.requires.inside;
  lists = subst (λ d. ListsReached c.args.file.now d c.in_ok-reached.reached.items) c.deref-2.ensures.value
      c.in_ok-reached.ensures;
  root = subst (λ d. Nowhere (BreaksRoot c.args.file.now d)) c.deref.ensures.value
      (none_nowhere (BreaksRoot c.args.file.now c.deref.result.now) c.wrong_root.result c.wrong_root.ensures
      c.in_ok-refuse.ensures);
  tree = subst (λ d. Nowhere (BreaksTree c.args.file.now d)) c.deref-3.ensures.value
      (none_nowhere (BreaksTree c.args.file.now c.deref-3.result.now) c.in_ok-tree.tree c.in_ok-tree.ensures
      c.in_ok-refuse-2.ensures);
  names = subst (λ d. Nowhere (BreaksName c.args.file.now d)) c.deref-5.ensures.value
      (none_nowhere (BreaksName c.args.file.now c.deref-5.result.now) c.in_ok-names.names c.in_ok-names.ensures
      c.in_ok-refuse-3.ensures);
  in_order = subst (λ d. ListsStreams c.args.file.now d c.in_ok-streams.streams.items) c.deref-7.ensures.value
      c.in_ok-streams.ensures.lists;
}

pub returns : goal.returns
returns c = (refl, refl, invariant_of-result c)
