use Rattle.std.proofs.Common.{rules, ◌≡◌}
use Rattle.std.specs.Prelude.{not}
use Rattle.std.specs.List.{filter}
use Rattle.std.proofs.lemmas.Fn.{filter_same}
use Rattle.document_bookmarks.specs.declared.bookmark_order.Bookmark.{Bookmark}
use Rattle.document_bookmarks.specs.Names.{is_named}
use Rattle.document_bookmarks.proofs.NameLemmas.{list_filtered}
use Rattle.document_bookmarks.proofs.bookmark_list.Bookmarks.remove.Goals as goal

pub invariant_of-self : goal.invariant_of-self
invariant_of-self c =
    let kept : c.retain.new.self.items ≡ filter (λ (b : Bookmark). not (is_named c.args.name.now b))
    c.self.inside.items.items = filter_same _ _ _ (λ x b f' k. search rules) _ _ c.retain.ensures.filtered in
    rw kept (list_filtered c.self.inside.items.items (λ (b : Bookmark). not (is_named c.args.name.now b))
    c.self.inside.apart c.self.invariant)

pub returns : goal.returns
returns c = rw (← c.self.view_is) (filter_same _ _ _ (λ x b f' k. search rules) _ _ c.retain.ensures.filtered)
