use Rattle.std.proofs.Common.{rules, arith, ◌≡◌, ◌∙◌, ap, sym, ℕ, ◌+◌, ◌*◌, ◌<◌, ◌≤◌, List, [], ◌∷◌, ◌++◌, length, Bool}
use Rattle.std.specs.List.{filter}
use Rattle.doc_bits.specs.Number.{u16_at}
use Rattle.document_bookmarks.specs.declared.bookmark_order.Bookmark.{Bookmark}
use Rattle.doc_parts.specs.declared.bookmark_parts.Range.{Range}
use Rattle.doc_parts.specs.Tabulated.{tabulate}
use Rattle.doc_parts.specs.BookmarkParts.{BookmarkParts, parts_at, bookmark_at, bookmark_count, is_kept_bookmark}
use Rattle.doc_parts.specs.BookmarkParts.{bookmark_name_place}
use Rattle.doc_parts.proofs.BookmarkPartLemmas.{first_place, none_tabulated, name_room, name_place-next, kept-next}
use Rattle.doc_parts.proofs.BookmarkPartLemmas.{same_bookmark}
use Rattle.doc_parts.proofs.bookmark_parts.keep_bookmarks.Goals as goal

pub loop-k-init : goal.loop-k-init
loop-k-init c = record {
  list = c.new-list.ensures.items ∙ sym (none_tabulated (is_kept_bookmark c.args.main_len)
      (bookmark_at (parts_at c.args.names.now c.args.starts.now c.args.ends.now [])));
  place = sym (first_place c.args.names.now);
}

pub get16-units-requires : goal.get16-units-requires
get16-units-requires c =
    let low : c.loop-k.k < bookmark_count c.args.names.now = omega (arith, c.loop-k-test.true, c.get16-count.ensures) in
    let room = name_room c.args.names.now c.loop-k.k c.requires.right.filled low in
    omega (arith, room, c.loop-k.invariant.place)

pub overflow_add-place : goal.overflow_add-place
overflow_add-place c =
    let low : c.loop-k.k < bookmark_count c.args.names.now = omega (arith, c.loop-k-test.true, c.get16-count.ensures) in
    let room = name_room c.args.names.now c.loop-k.k c.requires.right.filled low in
    let few : c.loop-k.place + 2 ≤ length c.args.names.now = omega (arith, room, c.loop-k.invariant.place) in
    search rules

pub name_at-requires : goal.name_at-requires
name_at-requires c =
    let low : c.loop-k.k < bookmark_count c.args.names.now = omega (arith, c.loop-k-test.true, c.get16-count.ensures) in
    let room = name_room c.args.names.now c.loop-k.k c.requires.right.filled low in
    let same : u16_at c.args.names.now (bookmark_name_place c.args.names.now c.loop-k.k) ≡ c.get16-units.result =
    ap (λ (n : ℕ). u16_at c.args.names.now n) (sym c.loop-k.invariant.place) ∙ sym c.get16-units.ensures in
    omega (arith, room, c.loop-k.invariant.place, same)

pub overflow_add-place-in-loop-k-2 : goal.overflow_add-place-in-loop-k-2
overflow_add-place-in-loop-k-2 c =
    let low : c.loop-k.k < bookmark_count c.args.names.now = omega (arith, c.loop-k-test.true, c.get16-count.ensures) in
    let room = name_room c.args.names.now c.loop-k.k c.requires.right.filled low in
    let same : u16_at c.args.names.now (bookmark_name_place c.args.names.now c.loop-k.k) ≡ c.get16-units.result =
    ap (λ (n : ℕ). u16_at c.args.names.now n) (sym c.loop-k.invariant.place) ∙ sym c.get16-units.ensures in
    let few : c.loop-k.place + (2 + 2 * c.get16-units.result) ≤ length c.args.names.now =
    omega (arith, room, c.loop-k.invariant.place, same) in
    search rules

pub loop-k-preserved : goal.loop-k-preserved
loop-k-preserved c =
    let same : u16_at c.args.names.now (bookmark_name_place c.args.names.now c.loop-k.k) ≡ c.get16-units.result =
    ap (λ (n : ℕ). u16_at c.args.names.now n) (sym c.loop-k.invariant.place) ∙ sym c.get16-units.ensures in
    let parts : BookmarkParts = parts_at c.args.names.now c.args.starts.now c.args.ends.now [] in
    let p : Bookmark → Bool = is_kept_bookmark c.args.main_len in
    let range : Range = c.range_at-range.result in
    let read = same_bookmark parts c.loop-k.k c.get16-count.result c.loop-k.place
    c.get16-units.result range.from range.to
    range.flags c.in_ok-name.name c.get16-count.ensures c.loop-k.invariant.place c.get16-units.ensures
    c.in_ok-name.ensures (ap (λ (r : Range). r.from) c.range_at-range.ensures)
    (ap (λ (r : Range). r.to) c.range_at-range.ensures) (ap (λ (r : Range). r.flags) c.range_at-range.ensures) in
    record {
      list = c.in_ok-push_kept.ensures.ok
          ∙ (ap (λ (xs : List Bookmark). xs ++ filter p (c.named.result ∷ [])) c.loop-k.invariant.list
          ∙ (ap (λ (b : Bookmark). filter p (tabulate (bookmark_at parts) c.loop-k.k) ++ filter p (b ∷ []))
          (c.named.ensures ∙ read) ∙ sym (kept-next p (bookmark_at parts) c.loop-k.k)));
      place = omega (arith, name_place-next c.args.names.now c.loop-k.k, c.loop-k.invariant.place, same);
    }
