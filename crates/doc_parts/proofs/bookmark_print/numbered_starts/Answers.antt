use Rattle.std.proofs.Common.{rules, ◌≡◌, ◌∙◌, ap, sym, ℕ, List, ◌++◌, ◌∷◌, [], length, replicate}
use Rattle.std.specs.Prelude.{nat_lt}
use Rattle.std.specs.List.{count_by}
use Rattle.document_bookmarks.specs.declared.bookmark_order.Bookmark.{Bookmark}
use Rattle.doc_parts.specs.declared.bookmark_print.Start.{Start}
use Rattle.doc_parts.proofs.NumberingLemmas.{lesser_than, lesser_ends, count_of_ends, ends_sorted, none_passed}
use Rattle.doc_parts.proofs.NumberingLemmas.{no_starts}
use Rattle.doc_parts.proofs.NumberingLemmas.{room_there, start_more}
use Rattle.doc_parts.proofs.bookmark_print.numbered_starts.Goals as goal

pub loop-i-init : goal.loop-i-init
loop-i-init c =
    let zeros : c.in_ok-passed.passed.items ≡ replicate (length c.args.list.now) 0 = search rules in
    record {
      starts = c.in_ok-starts.ensures.items ∙ sym (no_starts c.args.list.now);
      passed = none_passed c.args.list.now c.in_ok-passed.passed.items zeros;
    }

pub lesser_count-first-requires : goal.lesser_count-first-requires
lesser_count-first-requires c = rw c.requires.ends (ends_sorted c.args.list.now)

pub next_place-index-requires : goal.next_place-index-requires
next_place-index-requires c =
    let b : Bookmark = c.get-bookmark.result.now in
    let first : c.lesser_count-first.result ≡ lesser_ends c.args.list.now b.to =
    c.lesser_count-first.ensures ∙ (ap (λ (xs : List ℕ). count_by (λ end. nat_lt end b.to) xs) c.requires.ends
    ∙ count_of_ends (lesser_than b.to) c.args.list.now) in
    let room = room_there c.args.list.now c.loop-i.i b c.loop-i.passed.items c.lesser_count-first.result c.requires.few
    c.get-bookmark.ensures c.loop-i.invariant.passed first in
    record { within = room.within; few = room.few }

pub loop-i-preserved : goal.loop-i-preserved
loop-i-preserved c =
    let b : Bookmark = c.get-bookmark.result.now in
    let first : c.lesser_count-first.result ≡ lesser_ends c.args.list.now b.to =
    c.lesser_count-first.ensures ∙ (ap (λ (xs : List ℕ). count_by (λ end. nat_lt end b.to) xs) c.requires.ends
    ∙ count_of_ends (lesser_than b.to) c.args.list.now) in
    let more = start_more c.args.list.now c.loop-i.i b c.loop-i.passed.items c.lesser_count-first.result
    c.next_place-index.result c.get-bookmark.ensures c.loop-i.invariant.passed first c.next_place-index.ensures.place in
    let start : Start = record { cp = b.from; index = c.next_place-index.result; flags = b.flags } in
    record {
      starts = c.in_ok-push.ensures.items
          ∙ (ap (λ (xs : List Start). xs ++ start ∷ []) c.loop-i.invariant.starts ∙ sym more.0);
      passed = rw c.next_place-index.ensures.passed more.1;
    }
