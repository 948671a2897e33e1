use Rattle.std.proofs.Common.{sym, subst}
use Rattle.std.proofs.lemmas.Bool.{false≢true}
use Rattle.cfb_directory.specs.Order.{IsNameInFront}
use Rattle.cfb_directory.proofs.OrderLemmas.{name_short}
use Rattle.cfb_directory.proofs.SortedLemmas.{fresh_name}
use Rattle.cfb_directory.proofs.names.new_place.Goals as goal

pub place_for-place-requires-clause-short : goal.place_for-place-requires-clause-short
place_for-place-requires-clause-short c =
    name_short _
    (λ wrong. false≢true (c.if-is_wrong_len.ensures.1 (rw (c.get16.ensures, c.entry_place-at.ensures.place) wrong)))

pub is_name_in_front-requires-clause-short : goal.is_name_in_front-requires-clause-short
is_name_in_front-requires-clause-short c =
    name_short _ (λ wrong. false≢true (c.if-is_wrong_len.ensures.1 (rw c.get16.ensures wrong)))

pub returns : goal.returns
returns c = record {
  right = λ wrong.
      false≢true (c.if-is_wrong_len.ensures.1 (rw (c.get16.ensures, c.entry_place-at.ensures.place) wrong));
  fresh = fresh_name c.args.file.now c.args.directory.now c.args.entries.now c.args.entry c.place_for-place.result
      c.requires.order c.place_for-place.ensures (λ taken.
      false≢true
      (c.if-is_name_in_front.ensures.1
      (subst (IsNameInFront c.args.file.now c.args.directory.now c.args.entries.now c.place_for-place.result)
      (sym c.entry_place-at.ensures.place) taken)));
  first = c.place_for-place.ensures;
}
