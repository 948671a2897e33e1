use Rattle.std.proofs.Common.{◌≡◌, ◌∙◌, ◌<◌, ℕ, Bool, true, false, not, ◌&&◌, [], ◌∷◌, ◌++◌, map, refl, sym, ap, subst}
use Rattle.std.proofs.Common.{arith, below_more}
use Rattle.std.specs.List.{range_with_len}
use Rattle.std.specs.Ordering.{nat_cmp}
use Rattle.std.specs.BTreeSet.{contains}
use Rattle.std.proofs.lemmas.List.FromFn.{map-range_with_len_more}
use Rattle.summary_set.specs.Form.{IsValidPair}
use Rattle.std.proofs.lemmas.Bool.{false≢true}
use Rattle.summary_set.specs.declared.set.PropertyPair.{PropertyPair}
use Rattle.summary_set.specs.declared.set.SetHead.{SetHead}
use Rattle.summary_set.specs.PropertySet.{first_set_begin, first_set_size, pair_count, pair_place, pair_at}
use Rattle.summary_set.proofs.FormLemmas.{wrong_pair, new_pair, seen_pair, knows_more}
use Rattle.summary_set.proofs.form.read_pairs.Goals as goal

pub returns-then-not-is_within : goal.returns-then-not-is_within
returns-then-not-is_within c =
    let b = c.args.stream.now in
    let begin : c.args.head.begin ≡ first_set_begin b = ap (λ (h : SetHead). h.begin) c.requires.head in
    let size : c.args.head.size ≡ first_set_size b = ap (λ (h : SetHead). h.size) c.requires.head in
    let count : c.args.head.count ≡ pair_count b = ap (λ (h : SetHead). h.count) c.requires.head in
    let below : c.loop-i.i < pair_count b = omega (arith, c.loop-i-test.true) in
    let place : c.pair_place.result ≡ pair_place b c.loop-i.i = omega (arith, c.pair_place.ensures) in
    let offset : c.read_pair-pair.result.offset ≡ (pair_at b c.loop-i.i).offset = ap (λ (p : PropertyPair). p.offset)
    c.read_pair-pair.ensures in
    rw (c.wrong_at.ensures, place) (wrong_pair b c.loop-i.i below c.loop-i.invariant.right (λ right.
    let behind = right.behind_pairs in
    let within = right.within in
    false≢true (c.if-not-is_within.ensures.1 (omega arith, omega arith))))

pub returns-then-not-branch : goal.returns-then-not-branch
returns-then-not-branch c =
    let b = c.args.stream.now in
    let begin : c.args.head.begin ≡ first_set_begin b = ap (λ (h : SetHead). h.begin) c.requires.head in
    let count : c.args.head.count ≡ pair_count b = ap (λ (h : SetHead). h.count) c.requires.head in
    let below : c.loop-i.i < pair_count b = omega (arith, c.loop-i-test.true) in
    let place : c.pair_place-then-not-branch.result ≡ pair_place b c.loop-i.i = omega (
      arith,
      c.pair_place-then-not-branch.ensures,
    ) in
    let ids : ℕ → Bool = contains nat_cmp c.loop-i.seen.ids in
    let offsets : ℕ → Bool = contains nat_cmp c.loop-i.seen.offsets in
    let seen = subst (λ (p : PropertyPair). (not (ids p.id) && not (offsets p.offset)) ≡ false) c.read_pair-pair.ensures
    (sym c.in_ok-add.ensures.new ∙ c.if-not-branch.true) in
    rw (c.wrong_at-then-not-branch.ensures, place) (wrong_pair b c.loop-i.i below c.loop-i.invariant.right (seen_pair b
    c.loop-i.i ids offsets c.loop-i.invariant.ids c.loop-i.invariant.offsets seen))

pub loop-i-preserved : goal.loop-i-preserved
loop-i-preserved c =
    let b = c.args.stream.now in
    let i = c.loop-i.i in
    let pair : PropertyPair = c.read_pair-pair.result in
    let size : c.args.head.size ≡ first_set_size b = ap (λ (h : SetHead). h.size) c.requires.head in
    let count : c.args.head.count ≡ pair_count b = ap (λ (h : SetHead). h.count) c.requires.head in
    let same : pair ≡ pair_at b i = c.read_pair-pair.ensures in
    let id : pair.id ≡ (pair_at b i).id = ap (λ (p : PropertyPair). p.id) same in
    let offset : pair.offset ≡ (pair_at b i).offset = ap (λ (p : PropertyPair). p.offset) same in
    let ids : ℕ → Bool = contains nat_cmp c.loop-i.seen.ids in
    let offsets : ℕ → Bool = contains nat_cmp c.loop-i.seen.offsets in
    let new = subst (λ (p : PropertyPair). (not (ids p.id) && not (offsets p.offset)) ≡ true) same
    (sym c.in_ok-add.ensures.new ∙ c.if-not-branch.false) in
    let within = c.if-not-is_within.ensures.0 refl in
    let behind = within.0 in
    let short = within.1 in
    let right = new_pair b i ids offsets c.loop-i.invariant.ids c.loop-i.invariant.offsets new (omega arith)
    (omega arith) in
    let pushed : c.keep.new.pairs.items ≡ c.loop-i.pairs.items ++ pair ∷ [] = c.in_ok-keep.ensures in
    record {
      read = pushed ∙ (ap (λ xs. xs ++ pair ∷ []) c.loop-i.invariant.read
          ∙ (ap (λ p. map (pair_at b) (range_with_len 0 i) ++ p ∷ []) same
          ∙ sym (map-range_with_len_more (pair_at b) 0 i i (omega arith))));
      right = below_more (IsValidPair b) i c.loop-i.invariant.right right;
      ids = knows_more ids (contains nat_cmp c.add.new.self.ids) (λ j. (pair_at b j).id) i pair.id (sym id)
          c.loop-i.invariant.ids c.in_ok-add.ensures.ids.1 c.in_ok-add.ensures.ids.2;
      offsets = knows_more offsets (contains nat_cmp c.add.new.self.offsets) (λ j. (pair_at b j).offset) i pair.offset
          (sym offset) c.loop-i.invariant.offsets c.in_ok-add.ensures.offsets.1 c.in_ok-add.ensures.offsets.2;
    }
