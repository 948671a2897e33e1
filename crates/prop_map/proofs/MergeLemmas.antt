-- Two lists of entries in order put into one, and an entry appended behind lesser ones.
use Rattle.std.proofs.Common.{◌≡◌, ℕ, ◌+◌, ◌<◌, ◌≤◌, Bool, true, false, cond, ◌&&◌, T, List, [], ◌∷◌, ◌++◌}
use Rattle.std.proofs.Common.{Option, Some, None, IsTrue, length, refl, sym, ap, ◌∙◌, subst, arith, append_assoc}
use Rattle.std.proofs.lemmas.Bool.{eqb-true}
use Rattle.std.proofs.lemmas.List.{nil_from_length}
use Rattle.std.proofs.lemmas.List.Elements.{All-head, All-tail, All-push, All-append}
use Rattle.std.specs.List.{All}
use Rattle.std.specs.Ordering.{nat_cmp, is_lt, eq_by_cmp}
use Rattle.std.specs.Option.{option_or}
use Rattle.std.specs.Cmp.{nat_cmp_total, unsigned_tied}
use Rattle.std.specs.FinMap.{find, put, is_sorted, from_sorted, insert}
use Rattle.std.specs.FinMap.Entries.{below_all, find-put}
use Rattle.prop_map.specs.Entries.{Entries}
use Rattle.prop_map.specs.Block.{block_entry_bytes, block_bytes, entries_in, map_of, IsBlockEntry, AreBlockEntries}
use Rattle.prop_map.specs.Block.{IsSortedBlock, IsPutBetween, HasCodesBelow}
use Rattle.prop_map.proofs.EntriesLemmas.{true_of, of_true, both_first, both_second, less_from, cmp_less, cmp_greater}
use Rattle.prop_map.proofs.EntriesLemmas.{sorted-put, from_sorted-put}
use Rattle.prop_map.proofs.BlockLemmas.{block_more, blocks_joined, entries_in-block, entries_in-none, no_block_entries}
use Rattle.prop_map.proofs.BlockLemmas.{sorted_block}

-- each entry of the first list put into the second
abbrev pub put_over : Entries → Entries → Entries
put_over [] base = base
put_over (e ∷ top) base = put_over top (put nat_cmp e.0 e.1 base)

both_of : (a b : Bool) → T a → T b → T (a && b)
both_of true b h k = k
both_of false b h k = h

below_lesser : (x y : ℕ) (es : Entries) → x < y → T (below_all nat_cmp y es) → T (below_all nat_cmp x es)
below_lesser x y [] lt h = tt
below_lesser x y (e ∷ es) lt h =
    let above = less_from y e.0 (both_first _ _ h) in
    let under : x < e.0 = omega arith in
    both_of _ _ (subst (λ r. T (is_lt r)) (sym (cmp_less x e.0 under)) tt) (below_lesser x y es lt (both_second _ _ h))

-- a code below all is not among them
below_none : (code : ℕ) (es : Entries) → T (below_all nat_cmp code es) → find nat_cmp code es ≡ None
below_none code [] h = refl
below_none code (e ∷ es) h = rw (cmp_less code e.0 (less_from code e.0 (both_first _ _ h))) (below_none code es
    (both_second _ _ h))

-- what is before all that is put stays there
keeps_first : (top es : Entries) (x : ℕ × List ℕ) → T (below_all nat_cmp x.0 top) → put_over top (x ∷ es) ≡ x ∷
    put_over top es
keeps_first [] es x h = refl
keeps_first (e ∷ top) es x h =
    let above = less_from x.0 e.0 (both_first _ _ h) in
    let one : put nat_cmp e.0 e.1 (x ∷ es) ≡ x ∷ put nat_cmp e.0 e.1 es = rw (cmp_greater e.0 x.0 above) refl in
    ap (put_over top) one ∙ keeps_first top (put nat_cmp e.0 e.1 es) x (both_second _ _ h)

middle_above : (code : ℕ) (front rest : Entries) (x : ℕ × List ℕ) → T (below_all nat_cmp code (front ++ x ∷ rest)) →
    code < x.0
middle_above code [] rest x h = less_from code x.0 (both_first _ _ h)
middle_above code (e ∷ front) rest x h = middle_above code front rest x (both_second _ _ h)

keeps_front : (top front rest : Entries) (x : ℕ × List ℕ) → T (is_sorted nat_cmp (front ++ x ∷ rest)) →
    T (below_all nat_cmp x.0 top) → put_over top (front ++ x ∷ rest) ≡ front ++ x ∷ put_over top rest
keeps_front top [] rest x s h = keeps_first top rest x h
keeps_front top (e ∷ front) rest x s h =
    let under = middle_above e.0 front rest x (both_first _ _ s) in
    keeps_first top (front ++ x ∷ rest) e (below_lesser e.0 x.0 top under h) ∙ ap (λ l. e ∷ l) (keeps_front top front
    rest x (both_second _ _ s) h)

sorted_rest : (front rest : Entries) (x : ℕ × List ℕ) → T (is_sorted nat_cmp (front ++ x ∷ rest)) →
    T (is_sorted nat_cmp rest)
sorted_rest [] rest x s = both_second _ _ s
sorted_rest (e ∷ front) rest x s = sorted_rest front rest x (both_second _ _ s)

sorted_over : (top base : Entries) → IsTrue (is_sorted nat_cmp base) → IsTrue (is_sorted nat_cmp (put_over top base))
sorted_over [] base s = s
sorted_over (e ∷ top) base s = sorted_over top (put nat_cmp e.0 e.1 base) (sorted-put base e.0 e.1 s)

over_case : (b : Bool) (value : List ℕ) (top base : Option (List ℕ)) → (b ≡ true → top ≡ None) → option_or top
    (cond b (Some value) base) ≡ option_or (cond b (Some value) top) base
over_case true value top base none = ap (λ o. option_or o (Some value)) (none refl)
over_case false value top base none = refl

-- what one list put over the other says
pub find-put_over : (top base : Entries) (code : ℕ) → T (is_sorted nat_cmp top) → find nat_cmp code (put_over top
    base) ≡ option_or (find nat_cmp code top) (find nat_cmp code base)
find-put_over [] base code s = refl
find-put_over (e ∷ top) base code s =
    find-put_over top (put nat_cmp e.0 e.1 base) code (both_second _ _ s)
    ∙ (ap (option_or (find nat_cmp code top)) (find-put nat_cmp nat_cmp_total code e.0 e.1 base)
    ∙ over_case (eq_by_cmp nat_cmp code e.0) e.1 (find nat_cmp code top) (find nat_cmp code base) (λ tied.
    let key : code ≡ e.0 = eqb-true code e.0 (sym (unsigned_tied code e.0) ∙ tied) in
    below_none code top (subst (λ k. T (below_all nat_cmp k top)) (sym key) (both_first _ _ s))))

-- how far both lists were gone through
pub record HasMerged (base top lower left : Entries) (bytes : List ℕ) : Type 0 where
  pub done : Entries
  pub spelt : bytes ≡ block_bytes done
  pub formed : AreBlockEntries done
  pub joined : put_over top base ≡ done ++ put_over left lower
  pub lower_sorted : IsTrue (is_sorted nat_cmp lower)
  pub left_sorted : IsTrue (is_sorted nat_cmp left)

pub none_merged : (base top : Entries) (bytes : List ℕ) → bytes ≡ [] → IsTrue (is_sorted nat_cmp base) →
    IsTrue (is_sorted nat_cmp top) → HasMerged base top base top bytes
none_merged base top bytes e s t = record {
  done = [];
  spelt = e;
  formed = no_block_entries;
  joined = refl;
  lower_sorted = s;
  left_sorted = t;
}

-- an entry of the upper list more, and those of the lower one before it
pub one_merged : (base top lower left rest : Entries) (code : ℕ) (value old start new : List ℕ) → HasMerged base top
    lower ((code, value) ∷ left) old → IsPutBetween lower code old start rest → new ≡ start ++ block_entry_bytes
    (code, value) → IsBlockEntry (code, value) → HasMerged base top rest left new
one_merged base top lower left rest code value old start new h p e is =
    let x : ℕ × List ℕ = (code, value) in
    let above = of_true _ h.left_sorted in
    let whole : IsTrue (is_sorted nat_cmp (p.below ++ x ∷ rest)) = subst (λ l. IsTrue (is_sorted nat_cmp l))
    (p.between value) (sorted-put lower code value h.lower_sorted) in
    let step : put_over (x ∷ left) lower ≡ (p.below ++ x ∷ []) ++ put_over left rest =
    ap (put_over left) (p.between value)
    ∙ (keeps_front left p.below rest x (of_true _ whole) (both_first _ _ above)
    ∙ sym (append_assoc p.below (x ∷ []) (put_over left rest))) in
    record {
      done = h.done ++ (p.below ++ x ∷ []);
      spelt = e ∙ (ap (λ b. b ++ block_entry_bytes x) (p.bytes ∙ ap (λ b. b ++ block_bytes p.below) h.spelt)
          ∙ (append_assoc (block_bytes h.done) (block_bytes p.below) (block_entry_bytes x)
          ∙ (ap (λ b. block_bytes h.done ++ b) (sym (block_more p.below code value))
          ∙ sym (blocks_joined h.done (p.below ++ x ∷ [])))));
      formed = All-append IsBlockEntry h.done (p.below ++ x ∷ []) h.formed (All-push IsBlockEntry p.below x p.formed
          is);
      joined = h.joined ∙ (ap (λ l. h.done ++ l) step ∙ sym (append_assoc h.done (p.below ++ x ∷ [])
          (put_over left rest)));
      lower_sorted = true_of _ (sorted_rest p.below rest x (of_true _ whole));
      left_sorted = true_of _ (both_second _ _ above);
    }

-- all of both
pub all_merged : (base top lower : Entries) (old bytes : List ℕ) → HasMerged base top lower [] old → bytes ≡ old ++
    block_bytes lower → AreBlockEntries lower → IsTrue (is_sorted nat_cmp base) → IsSortedBlock bytes ×
    (entries_in bytes ≡ put_over top base)
all_merged base top lower old bytes h e formed s =
    let all : Entries = h.done ++ lower in
    let spelt : bytes ≡ block_bytes all = e ∙ (ap (λ b. b ++ block_bytes lower) h.spelt ∙ sym (blocks_joined h.done
    lower)) in
    let every : AreBlockEntries all = All-append IsBlockEntry h.done lower h.formed formed in
    let up : IsTrue (is_sorted nat_cmp all) = subst (λ l. IsTrue (is_sorted nat_cmp l)) h.joined (sorted_over top base
    s) in
    (sorted_block bytes all every spelt up, ap entries_in spelt ∙ (entries_in-block all every ∙ sym h.joined))

-- a list put over nothing is itself
put_over-nil : (top : Entries) → T (is_sorted nat_cmp top) → put_over top [] ≡ top
put_over-nil [] s = refl
put_over-nil (e ∷ top) s = keeps_first top [] e (both_first _ _ s) ∙ ap (λ l. e ∷ l) (put_over-nil top (both_second _ _
    s))

-- where nothing of the lower one is left, the others of the upper one follow
pub upper_merged : (base top lower left : Entries) (old bytes : List ℕ) → HasMerged base top lower left old →
    length lower ≡ 0 → bytes ≡ old ++ block_bytes left → AreBlockEntries left → IsTrue (is_sorted nat_cmp base) →
    IsSortedBlock bytes × (entries_in bytes ≡ put_over top base)
upper_merged base top lower left old bytes h none e formed s =
    let all : Entries = h.done ++ left in
    let joined : put_over top base ≡ all =
    h.joined ∙ ap (λ l. h.done ++ l) (ap (put_over left) (nil_from_length lower none) ∙ put_over-nil left (of_true _
    h.left_sorted)) in
    let spelt : bytes ≡ block_bytes all = e ∙ (ap (λ b. b ++ block_bytes left) h.spelt ∙ sym (blocks_joined h.done
    left)) in
    let every : AreBlockEntries all = All-append IsBlockEntry h.done left h.formed formed in
    let up : IsTrue (is_sorted nat_cmp all) = subst (λ l. IsTrue (is_sorted nat_cmp l)) joined (sorted_over top base
    s) in
    (sorted_block bytes all every spelt up, ap entries_in spelt ∙ (entries_in-block all every ∙ sym joined))

-- ---- an entry behind lesser ones

put_behind : (es : Entries) (code : ℕ) (value : List ℕ) → All (λ entry. entry.0 < code) es → put nat_cmp code value
    es ≡ es ++ (code, value) ∷ []
put_behind [] code value all = refl
put_behind (e ∷ es) code value all =
    rw (cmp_greater code e.0 (All-head (λ entry. entry.0 < code) e es all)) (ap (λ l. e ∷ l) (put_behind es code value
    (All-tail (λ entry. entry.0 < code) e es all)))

pub none_below : (block : List ℕ) → block ≡ [] → HasCodesBelow block 0
none_below block e = record {
  ascending = sorted_block block [] no_block_entries e refl;
  below = subst (All (λ entry. entry.0 < 0)) (sym (ap entries_in e ∙ entries_in-none)) (λ k d within. absurd
      (omega arith));
}

pub one_behind : (old new : List ℕ) (least code : ℕ) (value : List ℕ) → HasCodesBelow old least → least ≤ code →
    new ≡ old ++ block_entry_bytes (code, value) → IsBlockEntry (code, value) → HasCodesBelow new (code + 1) ×
    (map_of new ≡ insert (map_of old) code value)
one_behind old new least code value h low e is =
    let es : Entries = entries_in old in
    let x : ℕ × List ℕ = (code, value) in
    let block = h.ascending.block_is in
    let behind : put nat_cmp code value es ≡ es ++ x ∷ [] = put_behind es code value (λ k d within. let l = h.below k d
    within in omega arith) in
    let spelt : new ≡ block_bytes (es ++ x ∷ []) = e ∙ (ap (λ b. b ++ block_entry_bytes x) block.is ∙ sym (block_more es
    code
    value)) in
    let every : AreBlockEntries (es ++ x ∷ []) = All-push IsBlockEntry es x block.entries is in
    let up : IsTrue (is_sorted nat_cmp (es ++ x ∷ [])) = subst (λ l. IsTrue (is_sorted nat_cmp l)) behind (sorted-put
    es code value h.ascending.sorted) in
    let read : entries_in new ≡ es ++ x ∷ [] = ap entries_in spelt ∙ entries_in-block (es ++ x ∷ []) every in (
      record {
        ascending = sorted_block new (es ++ x ∷ []) every spelt up;
        below = subst (All (λ entry. entry.0 < code + 1)) (sym read) (All-push (λ entry. entry.0 < code + 1) es x
            (λ k d within. let l = h.below k d within in omega arith) (omega arith));
      },
      ap from_sorted (read ∙ sym behind) ∙ from_sorted-put es code value h.ascending.sorted,
    )
