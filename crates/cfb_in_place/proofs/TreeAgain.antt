-- The directory's tree after a save: the links, the types and the names of all entries stay.
use Rattle.std.proofs.Common.{◌≡◌, inl, inr, ℕ, ◌+◌, ◌*◌, ◌<◌, ◌≤◌, List}
use Rattle.std.proofs.Common.{sym, ap, ◌∙◌, subst, arith}
use Rattle.doc_bits.specs.Rules.{Nowhere}
use Rattle.doc_bits.specs.Number.{u32_at, number_at}
use Rattle.cfb_directory.specs.Directory.{entry_unit, entry_name_length, entry_type, upper_case}
use Rattle.cfb_directory.specs.Directory.{HaveOneName}
use Rattle.cfb_directory.specs.Reach.{entry_place, entry_count, IsLinkedEntry, IsReachedEntry, child, left, right}
use Rattle.cfb_directory.specs.Reach.{IsLink}
use Rattle.cfb_directory.specs.Reach.{BreaksRoot, BreaksTree, BreaksName, BreaksStorage, IsWrongNameLength}
use Rattle.cfb_directory.specs.StreamEntries.{IsStreamEntry}
use Rattle.cfb_directory.proofs.Public.{reached_there, name_length, name_short}
use Rattle.cfb_streams.proofs.Public.{directory_unique}
use Rattle.cfb_in_place.proofs.Saved.{Save, same_byte, same_number}

-- what the rules 7 to 10 promise of a directory
pub record HoldsTree (file directory : List ℕ) : Type 0 where
  pub root : Nowhere (BreaksRoot file directory)
  pub tree : Nowhere (BreaksTree file directory)
  pub names : Nowhere (BreaksName file directory)
  pub storages : Nowhere (BreaksStorage file directory)

pub tree_before : (s : Save) → HoldsTree s.old s.has.parts.directory
tree_before s =
    let d = s.hold.1.1.1.0 in
    let tail = s.hold.1.1.1.1 in
    let rules = tail.1 in
    let same = directory_unique s.old d s.has.parts.directory tail.0 s.has.directory in
    let holds : HoldsTree s.old d = record {
      root = rules.0;
      tree = rules.1.0;
      names = rules.1.1.0;
      storages = rules.1.1.1.0;
    } in
    subst (λ x. HoldsTree s.old x) same holds

-- there is an entry 0
pub root_there : (s : Save) → 0 < entry_count s.has.parts.directory
root_there s = let some = s.has.directory.holds.chain.path.some in omega arith

-- a number in the front of an entry
pub entry_number : (s : Save) (k offset width : ℕ) → k < entry_count s.has.parts.directory → offset + width ≤ 116 →
    number_at s.new (entry_place s.has.parts.directory k + offset) width ≡ number_at s.old (entry_place
    s.has.parts.directory k + offset) width
entry_number s k offset width low h =
    let at = entry_place s.has.parts.directory k in
    same_number s.old s.new at 116 (at + offset) width (s.saved.directory.front k low) (omega arith) (omega arith)

pub type_again : (s : Save) (k : ℕ) → k < entry_count s.has.parts.directory → entry_type s.new (entry_place
    s.has.parts.directory k) ≡ entry_type s.old (entry_place s.has.parts.directory k)
type_again s k low =
    let at = entry_place s.has.parts.directory k in
    same_byte s.old s.new at 116 (at + 66) (s.saved.directory.front k low) (omega arith) (omega arith)

pub child_again : (s : Save) (k : ℕ) → k < entry_count s.has.parts.directory → u32_at s.new (entry_place
    s.has.parts.directory k + 76) ≡ u32_at s.old (entry_place s.has.parts.directory k + 76)
child_again s k low = entry_number s k 76 4 low (omega arith)

-- the entries that are reached are those of before
pub reached_before : (s : Save) (k : ℕ) → IsReachedEntry s.new s.has.parts.directory k → IsReachedEntry s.old
    s.has.parts.directory k
reached_before s _ (child k link there) = child k (sym (child_again s 0 (root_there s)) ∙ link) there
reached_before s _ (left from k before link there) =
    let b = reached_before s from before in
    let inside = reached_there s.old s.has.parts.directory b in
    left from k b (sym (entry_number s from 68 4 inside.1 (omega arith)) ∙ link) there
reached_before s _ (right from k before link there) =
    let b = reached_before s from before in
    let inside = reached_there s.old s.has.parts.directory b in
    right from k b (sym (entry_number s from 72 4 inside.1 (omega arith)) ∙ link) there

pub reached_after : (s : Save) (k : ℕ) → IsReachedEntry s.old s.has.parts.directory k → IsReachedEntry s.new
    s.has.parts.directory k
reached_after s _ (child k link there) = child k (child_again s 0 (root_there s) ∙ link) there
reached_after s _ (left from k before link there) =
    let inside = reached_there s.old s.has.parts.directory before in
    left from k (reached_after s from before) (entry_number s from 68 4 inside.1 (omega arith) ∙ link) there
reached_after s _ (right from k before link there) =
    let inside = reached_there s.old s.has.parts.directory before in
    right from k (reached_after s from before) (entry_number s from 72 4 inside.1 (omega arith) ∙ link) there

pub reached_inside : (s : Save) (k : ℕ) → IsReachedEntry s.new s.has.parts.directory k → k < entry_count
    s.has.parts.directory
reached_inside s k reached = (reached_there s.new s.has.parts.directory reached).1

pub stream_before : (s : Save) (k : ℕ) → IsStreamEntry s.new s.has.parts.directory k → IsStreamEntry s.old
    s.has.parts.directory k
stream_before s k is = record {
  reached = reached_before s k is.reached;
  stream = sym (type_again s k (reached_inside s k is.reached)) ∙ is.stream;
}

pub stream_after : (s : Save) (k : ℕ) → IsStreamEntry s.old s.has.parts.directory k → IsStreamEntry s.new
    s.has.parts.directory k
stream_after s k is =
    let inside = reached_there s.old s.has.parts.directory is.reached in record {
      reached = reached_after s k is.reached;
      stream = type_again s k inside.1 ∙ is.stream;
    }

-- so are the links
link_before : (s : Save) (place : ℕ) → IsLink s.new s.has.parts.directory place → IsLink s.old s.has.parts.directory
    place
link_before s place link = elim link [
  | inl root ↦ inl root
  | inr side ↦ inr (record { entry = side.entry; reached = reached_before s side.entry side.reached; here = side.here })
]

link_again : (s : Save) (place : ℕ) → IsLink s.old s.has.parts.directory place → u32_at s.new place ≡ u32_at s.old
    place
link_again s place link = elim link [
  | inl root ↦ subst (λ x. u32_at s.new x ≡ u32_at s.old x) (sym root) (child_again s 0 (root_there s))
  | inr side ↦
      let inside = reached_there s.old s.has.parts.directory side.reached in
      elim side.here [
        | inl at ↦ subst (λ x. u32_at s.new x ≡ u32_at s.old x) (sym at) (entry_number s side.entry 68 4 inside.1
            (omega arith))
        | inr at ↦ subst (λ x. u32_at s.new x ≡ u32_at s.old x) (sym at) (entry_number s side.entry 72 4 inside.1
            (omega arith))
      ]
]

-- rule 7
root_again : (s : Save) → Nowhere (BreaksRoot s.new s.has.parts.directory)
root_again s = λ p b. (tree_before s).root p (b.0, λ e. b.1 (type_again s 0 (root_there s) ∙ e))

-- rule 8
tree_again : (s : Save) → Nowhere (BreaksTree s.new s.has.parts.directory)
tree_again s = λ p b. (tree_before s).tree p (elim b [
  | inl broken ↦
      let link = link_before s p broken.link in
      let same = link_again s p link in
      inl (record {
        link = link;
        wrong = record {
          names = λ e. broken.wrong.names (same ∙ e);
          wrong = elim broken.wrong.wrong [
            | inl outside ↦ inl (λ there. outside (subst (λ k. IsLinkedEntry s.has.parts.directory k) (sym same) there))
            | inr twice ↦
                let earlier = link_before s twice.earlier twice.link in
                inr (record {
                  earlier = twice.earlier;
                  link = earlier;
                  below = twice.below;
                  same = sym (link_again s twice.earlier earlier) ∙ (twice.same ∙ same);
                })
          ];
        };
      })
  | inr among ↦
      let same = type_again s among.entry (reached_inside s among.entry among.reached) in
      inr (record {
        entry = among.entry;
        reached = reached_before s among.entry among.reached;
        broken = record {
          here = among.broken.here;
          not_storage = λ e. among.broken.not_storage (same ∙ e);
          not_stream = λ e. among.broken.not_stream (same ∙ e);
        };
      })
])

-- names
pub name_length_again : (s : Save) (k : ℕ) → k < entry_count s.has.parts.directory → entry_name_length s.new
    (entry_place
    s.has.parts.directory k) ≡ entry_name_length s.old (entry_place s.has.parts.directory k)
name_length_again s k low = entry_number s k 64 2 low (omega arith)

pub unit_again : (s : Save) (k i : ℕ) → k < entry_count s.has.parts.directory → 2 * i + 2 ≤ 116 → entry_unit s.new
    (entry_place s.has.parts.directory k) i ≡ entry_unit s.old (entry_place s.has.parts.directory k) i
unit_again s k i low h = entry_number s k (2 * i) 2 low h

pub name_long : (s : Save) (k : ℕ) → IsReachedEntry s.old s.has.parts.directory k → entry_name_length s.old (entry_place
    s.has.parts.directory k) ≤ 64
name_long s k reached = name_short (entry_name_length s.old (entry_place s.has.parts.directory k)) (name_length s.old
    s.has.parts.directory k (tree_before s).names reached)

one_name_before : (s : Save) (k other : ℕ) → IsReachedEntry s.old s.has.parts.directory k → IsReachedEntry s.old
    s.has.parts.directory other → HaveOneName s.new (entry_place s.has.parts.directory k) (entry_place
    s.has.parts.directory other) → HaveOneName s.old (entry_place s.has.parts.directory k) (entry_place
    s.has.parts.directory other)
one_name_before s k other one another same =
    let here = (reached_there s.old s.has.parts.directory one).1 in
    let there = (reached_there s.old s.has.parts.directory another).1 in
    let len = name_length_again s k here in
    let long = name_long s k one in
    record {
      long = sym len ∙ (same.long ∙ name_length_again s other there);
      units = λ i h.
          sym (ap upper_case (unit_again s k i here (omega arith)))
          ∙ (same.units i (omega arith) ∙ ap upper_case (unit_again s other i there (omega arith)));
    }

-- rule 9
names_again : (s : Save) → Nowhere (BreaksName s.new s.has.parts.directory)
names_again s = λ p b.
    let k = b.entry in
    let reached = reached_before s k b.reached in
    let len = name_length_again s k (reached_inside s k b.reached) in
    (tree_before s).names p (record {
      entry = k;
      reached = reached;
      broken = record {
        here = b.broken.here;
        wrong = elim b.broken.wrong [
          | inl wrong ↦ inl (subst IsWrongNameLength len wrong)
          | inr taken ↦
              let earlier = reached_before s taken.earlier taken.reached in
              inr (record {
                earlier = taken.earlier;
                reached = earlier;
                below = taken.below;
                same = one_name_before s taken.earlier k earlier reached taken.same;
              })
        ];
      };
    })

-- rule 10
storages_again : (s : Save) → Nowhere (BreaksStorage s.new s.has.parts.directory)
storages_again s = λ p b.
    let k = b.entry in
    let inside = reached_inside s k b.reached in
    (tree_before s).storages p (record {
      entry = k;
      reached = reached_before s k b.reached;
      broken = record {
        here = b.broken.here;
        storage = sym (type_again s k inside) ∙ b.broken.storage;
        child = λ e. b.broken.child (child_again s k inside ∙ e);
      };
    })

pub tree_after : (s : Save) → HoldsTree s.new s.has.parts.directory
tree_after s = record {
  root = root_again s;
  tree = tree_again s;
  names = names_again s;
  storages = storages_again s;
}
