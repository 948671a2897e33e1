-- A file that breaks none of the rules 1 to 14 breaks none without rule 10, and no storage of it has something.
use Rattle.std.proofs.Common.{◌≡◌, ◌≤◌, inl, inr, ℕ, ◌+◌, List, [], length, slice_index, arith, refl, subst}
use Rattle.std.proofs.lemmas.Bool.{cases_lt}
use Rattle.doc_bits.specs.Rules.{Hold, IsFirstOffset}
use Rattle.doc_bits.proofs.Public.{hold_or_first, nil_from_length}
use Rattle.cfb_directory.specs.Reach.{entry_place}
use Rattle.cfb_directory.specs.Storages.{IsFilledStorage}
use Rattle.cfb_streams.specs.Container.{container_rules, outer_rules, ListsStorages}
use Rattle.cfb_streams.specs.Laws.{IsOuter}
use Rattle.cfb_streams.proofs.SingleLemmas.{directory_unique, outer_single}

pub outer_hold : (file : List ℕ) → Hold (container_rules file) → Hold (outer_rules file)
outer_hold file h =
    let behind = h.1.1 in
    let rules = behind.1.1.1 in
    (h.0, (h.1.0, (behind.0, (behind.1.0, (behind.1.1.0, (rules.0, (rules.1.0, (rules.1.1.0, rules.1.1.1.1))))))))

pub none_filled : (file : List ℕ) (names : List (List ℕ)) → Hold (container_rules file) → ListsStorages file names →
    names ≡ []
none_filled file names h lists =
    let behind = h.1.1 in
    let directory = behind.1.0 in
    let storages = behind.1.1.1.1.1.1.0 in
    let same = directory_unique file lists.directory directory lists.is_directory behind.1.1.0 in
    let n = lists.named.len in
    elim (cases_lt 0 (length lists.entries)) [
      | inr none ↦ nil_from_length names (omega arith)
      | inl some ↦
          let entry = slice_index lists.entries 0 in
          let is = lists.lists.sound 0 some in
          let here = subst (λ d. IsFilledStorage file d entry) same is in
          absurd
          (storages (entry_place directory entry + 76) (record {
            entry = entry;
            reached = here.reached;
            broken = record { here = refl; storage = here.filled.0; child = here.filled.1 };
          }))
    ]

pub accepted_outer : (file : List ℕ) → Hold (container_rules file) → IsOuter file
accepted_outer file h = record {
  holds = outer_hold file h;
  unbroken = λ number place. hold_or_first (λ a b. a ≤ b) (outer_rules file) number place (outer_single file)
      (outer_hold file h);
  empty = λ names. none_filled file names h;
}
