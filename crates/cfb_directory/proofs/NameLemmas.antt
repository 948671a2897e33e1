-- The order of names is that of the entries that have them, and equal names are in none.
use Rattle.std.proofs.Common.{◌≡◌, inl, inr, ℕ, ◌<◌, List, length, slice_index, ap, sym, ◌∙◌, arith}
use Rattle.cfb_directory.specs.Directory.{entry_unit, upper_case, IsEntryName, EntryBefore, IsNameBefore}
use Rattle.cfb_directory.specs.Directory.{AreSameNames, HaveOneName}

-- the units of an entry's name, in upper case
upper_unit : (file : List ℕ) (at : ℕ) (name : List ℕ) → IsEntryName file at name → (i : ℕ) → i < length name →
    upper_case (entry_unit file at i) ≡ upper_case (slice_index name i)
upper_unit file at name is i low = ap upper_case (sym (is.units i low))

-- a name that comes before another, and the entry
pub EntryBefore-names : (file : List ℕ) (at other : ℕ) (name later : List ℕ) → IsEntryName file at name →
    IsEntryName file other later → IsNameBefore name later → EntryBefore file at other
EntryBefore-names file at other name later a b h =
    let x = a.long in
    let y = b.long in
    elim h [
      | inl short ↦ inl (omega arith)
      | inr same ↦
          let len = same.0 in
          let place = same.1.0 in
          let less = same.1.1 in
          let inside = less.inside in
          inr (
            omega arith,
            (
              place,
              record {
                inside = omega arith;
                front = λ i low. upper_unit file at name a i (omega arith)
                    ∙ (less.front i low ∙ sym (upper_unit file other later b i (omega arith)));
                less = let p = upper_unit file at name a place inside in let q = upper_unit file other later b place
                    (omega arith) in let lower = less.less in omega arith;
              },
            ),
          )
    ]

-- an entry that comes before another, and the name
pub ComesBefore-entries : (file : List ℕ) (at other : ℕ) (name later : List ℕ) → IsEntryName file at name →
    IsEntryName file other later → EntryBefore file at other → IsNameBefore name later
ComesBefore-entries file at other name later a b h =
    let x = a.long in
    let y = b.long in
    elim h [
      | inl short ↦ inl (omega arith)
      | inr same ↦
          let len = same.0 in
          let place = same.1.0 in
          let less = same.1.1 in
          let inside = less.inside in
          let within : place < length name = omega arith in
          inr (
            omega arith,
            (
              place,
              record {
                inside = within;
                front = λ i low. sym (upper_unit file at name a i (omega arith))
                    ∙ (less.front i low ∙ upper_unit file other later b i (omega arith));
                less = let p = upper_unit file at name a place within in let q = upper_unit file other later b place
                    (omega arith) in let lower = less.less in omega arith;
              },
            ),
          )
    ]

-- names that are equal to a third are not in order
pub same_not_before : (name other third : List ℕ) → AreSameNames name third → AreSameNames other third →
    ¬ IsNameBefore name other
same_not_before name other third a b before =
    let la = a.long in
    let lb = b.long in
    elim before [
      | inl short ↦ omega arith
      | inr same ↦
          let place = same.1.0 in
          let least = same.1.1 in
          let inside = least.inside in
          let less = least.less in
          let u = a.units place inside in
          let v = b.units place (omega arith) in
          omega arith
    ]

-- entries in the order of names have two names
pub before_apart : (file : List ℕ) (at other : ℕ) → EntryBefore file at other → ¬ HaveOneName file at other
before_apart file at other h one =
    let long = one.long in
    elim h [
      | inl short ↦ omega arith
      | inr same ↦
          let less = same.1.1 in
          let e = one.units same.1.0 less.inside in
          let below = less.less in omega arith
    ]
