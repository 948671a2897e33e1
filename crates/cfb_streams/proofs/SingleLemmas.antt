-- Each object of the rules is the only one of its kind, and their numbers ascend.
use Rattle.std.proofs.Common.{◌≡◌, inl, inr, ℕ, List, sym, ◌∙◌, arith}
use Rattle.doc_bits.specs.Rules.{IsSingle, Ascends}
use Rattle.cfb_sectors.specs.Chain.{fat_table}
use Rattle.cfb_directory.specs.Reach.{directory_head, entry_place, IsDirectory}
use Rattle.cfb_streams.specs.StreamRules.{mini_fat_head, IsMiniFat, IsMiniStream}
use Rattle.cfb_directory.specs.StreamEntries.{stream_head}
use Rattle.cfb_sectors.specs.Opening.{opening_rules}
use Rattle.cfb_sectors.specs.HeaderRules.{header_rules}
use Rattle.cfb_streams.specs.Container.{container_rules, outer_rules, directory_rules, entry_rules, chain_rules}
use Rattle.cfb_streams.specs.Container.{stream_rules, sector_rules}
use Rattle.cfb_sectors.proofs.Public.{holds_unique}

pub directory_unique : (file x y : List ℕ) → IsDirectory file x → IsDirectory file y → x ≡ y
directory_unique file x y a b = holds_unique (fat_table file) (directory_head file) x y a.holds b.holds

pub mini_fat_unique : (file x y : List ℕ) → IsMiniFat file x → IsMiniFat file y → x ≡ y
mini_fat_unique file x y a b = elim a [
  | inl none ↦ elim b [ inl other ↦ none.1 ∙ sym other.1 | inr some ↦ absurd (some.0 none.0) ]
  | inr some ↦ elim b [
    | inl none ↦ absurd (some.0 none.0)
    | inr other ↦ holds_unique (fat_table file) (mini_fat_head file) x y some.1
        other.1
  ]
]

pub mini_stream_unique : (file directory x y : List ℕ) → IsMiniStream file directory x → IsMiniStream file directory y →
    x ≡ y
mini_stream_unique file directory x y a b = elim a [
  | inl none ↦ elim b [ inl other ↦ none.1 ∙ sym other.1 | inr some ↦ absurd (some.0 none.0) ]
  | inr some ↦ elim b [
    | inl none ↦ absurd (some.0 none.0)
    | inr other ↦ holds_unique (fat_table file)
        (stream_head file 512 (entry_place directory 0)) x y some.1 other.1
  ]
]

chains_single : (file directory : List ℕ) → IsSingle (chain_rules file directory)
chains_single file directory = (
  tt,
  (
    mini_fat_unique file,
    λ mini_fat has. (tt, (mini_stream_unique file directory, λ mini_stream holds. (tt, tt))),
  ),
)

pub container_single : (file : List ℕ) → IsSingle (container_rules file)
container_single file = (
  (tt, tt),
  (
    (tt, (tt, tt)),
    (
      tt,
      (
        directory_unique file,
        λ directory is. (tt, (tt, (tt, (tt, chains_single file directory)))),
      ),
    ),
  ),
)

pub outer_single : (file : List ℕ) → IsSingle (outer_rules file)
outer_single file = (
  (tt, tt),
  (
    (tt, (tt, tt)),
    (
      tt,
      (
        directory_unique file,
        λ directory is. (tt, (tt, (tt, chains_single file directory))),
      ),
    ),
  ),
)

-- the rules 13 and 14
sector_ascends : (file directory mini_fat mini_stream : List ℕ) →
    Ascends (sector_rules file directory mini_fat mini_stream) 13 15
sector_ascends file directory mini_fat mini_stream =
    (14, ((omega arith, omega arith), (omega arith, omega arith, (omega arith, omega arith))))

stream_ascends : (file directory mini_fat : List ℕ) → Ascends (stream_rules file directory mini_fat) 12 15
stream_ascends file directory mini_fat = (
  13,
  (
    (omega arith, omega arith),
    (omega arith, omega arith, (omega arith, λ mini_stream is. sector_ascends file directory mini_fat mini_stream)),
  ),
)

entry_ascends : (file directory : List ℕ) → Ascends (entry_rules file directory) 7 15
entry_ascends file directory = (
  8,
  (
    (omega arith, omega arith),
    (
      omega arith,
      omega arith,
      (
        9,
        (
          (omega arith, omega arith),
          (
            omega arith,
            omega arith,
            (
              10,
              (
                (omega arith, omega arith),
                (
                  omega arith,
                  omega arith,
                  (
                    11,
                    (
                      (omega arith, omega arith),
                      (
                        omega arith,
                        omega arith,
                        (
                          12,
                          (
                            (omega arith, omega arith),
                            (
                              omega arith,
                              omega arith,
                              (omega arith, λ mini_fat is. stream_ascends file directory mini_fat),
                            ),
                          ),
                        ),
                      ),
                    ),
                  ),
                ),
              ),
            ),
          ),
        ),
      ),
    ),
  ),
)

directory_ascends : (file : List ℕ) → Ascends (directory_rules file) 6 15
directory_ascends file = (
  7,
  (
    (omega arith, omega arith),
    (omega arith, omega arith, (omega arith, λ directory is. entry_ascends file directory)),
  ),
)

header_ascends : (file : List ℕ) → Ascends (header_rules file) 3 6
header_ascends file = (
  4,
  (
    (omega arith, omega arith),
    (
      omega arith,
      omega arith,
      (
        5,
        ((omega arith, omega arith), (omega arith, omega arith, (omega arith, omega arith))),
      ),
    ),
  ),
)

opening_ascends : (file : List ℕ) → Ascends (opening_rules file) 1 3
opening_ascends file = (2, ((omega arith, omega arith), (omega arith, omega arith, (omega arith, omega arith))))

pub container_ascends : (file : List ℕ) → Ascends (container_rules file) 1 15
container_ascends file = (
  3,
  (
    opening_ascends file,
    (
      omega arith,
      omega arith,
      (6, (header_ascends file, (omega arith, omega arith, directory_ascends file))),
    ),
  ),
)
