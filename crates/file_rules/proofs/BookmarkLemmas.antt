-- Where the rule on bookmarks holds, and how it is broken.
use Rattle.std.proofs.Common.{◌≡◌, inl, inr, ℕ, ◌+◌, ◌≤◌, List, [], length, drop, refl, sym, ap, arith}
use Rattle.std.specs.Prelude.{◌-◌, nat_lt, Bool, false, if◌then◌else◌}
use Rattle.std.proofs.lemmas.Bool.{cases_lt, le-ltb}
use Rattle.std.proofs.lemmas.List.{length-take}
use Rattle.doc_bits.specs.declared.places.Where.TheVariants.{Wd, Table}
use Rattle.doc_bits.specs.Rules.{Hold, Nowhere, IsLeast}
use Rattle.doc_bits.proofs.Public.{upto_same}
use Rattle.fib_form.specs.Fib.{fib_pair, fib_pair_place, table_part}
use Rattle.fib_form.specs.TableParts.{pair_number}
use Rattle.fib_form.specs.declared.table_parts.TablePart.TheVariants.{SttbfBkmk}
use Rattle.fib_form.specs.declared.stories.StoryKind.TheVariants.{Main}
use Rattle.doc_parts.specs.declared.fault.PartFault.{PartFault}
use Rattle.doc_parts.specs.declared.fault.PartFault.TheVariants as part
use Rattle.doc_parts.specs.Table.{IsPartFault}
use Rattle.document_bookmarks.specs.Order.{in_order}
use Rattle.document_bookmarks.specs.Bookmarks.{bookmark_cmp}
use Rattle.doc_parts.specs.BookmarkParts.{HasNames, kept_bookmarks, bookmark_rules}
use Rattle.file_rules.specs.declared.fault.ReadFault.TheVariants.{Refused, Memory}
use Rattle.file_rules.specs.Source.{DocSource, table_part_bytes, story_length}
use Rattle.file_rules.specs.Faults.{IsReadFault, part_refusal}
use Rattle.file_rules.specs.BookmarkRules.{bookmark_parts, HasNamePair, HasLeavingPair}
use Rattle.file_rules.specs.BookmarkRules.{rules_of_bookmarks, HasBookmarks}
use Rattle.file_rules.proofs.PartLemmas.{length-table_part}

-- a part has at most the bytes that its pair gives
pub part-short : (wd table : List ℕ) (n : ℕ) → length (table_part wd table n) ≤ (fib_pair wd n).1
part-short wd table n =
    let fc = (fib_pair wd n).0 in
    let lcb = (fib_pair wd n).1 in
    let len = length-take (fc + lcb - fc) (drop fc table) in omega arith

-- names of at most six bytes are no bookmarks
pub no_bookmarks : (source : DocSource) → (fib_pair source.wd (pair_number SttbfBkmk)).1 ≤ 6 →
    Hold (rules_of_bookmarks source) × HasBookmarks source []
no_bookmarks source low =
    let names = table_part_bytes source SttbfBkmk in
    let short = part-short source.wd source.table (pair_number SttbfBkmk) in
    let few : nat_lt 6 (length names) ≡ false = le-ltb 6 (length names) (omega arith) in
    let some = in_order bookmark_cmp (kept_bookmarks (bookmark_parts source) (story_length source Main)) in (
      (λ place b. let many = b.0 in absurd (omega arith)),
      ap (λ (b : Bool). if b then some else []) (sym few),
    )

-- where no pair leaves the table stream, the names have the bytes that their pair gives
names_there : (source : DocSource) → HasNamePair source → Nowhere (HasLeavingPair source) →
    HasNames (table_part_bytes source SttbfBkmk)
names_there source named inside =
    let pair = fib_pair source.wd (pair_number SttbfBkmk) in
    elim (cases_lt (length source.table) (pair.0 + pair.1)) [
      | inl over ↦ absurd (inside (fib_pair_place (pair_number SttbfBkmk)) (inl (refl, over)))
      | inr within ↦
          let len = length-table_part source.wd source.table (pair_number SttbfBkmk) within in
          omega (arith, named, len)
    ]

-- where no pair leaves the table stream the parts decide
pub bookmarks-hold : (source : DocSource) → Nowhere (HasLeavingPair source) →
    Hold (bookmark_rules (bookmark_parts source)) → Hold (rules_of_bookmarks source)
bookmarks-hold source inside holds = λ place b. elim b.1 [
  | inl w ↦ inside place.1 w.1
  | inr t ↦ holds place.1 (names_there source b.0 inside, t.1.1)
]

-- a pair leaves the table stream
pub bookmarks-leave : (source : DocSource) (offset : ℕ) → HasNamePair source →
    IsLeast (λ a b. a ≤ b) (HasLeavingPair source) offset →
    IsReadFault (rules_of_bookmarks source) (Refused 57 Wd offset)
bookmarks-leave source offset named leaves = (
  refl,
  record {
    broken = (named, inl (refl, leaves.broken));
    least = λ q b. elim b.1 [
      | inl w ↦ upto_same (Wd, offset) q (sym w.0) (leaves.least q.1 w.1)
      | inr t ↦ absurd (t.1.0 offset leaves.broken)
    ];
  },
)

-- none does, and a part is refused
pub bookmarks-refused : (source : DocSource) (fault : PartFault) → HasNamePair source →
    Nowhere (HasLeavingPair source) → IsPartFault (bookmark_rules (bookmark_parts source)) fault →
    IsReadFault (rules_of_bookmarks source) (part_refusal fault)
bookmarks-refused source (part.Rule number offset) named inside first = (
  first.0,
  record {
    broken = (named, inr (refl, (inside, first.1.broken.1)));
    least = λ q b. elim b.1 [
      | inl w ↦ absurd (inside q.1 w.1)
      | inr t ↦ upto_same (Table, offset) q (sym t.0) (first.1.least q.1 (names_there source named inside, t.1.1))
    ];
  },
)
bookmarks-refused source part.Memory named inside first = tt
