-- The pairs of a saved FIB name parts within the table stream, and none that is needed is empty.
use Rattle.std.specs.Prelude.{⊤, slice_get, slice_index, ◌==◌, ◌||◌}
use Rattle.std.specs.List.{flat_map}
use Rattle.std.proofs.Common.{◌/◌, map, ◌≡◌, refl, sym, ap, subst, ℕ, zero, suc, ◌+◌, ◌-◌, ◌<◌, ◌≤◌, List, [], ◌∷◌}
use Rattle.std.proofs.Common.{◌++◌, length, Some, arith, inl, inr, Bool, false}
use Rattle.std.proofs.lemmas.Bool.{false≢true}
use Rattle.std.proofs.lemmas.List.{length-append}
use Rattle.doc_bits.specs.Rules.{Nowhere}
use Rattle.doc_bits.proofs.Public.{length-number_bytes}
use Rattle.fib_form.specs.declared.table_parts.TablePart.TheVariants.{PlcfSed}
use Rattle.fib_form.specs.Fib.{fib_pair}
use Rattle.fkp_pages.specs.Bin.{bin_count}
use Rattle.piece_table.specs.Piece.{TextPiece}
use Rattle.piece_table.specs.Clx.{pcdt_bytes}
use Rattle.piece_table.specs.Printing.{IsPrintedClx, printed_prcs, plc_bytes}
use Rattle.doc_parts.specs.Sections.{printed_sections}
use Rattle.style_sheet.specs.Sheet.{Sheet}
use Rattle.style_sheet.specs.Written.{word, written_front, written_slots, written_sheet}
use Rattle.style_sheet.specs.Counted.{written_counted}
use Rattle.file_rules.specs.Source.{table_part_bytes}
use Rattle.file_rules.specs.PairRules.{read_pairs, IsNeeded, BreaksPairs}
use Rattle.fib_form.specs.TableEntries.{TableEntry}
use Rattle.save_laws.specs.Saves.{saved_entries}
use Rattle.save_laws.proofs.SavedLemmas.{the_source, part_is, Save}
use Rattle.save_laws.proofs.PartsHeld.{some_sections, sections_part}

-- one of the entries has this number, and has bytes where it is needed
record IsTight (parts : List TableEntry) (n : ℕ) : Type 0 where
  at : ℕ
  part : TableEntry
  here : slice_get parts at ≡ Some part
  number : part.number ≡ n
  some : IsNeeded n → 0 < length part.bytes

-- so it is with each of these numbers
abbrev AreTight : List TableEntry → List ℕ → Type 0
AreTight parts [] = ⊤
AreTight parts (n ∷ ns) = IsTight parts n × AreTight parts ns

tight_at : (parts : List TableEntry) (ns : List ℕ) (k : ℕ) → AreTight parts ns → k < length ns →
    IsTight parts (slice_index ns k)
tight_at parts [] k tight below = absurd (omega arith)
tight_at parts (n ∷ ns) zero tight below = tight.0
tight_at parts (n ∷ ns) (suc k) tight below = tight_at parts ns k tight.1 (omega arith)

-- the number is one of those that are needed, as a test
abbrev is_needed : ℕ → Bool
is_needed n = n == 1 || (n == 6 || (n == 12 || (n == 13 || n == 33)))

not_needed : (n : ℕ) → is_needed n ≡ false → ¬ (IsNeeded n)
not_needed n no_need need = elim need [
  | inl e ↦ false≢true (sym (subst (λ m. is_needed m ≡ false) e no_need))
  | inr (inl e) ↦ false≢true (sym (subst (λ m. is_needed m ≡ false) e no_need))
  | inr (inr (inl e)) ↦ false≢true (sym (subst (λ m. is_needed m ≡ false) e no_need))
  | inr (inr (inr (inl e))) ↦ false≢true (sym (subst (λ m. is_needed m ≡ false) e no_need))
  | inr (inr (inr (inr e))) ↦ false≢true (sym (subst (λ m. is_needed m ≡ false) e no_need))
]

-- an entry of a number that is not needed
free : (parts : List TableEntry) (n at : ℕ) (part : TableEntry) → slice_get parts at ≡ Some part → part.number ≡ n →
    is_needed n ≡ false → IsTight parts n
free parts n at part here number no_need = record {
  at = at;
  part = part;
  here = here;
  number = number;
  some = λ need. absurd (not_needed n no_need need);
}

-- an entry that has bytes
full : (parts : List TableEntry) (n at : ℕ) (part : TableEntry) → slice_get parts at ≡ Some part → part.number ≡ n →
    0 < length part.bytes → IsTight parts n
full parts n at part here number some = record {
  at = at;
  part = part;
  here = here;
  number = number;
  some = λ need. some;
}

bin_some : (bin : List ℕ) → 1 ≤ bin_count bin → 0 < length bin
bin_some bin some = omega (arith, some)

clx_some : (pieces : List TextPiece) (bytes : List ℕ) → IsPrintedClx pieces bytes → 0 < length bytes
clx_some pieces bytes printed =
    let plc = plc_bytes (map (λ (piece : TextPiece). piece.len) pieces) printed.pcds in
    let len = length-append (printed_prcs printed.prcs) (pcdt_bytes plc) in
    let all = ap length printed.spelt in
    omega (arith, all, len)

sheet_some : (sheet : Sheet) → 0 < length (written_sheet sheet)
sheet_some sheet =
    let rest = word (length sheet.styles) ++ (word 10 ++ flat_map word sheet.head) in
    let all = length-append (written_front sheet) (flat_map written_counted (written_slots 0 sheet.styles)) in
    let front = length-append (word 18) rest in
    let first = length-number_bytes 2 18 in
    omega (arith, all, front, first)

sections_some : (s : Save) → 0 < length (printed_sections s.saved.seds (length s.document.main))
sections_some s =
    let bytes = part_is s 3 PlcfSed (printed_sections s.saved.seds (length s.document.main)) refl in
    let all = (sections_part s).has.all in
    let some = some_sections s in
    let len = s.is.sections.properties.len in
    let counted : 0 < (length (table_part_bytes (the_source s) PlcfSed) - 4) / 16 = omega (arith, all, some, len) in
    omega (arith, counted, ap length bytes)

tight : (s : Save) → AreTight (saved_entries s.document s.saved) read_pairs
tight s =
    let parts = saved_entries s.document s.saved in
    let lists : AreTight parts (73 ∷ 74 ∷ []) = (
      free parts 73 17 _ refl refl refl,
      (free parts 74 18 _ refl refl refl, tt),
    ) in
    let clx = full parts 33 16 _ refl refl (clx_some s.saved.pieces s.saved.clx s.is.clx) in
    let later : AreTight parts (31 ∷ 32 ∷ 33 ∷ 73 ∷ 74 ∷ []) = (
      free parts 31 14 _ refl refl refl,
      (free parts 32 15 _ refl refl refl, (clx, lists)),
    ) in
    let fields : AreTight parts (15 ∷ 16 ∷ 17 ∷ 18 ∷ 31 ∷ 32 ∷ 33 ∷ 73 ∷ 74 ∷ []) = (
      free parts 15 7 _ refl refl refl,
      (
        free parts 16 8 _ refl refl refl,
        (free parts 17 9 _ refl refl refl, (free parts 18 10 _ refl refl refl, later)),
      ),
    ) in
    let characters = full parts 12 5 _ refl refl (bin_some s.saved.stream.characters s.is.characters.some) in
    let paragraphs = full parts 13 6 _ refl refl (bin_some s.saved.stream.paragraphs s.is.paragraphs.some) in
    let bins : AreTight parts (11 ∷ 12 ∷ 13 ∷ 15 ∷ 16 ∷ 17 ∷ 18 ∷ 31 ∷ 32 ∷ 33 ∷ 73 ∷ 74 ∷ []) = (
      free parts 11 4 _ refl refl refl,
      (characters, (paragraphs, fields)),
    ) in (
      full parts 1 0 _ refl refl (sheet_some s.document.sheet),
      (
        free parts 2 1 _ refl refl refl,
        (free parts 3 2 _ refl refl refl, (full parts 6 3 _ refl refl (sections_some s), bins)),
      ),
    )

pub pairs_hold : (s : Save) → Nowhere (BreaksPairs s.saved.stream.wd (length s.table))
pairs_hold s place w =
    let wd = s.saved.stream.wd in
    let found = tight_at (saved_entries s.document s.saved) read_pairs w.entry (tight s) w.below in
    let n = slice_index read_pairs w.entry in
    let placed = s.is.parts found.at found.part found.here in
    let within : (fib_pair wd n).0 + (fib_pair wd n).1 ≤ length s.table =
    subst (λ m. (fib_pair wd m).0 + (fib_pair wd m).1 ≤ length s.table) found.number (omega (arith, placed.within)) in
    let len : (fib_pair wd n).1 ≡ length found.part.bytes =
    subst (λ m. (fib_pair wd m).1 ≡ length found.part.bytes) found.number placed.len in
    elim w.broken.1 [
      | inl beyond ↦ omega (arith, beyond.1, within)
      | inr empty ↦ let some = found.some empty.1 in omega (arith, empty.0, len, some)
    ]
