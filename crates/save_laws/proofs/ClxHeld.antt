-- The pieces of a saved document are read again, and break none of the rules 27 to 32.
use Rattle.std.specs.Prelude.{slice_get}
use Rattle.std.proofs.Common.{◌≡◌, ◌∙◌, refl, sym, ap, subst, ℕ, ◌+◌, ◌-◌, ◌*◌, ◌<◌, ◌≤◌, Bool, true, false, List, []}
use Rattle.std.proofs.Common.{◌∷◌, length, take, Some, arith, All}
use Rattle.std.proofs.lemmas.Option.{slice_get_within}
use Rattle.doc_bits.specs.Rules.{Hold}
use Rattle.doc_bits.proofs.Public.{there_is, All_at, All-from_slice_get}
use Rattle.fib_form.specs.Fib.{fib_size, fib_pair}
use Rattle.fib_form.specs.FibFields.{fib_fields, text_length}
use Rattle.fib_form.specs.TableParts.{pair_number}
use Rattle.fib_form.specs.declared.table_parts.TablePart.TheVariants.{Clx}
use Rattle.fib_form.proofs.Public.{sum-three}
use Rattle.piece_table.specs.Piece.{TextPiece, UnitPlace, unit_bytes, bare_piece, total_length, place_of_cp}
use Rattle.piece_table.specs.Piece.{IsTextPiece}
use Rattle.piece_table.specs.declared.pieces.TextBounds.{TextBounds}
use Rattle.piece_table.specs.Clx.{IsClx}
use Rattle.piece_table.specs.ClxRules.{StaysInStream, clx_rules, text_bounds}
use Rattle.piece_table.specs.Printing.{IsClxReadBack}
use Rattle.piece_table.proofs.Public.{read_back}
use Rattle.file_rules.specs.FileRules.{clx_of}
use Rattle.doc_read.proofs.Public.{place_at, place_in_piece}
use Rattle.save_laws.specs.Places.{StandsInside, fib_end}
use Rattle.save_laws.specs.Slots.{story_counts}
use Rattle.save_laws.proofs.PlaceLemmas.{stands_there}
use Rattle.save_laws.proofs.SavedLemmas.{Save, the_whole, the_flat, main_some, total_is, part_is}

-- the bounds of the text
abbrev pub saved_bounds : Save → TextBounds
saved_bounds s = text_bounds (fib_size s.saved.stream.wd) (length s.saved.stream.wd)

-- the place of each CP is in the stream
cp_stands : (s : Save) (cp : ℕ) (place : UnitPlace) → place_of_cp s.saved.pieces cp ≡ Some place →
    StandsInside s.saved.stream place.at place.wide
cp_stands s cp place here =
    let below : cp < length (the_whole s) = omega (arith, slice_get_within (the_flat s) cp place here, s.is.text.len) in
    let slot = there_is (the_whole s) cp below in
    stands_there s.saved.stream place slot.0 (s.is.text.each cp place slot.0 here slot.1)

-- a piece stays where its first and its last unit are
stays_by : (from at len end : ℕ) (wide : Bool) → 1 ≤ len → from ≤ at + 0 * unit_bytes wide →
    at + (len - 1) * unit_bytes wide + unit_bytes wide ≤ end → (from ≤ at) × (at + len * unit_bytes wide ≤ end)
stays_by from at len end true some first last = (omega (arith, first), omega (arith, some, last))
stays_by from at len end false some first last = (omega (arith, first), omega (arith, some, last))

piece_stays : (s : Save) (k : ℕ) (piece : TextPiece) → slice_get s.saved.pieces k ≡ Some piece →
    StaysInStream (saved_bounds s) (bare_piece piece)
piece_stays s k piece here =
    let is = All_at IsTextPiece s.saved.pieces k piece s.is.pieces.each here in
    let some = is.units.some in
    let front = total_length (take k s.saved.pieces) in
    let first =
    cp_stands s (front + 0) (place_at piece 0)
    (place_in_piece s.saved.pieces k 0 (front + 0) piece here (omega (arith, some)) refl) in
    let end : ℕ = piece.len - 1 in
    let last =
    cp_stands s (front + end) (place_at piece end)
    (place_in_piece s.saved.pieces k end (front + end) piece here (omega (arith, some)) refl) in
    let wd = s.saved.stream.wd in
    stays_by (fib_end wd) piece.at piece.len (length wd) piece.wide some first.behind_fib last.inside

pieces_stay : (s : Save) →
    All (λ (piece : TextPiece). StaysInStream (saved_bounds s) (bare_piece piece))
    s.saved.pieces
pieces_stay s =
    All-from_slice_get
    (λ (piece : TextPiece). StaysInStream (saved_bounds s) (bare_piece piece))
    s.saved.pieces (piece_stays s)

some_by : (pieces : List TextPiece) → 1 ≤ total_length pieces → 1 ≤ length pieces
some_by [] some = absurd (omega (arith, some))
some_by (piece ∷ pieces) some = omega arith

some_pieces : (s : Save) → 1 ≤ length s.saved.pieces
some_pieces s =
    let counted = sum-three (story_counts s.document s.saved.ends) refl in
    some_by s.saved.pieces (omega (arith, counted, total_is s, main_some s))

clx_read : (s : Save) (at : ℕ) → IsClxReadBack s.saved.pieces s.saved.clx at (saved_bounds s)
clx_read s at =
    read_back s.saved.pieces s.saved.clx at (saved_bounds s) s.is.pieces s.is.printable
    (some_pieces s) (pieces_stay s) s.is.clx

clx_part : (s : Save) → clx_of s.saved.stream.wd s.table ≡ s.saved.clx
clx_part s = part_is s 16 Clx s.saved.clx refl

pub pieces_are : (s : Save) → IsClx (clx_of s.saved.stream.wd s.table) s.saved.pieces
pieces_are s = subst (λ clx. IsClx clx s.saved.pieces) (sym (clx_part s)) (clx_read s 0).is

pub clx_holds : (s : Save) →
    Hold (clx_rules (clx_of s.saved.stream.wd s.table) (fib_pair s.saved.stream.wd (pair_number Clx)).0
    (saved_bounds s) (text_length (fib_fields s.saved.stream.wd).ccps))
clx_holds s =
    let wd = s.saved.stream.wd in
    let at = (fib_pair wd (pair_number Clx)).0 in
    let bounds = saved_bounds s in
    let len : total_length s.saved.pieces ≡ text_length (fib_fields wd).ccps =
    total_is s ∙ ap text_length (sym s.is.counts) in
    subst (λ clx. Hold (clx_rules clx at bounds (text_length (fib_fields wd).ccps))) (sym (clx_part s))
    (subst (λ n. Hold (clx_rules s.saved.clx at bounds n)) len (clx_read s at).holds)
