-- One session begins on a file.
use Rattle.std.proofs.Common.{◌≡◌, ◌↔◌, ◌∙◌, refl, sym, ap, subst, ℕ, List, Bool, true, false}
use Rattle.cfb_sectors.specs.Header.{sector_count}
use Rattle.fib_form.specs.FibFields.{fib_fields}
use Rattle.piece_table.specs.Piece.{TextPiece}
use Rattle.doc_read.specs.Holds.{FileParts}
use Rattle.doc_read.proofs.Public.{file_parts_one, document_one}
use Rattle.fast_save.specs.declared.ledgers.Counts.{Counts}
use Rattle.fast_save.specs.Ledgers.{AreUnmodified, AreCountsOf}
use Rattle.fast_save.specs.Session.{SessionView, bin_length}
use Rattle.fast_save.specs.Started.{IsStarted}

-- a flag that is off exactly where something holds
flag_one : (P : Type 0) (a b : Bool) → (a ≡ false ↔ P) → (b ≡ false ↔ P) → a ≡ b
flag_one P false false x y = refl
flag_one P false true x y = sym (y.1 (x.0 refl))
flag_one P true false x y = x.1 (y.0 refl)
flag_one P true true x y = refl

counts_one : (pieces : List TextPiece) (sectors bins : ℕ) (a b : Counts) → AreCountsOf pieces sectors bins a →
    AreCountsOf pieces sectors bins b → a ≡ b
counts_one pieces sectors bins a b x y =
    let pieces_same : a.pieces ≡ b.pieces = x.pieces_are ∙ sym y.pieces_are in
    let modified_same : a.modified ≡ b.modified =
    flag_one (AreUnmodified pieces) a.modified b.modified x.modified y.modified in
    let printed_same : a.printed ≡ b.printed = x.printed ∙ sym y.printed in
    let sectors_same : a.sectors ≡ b.sectors = x.sectors_are ∙ sym y.sectors_are in
    let bins_same : a.bin_bytes ≡ b.bin_bytes = x.bin_bytes_are ∙ sym y.bin_bytes_are in
    let units_same : a.units ≡ b.units = x.units ∙ sym y.units in
    let sections_same : a.sections ≡ b.sections = x.sections ∙ sym y.sections in
    let runs_same : a.runs ≡ b.runs = x.runs ∙ sym y.runs in
    λ i. record {
      pieces = pieces_same i;
      modified = modified_same i;
      printed = printed_same i;
      sectors = sectors_same i;
      bin_bytes = bins_same i;
      units = units_same i;
      sections = sections_same i;
      runs = runs_same i;
    }

-- one session begins on a file
pub session_one : (file : List ℕ) (a b : SessionView) → IsStarted file a → IsStarted file b → a ≡ b
session_one file a b x y =
    let one = x.holds in
    let other = y.holds in
    let parts : one.parts ≡ other.parts = file_parts_one file one.parts other.parts one.has_parts other.has_parts in
    let there =
    subst
    (λ (p : FileParts). AreCountsOf p.text.pieces (sector_count file) (bin_length (fib_fields p.text.wd)) b.counts)
    (sym parts) y.counts in
    let bytes_same : a.bytes ≡ b.bytes = x.bytes ∙ sym y.bytes in
    let document_same : a.document ≡ b.document = document_one file a.document b.document one other in
    let counts_same : a.counts ≡ b.counts = counts_one one.parts.text.pieces _ _ a.counts b.counts x.counts there in
    let saves_same : a.quick_saves ≡ b.quick_saves =
    x.quick_saves ∙ (ap (λ (p : FileParts). (fib_fields p.text.wd).quick_saves) parts ∙ sym y.quick_saves) in
    λ i. record {
      bytes = bytes_same i;
      document = document_same i;
      counts = counts_same i;
      quick_saves = saves_same i;
    }
