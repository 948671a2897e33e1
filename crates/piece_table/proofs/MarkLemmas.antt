-- The marks of the Prcs that pieces name.
use Rattle.std.proofs.Common.{◌≡◌, ◌⊎◌, inl, inr, ℕ, ◌+◌, ◌<◌, Bool, false, IsTrue, ◌↔◌, List, length, slice_index_or}
use Rattle.std.proofs.Common.{sym, ap, ◌∙◌, arith}
use Rattle.std.proofs.lemmas.Bool.{cases_lt}
use Rattle.doc_bits.specs.Plc.{PlcPart}
use Rattle.piece_table.specs.declared.pcd.Prm.{Prm}
use Rattle.piece_table.specs.declared.pcd.Prm.TheVariants.{Prc}
use Rattle.piece_table.specs.Clx.{pcd_prm}

-- the first n pieces name the Prc
pub record IsNamedBefore (plc : PlcPart) (n number : ℕ) : Type 0 where
  pub piece : ℕ
  pub below : piece < n
  pub names : pcd_prm plc piece ≡ Prc number

-- the Prcs that the first n pieces name are marked
pub record AreMarked (plc : PlcPart) (prcs n : ℕ) (marks : List Bool) : Type 0 where
  pub count : length marks ≡ prcs
  pub marked : (number : ℕ) → IsTrue (slice_index_or marks number false) ↔ IsNamedBefore plc n number

-- one piece more, whose Prc is marked
pub one_marked : (plc : PlcPart) (prcs n : ℕ) (marks more : List Bool) (prm : Prm) → AreMarked plc prcs n marks →
    prm ≡ pcd_prm plc n → length more ≡ length marks →
    ((number : ℕ) → IsTrue (slice_index_or more number false) ↔ (IsTrue (slice_index_or marks number false) ⊎
    (prm ≡ Prc number))) → AreMarked plc prcs (n + 1) more
one_marked plc prcs n marks more prm have is long step = record {
  count = long ∙ have.count;
  marked = λ number. (
    λ yes. elim ((step number).0 yes) [
      | inl old ↦
          let before = (have.marked number).0 old in
          record { piece = before.piece; below = omega (arith, before.below); names = before.names }
      | inr here ↦ record { piece = n; below = omega arith; names = sym is ∙ here }
    ],
    λ named. elim (cases_lt named.piece n) [
      | inl low ↦ (step number).1 (inl ((have.marked number).1 (record {
        piece = named.piece;
        below = low;
        names = named.names;
      })))
      | inr high ↦
          let same : n ≡ named.piece = let below = named.below in omega arith in
          (step number).1 (inr (is ∙ (ap (pcd_prm plc) same ∙ named.names)))
    ],
  );
}
