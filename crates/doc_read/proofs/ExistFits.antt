-- The text of a file has its units.
use Rattle.std.proofs.Common.{◌≡◌, ◌∙◌, ap, subst, ℕ, ◌+◌, ◌*◌, ◌<◌, ◌^◌, List, length, arith}
use Rattle.doc_bits.specs.declared.places.Where.TheVariants.{Table}
use Rattle.doc_bits.specs.Rules.{Hold}
use Rattle.doc_bits.proofs.Public.{number_at-bound}
use Rattle.doc_bits.specs.Number.{AreBytes}
use Rattle.cfb_streams.specs.Contents.{Contents}
use Rattle.cfb_streams.specs.Container.{HasContents}
use Rattle.fib_form.specs.Fib.{fib_size, fib_pair}
use Rattle.fib_form.specs.FibFields.{fib_fields, text_length}
use Rattle.piece_table.specs.Piece.{TextPiece, flat_pieces}
use Rattle.piece_table.specs.Clx.{ClxParts, IsClx, clx_pieces, plc_place}
use Rattle.piece_table.specs.ClxRules.{clx_rules, text_bounds}
use Rattle.piece_table.proofs.Public.{parts_unique, ascends_of, total_of_pieces, length-flat_pieces}
use Rattle.fib_form.specs.declared.table_parts.TablePart.TheVariants.{Clx}
use Rattle.fib_form.specs.TableParts.{pair_number}
use Rattle.file_rules.specs.FileRules.{FileText, HasFileText, table_stream_name, clx_of, table_rules, wd_rules}
use Rattle.file_rules.specs.FileRules.{loading_rules}
use Rattle.cfb_streams.specs.Names.{wd_name}
use Rattle.file_rules.proofs.Public.{named_one, hold_out}
use Rattle.doc_read.proofs.ExistText.{plc_bytes}

-- the rules on the pieces hold of the text that the file has
pub text_held : (file : List ℕ) (contents : Contents) (text : FileText) → Hold (loading_rules contents) →
    HasContents file contents → HasFileText contents text → Hold (table_rules text.wd text.table)
text_held file contents text h has has_text =
    let wd : h.1.0 ≡ text.wd = named_one file contents wd_name h.1.0 text.wd has h.1.1.0 has_text.has_wd in
    let held : Hold (wd_rules contents text.wd) = subst (λ w. Hold (wd_rules contents w)) wd h.1.1.1 in
    let next = held.1.1 in
    let table : next.0 ≡ text.table =
    named_one file contents (table_stream_name text.wd) next.0 text.table has next.1.0 has_text.has_table in
    subst (λ t. Hold (table_rules text.wd t)) table next.1.1

pub record TextFits (wd : List ℕ) (pieces : List TextPiece) : Type 0 where
  pub total : length (flat_pieces pieces) ≡ text_length (fib_fields wd).ccps
  pub few : text_length (fib_fields wd).ccps < 2 ^ 32

pub text_fits : (wd table : List ℕ) (pieces : List TextPiece) → AreBytes (clx_of wd table) →
    Hold (table_rules wd table) → IsClx (clx_of wd table) pieces → TextFits wd pieces
text_fits wd table pieces are h is =
    let clx = clx_of wd table in
    let at = (fib_pair wd (pair_number Clx)).0 in
    let len = text_length (fib_fields wd).ccps in
    let rules = hold_out Table (clx_rules clx at (text_bounds (fib_size wd) (length wd)) len) h.1 in
    let parts = rules.1.0 in
    let spelt = rules.1.1.0 in
    let same = parts_unique clx is.parts parts is.spelt spelt in
    let ascends = ascends_of parts.plc (at + plc_place parts) len rules.1.1.1.0.0 in
    let last = ascends.last in
    let bound = number_at-bound parts.plc.bytes (4 * parts.plc.count) 4 (plc_bytes clx parts are spelt) in
    record {
      total = length-flat_pieces pieces ∙ total_of_pieces parts.plc len pieces ascends (is.pieces_are ∙ ap
          (λ (p : ClxParts). clx_pieces p.plc) same);
      few = omega arith;
    }
