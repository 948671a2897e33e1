-- The text of a file: it has one, and its streams tell it.
use Rattle.std.proofs.Common.{◌≡◌, ◌∙◌, sym, ap, subst, ℕ, List}
use Rattle.piece_table.specs.Piece.{TextPiece}
use Rattle.piece_table.specs.Clx.{IsClx}
use Rattle.piece_table.proofs.Public.{clx_pieces_one}
use Rattle.cfb_streams.specs.Contents.{Contents, HasNamed}
use Rattle.cfb_streams.specs.Container.{HasContents}
use Rattle.file_rules.specs.FileRules.{FileText, HasFileText, IsFileTextOf, table_stream_name, clx_of}
use Rattle.cfb_streams.specs.Names.{wd_name}
use Rattle.file_rules.proofs.NameLemmas.{named_one}

-- texts are the same where their streams and pieces are
same_text : (a b : FileText) → a.wd ≡ b.wd → a.table ≡ b.table → a.pieces ≡ b.pieces → a ≡ b
same_text a b e0 e1 e2 =
    let f0 : List ℕ → FileText = λ x. record a { wd = x } in
    let f1 : List ℕ → FileText = λ x. record b { table = x; pieces = a.pieces } in
    let f2 : List TextPiece → FileText = λ x. record b { pieces = x } in ap f0 e0 ∙ (ap f1 e1 ∙ ap f2 e2)

-- a file has one text
pub text_one : (file : List ℕ) (contents : Contents) (a b : FileText) → HasContents file contents → HasFileText contents
    a → HasFileText contents b → a ≡ b
text_one file contents a b has ha hb =
    let wd : a.wd ≡ b.wd = named_one file contents wd_name a.wd b.wd has ha.has_wd hb.has_wd in
    let named : HasNamed contents.streams (table_stream_name b.wd) a.table = subst (λ w. HasNamed contents.streams
    (table_stream_name w) a.table) wd ha.has_table in
    let table : a.table ≡ b.table = named_one file contents (table_stream_name b.wd) a.table b.table has named
    hb.has_table in
    let clx : IsClx (clx_of b.wd a.table) a.pieces = subst (λ w. IsClx (clx_of w a.table) a.pieces) wd ha.has_pieces in
    let same : IsClx (clx_of b.wd b.table) a.pieces = subst (λ t. IsClx (clx_of b.wd t) a.pieces) table clx in
    same_text a b wd table (clx_pieces_one (clx_of b.wd b.table) a.pieces b.pieces same hb.has_pieces)

-- the text of a WordDocument and of the table stream that it names
pub is-text_of : (contents : Contents) (wd table : List ℕ) (text : FileText) → HasNamed contents.streams
    (table_stream_name wd) table → text.wd ≡ wd → text.table ≡ table → IsClx (clx_of wd table) text.pieces →
    IsFileTextOf contents wd text
is-text_of contents wd table text named wd_is table_is clx = record {
  same = wd_is;
  has_table = subst (λ t. HasNamed contents.streams (table_stream_name wd) t) (sym table_is) named;
  has_pieces = subst (λ t. IsClx (clx_of wd t) text.pieces) (sym table_is) clx;
}

-- the text of the file's own WordDocument
pub has-text : (contents : Contents) (wd : List ℕ) (text : FileText) → HasNamed contents.streams wd_name wd →
    IsFileTextOf contents wd text → HasFileText contents text
has-text contents wd text named of = record {
  has_wd = subst (λ w. HasNamed contents.streams wd_name w) (sym of.same) named;
  has_table = subst (λ w. HasNamed contents.streams (table_stream_name w) text.table) (sym of.same) of.has_table;
  has_pieces = subst (λ w. IsClx (clx_of w text.table) text.pieces) (sym of.same) of.has_pieces;
}
