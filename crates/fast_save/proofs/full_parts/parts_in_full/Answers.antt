use Rattle.std.proofs.Common.{◌≡◌, ◌∙◌, sym, ap, subst, List, ℕ, length, arith}
use Rattle.doc_bits.specs.Number.{AreBytes}
use Rattle.doc_bits.specs.Rules.{Hold}
use Rattle.cfb_streams.specs.Contents.{HasNamed}
use Rattle.cfb_streams.specs.Container.{container_rules, HasContents}
use Rattle.cfb_streams.specs.Names.{wd_name}
use Rattle.fib_form.specs.FibFields.{FibFields, fib_fields, text_length}
use Rattle.fib_form.specs.FibRules.{fib_rules}
use Rattle.piece_table.specs.Piece.{one_piece}
use Rattle.doc_read.specs.Opened.{OpenedFile}
use Rattle.full_save.specs.Text.{text_items}
use Rattle.full_save.specs.WordDocument.{wd_stream, full_fib, text_offset}
use Rattle.full_save.specs.Layout.{full_save_image}
use Rattle.fast_save.specs.Session.{IsSession}
use Rattle.fast_save.specs.Started.{IsOpenFile}
use Rattle.fast_save.proofs.FullLemmas.{image_holds, image_fib, image_fields, image_has_wd, image_wd_is, image_length}
use Rattle.fast_save.proofs.FullLemmas.{full_open}
use Rattle.fast_save.proofs.full_parts.parts_in_full.Goals as goal
use Rattle.cfb_in_place.proofs.Public.{ok_more}

pub load-requires : goal.load-requires
load-requires c =
    let document = c.args.document.now in
    let bytes : AreBytes (full_save_image document) = subst AreBytes c.requires.file (λ i. omega (
      arith,
      c.type_inv.file i,
    )) in
    subst (λ (file : List ℕ). Hold (container_rules file)) (sym c.requires.file)
    (image_holds document c.requires.savable bytes)

pub required_stream-requires : goal.required_stream-requires
required_stream-requires c =
    let document = c.args.document.now in
    let bytes : AreBytes (full_save_image document) = subst AreBytes c.requires.file (λ i. omega (
      arith,
      c.type_inv.file i,
    )) in
    let contents = c.in_ok-container.container in
    let has : HasContents (full_save_image document) contents =
    subst (λ (file : List ℕ). HasContents file contents) c.requires.file c.in_ok-container.ensures in (
      wd_stream document,
      subst (λ (n : List ℕ). HasNamed contents.streams n (wd_stream document)) (sym c.word_document.ensures)
          (image_has_wd document c.requires.savable bytes contents has),
    )

pub read_fib-fib-requires : goal.read_fib-fib-requires
read_fib-fib-requires c =
    let document = c.args.document.now in
    let bytes : AreBytes (full_save_image document) = subst AreBytes c.requires.file (λ i. omega (
      arith,
      c.type_inv.file i,
    )) in
    let contents = c.in_ok-container.container in
    let has : HasContents (full_save_image document) contents =
    subst (λ (file : List ℕ). HasContents file contents) c.requires.file c.in_ok-container.ensures in
    let required_stream : HasNamed contents.streams wd_name c.required_stream.result.now =
    subst (λ (n : List ℕ). HasNamed contents.streams n c.required_stream.result.now) c.word_document.ensures
    c.required_stream.ensures in
    let wd : c.required_stream.result.now ≡ wd_stream document =
    image_wd_is document c.requires.savable bytes contents c.required_stream.result.now has required_stream in
    subst (λ (w : List ℕ). Hold (fib_rules w)) (sym wd) (image_fib document c.requires.savable bytes)

pub of_file-requires : goal.of_file-requires
of_file-requires c =
    let document = c.args.document.now in
    let bytes : AreBytes (full_save_image document) = subst AreBytes c.requires.file (λ i. omega (
      arith,
      c.type_inv.file i,
    )) in
    let contents = c.in_ok-container.container in
    let has : HasContents (full_save_image document) contents =
    subst (λ (file : List ℕ). HasContents file contents) c.requires.file c.in_ok-container.ensures in
    let required_stream : HasNamed contents.streams wd_name c.required_stream.result.now =
    subst (λ (n : List ℕ). HasNamed contents.streams n c.required_stream.result.now) c.word_document.ensures
    c.required_stream.ensures in
    let wd : c.required_stream.result.now ≡ wd_stream document =
    image_wd_is document c.requires.savable bytes contents c.required_stream.result.now has required_stream in
    let fib : c.read_fib-fib.result ≡ fib_fields (wd_stream document) =
    c.read_fib-fib.ensures ∙ ap (λ (w : List ℕ). fib_fields w) wd in
    let len : c.text_len.result ≡ length (text_items document) =
    c.text_len.ensures.value
    ∙ (ap (λ (f : FibFields). text_length f.ccps) fib ∙ image_length document c.requires.savable bytes) in
    let pieces : c.in_ok-pieces.pieces.pieces ≡ one_piece text_offset (length (text_items document)) =
    c.in_ok-pieces.ensures ∙ ap (one_piece text_offset) len in
    full_open document c.requires.savable bytes c.read_fib-fib.result contents c.in_ok-pieces.pieces.pieces has fib
    pieces

pub returns-clause-session : goal.returns-clause-session
returns-clause-session c =
    let document = c.args.document.now in
    let bytes : AreBytes (full_save_image document) = subst AreBytes c.requires.file (λ i. omega (
      arith,
      c.type_inv.file i,
    )) in
    let contents = c.in_ok-container.container in
    let has : HasContents (full_save_image document) contents =
    subst (λ (file : List ℕ). HasContents file contents) c.requires.file c.in_ok-container.ensures in
    let required_stream : HasNamed contents.streams wd_name c.required_stream.result.now =
    subst (λ (n : List ℕ). HasNamed contents.streams n c.required_stream.result.now) c.word_document.ensures
    c.required_stream.ensures in
    let wd : c.required_stream.result.now ≡ wd_stream document =
    image_wd_is document c.requires.savable bytes contents c.required_stream.result.now has required_stream in
    let fib : c.read_fib-fib.result ≡ fib_fields (wd_stream document) =
    c.read_fib-fib.ensures ∙ ap (λ (w : List ℕ). fib_fields w) wd in
    let len : c.text_len.result ≡ length (text_items document) =
    c.text_len.ensures.value
    ∙ (ap (λ (f : FibFields). text_length f.ccps) fib ∙ image_length document c.requires.savable bytes) in
    let pieces : c.in_ok-pieces.pieces.pieces ≡ one_piece text_offset (length (text_items document)) =
    c.in_ok-pieces.ensures ∙ ap (one_piece text_offset) len in
    let opened : OpenedFile = record {
      document = document;
      fib = c.read_fib-fib.result;
      contents = contents;
      pieces = c.in_ok-pieces.pieces.pieces;
    } in
    ok_more c.of_file.result (λ parts. (opening : IsOpenFile opened) → IsSession opening.file document parts)
    (IsSession c.args.file.now document)
    (λ parts session.
    subst (λ (file : List ℕ). IsSession file document parts) (sym c.requires.file)
    (session
    (full_open document c.requires.savable bytes c.read_fib-fib.result contents c.in_ok-pieces.pieces.pieces has fib
    pieces)))
    c.of_file.ensures.session

pub returns-clause-pieces : goal.returns-clause-pieces
returns-clause-pieces c =
    let document = c.args.document.now in
    let bytes : AreBytes (full_save_image document) = subst AreBytes c.requires.file (λ i. omega (
      arith,
      c.type_inv.file i,
    )) in
    let contents = c.in_ok-container.container in
    let has : HasContents (full_save_image document) contents =
    subst (λ (file : List ℕ). HasContents file contents) c.requires.file c.in_ok-container.ensures in
    let required_stream : HasNamed contents.streams wd_name c.required_stream.result.now =
    subst (λ (n : List ℕ). HasNamed contents.streams n c.required_stream.result.now) c.word_document.ensures
    c.required_stream.ensures in
    let wd : c.required_stream.result.now ≡ wd_stream document =
    image_wd_is document c.requires.savable bytes contents c.required_stream.result.now has required_stream in
    let fib : c.read_fib-fib.result ≡ fib_fields (wd_stream document) =
    c.read_fib-fib.ensures ∙ ap (λ (w : List ℕ). fib_fields w) wd in
    let len : c.text_len.result ≡ length (text_items document) =
    c.text_len.ensures.value
    ∙ (ap (λ (f : FibFields). text_length f.ccps) fib ∙ image_length document c.requires.savable bytes) in
    let pieces : c.in_ok-pieces.pieces.pieces ≡ one_piece text_offset (length (text_items document)) =
    c.in_ok-pieces.ensures ∙ ap (one_piece text_offset) len in
    ok_more c.of_file.result (λ parts. parts.text.pieces.pieces ≡ c.in_ok-pieces.pieces.pieces)
    (λ parts. parts.text.pieces.pieces ≡ one_piece text_offset (length (text_items document)))
    (λ parts is. is ∙ pieces) c.of_file.ensures.pieces

pub returns-clause-fib : goal.returns-clause-fib
returns-clause-fib c =
    let document = c.args.document.now in
    let bytes : AreBytes (full_save_image document) = subst AreBytes c.requires.file (λ i. omega (
      arith,
      c.type_inv.file i,
    )) in
    let contents = c.in_ok-container.container in
    let has : HasContents (full_save_image document) contents =
    subst (λ (file : List ℕ). HasContents file contents) c.requires.file c.in_ok-container.ensures in
    let required_stream : HasNamed contents.streams wd_name c.required_stream.result.now =
    subst (λ (n : List ℕ). HasNamed contents.streams n c.required_stream.result.now) c.word_document.ensures
    c.required_stream.ensures in
    let wd : c.required_stream.result.now ≡ wd_stream document =
    image_wd_is document c.requires.savable bytes contents c.required_stream.result.now has required_stream in
    let fib : c.read_fib-fib.result ≡ fib_fields (wd_stream document) =
    c.read_fib-fib.ensures ∙ ap (λ (w : List ℕ). fib_fields w) wd in
    ok_more c.of_file.result (λ parts. parts.fib ≡ c.read_fib-fib.result) (λ parts. parts.fib ≡ full_fib document)
    (λ parts is. is ∙ (fib ∙ image_fields document c.requires.savable bytes)) c.of_file.ensures.fib
