use Rattle.std.proofs.Common.{◌≡◌, ◌∙◌, refl, sym, ap, subst, List, ℕ, length, arith}
use Rattle.doc_bits.specs.Number.{AreBytes}
use Rattle.cfb_streams.specs.Contents.{HasNamed}
use Rattle.cfb_streams.specs.Names.{wd_name}
use Rattle.fib_form.specs.FibFields.{FibFields, fib_fields}
use Rattle.fast_save.specs.Session.{text_base}
use Rattle.fast_save.proofs.OpenLemmas.{named_short}
use Rattle.fast_save.proofs.HeldLemmas.{held_container, held_contents, held_read, held_wd_there, held_wd_is, held_fib}
use Rattle.fast_save.proofs.fast_parts.FastParts.of_file.Goals as goal

pub load-requires : goal.load-requires
load-requires c = held_container c.args.file.now c.args.document.now c.requires

pub required_stream-requires : goal.required_stream-requires
required_stream-requires c =
    let file = c.args.file.now in
    let contents = c.in_ok-container.container in
    let held = c.requires in (
      held.holds.parts.text.wd,
      subst (λ (n : List ℕ). HasNamed contents.streams n held.holds.parts.text.wd) (sym c.word_document.ensures)
          (held_wd_there file c.args.document.now held contents c.in_ok-container.ensures),
    )

pub read_fib-fib-requires : goal.read_fib-fib-requires
read_fib-fib-requires c =
    let contents = c.in_ok-container.container in
    let required_stream : HasNamed contents.streams wd_name c.required_stream.result.now =
    subst (λ (n : List ℕ). HasNamed contents.streams n c.required_stream.result.now) c.word_document.ensures
    c.required_stream.ensures in
    held_fib c.args.file.now c.args.document.now c.requires contents c.in_ok-container.ensures
    c.required_stream.result.now required_stream

pub required_stream-requires-2 : goal.required_stream-requires-2
required_stream-requires-2 c =
    let file = c.args.file.now in
    let contents = c.in_ok-container.container in
    let held = c.requires in (
      held.holds.parts.text.wd,
      subst (λ (n : List ℕ). HasNamed contents.streams n held.holds.parts.text.wd) (sym c.word_document-2.ensures)
          (held_wd_there file c.args.document.now held contents c.in_ok-container.ensures),
    )

pub text_base-base-requires : goal.text_base-base-requires
text_base-base-requires c =
    let contents = c.in_ok-container.container in
    let held = c.requires in
    let fib = fib_fields held.holds.parts.text.wd in
    named_short contents fib
    (held_read c.args.file.now c.args.document.now held contents c.in_ok-container.ensures fib refl)
    c.word_document-2.result.now c.required_stream-2.result.now c.required_stream-2.ensures

pub section_places-requires : goal.section_places-requires
section_places-requires c =
    let file = c.args.file.now in
    let contents = c.in_ok-container.container in
    let required_stream : HasNamed contents.streams wd_name c.required_stream.result.now =
    subst (λ (n : List ℕ). HasNamed contents.streams n c.required_stream.result.now) c.word_document.ensures
    c.required_stream.ensures in
    let wd = held_wd_is file c.args.document.now c.requires contents c.in_ok-container.ensures
    c.required_stream.result.now
    required_stream in
    held_read file c.args.document.now c.requires contents c.in_ok-container.ensures c.read_fib-fib.result
    (c.read_fib-fib.ensures ∙ ap (λ (w : List ℕ). fib_fields w) wd)

pub returns : goal.returns
returns c = λ held.
    let file = c.args.file.now in
    let document = c.args.document.now in
    let contents = c.in_ok-container.container in
    let has = c.in_ok-container.ensures in
    let required_stream : HasNamed contents.streams wd_name c.required_stream.result.now =
    subst (λ (n : List ℕ). HasNamed contents.streams n c.required_stream.result.now) c.word_document.ensures
    c.required_stream.ensures in
    let again : HasNamed contents.streams wd_name c.required_stream-2.result.now =
    subst (λ (n : List ℕ). HasNamed contents.streams n c.required_stream-2.result.now) c.word_document-2.ensures
    c.required_stream-2.ensures in
    let fib : c.read_fib-fib.result ≡ fib_fields held.holds.parts.text.wd =
    c.read_fib-fib.ensures
    ∙ ap (λ (w : List ℕ). fib_fields w) (held_wd_is file document held contents has c.required_stream.result.now
    required_stream) in
    let bytes : AreBytes file = λ i. omega (arith, c.type_inv.file i) in
    record {
      bytes = bytes;
      base =
          c.text_base-base.ensures
          ∙ ap (λ (w : List ℕ). text_base (length w))
          (held_wd_is file document held contents has c.required_stream-2.result.now again);
      ends = λ ends ccps. c.ends_behind-ends.ensures ends (ap (λ (f : FibFields). f.ccps) fib ∙ ccps);
      places = c.in_ok-places.ensures (held_read file document held contents has c.read_fib-fib.result fib);
      fib = fib;
      contents = held_contents file document held contents has;
    }
