use Rattle.std.proofs.Common.{◌∙◌, refl, ap, subst, List, ℕ, length}
use Rattle.cfb_streams.specs.Contents.{HasNamed}
use Rattle.cfb_streams.specs.Names.{wd_name}
use Rattle.fib_form.specs.FibFields.{FibFields}
use Rattle.doc_read.specs.Opened.{OpenedFile}
use Rattle.save_laws.specs.Ends.{ends_of}
use Rattle.session_text.specs.declared.session_text.SessionText.{SessionText}
use Rattle.session_text.specs.SessionText.{unwritten_count}
use Rattle.fast_save.specs.declared.parts.SessionParts.{SessionParts}
use Rattle.fast_save.specs.Session.{text_base}
use Rattle.fast_save.proofs.OpenLemmas.{read_file, named_short, wd_is}
use Rattle.fast_save.proofs.StartLemmas.{opened_stand, AreFileParts, begun, all_written}
use Rattle.fast_save.proofs.parts.SessionParts.of_file.Goals as goal

pub text_base-base-requires : goal.text_base-base-requires
text_base-base-requires c =
    let opened : OpenedFile = record {
      document = c.args.document.now;
      fib = c.args.fib;
      contents = c.args.container;
      pieces = c.args.pieces.pieces;
    } in
    named_short c.args.container c.args.fib (read_file opened c.requires) c.word_document.result.now
    c.required_stream.result.now
    c.required_stream.ensures

pub returns-clause-session : goal.returns-clause-session
returns-clause-session c = λ opening.
    let contents = c.args.container in
    let fib = c.args.fib in
    let opened : OpenedFile = record {
      document = c.args.document.now;
      fib = fib;
      contents = contents;
      pieces = c.args.pieces.pieces;
    } in
    let parts : SessionParts = record { text = c.new.result; fib = fib; container = contents } in
    let required_stream : HasNamed contents.streams wd_name c.required_stream.result.now =
    subst (λ (n : List ℕ). HasNamed contents.streams n c.required_stream.result.now) c.word_document.ensures
    c.required_stream.ensures in
    let wd = wd_is contents fib (read_file opened opening) c.required_stream.result.now required_stream in
    let stand = opened_stand opened opening in
    let are : AreFileParts opened opening parts = record {
      pieces = ap (λ (t : SessionText). t.pieces.pieces) c.new.ensures ∙ opening.is.pieces;
      items = ap (λ (t : SessionText). t.added.items) c.new.ensures;
      base =
          ap (λ (t : SessionText). t.added.base) c.new.ensures
          ∙ (c.text_base-base.ensures ∙ ap (λ (w : List ℕ). text_base (length w)) wd);
      ends =
          ap (λ (t : SessionText). ends_of t.ends) c.new.ensures
          ∙ c.ends_behind-ends.ensures stand.ends (ap (λ (f : FibFields). f.ccps) opening.is.fib ∙ stand.counts);
      sections =
          ap (λ (t : SessionText). t.sections.items) c.new.ensures
          ∙ c.in_ok-places.ensures (read_file opened opening);
      fib = refl;
      contents = refl;
    } in
    begun opened opening parts are

pub returns-clause-written : goal.returns-clause-written
returns-clause-written c =
    let opened : OpenedFile = record {
      document = c.args.document.now;
      fib = c.args.fib;
      contents = c.args.container;
      pieces = c.args.pieces.pieces;
    } in
    ap (λ (t : SessionText). unwritten_count t.sections.items) c.new.ensures
    ∙ (ap unwritten_count (c.in_ok-places.ensures (read_file opened c.requires))
    ∙ all_written c.requires.is.holds.parts.lists.sections)
