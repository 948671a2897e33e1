use Rattle.std.proofs.Common.{◌∙◌, inl, inr, List, length, sym, ap, subst, arith}
use Rattle.doc_bits.specs.declared.places.Where.TheVariants.{File}
use Rattle.cfb_streams.specs.Contents.{NamedBytes, AreStreams}
use Rattle.cfb_streams.specs.Container.{container_rules}
use Rattle.cfb_layout.specs.Counts.{Fits, sectors_needed}
use Rattle.cfb_layout.specs.declared.faults.LayoutFault.TheVariants.{TooLarge}
use Rattle.cfb_layout.specs.Layout.{lengths_of, compound_file}
use Rattle.cfb_in_place.specs.Change.{StreamChange}
use Rattle.cfb_in_place.specs.Contract.{CanBePutInPlace as CanBePut, IsSavedInPlace, NeedsTooMany as NeedTooMany}
use Rattle.file_rules.proofs.Public.{hold_out}
use Rattle.fast_save_layout.specs.Saves.{FastSave, fast_save_of}
use Rattle.fast_save_layout.specs.Appended.{table_name_of}
use Rattle.fast_save_layout.specs.Bodies.{IsWriteFault}
use Rattle.fast_save_layout.proofs.ReadyLemmas.{long_wd}
use Rattle.fast_save_layout.proofs.WrittenLemmas.{Made, made_of, sizes}
use Rattle.fast_save_layout.proofs.SavedLemmas.{bounds, has_contents, streams_are, appended_anew}
use Rattle.fast_save_layout.proofs.SavedInPlace.{can_change, appended_in_place, anew_needs, too_many_there}
use Rattle.fast_save_layout.proofs.AppendSteps.{streams_made, change_made}
use Rattle.fast_save_layout.proofs.saving.append.Goals as goal

pub saved_by-requires : goal.saved_by-requires
saved_by-requires c =
    let save : FastSave = fast_save_of c.args.old.now c.args.document.now c.args.text.now in
    let made = c.in_ok-parts.ensures in
    let m : Made = made_of save c.in_ok-parts.parts c.requires made in
    let streams = streams_made c.args.old.now c.args.document.now c.args.text.now c.in_ok-parts.parts c.requires made in
    let change = change_made c.args.old.now c.args.document.now c.args.text.now c.in_ok-parts.parts made in
    let fib = ap length made.fib in
    let size = sizes m in
    let long_fib = long_wd m.ready in
    record {
      anew = λ short. record {
        fib = omega (arith, fib, size.fib, long_fib);
        streams = subst AreStreams (sym streams) (streams_are m);
        few = (bounds m.ready).few;
      };
      behind = λ long. record {
        rules = hold_out File (container_rules save.file) c.requires.held.rules.0;
        contents = has_contents m.ready;
        change = subst (λ (x : StreamChange). CanBePut save.contents x (table_name_of save)) (sym change) (can_change m
            long);
      };
    }

pub returns-in-Ok : goal.returns-in-Ok
returns-in-Ok c =
    let save : FastSave = fast_save_of c.args.old.now c.args.document.now c.args.text.now in
    let made = c.in_ok-parts.ensures in
    let m : Made = made_of save c.in_ok-parts.parts c.requires made in
    let file = c.in-Ok.file in
    elim c.in-Ok.ensures [
      | inl anew ↦
          let streams = streams_made c.args.old.now c.args.document.now c.args.text.now c.in_ok-parts.parts c.requires
          made in
          appended_anew m file anew.0 (subst (λ (xs : List NamedBytes). Fits (lengths_of xs)) streams anew.1.0)
          (anew.1.1 ∙ ap (λ (xs : List NamedBytes). compound_file xs save.contents.clsid) streams)
      | inr behind ↦
          let change = change_made c.args.old.now c.args.document.now c.args.text.now c.in_ok-parts.parts made in
          appended_in_place m file behind.0
          (subst (λ (x : StreamChange). IsSavedInPlace save.file file save.contents x (table_name_of save)) change
          behind.1)
    ]

pub returns-in-Err-TooLarge : goal.returns-in-Err-TooLarge
returns-in-Err-TooLarge c =
    let save : FastSave = fast_save_of c.args.old.now c.args.document.now c.args.text.now in
    let made = c.in_ok-parts.ensures in
    let m : Made = made_of save c.in_ok-parts.parts c.requires made in
    let sectors = c.in-Err-TooLarge.sectors in
    let fault : IsWriteFault c.args.old.now c.args.text.now.base c.in_ok-parts.parts (TooLarge sectors) =
    subst (λ f. IsWriteFault c.args.old.now c.args.text.now.base c.in_ok-parts.parts f) c.in-Err-TooLarge.field-0-is
    c.in-Err-TooLarge.ensures in
    elim fault [
      | inl anew ↦
          let streams = streams_made c.args.old.now c.args.document.now c.args.text.now c.in_ok-parts.parts c.requires
          made in
          let most = anew.1.0 in
          let number = anew.1.1 in
          record {
            clx = made.clx;
            printed = made.printed;
            many = omega (arith, most, number);
            number =
                number
                ∙ (ap (λ (xs : List NamedBytes). sectors_needed (lengths_of xs)) streams
                ∙ sym (anew_needs save made.clx anew.0));
          }
      | inr behind ↦
          let change = change_made c.args.old.now c.args.document.now c.args.text.now c.in_ok-parts.parts made in
          too_many_there m sectors behind.0
          (subst (λ (x : StreamChange). NeedTooMany save.file save.contents x (table_name_of save) sectors) change
          behind.1)
    ]
