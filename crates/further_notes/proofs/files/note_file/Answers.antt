use Rattle.std.proofs.Common.{◌≡◌, ◌∙◌, ◌<◌, ◌≤◌, ◌^◌, ap, sym, subst, arith, ℕ, List, length, replicate}
use Rattle.doc_bits.specs.Rules.{Hold}
use Rattle.cfb_streams.specs.Contents.{NamedBytes}
use Rattle.cfb_layout.specs.declared.faults.LayoutFault.{LayoutFault}
use Rattle.cfb_layout.specs.Counts.{Fits}
use Rattle.cfb_layout.specs.Faults.{IsLayoutFault}
use Rattle.cfb_layout.specs.Layout.{lengths_of, compound_file}
use Rattle.fib_versions.specs.VersionRules.{version_rules}
use Rattle.further_notes.specs.NoteFiles.{note_streams, note_table, note_file}
use Rattle.further_notes.proofs.FileLemmas.{table_is, streams_are}
use Rattle.further_notes.proofs.files.note_file.Goals as goal

pub returns-then-len : goal.returns-then-len
returns-then-len c =
    let table = c.args.table.now in
    let longer : c.in_ok-longer.longer.items ≡ note_table c.args.story c.args.wd.now table =
    table_is c.args.story c.args.fib.now c.args.wd.now table c.as_slice.result.now c.in_ok-longer.longer.items
    c.requires.same (c.as_slice.ensures ∙ c.in_ok-refs.ensures) c.in_ok-longer.ensures in
    let long = ap length longer in
    λ fits. let short = fits.short in omega (arith, long, short, c.len.ensures, c.if-len.true)

pub ref_field-field-requires-clause-version : goal.ref_field-field-requires-clause-version
ref_field-field-requires-clause-version c =
    subst (λ (w : List ℕ). Hold (version_rules w)) (sym c.requires.same) c.requires.version

pub returns-in-Ok : goal.returns-in-Ok
unfolding note_file
returns-in-Ok c =
    let story = c.args.story in
    let wd = c.args.wd.now in
    let table = c.args.table.now in
    let longer : c.in_ok-longer.longer.items ≡ note_table story wd table =
    table_is story c.args.fib.now wd table c.as_slice.result.now c.in_ok-longer.longer.items c.requires.same
    (c.as_slice.ensures ∙ c.in_ok-refs.ensures) c.in_ok-longer.ensures in
    let long = ap length longer in
    let streams : c.in_ok-streams.streams ≡ note_streams story wd table =
    streams_are story c.args.fib.now wd table c.deref-2.result.now c.deref.result.now c.ref_field-field.result
    c.in_ok-streams.streams c.requires.same (c.deref-2.ensures.value ∙ longer) c.ref_field-field.ensures
    (c.deref.ensures.value ∙ c.in_ok-changed.ensures.bytes) c.in_ok-streams.ensures in (
      record {
        short = omega (arith, long, c.len.ensures, c.if-len.false);
        fits = subst (λ (s : List NamedBytes). Fits (lengths_of s)) streams c.in-Ok.ensures.0;
      },
      c.in-Ok.ensures.1 ∙ ap (λ (s : List NamedBytes). compound_file s (replicate 16 0)) streams,
    )

pub returns-in-Err-TooLarge : goal.returns-in-Err-TooLarge
returns-in-Err-TooLarge c =
    let story = c.args.story in
    let wd = c.args.wd.now in
    let table = c.args.table.now in
    let longer : c.in_ok-longer.longer.items ≡ note_table story wd table =
    table_is story c.args.fib.now wd table c.as_slice.result.now c.in_ok-longer.longer.items c.requires.same
    (c.as_slice.ensures ∙ c.in_ok-refs.ensures) c.in_ok-longer.ensures in
    let streams : c.in_ok-streams.streams ≡ note_streams story wd table =
    streams_are story c.args.fib.now wd table c.deref-2.result.now c.deref.result.now c.ref_field-field.result
    c.in_ok-streams.streams c.requires.same (c.deref-2.ensures.value ∙ longer) c.ref_field-field.ensures
    (c.deref.ensures.value ∙ c.in_ok-changed.ensures.bytes) c.in_ok-streams.ensures in
    let large = subst (λ (f : LayoutFault). IsLayoutFault (lengths_of c.in_ok-streams.streams) f)
    c.in-Err-TooLarge.field-0-is c.in-Err-TooLarge.ensures in
    λ fits.
    let same : Fits (lengths_of c.in_ok-streams.streams) =
    subst (λ (s : List NamedBytes). Fits (lengths_of s)) (sym streams) fits.fits in
    omega (arith, large.0, same)
