-- The front of the text, behind the FIB that was written, is loaded for the text that the streams name, or that of the
-- skipped streams; and read with its gaps filled.
use Rattle.std.proofs.Common.{◌∙◌, ◌<◌, ◌^◌, sym, ap, subst, length, arith, ℕ, List}
use Rattle.std.proofs.lemmas.Result.{err_from_is_err_and}
use Rattle.doc_bits.specs.Rules.{Hold, given}
use Rattle.fib_form.specs.Fib.{form_size}
use Rattle.fib_form.specs.FibFields.{FibFields, fib_fields}
use Rattle.fib_versions.specs.Versions.{all_text_length}
use Rattle.cfb_streams.specs.Names.{wd_name}
use Rattle.file_rules.specs.Faults.{IsReadFault}
use Rattle.file_rules.specs.PartRules.{part_rules}
use Rattle.file_rules.specs.FileRules.{IsFrontOf, rules_of_pieces}
use Rattle.file_rules.proofs.Public.{refused-first}
use Rattle.doc_lift.specs.LiftedRules.{IsLiftedSource, lifted_wd, read_table_rules}
use Rattle.doc_lift.specs.LiftedTexts.{IsLiftedBy}
use Rattle.doc_lift.specs.FilledTexts.{filled_rules}
use Rattle.doc_lift.specs.Reading.{IsReadWith, IsTextRead}
use Rattle.doc_lift.proofs.LiftLemmas.{written_front, has_front, stream_small, early_long, early_same}
use Rattle.doc_lift.proofs.LiftLemmas.{length-lifted_wd, read_small, deleted_found, offsets_found}
use Rattle.doc_lift.proofs.ReadLemmas.{IsFrontRead, lifted_text, refused_text, text_room, skipped_read}
use Rattle.doc_lift.proofs.ReadLemmas.{plain_read_streams, found_for, found_skipped, none_for}
use Rattle.doc_lift.proofs.text_lifting.lift_read.Goals as goal

pub early_fib-early-requires : goal.early_fib-early-requires
early_fib-early-requires c =
    subst (λ (w : List ℕ). length w < 2 ^ 32) (sym c.requires.same)
    (stream_small c.args.container.now wd_name c.args.wd.now c.requires.bounds c.requires.reads.has_wd)

pub with_fib-requires : goal.with_fib-requires
with_fib-requires c =
    omega (
      arith,
      ap (λ (f : FibFields). form_size f.form) c.early_fib-early.ensures,
      early_long c.args.wd.now c.requires.version,
    )

pub load_front-requires-clause-small : goal.load_front-requires-clause-small
load_front-requires-clause-small c =
    let wd = c.args.wd.now in
    let copy = c.in_ok-lifted in
    let lifted = c.deref.result.now in
    let early_is = early_same wd c.args.fib.now c.early_fib-early.result c.requires.same c.early_fib-early.ensures in
    let written = written_front wd c.early_fib-early.result lifted early_is (c.deref.ensures.value ∙ copy.ensures.bytes)
    (ap fib_fields c.deref.ensures.value ∙ copy.ensures.fields) in
    let small = stream_small c.args.container.now wd_name wd c.requires.bounds c.requires.reads.has_wd in
    omega (
      arith,
      ap length written.bytes,
      length-lifted_wd wd (early_long wd c.requires.version),
      small,
    )

pub load_front-requires-clause-table_small : goal.load_front-requires-clause-table_small
load_front-requires-clause-table_small c =
    read_small c.args.container.now c.args.wd.now c.args.table.now c.requires.bounds c.requires.reads

pub returns-in_err-front : goal.returns-in_err-front
returns-in_err-front c =
    let wd = c.args.wd.now in
    let table = c.args.table.now in
    let copy = c.in_ok-lifted in
    let lifted = c.deref.result.now in
    let early_is = early_same wd c.args.fib.now c.early_fib-early.result c.requires.same c.early_fib-early.ensures in
    let len_is = c.text_len.ensures.value ∙ ap all_text_length c.requires.same in
    let written = written_front wd c.early_fib-early.result lifted early_is (c.deref.ensures.value ∙ copy.ensures.bytes)
    (ap fib_fields c.deref.ensures.value ∙ copy.ensures.fields) in
    let p = err_from_is_err_and c.from_residual-in_err-front.result c.from_residual-in_err-front.ensures.1 in
    let fault = c.in_err-front.field-0.0 in
    let refused : IsReadFault (rules_of_pieces lifted table (all_text_length wd)) fault =
    subst (λ (n : ℕ). IsReadFault (rules_of_pieces lifted table n) fault) len_is c.in_err-front.ensures in
    let own : IsReadFault (rules_of_pieces (lifted_wd wd) table (all_text_length wd)) fault =
    subst (λ (w : List ℕ). IsReadFault (rules_of_pieces w table (all_text_length wd)) fault) written.bytes refused in
    rw (p.1, p.2)
    (refused-first (rules_of_pieces (lifted_wd wd) table (all_text_length wd)) (given (IsLiftedSource wd table)
    part_rules) fault own)

pub read_filled-requires-clause-room : goal.read_filled-requires-clause-room
read_filled-requires-clause-room c =
    let wd = c.args.wd.now in
    let table = c.args.table.now in
    let contents = c.args.container.now in
    let copy = c.in_ok-lifted in
    let lifted = c.deref.result.now in
    let early_is = early_same wd c.args.fib.now c.early_fib-early.result c.requires.same c.early_fib-early.ensures in
    let len_is = c.text_len.ensures.value ∙ ap all_text_length c.requires.same in
    let written = written_front wd c.early_fib-early.result lifted early_is (c.deref.ensures.value ∙ copy.ensures.bytes)
    (ap fib_fields c.deref.ensures.value ∙ copy.ensures.fields) in
    let held : Hold (rules_of_pieces lifted table (all_text_length wd)) =
    subst (λ (n : ℕ). Hold (rules_of_pieces lifted table n)) len_is c.in_ok-front.ensures.0 in
    let has = has_front wd table lifted written held in
    let text = c.in_ok-front.front.text in
    let units = c.in_ok-front.front.units.items in
    let front : IsFrontOf (lifted_wd wd) table text units =
    subst (λ (w : List ℕ). IsFrontOf w table text units) written.bytes c.in_ok-front.ensures.1 in
    let read = c.with_text-front.result.text in
    let for = found_for wd table units c.deref-2.result.now text read c.in-Some.text c.in_ok-found.found
    c.deref-2.ensures.value c.in_ok-found.ensures c.in-Some.is c.with_text-front.ensures.text in
    let is : IsFrontRead contents wd table units text read = record {
      reads = c.requires.reads;
      version = c.requires.version;
      has = has;
      front = front;
      for = for;
    } in
    text_room contents wd table units text read c.requires.bounds is

pub read_filled-requires-clause-read : goal.read_filled-requires-clause-read
read_filled-requires-clause-read c =
    let wd = c.args.wd.now in
    let table = c.args.table.now in
    let contents = c.args.container.now in
    let copy = c.in_ok-lifted in
    let lifted = c.deref.result.now in
    let early_is = early_same wd c.args.fib.now c.early_fib-early.result c.requires.same c.early_fib-early.ensures in
    let len_is = c.text_len.ensures.value ∙ ap all_text_length c.requires.same in
    let written = written_front wd c.early_fib-early.result lifted early_is (c.deref.ensures.value ∙ copy.ensures.bytes)
    (ap fib_fields c.deref.ensures.value ∙ copy.ensures.fields) in
    let held : Hold (rules_of_pieces lifted table (all_text_length wd)) =
    subst (λ (n : ℕ). Hold (rules_of_pieces lifted table n)) len_is c.in_ok-front.ensures.0 in
    let has = has_front wd table lifted written held in
    let text = c.in_ok-front.front.text in
    let units = c.in_ok-front.front.units.items in
    let front : IsFrontOf (lifted_wd wd) table text units =
    subst (λ (w : List ℕ). IsFrontOf w table text units) written.bytes c.in_ok-front.ensures.1 in
    let read = c.with_text-front.result.text in
    let for = found_for wd table units c.deref-2.result.now text read c.in-Some.text c.in_ok-found.found
    c.deref-2.ensures.value c.in_ok-found.ensures c.in-Some.is c.with_text-front.ensures.text in
    let is : IsFrontRead contents wd table units text read = record {
      reads = c.requires.reads;
      version = c.requires.version;
      has = has;
      front = front;
      for = for;
    } in
    let skips = found_skipped wd table units c.deref-2.result.now read c.in-Some.text c.in_ok-found.found
    c.deref-2.ensures.value c.in_ok-found.ensures c.in-Some.is c.with_text-front.ensures.text in
    let skipped = c.in_ok-skipped.skipped in
    let w = c.deref-in-Some.result.now in
    let t = c.deref-in-Some-2.result.now in
    subst (λ (f : List ℕ). IsTextRead f read w t) (sym c.requires.same)
    (skipped_read contents wd table units skipped.wd.items skipped.table.items w t read c.requires.bounds
    c.requires.reads c.requires.version c.in_ok-skipped.ensures skips c.deref-in-Some.ensures.value
    c.deref-in-Some-2.ensures.value)

pub returns-in_err-read : goal.returns-in_err-read
returns-in_err-read c =
    let wd = c.args.wd.now in
    let table = c.args.table.now in
    let contents = c.args.container.now in
    let copy = c.in_ok-lifted in
    let lifted = c.deref.result.now in
    let early_is = early_same wd c.args.fib.now c.early_fib-early.result c.requires.same c.early_fib-early.ensures in
    let len_is = c.text_len.ensures.value ∙ ap all_text_length c.requires.same in
    let written = written_front wd c.early_fib-early.result lifted early_is (c.deref.ensures.value ∙ copy.ensures.bytes)
    (ap fib_fields c.deref.ensures.value ∙ copy.ensures.fields) in
    let held : Hold (rules_of_pieces lifted table (all_text_length wd)) =
    subst (λ (n : ℕ). Hold (rules_of_pieces lifted table n)) len_is c.in_ok-front.ensures.0 in
    let has = has_front wd table lifted written held in
    let text = c.in_ok-front.front.text in
    let units = c.in_ok-front.front.units.items in
    let front : IsFrontOf (lifted_wd wd) table text units =
    subst (λ (w : List ℕ). IsFrontOf w table text units) written.bytes c.in_ok-front.ensures.1 in
    let read = c.with_text-front.result.text in
    let for = found_for wd table units c.deref-2.result.now text read c.in-Some.text c.in_ok-found.found
    c.deref-2.ensures.value c.in_ok-found.ensures c.in-Some.is c.with_text-front.ensures.text in
    let is : IsFrontRead contents wd table units text read = record {
      reads = c.requires.reads;
      version = c.requires.version;
      has = has;
      front = front;
      for = for;
    } in
    let fault = c.in_err-read.field-0.0 in
    let units_are = ap (λ v. v.items) c.with_text-front.ensures.units in
    let refused : IsReadFault (filled_rules wd units read) fault =
    subst (λ (us : List ℕ). IsReadFault (filled_rules wd us read) fault) units_are
    (subst (λ (f : List ℕ). IsReadFault (filled_rules f c.with_text-front.result.units.items read) fault)
    c.requires.same c.in_err-read.ensures) in
    let p = err_from_is_err_and c.from_residual-in_err-read.result c.from_residual-in_err-read.ensures.1 in
    rw (p.1, p.2) (refused_text contents wd table units text read fault is refused)

pub returns-in-Some : goal.returns-in-Some
returns-in-Some c =
    let wd = c.args.wd.now in
    let table = c.args.table.now in
    let contents = c.args.container.now in
    let copy = c.in_ok-lifted in
    let lifted = c.deref.result.now in
    let early_is = early_same wd c.args.fib.now c.early_fib-early.result c.requires.same c.early_fib-early.ensures in
    let len_is = c.text_len.ensures.value ∙ ap all_text_length c.requires.same in
    let written = written_front wd c.early_fib-early.result lifted early_is (c.deref.ensures.value ∙ copy.ensures.bytes)
    (ap fib_fields c.deref.ensures.value ∙ copy.ensures.fields) in
    let held : Hold (rules_of_pieces lifted table (all_text_length wd)) =
    subst (λ (n : ℕ). Hold (rules_of_pieces lifted table n)) len_is c.in_ok-front.ensures.0 in
    let has = has_front wd table lifted written held in
    let text = c.in_ok-front.front.text in
    let units = c.in_ok-front.front.units.items in
    let front : IsFrontOf (lifted_wd wd) table text units =
    subst (λ (w : List ℕ). IsFrontOf w table text units) written.bytes c.in_ok-front.ensures.1 in
    let read = c.with_text-front.result.text in
    let for = found_for wd table units c.deref-2.result.now text read c.in-Some.text c.in_ok-found.found
    c.deref-2.ensures.value c.in_ok-found.ensures c.in-Some.is c.with_text-front.ensures.text in
    let is : IsFrontRead contents wd table units text read = record {
      reads = c.requires.reads;
      version = c.requires.version;
      has = has;
      front = front;
      for = for;
    } in
    let units_are = ap (λ v. v.items) c.with_text-front.ensures.units in
    let found : IsReadWith wd contents read c.with_text-front.result.units.items c.in_ok-read.read =
    subst (λ (f : List ℕ). IsReadWith f contents read c.with_text-front.result.units.items c.in_ok-read.read)
    c.requires.same c.in_ok-read.ensures in
    let own : IsReadWith wd contents read units c.in_ok-read.read =
    subst (λ (us : List ℕ). IsReadWith wd contents read us c.in_ok-read.read) units_are found in
    let says = deleted_found wd table c.args.fib.now text c.in_ok-deleted.deleted.items c.requires.same
    c.in_ok-deleted.ensures in
    let named = offsets_found wd table c.args.fib.now units text c.in_ok-offsets.offsets.items c.requires.same
    c.in_ok-offsets.ensures in
    subst (IsLiftedBy (read_table_rules wd table) contents) (sym c.lifted_read.ensures)
    (lifted_text contents wd table units text read (record {
      document = c.in_ok-read.read.document;
      units = c.in_ok-read.read.units;
      deleted = c.in_ok-deleted.deleted;
      offsets = c.in_ok-offsets.offsets;
    }) is own.document_is own.units_are says named)

pub read_filled-requires-2-clause-room : goal.read_filled-requires-2-clause-room
read_filled-requires-2-clause-room c =
    let wd = c.args.wd.now in
    let table = c.args.table.now in
    let contents = c.args.container.now in
    let copy = c.in_ok-lifted in
    let lifted = c.deref.result.now in
    let early_is = early_same wd c.args.fib.now c.early_fib-early.result c.requires.same c.early_fib-early.ensures in
    let len_is = c.text_len.ensures.value ∙ ap all_text_length c.requires.same in
    let written = written_front wd c.early_fib-early.result lifted early_is (c.deref.ensures.value ∙ copy.ensures.bytes)
    (ap fib_fields c.deref.ensures.value ∙ copy.ensures.fields) in
    let held : Hold (rules_of_pieces lifted table (all_text_length wd)) =
    subst (λ (n : ℕ). Hold (rules_of_pieces lifted table n)) len_is c.in_ok-front.ensures.0 in
    let has = has_front wd table lifted written held in
    let text = c.in_ok-front.front.text in
    let units = c.in_ok-front.front.units.items in
    let front : IsFrontOf (lifted_wd wd) table text units =
    subst (λ (w : List ℕ). IsFrontOf w table text units) written.bytes c.in_ok-front.ensures.1 in
    let for = none_for wd table units c.deref-2.result.now text c.in_ok-found.found c.deref-2.ensures.value
    c.in_ok-found.ensures c.in_default.is in
    let is : IsFrontRead contents wd table units text text = record {
      reads = c.requires.reads;
      version = c.requires.version;
      has = has;
      front = front;
      for = for;
    } in
    text_room contents wd table units text text c.requires.bounds is

pub read_filled-requires-2-clause-read : goal.read_filled-requires-2-clause-read
read_filled-requires-2-clause-read c =
    let wd = c.args.wd.now in
    let table = c.args.table.now in
    let contents = c.args.container.now in
    let copy = c.in_ok-lifted in
    let lifted = c.deref.result.now in
    let early_is = early_same wd c.args.fib.now c.early_fib-early.result c.requires.same c.early_fib-early.ensures in
    let len_is = c.text_len.ensures.value ∙ ap all_text_length c.requires.same in
    let written = written_front wd c.early_fib-early.result lifted early_is (c.deref.ensures.value ∙ copy.ensures.bytes)
    (ap fib_fields c.deref.ensures.value ∙ copy.ensures.fields) in
    let held : Hold (rules_of_pieces lifted table (all_text_length wd)) =
    subst (λ (n : ℕ). Hold (rules_of_pieces lifted table n)) len_is c.in_ok-front.ensures.0 in
    let has = has_front wd table lifted written held in
    let text = c.in_ok-front.front.text in
    let units = c.in_ok-front.front.units.items in
    let front : IsFrontOf (lifted_wd wd) table text units =
    subst (λ (w : List ℕ). IsFrontOf w table text units) written.bytes c.in_ok-front.ensures.1 in
    let for = none_for wd table units c.deref-2.result.now text c.in_ok-found.found c.deref-2.ensures.value
    c.in_ok-found.ensures c.in_default.is in
    let is : IsFrontRead contents wd table units text text = record {
      reads = c.requires.reads;
      version = c.requires.version;
      has = has;
      front = front;
      for = for;
    } in
    let w = c.deref-3.result.now in
    subst (λ (f : List ℕ). IsTextRead f text w table) (sym c.requires.same)
    (plain_read_streams contents wd table units w text c.requires.bounds c.requires.reads c.requires.version has front
    (c.deref-3.ensures.value ∙ (sym c.deref.ensures.value ∙ written.bytes)))

pub returns-in_err-read-2 : goal.returns-in_err-read-2
returns-in_err-read-2 c =
    let wd = c.args.wd.now in
    let table = c.args.table.now in
    let contents = c.args.container.now in
    let copy = c.in_ok-lifted in
    let lifted = c.deref.result.now in
    let early_is = early_same wd c.args.fib.now c.early_fib-early.result c.requires.same c.early_fib-early.ensures in
    let len_is = c.text_len.ensures.value ∙ ap all_text_length c.requires.same in
    let written = written_front wd c.early_fib-early.result lifted early_is (c.deref.ensures.value ∙ copy.ensures.bytes)
    (ap fib_fields c.deref.ensures.value ∙ copy.ensures.fields) in
    let held : Hold (rules_of_pieces lifted table (all_text_length wd)) =
    subst (λ (n : ℕ). Hold (rules_of_pieces lifted table n)) len_is c.in_ok-front.ensures.0 in
    let has = has_front wd table lifted written held in
    let text = c.in_ok-front.front.text in
    let units = c.in_ok-front.front.units.items in
    let front : IsFrontOf (lifted_wd wd) table text units =
    subst (λ (w : List ℕ). IsFrontOf w table text units) written.bytes c.in_ok-front.ensures.1 in
    let for = none_for wd table units c.deref-2.result.now text c.in_ok-found.found c.deref-2.ensures.value
    c.in_ok-found.ensures c.in_default.is in
    let is : IsFrontRead contents wd table units text text = record {
      reads = c.requires.reads;
      version = c.requires.version;
      has = has;
      front = front;
      for = for;
    } in
    let fault = c.in_err-read-2.field-0.0 in
    let refused : IsReadFault (filled_rules wd units text) fault =
    subst (λ (f : List ℕ). IsReadFault (filled_rules f units text) fault) c.requires.same c.in_err-read-2.ensures in
    let p = err_from_is_err_and c.from_residual-in_err-read-2.result c.from_residual-in_err-read-2.ensures.1 in
    rw (p.1, p.2) (refused_text contents wd table units text text fault is refused)

pub returns : goal.returns
returns c =
    let wd = c.args.wd.now in
    let table = c.args.table.now in
    let contents = c.args.container.now in
    let copy = c.in_ok-lifted in
    let lifted = c.deref.result.now in
    let early_is = early_same wd c.args.fib.now c.early_fib-early.result c.requires.same c.early_fib-early.ensures in
    let len_is = c.text_len.ensures.value ∙ ap all_text_length c.requires.same in
    let written = written_front wd c.early_fib-early.result lifted early_is (c.deref.ensures.value ∙ copy.ensures.bytes)
    (ap fib_fields c.deref.ensures.value ∙ copy.ensures.fields) in
    let held : Hold (rules_of_pieces lifted table (all_text_length wd)) =
    subst (λ (n : ℕ). Hold (rules_of_pieces lifted table n)) len_is c.in_ok-front.ensures.0 in
    let has = has_front wd table lifted written held in
    let text = c.in_ok-front.front.text in
    let units = c.in_ok-front.front.units.items in
    let front : IsFrontOf (lifted_wd wd) table text units =
    subst (λ (w : List ℕ). IsFrontOf w table text units) written.bytes c.in_ok-front.ensures.1 in
    let for = none_for wd table units c.deref-2.result.now text c.in_ok-found.found c.deref-2.ensures.value
    c.in_ok-found.ensures c.in_default.is in
    let is : IsFrontRead contents wd table units text text = record {
      reads = c.requires.reads;
      version = c.requires.version;
      has = has;
      front = front;
      for = for;
    } in
    let own : IsReadWith wd contents text units c.in_ok-read-2.read =
    subst (λ (f : List ℕ). IsReadWith f contents text units c.in_ok-read-2.read) c.requires.same
    c.in_ok-read-2.ensures in
    let says = deleted_found wd table c.args.fib.now text c.in_ok-deleted.deleted.items c.requires.same
    c.in_ok-deleted.ensures in
    let named = offsets_found wd table c.args.fib.now units text c.in_ok-offsets.offsets.items c.requires.same
    c.in_ok-offsets.ensures in
    subst (IsLiftedBy (read_table_rules wd table) contents) (sym c.lifted_read-2.ensures)
    (lifted_text contents wd table units text text (record {
      document = c.in_ok-read-2.read.document;
      units = c.in_ok-read-2.read.units;
      deleted = c.in_ok-deleted.deleted;
      offsets = c.in_ok-offsets.offsets;
    }) is own.document_is own.units_are says named)
