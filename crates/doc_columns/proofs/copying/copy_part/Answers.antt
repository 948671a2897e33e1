-- The range of each column.
use Rattle.std.proofs.Common.{◌∙◌, refl, arith}
use Rattle.run_lists.specs.Spread.{expanded}
use Rattle.doc_columns.specs.Columns.{AreColumns}
use Rattle.doc_columns.specs.Walks.{items_in}
use Rattle.doc_columns.proofs.ItemsOfLemmas.{length-items_of}
use Rattle.doc_columns.proofs.ChangesLemmas.{range_are, range_columns}
use Rattle.doc_columns.proofs.WindowLemmas.{columns_of_parts}
use Rattle.doc_columns.proofs.copying.copy_part.Goals as goal

pub copy_runs-requires-clause-within : goal.copy_runs-requires-clause-within
copy_runs-requires-clause-within c = omega (arith, c.requires.parts.chps_long, c.requires.within)

pub copy_runs-requires-clause-few : goal.copy_runs-requires-clause-few
copy_runs-requires-clause-few c = omega (arith, c.requires.parts.chps_long, c.requires.parts.few)

pub copy_runs-requires-2-clause-within : goal.copy_runs-requires-2-clause-within
copy_runs-requires-2-clause-within c = omega (arith, c.requires.parts.attachments_long, c.requires.within)

pub copy_runs-requires-2-clause-few : goal.copy_runs-requires-2-clause-few
copy_runs-requires-2-clause-few c = omega (arith, c.requires.parts.attachments_long, c.requires.parts.few)

pub from_parts-requires-clause-few : goal.from_parts-requires-clause-few
from_parts-requires-clause-few c =
    let parts = c.args.parts.now in
    let us = c.in_ok-units.units.items in
    let cs = c.in_ok-chps.chps in
    let bs = c.in_ok-attachments.attachments in
    let are : AreColumns us cs bs =
    range_are parts.units.now (expanded parts.chps.now) (expanded parts.attachments.now) us cs bs c.args.from c.args.to
    (columns_of_parts parts c.requires.parts c.requires.formed) c.requires.ordered c.requires.within
    c.in_ok-units.ensures.items c.in_ok-chps.ensures.copy c.in_ok-attachments.ensures.copy in
    omega (arith, are.formed.few, length-items_of us cs bs are.chps_long are.attachments_long)

pub from_parts-requires-clause-chps : goal.from_parts-requires-clause-chps
from_parts-requires-clause-chps c =
    let parts = c.args.parts.now in
    (range_are parts.units.now (expanded parts.chps.now) (expanded parts.attachments.now) c.in_ok-units.units.items
    c.in_ok-chps.chps c.in_ok-attachments.attachments c.args.from c.args.to
    (columns_of_parts parts c.requires.parts c.requires.formed) c.requires.ordered c.requires.within
    c.in_ok-units.ensures.items c.in_ok-chps.ensures.copy c.in_ok-attachments.ensures.copy).chps_long

pub from_parts-requires-clause-attachments : goal.from_parts-requires-clause-attachments
from_parts-requires-clause-attachments c =
    let parts = c.args.parts.now in
    (range_are parts.units.now (expanded parts.chps.now) (expanded parts.attachments.now) c.in_ok-units.units.items
    c.in_ok-chps.chps c.in_ok-attachments.attachments c.args.from c.args.to
    (columns_of_parts parts c.requires.parts c.requires.formed) c.requires.ordered c.requires.within
    c.in_ok-units.ensures.items c.in_ok-chps.ensures.copy c.in_ok-attachments.ensures.copy).attachments_long

pub from_parts-requires-clause-maps : goal.from_parts-requires-clause-maps
from_parts-requires-clause-maps c =
    let parts = c.args.parts.now in
    let are =
    range_are parts.units.now (expanded parts.chps.now) (expanded parts.attachments.now) c.in_ok-units.units.items
    c.in_ok-chps.chps c.in_ok-attachments.attachments c.args.from c.args.to
    (columns_of_parts parts c.requires.parts c.requires.formed) c.requires.ordered c.requires.within
    c.in_ok-units.ensures.items c.in_ok-chps.ensures.copy c.in_ok-attachments.ensures.copy in
    λ k d below. (are.formed.each k d below).maps

pub returns : goal.returns
returns c =
    let parts = c.args.parts.now in
    c.from_parts.ensures
    ∙ range_columns parts.units.now (expanded parts.chps.now) (expanded parts.attachments.now) c.in_ok-units.units.items
    c.in_ok-chps.chps c.in_ok-attachments.attachments (items_in parts) c.args.from c.args.to c.in_ok-units.ensures.items
    c.in_ok-chps.ensures.copy c.in_ok-attachments.ensures.copy refl
