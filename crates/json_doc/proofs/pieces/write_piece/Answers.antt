use Rattle.std.proofs.Common.{codes}
use Rattle.std.specs.Prelude.{Some, option_map}
use Rattle.json.specs.Print.{escape_byte}
use Rattle.serde_json.specs.Data.{no_members}
use Rattle.json_values.specs.Digits.{units_json}
use Rattle.json_values.specs.Rows.{number_json, member_if}
use Rattle.json_values.specs.Settings.{properties_json}
use Rattle.json_doc.specs.Pieces.{mark_json, note_json}
use Rattle.json_doc.proofs.PieceLemmas.{from_units, from_note, from_mark}
use Rattle.json_doc.proofs.WrittenLemmas.{where_ok, adds, later}
use Rattle.json_doc.proofs.pieces.write_piece.Goals as goal

pub returns : goal.returns
unfolding escape_byte
returns c =
    let attached = c.args.first.now.attached.now in
    let units = c.args.units.now in
    where_ok c.push-2.result (λ last.
    adds c.in_ok-push.ensures.ok (adds c.in_ok-write_properties.ensures
    (later (codes "f") (option_map number_json attached.fld) (from_mark attached units) c.in_ok-write_field.ensures
    (later (codes "m") (option_map mark_json attached.mark) (from_note attached units) c.in_ok-write_mark.ensures
    (later (codes "n") (option_map note_json attached.note) (from_units attached units) c.in_ok-write_note.ensures
    (later (codes "t") (Some (units_json units))
    (member_if (codes "x") (option_map properties_json attached.sect) no_members) c.in_ok-write_units_of.ensures
    (later (codes "x") (option_map properties_json attached.sect) no_members c.in_ok-write_section.ensures last)))))))
    c.push-2.ensures.ok
