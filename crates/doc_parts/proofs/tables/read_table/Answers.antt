use Rattle.std.proofs.Common.{◌≡◌, ◌<◌, ◌≤◌, ◌∙◌, ap, subst, length, arith}
use Rattle.doc_bits.specs.Plc.{PlcPart, IsPlcOf}
use Rattle.doc_parts.specs.Table.{plc_part, IsWholePlc, StopsAtWrong}
use Rattle.doc_parts.proofs.TableLemmas.{count_of_whole, table_of_plc, read_stops, read_all}
use Rattle.doc_parts.proofs.tables.read_table.Goals as goal
use Rattle.doc_parts.proofs.tables.read_table.Goals.{then-len, else-len}

pub returns-after-len : goal.returns-after-len
returns-after-len g c =
    let form = g.E.TableEntry.form in
    let bytes = c.args.part.now in
    let list = c.in_ok-entries-in-Ok.entries.items in
    let keeps = g.met.E.TableEntry.keeps_cp in
    let size : c.SIZE.result ≡ form.size = c.SIZE.ensures ∙ g.met.E.TableEntry.sized in
    let known : (c.in-Ok.plc ≡ record { bytes = bytes; size = form.size; count = c.in-Ok.plc.count }) × IsPlcOf bytes
    form.size c.in-Ok.plc.count =
    rw (← size) (c.in-Ok.ensures.0, c.in-Ok.ensures.1) in
    let same : c.in-Ok.plc ≡ plc_part form.size bytes = table_of_plc c.in-Ok.plc bytes form.size known.0 known.1 in
    let whole : IsWholePlc (plc_part form.size bytes) = rw (count_of_whole bytes form.size c.in-Ok.plc.count known.1)
    known.1 in
    let count : c.in-Ok.plc.count ≡ (plc_part form.size bytes).count = ap (λ (table : PlcPart). table.count) same in
    let read : StopsAtWrong form c.args.cps (plc_part form.size bytes) list = subst (λ table. StopsAtWrong form
    c.args.cps table list) same c.in_ok-entries-in-Ok.ensures in
    let len : c.len-len.result ≡ length list = omega arith in
    elim c.if-len.branch [
      | then-len w ↦
          let below : length list < (plc_part form.size bytes).count = omega arith in
          rw (w.fault-is, len) (read_stops form c.args.cps bytes c.args.at list keeps whole read below)
      | else-len w ↦
          let all : (plc_part form.size bytes).count ≤ length list = omega arith in
          rw w.fault-is (read_all form c.args.cps bytes c.args.at list keeps whole read all)
    ]
