-- The streams of a file are short, and so are the lists of its parts.
use Rattle.std.proofs.Common.{inl, inr, ap, ℕ, ◌+◌, ◌*◌, ◌<◌, ◌≤◌, ◌^◌, List, length, arith, length-take, length-drop}
use Rattle.cfb_streams.specs.Contents.{Contents}
use Rattle.doc_parts.specs.declared.lists.Sed.{Sed}
use Rattle.fib_form.specs.declared.table_parts.TablePart.{TablePart}
use Rattle.fib_form.specs.declared.table_parts.TablePart.TheVariants.{PlcfSed, PlcffndTxt}
use Rattle.file_rules.specs.Source.{DocSource, table_part_bytes}
use Rattle.file_rules.specs.SectionRules.{HasSections}
use Rattle.file_rules.specs.NoteRules.{HasNoteCuts}
use Rattle.file_rules.specs.FileRules.{FileText, AreSmall, HasFileText}
use Rattle.doc_read.specs.CarriedParts.{AreWithinBounds, LeavesRoom}
use Rattle.doc_read.proofs.StreamLemmas.{carried-few}

-- the longest stream
abbrev most_bytes : ℕ
most_bytes = 7143936

-- streams within bounds have 32-bit places
pub bounded-AreSmall : (contents : Contents) → AreWithinBounds contents → AreSmall contents
bounded-AreSmall contents bounds i stream here =
    let short = bounds.short i stream here in omega arith

-- the table stream is one of them
pub table-short : (contents : Contents) (text : FileText) → AreWithinBounds contents → HasFileText contents text →
    length text.table ≤ most_bytes
table-short contents text bounds has =
    let named = has.has_table in
    let short = bounds.short named.index named.stream named.here in
    omega (arith, ap length named.same)

-- two of them are not carried
pub leaves_room : (contents : Contents) (text : FileText) → AreWithinBounds contents → HasFileText contents text →
    LeavesRoom contents text.table
leaves_room contents text bounds has =
    record { few = carried-few contents text has; short = table-short contents text bounds has }

-- a part of it is no longer
part-short : (source : DocSource) (part : TablePart) → length source.table ≤ most_bytes →
    length (table_part_bytes source part) ≤ most_bytes
part-short source part short = simp (length-take, length-drop) (omega arith)

-- so there are few header texts
pub heads-few : (source : DocSource) (list : List Sed) → length source.table ≤ most_bytes → HasSections source list →
    6 + 6 * length list < 2 ^ 32
heads-few source list short has =
    let part = part-short source PlcfSed short in
    let all = has.all in
    omega arith

-- and few notes
pub notes-few : (source : DocSource) (list : List ℕ) → length source.table ≤ most_bytes → HasNoteCuts source list →
    length list < 2 ^ 32
notes-few source list short (inl some) =
    let part = part-short source PlcffndTxt short in
    let all = some.1.all in
    omega arith
notes-few source list short (inr none) = omega (arith, ap length none.1)
