-- A session whose counts do not refuse a fast save can be saved behind its file: there is room, and the table stream
-- has
-- places of 32 bits.
use Rattle.std.specs.Prelude.{slice_range, min, filter, nat_lt}
use Rattle.std.specs.List.{range_with_len}
use Rattle.std.specs.Option.{ForSome}
use Rattle.std.proofs.Common.{◌≡◌, ◌∙◌, refl, ap, subst, ℕ, suc, ◌+◌, ◌-◌, ◌*◌, ◌/◌, ◌^◌, ◌<◌, ◌≤◌}
use Rattle.std.proofs.Common.{Bool, true, false, cond, List, [], ◌∷◌, length, map, drop, arith}
use Rattle.std.proofs.Common.{length-append, length-take, length-drop}
use Rattle.std.proofs.lemmas.List.{length-map}
use Rattle.std.proofs.lemmas.List.FromFn.{length-range_with_len}
use Rattle.std.proofs.Math.Nat.{mul-le-mul_left}
use Rattle.doc_bits.specs.Together.{AreTogether}
use Rattle.doc_bits.proofs.Public.{get-map}
use Rattle.prop_map.specs.Settings.{Properties}
use Rattle.cfb_streams.specs.Names.{wd_name, table_name}
use Rattle.fib_form.specs.Fib.{fib_pair, table_part}
use Rattle.fib_form.specs.FibFields.{fib_fields}
use Rattle.fib_form.specs.TableParts.{pair_number}
use Rattle.fib_form.specs.declared.table_parts.TablePart.TheVariants.{PlcfBteChpx, PlcfBtePapx}
use Rattle.fkp_pages.specs.declared.kind.PageKind.{PageKind}
use Rattle.fkp_pages.specs.declared.kind.PageKind.TheVariants.{Chpx, Papx}
use Rattle.fkp_pages.specs.Bin.{bin_count}
use Rattle.fkp_pages.specs.InARow.{numbered_bins}
use Rattle.fkp_pages.proofs.Public.{length-printed_bin, length-numbered_bins}
use Rattle.piece_table.specs.Piece.{ArePieces}
use Rattle.piece_table.specs.Printing.{IsPrintedClx}
use Rattle.doc_model.specs.declared.document.Document.{Document}
use Rattle.doc_model.specs.Collected.{sections_of}
use Rattle.doc_model.specs.Document.{IsFormedText}
use Rattle.doc_model.specs.Formed.{IsFormed}
use Rattle.file_rules.specs.FileRules.{table_stream_name}
use Rattle.full_save.specs.WordDocument.{table_stream}
use Rattle.save_laws.specs.Saves.{HasPropertiesAt}
use Rattle.save_laws.specs.ClxLengths.{HaveShortPrcs}
use Rattle.save_laws.specs.FastSizes.{reckoned_sectors}
use Rattle.save_laws.proofs.Public.{clx_is_short, reckoned_prcs_are_short, tables_are_short}
use Rattle.fast_save_layout.specs.Appended.{old_stream, old_wd, old_table, old_bins, bins_end, added_pages}
use Rattle.fast_save_layout.specs.Appended.{added_page_count}
use Rattle.fast_save_layout.specs.Appended.{first_page}
use Rattle.fast_save_layout.specs.Appended.{added_pages_end}
use Rattle.fast_save_layout.specs.Appended.{fast_bins, fast_bin_table, fast_text, fast_table}
use Rattle.fast_save_layout.specs.AppendedLengths.{IsSaveCounted as IsCountedSave}
use Rattle.fast_save_layout.specs.Kept.{CanBeFastSaved}
use Rattle.fast_save_layout.specs.KeptBins.{bin_of, bins_of, kept_bins}
use Rattle.fast_save_layout.specs.RenewedStreams.{bytes_named}
use Rattle.fast_save_layout.specs.Saves.{FastSave}
use Rattle.fast_save_layout.proofs.Public.{table_within, length-planned_seds, pages_are_few, named_is}
use Rattle.session_text.specs.SessionText.{IsSectionPlan}
use Rattle.session_text.proofs.Public.{properties_are_listed}
use Rattle.fast_save.specs.declared.ledgers.Counts.{Counts}
use Rattle.fast_save.specs.declared.parts.SessionParts.{SessionParts}
use Rattle.fast_save.specs.Ledgers.{modifier_bytes, bytes_reckoned, sector_bound}
use Rattle.fast_save.specs.Session.{IsSessionCounted, saved_stream}
use Rattle.fast_save.specs.Started.{IsReadFile}
use Rattle.fast_save.specs.Fast.{IsCountedText, CanSaveFast, save_in, save_counts}
use Rattle.fast_save.proofs.OpenLemmas.{named_short}

-- ---- what is reckoned is small

bytes_small : (sectors bytes : ℕ) → min (sectors + (bytes + 499) / 500 + 8) (2 ^ 64 - 1) ≤ 13952 → bytes ≤ 6976000
bytes_small sectors bytes few = omega (arith, few)

bound_exact : (sectors bytes : ℕ) → min (sectors + (bytes + 499) / 500 + 8) (2 ^ 64 - 1) ≤ 13952 →
    sectors + (bytes + 499) / 500 + 8 ≡ min (sectors + (bytes + 499) / 500 + 8) (2 ^ 64 - 1)
bound_exact sectors bytes few = omega (arith, few)

-- what is left of the bytes that are reckoned
pub record AreSmall (counts : Counts) (table_bytes : ℕ) : Type 0 where
  pub text : 2 * counts.units + 528 * counts.runs + 512 * counts.sections ≤ 6976000
  pub clx : (12 + modifier_bytes counts) * counts.pieces ≤ 6976000
  pub table : table_bytes ≤ 6976000
  pub bins : counts.bin_bytes + 16 * counts.runs ≤ 6976000
  pub exact : reckoned_sectors (save_counts counts table_bytes) ≡ sector_bound counts table_bytes

parts_small : (units runs sections clx table bins : ℕ) →
    2 * units + 528 * runs + 512 * sections + clx + table + bins + 16384 ≤ 6976000 →
    (2 * units + 528 * runs + 512 * sections ≤ 6976000)
    × ((clx ≤ 6976000) × ((table ≤ 6976000) × (bins + 16 * runs ≤ 6976000)))
parts_small units runs sections clx table bins few =
    (omega (arith, few), (omega (arith, few), (omega (arith, few), omega (arith, few))))

pub are_small : (counts : Counts) (table_bytes : ℕ) → sector_bound counts table_bytes ≤ 13952 →
    AreSmall counts table_bytes
are_small counts table_bytes few =
    let bytes = bytes_reckoned counts table_bytes in
    let small = parts_small counts.units counts.runs counts.sections ((12 + modifier_bytes counts) * counts.pieces)
    table_bytes counts.bin_bytes (bytes_small counts.sectors bytes few) in
    record {
      text = small.0;
      clx = small.1.0;
      table = small.1.1.0;
      bins = small.1.1.1;
      exact = bound_exact counts.sectors bytes few;
    }

-- ---- ranges that are kept are no more than there are

few_left : {A : Type 0} (test : A → Bool) (xs : List A) → length (filter test xs) ≤ length xs
few_left test [] = omega arith
few_left test (x ∷ xs) =
    let rest = few_left test xs in
    elim (test x) as (λ b. length (cond b (x ∷ filter test xs) (filter test xs)) ≤ suc (length xs)) [
      | true ↦ omega (arith, rest)
      | false ↦ omega (arith, rest)
    ]

few_ranges : (table : List ℕ) → length (bins_of table) ≤ length table
few_ranges table =
    omega (
      arith,
      length-map (range_with_len 0 (bin_count table)) (bin_of table),
      length-range_with_len 0 (bin_count table),
    )

range_short : (xs : List ℕ) (from to : ℕ) → length (slice_range xs from to) ≤ length xs
range_short xs from to = omega (arith, length-take (to - from) (drop from xs), length-drop from xs)

-- ---- the save

-- the text as it was added: what is counted of a session is what a save needs
pub counted_as_added : (file : List ℕ) (document : Document) (parts : SessionParts) (counts : Counts) →
    IsSessionCounted file parts counts → IsCountedText file parts counts
counted_as_added file document parts counts is =
    let few = pages_are_few (save_in file document parts) in
    record {
      pieces = is.pieces;
      modified = is.modified;
      printed = is.printed;
      sectors = is.sectors;
      few = is.few;
      bins = is.bins;
      pages = omega (arith, few, is.pages);
      text = omega (arith, few, is.text);
      unwritten = is.unwritten;
    }

module _ {old : List ℕ} (document : Document) (parts : SessionParts) (can : CanSaveFast old document parts)
    (formed : IsFormed document) (items : IsFormedText parts.text.added.items)
    (pieces : ArePieces parts.text.pieces.pieces) where
  abbrev pub the_save : FastSave
  the_save = save_in old document parts

  abbrev full_table : ℕ
  full_table = length (table_stream document)

  abbrev pub old_file : IsReadFile can.session.held.parts.contents (fib_fields can.session.held.parts.text.wd)
  old_file = record {
    file = old;
    rules = can.session.held.rules;
    parts = can.session.held.parts;
    has = can.session.held.has_parts;
    contents_are = refl;
    fib_is = refl;
  }

  pub small : AreSmall can.counts full_table
  small = are_small can.counts full_table can.judged.sectors

  wd_short : length can.session.held.parts.text.wd ≤ 7143936
  wd_short =
      named_short can.session.held.parts.contents (fib_fields can.session.held.parts.text.wd) old_file wd_name
      can.session.held.parts.text.wd can.session.held.has_parts.has_text.has_wd

  table_is : old_table the_save ≡ can.session.held.parts.text.table
  table_is =
      let held = can.session.held in
      let has = held.has_parts in
      let start : old_table the_save ≡ bytes_named held.parts.contents.streams (table_stream_name held.parts.text.wd) =
      (λ i. bytes_named (can.session.contents i).streams (table_name (can.session.fib i).which_table)) in
      start
      ∙ named_is old held.parts.contents (table_stream_name held.parts.text.wd) held.parts.text.table
      has.has_contents
      has.has_text.has_table

  pub wd_is : old_wd the_save ≡ can.session.held.parts.text.wd
  wd_is =
      let held = can.session.held in
      let has = held.has_parts in
      let start : old_wd the_save ≡ bytes_named held.parts.contents.streams wd_name =
      (λ i. bytes_named (can.session.contents i).streams wd_name) in
      start
      ∙ named_is old held.parts.contents wd_name held.parts.text.wd has.has_contents has.has_text.has_wd

  pub old_stream_is : old_stream the_save ≡ saved_stream can.session.held
  old_stream_is = λ i. record {
    wd = wd_is i;
    characters = table_part (wd_is i) (table_is i) (pair_number PlcfBteChpx);
    paragraphs = table_part (wd_is i) (table_is i) (pair_number PlcfBtePapx);
  }

  table_short : length (old_table the_save) ≤ 7143936
  table_short =
      let held = can.session.held in
      let short = named_short held.parts.contents (fib_fields held.parts.text.wd) old_file
      (table_stream_name held.parts.text.wd) held.parts.text.table held.has_parts.has_text.has_table in
      omega (arith, ap length table_is, short)

  bins_short : (kind : PageKind) → length (old_bins kind the_save) ≤ 7143936
  bins_short Chpx =
      let pair = fib_pair (old_wd the_save) 12 in
      omega (arith, range_short (old_table the_save) pair.0 (pair.0 + pair.1), table_short)
  bins_short Papx =
      let pair = fib_pair (old_wd the_save) 13 in
      omega (arith, range_short (old_table the_save) pair.0 (pair.0 + pair.1), table_short)

  room : parts.text.added.base + 2 * length parts.text.added.items + 512 * added_page_count the_save ≤ 2 ^ 28
  room = omega (arith, can.session.base, wd_short, can.counted.text, small.text)

  bin_table_short : (kind : PageKind) → length (added_pages kind the_save).starts ≤ 20000 →
      length (fast_bin_table kind the_save) ≤ 60000000
  unfolding fast_bin_table
  bin_table_short kind few =
      let bins_there = old_bins kind the_save in
      let kept = few_left (λ bin. nat_lt bin.first parts.text.added.base) (bins_of bins_there) in
      let starts = (added_pages kind the_save).starts in
      let bins = numbered_bins (first_page kind the_save) starts in
      omega (
        arith,
        few,
        kept,
        few_ranges bins_there,
        bins_short kind,
        length-printed_bin (fast_bins kind the_save) (bins_end kind the_save),
        length-append (kept_bins bins_there parts.text.added.base) bins,
        length-numbered_bins (first_page kind the_save) starts,
      )

  pub prcs : HaveShortPrcs (modifier_bytes can.counts) parts.text.pieces.pieces
  prcs =
      reckoned_prcs_are_short parts.text.pieces.pieces can.counts.modified can.counts.printed pieces
      (record { fit = can.session.fit; none = can.counted.modified; short = can.counted.printed })

  clx_small : (clx : List ℕ) → IsPrintedClx parts.text.pieces.pieces clx → length clx ≤ 6976009
  clx_small clx printed =
      let least = clx_is_short parts.text.pieces.pieces clx (modifier_bytes can.counts) printed prcs in
      let most = mul-le-mul_left (12 + modifier_bytes can.counts) can.counted.pieces in
      omega (arith, least, most, small.clx)

  properties_of : AreTogether (λ place section. ForSome place (λ fc. HasPropertiesAt can.session.held.parts.text.wd fc
      section.1))
      parts.text.sections.items (sections_of document.main)
  properties_of =
      let wd = can.session.held.parts.text.wd in
      let second : (ℕ × Properties) → Properties = λ section. section.1 in
      let sections : List (ℕ × Properties) = sections_of document.main in
      let together : AreTogether (IsSectionPlan wd) parts.text.sections.items (map second sections) =
      subst (AreTogether (IsSectionPlan wd) parts.text.sections.items) (properties_are_listed document.main)
      can.session.sections in
      record {
        len = together.len ∙ length-map sections second;
        each = λ k place section here there.
            together.each k place section.1 here (get-map second sections k section there);
      }

  pub table_small : (clx : List ℕ) → IsPrintedClx parts.text.pieces.pieces clx → length (fast_table the_save clx) < 2
      ^ 31
  table_small clx printed =
      let seds = length-planned_seds 0 (added_pages_end the_save) parts.text.sections.items (sections_of document.main)
      properties_of.len in
      let short = tables_are_short document (fast_text the_save clx) seds in
      let text = small.text in
      let pages = can.counted.text in
      let characters = bin_table_short Chpx (omega (arith, text, pages)) in
      let paragraphs = bin_table_short Papx (omega (arith, text, pages)) in
      let within = table_within the_save clx in
      omega (arith, within, short, characters, paragraphs, clx_small clx printed, small.table)

  pub can_append : CanBeFastSaved the_save
  can_append = record {
    saved = can.session.saved;
    bytes = can.session.bytes;
    held = can.session.held;
    contents = can.session.contents;
    fib = can.session.fib;
    carried = can.session.carried;
    sound = can.session.sound;
    base = can.session.base;
    text = can.session.text.places;
    short = can.session.text.short;
    fit = can.session.fit;
    sections = properties_of;
    pieces = pieces;
    few = omega (arith, can.counted.pieces, can.judged.pieces);
    few_added = omega (arith, can.counted.text, small.text);
    room = room;
    table = table_small;
  }

  -- it is within what is counted
  pub counted : IsCountedSave (save_counts can.counts full_table) the_save
  unfolding can_append
  counted = record {
    can = can_append;
    formed = formed;
    items = items;
    text = can.counted.text;
    runs = can.counted.pages;
    sections = can.counted.unwritten;
    pieces = can.counted.pieces;
    prcs = prcs;
    table = omega arith;
    bins = can.counted.bins;
    sectors = can.counted.sectors;
  }
