use Rattle.std.proofs.Common.{◌≡◌, ◌∙◌, ◌++◌, sym, ap, subst, List, ℕ, length, arith}
use Rattle.fib_form.specs.declared.table_parts.TablePart.TheVariants.{PlcfBteChpx, PlcfBtePapx}
use Rattle.fib_versions.specs.Early.{early_pairs}
use Rattle.fkp_pages.specs.declared.kind.PageKind.TheVariants.{Chpx, Papx}
use Rattle.fkp_pages.specs.Bin.{IsBinTable}
use Rattle.fkp_gaps.specs.Gaps.{ArePagesWithin}
use Rattle.doc_meaning.specs.Filled.{filled_pairs}
use Rattle.doc_lift.proofs.StreamLemmas.{AreFilledBins, AreMadeStreams, part_is, filled_bins, table_is_one, made_filled}
use Rattle.doc_lift.proofs.gap_filling.filled_streams.Goals as goal

pub filled_bin-requires-clause-table : goal.filled_bin-requires-clause-table
filled_bin-requires-clause-table c =
    let part = part_is c.args.fib.now c.args.wd.now c.args.table.now c.part-characters.result.now PlcfBteChpx
    c.requires.fields c.part-characters.ensures in
    subst IsBinTable (sym part) (c.requires.bins Chpx)

pub filled_bin-requires-clause-pages : goal.filled_bin-requires-clause-pages
filled_bin-requires-clause-pages c =
    let part = part_is c.args.fib.now c.args.wd.now c.args.table.now c.part-characters.result.now PlcfBteChpx
    c.requires.fields c.part-characters.ensures in
    let can = c.can_fill.ensures.0 c.if-not-can_fill.false in
    subst (λ (b : List ℕ). ArePagesWithin b c.args.wd.now) (sym part) (can.pages Chpx)

pub filled_bin-requires-2-clause-table : goal.filled_bin-requires-2-clause-table
filled_bin-requires-2-clause-table c =
    let part = part_is c.args.fib.now c.args.wd.now c.args.table.now c.part-paragraphs.result.now PlcfBtePapx
    c.requires.fields c.part-paragraphs.ensures in
    subst IsBinTable (sym part) (c.requires.bins Papx)

pub filled_bin-requires-2-clause-pages : goal.filled_bin-requires-2-clause-pages
filled_bin-requires-2-clause-pages c =
    let part = part_is c.args.fib.now c.args.wd.now c.args.table.now c.part-paragraphs.result.now PlcfBtePapx
    c.requires.fields c.part-paragraphs.ensures in
    let can = c.can_fill.ensures.0 c.if-not-can_fill.false in
    subst (λ (b : List ℕ). ArePagesWithin b c.args.wd.now) (sym part) (can.pages Papx)

pub returns-then-len-gt-MAX_TABLE : goal.returns-then-len-gt-MAX_TABLE
returns-then-len-gt-MAX_TABLE c =
    let wd = c.args.wd.now in
    let table = c.args.table.now in
    let chars = part_is c.args.fib.now wd table c.part-characters.result.now PlcfBteChpx c.requires.fields
    c.part-characters.ensures in
    let pars = part_is c.args.fib.now wd table c.part-paragraphs.result.now PlcfBtePapx c.requires.fields
    c.part-paragraphs.ensures in
    let bins : AreFilledBins wd table c.in_ok-chars.chars c.in_ok-pars.pars =
    filled_bins wd table c.part-characters.result.now c.part-paragraphs.result.now c.in_ok-chars.chars c.in_ok-pars.pars
    c.next_page_of-number.result c.next_page_of-number.result chars pars c.next_page_of-number.ensures
    c.next_page_of-number.ensures c.in_ok-chars.ensures c.in_ok-pars.ensures in
    let all : c.in_ok-all.all.items ≡ table ++ (c.in_ok-chars.chars ++ c.in_ok-pars.pars) =
    c.in_ok-all.ensures ∙ (λ i. table ++ (c.as_slice.ensures i ++ c.as_slice-2.ensures i)) in
    λ new_wd new_table are.
    let one = table_is_one c.args.fib.now wd table c.in_ok-chars.chars c.in_ok-pars.pars new_wd new_table
    c.requires.bins bins are.fills in
    absurd (omega (arith, ap length one, ap length all, are.short, c.len.ensures, c.if-len-gt-MAX_TABLE.true))

pub returns : goal.returns
returns c =
    let wd = c.args.wd.now in
    let table = c.args.table.now in
    let own = c.args.fib.now in
    let chars = c.in_ok-chars.chars in
    let pars = c.in_ok-pars.pars in
    let pairs = c.pairs_behind-pairs.result in
    let first = part_is own wd table c.part-characters.result.now PlcfBteChpx c.requires.fields
    c.part-characters.ensures in
    let second = part_is own wd table c.part-paragraphs.result.now PlcfBtePapx c.requires.fields
    c.part-paragraphs.ensures in
    let bins : AreFilledBins wd table chars pars =
    filled_bins wd table c.part-characters.result.now c.part-paragraphs.result.now chars pars
    c.next_page_of-number.result c.next_page_of-number.result first second c.next_page_of-number.ensures
    c.next_page_of-number.ensures c.in_ok-chars.ensures c.in_ok-pars.ensures in
    let all : c.in_ok-all.all.items ≡ table ++ (chars ++ pars) =
    c.in_ok-all.ensures ∙ (λ i. table ++ (c.as_slice.ensures i ++ c.as_slice-2.ensures i)) in
    let pairs_is : pairs ≡ filled_pairs (early_pairs own) (length table)
    (record { characters = chars; paragraphs = pars }) =
    c.pairs_behind-pairs.ensures.pairs
    ∙ (λ i. filled_pairs (early_pairs own) (length table)
    (record { characters = c.as_slice-3.ensures i; paragraphs = c.as_slice-4.ensures i })) in
    let made : AreMadeStreams own wd table chars pars pairs c.in_ok-front.front.items c.in_ok-all.all.items = record {
      bins = bins;
      pairs_is = pairs_is;
      are = c.pairs_behind-pairs.ensures.are;
      all_is = all;
      front_is = c.in_ok-front.ensures.bytes;
      fields = c.in_ok-front.ensures.fields;
      short = omega (arith, c.len.ensures, c.if-len-gt-MAX_TABLE.false);
    } in
    record {
      are = made_filled own wd table chars pars pairs c.in_ok-front.front.items c.in_ok-all.all.items
          (c.can_fill.ensures.0 c.if-not-can_fill.false) c.requires.short made;
      pairs = c.pairs_behind-pairs.ensures.are;
      fields = c.in_ok-front.ensures.fields;
    }
