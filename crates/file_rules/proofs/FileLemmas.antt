-- The rules of a file ascend, and each of their objects is the only one.
use Rattle.std.proofs.Common.{ℕ, List, length, lit<, lit≤}
use Rattle.doc_bits.specs.declared.places.Where.{Where}
use Rattle.doc_bits.specs.declared.places.Where.TheVariants.{File, Wd, Table}
use Rattle.doc_bits.specs.Rules.{Rules, rule, ◌then◌, given, IsSingle, Ascends}
use Rattle.doc_bits.specs.Places.{rules_in}
use Rattle.fib_form.specs.Fib.{fib_size, fib_pair}
use Rattle.fib_form.specs.FibFields.{fib_fields, text_length}
use Rattle.fib_form.specs.FibRules.{fib_rules}
use Rattle.fib_form.proofs.Public.{fib_rules-IsSingle, fib_rules-Ascends}
use Rattle.piece_table.specs.ClxRules.{clx_rules, text_bounds}
use Rattle.piece_table.proofs.Public.{clx_rules-IsSingle, clx_rules-Ascends}
use Rattle.cfb_streams.specs.Contents.{Contents}
use Rattle.cfb_streams.specs.Container.{container_rules, HasContents}
use Rattle.cfb_streams.proofs.Public.{container_single, container_ascends, contents_unique}
use Rattle.fib_form.specs.declared.table_parts.TablePart.TheVariants.{Clx, PlcfBteChpx, PlcfBtePapx}
use Rattle.fib_form.specs.TableParts.{pair_number}
use Rattle.fkp_pages.specs.declared.kind.PageKind.TheVariants.{Chpx, Papx}
use Rattle.direct_props.specs.PageRules.{page_rules}
use Rattle.direct_props.proofs.Public.{page_rules-Ascends}
use Rattle.file_rules.specs.FormatRules.{judged_places, paragraph_end_places, rules_of_formats}
use Rattle.file_rules.specs.SheetRules.{rules_of_sheet}
use Rattle.file_rules.specs.Source.{DocSource, table_part_bytes}
use Rattle.file_rules.specs.PartRules.{layout_rules, story_rules, part_rules}
use Rattle.file_rules.specs.FileRules.{table_stream_name, clx_of, doc_source_of, table_rules, wd_rules, loading_rules}
use Rattle.file_rules.specs.FileRules.{contents_rules, file_rules, rules_of_pieces}
use Rattle.cfb_streams.specs.Names.{wd_name}
use Rattle.file_rules.proofs.RefusalLemmas.{single_in}
use Rattle.file_rules.proofs.OneLemmas.{sections_one, sections_single, notes_one, heads_one}
use Rattle.file_rules.proofs.NameLemmas.{named_one}
use Rattle.file_rules.proofs.TextLemmas.{text_one}

-- the rules of a layer ascend in any part
pub ascends_in : (place : Where) (rules : Rules ℕ) (low high : ℕ) → Ascends rules low high →
    Ascends (rules_in place rules) low high
ascends_in place (rule number breaks) low high up = up
ascends_in place (first then next) low high up =
    (up.0, (ascends_in place first low up.0 up.1.0, (up.1.1.0, up.1.1.1, ascends_in place next up.0 high up.1.1.2)))
ascends_in place (given is rules) low high up = (up.0, λ x h. ascends_in place (rules x) low high (up.1 x h))

layout_single : (source : DocSource) → IsSingle (layout_rules source)
layout_single source = (sections_single source, (tt, tt))

format_single : (source : DocSource) → IsSingle (rules_of_formats source)
format_single source = (
  (λ a b ha hb. sections_one source a b ha hb),
  λ list h. (
    (tt, (tt, (tt, (tt, tt)))),
    (tt, (tt, (tt, (tt, tt)))),
  ),
)

story_single : (source : DocSource) → IsSingle (story_rules source)
story_single source = (
  tt,
  (
    tt,
    (
      ((λ a b ha hb. sections_one source a b ha hb), λ list h. tt),
      (
        (
          (λ a b ha hb. notes_one source a b ha hb),
          λ notes h. (
            (λ a b ha hb. heads_one source a b ha hb),
            λ heads h. tt,
          ),
        ),
        (tt, tt),
      ),
    ),
  ),
)

-- the rules 33 to 57
pub part_single : (source : DocSource) → IsSingle (part_rules source)
part_single source = (layout_single source, (format_single source, ((tt, (tt, tt)), story_single source)))

pub layout_ascends : (source : DocSource) → Ascends (layout_rules source) 33 39
layout_ascends source = (
  37,
  (
    (
      34,
      (
        (lit≤ tt, lit< tt),
        (
          lit≤ tt,
          lit≤ tt,
          (
            lit≤ tt,
            λ list h. (
              35,
              (
                (lit≤ tt, lit< tt),
                (lit≤ tt, lit≤ tt, (36, ((lit≤ tt, lit< tt), (lit≤ tt, lit≤ tt, (lit≤ tt, lit< tt))))),
              ),
            ),
          ),
        ),
      ),
    ),
    (lit≤ tt, lit≤ tt, (38, ((lit≤ tt, lit< tt), (lit≤ tt, lit≤ tt, (lit≤ tt, lit< tt))))),
  ),
)

story_ascends : (source : DocSource) → Ascends (story_rules source) 52 58
story_ascends source = (
  53,
  (
    (lit≤ tt, lit< tt),
    (
      lit≤ tt,
      lit≤ tt,
      (
        54,
        (
          (lit≤ tt, lit< tt),
          (
            lit≤ tt,
            lit≤ tt,
            (
              55,
              (
                (lit≤ tt, λ list h. (lit≤ tt, lit< tt)),
                (
                  lit≤ tt,
                  lit≤ tt,
                  (
                    56,
                    (
                      (lit≤ tt, λ notes h. (lit≤ tt, λ heads i. (lit≤ tt, lit< tt))),
                      (
                        lit≤ tt,
                        lit≤ tt,
                        (57, ((lit≤ tt, lit< tt), (lit≤ tt, lit≤ tt, (lit≤ tt, lit< tt)))),
                      ),
                    ),
                  ),
                ),
              ),
            ),
          ),
        ),
      ),
    ),
  ),
)

format_ascends : (source : DocSource) → Ascends (rules_of_formats source) 39 49
format_ascends source = (
  lit≤ tt,
  λ list h.
      let characters = table_part_bytes source PlcfBteChpx in
      let paragraphs = table_part_bytes source PlcfBtePapx in (
        44,
        (
          ascends_in Wd (page_rules Chpx source.wd characters (judged_places source)) 39 44 (page_rules-Ascends Chpx
              source.wd characters (judged_places source)),
          (
            lit≤ tt,
            lit≤ tt,
            ascends_in Wd (page_rules Papx source.wd paragraphs (paragraph_end_places source list)) 44 49
                (page_rules-Ascends Papx source.wd paragraphs (paragraph_end_places source list)),
          ),
        ),
      ),
)

sheet_ascends : (source : DocSource) → Ascends (rules_of_sheet source) 49 52
sheet_ascends source = (
  50,
  (
    (lit≤ tt, lit< tt),
    (
      lit≤ tt,
      lit≤ tt,
      (
        51,
        (
          (lit≤ tt, lit< tt),
          (
            lit≤ tt,
            lit≤ tt,
            (lit≤ tt, lit< tt),
          ),
        ),
      ),
    ),
  ),
)

pub part_ascends : (source : DocSource) → Ascends (part_rules source) 33 58
part_ascends source = (
  39,
  (
    layout_ascends source,
    (
      lit≤ tt,
      lit≤ tt,
      (
        49,
        (
          format_ascends source,
          (
            lit≤ tt,
            lit≤ tt,
            (52, (sheet_ascends source, (lit≤ tt, lit≤ tt, story_ascends source))),
          ),
        ),
      ),
    ),
  ),
)

-- the rules on pieces that have so many CPs
pub pieces_single : (wd table : List ℕ) (text_len : ℕ) → IsSingle (rules_of_pieces wd table text_len)
pieces_single wd table text_len =
    let clx = clx_of wd table in
    let at = (fib_pair wd (pair_number Clx)).0 in
    let bounds = text_bounds (fib_size wd) (length wd) in (
      tt,
      single_in Table (clx_rules clx at bounds text_len) (clx_rules-IsSingle clx at bounds text_len),
    )

pub pieces_ascend : (wd table : List ℕ) (text_len : ℕ) → Ascends (rules_of_pieces wd table text_len) 26 33
pieces_ascend wd table text_len =
    let clx = clx_of wd table in
    let at = (fib_pair wd (pair_number Clx)).0 in
    let bounds = text_bounds (fib_size wd) (length wd) in
    let clx_up = ascends_in Table (clx_rules clx at bounds text_len) 27 33 (clx_rules-Ascends clx at bounds text_len) in
    (27, ((lit≤ tt, lit< tt), (lit≤ tt, lit≤ tt, clx_up)))

table_single : (wd table : List ℕ) → IsSingle (table_rules wd table)
table_single wd table = pieces_single wd table (text_length (fib_fields wd).ccps)

table_ascends : (wd table : List ℕ) → Ascends (table_rules wd table) 26 33
table_ascends wd table = pieces_ascend wd table (text_length (fib_fields wd).ccps)

wd_ascends : (contents : Contents) (wd : List ℕ) → Ascends (wd_rules contents wd) 16 33
wd_ascends contents wd = (
  25,
  (
    ascends_in Wd (fib_rules wd) 16 25 (fib_rules-Ascends wd),
    (lit≤ tt, lit≤ tt, (26, ((lit≤ tt, lit< tt), (lit≤ tt, lit≤ tt, (lit≤ tt, λ table h. table_ascends wd table))))),
  ),
)

text_ascends : (contents : Contents) → Ascends (loading_rules contents) 15 33
text_ascends contents = (16, ((lit≤ tt, lit< tt), (lit≤ tt, lit≤ tt, (lit≤ tt, λ wd h. wd_ascends contents wd))))

contents_ascends : (contents : Contents) → Ascends (contents_rules contents) 15 58
contents_ascends contents =
    (33, (text_ascends contents, (lit≤ tt, lit≤ tt, (lit≤ tt, λ text h. part_ascends (doc_source_of text)))))

wd_single : (file : List ℕ) (contents : Contents) (wd : List ℕ) → HasContents file contents →
    IsSingle (wd_rules contents wd)
wd_single file contents wd has = (
  single_in Wd (fib_rules wd) (fib_rules-IsSingle wd),
  (
    tt,
    (
      (λ x y hx hy. named_one file contents (table_stream_name wd) x y has hx hy),
      λ table h. table_single wd
          table,
    ),
  ),
)

text_single : (file : List ℕ) (contents : Contents) → HasContents file contents → IsSingle (loading_rules contents)
text_single file contents has =
    (tt, ((λ x y hx hy. named_one file contents wd_name x y has hx hy), λ wd h. wd_single file contents wd has))

contents_single : (file : List ℕ) (contents : Contents) → HasContents file contents → IsSingle (contents_rules contents)
contents_single file contents has = (
  text_single file contents has,
  (
    (λ a b ha hb. text_one file contents a b has ha hb),
    λ text h. part_single
        (doc_source_of text),
  ),
)

pub file_single : (file : List ℕ) → IsSingle (file_rules file)
file_single file = (
  single_in File (container_rules file) (container_single file),
  (
    (λ x y hx hy. contents_unique file x y hx hy),
    λ contents has. contents_single file contents has,
  ),
)

pub file_ascends : (file : List ℕ) → Ascends (file_rules file) 1 58
file_ascends file = (
  15,
  (
    ascends_in File (container_rules file) 1 15 (container_ascends file),
    (
      lit≤ tt,
      lit≤ tt,
      (lit≤ tt, λ contents h. contents_ascends contents),
    ),
  ),
)
