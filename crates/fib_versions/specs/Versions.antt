-- [MS-DOC] FIB of any program from Word 97 to Word 2007. FibBase, FibRgW97, FibRgLw97 and the first 93 pairs are at
-- the same offsets in each; behind them are as many more pairs as its own number says, cswNew, and where that is not 0
-- the numbers of the later program. `wd` is the bytes of WordDocument.
use Rattle.std.specs.Prelude.{ℕ, zero, suc, ◌+◌, ◌-◌, ◌*◌, ◌==◌, min, List, if◌then◌else◌}
use Rattle.doc_bits.specs.Number.{u16_at, u32_at}
use Rattle.fib_form.specs.Fib.{CcpAtn, CbRgFcLcb, fib_number, field_offset, fib_pair_place, fib_ccp_text, fib_ccp_ftn}
use Rattle.fib_form.specs.Fib.{fib_ccp_hdd}
use Rattle.fib_versions.specs.declared.further.Further.{Further}
use Rattle.fib_versions.specs.declared.further.Further.TheVariants.{Comments, Endnotes, TextBoxes, HeaderTextBoxes}

-- [MS-DOC] cbRgFcLcb: the number of pairs
abbrev pub fib_pair_count : List ℕ → ℕ
fib_pair_count wd = fib_number CbRgFcLcb wd

-- [MS-DOC] cswNew, which is behind the pairs
abbrev pub csw_new : List ℕ → ℕ
csw_new wd = u16_at wd (fib_pair_place (fib_pair_count wd))

-- the size in bytes by these two numbers: a later program has nFibNew and one number more at least
abbrev pub version_size : List ℕ → ℕ
version_size wd = fib_pair_place (fib_pair_count wd) + (if csw_new wd == 0 then 2 else 6)

-- [MS-DOC] FibBase: pnNext, the page of the FIB of AutoText, or 0
abbrev pub pn_next : List ℕ → ℕ
pn_next wd = u16_at wd 8

-- [MS-DOC] FibRgLw97: the stories that are behind the header texts, by their places there
abbrev pub further_number : Further → ℕ
further_number Comments = 0
further_number Endnotes = 1
further_number TextBoxes = 2
further_number HeaderTextBoxes = 3

-- the number of characters of the k-th of them
abbrev pub further_ccp : List ℕ → ℕ → ℕ
further_ccp wd k = u32_at wd (field_offset CcpAtn + 4 * k)

abbrev pub further_count : List ℕ → Further → ℕ
further_count wd story = further_ccp wd (further_number story)

-- the number of characters of the main text, the notes and the header texts
abbrev pub early_ccp : List ℕ → ℕ
early_ccp wd = fib_ccp_text wd + fib_ccp_ftn wd + fib_ccp_hdd wd

-- the number of characters of the first k stories behind them
abbrev pub further_ccps : List ℕ → ℕ → ℕ
further_ccps wd zero = 0
further_ccps wd (suc k) = further_ccps wd k + further_ccp wd k

-- the number of characters of all seven stories
abbrev pub all_ccp : List ℕ → ℕ
all_ccp wd = early_ccp wd + further_ccps wd 4

-- the CP at which a story begins
abbrev pub further_start : List ℕ → Further → ℕ
further_start wd story = early_ccp wd + further_ccps wd (further_number story)

-- the number of CPs that the pieces cover: where a story is behind the main text, one more paragraph mark follows
abbrev pub all_text_length : List ℕ → ℕ
all_text_length wd = all_ccp wd + min 1 (all_ccp wd - fib_ccp_text wd)
