use Rattle.std.proofs.Common.{◌≡◌, ◌+◌, ◌≤◌, ℕ, List, length, arith}
use Rattle.summary_set.specs.PropertySet.{first_set_begin, offsets_of, first_set_size}
use Rattle.summary_set.specs.Form.{IsPropertySet}
use Rattle.summary_set.specs.Values.{value_end}
use Rattle.summary_set.proofs.FormLemmas.{head_of_rules}
use Rattle.summary_set.proofs.EndLemmas.{value_end-le}
use Rattle.summary_set.proofs.ValueLemmas.{value_end-least}
use Rattle.summary_set.proofs.set.PropertySet.value.Goals as goal

-- a value begins before it ends, and ends within the stream
value_lies : (b : List ℕ) (begin offset end : ℕ) → IsPropertySet b → begin ≡ first_set_begin b → offset + 4 ≤
    first_set_size b →
    end ≡ value_end (offsets_of b) (first_set_size b) offset
    → (offset ≤ end) × (begin + end ≤ length b)
value_lies b begin offset end formed here four ends =
    let within = (head_of_rules b formed.0).sized.within in
    let most = value_end-le (offsets_of b) (first_set_size b) offset in
    let least = value_end-least (offsets_of b) (first_set_size b) offset (omega arith) in
    (omega arith, omega arith)

pub slice_bounds-result-count : goal.slice_bounds-result-count
slice_bounds-result-count c =
    let lies = value_lies c.args.stream.now _ _ _ c.requires.formed c.requires.set.begin c.requires.pair
    c.end_of_value-end.ensures in
    omega (arith, lies.0, lies.1)

pub slice_bounds-result-start : goal.slice_bounds-result-start
slice_bounds-result-start c =
    let lies = value_lies c.args.stream.now _ _ _ c.requires.formed c.requires.set.begin c.requires.pair
    c.end_of_value-end.ensures in
    omega (arith, lies.0, lies.1)

pub slice_bounds-result-end : goal.slice_bounds-result-end
slice_bounds-result-end c =
    let lies = value_lies c.args.stream.now _ _ _ c.requires.formed c.requires.set.begin c.requires.pair
    c.end_of_value-end.ensures in
    omega (arith, lies.0, lies.1)
