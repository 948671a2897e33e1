use Rattle.std.proofs.Common.{◌≡◌, ◌∙◌, ◌+◌, ◌<◌, ◌≤◌, [], refl, ap, sym, not, arith, Bool, List, length, take, get_or}
use Rattle.std.specs.Prelude.{slice_get, slice_range, Some}
use Rattle.std.proofs.lemmas.Option.{slice_get_read}
use Rattle.std.proofs.lemmas.List.{take_all}
use Rattle.std.proofs.lemmas.List.Edits.{length-between}
use Rattle.std.proofs.lemmas.List.Sums.{count_by-le-length}
use Rattle.run_lists.specs.declared.runs.Run.{Run}
use Rattle.run_lists.specs.Spread.{expanded, total_len}
use Rattle.run_lists.proofs.Public.{spread-nil, extent-nil, extent_more, count_within, length-spread}
use Rattle.doc_mends.specs.Cuts.{unflagged}
use Rattle.doc_mends.proofs.CutLemmas.{unflagged-nil, unflagged-short, run_unflagged}
use Rattle.doc_mends.proofs.cutting.cut_runs.Goals as goal

pub loop-k-init : goal.loop-k-init
loop-k-init g c = record {
  made = c.new-made.ensures
      ∙ (sym (unflagged-nil {A = g.row.T.Denot} [])
      ∙ ap (λ (l : List g.row.T.Denot). unflagged [] l) (sym (spread-nil g.row.T.Denot)));
  begin = sym (extent-nil g.row.T.Denot);
}

pub overflow_add-end : goal.overflow_add-end
overflow_add-end g c =
    let runs = c.args.runs.now in
    let k = c.loop-k.k in
    let run = c.index-runs-k.result in
    let count : run.count ≡ (get_or runs k run).count = ap (λ (r : Run g.row.T.Denot). r.count) c.index-runs-k.is in
    omega (arith, c.loop-k.invariant.begin, count, count_within runs k run c.loop-k-test.true, c.requires.few)

pub slice_bounds-unflagged_count-end : goal.slice_bounds-unflagged_count-end
slice_bounds-unflagged_count-end g c =
    let runs = c.args.runs.now in
    let k = c.loop-k.k in
    let run = c.index-runs-k.result in
    let count : run.count ≡ (get_or runs k run).count = ap (λ (r : Run g.row.T.Denot). r.count) c.index-runs-k.is in
    omega (arith, c.loop-k.invariant.begin, count, count_within runs k run c.loop-k-test.true, c.requires.len)

pub add-requires : goal.add-requires
add-requires g c =
    let runs = c.args.runs.now in
    let flags : List Bool = c.args.flags.now in
    let k = c.loop-k.k in
    let run = c.index-runs-k.result in
    let begin = c.loop-k.begin in
    let count : run.count ≡ (get_or runs k run).count = ap (λ (r : Run g.row.T.Denot). r.count) c.index-runs-k.is in
    let within = count_within runs k run c.loop-k-test.true in
    let inside : begin + run.count ≤ length flags =
    omega (arith, c.loop-k.invariant.begin, count, within, c.requires.len) in
    let made = ap length c.loop-k.invariant.made in
    let short = unflagged-short (take begin flags) (expanded (take k runs)) in
    let long = length-spread (take k runs) in
    let part = length-between flags begin (begin + run.count) inside in
    let few = count_by-le-length not (slice_range flags begin (begin + run.count)) in
    let left : c.unflagged_count-left.result ≤ run.count = omega (arith, c.unflagged_count-left.ensures, part, few) in
    omega (arith, made, short, long, left, c.loop-k.invariant.begin, count, within, c.requires.few)

pub loop-k-preserved : goal.loop-k-preserved
loop-k-preserved g c =
    let runs = c.args.runs.now in
    let flags : List Bool = c.args.flags.now in
    let k = c.loop-k.k in
    let run = c.index-runs-k.result in
    let begin = c.loop-k.begin in
    let low : k < length runs = c.loop-k-test.true in
    let is : slice_get runs k ≡ Some run = slice_get_read runs (length runs) k run refl low c.index-runs-k.is in
    let count : run.count ≡ (get_or runs k run).count = ap (λ (r : Run g.row.T.Denot). r.count) c.index-runs-k.is in
    record {
      made = c.in_ok-add.ensures.ok
          ∙ run_unflagged runs flags k begin (begin + run.count) c.unflagged_count-left.result run
          c.in_ok-copy.field-0 c.loop-k.made is c.requires.len c.loop-k.invariant.begin refl c.loop-k.invariant.made
          c.unflagged_count-left.ensures c.in_ok-copy.ensures;
      begin = omega (arith, c.loop-k.invariant.begin, count, extent_more runs k run low);
    }

pub returns : goal.returns
returns g c =
    let runs = c.args.runs.now in
    let flags : List Bool = c.args.flags.now in
    let whole : take c.loop-k.k runs ≡ runs = take_all c.loop-k.k runs (omega (arith, c.loop-k-test.false)) in
    let all : c.loop-k.begin ≡ total_len runs =
    c.loop-k.invariant.begin ∙ ap (λ (l : List (Run g.row.T.Denot)). total_len l) whole in
    c.loop-k.invariant.made
    ∙ (ap (λ (l : List (Run g.row.T.Denot)). unflagged (take c.loop-k.begin flags) (expanded l)) whole
    ∙ ap (λ (l : List Bool). unflagged l (expanded runs))
    (take_all c.loop-k.begin flags (omega (arith, all, c.requires.len))))
