use Rattle.std.proofs.Common.{◌+◌, ◌*◌, inl, inr, refl, arith}
use Rattle.direct_props.specs.declared.rules.PageRule.TheVariants as breaks
use Rattle.direct_props.proofs.StretchLemmas.{bin_page_of, page_stretch}
use Rattle.direct_props.proofs.pages.page_around.Goals as goal

pub returns-in_default : goal.returns-in_default
returns-in_default c = λ right. right breaks.Bin c.args.fc (record { here = refl; none = c.in_default.ensures })

pub returns-in_default-page_of : goal.returns-in_default-page_of
returns-in_default-page_of c = λ right.
    let h = c.in-Some.ensures.0 in
    let from = h.from in
    let to = h.to in
    let holds_from = h.holds.from in
    let holds_to = h.holds.to in
    let range = c.in-Some.found.range in
    right breaks.Page (512 * range.page + 511)
    (record {
      number = range.page;
      page = bin_page_of c.args.bin.now c.args.fc c.args.fc range h (omega arith)
          (omega arith);
      here = refl;
      bad = inr (inl c.in_default-page_of.ensures);
    })

pub returns-then-found-lt2 : goal.returns-then-found-lt2
returns-then-found-lt2 c = λ right.
    let h = c.in-Some.ensures.0 in
    let from = h.from in
    let to = h.to in
    let holds_from = h.holds.from in
    let holds_to = h.holds.to in
    let range = c.in-Some.found.range in
    right breaks.Page (512 * range.page + 511)
    (record {
      number = range.page;
      page = bin_page_of c.args.bin.now c.args.fc c.args.fc range h (omega arith)
          (omega arith);
      here = refl;
      bad = inl c.if-found-lt2.true;
    })

pub returns : goal.returns
returns c =
    let found = c.in-Some.ensures in
    rw (c.max.ensures, c.min.ensures)
    (page_stretch c.args.kind c.args.wd.now c.args.bin.now c.args.fc c.in-Some.found c.in-Some-page_of.page.now
    c.next_stretch-met.result
    found.0 found.1 c.in-Some-page_of.ensures.0 (record {
      low = omega arith;
      small = found.1.small;
      within = c.in-Some-page_of.ensures.2;
    })
    c.next_stretch-met.ensures.stretch c.next_stretch-met.ensures.next)
