-- A list of the same bytes as one that is kept is right, and makes what that one does.
use Rattle.std.proofs.Common.{◌≡◌, ◌∙◌, ◌+◌, ◌*◌, sym, subst, arith}
use Rattle.std.specs.Prelude.{slice_range}
use Rattle.std.proofs.lemmas.Option.{slice_get_within}
use Rattle.fkp_pages.specs.declared.kind.RunAnswer.TheVariants.{Found}
use Rattle.fkp_pages.specs.Bin.{page_at}
use Rattle.direct_props.specs.GrpprlCache.{AreKept, IsMadeOf, IsMadeByAnswer}
use Rattle.direct_props.proofs.StretchLemmas.{in_page}
use Rattle.direct_props.proofs.KeptLemmas.{faultless_in_stream, kept_answer, like_faultless, made_of_like}
use Rattle.direct_props.proofs.KeptLemmas.{right_in_page}
use Rattle.direct_props.proofs.grpprl_cache.GrpprlCache.made_at.Goals as goal

pub index-requires : goal.index-requires
index-requires c =
    let kept = c.args.self.now in
    let like = c.in-Some.ensures.found in
    let within = slice_get_within kept.places c.in-Some.known (like.from, like.to) like.place in
    let len = c.requires.kept.made_are.len in
    omega arith

pub returns-in-Some-clause-made : goal.returns-in-Some-clause-made
returns-in-Some-clause-made c =
    let source = c.args.source.now in
    let wd = source.wd.now in
    let from = c.args.range.0 in
    let to = c.args.range.1 in
    let kept = c.args.self.now in
    let right = right_in_page source.kind wd c.args.number from to (omega (arith, c.style_len.ensures)) (omega arith)
    (like_faultless source.kind wd kept.places c.in-Some.known (512 * c.args.number + from) (512 * c.args.number + to)
    c.requires.kept.right c.in-Some.ensures.found) in (
      right,
      subst (IsMadeByAnswer source.kind source.modifier.now (page_at wd c.args.number) (Found from to))
          (sym c.in_ok-copy.ensures)
          (kept_answer source.kind wd source.modifier.now c.args.number from to c.index.result.now right
          (made_of_like source.kind wd (slice_range wd (512 * c.args.number + from) (512 * c.args.number + to))
          source.modifier.now kept.places kept.made.items c.in-Some.known c.index.result.now c.requires.kept.made_are
          c.in-Some.ensures.found c.index.ensures)),
    )

pub returns-in_ok-put-in-Some-list_in-clause-kept : goal.returns-in_ok-put-in-Some-list_in-clause-kept
returns-in_ok-put-in-Some-list_in-clause-kept c =
    let source = c.args.source.now in
    let wd = source.wd.now in
    let from = c.args.range.0 in
    let to = c.args.range.1 in
    let right = c.in-Some-list_in.ensures.0 in
    let room = right.room in
    let within = right.within in
    let made = c.in_ok-made-in-Some-list_in.made in
    let list : c.in-Some-list_in.list.now ≡ slice_range wd (512 * c.args.number + from) (512 * c.args.number + to) =
    c.in-Some-list_in.ensures.1.0.0 ∙ in_page wd c.args.number from to (omega arith) (omega arith) in
    c.in_ok-put-in-Some-list_in.ensures.ok source.kind wd source.modifier.now
    (faultless_in_stream source.kind wd c.args.number from to right)
    (subst (λ l. IsMadeOf source.kind l source.modifier.now made) list c.in_ok-made-in-Some-list_in.ensures)
    (subst (λ places. AreKept source.kind wd source.modifier.now places c.args.self.now.made.items)
    (sym c.number_at.ensures.same) c.requires.kept)
