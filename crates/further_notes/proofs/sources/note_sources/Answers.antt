use Rattle.std.proofs.Common.{◌≡◌, ◌∙◌, ap, sym, rules, arith, List, [], ◌∷◌, ◌++◌, Option, Some, None, get_or}
use Rattle.std.specs.Prelude.{is_some, slice_get}
use Rattle.std.specs.List.{count_by, filter_map}
use Rattle.std.proofs.lemmas.Option.{slice_get-get_or, unwrap_or-slice_get}
use Rattle.doc_model.specs.declared.item.NoteKind.{NoteKind}
use Rattle.doc_parts.specs.Tabulated.{tabulate}
use Rattle.further_notes.specs.declared.sources.NoteSource.{NoteSource}
use Rattle.further_notes.specs.Sources.{note_kind_at, source_by}
use Rattle.further_notes.proofs.KindLemmas.{before_more}
use Rattle.further_notes.proofs.SourceLemmas.{source_more}
use Rattle.further_notes.proofs.sources.note_sources.Goals as goal

pub loop-at-init : goal.loop-at-init
unfolding tabulate
loop-at-init c = search rules

pub loop-at-preserved : goal.loop-at-preserved
loop-at-preserved c =
    let own : List (Option NoteKind) = c.args.own.now in
    let others : List (Option NoteKind) = c.args.others.now in
    let at = c.loop-at.at in
    let before = c.loop-at.before in
    let more = c.loop-at.more in
    let so_far = c.loop-at.invariant in
    let here : Option NoteKind = get_or own at None in
    let pick : List (Option NoteSource) → List NoteSource = filter_map (λ (o : Option NoteSource). o) in
    let there : note_kind_at own at ≡ here = unwrap_or-slice_get own at None in
    let source : c.source_by.result ≡ source_by here (note_kind_at others at) before more =
    c.source_by.ensures ∙ ap (λ (k : Option NoteKind). source_by here k before more) c.kind_at-other.ensures in
    let own_more = before_more own at in
    let other_more = before_more others at in
    let one : c.one_if-before.result ≡ count_by is_some (note_kind_at own at ∷ []) =
    c.one_if-before.ensures.count ∙ ap (λ (k : Option NoteKind). count_by is_some (k ∷ [])) (sym there) in
    let other : c.one_if-more.result ≡ count_by is_some (note_kind_at others at ∷ []) =
    c.one_if-more.ensures.count ∙ ap (λ (k : Option NoteKind). count_by is_some (k ∷ [])) c.kind_at-other.ensures in
    record {
      list = c.in_ok-push_source.ensures
          ∙ (ap (λ (o : Option NoteSource). c.loop-at.list.items ++ pick (o ∷ [])) source
          ∙ source_more own others at before more here c.loop-at.list.items
          (slice_get-get_or own at None c.loop-at-test.true) so_far.before so_far.more so_far.list);
      before = omega (arith, own_more, one, so_far.before);
      more = omega (arith, other_more, other, so_far.more);
      few = omega (arith, so_far.few, c.one_if-before.ensures.few);
      some = omega (arith, so_far.some, c.one_if-more.ensures.few);
    }
