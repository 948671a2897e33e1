use Rattle.std.proofs.Common.{◌≡◌, ◌∙◌, ◌<◌, ap, sym, subst, inl, inr, arith, ℕ, false, List, [], ◌∷◌, Option, None, get_or}
use Rattle.std.specs.Prelude.{is_some, ◌&&◌}
use Rattle.std.specs.List.{count_by}
use Rattle.std.proofs.lemmas.Bool.{cases_lt}
use Rattle.std.proofs.lemmas.Option.{unwrap_or-slice_get}
use Rattle.doc_model.specs.declared.item.NoteKind.{NoteKind}
use Rattle.further_notes.specs.Sources.{note_kind_at}
use Rattle.further_notes.proofs.KindLemmas.{before_more}
use Rattle.further_notes.proofs.splicing.have_references.Goals as goal

pub loop-at-preserved : goal.loop-at-preserved
loop-at-preserved c =
    let own : List (Option NoteKind) = c.args.own.now in
    let others : List (Option NoteKind) = c.args.others.now in
    let at = c.loop-at.at in
    let before = c.loop-at.invariant in
    let there : note_kind_at own at ≡ get_or own at None = unwrap_or-slice_get own at None in
    let more = before_more others at in
    let one : c.one_if-found.result ≡ count_by is_some (note_kind_at others at ∷ []) =
    c.one_if-found.ensures.count ∙ ap (λ (k : Option NoteKind). count_by is_some (k ∷ [])) c.kind_at-other.ensures in
    let both : (is_some (note_kind_at own at) && is_some (note_kind_at others at)) ≡ false =
    (λ i. is_some (there i) && is_some (sym c.kind_at-other.ensures i))
    ∙ (sym c.are_both.ensures ∙ c.if-are_both.false) in
    record {
      found = omega (arith, more, one, before.found);
      few = omega (arith, before.few, c.one_if-found.ensures.few);
      apart = λ i low. elim (cases_lt i at) [
        | inl front ↦ before.apart i front
        | inr last ↦
            let same : at ≡ i = omega (arith, low, last) in
            subst (λ (k : ℕ). (is_some (note_kind_at own k) && is_some (note_kind_at others k)) ≡ false) same both
      ];
    }
