use Rattle.std.proofs.Common.{◌≡◌, ◌∙◌, ap, sym, rules, ℕ, List, [], ◌∷◌, ◌++◌, map}
use Rattle.doc_bits.specs.Plc.{plc_cp}
use Rattle.doc_parts.specs.declared.lists.NoteRef.{NoteRef}
use Rattle.doc_parts.specs.Tabulated.{tabulate}
use Rattle.further_notes.specs.NoteFiles.{numbered_ref}
use Rattle.further_notes.proofs.FileLemmas.{mapped_more}
use Rattle.further_notes.proofs.references.numbered_refs.Goals as goal

pub loop-k-init : goal.loop-k-init
unfolding tabulate
loop-k-init c = search rules

pub loop-k-preserved : goal.loop-k-preserved
loop-k-preserved c =
    let plc : List ℕ = c.args.plc.now in
    c.in_ok-add.ensures.ok
    ∙ (ap (λ (l : List NoteRef). l ++ numbered_ref c.get32.result ∷ []) c.loop-k.invariant
    ∙ (ap (λ (cp : ℕ). map numbered_ref (tabulate (plc_cp plc) c.loop-k.k) ++ numbered_ref cp ∷ []) c.get32.ensures
    ∙ sym (mapped_more numbered_ref (plc_cp plc) c.loop-k.k)))
