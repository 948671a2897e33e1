use Rattle.std.proofs.Common.{◌≡◌, ◌++◌, ◌∙◌, ap, length, subst}
use Rattle.std.proofs.lemmas.Bool.Decides.{Decides-eqb}
use Rattle.doc_bits.specs.Rules.{Hold, IsFirstOffset}
use Rattle.doc_parts.specs.Levels.{level_rules, HaveLength}
use Rattle.json_doc.proofs.LevelLemmas.{levels_told, levels_hold, levels_length}
use Rattle.json_doc.proofs.carried_reading.has_levels.Goals as goal

pub returns-in-None : goal.returns-in-None
returns-in-None c =
    let lst = c.args.lst.now in
    let levels = c.args.levels.now in
    let table : c.as_slice-2.result.now ≡ lst ++ levels =
    c.as_slice-2.ensures ∙ c.in_ok-push_all.ensures.ok ∙ ap (λ t. t ++ levels) c.in_ok-table.ensures in (
      (λ t. absurd (cc (t))),
      λ are. absurd (levels_hold lst levels c.in-None.ensures.0 are (subst (λ t. IsFirstOffset (level_rules t 0 (length
          lst))
          56 c.in-None.ensures.0) table c.in-None.ensures.1)),
    )

pub returns : goal.returns
returns c =
    let lst = c.args.lst.now in
    let levels = c.args.levels.now in
    let len = c.in-Some.len in
    let table : c.as_slice-2.result.now ≡ lst ++ levels =
    c.as_slice-2.ensures ∙ c.in_ok-push_all.ensures.ok ∙ ap (λ t. t ++ levels) c.in_ok-table.ensures in
    let holds = subst (λ t. Hold (level_rules t 0 (length lst))) table c.in-Some.ensures.0 in
    let have = subst (λ t. HaveLength t 0 (length lst) len) table c.in-Some.ensures.1 in (
      (λ t. levels_told lst levels len holds have ((Decides-eqb len (length levels)).0 t)),
      λ are. (Decides-eqb len (length levels)).1 (levels_length lst levels len have are),
    )
