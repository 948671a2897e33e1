use Rattle.std.proofs.Common.{◌≡◌, ◌+◌, ◌*◌, ◌++◌, List, [], ◌∷◌, length, sym, subst, refl, arith}
use Rattle.std.proofs.lemmas.List.{length-append, append-nil}
use Rattle.std.specs.FinMap.{empty}
use Rattle.prop_map.specs.Settings.{Properties}
use Rattle.doc_model.specs.declared.item.Item.{Item}
use Rattle.doc_model.specs.declared.item.Mark.{Mark}
use Rattle.full_save.specs.Text.{extra_mark}
use Rattle.full_save.specs.RunsSoFar.{AreCharactersSoFar, CharactersGoOn, ParagraphEnds}
use Rattle.full_save.specs.WordDocument.{text_offset}
use Rattle.full_save.proofs.AlikeLemmas.{alike_one}
use Rattle.full_save.proofs.text.TextSoFar.push_mark.Goals as goal

pub returns-clause-text : goal.returns-clause-text
returns-clause-text c = λ done so.
    let chp : Item → Properties = λ item. item.chp in
    let long = so.long in
    let end : 1024 + 2 * c.args.self.now.len ≡ text_offset + 2 * (length done + 0) = omega (arith, long) in
    let behind : 1024 + 2 * c.args.self.now.len + 2 ≡ text_offset + 2 * length (done ++ extra_mark ∷ []) =
    omega (arith, long, length-append done (extra_mark ∷ [])) in
    let runs = subst
    (λ (value : Properties). CharactersGoOn value 1 (1024 + 2 * c.args.self.now.len) c.args.self.now.characters
    c.push_run.new.self) c.new-none.ensures c.in_ok-push_run.ensures in
    let mark : Mark = record { istd = 0; pap = empty } in
    let ends = subst
    (λ (pap : Properties). ParagraphEnds (record { istd = 0; pap = pap }) (1024 + 2 * c.args.self.now.len + 2)
    c.args.self.now.paragraphs c.close.new.self) c.new-none.ensures c.in_ok-close.ensures in
    record {
      long = omega (arith, long, length-append done (extra_mark ∷ []));
      characters =
          runs text_offset done (extra_mark ∷ []) 0 end (alike_one chp extra_mark)
          (subst (λ (xs : List Item). AreCharactersSoFar text_offset xs c.args.self.now.characters)
          (sym (append-nil done)) so.characters);
      paragraphs = ends text_offset done extra_mark behind refl so.paragraphs;
    }
