-- The sections that end in a run of what is beside units.
use Rattle.std.proofs.Common.{◌≡◌, ◌∙◌, ap, ℕ, ◌+◌, ◌-◌, ◌*◌, ◌<◌, ◌≤◌, List, [], ◌∷◌, ◌++◌, length, get_or, Some}
use Rattle.std.proofs.Common.{arith}
use Rattle.std.proofs.lemmas.List.{length-append}
use Rattle.prop_map.specs.Settings.{Properties}
use Rattle.doc_model.specs.declared.item.Item.{Item}
use Rattle.doc_columns.specs.declared.attached.Attached.{Attached}
use Rattle.doc_columns.specs.Attached.{attached_of}
use Rattle.full_save.specs.Alike.{HaveAlike}
use Rattle.full_save.specs.Sections.{sepx_bytes, fc_sepx, SectionsSoFar, AreSepxesUpTo}
use Rattle.full_save.proofs.SectionLemmas.{sepxes_more}
use Rattle.full_save.proofs.ColumnLists.{there_at}

-- the sections that end in a run before a CP are done, whatever main text the run is of
pub record AreEndedIn (attached : Attached) (place count base cp : ℕ) (old new : SectionsSoFar) : Type 0 where
  pub low : place ≤ cp
  pub high : cp ≤ place + count
  pub short : length new.out ≤ length old.out + 504 * (cp - place)
  pub goes :
      (main : List Item) (bytes : List ℕ) → HaveAlike attached_of attached main place count →
      AreSepxesUpTo main base bytes place old → AreSepxesUpTo main base bytes cp new

pub none_ended : (attached : Attached) (place count base : ℕ) (old : SectionsSoFar) →
    AreEndedIn attached place count base place old old
none_ended attached place count base old = record {
  low = omega arith;
  high = omega arith;
  short = omega arith;
  goes = λ main bytes are done. done;
}

pub one_ended : (attached : Attached) (place count base cp : ℕ) (properties : Properties) (old so new : SectionsSoFar) →
    cp < place + count → attached.sect ≡ Some properties → length (sepx_bytes properties) ≤ 504 →
    new.out ≡ so.out ++ sepx_bytes properties →
    new.seds ≡ so.seds ++ (record { start = so.start; sepx = fc_sepx (base + length so.out) properties }) ∷ [] →
    new.start ≡ cp + 1 → AreEndedIn attached place count base cp old so →
    AreEndedIn attached place count base (cp + 1) old new
one_ended attached place count base cp properties old so new below has short out seds start ended =
    let low = ended.low in
    let grown = ap length out in
    let before = ended.short in
    record {
      low = omega (arith, low);
      high = omega (arith, below);
      short = omega (arith, grown, length-append so.out (sepx_bytes properties), before, short, low);
      goes = λ main bytes are done.
          let within = are.within in
          let here : cp < length main = omega (arith, within, below) in
          let there = there_at main cp here in
          let sect : (get_or main cp there.item).sect ≡ Some properties =
          ap (λ (item : Item). item.sect) there.same
          ∙ (ap (λ (b : Attached). b.sect) (are.each cp there.item low below there.here) ∙ has) in
          sepxes_more main base bytes cp there.item properties so new here sect short out seds start
          (ended.goes main bytes are done);
    }
