-- What a session writes is a save of its document.
use Rattle.std.specs.Prelude.{ℕ, List}
use Rattle.std.proofs.Common.{◌⊎◌, sym, subst, inl, inr, Bool, arith}
use Rattle.prop_map.specs.Settings.{Properties}
use Rattle.piece_table.specs.Piece.{UnitPlace}
use Rattle.save_laws.specs.Plans.{Plan, StandsInPlan, IsWrittenPlan}
use Rattle.save_laws.specs.FastSaves.{StandsInEither, IsGivenBy}
use Rattle.save_laws.specs.Saves.{HasPropertiesAt}
use Rattle.save_laws.specs.Places.{PagedStream, GivenUnit, StandsInside, GivesAt}
use Rattle.save_laws.specs.KeptPages.{KeepsBytes, KeepsPages}
use Rattle.save_laws.specs.Slots.{Slot, shown, loose, last, IsPlaceForSlot}
use Rattle.save_laws.specs.Laws.{FastSavesAreSaves}
use Rattle.save_laws.proofs.PlanLemmas.{plans_give}
use Rattle.save_laws.proofs.KeptLemmas.{place_kept, kept_places_give, kept_properties_are_there}

planned_stands : (plan : Plan) (written : PagedStream) (at : ℕ) (wide : Bool) → IsWrittenPlan plan written →
    StandsInPlan plan at wide → StandsInside written at wide
planned_stands plan written at wide is planned =
    let here = planned.here in
    let below = planned.below in
    let within = is.within in
    let low = is.behind_fib in
    subst (λ b. StandsInside written at b) (sym planned.two_bytes)
    (record { behind_fib = omega (arith, here, low); inside = omega (arith, here, below, within) })

stands_written : (old written : PagedStream) (plan : Plan) (at : ℕ) (wide : Bool) → KeepsPages old written plan.base →
    IsWrittenPlan plan written → StandsInEither old plan at wide → StandsInside written at wide
stands_written old written plan at wide keeps is (inl stands) = place_kept old written plan.base at wide keeps stands
stands_written old written plan at wide keeps is (inr planned) = planned_stands plan written at wide is planned

gives_written : (old written : PagedStream) (plan : Plan) (at : ℕ) (wide : Bool) (given : GivenUnit) →
    KeepsPages old written plan.base → IsWrittenPlan plan written → IsGivenBy old plan at wide given →
    GivesAt written at wide given
gives_written old written plan at wide given keeps is (inl gives) =
    kept_places_give old written plan.base at wide given keeps gives
gives_written old written plan at wide given keeps is (inr planned) = plans_give plan written at wide given is planned

pub placed_written : (old written : PagedStream) (plan : Plan) (place : UnitPlace) (slot : Slot) →
    KeepsPages old written plan.base → IsWrittenPlan plan written →
    IsPlaceForSlot (StandsInEither old plan) (IsGivenBy old plan) place slot →
    IsPlaceForSlot (StandsInside written) (GivesAt written) place slot
placed_written old written plan place (shown item) keeps is placed = record {
  before = placed.before;
  gives = gives_written old written plan place.at place.wide placed.before keeps is placed.gives;
  after = placed.after;
}
placed_written old written plan place loose keeps is placed = record {
  given = placed.given;
  unit = placed.unit;
  marked = placed.marked;
  gives = gives_written old written plan place.at place.wide placed.given keeps is placed.gives;
}
placed_written old written plan place last keeps is placed =
    stands_written old written plan place.at place.wide keeps is placed

-- properties that are in the old stream or in the new one are in the new one
properties_either : (old new : List ℕ) (fc : ℕ) (properties : Properties) → KeepsBytes old new →
    (HasPropertiesAt old fc properties ⊎ HasPropertiesAt new fc properties) → HasPropertiesAt new fc properties
properties_either old new fc properties keeps (inl has) = kept_properties_are_there old new fc properties keeps has
properties_either old new fc properties keeps (inr has) = has

pub fast_saves_are_saves : FastSavesAreSaves
fast_saves_are_saves document old plan saved table contents is = record {
  pieces = is.pieces;
  printable = is.printable;
  clx = is.clx;
  text = record {
    len = is.text.len;
    each = λ k place slot here there.
        placed_written old saved.stream plan place slot is.keeps is.written (is.text.each k place slot here there);
  };
  characters = is.characters;
  paragraphs = is.paragraphs;
  sections = record {
    starts = is.starts;
    properties = record {
      len = is.properties.len;
      each = λ k sed section here there.
          properties_either old.wd saved.stream.wd sed.sepx section.1 is.keeps.bytes
          (is.properties.each k sed section here there);
    };
  };
  fib = is.fib;
  counts = is.counts;
  kept = is.kept;
  parts = is.parts;
  wd_small = is.wd_small;
  has_wd = is.has_wd;
  has_table = is.has_table;
  clsid = is.clsid;
  streams = is.streams;
}
