-- A place that represents an item is read as it.
use Rattle.std.proofs.Common.{subst, ◌≡◌, ◌∙◌, refl, sym, ap, ℕ, Option, Some, None, List}
use Rattle.prop_map.specs.declared.modifiers.Modifier.{Modifier}
use Rattle.prop_map.specs.Modifiers.{mark_style, IsMarkAfter}
use Rattle.fkp_pages.specs.declared.kind.PageKind.TheVariants.{Chpx, Papx}
use Rattle.fkp_pages.specs.declared.kind.PageKind.{PageKind}
use Rattle.fkp_pages.specs.Properties.{HasListAt}
use Rattle.direct_props.specs.Direct.{IsDirectCharacter, IsDirectMark}
use Rattle.direct_props.specs.RightLists.{HasValidListAt}
use Rattle.piece_table.specs.Piece.{UnitPlace}
use Rattle.doc_model.specs.declared.item.Mark.{Mark}
use Rattle.doc_model.specs.declared.item.Item.{Item}
use Rattle.file_rules.specs.Units.{unit_at}
use Rattle.save_laws.specs.Places.{PagedStream, GivenUnit, given_of, StandsInside, GivesAt, IsMarkedAfter}
use Rattle.save_laws.specs.Slots.{Slot, shown, loose, last, ReadsAfter, IsPlaceForSlot}
use Rattle.save_laws.proofs.SlotLemmas.{slot_unit, IsJudgedSlot}

-- a right list is a list
list_at : (kind : PageKind) (wd bin : List ℕ) (fc : ℕ) (list : List ℕ) → HasValidListAt kind wd bin fc list →
    HasListAt kind bin wd fc list
list_at kind wd bin fc list has = record {
  number = has.number;
  named = has.named;
  within = has.within;
  answer = has.answer;
  answers = has.answers;
  answered = has.answered;
}

-- the mark of which a modifier made one
pub record IsMarkBefore (modifier : Modifier) (old : Option Mark) (mark : Mark) : Type 0 where
  pub before : Mark
  pub is : old ≡ Some before
  pub style : mark.istd ≡ mark_style modifier before.istd
  pub properties : IsMarkAfter modifier before.pap mark.pap

pub mark_before : (modifier : Modifier) (old : Option Mark) (mark : Mark) → IsMarkedAfter modifier old (Some mark) →
    IsMarkBefore modifier old mark
mark_before modifier None mark after = absurd after
mark_before modifier (Some before) mark after =
    record { before = before; is = refl; style = after.0; properties = after.1 }

-- an item is read at a place
pub record IsReadAtPlace (stream : PagedStream) (place : UnitPlace) (item : Item) : Type 0 where
  pub unit : item.unit ≡ unit_at stream.wd place
  pub characters : IsDirectCharacter stream.wd stream.characters place.at place.modifier item.chp
  pub mark :
      (mark : Mark) → item.mark ≡ Some mark →
      IsDirectMark stream.wd stream.paragraphs place.at place.modifier mark.istd mark.pap

mark_read : (stream : PagedStream) (place : UnitPlace) (item : Item)
    (read : ReadsAfter (GivesAt stream) place (given_of item))
    (mark : Mark) → item.mark ≡ Some mark →
    IsDirectMark stream.wd stream.paragraphs place.at place.modifier mark.istd mark.pap
mark_read stream place item read mark here =
    let after : IsMarkedAfter place.modifier read.before.mark (Some mark) =
    subst (λ o. IsMarkedAfter place.modifier read.before.mark o) here read.after.mark in
    let found = mark_before place.modifier read.before.mark mark after in
    let given = read.gives.mark found.before found.is in
    record {
      list = given.list;
      has = list_at Papx stream.wd stream.paragraphs place.at given.list given.has;
      made = found.before.pap;
      style = given.style;
      makes = given.makes;
      style_is = found.style ∙ ap (mark_style place.modifier) given.style_is;
      modified = found.properties;
    }

pub item_read : (stream : PagedStream) (place : UnitPlace) (item : Item) →
    ReadsAfter (GivesAt stream) place (given_of item) → IsReadAtPlace stream place item
item_read stream place item read =
    let given = read.gives.characters in
    record {
      unit = read.after.unit ∙ read.gives.unit;
      characters = record {
        list = given.list;
        has = list_at Chpx stream.wd stream.characters place.at given.list given.has;
        made = read.before.chp;
        style = given.style;
        makes = given.makes;
        modified = read.after.characters;
      };
      mark = mark_read stream place item read;
    }

-- a checked slot's place gives something
pub record IsGivenThere (stream : PagedStream) (place : UnitPlace) : Type 0 where
  pub given : GivenUnit
  pub gives : GivesAt stream place.at place.wide given

pub given_there : (stream : PagedStream) (place : UnitPlace) (slot : Slot) → IsJudgedSlot slot →
    IsPlaceForSlot (StandsInside stream) (GivesAt stream) place slot → IsGivenThere stream place
given_there stream place (shown item) judged placed = record { given = placed.before; gives = placed.gives }
given_there stream place loose judged placed = record { given = placed.given; gives = placed.gives }
given_there stream place last judged placed = absurd judged

-- its unit is that of the slot
pub unit_placed : (stream : PagedStream) (place : UnitPlace) (slot : Slot) → IsJudgedSlot slot →
    IsPlaceForSlot (StandsInside stream) (GivesAt stream) place slot → unit_at stream.wd place ≡ slot_unit slot
unit_placed stream place (shown item) judged placed = sym (placed.after.unit ∙ placed.gives.unit)
unit_placed stream place loose judged placed = sym placed.gives.unit ∙ placed.unit
unit_placed stream place last judged placed = absurd judged

-- any slot's place is in the stream
pub stands_there : (stream : PagedStream) (place : UnitPlace) (slot : Slot) →
    IsPlaceForSlot (StandsInside stream) (GivesAt stream) place slot → StandsInside stream place.at place.wide
stands_there stream place (shown item) placed = placed.gives.stands
stands_there stream place loose placed = placed.gives.stands
stands_there stream place last placed = placed
