-- What a session begins with.
use Rattle.std.specs.Prelude.{ℕ, List}
use Rattle.std.proofs.Common.{◌≡◌, ◌∙◌, ◌∷◌, ◌+◌, [], refl, sym, ap, subst, inl, Some, None, Option}
use Rattle.std.proofs.Common.{map}
use Rattle.std.proofs.lemmas.List.{length-map}
use Rattle.std.proofs.lemmas.Option.{same_Some}
use Rattle.doc_bits.specs.Together.{AreTogether}
use Rattle.doc_bits.proofs.Public.{from_map}
use Rattle.prop_map.specs.Settings.{Properties}
use Rattle.doc_parts.specs.declared.lists.Sed.{Sed}
use Rattle.piece_table.specs.Piece.{UnitPlace}
use Rattle.doc_model.specs.declared.item.Item.{Item}
use Rattle.doc_model.specs.Collected.{collected, entry_before, sections_of}
use Rattle.save_laws.specs.Places.{PagedStream, StandsInside, GivesAt}
use Rattle.save_laws.specs.Plans.{Plan}
use Rattle.save_laws.specs.Slots.{Slot, shown, loose, last, IsPlaceForSlot}
use Rattle.save_laws.specs.Saves.{HasPropertiesAt}
use Rattle.save_laws.specs.FastSaves.{StandsInEither, IsGivenBy}
use Rattle.piece_table.proofs.Public.{length-flat_pieces}
use Rattle.session_text.specs.SessionText.{IsSectionPlan, section_properties, TextCounted}
use Rattle.session_text.specs.Starts.{SavedTextsStand, PropertiesAreListed, SavedSectionsStand}

-- ---- the text

saved_placed : (stream : PagedStream) (plan : Plan) (place : UnitPlace) (slot : Slot) →
    IsPlaceForSlot (StandsInside stream) (GivesAt stream) place slot →
    IsPlaceForSlot (StandsInEither stream plan) (IsGivenBy stream plan) place slot
saved_placed stream plan place (shown item) placed =
    record { before = placed.before; gives = inl placed.gives; after = placed.after }
saved_placed stream plan place loose placed =
    record { given = placed.given; unit = placed.unit; marked = placed.marked; gives = inl placed.gives }
saved_placed stream plan place last placed = inl placed

-- the pieces of a text have as many CPs as the whole text
pub text_counted : TextCounted
text_counted old document text is = sym (length-flat_pieces text.pieces.pieces) ∙ is.places.len

pub saved_texts_stand : SavedTextsStand
saved_texts_stand stream plan pieces document ends together = record {
  len = together.len;
  each = λ k place slot here there. saved_placed stream plan place slot (together.each k place slot here there);
}

-- ---- the sections

-- an item before others, by what it ends
listed_front : (item : Item) (items : List Item) (cp : ℕ) (o : Option Properties) → item.sect ≡ o →
    section_properties items ≡ map (λ section. section.1) (collected (λ (i : Item). i.sect) (cp + 1) items) →
    section_properties (item ∷ items)
    ≡ map (λ section. section.1) (entry_before o cp (collected (λ (i : Item). i.sect) (cp + 1) items))
listed_front item items cp None is rest = rw is rest
listed_front item items cp (Some properties) is rest = rw is (ap (λ l. properties ∷ l) rest)

properties_from : (items : List Item) (cp : ℕ) →
    section_properties items ≡ map (λ section. section.1) (collected (λ (i : Item). i.sect) cp items)
unfolding collected
properties_from [] cp = refl
properties_from (item ∷ items) cp = listed_front item items cp item.sect refl (properties_from items (cp + 1))

pub properties_are_listed : PropertiesAreListed
properties_are_listed main = properties_from main 0

-- a place that is known
planned : (wd : List ℕ) (fc : ℕ) (properties : Properties) → HasPropertiesAt wd fc properties →
    IsSectionPlan wd (Some fc) properties
planned wd fc properties has place is = subst (λ p. HasPropertiesAt wd p properties) (same_Some fc place is) has

pub saved_sections_stand : SavedSectionsStand
saved_sections_stand wd seds document saved =
    let sections : List (ℕ × Properties) = sections_of document.main in
    let second : (ℕ × Properties) → Properties = λ section. section.1 in
    let place : Sed → Option ℕ = λ sed. Some sed.sepx in
    let together : AreTogether (IsSectionPlan wd) (map place seds) (map second sections) = record {
      len = length-map seds place ∙ (saved.properties.len ∙ sym (length-map sections second));
      each = λ k fc properties here there.
          let sed = from_map place seds k fc here in
          let section = from_map second sections k properties there in
          subst (λ o. IsSectionPlan wd o properties) sed.1.1
          (subst (λ s. IsSectionPlan wd (place sed.0) s) section.1.1
          (planned wd sed.0.sepx section.0.1 (saved.properties.each k sed.0 section.0 sed.1.0 section.1.0)));
    } in
    subst (AreTogether (IsSectionPlan wd) (map place seds)) (sym (properties_are_listed document.main)) together
