-- The summary of a document: what is asked of it has one reply, and is served where it is a property set.
use Rattle.std.proofs.Common.{◌≡◌, ◌∙◌, inl, inr, ap, sym, subst, refl, arith, ℕ, ◌*◌, ◌<◌, ◌≤◌, List, [], length}
use Rattle.std.proofs.Common.{Option, Some, None, false, true, get_or}
use Rattle.std.proofs.Props.{props}
use Rattle.std.specs.Prelude.{MatchOption, slice_get}
use Rattle.std.specs.List.{sum_by}
use Rattle.std.specs.Option.{option_map, unwrap_or}
use Rattle.std.proofs.lemmas.List.Sums.{position_or_len_is, sum_by-le}
use Rattle.std.proofs.lemmas.Option.{slice_get_within, slice_get-get_or, none-some}
use Rattle.doc_bits.specs.Rules.{IsSingle}
use Rattle.doc_bits.proofs.Public.{hold_or_first, first_agrees, All-from_slice_get}
use Rattle.cfb_streams.specs.Contents.{NamedBytes}
use Rattle.cfb_streams.specs.Names.{is_same_name}
use Rattle.summary_set.specs.declared.fault.SetFault.{SetFault}
use Rattle.summary_set.specs.declared.fault.SetFault.TheVariants.{Form}
use Rattle.summary_set.specs.Form.{form_rules, IsPropertySet, IsSetFault}
use Rattle.summary_set.specs.Written.{retitled_stream, kept_bytes, retitled}
use Rattle.summary_set.specs.Values.{property_values}
use Rattle.summary_set.specs.Laws.{IsAsked}
use Rattle.summary_set.proofs.Public.{length-written, writable}
use Rattle.doc_model.specs.declared.carried.Carried.{Carried}
use Rattle.doc_model.specs.declared.document.Document.{Document}
use Rattle.doc_model.specs.Carried.{AreCarriedStreams, with_bytes}
use Rattle.doc_model.specs.OtherBytes.{carried_with, HasOtherBytes}
use Rattle.plain_doc.specs.Sound.{IsSound}
use Rattle.doc_model.proofs.Public.{with_bytes-carried}
use Rattle.doc_read.specs.CarriedParts.{AreShortStreams}
use Rattle.document_commands.specs.declared.reply.Reply.{Reply}
use Rattle.document_commands.specs.declared.reply.Reply.TheVariants.{Refused}
use Rattle.document_commands.specs.declared.reply.Refusal.TheVariants.{WrongSummary}
use Rattle.document_commands.specs.SummaryLines.{wrong_summary_line}
use Rattle.document_commands.specs.Saves.{Saves}
use Rattle.document_commands.specs.Summaries.{summary_name, summary_place, summary_of, HasNoSummary, HasWrongSummary}
use Rattle.document_commands.specs.Summaries.{ShowsSummary, TellsTitle, HasSummaryBytes, SavesWith}
use Rattle.document_commands.specs.Summaries.{Retitles, PutsTitle, HasPropertySet, CanRetitle}
use Rattle.document_commands.specs.Replies.{IsNoRefusal}
use Rattle.document_commands.proofs.SoundLemmas.{sound_with_carried}
use Rattle.document_commands.proofs.SaveLemmas.{saved_one, saved_done, done_said}

-- ---- the stream

-- the streams before a place have other names, and that at the place has the name, if it is one
pub summary_place-is : (streams : List NamedBytes) (i : ℕ) (none : NamedBytes) → i ≤ length streams →
    ((k : ℕ) → k < i → is_same_name (get_or streams k none).name summary_name ≡ false) →
    (i < length streams → is_same_name (get_or streams i none).name summary_name ≡ true)
    → i ≡ summary_place streams
summary_place-is streams i none most before here =
    sym (position_or_len_is (λ (s : NamedBytes). is_same_name s.name summary_name) streams i none most before here)

-- the name of a stream
pub name_at : (streams : List NamedBytes) (i : ℕ) (none : NamedBytes) (name : List ℕ) → i < length streams →
    option_map (λ s. s.name) (slice_get streams i) ≡ Some name
    → (get_or streams i none).name ≡ name
name_at streams i none name within named =
    ap (λ o. unwrap_or o [])
    (sym (ap (option_map (λ (s : NamedBytes). s.name)) (slice_get-get_or streams i none within))
    ∙ named)

short_found : (found : Option NamedBytes) (bytes : List ℕ) →
    ((s : NamedBytes) → found ≡ Some s → length s.bytes ≤ 7143936) → option_map (λ s. s.bytes) found ≡ Some bytes
    → length bytes ≤ 7143936
short_found None bytes short here = absurd (none-some bytes here)
short_found (Some s) bytes short here =
    subst (λ b. length b ≤ 7143936) (ap (λ o. unwrap_or o []) here) (short s refl)

-- the bytes of a stream are at most those of the longest file
pub short_at : (streams : List NamedBytes) (i : ℕ) (bytes : List ℕ) → AreShortStreams streams →
    option_map (λ s. s.bytes) (slice_get streams i) ≡ Some bytes
    → length bytes ≤ 7143936
short_at streams i bytes short here = short_found (slice_get streams i) bytes (λ s there. short i s there) here

found_there : (found : Option NamedBytes) (bytes : List ℕ) → option_map (λ s. s.bytes) found ≡ Some bytes →
    (s : NamedBytes) × (found ≡ Some s)
found_there None bytes here = absurd (none-some bytes here)
found_there (Some s) bytes here = (s, refl)

-- a stream that is there has a place
pub place_there : (streams : List NamedBytes) (i : ℕ) (bytes : List ℕ) →
    option_map (λ s. s.bytes) (slice_get streams i) ≡ Some bytes
    → i < length streams
place_there streams i bytes here =
    let there = found_there (slice_get streams i) bytes here in slice_get_within streams i there.0 there.1

-- no stream has the name
pub match_none : (found : Option NamedBytes) (none : Type 0) (some : List ℕ → Type 0) → found ≡ None → none
    → MatchOption found none (λ stream. some stream.bytes)
match_none None none some is holds = holds
match_none (Some s) none some is holds = absurd (none-some s (sym is))

-- one has it, with these bytes
pub match_some : (found : Option NamedBytes) (none : Type 0) (some : List ℕ → Type 0) (bytes : List ℕ) →
    option_map (λ s. s.bytes) found ≡ Some bytes → some bytes
    → MatchOption found none (λ stream. some stream.bytes)
match_some None none some bytes is holds = absurd (none-some bytes is)
match_some (Some s) none some bytes is holds = subst some (sym (ap (λ o. unwrap_or o []) is)) holds

-- the place of the first condition that fails
pub wrong_at : (name stream : List ℕ) (fault : SetFault) (place : ℕ) (reply : Reply) → IsSetFault stream fault →
    fault ≡ Form place → reply ≡ Refused WrongSummary (wrong_summary_line name place)
    → HasWrongSummary name stream reply
wrong_at name stream fault place reply first is said =
    let found : IsSetFault stream (Form place) = subst (λ f. IsSetFault stream f) is first in
    record { condition = found.0; place = place; first = found.1; is = said }

-- ---- one reply

-- each condition speaks of one stream
form_single : (stream : List ℕ) → IsSingle (form_rules stream)
form_single stream = ((tt, (tt, (tt, (tt, tt)))), tt)

set_or_wrong : (name stream : List ℕ) (reply : Reply) → IsPropertySet stream → HasWrongSummary name stream reply → ⊥
set_or_wrong name stream reply set wrong =
    hold_or_first (λ a b. a ≤ b) (form_rules stream) wrong.condition wrong.place (form_single stream) set wrong.first

wrong_one : (name stream : List ℕ) (a b : Reply) → HasWrongSummary name stream a → HasWrongSummary name stream b → a ≡ b
wrong_one name stream a b x y =
    let rules = form_rules stream in
    let single = form_single stream in
    let xy = first_agrees (λ a b. a ≤ b) rules x.condition y.condition x.place y.place single x.first y.first in
    let yx = first_agrees (λ a b. a ≤ b) rules y.condition x.condition y.place x.place single y.first x.first in
    let places : x.place ≡ y.place = omega (arith, xy.1, yx.1) in
    x.is ∙ (ap (λ place. Refused WrongSummary (wrong_summary_line name place)) places ∙ sym y.is)

shown_one : (name stream : List ℕ) (a b : Reply) → ShowsSummary name stream a → ShowsSummary name stream b → a ≡ b
shown_one name stream a b (inl x) (inl y) = x.is ∙ sym y.is
shown_one name stream a b (inl x) (inr y) = absurd (set_or_wrong name stream b x.set y)
shown_one name stream a b (inr x) (inl y) = absurd (set_or_wrong name stream a y.set x)
shown_one name stream a b (inr x) (inr y) = wrong_one name stream a b x y

found_title : (name : List ℕ) (found : Option NamedBytes) (a b : Reply) →
    MatchOption found (HasNoSummary name a) (λ stream. ShowsSummary name stream.bytes a) →
    MatchOption found (HasNoSummary name b) (λ stream. ShowsSummary name stream.bytes b)
    → a ≡ b
found_title name None a b x y = x ∙ sym y
found_title name (Some stream) a b x y = shown_one name stream.bytes a b x y

pub title_one : (name : List ℕ) (streams : List NamedBytes) (a b : Reply) → TellsTitle name streams a →
    TellsTitle name streams b
    → a ≡ b
title_one name streams a b x y = found_title name (summary_of streams) a b x y

fit_one : (streams : List NamedBytes) → IsProp (AreCarriedStreams streams)
fit_one streams = hlevel props

changed_one : (document : Document) (bytes : List ℕ) (a b : Document) → HasSummaryBytes document bytes a →
    HasSummaryBytes document bytes b
    → a ≡ b
changed_one document bytes a b x y =
    let place = summary_place document.carried.streams in
    let same = fit_one (with_bytes document.carried.streams place bytes) x.fit y.fit in
    x.is ∙ (ap (λ fit. record document { carried = carried_with document.carried place bytes fit }) same ∙ sym y.is)

saved_with_one : (document : Document) (bytes : List ℕ) (a b : Reply) → SavesWith document bytes a →
    SavesWith document bytes b
    → a ≡ b
saved_with_one document bytes a b x y =
    let same = changed_one document bytes x.changed y.changed x.has y.has in
    saved_one _ y.changed a b (subst (λ d. Saves _ d a) same x.saves) y.saves

retitled_one : (title name : List ℕ) (document : Document) (stream : List ℕ) (a b : Reply) →
    Retitles title name document stream a → Retitles title name document stream b
    → a ≡ b
retitled_one title name document stream a b (inl x) (inl y) = saved_with_one document _ a b x.saved y.saved
retitled_one title name document stream a b (inl x) (inr y) = absurd (set_or_wrong name stream b x.set y)
retitled_one title name document stream a b (inr x) (inl y) = absurd (set_or_wrong name stream a y.set x)
retitled_one title name document stream a b (inr x) (inr y) = wrong_one name stream a b x y

found_retitle : (title name : List ℕ) (document : Document) (found : Option NamedBytes) (a b : Reply) →
    MatchOption found (HasNoSummary name a) (λ stream. Retitles title name document stream.bytes a) →
    MatchOption found (HasNoSummary name b) (λ stream. Retitles title name document stream.bytes b)
    → a ≡ b
found_retitle title name document None a b x y = x ∙ sym y
found_retitle title name document (Some stream) a b x y = retitled_one title name document stream.bytes a b x y

pub retitle_one : (title name : List ℕ) (document : Document) (a b : Reply) → PutsTitle title name document a →
    PutsTitle title name document b
    → a ≡ b
retitle_one title name document a b x y =
    found_retitle title name document (summary_of document.carried.streams) a b x y

-- ---- served

shown_done :
    (name stream : List ℕ) (reply : Reply) → IsPropertySet stream → ShowsSummary name stream reply → IsNoRefusal reply
shown_done name stream reply set (inl x) = done_said _ reply x.is
shown_done name stream reply set (inr x) = absurd (set_or_wrong name stream reply set x)

pub title_done : (name : List ℕ) (streams : List NamedBytes) (reply : Reply) → HasPropertySet streams →
    TellsTitle name streams reply
    → IsNoRefusal reply
title_done name streams reply has tells =
    shown_done name has.stream.bytes reply has.set
    (subst (λ found. MatchOption found (HasNoSummary name reply) (λ s. ShowsSummary name s.bytes reply)) has.here tells)

retitled_done : (title name : List ℕ) (document : Document) (reply : Reply) (can : CanRetitle title document) →
    Retitles title name document can.has.stream.bytes reply
    → IsNoRefusal reply
retitled_done title name document reply can (inl x) =
    saved_done _ x.saved.changed reply (can.fits x.saved.changed x.saved.has) x.saved.saves
retitled_done title name document reply can (inr x) =
    absurd (set_or_wrong name can.has.stream.bytes reply can.has.set x)

pub retitle_done : (title name : List ℕ) (document : Document) (reply : Reply) → CanRetitle title document →
    PutsTitle title name document reply
    → IsNoRefusal reply
retitle_done title name document reply can puts =
    retitled_done title name document reply can
    (subst (λ found. MatchOption found (HasNoSummary name reply) (λ s. Retitles title name document s.bytes reply))
    can.has.here puts)

-- ---- room

-- the streams have room for another title
pub retitled_room : (streams : List NamedBytes) (i : ℕ) (stream title : List ℕ) → AreCarriedStreams streams →
    AreShortStreams streams → IsAsked stream title
    → AreCarriedStreams (with_bytes streams i (retitled_stream stream title))
retitled_room streams i stream title are short asked =
    let can = writable stream title asked in
    let fits = can.fits in
    let few = are.few in
    let len = length-written (kept_bytes stream) (retitled (property_values stream) title) can in
    let size : NamedBytes → ℕ = λ s. length s.bytes in
    let sum : sum_by size streams ≤ length streams * 7143936 =
    sum_by-le size 7143936 streams (All-from_slice_get (λ s. size s ≤ 7143936) streams short) in
    with_bytes-carried streams i (retitled_stream stream title) are (omega arith)

-- ---- the changed document

-- a document with another carried part, whose streams are these
pub changed_is : (document : Document) (bytes : List ℕ) (place : ℕ) (carried : Carried) →
    place ≡ summary_place document.carried.streams → HasOtherBytes document.carried place bytes carried →
    AreCarriedStreams (with_bytes document.carried.streams (summary_place document.carried.streams) bytes)
    → HasSummaryBytes document bytes (record document { carried = carried })
changed_is document bytes place carried same other fit =
    let there : HasOtherBytes document.carried (summary_place document.carried.streams) bytes carried =
    subst (λ p. HasOtherBytes document.carried p bytes carried) same other in
    record { fit = fit; is = ap (λ (c : Carried). record document { carried = c }) (there fit) }

-- the streams of a document may be carried with these bytes in their place
abbrev HasRoomFor : List ℕ → Document → Type 0
HasRoomFor bytes document =
    let streams = document.carried.streams in AreCarriedStreams (with_bytes streams (summary_place streams) bytes)

-- the same of the document that columns are seen as
pub changed_seen : (seen document : Document) (bytes : List ℕ) (place : ℕ) (carried : Carried) → seen ≡ document →
    place ≡ summary_place seen.carried.streams → HasOtherBytes seen.carried place bytes carried →
    AreCarriedStreams (with_bytes document.carried.streams (summary_place document.carried.streams) bytes)
    → HasSummaryBytes document bytes (record seen { carried = carried })
changed_seen seen document bytes place carried is same other fit =
    subst (λ (d : Document). HasSummaryBytes d bytes (record seen { carried = carried })) is
    (changed_is seen bytes place carried same other (subst (HasRoomFor bytes) (sym is) fit))

-- it stays sound
pub changed_sound : (document : Document) (bytes : List ℕ) (changed : Document) → IsSound document →
    HasSummaryBytes document bytes changed
    → IsSound changed
changed_sound document bytes changed sound has =
    subst (λ (d : Document). IsSound d) (sym has.is)
    (sound_with_carried document (carried_with document.carried (summary_place document.carried.streams) bytes has.fit)
    sound)
