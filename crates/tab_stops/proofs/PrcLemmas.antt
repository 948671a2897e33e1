-- The Prcs of a Clx, one after another.
use Rattle.std.proofs.Common.{◌≡◌, ◌∙◌, refl, sym, ap, subst, ℕ, ◌+◌, List, [], ◌∷◌, ◌++◌, length, drop, arith}
use Rattle.std.proofs.Common.{append_assoc, length-append, length-drop}
use Rattle.std.specs.List.{flat_map}
use Rattle.std.proofs.lemmas.List.{append-nil}
use Rattle.doc_bits.specs.Number.{number_bytes}
use Rattle.doc_bits.proofs.Public.{length-number_bytes}
use Rattle.piece_table.specs.Clx.{prc_bytes}
use Rattle.piece_table.specs.Front.{ArePrcs}
use Rattle.tab_stops.specs.Lists.{AreListStops, PushesStops}
use Rattle.tab_stops.specs.Prcs.{ArePrcStops}

-- a Prc has three bytes before its list
prc_len : (prc : List ℕ) → length (prc_bytes prc) ≡ 3 + length prc
prc_len prc =
    let head = length-number_bytes 2 (length prc) in
    let whole = length-append (number_bytes 2 (length prc)) prc in
    omega (arith, head, whole)

-- one Prc more
prcs_more : (from at : ℕ) (prcs : List (List ℕ)) (prc places here : List ℕ) → ArePrcStops from prcs places →
    at ≡ from + length (flat_map prc_bytes prcs) → AreListStops prc (at + 3) here →
    ArePrcStops from (prcs ++ prc ∷ []) (places ++ here)
prcs_more from at [] prc places here are place is =
    let same : at ≡ from = omega (arith, place) in (
      here,
      (
        [],
        (
          subst (λ n. AreListStops prc (n + 3) here) same is,
          (refl, ap (λ (l : List ℕ). l ++ here) are ∙ sym (append-nil here)),
        ),
      ),
    )
prcs_more from at (first ∷ prcs) prc places here (front, (rest, (one, (others, joined)))) place is =
    let next = from + (3 + length first) in
    let whole = length-append (prc_bytes first) (flat_map prc_bytes prcs) in
    let long = prc_len first in
    let behind : at ≡ next + length (flat_map prc_bytes prcs) = omega (arith, place, whole, long) in (
      front,
      (
        rest ++ here,
        (
          one,
          (
            prcs_more next at prcs prc rest here others behind is,
            ap (λ (l : List ℕ). l ++ here) joined ∙ append_assoc front rest here,
          ),
        ),
      ),
    )

-- the Prcs before an offset were gone through
pub record PrcsFront (clx : List ℕ) (begin at : ℕ) (old now : List ℕ) : Type 0 where
  pub prcs : List (List ℕ)
  pub are : ArePrcs clx prcs at
  pub stops : PushesStops (ArePrcStops begin prcs) old now

pub front_none : (clx : List ℕ) (begin : ℕ) (old : List ℕ) → PrcsFront clx begin 0 old old
front_none clx begin old = record {
  prcs = [];
  are = record { sizes = λ k d low. absurd (omega (arith, low)); spelt = refl; within = omega arith };
  stops = record { stops = []; are_stops = refl; pushed = sym (append-nil old) };
}

-- how long they are
front_len : (clx : List ℕ) (prcs : List (List ℕ)) (at : ℕ) → ArePrcs clx prcs at →
    at ≡ length (flat_map prc_bytes prcs)
front_len clx prcs at are =
    let whole = ap length are.spelt in
    let parts = length-append (flat_map prc_bytes prcs) (drop at clx) in
    let behind = length-drop at clx in
    let within = are.within in
    omega (arith, whole, parts, behind, within)

pub front_more : (clx : List ℕ) (begin at next : ℕ) (prc old now new : List ℕ) →
    (front : PrcsFront clx begin at old now) → ArePrcs clx (front.prcs ++ prc ∷ []) next →
    PushesStops (AreListStops prc (begin + (at + 3))) now new → PrcsFront clx begin next old new
front_more clx begin at next prc old now new front are pushes =
    let before = front.stops in
    let len = front_len clx front.prcs at front.are in
    let place : begin + at ≡ begin + length (flat_map prc_bytes front.prcs) = omega (arith, len) in
    let same : begin + (at + 3) ≡ begin + at + 3 = omega arith in
    record {
      prcs = front.prcs ++ prc ∷ [];
      are = are;
      stops = record {
        stops = before.stops ++ pushes.stops;
        are_stops = prcs_more begin (begin + at) front.prcs prc before.stops pushes.stops before.are_stops place
            (subst (λ n. AreListStops prc n pushes.stops) same pushes.are_stops);
        pushed =
            pushes.pushed
            ∙ (ap (λ (l : List ℕ). l ++ pushes.stops) before.pushed ∙ append_assoc old before.stops pushes.stops);
      };
    }
