-- The standard finds the paragraphs of the marks in a text of which each unit is bounded.
use Rattle.std.proofs.Common.{◌≡◌, ◌∙◌, ◌⊎◌, ℕ, zero, suc, ◌+◌, ◌-◌, ◌*◌, ◌/◌, ◌<◌, ◌≤◌, List, [], ◌∷◌, ◌++◌, length}
use Rattle.std.proofs.Common.{reverse, Bool, true, false, Some, refl, sym, ap, subst, inl, inr, arith, append_assoc}
use Rattle.std.specs.Prelude.{slice_get}
use Rattle.std.proofs.lemmas.Bool.{cases_lt}
use Rattle.std.proofs.lemmas.List.{reverse-append}
use Rattle.std.proofs.lemmas.List.Sums.{sum_by-cons, sum_by-append}
use Rattle.std.proofs.lemmas.Option.{same_Some, slice_get_within, slice_get-get_or}
use Rattle.doc_bits.proofs.Public.{there_is, All_at, in_front, in_back}
use Rattle.piece_table.specs.Piece.{TextPiece, UnitPlace, unit_bytes, places_of_piece, flat_pieces, total_length}
use Rattle.piece_table.specs.Piece.{ArePieces}
use Rattle.piece_table.specs.Piece.{IsTextPiece}
use Rattle.piece_table.proofs.Public.{flat_pieces-append, flat_pieces-cons, length-unit_places, length-flat_pieces}
use Rattle.piece_table.proofs.Public.{get_or-unit_places}
use Rattle.save_laws.specs.Places.{PagedStream}
use Rattle.save_laws.specs.ByRuns.{IsPageRunAt, ranges_end, BeginsRun, IsFirstFrom, IsEarlier, IsFirstByRuns}
use Rattle.save_laws.specs.ByRuns.{IsLastFrom}
use Rattle.save_laws.specs.ByRuns.{IsLater, HasRunBegin, IsBounded}
use Rattle.save_laws.specs.ByRuns.{AreBounded, BoundedTextsHaveTheirParagraphs}

-- ---- a unit of a piece

-- whether unit j of a piece that begins at a CP ends a paragraph, and that it is bounded
record IsBoundedUnit (from : PagedStream) (ends : List Bool) (piece : TextPiece) (begin j : ℕ) : Type 0 where
  end : Bool
  here : slice_get ends (begin + j) ≡ Some end
  is : IsBounded from (piece.at + j * unit_bytes piece.wide) piece.wide end

unit_bounded : (from : PagedStream) (pieces front behind : List TextPiece) (piece : TextPiece) (ends : List Bool)
    (j : ℕ) → AreBounded from (flat_pieces pieces) ends → pieces ≡ front ++ (piece ∷ behind) → j < piece.len →
    total_length front + j < length ends → IsBoundedUnit from ends piece (total_length front) j
unit_bounded from pieces front behind piece ends j bounded is below within =
    let found = there_is ends (total_length front + j) within in
    let place : UnitPlace = record {
      at = piece.at + j * unit_bytes piece.wide;
      wide = piece.wide;
      modifier = piece.modifier;
    } in
    let inner : slice_get (places_of_piece piece) j ≡ Some place =
    slice_get-get_or (places_of_piece piece) j place (omega (arith, below, length-unit_places piece))
    ∙ ap Some (get_or-unit_places piece j place below) in
    let flat : flat_pieces pieces ≡ flat_pieces front ++ (places_of_piece piece ++ flat_pieces behind) =
    ap flat_pieces is ∙ (flat_pieces-append front (piece ∷ behind) ∙ ap (λ l. flat_pieces front ++ l)
    (flat_pieces-cons piece behind)) in
    let there : slice_get (flat_pieces pieces) (total_length front + j) ≡ Some place =
    ap (λ l. slice_get l (total_length front + j)) flat
    ∙ in_back (flat_pieces front) (places_of_piece piece ++ flat_pieces behind) j (total_length front + j) place
    (in_front (places_of_piece piece) (flat_pieces behind) j place inner) (omega (arith, length-flat_pieces front)) in
    record { end = found.0; here = found.1; is = bounded (total_length front + j) place found.0 there found.1 }

-- the byte behind a unit is that of the next one
next_place : (piece : TextPiece) (j : ℕ) →
    piece.at + j * unit_bytes piece.wide + unit_bytes piece.wide ≡ piece.at + suc j * unit_bytes piece.wide
next_place piece j = by_width piece.wide
  where
    by_width : (wide : Bool) → piece.at + j * unit_bytes wide + unit_bytes wide ≡ piece.at + suc j * unit_bytes wide
    by_width true = omega arith
    by_width false = omega arith

-- so many units take so many bytes
units_in : (wide : Bool) (at j : ℕ) → (at + j * unit_bytes wide - at) / unit_bytes wide ≡ j
units_in true at j = omega arith
units_in false at j = omega arith

places_rise : (wide : Bool) (at j k : ℕ) → j < k → at + j * unit_bytes wide < at + k * unit_bytes wide
places_rise true at j k less = omega (arith, less)
places_rise false at j k less = omega (arith, less)

begin_low : (from : PagedStream) (fc first : ℕ) → BeginsRun from fc first → first ≤ fc
begin_low from fc first (inl behind) = omega (arith, behind.0, behind.1)
begin_low from fc first (inr run) =
    let low = run.1.holds.from in
    omega (arith, low, run.1.first_is)

-- ---- the first CP

-- the first CP of the paragraph of a CP
record IsFirstAt (ends : List Bool) (cp first : ℕ) : Type 0 where
  low : first ≤ cp
  begins : (first ≡ 0) ⊎ (slice_get ends (first - 1) ≡ Some true)
  between : (k : ℕ) → first ≤ k → k < cp → slice_get ends k ≡ Some false

no_mark : (ends : List Bool) (k : ℕ) → slice_get ends k ≡ Some true → ¬ (slice_get ends k ≡ Some false)
no_mark ends k mark none = absurd (cc (same_Some true false (sym mark ∙ none)))

firsts_one : (ends : List Bool) (cp one other : ℕ) → IsFirstAt ends cp one → IsFirstAt ends cp other → one ≡ other
firsts_one ends cp one other a b = elim (cases_lt one other) [
  | inl less ↦ absurd (later one other a b less)
  | inr more ↦ elim (cases_lt other one) [
    | inl less ↦ absurd (later other one b a less)
    | inr most ↦ omega (arith, more, most)
  ]
]
  where
    later : (one other : ℕ) → IsFirstAt ends cp one → IsFirstAt ends cp other → one < other → ⊥
    later one other a b less = elim b.begins [
      | inl none ↦ omega (arith, none, less)
      | inr mark ↦
          let low = b.low in
          no_mark ends (other - 1) mark (a.between (other - 1) (omega (arith, less)) (omega (arith, less, low)))
    ]

first_from : (from : PagedStream) (ends : List Bool) (Earlier : Type 0) (piece : TextPiece) (begin k first : ℕ) →
    ((j : ℕ) → j < k → IsBoundedUnit from ends piece begin j) → (Earlier → IsFirstAt ends begin first) →
    IsFirstFrom from Earlier piece begin k first → IsFirstAt ends (begin + k) first
first_from from ends Earlier piece begin zero first bounded earlier found =
    let low = begin_low from (piece.at + 0 * unit_bytes piece.wide) found.fc found.begins in
    let none : begin ≡ begin + 0 = omega arith in
    elim found.is [
      | inl above ↦ absurd (omega (arith, above.0, low))
      | inr below ↦ subst (λ n. IsFirstAt ends n first) none (earlier below.1)
    ]
first_from from ends Earlier piece begin (suc k) first bounded earlier found =
    let unit = bounded k (omega arith) in
    by_end unit.end unit.here unit.is (λ again.
    first_from from ends Earlier piece begin k first (λ j less. bounded j (omega (arith, less))) earlier again)
  where
    here : BeginsRun from (piece.at + k * unit_bytes piece.wide + unit_bytes piece.wide) found.fc
    here = subst (λ n. BeginsRun from n found.fc) (sym (next_place piece k)) found.begins

    by_end : (end : Bool) → slice_get ends (begin + k) ≡ Some end →
        IsBounded from (piece.at + k * unit_bytes piece.wide) piece.wide end →
        (IsFirstFrom from Earlier piece begin k first → IsFirstAt ends (begin + k) first) →
        IsFirstAt ends (begin + suc k) first
    by_end true mark is again =
        let fc : found.fc ≡ piece.at + suc k * unit_bytes piece.wide =
        is.meets.begins found.fc here ∙ next_place piece k in
        elim found.is [
          | inl above ↦
              let count : (found.fc - piece.at) / unit_bytes piece.wide ≡ suc k =
              ap (λ n. (n - piece.at) / unit_bytes piece.wide) fc ∙ units_in piece.wide piece.at (suc k) in
              let first_is : first ≡ begin + suc k = above.1 ∙ ap (λ n. begin + n) count in
              let before : begin + k ≡ first - 1 = omega (arith, first_is) in
              record {
                low = omega (arith, first_is);
                begins = inr (ap (slice_get ends) (sym before) ∙ mark);
                between = λ i low high. absurd (omega (arith, low, high, first_is));
              }
          | inr below ↦ absurd (omega (arith, below.0, fc, places_rise piece.wide piece.at 0 (suc k) (omega arith)))
        ]
    by_end false none is again =
        let front = again (record { fc = found.fc; begins = is.meets.began found.fc here; is = found.is }) in
        let low = front.low in
        record {
          low = omega (arith, low);
          begins = front.begins;
          between = λ i above high. elim (cases_lt i (begin + k)) [
            | inl less ↦ front.between i above less
            | inr most ↦
                let e : begin + k ≡ i = omega (arith, most, high) in
                ap (slice_get ends) (sym e) ∙ none
          ];
        }

-- the pieces before, with one more at their end
pub total_more : (front : List TextPiece) (piece : TextPiece) →
    total_length (front ++ piece ∷ []) ≡ total_length front + piece.len
total_more front piece =
    let units : TextPiece → ℕ = λ p. p.len in
    omega (arith, sum_by-append units front (piece ∷ []), sum_by-cons units piece [])

total_before : (before : List TextPiece) (piece : TextPiece) →
    total_length (reverse (piece ∷ before)) ≡ total_length (reverse before) + piece.len
total_before before piece =
    ap total_length (reverse-append (piece ∷ []) before) ∙ total_more (reverse before) piece

split_before : (pieces before rest : List TextPiece) (piece : TextPiece) → pieces ≡ reverse (piece ∷ before) ++ rest →
    pieces ≡ reverse before ++ (piece ∷ rest)
split_before pieces before rest piece is =
    is ∙ (ap (λ l. l ++ rest) (reverse-append (piece ∷ []) before) ∙ append_assoc (reverse before) (piece ∷ []) rest)

module _ (from : PagedStream) (pieces : List TextPiece) (ends : List Bool) (are : ArePieces pieces)
    (bounded : AreBounded from (flat_pieces pieces) ends) where
  units_of : (front behind : List TextPiece) (piece : TextPiece) → pieces ≡ front ++ (piece ∷ behind) → (j : ℕ) →
      j < piece.len → total_length front + j < length ends → IsBoundedUnit from ends piece (total_length front) j
  units_of front behind piece is j below within =
      unit_bounded from pieces front behind piece ends j bounded is below within

  some_units : (front behind : List TextPiece) (piece : TextPiece) → pieces ≡ front ++ (piece ∷ behind) →
      1 ≤ piece.len
  some_units front behind piece is =
      let there : slice_get pieces (length front) ≡ Some piece =
      ap (λ l. slice_get l (length front)) is
      ∙ in_back front (piece ∷ behind) 0 (length front) piece refl (omega arith) in
      (All_at IsTextPiece pieces (length front) piece are.each there).units.some

  earlier_is : (before rest : List TextPiece) (first : ℕ) → pieces ≡ reverse before ++ rest →
      total_length (reverse before) ≤ length ends → IsEarlier from before (total_length (reverse before)) first →
      IsFirstAt ends (total_length (reverse before)) first
  earlier_is [] rest first is within found = record {
    low = omega (arith, found);
    begins = inl found;
    between = λ i low high. absurd (omega (arith, high));
  }
  earlier_is (piece ∷ before) rest first is within found =
      let front : List TextPiece = reverse before in
      let total = total_before before piece in
      let split = split_before pieces before rest piece is in
      let e : total_length (reverse (piece ∷ before)) - piece.len ≡ total_length front = omega (arith, total) in
      let there : IsFirstFrom from (IsEarlier from before (total_length front) first) piece (total_length front)
      piece.len first =
      subst (λ n. IsFirstFrom from (IsEarlier from before n first) piece n piece.len first) e found in
      subst (λ n. IsFirstAt ends n first) (sym total)
      (first_from from ends (IsEarlier from before (total_length front) first) piece (total_length front) piece.len
      first (λ j less. units_of front rest piece split j less (omega (arith, less, total, within)))
      (λ earlier. earlier_is before (piece ∷ rest) first split (omega (arith, total, within)) earlier) there)

  -- where the runs of a piece's places begin
  starts_at : (front behind : List TextPiece) (piece : TextPiece) (k : ℕ) → pieces ≡ front ++ (piece ∷ behind) →
      k < piece.len → total_length front + k < length ends → HasRunBegin from (piece.at + k * unit_bytes piece.wide)
  starts_at front behind piece k is below within = (units_of front behind piece is k below within).is.here

  starts_behind : (front behind : List TextPiece) (piece : TextPiece) → pieces ≡ front ++ (piece ∷ behind) →
      total_length front + piece.len ≤ length ends →
      HasRunBegin from (piece.at + piece.len * unit_bytes piece.wide)
  starts_behind front behind piece is within =
      let some = some_units front behind piece is in
      let j : ℕ = piece.len - 1 in
      let e : suc j ≡ piece.len = omega (arith, some) in
      let unit = units_of front behind piece is j (omega (arith, some)) (omega (arith, some, within)) in
      subst (λ n. HasRunBegin from (piece.at + n * unit_bytes piece.wide)) e
      (subst (HasRunBegin from) (next_place piece j) unit.is.there)

  first_exists : (Earlier : ℕ → Type 0) (piece : TextPiece) (begin k : ℕ) →
      HasRunBegin from (piece.at + k * unit_bytes piece.wide) → ((first : ℕ) × Earlier first) →
      (first : ℕ) × IsFirstFrom from (Earlier first) piece begin k first
  first_exists Earlier piece begin k starts earlier = elim (cases_lt piece.at starts.0) [
    | inl above ↦ (
      begin + (starts.0 - piece.at) / unit_bytes piece.wide,
      record { fc = starts.0; begins = starts.1; is = inl (above, refl) },
    )
    | inr below ↦ (earlier.0, record { fc = starts.0; begins = starts.1; is = inr (below, earlier.1) })
  ]

  earlier_exists : (before rest : List TextPiece) → pieces ≡ reverse before ++ rest →
      total_length (reverse before) ≤ length ends →
      (first : ℕ) × IsEarlier from before (total_length (reverse before)) first
  earlier_exists [] rest is within = (0, refl)
  earlier_exists (piece ∷ before) rest is within =
      let front : List TextPiece = reverse before in
      let total = total_before before piece in
      let split = split_before pieces before rest piece is in
      let e : total_length front ≡ total_length (reverse (piece ∷ before)) - piece.len = omega (arith, total) in
      let found = first_exists (λ first. IsEarlier from before (total_length front) first) piece (total_length front)
      piece.len (starts_behind front rest piece split (omega (arith, total, within)))
      (earlier_exists before (piece ∷ rest) split (omega (arith, total, within))) in (
        found.0,
        subst (λ n. IsFirstFrom from (IsEarlier from before n found.0) piece n piece.len found.0) e found.1,
      )

  -- ---- the last CP

  -- the last CP of the paragraph of a CP
  record IsLastAt (cp last : ℕ) : Type 0 where
    high : cp ≤ last
    between : (k : ℕ) → cp ≤ k → k < last → slice_get ends k ≡ Some false
    ends_there : slice_get ends last ≡ Some true

  module _ (piece : TextPiece) (begin m : ℕ)
      (units : (j : ℕ) → j < piece.len → begin + j ≤ m → IsBoundedUnit from ends piece begin j) where
    abbrev place : ℕ → ℕ
    place k = piece.at + k * unit_bytes piece.wide

    ends_here : (k : ℕ) → IsLastAt (begin + k) m → slice_get ends (begin + k) ≡ Some true → m ≡ begin + k
    ends_here k at mark = elim (cases_lt (begin + k) m) [
      | inl less ↦ absurd (no_mark ends (begin + k) mark (at.between (begin + k) (omega arith) less))
      | inr most ↦ let high = at.high in
          omega (arith, most, high)
    ]

    goes_on : (k : ℕ) → IsLastAt (begin + k) m → slice_get ends (begin + k) ≡ Some false → IsLastAt (begin + suc k) m
    goes_on k at none = record {
      high = elim (cases_lt (begin + k) m) [
        | inl less ↦ omega (arith, less)
        | inr most ↦
            let high = at.high in
            let e : m ≡ begin + k = omega (arith, most, high) in
            absurd (no_mark ends (begin + k) (ap (slice_get ends) (sym e) ∙ at.ends_there) none)
      ];
      between = λ i low high. at.between i (omega (arith, low)) high;
      ends_there = at.ends_there;
    }

    -- what is true of each unit of the piece from a CP on, up to its end or to the mark
    record Passes (k first lim : ℕ) : Type 0 where
      within : (n : ℕ) → n < piece.len → begin + n ≡ m → lim ≡ place (suc n)
      beyond : begin + piece.len ≤ m → place piece.len < lim

    passes : (left k first lim : ℕ) → k + left ≡ piece.len → IsLastAt (begin + k) m → IsPageRunAt from (place k) first
        lim →
        Passes k first lim
    passes zero k first lim counted at run = record {
      within = λ n below is. let high = at.high in
          absurd (omega (arith, high, below, is, counted));
      beyond = λ high.
          let to = run.holds.to in
          let e : k ≡ piece.len = omega (arith, counted) in
          omega (arith, to, run.lim_is, ap place e);
    }
    passes (suc left) k first lim counted at run =
        let high = at.high in
        let unit = units k (omega (arith, counted)) high in
        by_end unit.end unit.here unit.is (λ next_at next_run.
        passes left (suc k) first lim (omega (arith, counted)) next_at next_run)
      where
        by_end : (end : Bool) → slice_get ends (begin + k) ≡ Some end → IsBounded from (place k) piece.wide end →
            (IsLastAt (begin + suc k) m → IsPageRunAt from (place (suc k)) first lim → Passes (suc k) first lim) →
            Passes k first lim
        by_end true mark is again =
            let m_is = ends_here k at mark in
            let lim_is : lim ≡ place (suc k) = is.meets.ends first lim run ∙ next_place piece k in
            record {
              within = λ n below same.
                  let e : k ≡ n = omega (arith, m_is, same) in
                  lim_is ∙ ap (λ i. place (suc i)) e;
              beyond = λ high. absurd (omega (arith, m_is, high, counted));
            }
        by_end false none is again =
            let next : IsPageRunAt from (place (suc k)) first lim =
            subst (λ n. IsPageRunAt from n first lim) (next_place piece k) (is.meets.goes_on first lim run) in
            let rest = again (goes_on k at none) next in
            record { within = rest.within; beyond = rest.beyond }

    -- not all ranges end before the mark
    not_behind : (left k : ℕ) → k + left ≡ piece.len → IsLastAt (begin + k) m → m < begin + piece.len →
        ranges_end from ≤ place k → ⊥
    not_behind zero k counted at inside behind =
        let high = at.high in
        omega (arith, high, inside, counted)
    not_behind (suc left) k counted at inside behind =
        let high = at.high in
        let unit = units k (omega (arith, counted)) high in
        by_end unit.end unit.here unit.is (λ next_at next_behind.
        not_behind left (suc k) (omega (arith, counted)) next_at inside next_behind)
      where
        by_end : (end : Bool) → slice_get ends (begin + k) ≡ Some end → IsBounded from (place k) piece.wide end →
            (IsLastAt (begin + suc k) m → ranges_end from ≤ place (suc k) → ⊥) → ⊥
        by_end true mark is again =
            let held = is.meets.held in
            omega (arith, held, behind)
        by_end false none is again =
            again (goes_on k at none)
            (omega (arith, behind, places_rise piece.wide piece.at k (suc k) (omega arith)))

    -- at the end of the piece nothing has ended the paragraph
    at_end : (left k : ℕ) → k + left ≡ piece.len → IsLastAt (begin + k) m → begin + piece.len ≤ m →
        IsLastAt (begin + piece.len) m
    at_end left k counted at high = record {
      high = high;
      between = λ i low up. at.between i (omega (arith, low, counted)) up;
      ends_there = at.ends_there;
    }

    -- what is found is the mark
    last_from : (Later : Type 0) (left k last : ℕ) → k + left ≡ piece.len → IsLastAt (begin + k) m →
        (IsLastAt (begin + piece.len) m → Later → last ≡ m) → IsLastFrom from Later piece begin k last → last ≡ m
    last_from Later left k last counted at later (inl (first, (lim, (run, inl (within, is))))) =
        elim (cases_lt m (begin + piece.len)) [
          | inl inside ↦
              let high = at.high in
              let n : ℕ = m - begin in
              let below : n < piece.len = omega (arith, inside, high) in
              let e : begin + n ≡ m = omega (arith, high) in
              let lim_is = (passes left k first lim counted at run).within n below e in
              let count : (lim - piece.at) / unit_bytes piece.wide ≡ suc n =
              ap (λ l. (l - piece.at) / unit_bytes piece.wide) lim_is ∙ units_in piece.wide piece.at (suc n) in
              omega (arith, is, count, e)
          | inr outside ↦
              let above = (passes left k first lim counted at run).beyond outside in
              absurd (omega (arith, above, within))
        ]
    last_from Later left k last counted at later (inl (first, (lim, (run, inr (above, found))))) =
        elim (cases_lt m (begin + piece.len)) [
          | inl inside ↦
              let high = at.high in
              let n : ℕ = m - begin in
              let below : n < piece.len = omega (arith, inside, high) in
              let e : begin + n ≡ m = omega (arith, high) in
              let lim_is = (passes left k first lim counted at run).within n below e in
              absurd (omega (arith, above, lim_is, upto n below))
          | inr outside ↦ later (at_end left k counted at outside) found
        ]
      where
        upto : (n : ℕ) → n < piece.len → place (suc n) ≤ place piece.len
        upto n below = elim (cases_lt (suc n) piece.len) [
          | inl less ↦ let rise = places_rise piece.wide piece.at (suc n) piece.len less in
              omega (arith, rise)
          | inr most ↦ let e : suc n ≡ piece.len = omega (arith, most, below) in
              omega (arith, ap place e)
        ]
    last_from Later left k last counted at later (inr (behind, found)) = elim (cases_lt m (begin + piece.len)) [
      | inl inside ↦ absurd (not_behind left k counted at inside behind)
      | inr outside ↦ later (at_end left k counted at outside) found
    ]

    -- and the mark is found
    last_found : (Later : Type 0) (left k : ℕ) → k + left ≡ piece.len → IsLastAt (begin + k) m →
        (IsLastAt (begin + piece.len) m → Later) → HasRunBegin from (place k) → IsLastFrom from Later piece begin k m
    last_found Later left k counted at later (first, inl (behind, is)) = elim (cases_lt m (begin + piece.len)) [
      | inl inside ↦ absurd (not_behind left k counted at inside behind)
      | inr outside ↦ inr (behind, later (at_end left k counted at outside))
    ]
    last_found Later left k counted at later (first, inr (lim, run)) = elim (cases_lt m (begin + piece.len)) [
      | inl inside ↦
          let high = at.high in
          let n : ℕ = m - begin in
          let below : n < piece.len = omega (arith, inside, high) in
          let e : begin + n ≡ m = omega (arith, high) in
          let lim_is = (passes left k first lim counted at run).within n below e in
          let count : (lim - piece.at) / unit_bytes piece.wide ≡ suc n =
          ap (λ l. (l - piece.at) / unit_bytes piece.wide) lim_is ∙ units_in piece.wide piece.at (suc n) in
          let low : lim ≤ place piece.len = omega (arith, lim_is, upto n below) in
          inl (first, (lim, (run, inl (low, omega (arith, count, e)))))
      | inr outside ↦
          let above = (passes left k first lim counted at run).beyond outside in
          inl (first, (lim, (run, inr (above, later (at_end left k counted at outside)))))
    ]
      where
        upto : (n : ℕ) → n < piece.len → place (suc n) ≤ place piece.len
        upto n below = elim (cases_lt (suc n) piece.len) [
          | inl less ↦ let rise = places_rise piece.wide piece.at (suc n) piece.len less in
              omega (arith, rise)
          | inr most ↦ let e : suc n ≡ piece.len = omega (arith, most, below) in
              omega (arith, ap place e)
        ]

  -- the next pieces
  split_behind : (front behind : List TextPiece) (piece : TextPiece) → pieces ≡ front ++ (piece ∷ behind) →
      pieces ≡ (front ++ piece ∷ []) ++ behind
  split_behind front behind piece is = is ∙ sym (append_assoc front (piece ∷ []) behind)

  later_is : (front behind : List TextPiece) (begin m last : ℕ) → pieces ≡ front ++ behind →
      begin ≡ total_length front → m < length ends → IsLastAt begin m → IsLater from behind begin last → last ≡ m
  later_is front [] begin m last is at_begin within at found = absurd found
  later_is front (piece ∷ behind) begin m last is at_begin within at found =
      let here : IsLastAt (begin + 0) m = (let e : begin ≡ begin + 0 = omega arith in
      subst (λ n. IsLastAt n m) e at) in
      last_from piece begin m (λ j below low. subst (λ n. IsBoundedUnit from ends piece n j) (sym at_begin)
      (units_of front behind piece is j below (omega (arith, at_begin, low, within))))
      (IsLater from behind (begin + piece.len) last) piece.len 0 last (omega arith) here
      (λ next later. later_is (front ++ piece ∷ []) behind (begin + piece.len) m last (split_behind front behind piece
      is) (omega (arith, at_begin, total_more front piece)) within next later) found

  later_found : (front behind : List TextPiece) (begin m : ℕ) → pieces ≡ front ++ behind →
      begin ≡ total_length front → length ends ≤ total_length pieces → m < length ends → IsLastAt begin m →
      IsLater from behind begin m
  later_found front [] begin m is at_begin long within at =
      let high = at.high in
      let all : total_length pieces ≡ total_length front + 0 =
      ap total_length is ∙ sum_by-append (λ (p : TextPiece). p.len) front [] in
      absurd (omega (arith, high, at_begin, long, within, all))
  later_found front (piece ∷ behind) begin m is at_begin long within at =
      let here : IsLastAt (begin + 0) m = (let e : begin ≡ begin + 0 = omega arith in
      subst (λ n. IsLastAt n m) e at) in
      let high = at.high in
      last_found piece begin m (λ j below low. subst (λ n. IsBoundedUnit from ends piece n j) (sym at_begin)
      (units_of front behind piece is j below (omega (arith, at_begin, low, within))))
      (IsLater from behind (begin + piece.len) m) piece.len 0 (omega arith) here
      (λ next. later_found (front ++ piece ∷ []) behind (begin + piece.len) m (split_behind front behind piece is)
      (omega (arith, at_begin, total_more front piece)) long within next)
      (starts_at front behind piece 0 is (some_units front behind piece is) (omega (arith, at_begin, high, within)))

pub bounded_texts_have_their_paragraphs : BoundedTextsHaveTheirParagraphs
bounded_texts_have_their_paragraphs from pieces before behind piece ends units first last are is long bounded below
    paragraph =
    let front : List TextPiece = reverse before in
    let begin : ℕ = total_length front in
    let cp : ℕ = begin + units in
    let low = paragraph.low in
    let high = paragraph.high in
    let within : last < length ends = slice_get_within ends last true paragraph.ends_there in
    let at_first : IsFirstAt ends cp first = record {
      low = paragraph.low;
      begins = paragraph.begins;
      between = λ k above up. paragraph.between k above (omega (arith, up, high));
    } in
    let at_last : IsLastAt from pieces ends are bounded cp last = record {
      high = paragraph.high;
      between = λ k above up. paragraph.between k (omega (arith, above, low)) up;
      ends_there = paragraph.ends_there;
    } in
    let split : pieces ≡ (front ++ piece ∷ []) ++ behind = split_behind from pieces ends are bounded front behind piece
    is in
    let counted : units + (piece.len - units) ≡ piece.len = omega (arith, below) in
    let units_are : (j : ℕ) → j < piece.len → begin + j ≤ last → IsBoundedUnit from ends piece begin j =
    λ j less upto. units_of from pieces ends are bounded front behind piece is j less
    (omega (arith, upto, within)) in
    let first_is : (other : ℕ) → IsFirstByRuns from before piece begin units other → other ≡ first = λ other found.
    firsts_one ends cp other first (first_from from ends (IsEarlier from before begin other) piece begin units other
    (λ j less. units_of from pieces ends are bounded front behind piece is j (omega (arith, less, below))
    (omega (arith, less, high, within)))
    (λ earlier. earlier_is from pieces ends are bounded before (piece ∷ behind) other is (omega (arith, high, within))
    earlier) found) at_first in
    let start =
    starts_at from pieces ends are bounded front behind piece units is below (omega (arith, high, within)) in
    let found = first_exists from pieces ends are bounded (λ n. IsEarlier from before begin n) piece begin units start
    (earlier_exists from pieces ends are bounded before (piece ∷ behind) is (omega (arith, high, within))) in
    record {
      first_found = subst (λ n. IsFirstByRuns from before piece begin units n) (first_is found.0 found.1) found.1;
      first_alone = first_is;
      last_found =
          last_found from pieces ends are bounded piece begin last units_are (IsLater from behind (begin + piece.len)
          last) (piece.len - units) units counted at_last
          (λ next. later_found from pieces ends are bounded (front ++ piece ∷ []) behind (begin + piece.len) last split
          (sym (total_more front piece)) long within next) start;
      last_alone = λ other there.
          last_from from pieces ends are bounded piece begin last units_are (IsLater from behind (begin + piece.len)
          other) (piece.len - units) units other counted at_last
          (λ next later. later_is from pieces ends are bounded (front ++ piece ∷ []) behind (begin + piece.len) last
          other split (sym (total_more front piece)) within next later) there;
    }
