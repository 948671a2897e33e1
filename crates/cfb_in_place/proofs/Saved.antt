-- A save in a file's own sectors with all that is known of it, and what is read of the file after.
use Rattle.std.proofs.Common.{◌≡◌, inl, inr, ℕ, ◌+◌, ◌-◌, ◌*◌, ◌<◌, ◌≤◌, List, length, take, slice_index}
use Rattle.std.proofs.Common.{refl, sym, ap, ◌∙◌, arith, length-take}
use Rattle.std.proofs.lemmas.Bool.{cases_lt}
use Rattle.std.proofs.lemmas.List.{ext_get_or, get_or-take}
use Rattle.doc_bits.specs.Rules.{Hold, Nowhere}
use Rattle.doc_bits.specs.Number.{number_at, u32_at}
use Rattle.doc_bits.proofs.Public.{number_at-same}
use Rattle.cfb_sectors.specs.Header.{sector_count, fat_sector_count, fat_sector, valid_below}
use Rattle.cfb_sectors.specs.Opening.{BreaksLength, BreaksSignature}
use Rattle.cfb_sectors.specs.HeaderRules.{BreaksHeader, IsOther32, BreaksFat}
use Rattle.cfb_sectors.specs.SectorChain.{end_of_chain}
use Rattle.cfb_sectors.proofs.Public.{fat_few, fat_valid}
use Rattle.cfb_streams.specs.Contents.{Contents}
use Rattle.cfb_streams.specs.Container.{container_rules, HasContents}
use Rattle.cfb_layout.proofs.Public.{IsAccepted, accepted}
use Rattle.cfb_in_place.specs.Change.{StreamChange, OldChains, Added, added_sectors, grown_count, fresh_count}
use Rattle.cfb_in_place.specs.Change.{fat_sectors_more, fat_from, end_of, sectors_after}
use Rattle.cfb_in_place.specs.Appended.{SameBytes, IsSavedBehind}
use Rattle.cfb_in_place.specs.Save.{AreOldChains, CanBePut, FitsAfter}

-- the file before and after, and what the save put there
pub record Save : Type 0 where
  pub old : List ℕ
  pub new : List ℕ
  pub contents : Contents
  pub has : HasContents old contents
  pub chains : OldChains
  pub added : Added
  pub change : StreamChange
  pub hold : Hold (container_rules old)
  pub are : AreOldChains old has.parts chains
  pub put : CanBePut chains change
  pub is_added : added ≡ added_sectors old chains change
  pub fits : FitsAfter old added
  pub saved : IsSavedBehind old new has.parts chains added change

pub save_accepted : (s : Save) → IsAccepted s.old s.has.parts
save_accepted s = accepted s.old s.contents s.hold s.has

-- the counts, one by one
pub record AreCounts (s : Save) : Type 0 where
  pub from : s.added.from ≡ valid_below s.old
  pub grown : s.added.grown ≡ grown_count s.chains s.change
  pub fresh : s.added.fresh ≡ fresh_count s.change
  pub fat : s.added.fat ≡ fat_sectors_more (fat_sector_count s.old) (fat_from s.added)

pub counts_of : (s : Save) → AreCounts s
unfolding added_sectors
counts_of s =
    let is = s.is_added in
    let from = ap (λ (a : Added). a.from) is in
    let grown = ap (λ (a : Added). a.grown) is in
    let fresh = ap (λ (a : Added). a.fresh) is in
    let fat = ap (λ (a : Added). a.fat) is in
    record { from = from; grown = grown; fresh = fresh; fat = omega arith }

-- how many sectors there are after, and which of them are valid
pub record AreSectorsAfter (s : Save) : Type 0 where
  pub count : sector_count s.new ≡ sectors_after s.old s.added
  pub more : valid_below s.old ≤ valid_below s.new
  pub added : end_of s.added ≤ valid_below s.new
  pub range : valid_below s.new ≤ end_of_chain
  pub some : 0 < fat_sector_count s.new
  pub few : fat_sector_count s.new ≤ 109
  pub least : 1536 ≤ length s.new
  pub most : sector_count s.new ≤ 13952

pub sectors_of_save : (s : Save) → AreSectorsAfter s
sectors_of_save s =
    let c = counts_of s in
    let from = c.from in
    let fat = c.fat in
    let len = s.saved.header.len in
    let fats = s.saved.header.fat_count in
    let fits = s.fits in
    let ok = save_accepted s in
    let few = fat_few s.old ok.fat in
    let least = ok.whole.least in
    let most = ok.whole.most in
    let some : 0 < fat_sector_count s.old = elim (cases_lt 0 (fat_sector_count s.old)) [
      | inl h ↦ h
      | inr none ↦ absurd (ok.fat 44 (inl (refl, inl (omega arith))))
    ] in
    record {
      count = omega arith;
      more = omega arith;
      added = omega arith;
      range = omega arith;
      some = omega arith;
      few = omega arith;
      least = omega arith;
      most = omega arith;
    }

-- a byte and a number where bytes are the same
pub same_byte : (old new : List ℕ) (at count x : ℕ) → SameBytes old new at count → at ≤ x → x < at + count →
    slice_index new x ≡ slice_index old x
same_byte old new at count x same from below =
    let place : at + (x - at) ≡ x = omega arith in
    sym (ap (λ k. slice_index new k) place) ∙ (same (x - at) (omega arith) ∙ ap (λ k. slice_index old k) place)

pub same_number : (old new : List ℕ) (at count here width : ℕ) → SameBytes old new at count → at ≤ here →
    here + width ≤ at + count → number_at new here width ≡ number_at old here width
same_number old new at count here width same from below = number_at-same new old here here width (λ i h. same_byte old
    new at count (here + i) same (omega arith) (omega arith))

pub front_number : (s : Save) (here width : ℕ) → here + width ≤ 44 → number_at s.new here width ≡ number_at s.old here
    width
front_number s here width h = same_number s.old s.new 0 44 here width s.saved.header.front (omega arith) h

pub middle_number : (s : Save) (here : ℕ) → 48 ≤ here → here + 4 ≤ 76 + 4 * fat_sector_count s.old → u32_at s.new here
    ≡ u32_at s.old here
middle_number s here from h = same_number s.old s.new 48 (28 + 4 * fat_sector_count s.old) here 4
    s.saved.header.middle from (omega arith)

pub old_fat_sector : (s : Save) (k : ℕ) → k < fat_sector_count s.old → fat_sector s.new k ≡ fat_sector s.old k
old_fat_sector s k h = middle_number s (76 + 4 * k) (omega arith) (omega arith)

pub new_fat_sector : (s : Save) (k : ℕ) → fat_sector_count s.old ≤ k → k < fat_sector_count s.new → fat_sector s.new k
    ≡ fat_from s.added + (k - fat_sector_count s.old)
new_fat_sector s k from h =
    let count = s.saved.header.fat_count in
    let place : fat_sector_count s.old + (k - fat_sector_count s.old) ≡ k = omega arith in
    sym (ap (λ i. fat_sector s.new i) place) ∙ s.saved.header.fat_list (k - fat_sector_count s.old) (omega arith)

-- rules 1 and 2
pub length_again : (s : Save) → Nowhere (BreaksLength s.new)
length_again s = λ p b.
    let r = sectors_of_save s in
    let len = s.saved.header.len in
    let count = r.count in
    let least = r.least in
    let most = r.most in
    elim b.wrong [
      | inl odd ↦ odd (omega arith)
      | inr size ↦ elim size [ inl low ↦ omega arith | inr high ↦ omega arith ]
    ]

pub signature_again : (s : Save) → Nowhere (BreaksSignature s.new)
signature_again s = λ p b.
    let r = sectors_of_save s in
    let ok = save_accepted s in
    let long = r.least in
    let least = ok.whole.least in
    let a = length-take 8 s.new in
    let c = length-take 8 s.old in
    let same = ext_get_or 0 (take 8 s.new) (take 8 s.old) (omega arith) (λ i h. get_or-take 8 s.new i 0 (omega arith)
    ∙ (same_byte s.old s.new 0 44 i s.saved.header.front (omega arith) (omega arith)
    ∙ sym (get_or-take 8 s.old i 0 (omega arith)))) in
    s.hold.0.1 0 (record { here = refl; wrong = λ e. b.wrong (same ∙ e) })

-- rules 3 and 4
pub header_again : (s : Save) → Nowhere (BreaksHeader s.new)
header_again s = λ p b. s.hold.1.0.0 p (elim b [
  | inl version ↦ inl (version.0, λ e. version.1 (front_number s 26 2 (omega arith) ∙ e))
  | inr rest ↦ inr (elim rest [
    | inl order ↦ inl (order.0, λ e. order.1 (front_number s 28 2 (omega arith) ∙ e))
    | inr more ↦ inr (elim more [
      | inl shift ↦ inl (shift.0, λ e. shift.1 (front_number s 30 2 (omega arith) ∙ e))
      | inr last ↦ inr (elim last [
        | inl mini ↦ inl (mini.0, λ e. mini.1 (front_number s 32 2 (omega arith) ∙ e))
        | inr cutoff ↦ inr (cutoff.0, λ e. cutoff.1 (middle_number s 56 (omega arith) (omega arith) ∙ e))
      ])
    ])
  ])
])

pub difat_again : (s : Save) → Nowhere (IsOther32 s.new 72 0)
difat_again s = λ p b. s.hold.1.0.1.0 p (b.0, λ e. b.1 (middle_number s 72 (omega arith) (omega arith) ∙ e))

-- rule 5
pub fat_again : (s : Save) → Nowhere (BreaksFat s.new)
fat_again s = λ p b.
    let r = sectors_of_save s in
    let c = counts_of s in
    let ok = save_accepted s in
    let some = r.some in
    let few = r.few in
    let more = r.more in
    let added = r.added in
    let from = c.from in
    let count = s.saved.header.fat_count in
    elim b [
      | inl wrong ↦ elim wrong.1 [ inl none ↦ omega arith | inr many ↦ omega arith ]
      | inr listed ↦
          let k = listed.entry in
          let low = listed.below in
          elim (cases_lt k (fat_sector_count s.old)) [
            | inl before ↦
                let here = old_fat_sector s k before in
                let valid = fat_valid s.old k ok.fat before in
                elim listed.broken.wrong [
                  | inl outside ↦ omega arith
                  | inr twice ↦
                      let less = twice.below in
                      let there = old_fat_sector s twice.earlier (omega arith) in
                      let same = sym there ∙ (twice.same ∙ here) in
                      ok.fat (76 + 4 * k) (inr (record {
                        entry = k;
                        below = before;
                        broken = record {
                          here = refl;
                          wrong = inr (record { earlier = twice.earlier; below = less; same = same });
                        };
                      }))
                ]
            | inr behind ↦
                let here = new_fat_sector s k behind low in
                elim listed.broken.wrong [
                  | inl outside ↦ omega arith
                  | inr twice ↦
                      let less = twice.below in
                      let same = twice.same in
                      elim (cases_lt twice.earlier (fat_sector_count s.old)) [
                        | inl first ↦
                            let there = old_fat_sector s twice.earlier first in
                            let valid = fat_valid s.old twice.earlier ok.fat first in
                            omega arith
                        | inr both ↦
                            let there = new_fat_sector s twice.earlier both (omega arith) in
                            omega arith
                      ]
                ]
          ]
    ]
