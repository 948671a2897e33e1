-- Streams that are put last in a list of them.
use Rattle.std.proofs.Common.{◌≡◌, ◌⊎◌, inl, inr, ℕ, ◌+◌, ◌-◌, ◌^◌, ◌<◌, ◌≤◌, List, [], ◌∷◌, ◌++◌, length, Some}
use Rattle.std.proofs.Common.{slice_index, sym, ap, ◌∙◌, subst, arith, length-append}
use Rattle.std.specs.Prelude.{slice_get}
use Rattle.std.specs.List.{sum_by}
use Rattle.std.proofs.lemmas.Bool.{cases_lt, cases_order}
use Rattle.std.proofs.lemmas.List.Sums.{sum_by_push}
use Rattle.std.proofs.lemmas.Option.{slice_get_within, same_Some}
use Rattle.doc_bits.proofs.Public.{there_is, slice_get_push, slice_get_before}
use Rattle.cfb_directory.specs.Directory.{upper_case, IsNameBefore}
use Rattle.cfb_streams.specs.Contents.{NamedBytes, AreStreams, IsStored, AreStored, IsAfterLastName}

-- a name that comes before a second comes before a third that the second comes before
pub comes_before-trans : (a b c : List ℕ) → IsNameBefore a b → IsNameBefore b c → IsNameBefore a c
comes_before-trans a b c h k = elim h [
  | inl shorter ↦ elim k [
    | inl less ↦ inl (omega arith)
    | inr same ↦ let e = same.0 in inl (omega arith)
  ]
  | inr same ↦ elim k [
    | inl less ↦ let e = same.0 in inl (omega arith)
    | inr other ↦
        let e = same.0 in
        let l = same.1.1 in let m = other.1.1 in
        let unit : List ℕ → ℕ → ℕ = λ name i. upper_case (slice_index name i) in
        inr (
          e ∙ other.0,
          elim (cases_order same.1.0 other.1.0) [
            | inl eq ↦ (
              same.1.0,
              record {
                inside = l.inside;
                front = λ i low. l.front i low ∙ m.front i (omega arith);
                less =
                    (let x = l.less in let y : unit b same.1.0 < unit c same.1.0 = subst (λ n. unit b n < unit c n)
                    (sym eq) m.less in omega arith);
              },
            )
            | inr ne ↦ elim ne [
              | inl lo ↦ (
                same.1.0,
                record {
                  inside = l.inside;
                  front = λ i low. l.front i low ∙ m.front i (omega arith);
                  less = (let x = l.less in let y = m.front same.1.0 lo in omega arith);
                },
              )
              | inr hi ↦ (
                other.1.0,
                record {
                  inside = (let x = m.inside in omega arith);
                  front = λ i low. l.front i (omega arith) ∙ m.front i low;
                  less = (let x = m.less in let y = l.front other.1.0 hi in omega arith);
                },
              )
            ]
          ],
        )
  ]
]

-- a stream of the longer list is one of the list, or the last
pub pushed_stream : (streams : List NamedBytes) (last stream : NamedBytes) (i : ℕ) →
    slice_get (streams ++ last ∷ []) i ≡ Some stream →
    (slice_get streams i ≡ Some stream) ⊎ ((i ≡ length streams) × (last ≡ stream))
pushed_stream streams last stream i there = elim (cases_lt i (length streams)) [
  | inl low ↦ inl (sym (slice_get_before streams (last ∷ []) i low) ∙ there)
  | inr high ↦
      let within = slice_get_within (streams ++ last ∷ []) i stream there in
      let at : i ≡ length streams = omega (arith, length-append streams (last ∷ [])) in
      inr (
        at,
        same_Some last stream (sym (slice_get_push streams last)
            ∙ (ap (slice_get (streams ++ last ∷ [])) (sym at) ∙ there)),
      )
]

-- each name comes before one that comes after the last
all_before : (streams : List NamedBytes) (name : List ℕ) (i : ℕ) (stream : NamedBytes) → AreStreams streams →
    IsAfterLastName streams name → slice_get streams i ≡ Some stream → IsNameBefore stream.name name
all_before streams name i stream are ends there =
    let within = slice_get_within streams i stream there in
    let last = there_is streams (length streams - 1) (omega arith) in
    elim (cases_lt i (length streams - 1)) [
      | inl low ↦ comes_before-trans stream.name last.0.name name
          (are.order i (length streams - 1) stream last.0 low there last.1) (ends last.0 last.1)
      | inr high ↦
          let at : i ≡ length streams - 1 = omega arith in
          ends stream (subst (λ n. slice_get streams n ≡ Some stream) at there)
    ]

-- one stream more
pub push-AreStreams : (streams : List NamedBytes) (last : NamedBytes) → AreStreams streams → 1 ≤ length last.name →
    length last.name ≤ 31 → IsAfterLastName streams last.name →
    sum_by (λ stream. length stream.bytes) streams + length last.bytes < 2 ^ 48 → AreStreams (streams ++ last ∷ [])
push-AreStreams streams last are some short ends room = record {
  some = λ i stream there. elim (pushed_stream streams last stream i there) [
    | inl old ↦ are.some i stream old
    | inr new ↦ subst (λ s. 1 ≤ length s.name) new.1 some
  ];
  short = λ i stream there. elim (pushed_stream streams last stream i there) [
    | inl old ↦ are.short i stream old
    | inr new ↦ subst (λ s. length s.name ≤ 31) new.1 short
  ];
  order = λ i j stream later less first second. elim (pushed_stream streams last stream i first) [
    | inr new ↦
        let at = new.0 in
        let within = slice_get_within (streams ++ last ∷ []) j later second in
        absurd (omega (arith, length-append streams (last ∷ [])))
    | inl old ↦ elim (pushed_stream streams last later j second) [
      | inl both ↦ are.order i j stream later less old both
      | inr new ↦ subst (λ s. IsNameBefore stream.name s.name) new.1 (all_before streams last.name i stream are ends
          old)
    ]
  ];
  total = rw (sum_by_push (λ (stream : NamedBytes). length stream.bytes) streams last) room;
}

pub last_total : (streams : List NamedBytes) (last : NamedBytes) → AreStreams (streams ++ last ∷ []) →
    sum_by (λ stream. length stream.bytes) streams + length last.bytes < 2 ^ 48
last_total streams last are = let total = are.total in let e = sum_by_push
    (λ (stream : NamedBytes). length stream.bytes) streams last in omega arith

-- one stored stream more
pub push-AreStored : (streams : List NamedBytes) (last : NamedBytes) → AreStored streams →
    IsStored last.name last.bytes → AreStored (streams ++ last ∷ [])
push-AreStored streams last are is = λ i stream there. elim (pushed_stream streams last stream i there) [
  | inl old ↦ are i stream old
  | inr new ↦ subst (λ s. IsStored s.name s.bytes) new.1 is
]
