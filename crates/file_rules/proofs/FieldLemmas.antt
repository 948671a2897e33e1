-- Rule 52: a table that is read up to its first wrong entry, and the units at the CPs before that one.
use Rattle.std.proofs.Common.{◌≡◌, inl, inr, ℕ, ◌+◌, ◌*◌, ◌<◌, ◌≤◌, List, length, Option, Some, None, slice_index}
use Rattle.std.proofs.Common.{refl, sym, subst, arith}
use Rattle.std.specs.Prelude.{IfSome}
use Rattle.std.proofs.lemmas.Bool.{cases_lt}
use Rattle.doc_bits.specs.Rules.{Nowhere, IsLeast, LeastOrNone}
use Rattle.doc_parts.specs.declared.lists.Fld.{Fld}
use Rattle.doc_parts.specs.Table.{plc_part, IsValidEntry, AreReadEntries, BreaksTable}
use Rattle.doc_parts.specs.Fields.{fld_form, fld_cps}
use Rattle.file_rules.specs.Rows.{HasWrongRow}
use Rattle.file_rules.specs.FieldRules.{IsFieldThere, HasOtherUnit, BreaksFields}

-- an entry that was read is not wrong
not_wrong : (story bytes : List ℕ) (at : ℕ) (list : List Fld) (fault : Option ℕ) (k : ℕ) → AreReadEntries fld_form
    (fld_cps (length story)) bytes at list fault → k < length list →
    ¬ (¬ (IsValidEntry fld_form (fld_cps (length story)) (plc_part 2 bytes) k))
not_wrong story bytes at list None k read h wrong =
    let within = read.leading.within in
    read.judged (at + 4 * k) (inr (record {
      entry = k;
      below = omega arith;
      broken = record {
        here = refl;
        broken = wrong;
      };
    }))
not_wrong story bytes at list (Some f) k read h wrong =
    let within = read.leading.within in
    let ends = read.ends in
    let least = read.judged.least (at + 4 * k) (inr (record {
      entry = k;
      below = omega arith;
      broken = record { here = refl; broken = wrong };
    })) in
    omega arith

-- the part has the right length where an entry was read
not_wrong_part : (story bytes : List ℕ) (at : ℕ) (list : List Fld) (fault : Option ℕ) (q : ℕ) → AreReadEntries fld_form
    (fld_cps (length story)) bytes at list fault → 0 < length list → BreaksTable fld_form (fld_cps (length story))
    bytes at q → at < q
not_wrong_part story bytes at list None q read h broken = absurd (read.judged q broken)
not_wrong_part story bytes at list (Some f) q read h broken =
    let ends = read.ends in
    let least = read.judged.least q broken in
    omega arith

-- an entry that was read, and whose unit is in the text, is as the rule says
not_field : (story bytes : List ℕ) (at : ℕ) (list : List Fld) (fault : Option ℕ) (k : ℕ) → AreReadEntries fld_form
    (fld_cps (length story)) bytes at list fault → k < length list → ¬ (HasOtherUnit story list k) →
    ¬ (¬ (IsFieldThere story (plc_part 2 bytes) k))
not_field story bytes at list fault k read h same wrong =
    not_wrong story bytes at list fault k read h (λ right.
    same (λ unit. wrong (record {
      right = right;
      unit = subst (λ (o : Option Fld). IfSome o (λ fld. slice_index story fld.cp ≡ fld.unit)) (read.leading.each k h)
          unit;
    })))

-- the first other unit has the least place
pub least_field : (story bytes : List ℕ) (at : ℕ) (list : List Fld) (fault : Option ℕ) (p : ℕ) → AreReadEntries fld_form
    (fld_cps (length story)) bytes at list fault → IsLeast (λ a b. a ≤ b) (HasWrongRow (length list) (λ k. at + 4 * k)
    (HasOtherUnit story list)) p → IsLeast (λ a b. a ≤ b) (BreaksFields story bytes at) p
least_field story bytes at list fault p read first =
    let row = first.broken in
    let here = row.broken.here in
    let below = row.below in
    let within = read.leading.within in
    record {
      broken = inr (record {
        entry = row.entry;
        below = omega arith;
        broken = record {
          here = here;
          broken = λ there. row.broken.broken (subst (λ (o : Option Fld). IfSome o (λ fld. slice_index story fld.cp ≡
              fld.unit)) (sym (read.leading.each row.entry below)) there.unit);
        };
      });
      least = λ q w. elim w [
        | inl x ↦ (let after = not_wrong_part story bytes at list fault q read (omega arith) (inl x) in
            let part = x.0 in omega arith)
        | inr y ↦
            let other = y.broken.here in
            elim (cases_lt y.entry row.entry) [
              | inl less ↦ absurd (not_field story bytes at list fault y.entry read (omega arith)
                  (λ wrong. let le = first.least (at + 4 * y.entry) (record {
                    entry = y.entry;
                    below = omega arith;
                    broken = record { here = refl; broken = wrong };
                  }) in omega arith)
                  y.broken.broken)
              | inr more ↦ omega arith
            ]
      ];
    }

-- where all units are in the text the rule is that of the table
pub same_field : (story bytes : List ℕ) (at : ℕ) (list : List Fld) (fault : Option ℕ) → AreReadEntries fld_form
    (fld_cps (length story)) bytes at list fault → Nowhere (HasWrongRow (length list) (λ k. at + 4 * k) (HasOtherUnit
    story list)) → LeastOrNone (BreaksFields story bytes at) fault
same_field story bytes at list None read none = λ q w. elim w [
  | inl x ↦ read.judged q (inl x)
  | inr y ↦
      let all = read.ends in
      let below = y.below in
      not_field story bytes at list None y.entry read (omega arith)
      (λ wrong. none (at + 4 * y.entry) (record {
        entry = y.entry;
        below = omega arith;
        broken = record {
          here = refl;
          broken = wrong;
        };
      }))
      y.broken.broken
]
same_field story bytes at list (Some f) read none = record {
  broken = elim read.judged.broken [
    | inl x ↦ inl x
    | inr y ↦ inr (record {
      entry = y.entry;
      below = y.below;
      broken = record {
        here = y.broken.here;
        broken = λ there. y.broken.broken there.right;
      };
    })
  ];
  least = λ q w. elim w [
    | inl x ↦ read.judged.least q (inl x)
    | inr y ↦
        let here = y.broken.here in
        let ends = read.ends in
        elim (cases_lt y.entry (length list)) [
          | inl less ↦ absurd (not_field story bytes at list (Some f) y.entry read less
              (λ wrong. none (at + 4 * y.entry) (record {
                entry = y.entry;
                below = less;
                broken = record { here = refl; broken = wrong };
              }))
              y.broken.broken)
          | inr more ↦ omega arith
        ]
  ];
}
