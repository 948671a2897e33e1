-- A stretch's refusal is the file's: the rules before it hold.
use Rattle.std.proofs.Common.{inl, inr, refl, ℕ, ◌≤◌, List, arith}
use Rattle.doc_bits.specs.declared.places.Where.{Where}
use Rattle.doc_bits.specs.declared.places.Where.TheVariants.{File, Wd, Table}
use Rattle.doc_bits.specs.Rules.{Rules, Hold, ◌then◌, given, rule, Nowhere, IsLeast, IsFirstOffset, IsSingle}
use Rattle.doc_bits.specs.Places.{Place, Upto, rules_in}
use Rattle.doc_bits.proofs.Public.{first_in, hold_in, hold_or_first}
use Rattle.cfb_sectors.specs.declared.faults.CfbFault.{CfbFault}
use Rattle.cfb_sectors.specs.declared.faults.CfbFault.TheVariants as cfb
use Rattle.cfb_streams.specs.Contents.{Contents, HasNamed, HasNoNamed}
use Rattle.cfb_sectors.specs.Judged.{IsCfbFault}
use Rattle.piece_table.specs.declared.fault.ClxFault.{ClxFault}
use Rattle.piece_table.specs.declared.fault.ClxFault.TheVariants as clx
use Rattle.piece_table.specs.ClxRules.{IsClxFault}
use Rattle.doc_parts.specs.declared.fault.PartFault.{PartFault}
use Rattle.doc_parts.specs.declared.fault.PartFault.TheVariants as part
use Rattle.doc_parts.specs.Table.{IsPartFault}
use Rattle.file_rules.specs.declared.fault.ReadFault.{ReadFault}
use Rattle.file_rules.specs.declared.fault.ReadFault.TheVariants.{Refused, Memory}
use Rattle.file_rules.specs.Faults.{IsReadFault, part_refusal, clx_refusal, cfb_refusal, style_refusal, page_refusal}
use Rattle.direct_props.specs.declared.rules.PageFault.{PageFault}
use Rattle.style_sheet.specs.declared.fault.StyleFault.{StyleFault}
use Rattle.style_sheet.specs.declared.fault.StyleFault.TheVariants as style
use Rattle.style_sheet.specs.Stsh.{IsStyleFault}
use Rattle.file_rules.specs.FileRules.{HasNoStream}

-- a rule is broken in a part, and this is its least place
pub refused-rule : (place : Where) (number : ℕ) (breaks : ℕ → Type 0) (offset : ℕ) → IsLeast (λ a b. a ≤ b) breaks
    offset → IsReadFault (rules_in place (rule number breaks)) (Refused number place offset)
refused-rule place number breaks offset least = first_in place (rule number breaks) number offset (refl, least)

-- a rule is broken nowhere in a part
pub holds-rule : (place : Where) (number : ℕ) (breaks : ℕ → Type 0) → Nowhere breaks →
    Hold (rules_in place (rule number breaks))
holds-rule place number breaks none = hold_in place (rule number breaks) none

-- the first stretch is refused
pub refused-first : (first next : Rules Place) (fault : ReadFault) → IsReadFault first fault →
    IsReadFault (first then next) fault
refused-first first next (Refused number place offset) refused = inl refused
refused-first first next Memory refused = tt

-- the rules before hold
pub refused-next : (first next : Rules Place) (fault : ReadFault) → Hold first → IsReadFault next fault →
    IsReadFault (first then next) fault
refused-next first next (Refused number place offset) holds refused = inr (holds, refused)
refused-next first next Memory holds refused = tt

-- rules that hold are not refused, but for memory
pub none-refused : (rules others : Rules Place) (fault : ReadFault) → IsSingle rules → Hold rules →
    IsReadFault rules fault → IsReadFault others fault
none-refused rules others (Refused number place offset) single holds refused =
    absurd (hold_or_first Upto rules number (place, offset) single holds refused)
none-refused rules others Memory single holds refused = tt

-- the object is there
pub refused-given : {A : Type 0} (is : A → Type 0) (rules : A → Rules Place) (x : A) (fault : ReadFault) → is x →
    IsReadFault (rules x) fault → IsReadFault (given is rules) fault
refused-given is rules x (Refused number place offset) there refused = (x, (there, refused))
refused-given is rules x Memory there refused = tt

-- a part of the table stream is refused
pub refused-part : (rules : Rules ℕ) (fault : PartFault) → IsPartFault rules fault → IsReadFault (rules_in Table
    rules) (part_refusal fault)
refused-part rules (part.Rule number offset) first = first_in Table rules number offset first
refused-part rules part.Memory first = tt

-- the rules of a layer speak of single objects in any part
pub single_in : (place : Where) (rules : Rules ℕ) → IsSingle rules → IsSingle (rules_in place rules)
single_in place (rule number breaks) s = tt
single_in place (first then next) s = (single_in place first s.0, single_in place next s.1)
single_in place (given is rules) s = (s.0, λ x h. single_in place (rules x) (s.1 x h))

-- a page is refused
pub refused-page : (rules : Rules ℕ) (fault : PageFault) → IsFirstOffset rules fault.rule fault.offset →
    IsReadFault (rules_in Wd rules) (page_refusal fault)
refused-page rules fault first = first_in Wd rules fault.rule fault.offset first

-- the style sheet is refused
pub refused-sheet : (rules : Rules ℕ) (fault : StyleFault) → IsStyleFault rules fault → IsReadFault (rules_in Table
    rules) (style_refusal fault)
refused-sheet rules (style.Rule number offset) first = first_in Table rules number offset first
refused-sheet rules style.Memory first = tt

-- the Clx is refused
pub refused-clx : (rules : Rules ℕ) (fault : ClxFault) → IsClxFault rules fault → IsReadFault (rules_in Table rules)
    (clx_refusal fault)
refused-clx rules (clx.Rule number offset) first = first_in Table rules number offset first
refused-clx rules clx.Memory first = tt

-- the container is refused
pub refused-container : (rules : Rules ℕ) (fault : CfbFault) → IsCfbFault rules fault →
    IsReadFault (rules_in File rules) (cfb_refusal fault)
refused-container rules (cfb.Rule number offset) first = first_in File rules number offset first
refused-container rules cfb.Memory first = tt

-- no stream has the name
pub stream-missing : (place : Where) (contents : Contents) (name : List ℕ) (number offset : ℕ) →
    HasNoNamed contents.streams name → IsReadFault (rules_in place (rule number (HasNoStream contents name offset)))
    (Refused number place offset)
stream-missing place contents name number offset none =
    refused-rule place number (HasNoStream contents name offset) offset (record {
      broken = record {
        here = refl;
        none = none;
      };
      least = λ q b. let here = b.here in omega arith;
    })

-- a stream with the name is there
pub stream-there : (place : Where) (contents : Contents) (name bytes : List ℕ) (number offset : ℕ) →
    HasNamed contents.streams name bytes → Hold (rules_in place (rule number (HasNoStream contents name offset)))
stream-there place contents name bytes number offset named =
    holds-rule place number (HasNoStream contents name offset) (λ q none. none.none named.index named.stream
    named.here named.named)
