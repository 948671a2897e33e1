-- The counts and the pairs of a stream with a FIB of the early form in front are those of the stream.
use Rattle.std.proofs.Common.{◌≡◌, ◌∙◌, ◌<◌, refl, sym, ap, ℕ, List, length, drop, lit<}
use Rattle.fib_form.specs.declared.form.Form.TheVariants.{Early}
use Rattle.fib_form.specs.declared.stories.StoryKind.{StoryKind}
use Rattle.fib_form.specs.declared.table_parts.TablePart.{TablePart}
use Rattle.fib_form.specs.declared.table_parts.TablePart.TheVariants.{Stshf, PlcffndRef, PlcffndTxt, PlcfSed, PlcfHdd}
use Rattle.fib_form.specs.declared.table_parts.TablePart.TheVariants.{PlcfBteChpx, PlcfBtePapx, SttbfFfn, PlcfFldMom}
use Rattle.fib_form.specs.declared.table_parts.TablePart.TheVariants.{PlcfFldHdr, PlcfFldFtn, SttbfBkmk, PlcfBkf}
use Rattle.fib_form.specs.declared.table_parts.TablePart.TheVariants.{PlcfBkl, Dop, SttbfAssoc, Clx, PlfLst, PlfLfo}
use Rattle.fib_form.specs.Fib.{kept_pairs, form_size, fib_pair}
use Rattle.fib_form.specs.FibFields.{FibFields, fib_fields, listed_pair}
use Rattle.fib_form.specs.FibBytes.{written_fib}
use Rattle.fib_form.specs.Stories.{story_ccp}
use Rattle.fib_form.specs.TableParts.{pair_number}
use Rattle.fib_form.proofs.Public.{pair_at-fib_pairs, length-written_fib, drop_front}
use Rattle.fib_versions.specs.Early.{early_pair, early_pairs, early_fields, early_wd}
use Rattle.file_rules.specs.Source.{DocSource, story_length}
use Rattle.file_rules.proofs.Public.{story_count}
use Rattle.fib_versions.proofs.Public.{length-early_pairs, pair_at-early_pairs}

pub early_behind : (wd : List ℕ) → drop (form_size Early) (early_wd wd (early_pairs wd)) ≡ drop (form_size Early) wd
early_behind wd =
    let fib = early_fields wd (early_pairs wd) in
    drop_front (written_fib fib) (drop (form_size Early) wd) (form_size Early) (length-written_fib fib
    (length-early_pairs wd))

pub part_below : (part : TablePart) → pair_number part < kept_pairs
part_below Stshf = lit< tt
part_below PlcffndRef = lit< tt
part_below PlcffndTxt = lit< tt
part_below PlcfSed = lit< tt
part_below PlcfHdd = lit< tt
part_below PlcfBteChpx = lit< tt
part_below PlcfBtePapx = lit< tt
part_below SttbfFfn = lit< tt
part_below PlcfFldMom = lit< tt
part_below PlcfFldHdr = lit< tt
part_below PlcfFldFtn = lit< tt
part_below SttbfBkmk = lit< tt
part_below PlcfBkf = lit< tt
part_below PlcfBkl = lit< tt
part_below Dop = lit< tt
part_below SttbfAssoc = lit< tt
part_below Clx = lit< tt
part_below PlfLst = lit< tt
part_below PlfLfo = lit< tt

part_stays : (wd : List ℕ) (part : TablePart) → early_pair wd (pair_number part) ≡ fib_pair wd (pair_number part)
part_stays wd Stshf = refl
part_stays wd PlcffndRef = refl
part_stays wd PlcffndTxt = refl
part_stays wd PlcfSed = refl
part_stays wd PlcfHdd = refl
part_stays wd PlcfBteChpx = refl
part_stays wd PlcfBtePapx = refl
part_stays wd SttbfFfn = refl
part_stays wd PlcfFldMom = refl
part_stays wd PlcfFldHdr = refl
part_stays wd PlcfFldFtn = refl
part_stays wd SttbfBkmk = refl
part_stays wd PlcfBkf = refl
part_stays wd PlcfBkl = refl
part_stays wd Dop = refl
part_stays wd SttbfAssoc = refl
part_stays wd Clx = refl
part_stays wd PlfLst = refl
part_stays wd PlfLfo = refl

-- so the pair of a part is that of the stream
pub early_part : (wd : List ℕ) (part : TablePart) → listed_pair (early_pairs wd) (pair_number part) ≡ fib_pair wd
    (pair_number part)
early_part wd part = pair_at-early_pairs wd (pair_number part) (part_below part) ∙ part_stays wd part

-- the pair of a part, where a FIB has these fields
pub pair_same : (old new : List ℕ) (part : TablePart) → fib_fields new ≡ early_fields old (early_pairs old) →
    fib_pair new (pair_number part) ≡ fib_pair old (pair_number part)
pair_same old new part fields =
    let n = pair_number part in
    sym (pair_at-fib_pairs new n (part_below part))
    ∙ (ap (λ (f : FibFields). listed_pair f.pairs n) fields ∙ early_part old part)

pub story_same : (old new : DocSource) (story : StoryKind) →
    fib_fields new.wd ≡ early_fields old.wd (early_pairs old.wd) → story_length new story ≡ story_length old story
story_same old new story fields =
    sym (story_count new story)
    ∙ (ap (λ (f : FibFields). story_ccp f.ccps story) fields ∙ story_count old story)
