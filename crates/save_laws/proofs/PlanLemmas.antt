-- A written plan gives each of its units what it is to be given.
use Rattle.std.specs.Prelude.{slice_get}
use Rattle.std.specs.FinMap.{entries}
use Rattle.std.proofs.lemmas.Option.{slice_get_within}
use Rattle.std.proofs.Common.{◌≡◌, ◌∙◌, refl, sym, subst, ℕ, ◌+◌, ◌*◌, ◌<◌, ◌^◌, true, List, length, drop, Some, None}
use Rattle.std.proofs.Common.{arith}
use Rattle.prop_map.specs.Formed.{character_groups, paragraph_groups}
use Rattle.fkp_pages.specs.declared.kind.PageKind.{PageKind}
use Rattle.fkp_pages.specs.declared.kind.PageKind.TheVariants.{Chpx, Papx}
use Rattle.fkp_pages.specs.declared.lists.Run.{Run}
use Rattle.fkp_pages.specs.Runs.{run_groups, run_list, IsWritableRun}
use Rattle.fkp_pages.specs.Found.{sprms_of}
use Rattle.fkp_pages.proofs.Public.{lists_have_properties, row_run}
use Rattle.direct_props.specs.Direct.{MakesProperties}
use Rattle.doc_model.specs.declared.item.Mark.{Mark}
use Rattle.save_laws.specs.Places.{PagedStream, GivenUnit, GivesCharacters, GivesMark, GivesAt}
use Rattle.save_laws.specs.Plans.{Plan, IsWrittenPlan}
use Rattle.save_laws.specs.Laws.{PlansGive}
use Rattle.save_laws.proofs.RowLemmas.{row_gives}

-- a run's list makes its properties
makes : (kind : PageKind) (run : Run) → IsWritableRun kind run → run.istd < 2 ^ 16 →
    MakesProperties (sprms_of kind (run_list kind run)) (run_groups kind) run.map None
makes kind run writable small =
    let print = (lists_have_properties kind run writable small).properties in
    let back = print.back (run_groups kind) (entries run.map) writable.formed print.spelt in
    record { prls = entries run.map; spelt = print.spelt; map = back.0; style_is = sym back.1 }

some_run : {A : Type 0} (xs : List A) (k : ℕ) (x : A) → slice_get xs k ≡ Some x → 0 < length xs
some_run xs k x here = omega (arith, slice_get_within xs k x here)

gives_characters : (plan : Plan) (written : PagedStream) (k : ℕ) (given : GivenUnit) → IsWrittenPlan plan written →
    slice_get plan.added k ≡ Some given → GivesCharacters written (plan.base + 2 * k) given.chp
gives_characters plan written k given is here =
    let found = is.runs.character k given here in
    let run = found.0 in
    let in_run = found.1.0 in
    let placed = is.character_row (some_run is.characters in_run.number run in_run.there) in
    let fc : ℕ = plan.base + 2 * k in
    let right = row_run Chpx written.wd is.characters placed.0 fc run placed.1.0 in_run in
    record {
      list = run_list Chpx run;
      has = row_gives Chpx written.wd written.characters is.characters placed.0 fc run placed.1.0 placed.1.1 in_run;
      style = None;
      makes =
          subst (λ map. MakesProperties (run_list Chpx run) character_groups map None) found.1.1
          (makes Chpx run right.0 right.1.istd);
    }

gives_mark : (plan : Plan) (written : PagedStream) (k : ℕ) (given : GivenUnit) (mark : Mark) → IsWrittenPlan plan
    written →
    slice_get plan.added k ≡ Some given → given.mark ≡ Some mark → GivesMark written (plan.base + 2 * k) mark
gives_mark plan written k given mark is here marked =
    let found = is.runs.paragraph k given mark here marked in
    let run = found.0 in
    let in_run = found.1.0 in
    let placed = is.paragraph_row (some_run is.paragraphs in_run.number run in_run.there) in
    let fc : ℕ = plan.base + 2 * k in
    let right = row_run Papx written.wd is.paragraphs placed.0 fc run placed.1.0 in_run in
    let listed = (lists_have_properties Papx run right.0 right.1.istd).istd refl in
    record {
      list = run_list Papx run;
      has = row_gives Papx written.wd written.paragraphs is.paragraphs placed.0 fc run placed.1.0 placed.1.1 in_run;
      style = None;
      makes =
          subst (λ map. MakesProperties (drop 2 (run_list Papx run)) paragraph_groups map None) found.1.1.1
          (makes Papx run right.0 right.1.istd);
      style_is = sym found.1.1.0 ∙ sym listed;
    }

pub plans_give : PlansGive
plans_give plan written at wide given is planned =
    let k = planned.number in
    let fc : ℕ = plan.base + 2 * k in
    let within = is.within in
    let first = is.behind_fib in
    let below = slice_get_within plan.added k given planned.there in
    let here : GivesAt written fc true given = record {
      stands = record { behind_fib = omega (arith, first); inside = omega (arith, within, below) };
      unit = sym (is.units k given planned.there);
      characters = gives_characters plan written k given is planned.there;
      mark = λ mark marked. gives_mark plan written k given mark is planned.there marked;
    } in
    subst (λ n. GivesAt written n wide given) (sym planned.here)
    (subst (λ b. GivesAt written fc b given) (sym planned.two_bytes) here)
