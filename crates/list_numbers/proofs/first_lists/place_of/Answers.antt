use Rattle.std.proofs.Common.{◌∙◌, sym, ◌==◌}
use Rattle.list_numbers.specs.declared.list_format.ListFormat.{ListFormat}
use Rattle.list_numbers.proofs.FirstLemmas.{first_within}
use Rattle.list_numbers.proofs.first_lists.place_of.Goals as goal

pub get-requires-2 : goal.get-requires-2
get-requires-2 c =
    first_within (λ (list : ListFormat). list.number == c.in_ok-number.number) c.in_ok-list.field-0.now
    c.args.lists.now (sym (c.in_ok-list.ensures.value ∙ c.requires c.in_ok-number.number))
