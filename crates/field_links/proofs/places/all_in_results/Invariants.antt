use Rattle.std.proofs.Common.{◌≡◌, take, true}
use Rattle.field_links.specs.OpenFields.{is_in_results}
use Rattle.field_links.proofs.places.all_in_results.Given as goal

-- the results of those so far have begun
abbrev pub invariant-loop-field : goal.invariant-loop-field
invariant-loop-field l = is_in_results (take l.field-index l.fields) ≡ true
