use Rattle.std.proofs.Common.{codes}
use Rattle.json.specs.Print.{escape_byte}
use Rattle.serde_json.specs.Data.{Members, no_members, member}
use Rattle.style_sheet.specs.declared.styles.Style.{Style}
use Rattle.json_values.specs.Digits.{units_json}
use Rattle.std.specs.Prelude.{option_map}
use Rattle.json_values.specs.Settings.{properties_json}
use Rattle.json_values.specs.Rows.{number_json, member_if}
use Rattle.json_doc.specs.Styles.{chp_of_kind, pap_of_kind, lists_json, stk_of_kind, upxes_of_kind}
use Rattle.json_doc.proofs.WrittenLemmas.{where_ok, adds, later, later_two}
use Rattle.json_doc.proofs.styles.write_style.Goals as goal

-- the members from `sti` on, and from `flags` on
abbrev from_sti : Style → Members
from_sti style =
    member (codes "sti") (number_json style.sti)
    (member_if (codes "stk") (option_map number_json (stk_of_kind style.kind))
    (member_if (codes "upxes") (option_map lists_json (upxes_of_kind style.kind)) no_members))

abbrev from_flags : Style → Members
from_flags style =
    member (codes "flags") (number_json style.flags)
    (member (codes "grfstd") (number_json style.grfstd)
    (member (codes "name") (units_json style.name)
    (member (codes "next") (number_json style.next)
    (member_if (codes "par") (option_map properties_json (pap_of_kind style.kind)) (from_sti style)))))

pub returns : goal.returns
unfolding escape_byte
returns c =
    let style = c.args.style.now in
    where_ok c.push-7.result (λ last.
    adds c.in_ok-push.ensures.ok (adds c.in_ok-write_base.ensures
    (later (codes "char") (option_map properties_json (chp_of_kind style.kind)) (from_flags style)
    c.in_ok-write_char.ensures
    (adds c.in_ok-push-2.ensures.ok (adds c.in_ok-write_byte.ensures
    (adds c.in_ok-push-3.ensures.ok (adds c.in_ok-write_short.ensures
    (adds c.in_ok-push-4.ensures.ok (adds c.in_ok-write_name.ensures
    (adds c.in_ok-push-5.ensures.ok (adds c.in_ok-write_short-2.ensures
    (later (codes "par") (option_map properties_json (pap_of_kind style.kind)) (from_sti style) c.in_ok-write_par.ensures
    (adds c.in_ok-push-6.ensures.ok (adds c.in_ok-write_short-3.ensures
    (later_two (codes "stk") (codes "upxes") (option_map number_json (stk_of_kind style.kind))
    (option_map lists_json (upxes_of_kind style.kind)) no_members
    c.in_ok-write_lists.ensures last)))))))))))))))
    c.push-7.ensures.ok
