use Rattle.std.proofs.Common.{◌≡◌, ◌∙◌, ◌*◌, ◌+◌, ap, length, rules}
use Rattle.std.specs.Vec.{vec_len}
use Rattle.fkp_gaps.specs.Filled.{next_page}
use Rattle.fkp_gaps.proofs.PageLemmas.{pushed_page}
use Rattle.fkp_gaps.proofs.page.push_empty_run.Goals as goal

pub returns : goal.returns
returns c =
    let number = c.next_page_of-at.ensures ∙ ap next_page c.deref.ensures.value in
    let at = 512 * c.next_page_of-at.result in
    let wd_is : vec_len c.args.wd.now ≡ length c.args.wd.now.items = search rules in
    let a_is : vec_len c.resize.new.self ≡ at = search rules in
    let b_is : vec_len c.resize-2.new.self ≡ at + 4 = search rules in
    let c_is : vec_len c.resize-3.new.self ≡ at + 8 = search rules in
    pushed_page c.args.wd.now.items c.resize.new.self.items c.resize-2.new.self.items c.resize-3.new.self.items
    c.resize-4.new.self.items c.push.new.self.items at (ap (λ n. 512 * n) number)
    (record {
      wd_len = vec_len c.args.wd.now;
      a_len = vec_len c.resize.new.self;
      b_len = vec_len c.resize-2.new.self;
      c_len = vec_len c.resize-3.new.self;
      wd_is = wd_is;
      a_is = a_is;
      b_is = b_is;
      c_is = c_is;
      first = c.in_ok-resize.ensures.items;
      second = c.in_ok-resize-2.ensures.items;
      third = c.in_ok-resize-3.ensures.items;
      fourth = c.in_ok-resize-4.ensures.items;
    }) c.in_ok-push.ensures.items
