use Rattle.list_numbers.proofs.ListLemmas.{no_lists_read, next_are_whole, list_read, list_is_there, few_lists}
use Rattle.list_numbers.proofs.reading.lists_of.Goals as goal

pub loop-k-init : goal.loop-k-init
loop-k-init c = rw c.new-lists.ensures (no_lists_read c.args.lst.now c.args.levels.now)

pub is_simple-simple-requires : goal.is_simple-simple-requires
is_simple-simple-requires c =
    list_is_there c.args.lst.now c.args.levels.now c.loop-k.k c.requires
    (rw (← c.list_count-k-end.ensures.count) c.loop-k-test.true)

pub list_number-requires : goal.list_number-requires
list_number-requires c =
    list_is_there c.args.lst.now c.args.levels.now c.loop-k.k c.requires
    (rw (← c.list_count-k-end.ensures.count) c.loop-k-test.true)

pub read_levels-requires : goal.read_levels-requires
read_levels-requires c =
    rw (c.levels_of_list-count.ensures, c.is_simple-simple.ensures)
    (next_are_whole c.args.lst.now c.args.levels.now c.loop-k.lists c.loop-k.at c.loop-k.k c.requires
    c.loop-k.invariant (rw (← c.list_count-k-end.ensures.count) c.loop-k-test.true))

pub loop-k-preserved : goal.loop-k-preserved
loop-k-preserved c =
    rw c.in_ok-add.ensures
    (list_read c.args.lst.now c.args.levels.now c.loop-k.lists c.loop-k.at c.read_levels.new.at c.loop-k.k
    c.list_number.result c.levels_of_list-count.result c.is_simple-simple.result c.in_ok-read_levels.field-0
    c.loop-k.invariant c.list_number.ensures c.is_simple-simple.ensures c.levels_of_list-count.ensures
    c.in_ok-read_levels.ensures.levels c.in_ok-read_levels.ensures.at)

pub returns-clause-few : goal.returns-clause-few
returns-clause-few c =
    few_lists c.args.lst.now c.args.levels.now c.loop-k.lists c.loop-k.at c.loop-k.k c.list_count-k-end.result
    c.loop-k.invariant c.loop-k.auto.k-end c.list_count-k-end.ensures.few
