use Rattle.direct_props.proofs.reader.PlaceReader.new.Goals as goal

pub invariant_of-result : goal.invariant_of-result
invariant_of-result c = record {
  table = c.requires.table;
  small = c.requires.small;
  cursor_is = c.start.ensures c.args.wd.now c.args.bin.now;
  kept_are = c.new.ensures.lists c.args.kind c.args.wd.now c.in_ok-copy.field-0;
  bare_is = rw c.new.ensures.bare tt;
}
