use Rattle.cfb_directory.proofs.Public.{EntryBefore-names, ComesBefore-entries}
use Rattle.cfb_streams.proofs.laws.entry_order_is_name_order.Goals as goal

pub returns : goal.returns
returns c =
    λ file at other name later a b. (
      ComesBefore-entries file at other name later a b,
      EntryBefore-names file at other
          name later a b,
    )
