use Rattle.chunked_list.proofs.list.BlockList.spot.Given as goal

-- the blank opens an account of its own
abbrev pub ghosts-spot_with : goal.ghosts-spot_with
ghosts-spot_with g a = record { name = a.blank.name; parts = a.blank.parts }
