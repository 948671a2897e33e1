use Rattle.layer_rows.proofs.piece_blocks.is_spot.Given as goal

-- the blank opens an account of its own
abbrev pub ghosts-spot_and_steps : goal.ghosts-spot_and_steps
ghosts-spot_and_steps a = record { name = a.blank.name; parts = a.blank.parts }
