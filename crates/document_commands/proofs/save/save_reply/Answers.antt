use Rattle.document_commands.proofs.save.save_reply.Goals as goal

pub returns : goal.returns
returns c = c.in_ok-reply.ensures c.args.document.now c.full_of_columns.ensures
