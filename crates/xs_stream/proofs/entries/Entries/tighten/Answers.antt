use Rattle.xs_stream.proofs.entries.Entries.tighten.Goals as goal

pub returns-clause-filed_up_to_top : goal.returns-clause-filed_up_to_top
returns-clause-filed_up_to_top c = λ top up. rw c.seal.ensures.blocks (c.join_around.ensures.filed_up_to_top top up)
