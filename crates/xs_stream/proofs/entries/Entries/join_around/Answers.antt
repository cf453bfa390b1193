use Rattle.xs_stream.proofs.entries.Entries.join_around.Goals as goal

pub returns-in-Some-clause-filed_up_to_top : goal.returns-in-Some-clause-filed_up_to_top
returns-in-Some-clause-filed_up_to_top c = λ top up. c.join_next-in-Some.ensures.filed_up_to_top top (c.join_next.ensures.filed_up_to_top top up)
