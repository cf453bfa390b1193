-- The commands that don't depend on the time are a step at any moment, and so at this one.
use Rattle.xs_keys.proofs.inspect.inspect.Goals as goal

pub returns-in-Stream : goal.returns-in-Stream
returns-in-Stream c = rw c.in-Stream.is (c.stream.ensures c.args.now)

pub returns-in-Groups : goal.returns-in-Groups
returns-in-Groups c = rw c.in-Groups.is (c.groups.ensures c.args.now)
