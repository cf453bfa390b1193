use Rattle.std.proofs.Common.{IfOk}
use Rattle.xs_command.specs.Read.{command_of_words}
use Rattle.xs_command.specs.WellFormed.{IsWellFormed}
use Rattle.xs_command.specs.Words.{Gives}
use Rattle.xs_session.proofs.releasing.command_of.Given as goal

-- the last reading is that of the words
abbrev pub invariant-loop-said : goal.invariant-loop-said
invariant-loop-said l = Gives l.said (command_of_words l.fn.words) × IfOk l.said IsWellFormed

abbrev pub decreases-loop-said : goal.decreases-loop-said
decreases-loop-said l = l.reserve
