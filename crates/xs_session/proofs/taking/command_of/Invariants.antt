use Rattle.std.proofs.Common.{IfOk}
use Rattle.xs_command.specs.Read.{command_of_words}
use Rattle.xs_command.specs.WellFormed.{IsWellFormed}
use Rattle.xs_command.specs.Words.{Gives}
use Rattle.xs_session.proofs.taking.command_of.Given as goal

-- the last reading is that of the words
abbrev pub invariant-loop : goal.invariant-loop
invariant-loop l = Gives l.said (command_of_words l.fn.words) × IfOk l.said IsWellFormed
