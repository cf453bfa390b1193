use Rattle.xs_replay.proofs.Served.{survive, log-survives, first-survive, all-survive}
use Rattle.xs_replay.proofs.laws.a_crash_cuts_the_calls.Goals as goal

pub returns-clause-served : goal.returns-clause-served
returns-clause-served c = λ old new calls kept serves. survive kept old new calls serves

pub returns-clause-log : goal.returns-clause-log
returns-clause-log c = log-survives

pub returns-clause-first : goal.returns-clause-first
returns-clause-first c = first-survive

pub returns-clause-all : goal.returns-clause-all
returns-clause-all c = all-survive
