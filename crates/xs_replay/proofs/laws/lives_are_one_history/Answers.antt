use Rattle.xs_replay.proofs.Served.{lives-run, lives-headline}
use Rattle.xs_replay.proofs.laws.lives_are_one_history.Goals as goal

pub returns-clause-run : goal.returns-clause-run
returns-clause-run c = lives-run

pub returns-clause-headline : goal.returns-clause-headline
returns-clause-headline c = lives-headline
