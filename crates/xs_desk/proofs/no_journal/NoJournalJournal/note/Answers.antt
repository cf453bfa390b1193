use Rattle.std.specs.Prelude.{not}
use Rattle.xs_replay.specs.Calls.{is_left_out}
use Rattle.xs_replay.proofs.Served.{left-out}
use Rattle.xs_desk.proofs.no_journal.NoJournalJournal.note.Goals as goal

pub returns-clause-noted : goal.returns-clause-noted
returns-clause-noted c = λ old new step vain. record {
  in_log = not (is_left_out c.args._call.now.command c.args._reply.now);
  rule = left-out old c.args._moment c.args._call.now.command c.args._reply.now new c.requires.command step;
  noted = λ events kept h. tt;
}
