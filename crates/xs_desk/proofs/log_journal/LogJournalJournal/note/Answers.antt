use Rattle.std.proofs.Common.{sym, ◌∙◌}
use Rattle.xs_desk.proofs.LogSteps.{left-out-of, noted-of, vain-of}
use Rattle.xs_desk.proofs.log_journal.LogJournalJournal.note.Goals as goal

pub returns-then-in_vain-clause-noted : goal.returns-then-in_vain-clause-noted
returns-then-in_vain-clause-noted g c = λ old new step vain.
    vain-of _ c.args.self.now c.args.moment c.args.call.now.command c.args.reply.now old new step (vain c.if-in_vain.true)

pub returns-then-may_be_left_out-clause-noted : goal.returns-then-may_be_left_out-clause-noted
returns-then-may_be_left_out-clause-noted g c = λ old new step vain.
    left-out-of _ c.args.self.now c.args.moment c.args.call.now.command c.args.reply.now c.requires.command (sym c.may_be_left_out.ensures ∙ c.if-may_be_left_out.true) old new step

pub returns-clause-noted : goal.returns-clause-noted
returns-clause-noted g c = λ old new step vain.
    noted-of _ c.args.self.now c.append.new.self c.args.moment c.args.call.now.command c.args.reply.now c.requires.command (sym c.may_be_left_out.ensures ∙ c.if-may_be_left_out.false) c.append.ensures.noted old new step
