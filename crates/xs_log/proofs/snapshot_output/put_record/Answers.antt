use Rattle.xs_log.proofs.snapshot_output.put_record.Goals as goal

pub push-requires-clause-spelled : goal.push-requires-clause-spelled
push-requires-clause-spelled g c = c.may_be_record.ensures.yes c.if-not-may_be_record.false c.args.first.now c.requires.short

pub returns-in-Ok-clause-spelled : goal.returns-in-Ok-clause-spelled
returns-in-Ok-clause-spelled g c = c.may_be_record.ensures.yes c.if-not-may_be_record.false c.args.first.now c.requires.short
