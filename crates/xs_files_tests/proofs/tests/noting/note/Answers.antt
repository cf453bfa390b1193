use Rattle.std.proofs.Common.{arith}
use Rattle.xs_tape.proofs.Sizes.{event_spelled}
use Rattle.xs_files_tests.proofs.tests.noting.note.Goals as goal

pub note_and_keep-requires-clause-short : goal.note_and_keep-requires-clause-short
note_and_keep-requires-clause-short g c =
    event_spelled c.as_slice-words.result.now c.in_ok-now.now (omega (arith, c.get-millis.ensures.small)) (c.can_be_record.ensures c.if-not-can_be_record.false)
