use Rattle.std.proofs.Common.{sym, subst}
use Rattle.xs_log.specs.SnapshotPieces.{front_records}
use Rattle.xs_log.specs.SnapshotReading.{HasRead}
use Rattle.xs_log.proofs.SnapshotReads.{gives_all, goes_on, ends_there, read_piece_more, read_to_end}
use Rattle.xs_log.proofs.snapshot_reader.SnapshotReader.next_piece.Goals as goal

pub returns-in-Err-clause-err : goal.returns-in-Err-clause-err
returns-in-Err-clause-err g c = λ number first moment last pieces all bytes has known is.
    let here = subst (λ r. HasRead number first r moment pieces) (sym c.self.view_is) has in
    let on = goes_on number c.self.inside.count first (g.R.Source.rest c.self.inside.source) c.self.inside.requests moment last pieces all here.taken (gives_all first number bytes last all known is) is.fits here.count_is in
    c.in-Err.ensures.err first (front_records number moment pieces) on.others on.words here.taken on.gives on.may

pub returns-in-Ok-take_end-clause-ok : goal.returns-in-Ok-take_end-clause-ok
returns-in-Ok-take_end-clause-ok g c = λ number first moment pieces has.
    let here = subst (λ r. HasRead number first r moment pieces) (sym c.self.view_is) has in
    let done = front_records number moment pieces in
    let found = c.in-Ok.ensures.ok first done here.taken in
    let taken = rw c.in_default.is at found in
    read_to_end number c.self.inside.count first (g.R.Source.rest c.take_piece.new.source) (g.R.Source.rest c.take_end.new.source) c.args.self.now c.take_piece.new.requests c.take_end.new.requests moment pieces has here.count_is taken
    (c.in-Ok-take_end.ensures.ok first _ taken)

pub returns-in-Err-take_end-clause-err : goal.returns-in-Err-take_end-clause-err
returns-in-Err-take_end-clause-err g c = λ number first moment last pieces all bytes has known is.
    let here = subst (λ r. HasRead number first r moment pieces) (sym c.self.view_is) has in
    let done = front_records number moment pieces in
    let found = c.in-Ok.ensures.ok first done here.taken in
    let taken = rw c.in_default.is at found in
    c.in-Err-take_end.ensures.err first _ taken
    (ends_there number c.self.inside.count first (g.R.Source.rest c.take_piece.new.source) c.take_piece.new.requests moment last pieces all taken (gives_all first number bytes last all known is))

pub returns-clause-ok : goal.returns-clause-ok
returns-clause-ok g c = λ number first moment pieces has.
    let here = subst (λ r. HasRead number first r moment pieces) (sym c.self.view_is) has in
    let found = c.in-Ok.ensures.ok first (front_records number moment pieces) here.taken in
    let taken = rw c.in-Some.is at found in
    read_piece_more number c.self.inside.count c.in-Some-checked_add.count first (g.R.Source.rest c.take_piece.new.source) c.args.self.now c.take_piece.new.requests moment pieces _ has here.count_is c.in-Some-checked_add.ensures.1 taken
