use Rattle.std.proofs.Common.{[], ◌∷◌, ◌++◌, sym, ◌∙◌, subst, append_assoc}
use Rattle.std.proofs.lemmas.Result.{err_from_is_err_and}
use Rattle.xs_replay.specs.After.{ServerState}
use Rattle.xs_replay.specs.Pieces.{pieces_of}
use Rattle.xs_log.specs.PieceOf.{piece_of}
use Rattle.xs_log.specs.SnapshotPieces.{HasPieces}
use Rattle.xs_log.specs.SnapshotReading.{HasRead}
use Rattle.xs_log.proofs.SnapshotLaws.{file_is, file_has}
use Rattle.xs_snapshot.specs.Building.{pieces_so_far}
use Rattle.xs_snapshot.proofs.PiecesInOrder.{first-read, all-read, same-pieces}
use Rattle.xs_snapshot.proofs.RestorableContents.{restorable-fits}
use Rattle.xs_snapshot.proofs.reading.read_snapshot.Goals as goal

pub returns-in_err-piece-clause-err : goal.returns-in_err-piece-clause-err
returns-in_err-piece-clause-err g c = λ bytes state known is can.
    let pieces = pieces_so_far c.loop-count.builder in
    let out = c.in_err-piece.ensures.err c.args.number (g.R.Source.rest c.args.source) c.in_ok-reader.moment state.moment pieces (pieces_of state.content) bytes c.loop-count.invariant.0 known (file_has c.args.number bytes state is) in
    let exit = err_from_is_err_and c.from_residual-in_err-piece.result c.from_residual-in_err-piece.ensures.1 in
    rw (exit.1, exit.2) out

pub returns-in_err-keyspace-clause-err : goal.returns-in_err-keyspace-clause-err
returns-in_err-keyspace-clause-err g c = λ bytes state known is can.
    let number = c.args.number in
    let first = g.R.Source.rest c.args.source in
    let moment = c.in_ok-reader.moment in
    let pieces = pieces_so_far c.loop-count.builder in
    let read = rw c.in_default.is at (c.in_ok-piece.ensures.ok number first moment pieces c.loop-count.invariant.0) in
    let same = same-pieces number first c.next_piece.new.self moment state.moment pieces (pieces_of state.content) bytes known read (file_has number bytes state is) in
    let whole = (restorable-fits state.content can).ends c.loop-count.builder c.loop-count.invariant.1 (sym same) in
    let out = c.in_err-keyspace.ensures.err whole in
    let exit = err_from_is_err_and c.from_residual-in_err-keyspace.result c.from_residual-in_err-keyspace.ensures.1 in
    rw (exit.1, exit.2) out

pub returns-in_default-clause-ok : goal.returns-in_default-clause-ok
returns-in_default-clause-ok g c = λ bytes known.
    let number = c.args.number in
    let first = g.R.Source.rest c.args.source in
    let moment = c.in_ok-reader.moment in
    let pieces = pieces_so_far c.loop-count.builder in
    let read = rw c.in_default.is at (c.in_ok-piece.ensures.ok number first moment pieces c.loop-count.invariant.0) in
    let whole = all-read number first c.next_piece.new.self moment moment pieces pieces bytes known read in
    let found : ServerState = record { content = c.in_ok-keyspace.keyspace; moment = moment } in
    file_is number bytes found (subst (λ ps. HasPieces number bytes moment ps) (sym c.in_ok-keyspace.ensures.ok) whole)

pub returns-in_default-clause-whole : goal.returns-in_default-clause-whole
returns-in_default-clause-whole g c =
    let number = c.args.number in
    let moment = c.in_ok-reader.moment in
    let pieces = pieces_so_far c.loop-count.builder in
    let read = rw c.in_default.is at (c.in_ok-piece.ensures.ok number (g.R.Source.rest c.args.source) moment pieces c.loop-count.invariant.0) in
    let found : ServerState = record { content = c.in_ok-keyspace.keyspace; moment = moment } in
    (read.0, file_is number read.0 found (subst (λ ps. HasPieces number read.0 moment ps) (sym c.in_ok-keyspace.ensures.ok) read.3))

pub returns-in_err-put_next-clause-err : goal.returns-in_err-put_next-clause-err
returns-in_err-put_next-clause-err g c = λ bytes state known is can.
    let number = c.args.number in
    let first = g.R.Source.rest c.args.source in
    let moment = c.in_ok-reader.moment in
    let pieces = pieces_so_far c.loop-count.builder in
    let piece = piece_of c.in-Some.piece in
    let read = rw c.in-Some.is at (c.in_ok-piece.ensures.ok number first moment pieces c.loop-count.invariant.0) in
    let others = first-read number first c.next_piece.new.self moment state.moment (pieces ++ piece ∷ []) (pieces_of state.content) bytes known read (file_has number bytes state is) in
    let follows = (restorable-fits state.content can).follows c.loop-count.builder piece others.0 c.loop-count.invariant.1 (others.1 ∙ append_assoc pieces (piece ∷ []) others.0) in
    let out = c.in_err-put_next.ensures.err follows in
    let exit = err_from_is_err_and c.from_residual-in_err-put_next.result c.from_residual-in_err-put_next.ensures.1 in
    rw (exit.1, exit.2) out

pub loop-count-preserved : goal.loop-count-preserved
loop-count-preserved g c =
    let number = c.args.number in
    let first = g.R.Source.rest c.args.source in
    let moment = c.in_ok-reader.moment in
    let pieces = pieces_so_far c.loop-count.builder in
    let read = rw c.in-Some.is at (c.in_ok-piece.ensures.ok number first moment pieces c.loop-count.invariant.0) in
    (subst (λ ps. HasRead number first c.next_piece.new.self moment ps) (sym c.in_ok-put_next.ensures.ok) read, c.put_next.ensures.order)
