use Rattle.std.proofs.Common.{[]}
use Rattle.std.proofs.lemmas.Result.{on_ok_weaker}
use Rattle.xs_replay.specs.Pieces.{pieces_of}
use Rattle.xs_snapshot.proofs.Kept.{snapshot_kept}
use Rattle.xs_snapshot.proofs.writing.complete_snapshot.Goals as goal

pub returns-clause-keeps : goal.returns-clause-keeps
returns-clause-keeps g c = λ number closed moment has.
    let content = c.args.keyspace.now in
    let put = c.in_ok-put_keys.ensures.more.puts number closed moment [] has in
    on_ok_weaker c.end.result (snapshot_kept number closed c.end.new.self.writing.holds (record { content = content; moment = moment })) (c.end.ensures.keeps number closed moment (pieces_of content) put)
