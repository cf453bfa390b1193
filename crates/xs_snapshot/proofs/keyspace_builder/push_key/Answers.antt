use Rattle.std.proofs.Common.{◌≡◌, List, ◌++◌, ap, ◌∙◌}
use Rattle.std.proofs.lemmas.Result.{IfOk-weaker}
use Rattle.xs_keys.specs.Event.{Bytes}
use Rattle.xs_keys.specs.Content.{KeyState}
use Rattle.xs_keys.specs.KeysRoom.{key_state_of}
use Rattle.xs_replay.specs.Pieces.{Piece, pieces_of_key, pieces_of}
use Rattle.xs_snapshot.specs.Building.{pieces_of_key_so_far}
use Rattle.xs_snapshot.proofs.PiecesBehind.{one-more}
use Rattle.xs_snapshot.proofs.keyspace_builder.push_key.Goals as goal

pub returns-in-Some-2-clause-behind : goal.returns-in-Some-2-clause-behind
returns-in-Some-2-clause-behind c =
    let old = c.args.keyspace.now in
    let new = c.restore_key.new.self in
    let key : Bytes × KeyState = (c.in-Some-2.name, key_state_of c.in-Some-2.slot) in
    let found = c.in_ok-name.ensures.pieces in
    let pieces : pieces_of_key key ≡ pieces_of_key_so_far c.in-Some.last = rw c.in-Some-2.is at found in
    rw c.in-Some.is (IfOk-weaker c.restore_key.result _ _ (λ put is same. one-more pieces_of_key old.entries new.entries key (is same) ∙ ap (λ (ps : List Piece). pieces_of old ++ ps) pieces) c.restore_key.ensures.behind)
