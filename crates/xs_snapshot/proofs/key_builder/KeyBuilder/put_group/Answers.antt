use Rattle.std.proofs.Common.{[], ◌∷◌, ◌++◌, Option, Some, ap, ◌∙◌}
use Rattle.std.specs.List.{flat_map}
use Rattle.std.proofs.lemmas.Result.{IfOk-weaker}
use Rattle.xs_stream.specs.StreamContent.{StreamState}
use Rattle.xs_group.specs.GroupState.{GroupState}
use Rattle.xs_keys.specs.Event.{Bytes}
use Rattle.xs_replay.specs.Pieces.{of_group, pieces_of_group}
use Rattle.xs_snapshot.specs.Building.{pieces_if_there, KeySoFar, pieces_of_key_so_far}
use Rattle.xs_snapshot.proofs.PiecesBehind.{group-next}
use Rattle.xs_snapshot.proofs.key_builder.KeyBuilder.put_group.Goals as goal

pub returns-clause-behind : goal.returns-clause-behind
returns-clause-behind c =
    let inside = c.self.inside in
    let groups = c.push_group.new.groups in
    let stream : StreamState = record { top = inside.top; entries = inside.stream.entries; added = inside.added; deleted = inside.deleted } in
    let next = c.replace-last.ensures.after ∙ ap (λ (b : Bytes × GroupState). Some b) c.new.ensures in
    IfOk-weaker c.push_group.result _ _ (λ put is same.
    ap (λ (g : Option (Bytes × GroupState)). pieces_of_key_so_far (record { key = (inside.name, record { stream = stream; groups = groups }); group = g })) next
    ∙ group-next inside.name stream inside.groups groups inside.group c.args.name c.args.cursor
    (is same ∙ ap (λ (g : Option (Bytes × GroupState)). flat_map pieces_of_group inside.groups.entries ++ pieces_if_there pieces_of_group g) c.replace-last.ensures.value)
    ∙ ap (λ (k : KeySoFar). pieces_of_key_so_far k ++ of_group c.args.name c.args.cursor ∷ []) c.self.view_is) c.push_group.ensures.behind
