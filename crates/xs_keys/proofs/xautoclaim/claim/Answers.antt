use Rattle.std.proofs.Common.{◌≡◌, IfOk, OnOk, OnErr, sym, ap, ◌∙◌, refl, rules}
use Rattle.xs_keys.specs.Terms.{insert, GroupState, ids_of, scan_of}
use Rattle.xs_keys.specs.GroupAsk.{auto_claim}
use Rattle.xs_keys.specs.ContentAfter.{group_after}
use Rattle.xs_keys.specs.KeysRoom.{KeyInMemory, key_state_of}
use Rattle.xs_keys.specs.ReplyParts.{scan_reply}
use Rattle.xs_keys.proofs.AskSteps.{said-of, put_same}
use Rattle.xs_keys.proofs.Attempts.{attempted}
use Rattle.xs_keys.proofs.xautoclaim.claim.Goals as goal

pub returns-in-Ok : goal.returns-in-Ok
returns-in-Ok c =
    let changed = c.in-Ok.ensures.ok in
    let asked = c.args.command.now in
    let was = changed.group.now in
    let present = ids_of changed.stream.now.entries in
    let found = scan_of was.rows.entries present c.args.now asked.rule asked.start asked.limit in
    let answers : IfOk c.in-Ok.reply (λ reply. reply ≡ scan_reply asked.rule.just_id changed.stream.now.entries found) = search rules in
    let changes : OnOk c.in-Ok.reply (changed.left.now ≡ group_after c.args.now present (auto_claim asked.consumer asked.rule asked.start asked.limit) was) = search rules in
    let same : OnErr c.in-Ok.reply (changed.left.now ≡ was) = search rules in
    let key : KeyInMemory = record { stream = changed.stream.now; groups = changed.groups } in
    let put = λ (group : GroupState). insert c.args.keys.now asked.key (key_state_of (record { stream = changed.stream.now; groups = insert changed.groups asked.group group })) in
    attempted _ _ _ _ c.in-Ok.reply _ _ _ answers changes same
    (λ reply answers changes. record {
      answer_is = answers ∙ sym (said-of c.args.keys.now asked.key asked.group (key_state_of key) was changed.found changed.has
          (λ entries g. scan_reply asked.rule.just_id entries (scan_of g.rows.entries (ids_of entries) c.args.now asked.rule asked.start asked.limit)));
      content_is = changed.content_is ∙ ap put changes ∙ rw (changed.found, changed.has) refl;
    })
    (λ same. record {
      takes = refl;
      no_other = rw (changed.found, changed.has) refl;
      answer_is = refl;
      content_is = changed.content_is ∙ ap put same ∙ put_same c.args.keys.now asked.key asked.group (key_state_of key) was changed.found changed.has;
    })
