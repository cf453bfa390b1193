use Rattle.std.proofs.Common.{◌≡◌, List, ◌++◌, [], ◌∷◌, codes, OnOk, sym, ap, ◌∙◌, subst, append_assoc, append-nil}
use Rattle.std.specs.List.{flat_map}
use Rattle.xs_resp.specs.Token.{Token}
use Rattle.xs_resp.specs.ReplyItems.{tokens_of}
use Rattle.xs_keys.specs.Terms.{Bulk, Int}
use Rattle.xs_keys.specs.Inspecting.{end_reply}
use Rattle.xs_keys.proofs.Appending.{appended, appended-last}
use Rattle.xs_keys.proofs.xinfo.push_ends.Goals as goal

pub returns : goal.returns
returns c =
    let before = c.args.tokens.now in
    let groups : List Token = flat_map tokens_of (Bulk (codes "groups") ∷ Int c.args.groups ∷ Bulk (codes "first-entry") ∷ []) in
    let one : List Token = tokens_of (end_reply c.args.first.now) in
    let name : List Token = tokens_of (Bulk (codes "last-entry")) in
    let other : List Token = tokens_of (end_reply c.args.last.now) in
    let first = appended before _ _ _ _ c.in_ok-push_number.ensures c.in_ok-push_bulk.ensures.ok in
    let end = appended before groups _ _ _ first c.in_ok-push_end.ensures in
    let last = appended before (groups ++ one) _ _ _ end c.in_ok-push_bulk-2.ensures.ok in
    let all = appended-last c.push_end-2.result before ((groups ++ one) ++ name) _ _ _ last c.push_end-2.ensures in
    let shape = append_assoc (groups ++ one) name other ∙ append_assoc groups one (name ++ other) ∙ ap (λ w. groups ++ (one ++ (name ++ w))) (sym (append-nil other)) in
    subst (λ (w : List Token). OnOk c.push_end-2.result (c.push_end-2.new.tokens ≡ before ++ w)) shape all
