use Rattle.std.proofs.Common.{◌≡◌, ◌++◌, OnOk, subst, sym, ◌∙◌}
use Rattle.xs_resp.specs.ReplyItems.{tokens_of}
use Rattle.xs_keys.specs.Terms.{Reply}
use Rattle.xs_stream.specs.StreamContent.{IsEntryOf}
use Rattle.xs_stream.proofs.Lending.{is-lent}
use Rattle.xs_keys.proofs.PresentEntries.{lent-reply}
use Rattle.xs_keys.proofs.showing.push_along.Goals as goal

pub returns-then-eq : goal.returns-then-eq
returns-then-eq c =
    let entries = c.args.stream.now.entries in
    let found = c.in-Some.ensures.lookup in
    let is : IsEntryOf entries c.in-Some.entry.now = subst (IsEntryOf entries) (sym found.1) (is-lent entries c.args.lent.now c.args.place c.in-Some.entry.now found.3.0 c.requires) in
    let reply = lent-reply entries c.in-Some.entry.now c.id.result c.args.id is c.id.ensures (sym c.eq.ensures ∙ c.if-eq.true) in
    subst (λ (r : Reply). OnOk c.push_present.result (c.push_present.new.tokens ≡ c.args.tokens.now ++ tokens_of r)) reply c.push_present.ensures
