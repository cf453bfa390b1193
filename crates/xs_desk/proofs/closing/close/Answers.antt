use Rattle.std.specs.Prelude.{IsFalse}
use Rattle.std.proofs.Common.{rules, arith, ◌≡◌, false, List, subst, ap, refl}
use Rattle.xs_resp.specs.declared.reply.Reply.{Reply}
use Rattle.xs_keys.specs.Event.{History}
use Rattle.xs_keys.specs.Content.{Content}
use Rattle.xs_keys.specs.Headline.{RunsOn}
use Rattle.xs_desk.specs.ServedCalls.{LaneOf, Desk, events_of, replies_of}
use Rattle.xs_desk.specs.Callers.{AreEndsOfLanes}
use Rattle.xs_desk.specs.Closing.{AreEven}
use Rattle.xs_desk.proofs.ServedCalls.{calls-even}
use Rattle.xs_desk.proofs.closing.close.Goals as goal

runs-of : (old start new left : Content) (events : History) (replies : List Reply) → old ≡ start → new ≡ left → RunsOn old events replies new → RunsOn start events replies left
runs-of old start new left events replies begins ends runs = subst (λ c. RunsOn c events replies left) begins (subst (λ c. RunsOn old events replies c) ends runs)

pub sum_up_all-requires-clause-ends : goal.sum_up_all-requires-clause-ends
sum_up_all-requires-clause-ends c = subst (λ (ls : List LaneOf). AreEndsOfLanes ls c.args.ended.items) (ap (λ (d : Desk). d.lanes) c.into_parts-lane_ends.ensures.parts.1) c.requires

pub sum_up_all-requires-clause-even : goal.sum_up_all-requires-clause-even
sum_up_all-requires-clause-even c =
    let h = c.into_parts-lane_ends.ensures.calls in
    subst AreEven (ap (λ (d : Desk). d.lanes) c.into_parts-lane_ends.ensures.parts.1) (calls-even h.0 c.args.keeper h.1)

pub returns-clause-calls : goal.returns-clause-calls
returns-clause-calls c =
    let h = c.into_parts-lane_ends.ensures.calls in
    let left = ap (λ (d : Desk). d.keyspace) c.into_parts-lane_ends.ensures.parts.1 in
    let start = ap (λ (d : Desk). d.start) c.into_parts-lane_ends.ensures.parts.1 in
    (h.0, h.1, runs-of _ _ _ _ (events_of h.0) (replies_of h.0) start left h.1.runs)

pub returns-then-not-has_all-clause-refused : goal.returns-then-not-has_all-clause-refused
returns-then-not-has_all-clause-refused c =
    let so : IsFalse false = search rules in
    let missing = c.if-not-has_all.ensures.no so in
    (refl, refl, (missing.0, omega (arith, missing.1, c.lanes-count.ensures), missing.2))
