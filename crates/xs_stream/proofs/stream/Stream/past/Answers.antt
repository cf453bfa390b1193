use Rattle.std.proofs.Common.{sym, ap, ◌∙◌, subst}
use Rattle.std.proofs.lemmas.Result.{IfOk-weaker}
use Rattle.xs_stream.specs.StreamContent.{StreamInMemory, ids_of, up_to_limit, Ascends}
use Rattle.xs_stream.specs.ConsistentStream.{AreValid}
use Rattle.xs_stream.proofs.InOrder.{limited-none}
use Rattle.xs_stream.proofs.Past.{past-ids, past-none, past-ascends}
use Rattle.xs_stream.proofs.stream.Stream.past.Goals as goal
use Rattle.xs_stream.proofs.stream.Stream.past.Goals.{After-self}

are-valid : (c : After-self) → AreValid c.self.inside.top c.args.self.now.entries
are-valid c = subst (λ (s : StreamInMemory). AreValid c.self.inside.top s.entries) c.self.view_is c.self.invariant.valid

pub returns-in_default-clause-ids : goal.returns-in_default-clause-ids
returns-in_default-clause-ids c =
    let valid = are-valid (goal.at.returns-in_default-clause-ids c).After-self in
    let none = past-none c.args.cursor (ids_of c.args.self.now.entries) (sym c.next.ensures ∙ c.in_default.is) valid.are_ids in
    ap ids_of (c.new-in_default.ensures ∙ c.new.ensures.items) ∙ sym (ap (up_to_limit c.args.limit) none ∙ limited-none c.args.limit)

pub returns-clause-ids : goal.returns-clause-ids
returns-clause-ids c =
    let valid = are-valid (goal.at.returns-clause-ids c).After-self in
    let ids = past-ids c.args.cursor c.in-Some.low c.self.inside.top c.args.limit c.args.self.now.entries (sym c.next.ensures ∙ c.in-Some.is) valid.are_ids valid.consistent.up_to_top in
    IfOk-weaker c.entries.result _ _ (λ found e. ap ids_of e ∙ ids) c.entries.ensures.entries

pub returns-clause-ascends : goal.returns-clause-ascends
returns-clause-ascends c =
    let ascends = past-ascends c.args.limit c.args.cursor c.args.self.now.entries (are-valid (goal.at.returns-clause-ascends c).After-self).consistent.ascends in
    IfOk-weaker c.entries.result _ _ (λ found e. subst Ascends (sym e) ascends) (returns-clause-ids c)
