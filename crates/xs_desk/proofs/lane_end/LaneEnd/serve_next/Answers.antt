use Rattle.std.proofs.Common.{rules, ◌≡◌, ◌+◌, ◌∷◌, [], ◌++◌, refl, ap, ◌∙◌}
use Rattle.std.proofs.lemmas.List.{map-append}
use Rattle.rtrb.specs.Ring.{received}
use Rattle.xs_desk.specs.Calls.{asked_by}
use Rattle.xs_desk.specs.Outbox.{given}
use Rattle.xs_desk.specs.Rings.{consumer_ring, producer_ring}
use Rattle.xs_desk.specs.declared.answer.Answer.{Answer}
use Rattle.xs_desk.proofs.Notings.{handed-or}
use Rattle.xs_desk.proofs.lane_end.LaneEnd.serve_next.Goals as goal

pub returns-clause-looks : goal.returns-clause-looks
returns-clause-looks g c =
    let call = c.pop_known-call.result in
    let answer : Answer = record { ticket = c.args.self.now.ticket; place = c.args.place.now; moment = c.now-moment.result; reply = c.apply-reply.result } in
    let popped : asked_by (received c.pop_known-call.new.self) ≡ asked_by (received c.args.self.now.calls) ++ call.command ∷ [] =
    ap asked_by c.pop_known-call.ensures.received.0 ∙ map-append (λ call. call.command) (received c.args.self.now.calls) (call ∷ []) in
    let sent : given c.give.new.self ≡ given c.args.self.now.answers ++ answer ∷ [] = c.give.ensures.given in
    let calls : consumer_ring c.pop_known-call.new.self ≡ consumer_ring c.args.self.now.calls = search rules in
    let answers : producer_ring c.give.new.self.ring ≡ producer_ring c.args.self.now.answers.ring = c.give.ensures.ring in
    let next : c.in-Some.next ≡ c.args.place.now + 1 = search rules in
    record {
      command = call.command;
      answer = answer;
      lane_is = cc;
      ticket_is = c.args.self.now.counted;
      place_is = refl;
      next_is = next;
      formed = c.pop_known-call.ensures.allowed.command;
      applied = c.apply-reply.ensures;
      moment = c.now-moment.ensures;
      noted = c.note.ensures.noted c.args.keyspace.now c.apply-reply.new.self c.apply-reply.ensures c.is_in_vain-in_vain.ensures;
      handed_is = handed-or c.args.serving.holds_back (λ held. c.give.ensures.sent held) (λ at_once. c.requires.3 at_once);
    }
