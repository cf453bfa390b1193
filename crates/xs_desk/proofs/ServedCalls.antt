-- The calls of a desk, and one call more.
use Rattle.std.specs.Prelude.{◌≡◌, ◌≢◌, ℕ, ◌<◌, ◌≤◌, ◌==◌, true, false, List, [], ◌∷◌, ◌++◌, length, map, slice_get}
use Rattle.std.specs.Prelude.{Some, All, if◌then◌else◌, refl}
use Rattle.std.proofs.Common.{sym, ◌∙◌, ap, subst, inl, inr, arith, length-append, append_assoc}
use Rattle.std.proofs.lemmas.List.{append-nil, map-append, length-map}
use Rattle.std.proofs.lemmas.List.Elements.{filter-append, All-push}
use Rattle.std.proofs.lemmas.Option.{slice_get_within}
use Rattle.std.proofs.lemmas.Bool.Decides.{nat_tests}
use Rattle.xs_keys.specs.Event.{Event}
use Rattle.xs_command.specs.WellFormed.{IsWellFormed}
use Rattle.xs_keys.specs.Headline.{RunsOn}
use Rattle.xs_replay.proofs.Served.{step-runs, runs-join}
use Rattle.xs_desk.specs.ServedCalls.{ServedCall, LaneOf, Desk, of_lane, commands_of, answers_of, events_of, replies_of}
use Rattle.xs_desk.specs.ServedCalls.{CountUp, AreCallsOf}
use Rattle.xs_desk.specs.KeeperTurns.{with_call, ServesCall, ServesAll, Turns, ExtendsCalls, HasPlaces}
use Rattle.xs_desk.proofs.Lists.{snoc-cases, set-cases, length-slice_set}

-- ---- the calls of a lane

same-lane : (k j : ℕ) → j ≡ k → (j == k) ≡ true
same-lane k j e = grind (arith, nat_tests)

other-lane : (k j : ℕ) → j ≢ k → (j == k) ≡ false
other-lane k j e = grind (arith, nat_tests)

pub of_lane-same : (k : ℕ) (so_far : List ServedCall) (call : ServedCall) → call.lane ≡ k → of_lane k (so_far ++ call ∷ []) ≡ of_lane k so_far ++ call ∷ []
of_lane-same k so_far call e = filter-append (λ c. c.lane == k) so_far (call ∷ []) ∙ ap (λ b. of_lane k so_far ++ (if b then call ∷ [] else [])) (same-lane k call.lane e)

pub of_lane-other : (k : ℕ) (so_far : List ServedCall) (call : ServedCall) → call.lane ≢ k → of_lane k (so_far ++ call ∷ []) ≡ of_lane k so_far
of_lane-other k so_far call e = filter-append (λ c. c.lane == k) so_far (call ∷ []) ∙ ap (λ b. of_lane k so_far ++ (if b then call ∷ [] else [])) (other-lane k call.lane e) ∙ append-nil (of_lane k so_far)

length-of_lane : (k : ℕ) (so_far : List ServedCall) → length (of_lane k so_far) ≤ length so_far
length-of_lane k [] = omega arith
length-of_lane k (call ∷ calls) =
    elim (call.lane == k) as (λ b. length (if b then call ∷ of_lane k calls else of_lane k calls) ≤ length (call ∷ calls)) [ true ↦ omega (arith, length-of_lane k calls) | false ↦ omega (arith, length-of_lane k calls) ]

-- ---- one call more

count-snoc : (numbers : List ℕ) (n : ℕ) → CountUp numbers → n ≡ length numbers → CountUp (numbers ++ n ∷ [])
count-snoc numbers n up is i m at = elim (snoc-cases numbers n i m at) [ inl p ↦ up i m p | inr p ↦ omega (arith, p.0, p.1, is) ]

count-more : (f : ServedCall → ℕ) (calls : List ServedCall) (call : ServedCall) → CountUp (map f calls) → f call ≡ length calls → CountUp (map f (calls ++ call ∷ []))
count-more f calls call up is =
    subst CountUp (sym (map-append f calls (call ∷ []))) (count-snoc (map f calls) (f call) up (is ∙ sym (length-map calls f)))

lanes-more : (so_far : List ServedCall) (old : Desk) (call : ServedCall) (new : Desk) → AreCallsOf so_far old → ServesCall old call new
    → (k : ℕ) (lane : LaneOf) → slice_get new.lanes k ≡ Some lane
    → (lane.popped ≡ commands_of (of_lane k (so_far ++ call ∷ []))) × (lane.sent ≡ answers_of (of_lane k (so_far ++ call ∷ [])))
lanes-more so_far old call new is serves k lane at =
    let here = is.lanes call.lane serves.lane serves.here in
    elim (set-cases old.lanes call.lane k (with_call serves.lane call) lane (subst (λ ls. slice_get ls k ≡ Some lane) serves.lanes_are at)) [
      | inl p ↦
          let mine = of_lane-same k so_far call (sym p.0) in (
            ap (λ x. x.popped) p.1 ∙ ap (λ x. x ++ call.command ∷ []) (here.0 ∙ ap (λ j. commands_of (of_lane j so_far)) (sym p.0))
                ∙ sym (ap commands_of mine ∙ map-append (λ c. c.command) (of_lane k so_far) (call ∷ [])),
            ap (λ x. x.sent) p.1 ∙ ap (λ x. x ++ call.answer ∷ []) (here.1 ∙ ap (λ j. answers_of (of_lane j so_far)) (sym p.0))
                ∙ sym (ap answers_of mine ∙ map-append (λ c. c.answer) (of_lane k so_far) (call ∷ [])),
          )
      | inr p ↦
          let other = of_lane-other k so_far call p.0 in
          let there = is.lanes k lane p.1 in
          (there.0 ∙ sym (ap commands_of other), there.1 ∙ sym (ap answers_of other))
    ]

tickets-more : (so_far : List ServedCall) (old : Desk) (call : ServedCall) (new : Desk) → AreCallsOf so_far old → ServesCall old call new
    → (k : ℕ) → CountUp (map (λ c. c.answer.ticket) (of_lane k (so_far ++ call ∷ [])))
tickets-more so_far old call new is serves k =
    let here = is.lanes call.lane serves.lane serves.here in
    let ticket : call.answer.ticket ≡ length (of_lane call.lane so_far) = serves.ticket_is ∙ ap length here.1 ∙ length-map (of_lane call.lane so_far) (λ c. c.answer) in
    elim (call.lane == k) as (λ b. (call.lane == k) ≡ b → CountUp (map (λ c. c.answer.ticket) (of_lane k (so_far ++ call ∷ [])))) [
      | true ↦ λ e.
          let j : call.lane ≡ k = grind (arith, nat_tests) in
          subst (λ cs. CountUp (map (λ c. c.answer.ticket) cs)) (sym (of_lane-same k so_far call j))
          (count-more (λ c. c.answer.ticket) (of_lane k so_far) call (is.tickets k) (ticket ∙ ap (λ i. length (of_lane i so_far)) j))
      | false ↦ λ e.
          let j : call.lane ≢ k = grind (arith, nat_tests) in
          subst (λ cs. CountUp (map (λ c. c.answer.ticket) cs)) (sym (of_lane-other k so_far call j)) (is.tickets k)
    ] refl

pub calls-more : (so_far : List ServedCall) (old : Desk) (call : ServedCall) (new : Desk) → AreCallsOf so_far old → ServesCall old call new → AreCallsOf (so_far ++ call ∷ []) new
calls-more so_far old call new is serves =
    let n : length new.lanes ≡ length old.lanes = ap length serves.lanes_are ∙ length-slice_set old.lanes call.lane (with_call serves.lane call) in
    let e : Event = (call.answer.moment, call.command) in
    let events : events_of (so_far ++ call ∷ []) ≡ events_of so_far ++ e ∷ [] = map-append (λ c. (c.answer.moment, c.command)) so_far (call ∷ []) in
    let replies : replies_of (so_far ++ call ∷ []) ≡ replies_of so_far ++ call.answer.reply ∷ [] = map-append (λ c. c.answer.reply) so_far (call ∷ []) in
    let runs : RunsOn old.start (events_of so_far ++ e ∷ []) (replies_of so_far ++ call.answer.reply ∷ []) new.keyspace =
    runs-join old.start old.keyspace new.keyspace (events_of so_far) (e ∷ []) (replies_of so_far) (call.answer.reply ∷ []) is.runs (step-runs old.keyspace new.keyspace e call.answer.reply serves.formed serves.applied) in
    record {
      places = count-more (λ c. c.answer.place) so_far call is.places (serves.place_is ∙ is.next);
      tickets = tickets-more so_far old call new is serves;
      lanes = lanes-more so_far old call new is serves;
      within = subst (λ m. All (λ c. c.lane < m) (so_far ++ call ∷ [])) (sym n) (All-push (λ c. c.lane < length old.lanes) so_far call is.within (slice_get_within old.lanes call.lane serves.lane serves.here));
      formed = All-push (λ c. IsWellFormed c.command) so_far call is.formed serves.formed;
      next = omega (arith, serves.next_is, is.next, length-append so_far (call ∷ []));
      runs = subst (λ c. RunsOn c (events_of (so_far ++ call ∷ [])) (replies_of (so_far ++ call ∷ [])) new.keyspace) (sym serves.start_is)
          (subst (λ es. RunsOn old.start es (replies_of (so_far ++ call ∷ [])) new.keyspace) (sym events) (subst (λ rs. RunsOn old.start (events_of so_far ++ e ∷ []) rs new.keyspace) (sym replies) runs));
    }

pub calls-run : (so_far : List ServedCall) (old : Desk) (calls : List ServedCall) (new : Desk) → AreCallsOf so_far old → ServesAll old calls new → AreCallsOf (so_far ++ calls) new
calls-run so_far old [] new is serves = subst (λ desk. AreCallsOf (so_far ++ []) desk) (sym serves) (subst (λ h. AreCallsOf h old) (sym (append-nil so_far)) is)
calls-run so_far old (call ∷ calls) new is serves =
    subst (λ h. AreCallsOf h new) (append_assoc so_far (call ∷ []) calls) (calls-run (so_far ++ call ∷ []) serves.0 calls new (calls-more so_far old call serves.0 is serves.1) serves.2)

start-stays : (old : Desk) (calls : List ServedCall) (new : Desk) → ServesAll old calls new → new.start ≡ old.start
start-stays old [] new serves = ap (λ (desk : Desk). desk.start) serves
start-stays old (call ∷ calls) new serves = start-stays serves.0 calls new serves.2 ∙ serves.1.start_is

-- ---- a turn

pub calls-go-on : {C : Type 0} (gives : C → ℕ → C → Type 0) (old : Desk) (clock : C) (n high : ℕ) (new : Desk) (later : C) (so_far : List ServedCall)
    → AreCallsOf so_far old → Turns gives old clock n high new later → ExtendsCalls gives old clock n high new later
calls-go-on gives old clock n high new later so_far is t = record {
  turns = t;
  before = so_far;
  old_is = is;
  new_is = calls-run so_far old t.calls new is t.served;
  start_is = start-stays old t.calls new t.served;
}

-- ---- what follows from the calls of a desk

pub calls-have-places : (so_far : List ServedCall) (desk : Desk) → AreCallsOf so_far desk → HasPlaces desk
calls-have-places so_far desk is k lane at =
    omega (arith, ap length (is.lanes k lane at).1 ∙ length-map (of_lane k so_far) (λ c. c.answer), length-of_lane k so_far, is.next)

-- a lane has as many answers as calls
pub calls-even : (so_far : List ServedCall) (desk : Desk) → AreCallsOf so_far desk → (k : ℕ) (lane : LaneOf) → slice_get desk.lanes k ≡ Some lane → length lane.sent ≡ length lane.popped
calls-even so_far desk is k lane at =
    let here = is.lanes k lane at in
    ap length here.1 ∙ length-map (of_lane k so_far) (λ c. c.answer) ∙ sym (ap length here.0 ∙ length-map (of_lane k so_far) (λ c. c.command))
