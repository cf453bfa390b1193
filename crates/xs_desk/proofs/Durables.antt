-- What was handed out is kept, turn by turn.
use Rattle.std.specs.Prelude.{◌≡◌, ◌⊎◌, ℕ, ◌+◌, ◌≤◌, List, [], ◌∷◌, ◌++◌, length, map, take, drop, slice_get, Some, Result, Ok, Err}
use Rattle.std.specs.Prelude.{MatchResult, refl}
use Rattle.std.proofs.Common.{sym, ◌∙◌, ap, subst, inl, inr, arith, length-append}
use Rattle.std.proofs.lemmas.List.{length-map, take-append-le, take-append-drop, take_all, append-nil}
use Rattle.std.proofs.lemmas.Option.{slice_get-map}
use Rattle.std.specs.Option.{option_map}
use mathlib.Core.List.{IsPrefix}
use Rattle.xs_keys.specs.Event.{Event}
use Rattle.xs_keys.specs.Content.{Content}
use Rattle.xs_replay.specs.Calls.{Call, Serves, log_of, survivors}
use Rattle.xs_replay.proofs.Served.{all-survive}
use Rattle.xs_desk.specs.declared.answer.Answer.{Answer}
use Rattle.xs_desk.specs.declared.lane_end.LaneEnd.{LaneEnd}
use Rattle.xs_desk.specs.ServedCalls.{ServedCall, Desk, of_lane, answers_of, AreCallsOf}
use Rattle.xs_desk.specs.KeeperTurns.{Turns, ExtendsCalls}
use Rattle.xs_desk.specs.LaneEnds.{lane_of, desk_of, handed_out}
use Rattle.xs_desk.specs.Noting.{KeepsAtOnce}
use Rattle.xs_desk.specs.Durable.{AreMarked, NotesAll, NotesTurn, IsDurable}
use Rattle.xs_desk.proofs.Lists.{some-of-map}
use Rattle.xs_desk.proofs.Notings.{serves-join, log-join, marks-join}
use Rattle.xs_desk.proofs.ServedCalls.{calls-run, calls-go-on}

marked-length : (marked : List Call) (so_far : List ServedCall) → AreMarked marked so_far → length marked ≡ length so_far
marked-length marked so_far marks = sym (length-map marked (λ c. c.event)) ∙ ap length marks.events ∙ length-map so_far (λ c. (c.answer.moment, c.command))

-- the lane's answers begin with those that were handed out
pub handed-first : (ends : List LaneEnd) (keyspace : Content) (place : ℕ) (start : Content) (so_far : List ServedCall) → AreCallsOf so_far (desk_of ends keyspace place start)
    → (k : ℕ) (lane_end : LaneEnd) → slice_get ends k ≡ Some lane_end → IsPrefix (handed_out lane_end) (answers_of (of_lane k so_far))
handed-first ends keyspace place start so_far is k lane_end at =
    let here = is.lanes k (lane_of lane_end) (slice_get-map lane_of ends k ∙ ap (option_map lane_of) at) in
    (lane_end.answers.held_back.items, here.1)

module _ {J : Type 0} (has : J → List Event → ℕ → Type 0) where
  pub durable-none : (ends : List LaneEnd) (keyspace : Content) (place : ℕ) (start : Content) (journal : J) → AreCallsOf [] (desk_of ends keyspace place start) → start ≡ keyspace → has journal [] 0
      → IsDurable has [] ends start keyspace journal
  durable-none ends keyspace place start journal is same h = record {
    marked = [];
    marks = record { events = refl; answers = refl };
    served = sym same;
    settled = 0;
    within = omega arith;
    kept = 0;
    journal_has = h;
    are_kept = omega arith;
    handed = λ k lane_end at. handed-first ends keyspace place start [] is k lane_end at;
  }

  -- some more calls, whose answers are held back
  held-back : (so_far : List ServedCall) (ends others : List LaneEnd) (start old new : Content) (before after : J) (calls : List ServedCall)
      → IsDurable has so_far ends start old before → NotesAll has before calls old new after → map handed_out others ≡ map handed_out ends → IsDurable has (so_far ++ calls) others start new after
  held-back so_far ends others start old new before after calls d n same =
      let many : d.settled ≤ length d.marked = omega (arith, d.within, marked-length d.marked so_far d.marks) in
      record {
        marked = d.marked ++ n.marked;
        marks = marks-join d.marked n.marked so_far calls d.marks n.marks;
        served = serves-join start d.marked old n.marked new d.served n.served;
        settled = d.settled;
        within = omega (arith, d.within, length-append so_far calls);
        kept = d.kept;
        journal_has = subst (λ es. has after es d.kept) (sym (log-join d.marked n.marked)) (n.noted (log_of d.marked) d.kept d.journal_has);
        are_kept = subst (λ cs. length (log_of cs) ≤ d.kept) (sym (take-append-le d.settled d.marked n.marked many)) d.are_kept;
        handed = λ k lane_end at.
            let there : slice_get (map handed_out ends) k ≡ Some (handed_out lane_end) = ap (λ hs. slice_get hs k) (sym same) ∙ slice_get-map handed_out others k ∙ ap (option_map handed_out) at in
            let l = some-of-map handed_out ends k (handed_out lane_end) there in
            subst (λ h. IsPrefix (handed_out lane_end) (answers_of (of_lane k h))) (sym (take-append-le d.settled so_far calls d.within))
            (subst (λ a. IsPrefix a (answers_of (of_lane k (take d.settled so_far)))) l.2 (d.handed k l.0 l.1));
      }

  -- all that was noted is kept
  all-kept : (so_far : List ServedCall) (others : List LaneEnd) (start new : Content) (marked : List Call) (after : J)
      → AreMarked marked so_far → Serves start marked new → has after (log_of marked) (length (log_of marked))
      → ((k : ℕ) (lane_end : LaneEnd) → slice_get others k ≡ Some lane_end → IsPrefix (handed_out lane_end) (answers_of (of_lane k so_far)))
      → IsDurable has so_far others start new after
  all-kept so_far others start new marked after marks served h handed =
      let all : take (length so_far) marked ≡ marked = take_all (length so_far) marked (omega (arith, marked-length marked so_far marks)) in
      record {
        marked = marked;
        marks = marks;
        served = served;
        settled = length so_far;
        within = omega arith;
        kept = length (log_of marked);
        journal_has = h;
        are_kept = omega (arith, ap (λ cs. length (log_of cs)) all);
        handed = λ k lane_end at. subst (λ h. IsPrefix (handed_out lane_end) (answers_of (of_lane k h))) (sym (take_all (length so_far) so_far (omega arith))) (handed k lane_end at);
      }

  pub durable-more : (so_far : List ServedCall) (ends others : List LaneEnd) (start old new : Content) (before after : J) (calls : List ServedCall)
      → IsDurable has so_far ends start old before → NotesAll has before calls old new after → (map handed_out others ≡ map handed_out ends) ⊎ KeepsAtOnce has
      → ((k : ℕ) (lane_end : LaneEnd) → slice_get others k ≡ Some lane_end → IsPrefix (handed_out lane_end) (answers_of (of_lane k (so_far ++ calls))))
      → IsDurable has (so_far ++ calls) others start new after
  durable-more so_far ends others start old new before after calls d n (inl same) handed = held-back so_far ends others start old new before after calls d n same
  durable-more so_far ends others start old new before after calls d n (inr at_once) handed =
      let marked = d.marked ++ n.marked in
      let h : has after (log_of marked) d.kept = subst (λ es. has after es d.kept) (sym (log-join d.marked n.marked)) (n.noted (log_of d.marked) d.kept d.journal_has) in
      all-kept (so_far ++ calls) others start new marked after (marks-join d.marked n.marked so_far calls d.marks n.marks) (serves-join start d.marked old n.marked new d.served n.served) (at_once after (log_of marked) d.kept h) handed

  -- all that was held back is handed out
  pub durable-settled : (so_far : List ServedCall) (ends others : List LaneEnd) (start content : Content) (before after : J) → IsDurable has so_far ends start content before
      → ((events : List Event) (kept : ℕ) → has before events kept → has after events (length events))
      → ((k : ℕ) (lane_end : LaneEnd) → slice_get others k ≡ Some lane_end → IsPrefix (handed_out lane_end) (answers_of (of_lane k so_far)))
      → IsDurable has so_far others start content after
  durable-settled so_far ends others start content before after d keeps handed =
      all-kept so_far others start content d.marked after d.marks d.served (keeps (log_of d.marked) d.kept d.journal_has) handed

  -- the log has failed
  pub durable-failed : (so_far : List ServedCall) (ends : List LaneEnd) (start content : Content) (before after : J) → IsDurable has so_far ends start content before
      → ((events : List Event) (kept : ℕ) → has before events kept → has after events kept) → IsDurable has so_far ends start content after
  durable-failed so_far ends start content before after d keeps = record {
    marked = d.marked;
    marks = d.marks;
    served = d.served;
    settled = d.settled;
    within = d.within;
    kept = d.kept;
    journal_has = keeps (log_of d.marked) d.kept d.journal_has;
    are_kept = d.are_kept;
    handed = d.handed;
  }

  -- what a turn has noted, whatever it returns
  pub notes-anyhow : {C E : Type 0} (gives : C → ℕ → C → Type 0) (old : Desk) (clock : C) (before : J) (ends : List LaneEnd) (high : ℕ) (new : Desk) (later : C) (after : J) (others : List LaneEnd) (Z : Type 0) (r : Result ℕ E)
      → MatchResult r (λ n. NotesTurn has gives old clock before ends n high new later after others) (λ _. (n : ℕ) × NotesTurn has gives old clock before ends n high new later after others × Z)
      → (n : ℕ) × NotesTurn has gives old clock before ends n high new later after others
  notes-anyhow gives old clock before ends high new later after others Z (Ok n) t = (n, t)
  notes-anyhow gives old clock before ends high new later after others Z (Err e) t = (t.0, t.1)

  pub turns-of : {C E : Type 0} (gives : C → ℕ → C → Type 0) (old : Desk) (clock : C) (before : J) (ends : List LaneEnd) (high : ℕ) (new : Desk) (later : C) (after : J) (others : List LaneEnd) (Z : Type 0) (r : Result ℕ E)
      → MatchResult r (λ n. NotesTurn has gives old clock before ends n high new later after others) (λ _. (n : ℕ) × NotesTurn has gives old clock before ends n high new later after others × Z)
      → MatchResult r (λ n. Turns gives old clock n high new later) (λ _. (n : ℕ) × Turns gives old clock n high new later × Z)
  turns-of gives old clock before ends high new later after others Z (Ok n) t = t.turns
  turns-of gives old clock before ends high new later after others Z (Err e) t = (t.0, t.1.turns, t.2)

  pub turn-keeps : {C E : Type 0} (gives : C → ℕ → C → Type 0) (clock : C) (before : J) (ends : List LaneEnd) (high : ℕ) (later : C) (after : J) (others : List LaneEnd) (Z : Type 0) (r : Result ℕ E)
      (old new start begin : Content) (place next : ℕ) → begin ≡ start
      → ((so_far : List ServedCall) × AreCallsOf so_far (desk_of ends old place start) × IsDurable has so_far ends start old before)
      → MatchResult r (λ n. NotesTurn has gives (desk_of ends old place start) clock before ends n high (desk_of others new next start) later after others)
      (λ _. (n : ℕ) × NotesTurn has gives (desk_of ends old place start) clock before ends n high (desk_of others new next start) later after others × Z)
      → (so_far : List ServedCall) × AreCallsOf so_far (desk_of others new next begin) × IsDurable has so_far others begin new after
  turn-keeps gives clock before ends high later after others Z r old new start begin place next same h m =
      let t = (notes-anyhow gives (desk_of ends old place start) clock before ends high (desk_of others new next start) later after others Z r m).1 in
      let is = calls-run h.0 (desk_of ends old place start) t.turns.calls (desk_of others new next start) h.1 t.turns.served in
      subst (λ b. (so_far : List ServedCall) × AreCallsOf so_far (desk_of others new next b) × IsDurable has so_far others b new after) (sym same)
      (h.0 ++ t.turns.calls, is, durable-more h.0 ends others start old new before after t.turns.calls h.2 t.notes t.handed (handed-first others new next start (h.0 ++ t.turns.calls) is))

  pub turn-goes-on : {C : Type 0} (gives : C → ℕ → C → Type 0) (clock : C) (before : J) (ends : List LaneEnd) (later : C) (after : J) (others : List LaneEnd) (n : ℕ)
      (old new start begin : Content) (place next : ℕ) → begin ≡ start
      → ((so_far : List ServedCall) × AreCallsOf so_far (desk_of ends old place start) × IsDurable has so_far ends start old before)
      → NotesTurn has gives (desk_of ends old place start) clock before ends n (length ends) (desk_of others new next start) later after others
      → ExtendsCalls gives (desk_of ends old place start) clock n (length (map lane_of ends)) (desk_of others new next begin) later
  turn-goes-on gives clock before ends later after others n old new start begin place next same h t =
      subst (λ b. ExtendsCalls gives (desk_of ends old place start) clock n (length (map lane_of ends)) (desk_of others new next b) later) (sym same)
      (subst (λ high. ExtendsCalls gives (desk_of ends old place start) clock n high (desk_of others new next start) later) (sym (length-map ends lane_of))
      (calls-go-on gives (desk_of ends old place start) clock n (length ends) (desk_of others new next start) later h.0 h.1 t.turns))

  pub settle-keeps : (ends others : List LaneEnd) (keyspace : Content) (place : ℕ) (start begin : Content) (before after : J) → begin ≡ start → map lane_of others ≡ map lane_of ends
      → ((events : List Event) (kept : ℕ) → has before events kept → has after events (length events))
      → ((so_far : List ServedCall) × AreCallsOf so_far (desk_of ends keyspace place start) × IsDurable has so_far ends start keyspace before)
      → (so_far : List ServedCall) × AreCallsOf so_far (desk_of others keyspace place begin) × IsDurable has so_far others begin keyspace after
  settle-keeps ends others keyspace place start begin before after same lanes keeps h =
      let is = subst (λ ls. AreCallsOf h.0 (record { lanes = ls; keyspace = keyspace; place = place; start = start })) (sym lanes) h.1 in
      subst (λ b. (so_far : List ServedCall) × AreCallsOf so_far (desk_of others keyspace place b) × IsDurable has so_far others b keyspace after) (sym same)
      (h.0, is, durable-settled h.0 ends others start keyspace before after h.2 keeps (handed-first others keyspace place start h.0 is))

  pub survives : (so_far : List ServedCall) (ends : List LaneEnd) (start content : Content) (journal : J) → IsDurable has so_far ends start content journal
      → (marked : List Call) × (kept : ℕ) × AreMarked marked so_far × Serves start marked content × has journal (log_of marked) kept × ((found : ℕ) → kept ≤ found → (settled : ℕ) × ((more : List Call) × (survivors found marked ≡ take settled marked ++ more))
      × ((k : ℕ) (lane_end : LaneEnd) → slice_get ends k ≡ Some lane_end → IsPrefix (handed_out lane_end) (answers_of (of_lane k (take settled so_far)))))
  survives so_far ends start content journal d = (
    d.marked,
    d.kept,
    d.marks,
    d.served,
    d.journal_has,
    λ found le.
        let all = all-survive (take d.settled d.marked) (drop d.settled d.marked) found (omega (arith, d.are_kept, le)) in
        (d.settled, (all.0, ap (survivors found) (sym (take-append-drop d.settled d.marked)) ∙ all.1), d.handed),
  )
