-- What is noted, call by call.
use Rattle.std.specs.Prelude.{◌≡◌, ◌⊎◌, ℕ, ◌+◌, ◌≤◌, Bool, true, false, List, [], ◌∷◌, ◌++◌, length, map, if◌then◌else◌, refl}
use Rattle.std.proofs.Common.{sym, ◌∙◌, ap, subst, inl, inr, append_assoc}
use Rattle.std.proofs.lemmas.List.{append-nil, map-append}
use Rattle.xs_keys.specs.Event.{Event}
use Rattle.xs_keys.specs.Content.{Content}
use Rattle.xs_keys.specs.Step.{Step}
use Rattle.xs_command.specs.WellFormed.{IsWellFormed}
use Rattle.xs_replay.specs.Calls.{Call, ServesOne, Serves, log_of}
use Rattle.xs_replay.specs.Calls as replay
use Rattle.xs_desk.specs.declared.lane_end.LaneEnd.{LaneEnd}
use Rattle.xs_desk.specs.ServedCalls.{ServedCall, Desk, events_of, replies_of}
use Rattle.xs_desk.specs.KeeperTurns.{ServesCall, Turns}
use Rattle.xs_desk.specs.Noting.{event_if, Notes, KeepsAtOnce}
use Rattle.xs_desk.specs.LaneEnds.{handed_out}
use Rattle.xs_desk.specs.Durable.{AreMarked, NotesAll, NotesTurn}
use Rattle.xs_desk.proofs.Turning.{turns-none, turns-on, turns-more}

pub serves-snoc : (old : Content) (calls : List Call) (mid : Content) (call : Call) (new : Content) → Serves old calls mid → ServesOne mid call new → Serves old (calls ++ call ∷ []) new
serves-snoc old [] mid call new s one = (new, subst (λ c. ServesOne c call new) s one, refl)
serves-snoc old (x ∷ xs) mid call new s one = (s.0, s.1, serves-snoc s.0 xs mid call new s.2 one)

pub serves-join : (old : Content) (calls : List Call) (mid : Content) (more : List Call) (new : Content) → Serves old calls mid → Serves mid more new → Serves old (calls ++ more) new
serves-join old [] mid more new s t = subst (λ c. Serves c more new) s t
serves-join old (x ∷ xs) mid more new s t = (s.0, s.1, serves-join s.0 xs mid more new s.2 t)

log-if : (b : Bool) (e : Event) (all front back : List Event) → all ≡ front ++ back → (if b then e ∷ all else all) ≡ (if b then e ∷ front else front) ++ back
log-if true e all front back is = ap (λ es. e ∷ es) is
log-if false e all front back is = is

pub log-join : (calls more : List Call) → log_of (calls ++ more) ≡ log_of calls ++ log_of more
log-join [] more = refl
log-join (x ∷ xs) more = log-if x.in_log x.event (log_of (xs ++ more)) (log_of xs) (log_of more) (log-join xs more)

pub marks-join : (marked more : List Call) (calls others : List ServedCall) → AreMarked marked calls → AreMarked more others → AreMarked (marked ++ more) (calls ++ others)
marks-join marked more calls others one two = record {
  events = map-append (λ c. c.event) marked more ∙ ap (λ es. es ++ replay.events_of more) one.events ∙ ap (λ es. events_of calls ++ es) two.events ∙ sym (map-append (λ c. (c.answer.moment, c.command)) calls others);
  answers = map-append (λ c. c.answer) marked more ∙ ap (λ rs. rs ++ replay.answers_of more) one.answers ∙ ap (λ rs. replies_of calls ++ rs) two.answers ∙ sym (map-append (λ c. c.answer.reply) calls others);
}

pub handed-or : {X Y : Type 0} (b : Bool) → (b ≡ true → X) → (b ≡ false → Y) → X ⊎ Y
handed-or true held at_once = inl (held refl)
handed-or false held at_once = inr (at_once refl)

module _ {J : Type 0} (has : J → List Event → ℕ → Type 0) where
  notes-none : (journal : J) (content : Content) → NotesAll has journal [] content content journal
  notes-none journal content = record {
    marked = [];
    marks = record { events = refl; answers = refl };
    served = refl;
    noted = λ events kept h. subst (λ es. has journal es kept) (sym (append-nil events)) h;
  }

  notes-more : (before : J) (calls : List ServedCall) (old mid : Content) (between : J) (call : ServedCall) (new : Content) (after : J)
      → NotesAll has before calls old mid between → IsWellFormed call.command → Step mid call.answer.moment call.command call.answer.reply new
      → Notes has between (call.answer.moment, call.command) mid new after → NotesAll has before (calls ++ call ∷ []) old new after
  notes-more before calls old mid between call new after all formed step notes =
      let one : Call = record { event = (call.answer.moment, call.command); answer = call.answer.reply; in_log = notes.in_log } in
      record {
        marked = all.marked ++ one ∷ [];
        marks = marks-join all.marked (one ∷ []) calls (call ∷ []) all.marks (record { events = refl; answers = refl });
        served = serves-snoc old all.marked mid one new all.served (record { formed = formed; step = step; rule = notes.rule });
        noted = λ events kept h.
            subst (λ es. has after es kept) (append_assoc events (log_of all.marked) (event_if notes.in_log one.event) ∙ ap (λ es. events ++ es) (sym (log-join all.marked (one ∷ []))))
            (notes.noted (events ++ log_of all.marked) kept (all.noted events kept h));
      }

  module _ {C : Type 0} (gives : C → ℕ → C → Type 0) (old : Desk) (clock : C) (before : J) (ends : List LaneEnd) where
    pub turn-none : NotesTurn has gives old clock before ends 0 0 old clock before ends
    unfolding turns-none
    turn-none = record { turns = turns-none gives old clock; notes = notes-none before old.keyspace; handed = inl refl }

    -- a lane was skipped
    pub turn-on : (n high : ℕ) (new : Desk) (later : C) (after : J) (others : List LaneEnd) (more : ℕ) → NotesTurn has gives old clock before ends n high new later after others → high ≤ more
        → NotesTurn has gives old clock before ends n more new later after others
    unfolding turns-on
    turn-on n high new later after others more t le = record { turns = turns-on gives old clock n high new later more t.turns le; notes = t.notes; handed = t.handed }

    still-handed : (mid others : List LaneEnd) → (map handed_out mid ≡ map handed_out ends) ⊎ KeepsAtOnce has → (map handed_out others ≡ map handed_out mid) ⊎ KeepsAtOnce has → (map handed_out others ≡ map handed_out ends) ⊎ KeepsAtOnce has
    still-handed mid others (inl a) (inl b) = inl (b ∙ a)
    still-handed mid others (inl a) (inr k) = inr k
    still-handed mid others (inr k) more = inr k

    pub turn-more : (n : ℕ) (mid : Desk) (between : C) (noted : J) (some : List LaneEnd) (call : ServedCall) (new : Desk) (later : C) (after : J) (others : List LaneEnd)
        → NotesTurn has gives old clock before ends n call.lane mid between noted some → ServesCall mid call new → gives between call.answer.moment later
        → Notes has noted (call.answer.moment, call.command) mid.keyspace new.keyspace after → (map handed_out others ≡ map handed_out some) ⊎ KeepsAtOnce has
        → NotesTurn has gives old clock before ends (n + 1) (call.lane + 1) new later after others
    unfolding turns-more
    turn-more n mid between noted some call new later after others t s g notes handed = record {
      turns = turns-more gives old clock n mid between call new later t.turns s g;
      notes = notes-more before t.turns.calls old.keyspace mid.keyspace noted call new.keyspace after t.notes s.formed s.applied notes;
      handed = still-handed some others t.handed handed;
    }
