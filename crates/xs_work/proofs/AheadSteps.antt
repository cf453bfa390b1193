-- How a connection over a lane goes on, and how it ends.
use Rattle.std.proofs.Common.{◌≡◌, ◌⊎◌, inl, inr, ℕ, ◌<◌, ◌≤◌, ◌==◌, not, if◌then◌else◌, Bool, true, false, List, [], ◌∷◌, ◌++◌, length, Option, Some, Result, Ok, Err, sym, ap, ◌∙◌, subst, refl}
use Rattle.std.specs.Prelude.{IfErr, MatchResult}
use Rattle.std.proofs.Common.{append_assoc, arith, take, drop, length-drop, length-append}
use Rattle.std.proofs.lemmas.List.{append-nil, take-append-drop}
use Rattle.xs_io.specs.DeviceState.{ReaderState, WriterState}
use Rattle.xs_resp.specs.declared.reply.Reply.{Reply}
use Rattle.xs_resp.specs.Grammar.{IsOpen}
use Rattle.xs_resp.specs.HeldBytes.{Held, holds_bytes}
use Rattle.xs_resp.specs.LeftToWrite.{bytes_left}
use Rattle.xs_command.specs.declared.command.Command.{Command}
use Rattle.xs_desk.specs.Callers.{Caller}
use Rattle.xs_connection.specs.declared.standing.Standing.{Standing}
use Rattle.xs_session.specs.declared.manner.Manner.{Manner}
use Rattle.xs_session.specs.declared.ending.Ending.{Ending}
use Rattle.xs_session.specs.declared.ending.Ending.TheVariants as ending
use Rattle.xs_session.specs.declared.session.Session.{Session}
use Rattle.xs_session.specs.declared.places.Place.{Place}
use Rattle.xs_session.specs.Places.{has_open}
use Rattle.xs_session.specs.Session.{IsAfter, SessionIsAfter, Goes, Waits}
use Rattle.xs_session.proofs.SessionSteps.{after-sent, after-even}
use Rattle.xs_work.specs.declared.ahead.AheadFault.{AheadFault}
use Rattle.xs_work.specs.declared.ahead.AheadFault.TheVariants as fault
use Rattle.xs_work.specs.Ahead.{Calls, IsAheadAfter, BreaksOff, IsLost, HasCauseOf, AheadEnds, AheadFails, ServesAhead, IsDone}

-- a part of the front of the unsent bytes is sent
pub part-sent : (manner : Manner) (read : List ℕ) (asked : List Command) (got : List Reply) (sent before : List ℕ) (session : Session) (count : ℕ) → count < length session.owed.piece
    → SessionIsAfter manner read asked got (sent ++ before) session → BreaksOff manner read asked got sent (before ++ take count session.owed.piece) session
part-sent manner read asked got sent before session count few s =
    let piece = session.owed.piece in
    let behind = session.owed.behind in
    let some : 0 < length (drop count piece) = omega (arith, few, length-drop count piece) in
    record {
      before = before;
      part = take count piece;
      rest = drop count piece ++ behind;
      more_is = refl;
      after = s;
      unsent_is = ap (λ p. p ++ behind) (sym (take-append-drop count piece)) ∙ append_assoc (take count piece) (drop count piece) behind;
      some = grind (arith, length-append, some);
    }

-- after what was sent before
pub breaks-later : (manner : Manner) (read : List ℕ) (asked : List Command) (got : List Reply) (sent went more : List ℕ) (session : Session) → BreaksOff manner read asked got (sent ++ went) more session
    → BreaksOff manner read asked got sent (went ++ more) session
breaks-later manner read asked got sent went more session b = record {
  before = went ++ b.before;
  part = b.part;
  rest = b.rest;
  more_is = ap (λ m. went ++ m) b.more_is ∙ sym (append_assoc went b.before b.part);
  after = subst (λ (o : List ℕ). SessionIsAfter manner read asked got o session) (append_assoc sent went b.before) b.after;
  unsent_is = b.unsent_is;
  some = b.some;
}

not-none : (byte : ℕ) (bytes : List ℕ) → not (length (byte ∷ bytes) == 0) ≡ true
not-none byte bytes = grind arith

-- the input ends at a session that waits for bytes
pub end-waits : (end : Ending) (ended : Option Ending) (held : Held) (places : List Place) (owed : List ℕ) → Waits ended held → IsDone places owed
    → end ≡ (if holds_bytes held then ending.Cut else ending.Closed) → AheadEnds (Ok end) ended held places owed
end-waits end ended held places owed (none, (bytes, is, stays)) done e = by bytes is stays (e ∙ ap (λ h. if holds_bytes h then ending.Cut else ending.Closed) is) where
  by : (bytes : List ℕ) → held ≡ Ok bytes → IsOpen bytes → end ≡ (if holds_bytes (Ok bytes) then ending.Cut else ending.Closed) → AheadEnds (Ok end) ended held places owed
  by [] is stays e = subst (λ (x : Ending). AheadEnds (Ok x) ended held places owed) (sym e) (none, is, done)
  by (byte ∷ bytes) is stays e =
      subst (λ (x : Ending). AheadEnds (Ok x) ended held places owed) (sym (e ∙ ap (λ t. if t then ending.Cut else ending.Closed) (not-none byte bytes)))
      (none, ((byte ∷ bytes), is, (λ n. omega (arith, ap length n)), stays), done)

module _ (first now : Caller) (manner : Manner) (read sent : List ℕ) where
  -- a session that has ended so, with nothing left to do
  end-is : (standing : Standing) (end : Ending) (ended : Option Ending) (held : Held) (places : List Place) (owed : List ℕ) (asked : List Command) (got : List Reply) → IsAfter manner standing read asked got sent ended held places owed
      → ended ≡ Some end → IsDone places owed → AheadEnds (Ok end) ended held places owed
  end-is standing ending.Quit ended held places owed asked got s is done = (is, done)
  end-is standing ending.Protocol ended held places owed asked got s is done = (is, done)
  end-is standing ending.Closed ended held places owed asked got s is done = absurd (subst (λ e. Goes manner standing e s.taken s.rest held) is s.goes)
  end-is standing ending.Cut ended held places owed asked got s is done = absurd (subst (λ e. Goes manner standing e s.taken s.rest held) is s.goes)

  pub end-cause : (standing : Standing) (end : Ending) (ended : Option Ending) (held : Held) (places : List Place) (owed : List ℕ) (asked : List Command) (got : List Reply) (input : ReaderState) (output : WriterState) → IsAfter manner standing read asked got sent ended held places owed
      → ended ≡ Some end → HasCauseOf (Ok end) input output
  end-cause standing ending.Quit ended held places owed asked got input output s is = tt
  end-cause standing ending.Protocol ended held places owed asked got input output s is = tt
  end-cause standing ending.Closed ended held places owed asked got input output s is = absurd (subst (λ e. Goes manner standing e s.taken s.rest held) is s.goes)
  end-cause standing ending.Cut ended held places owed asked got input output s is = absurd (subst (λ e. Goes manner standing e s.taken s.rest held) is s.goes)

  none-open : (places : List Place) → places ≡ [] → has_open places ≡ false
  none-open places is = ap has_open is

  -- a connection ends, with nothing left to do
  pub serves-done : (result : Result Ending AheadFault) (asked : List Command) (session : Session) (a : IsAheadAfter first now manner read asked asked sent session)
      → IsDone session.places (bytes_left session.owed) → AheadEnds result session.ended session.requests session.places (bytes_left session.owed) → ServesAhead result first now manner read sent
  serves-done result asked session a done ends =
      let even = after-even manner session.standing read asked a.got sent session.ended session.requests session.places (bytes_left session.owed) a.after.0 (none-open session.places done.0) in
      record {
        asked = asked;
        put = asked;
        got = a.got;
        standing = session.standing;
        ended = session.ended;
        held = session.requests;
        places = session.places;
        owed = bytes_left session.owed;
        after = a.after.0;
        calls = a.calls;
        all = λ other. (refl, even);
        last = ([], sym (append-nil asked), omega arith);
        ends = ends;
      }

  -- it ends by QUIT or by a protocol error
  pub serves-end : (end : Ending) (asked : List Command) (session : Session) → IsAheadAfter first now manner read asked asked sent session → session.ended ≡ Some end
      → IsDone session.places (bytes_left session.owed) → ServesAhead (Ok end) first now manner read sent
  serves-end end asked session a is done =
      serves-done (Ok end) asked session a done (end-is session.standing end session.ended session.requests session.places (bytes_left session.owed) asked a.got a.after.0 is done)

  -- the last command is asked, and the lane is gone
  pub serves-gone : (asked : List Command) (command : Command) (session : Session) → IsAheadAfter first now manner read (asked ++ command ∷ []) asked sent session → ServesAhead (Err fault.Port) first now manner read sent
  serves-gone asked command session a = record {
    asked = asked ++ command ∷ [];
    put = asked;
    got = a.got;
    standing = session.standing;
    ended = session.ended;
    held = session.requests;
    places = session.places;
    owed = bytes_left session.owed;
    after = a.after.0;
    calls = a.calls;
    all = λ other. absurd (other refl);
    last = (command ∷ [], refl, omega arith);
    ends = tt;
  }

  -- it ends by a fault
  pub serves-fails : (wrong : AheadFault) (asked : List Command) → AheadFails wrong first now manner read asked asked sent → ServesAhead (Err wrong) first now manner read sent
  serves-fails wrong asked f = record {
    asked = asked;
    put = asked;
    got = f.got;
    standing = f.standing;
    ended = f.ended;
    held = f.held;
    places = f.places;
    owed = f.owed;
    after = f.after;
    calls = f.calls;
    all = λ other. (refl, after-even manner f.standing read asked f.got sent f.ended f.held f.places f.owed f.after (f.closed (λ is. other (ap Err is))));
    last = ([], sym (append-nil asked), omega arith);
    ends = f.ends;
  }

  -- nothing more is read or sent
  pub read-none : (asked put : List Command) (session : Session) → IsAheadAfter first now manner read asked put sent session → IsAheadAfter first now manner (read ++ []) asked put sent session
  read-none asked put session a = subst (λ (r : List ℕ). IsAheadAfter first now manner r asked put sent session) (sym (append-nil read)) a

  pub sent-none : (asked put : List Command) (session : Session) → IsAheadAfter first now manner read asked put sent session → IsAheadAfter first now manner read asked put (sent ++ []) session
  sent-none asked put session a = subst (λ (o : List ℕ). IsAheadAfter first now manner read asked put o session) (sym (append-nil sent)) a

  pub still : (asked put : List Command) (session : Session) → IsAheadAfter first now manner read asked put sent session → IsAheadAfter first now manner (read ++ []) asked put (sent ++ []) session
  still asked put session a =
      subst (λ (r : List ℕ). IsAheadAfter first now manner r asked put (sent ++ []) session) (sym (append-nil read)) (sent-none asked put session a)

  pub fails-none : (wrong : AheadFault) (asked put : List Command) → AheadFails wrong first now manner read asked put sent → AheadFails wrong first now manner (read ++ []) asked put sent
  fails-none wrong asked put f = subst (λ (r : List ℕ). AheadFails wrong first now manner r asked put sent) (sym (append-nil read)) f

  -- a step that asks nothing
  pub asked-none : (asked put : List Command) (session : Session) (got : List Reply) → SessionIsAfter manner read (asked ++ []) got sent session → Calls first now put got → IsAheadAfter first now manner read asked put sent session
  asked-none asked put session got after calls =
      subst (λ (a : List Command). IsAheadAfter first now manner read a put sent session) (append-nil asked) (record { got = got; after = after; calls = calls })

  -- the lane is gone, or the writer failed
  pub fails-gone : (asked put : List Command) (session : Session) → IsAheadAfter first now manner read asked put sent session → AheadFails fault.Port first now manner read asked put sent
  fails-gone asked put session a = record {
    got = a.got;
    standing = session.standing;
    ended = session.ended;
    held = session.requests;
    places = session.places;
    owed = bytes_left session.owed;
    after = a.after.0;
    calls = a.calls;
    ends = tt;
    closed = λ other. absurd (other refl);
  }

  pub fails-write : (standing : Standing) (asked put : List Command) (got : List Reply) (ended : Option Ending) (held : Held) (places : List Place) (owed : List ℕ)
      → IsAfter manner standing read asked got sent ended held places owed → Calls first now put got → has_open places ≡ false → 0 < length owed → length places ≤ 32 → AheadFails fault.Write first now manner read asked put sent
  fails-write standing asked put got ended held places owed after calls closed some few = record {
    got = got;
    standing = standing;
    ended = ended;
    held = held;
    places = places;
    owed = owed;
    after = after;
    calls = calls;
    ends = (closed, some, few);
    closed = λ other. closed;
  }

  -- the result of a read
  pub read-so : {A : Type 0} (result : Result A (Result Ending AheadFault)) (input : ReaderState) (output : WriterState) (asked : List Command) (session : Session) → IsAheadAfter first now manner read asked asked sent session → IsDone session.places (bytes_left session.owed)
      → IfErr result (λ end. AheadEnds end session.ended session.requests session.places (bytes_left session.owed)) → IfErr result (λ end. HasCauseOf end input output)
      → MatchResult result (λ _. (all : List Command) × IsAheadAfter first now manner read all all sent session) (λ end. ServesAhead end first now manner read sent × HasCauseOf end input output)
  read-so (Ok x) input output asked session a done ends cause = (asked, a)
  read-so (Err end) input output asked session a done ends cause = (serves-done end asked session a done ends, cause)

-- the answers that were waited for have come after the writer failed, or the lane is gone
pub gives-up : (first old new : Caller) (manner : Manner) (read : List ℕ) (asked put : List Command) (sent more : List ℕ) (was is : Session) (got : List Reply) (wrong : AheadFault) → BreaksOff manner read asked got sent more was → Calls first old put got
    → ((s : List ℕ) → IsAheadAfter first old manner read asked put s was → IsAheadAfter first new manner read asked put s is)
    → ((wrong ≡ fault.Write) × (has_open is.places ≡ false) × (length is.places ≤ 32)) ⊎ (wrong ≡ fault.Port) → is.owed ≡ was.owed → AheadFails wrong first new manner read asked put (sent ++ more)
gives-up first old new manner read asked put sent more was is got wrong b calls takes ends same = by (takes (sent ++ b.before) (record { got = got; after = b.after; calls = calls })) ends where
  later : (got : List Reply) → SessionIsAfter manner read asked got (sent ++ b.before) is → IsAfter manner is.standing read asked got (sent ++ more) is.ended is.requests is.places b.rest
  later got s =
      subst (λ (o : List ℕ). IsAfter manner is.standing read asked got o is.ended is.requests is.places b.rest) (append_assoc sent b.before b.part ∙ ap (λ m. sent ++ m) (sym b.more_is))
      (after-sent manner is.standing read asked got (sent ++ b.before) is.ended is.requests is.places (bytes_left is.owed) b.part b.rest s.0 (ap bytes_left same ∙ b.unsent_is))

  by : IsAheadAfter first new manner read asked put (sent ++ b.before) is → ((wrong ≡ fault.Write) × (has_open is.places ≡ false) × (length is.places ≤ 32)) ⊎ (wrong ≡ fault.Port) → AheadFails wrong first new manner read asked put (sent ++ more)
  by a (inl (write, closed, few)) =
      subst (λ (w : AheadFault). AheadFails w first new manner read asked put (sent ++ more)) (sym write)
      (fails-write first new manner read (sent ++ more) is.standing asked put a.got is.ended is.requests is.places b.rest (later a.got a.after) a.calls closed b.some few)
  by a (inr port) =
      subst (λ (w : AheadFault). AheadFails w first new manner read asked put (sent ++ more)) (sym port) (record {
        got = a.got;
        standing = is.standing;
        ended = is.ended;
        held = is.requests;
        places = is.places;
        owed = b.rest;
        after = later a.got a.after;
        calls = a.calls;
        ends = tt;
        closed = λ other. absurd (other refl);
      })

-- because the writer failed, or because the keeper is gone
pub lost-is : {X Y : Type 0} (wrong : AheadFault) (unwritten : Bool) → ((wrong ≡ fault.Write) × X × Y) ⊎ (wrong ≡ fault.Port) → unwritten ≡ true → IsLost wrong unwritten
lost-is wrong unwritten (inl (write, x, y)) failed = subst (λ (w : AheadFault). IsLost w unwritten) (sym write) failed
lost-is wrong unwritten (inr port) failed = subst (λ (w : AheadFault). IsLost w unwritten) (sym port) tt

pub lost-cause : (wrong : AheadFault) (input : ReaderState) (output : WriterState) → IsLost wrong output.broken → HasCauseOf (Err wrong) input output
lost-cause fault.Write input output lost = lost
lost-cause fault.Port input output lost = tt
lost-cause fault.Read input output lost = absurd lost
lost-cause fault.Memory input output lost = absurd lost
