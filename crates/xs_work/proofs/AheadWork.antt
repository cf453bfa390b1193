-- Connections that are served through a lane, one after the other.
use Rattle.std.proofs.Common.{◌≡◌, ◌≢◌, inl, inr, Bool, true, false, List, [], ◌∷◌, ◌++◌, Result, Ok, Err, not, sym, ap, ◌∙◌, subst, refl}
use Rattle.std.proofs.Common.{append_assoc, arith, length, length-append, ℕ, Option, None}
use Rattle.std.proofs.lemmas.List.{append-nil}
use Rattle.xs_io.specs.Passing.{Passing, Appends, Consumes}
use Rattle.xs_io.proofs.Passing.{Appends-trans}
use Rattle.xs_resp.specs.declared.header.Part.TheVariants.{Count}
use Rattle.xs_resp.specs.declared.read_fault.ProtocolFault.{ProtocolFault}
use Rattle.xs_resp.specs.declared.read_fault.ProtocolFault.TheVariants as protocol
use Rattle.xs_resp.specs.Grammar.{Spells, HeaderFault, FaultIn}
use Rattle.xs_desk.specs.Callers.{Caller}
use Rattle.xs_desk.specs.KeptRings.{KeepsSide}
use Rattle.xs_desk.proofs.Sides.{side_again}
use Rattle.std.specs.Option.{is_some}
use Rattle.xs_connection.specs.declared.standing.Standing.{Standing}
use Rattle.xs_connection.specs.declared.transaction.Transaction.TheVariants.{Closed}
use Rattle.xs_session.specs.declared.manner.Manner.{Manner}
use Rattle.xs_session.specs.declared.manner.Manner.TheVariants.{Plain, Full}
use Rattle.xs_session.specs.Session.{IsFirst}
use Rattle.xs_session.specs.declared.ending.Ending.{Ending}
use Rattle.xs_session.proofs.SessionSteps.{after-new}
use Rattle.xs_work.specs.declared.ahead.AheadFault.{AheadFault}
use Rattle.xs_work.specs.declared.ahead.AheadFault.TheVariants as fault
use Rattle.xs_work.specs.Ahead.{ServesAhead, HasCauseOf}
use Rattle.xs_work.specs.Texts.{Says}
use Rattle.xs_work.specs.Gates.{Seen, GateTrace, AreFresh, with_given, with_returned, at_end}
use Rattle.xs_work.specs.Workers.{no_memory, IsReported, ServesOne, ServesEach, ServesGate, Works}
use Rattle.xs_work.proofs.AheadCalls.{calls-none}

-- one more
serves-more : (manner : Manner) (lost : Bool) (first mid last : Caller) (given returned : List Seen) (one back : Seen) (result : Result Ending AheadFault) → ServesEach manner lost first given returned mid
    → (lost ≡ false → result ≢ Err fault.Port) → AreFresh one.input.rest one.output.held → ServesOne manner result mid last one back → ServesEach manner lost first (given ++ one ∷ []) (returned ++ back ∷ []) last
serves-more manner lost first mid last [] [] one back result none answered fresh served =
    (result, last, answered, fresh, subst (λ (c : Caller). ServesOne manner result c last one back) none served, refl)
serves-more manner lost first mid last [] (other ∷ returned) one back result none answered fresh served = absurd none
serves-more manner lost first mid last (other ∷ given) [] one back result none answered fresh served = absurd none
serves-more manner lost first mid last (other ∷ given) (came ∷ returned) one back result (ended, next, fine, new, begun, rest) answered fresh served =
    (ended, next, fine, new, begun, serves-more manner lost next mid last given returned one back result rest answered fresh served)

-- if all were answered, the lane may be lost later
serves-lost : (manner : Manner) (first last : Caller) (given returned : List Seen) → ServesEach manner false first given returned last → ServesEach manner true first given returned last
serves-lost manner first last [] [] is = is
serves-lost manner first last [] (back ∷ returned) is = absurd is
serves-lost manner first last (one ∷ given) [] is = absurd is
serves-lost manner first last (one ∷ given) (back ∷ returned) (ended, mid, fine, fresh, served, rest) =
    (ended, mid, (λ n. absurd cc), fresh, served, serves-lost manner mid last given returned rest)

pub gate-none : (client : Caller) (gate : GateTrace) → ServesGate false client client gate gate
gate-none client gate = record {
  given = [];
  returned = [];
  given_is = sym (append-nil gate.given);
  returned_is = sym (append-nil gate.returned);
  manner_is = refl;
  served = refl;
}

pub gate-lost : (first last : Caller) (before now : GateTrace) → ServesGate false first last before now → ServesGate true first last before now
gate-lost first last before now s = record {
  given = s.given;
  returned = s.returned;
  given_is = s.given_is;
  returned_is = s.returned_is;
  manner_is = s.manner_is;
  served = serves-lost before.manner first last s.given s.returned s.served;
}

-- the gate gives no further one
pub gate-over : (lost : Bool) (first last : Caller) (before now later : GateTrace) → ServesGate lost first last before now → later ≡ at_end now → ServesGate lost first last before later
gate-over lost first last before now later s is = record {
  given = s.given;
  returned = s.returned;
  given_is = ap (λ (g : GateTrace). g.given) is ∙ s.given_is;
  returned_is = ap (λ (g : GateTrace). g.returned) is ∙ s.returned_is;
  manner_is = ap (λ (g : GateTrace). g.manner) is ∙ s.manner_is;
  served = s.served;
}

-- one more connection was given, served, and came back
pub gate-more : (lost : Bool) (first mid last : Caller) (before now opened closed : GateTrace) (one back : Seen) (result : Result Ending AheadFault) (manner : Manner) → manner ≡ opened.manner → ServesGate lost first mid before now
    → (opened ≡ with_given now one) × AreFresh one.input.rest one.output.held → closed ≡ with_returned opened back → (lost ≡ false → result ≢ Err fault.Port) → ServesOne manner result mid last one back → ServesGate lost first last before closed
gate-more lost first mid last before now opened closed one back result manner is s (opens, fresh) closes answered served = record {
  given = s.given ++ one ∷ [];
  returned = s.returned ++ back ∷ [];
  given_is =
      ap (λ (g : GateTrace). g.given) closes ∙ ap (λ (g : GateTrace). g.given) opens
      ∙ ap (λ gs. gs ++ one ∷ []) s.given_is ∙ append_assoc before.given s.given (one ∷ []);
  returned_is =
      ap (λ (g : GateTrace). g.returned) closes ∙ ap (λ (g : GateTrace). g.returned ++ back ∷ []) opens
      ∙ ap (λ gs. gs ++ back ∷ []) s.returned_is ∙ append_assoc before.returned s.returned (back ∷ []);
  manner_is = ap (λ (g : GateTrace). g.manner) closes ∙ ap (λ (g : GateTrace). g.manner) opens ∙ s.manner_is;
  served =
      serves-more before.manner lost first mid last s.given s.returned one back result s.served answered fresh
      (subst (λ (m : Manner). ServesOne m result mid last one back) (is ∙ ap (λ (g : GateTrace). g.manner) opens ∙ s.manner_is) served);
}

-- the rings and the number of the lane stay
serves-side : (manner : Manner) (first last : Caller) (read sent : List ℕ) (result : Result Ending AheadFault) → ServesAhead result first last manner read sent → KeepsSide first last
serves-side manner first last read sent result s =
    (ap (λ (x : Caller). x.lane) s.calls.client_is, ap (λ (x : Caller). x.calls) s.calls.client_is, ap (λ (x : Caller). x.answers) s.calls.client_is)

each-side : (manner : Manner) (lost : Bool) (first last : Caller) (given returned : List Seen) → ServesEach manner lost first given returned last → KeepsSide first last
each-side manner lost first last [] [] is = subst (λ (c : Caller). KeepsSide first c) (sym is) (refl, refl, refl)
each-side manner lost first last [] (back ∷ returned) is = absurd is
each-side manner lost first last (one ∷ given) [] is = absurd is
each-side manner lost first last (one ∷ given) (back ∷ returned) (ended, mid, fine, fresh, served, rest) =
    side_again first mid last (serves-side manner first mid served.read served.sent ended served.served) (each-side manner lost mid last given returned rest)

pub works-side : (faulty : Bool) (first last : Caller) (before now : GateTrace) → Works faulty first last before now → KeepsSide first last
works-side faulty first last before now w = each-side before.manner faulty first last w.served.given w.served.returned w.served.served

-- a worker that didn't begin
pub works-none : (client : Caller) (gate : GateTrace) → Works true client client gate gate
works-none client gate = record { served = gate-lost client client gate gate (gate-none client gate); over = λ n. absurd cc }

-- the empty list of bytes is no request, and has no fault
none-spelled : (front rest : List ℕ) (words : List (List ℕ)) → [] ≡ front ++ rest → Spells front words → ⊥
none-spelled front rest words none s = elim s.spelled [
  | inl is ↦ omega (arith, ap length none, length-append front rest, ap length is)
  | inr is ↦ omega (arith, ap length none, length-append front rest, ap length is.1)
]

none-headed : (wrong : ProtocolFault) → HeaderFault Count [] wrong → ⊥
none-headed protocol.Length f = omega (arith, ap length f.begins.whole)
none-headed protocol.Shape (inl f) = omega (arith, ap length f.whole)
none-headed protocol.Shape (inr f) = omega (arith, ap length f.begins.whole)
none-headed protocol.Limit (inl f) = omega (arith, ap length f.whole)
none-headed protocol.Limit (inr f) = omega (arith, ap length f.begins.whole)

none-wrong : (wrong : ProtocolFault) → FaultIn [] wrong → ⊥
none-wrong wrong (inl f) = none-headed wrong f
none-wrong wrong (inr f) = omega (arith, ap length f.whole)

-- a connection of which nothing was read, because there is no memory for it
first-standing : (manner : Manner) → (standing : Standing) × IsFirst manner standing
first-standing Plain = (record { id = 0; name = []; is_allowed = true; transaction = Closed }, refl)
first-standing (Full wanted) = (record { id = 0; name = []; is_allowed = not (is_some wanted); transaction = Closed }, refl)

pub serves-none : (manner : Manner) (client : Caller) → ServesAhead (Err fault.Memory) client client manner [] []
serves-none manner client = record {
  asked = [];
  put = [];
  got = [];
  standing = (first-standing manner).0;
  ended = None;
  held = Ok [];
  places = [];
  owed = [];
  after = after-new manner (first-standing manner).0 [] None (Ok []) [] [] refl refl refl refl (first-standing manner).1;
  calls = calls-none client;
  all = λ n. (refl, refl);
  last = ([], refl, omega arith);
  ends = ((refl, ([], refl, (none-spelled, none-wrong))), (refl, refl));
}

-- a connection that ended out of memory, which was reported to its client
pub serves-reported : (manner : Manner) (first last : Caller) (read sent : List ℕ) (given back : Seen) (held : Passing) → Consumes given.input.rest back.input.rest read → Appends given.output.held held sent → ServesAhead (Err fault.Memory) first last manner read sent
    → Says no_memory held back.output.held back.output.broken → ServesOne manner (Err fault.Memory) first last given back
serves-reported manner first last read sent given back held consumes appends served says = record {
  read = read;
  sent = sent;
  reported = says.0;
  consumes = consumes;
  appends = Appends-trans given.output.held held back.output.held sent says.0 appends says.3;
  served = served;
  cause = tt;
  is_reported = (says.1, says.2, says.4);
}

-- a connection that ended so that nothing was reported
pub serves-unreported : (manner : Manner) (result : Result Ending AheadFault) (first last : Caller) (read sent : List ℕ) (given back : Seen) → result ≢ Err fault.Memory → Consumes given.input.rest back.input.rest read → Appends given.output.held back.output.held sent
    → ServesAhead result first last manner read sent → HasCauseOf result back.input back.output → ServesOne manner result first last given back
serves-unreported manner result first last read sent given back other consumes appends served cause = record {
  read = read;
  sent = sent;
  reported = [];
  consumes = consumes;
  appends = rw (append-nil sent) appends;
  served = served;
  cause = cause;
  is_reported = unreported result back.output.broken other;
} where
  unreported : (result : Result Ending AheadFault) (unwritten : Bool) → result ≢ Err fault.Memory → IsReported result [] unwritten
  unreported (Ok end) unwritten other = refl
  unreported (Err fault.Read) unwritten other = refl
  unreported (Err fault.Write) unwritten other = refl
  unreported (Err fault.Memory) unwritten other = absurd (other refl)
  unreported (Err fault.Port) unwritten other = refl
