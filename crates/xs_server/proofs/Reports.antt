-- Texts that a writer takes one after the other, and reports of work.
use Rattle.std.proofs.Common.{◌≡◌, ◌⊎◌, inl, inr, refl, Bool, true, false, ℕ, List, ◌++◌, Option, sym, ap, ◌∙◌, append_assoc}
use Rattle.std.proofs.Common.{Result, Ok, Err, IfOk}
use Rattle.xs_io.specs.Passing.{Passing, Appends}
use Rattle.xs_io.proofs.Passing.{Appends-trans}
use Rattle.xs_desk.specs.declared.opening.DeskError.TheVariants as desk
use Rattle.xs_work.specs.declared.fault.WorkFault.{WorkFault}
use Rattle.xs_work.specs.declared.fault.WorkFault.TheVariants as work
use Rattle.std.proofs.lemmas.List.{length-map}
use Rattle.std.proofs.lemmas.List.Elements.{All-map}
use Rattle.std.specs.Prelude.{All, length, map}
use Rattle.xs_desk.specs.declared.summary.Summary.{Summary}
use Rattle.xs_session.specs.declared.manner.Manner.{Manner}
use Rattle.xs_work.specs.Gates.{GateTrace, new_gate}
use Rattle.xs_work.specs.WorkOutcome.{IsClosed, HasServed}
use Rattle.xs_work.specs.Texts.{Says}
use Rattle.xs_server.specs.Report.{work_text, IsServeCause, ReportsWork}

-- if the writer fails, what was to follow isn't written
pub fails-before : (a b : List ℕ) (old new : Passing) (broken : Bool) → Says a old new broken → broken ≡ true → Says (a ++ b) old new broken
fails-before a b old new broken h failed = (h.0, h.1 ++ b, ap (λ l. l ++ b) h.2 ∙ append_assoc h.0 h.1 b, h.3, inr failed)

-- a text that was taken completely, and what follows
pub follows : (a b : List ℕ) (old mid new : Passing) (broken : Bool) → Appends old mid a → Says b mid new broken → Says (a ++ b) old new broken
follows a b old mid new broken taken h =
    (a ++ h.0, h.1, ap (λ l. a ++ l) h.2 ∙ sym (append_assoc a h.0 h.1), Appends-trans old mid new a h.0 taken h.3, h.4)

-- the line of a fault of work is one of three
is-cause : (fault : WorkFault) → IsServeCause (work_text fault)
is-cause (work.Desk desk.Lanes) = inr (inr refl)
is-cause (work.Desk desk.Depth) = inr (inr refl)
is-cause (work.Desk desk.Memory) = inl refl
is-cause work.Start = inr (inr refl)
is-cause work.Gate = inr (inr refl)
is-cause work.Lane = inr (inr refl)
is-cause work.Close = inr (inr refl)
is-cause work.Memory = inl refl

-- the status is 0 only after an outcome
pub closed-at-zero : {W A B : Type 0} (fault_of : B → WorkFault) (IsDone : A → Type 0) (worked : Result A B) (status : ℕ) (old new : W) (held holds : Passing) (broken : Bool)
    → IfOk worked IsDone → ReportsWork fault_of worked status old new held holds broken → status ≡ 0 → (outcome : A) × IsDone outcome
closed-at-zero fault_of IsDone (Ok outcome) status old new held holds broken closed told zero = (outcome, closed)
closed-at-zero fault_of IsDone (Err failed) status old new held holds broken closed told zero =
    let bad : 1 ≡ 0 = sym told.0 ∙ zero in absurd cc

-- it is 0 and nothing is reported, or 1 and a cause is reported
pub reported-of-work : {W A B : Type 0} (fault_of : B → WorkFault) (worked : Result A B) (status : ℕ) (old new : W) (held holds : Passing) (broken : Bool)
    → ReportsWork fault_of worked status old new held holds broken → ((status ≡ 0) × (new ≡ old)) ⊎ ((status ≡ 1) × (cause : List ℕ) × IsServeCause cause × Says cause held holds broken)
reported-of-work fault_of (Ok outcome) status old new held holds broken told = inl told
reported-of-work fault_of (Err failed) status old new held holds broken told = inr (told.0, work_text (fault_of failed), is-cause (fault_of failed), told.1)

-- after an outcome of work over new gates
pub served-at-zero : {W G A B : Type 0} (fault_of : B → WorkFault) (trace : G → GateTrace) (gates : List G) (manner : Manner) (n : ℕ) (now : A → List GateTrace) (summary : A → Summary) (worked : Result A B) (status : ℕ) (old new : W)
    (held holds : Passing) (broken : Bool)
    → length gates ≡ n → All (λ gate. trace gate ≡ new_gate manner) gates → IfOk worked (λ outcome. IsClosed false (map trace gates) (now outcome) (summary outcome))
    → ReportsWork fault_of worked status old new held holds broken → status ≡ 0 → HasServed manner n
served-at-zero fault_of trace gates manner n now summary worked status old new held holds broken count fresh closed told zero =
    let done = closed-at-zero fault_of (λ outcome. IsClosed false (map trace gates) (now outcome) (summary outcome)) worked status old new held holds broken closed told zero in
    (map trace gates, now done.0, summary done.0, length-map gates trace ∙ count, All-map (λ (gate : GateTrace). gate ≡ new_gate manner) trace gates fresh, done.1)
