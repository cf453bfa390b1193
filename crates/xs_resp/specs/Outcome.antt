-- What reading some bytes gives: a value, a fault, or nothing yet, if more bytes decide.
use Rattle.std.specs.Prelude.{◌≡◌, Option, Some, None, Result, Ok, Err}
use Rattle.xs_resp.specs.declared.read_fault.ProtocolFault.{ProtocolFault}

abbrev pub Outcome : Type 0 → Type 0
Outcome A = Result (Option A) ProtocolFault

infixl 10 ◌>>=◌
-- goes on if a value was read
abbrev pub ◌>>=◌ : {A B : Type 0} → Outcome A → (A → Outcome B) → Outcome B
(Ok (Some x)) >>= next = next x
(Ok None) >>= next = Ok None
(Err wrong) >>= next = Err wrong

-- what the first outcome decides, the second decides as well
abbrev pub Keeps : {A : Type 0} → Outcome A → Outcome A → Type 0
Keeps (Ok (Some x)) later = later ≡ Ok (Some x)
Keeps (Ok None) later = Unit {0}
Keeps (Err wrong) later = later ≡ Err wrong
