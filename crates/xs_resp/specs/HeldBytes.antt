-- What a reader of requests holds, and what its calls do.
use Rattle.std.specs.Prelude.{◌≡◌, ℕ, ◌==◌, Bool, true, false, not, List, [], ◌++◌, length, drop, Option, Some, None}
use Rattle.std.specs.Prelude.{Result, Ok}
use Rattle.std.specs.Prelude.{Err, ◌⊎◌}
use Rattle.xs_resp.specs.declared.read_fault.ProtocolFault.{ProtocolFault}
use Rattle.xs_resp.specs.declared.read_fault.ReadFault.{ReadFault}
use Rattle.xs_resp.specs.declared.read_fault.ReadFault.TheVariants.{Memory}
use Rattle.xs_resp.specs.Outcome.{Outcome}
use Rattle.xs_resp.specs.ReadFaults.{read_fault_of}
use Rattle.xs_resp.specs.Reading.{Found, request, words_in, IsWhole}

-- the bytes that a reader holds, or the fault with which it has failed
abbrev pub Held : Type 0
Held = Result (List ℕ) ProtocolFault

-- a piece more
abbrev pub with_piece : Held → List ℕ → Held
with_piece (Ok bytes) piece = Ok (bytes ++ piece)
with_piece (Err wrong) piece = Err wrong

-- the number of held bytes
abbrev pub held_length : Held → ℕ
held_length (Ok bytes) = length bytes
held_length (Err wrong) = 0

-- whether bytes are held
abbrev pub holds_bytes : Held → Bool
holds_bytes (Ok bytes) = not (length bytes == 0)
holds_bytes (Err wrong) = false

-- the next request of bytes: its words, and the bytes after it; or out of memory, unchanged; or nothing yet, unchanged;
-- or a fault, which is held from then on
abbrev pub NextOf : List ℕ → Outcome Found → Result (Option (List (List ℕ))) ReadFault → Held → Type 0
NextOf bytes (Ok (Some found)) result new =
    ((result ≡ Ok (Some found.words)) × (new ≡ Ok (drop found.end bytes))) ⊎ ((result ≡ Err Memory) × (new ≡ Ok bytes))
NextOf bytes (Ok None) result new = (result ≡ Ok None) × (new ≡ Ok bytes)
NextOf bytes (Err wrong) result new = (result ≡ Err (read_fault_of wrong)) × (new ≡ Err wrong)

-- the next request of what is held: a failed reader returns its fault for good
abbrev pub Next : Held → Result (Option (List (List ℕ))) ReadFault → Held → Type 0
Next (Ok bytes) result new = NextOf bytes (request bytes) result new
Next (Err wrong) result new = (result ≡ Err (read_fault_of wrong)) × (new ≡ Err wrong)

-- a complete request is at the front of what is held
pub record HasNext (held : Held) : Type 0 where
  pub bytes : List ℕ
  pub holds : held ≡ Ok bytes
  pub whole : IsWhole (request bytes)

-- its words
abbrev pub front_of : Held → List (List ℕ)
front_of (Ok bytes) = words_in (request bytes)
front_of (Err wrong) = []

-- it is dropped
pub record Skips (old new : Held) : Type 0 where
  pub bytes : List ℕ
  pub found : Found
  pub holds : old ≡ Ok bytes
  pub read : request bytes ≡ Ok (Some found)
  pub left : new ≡ Ok (drop found.end bytes)

-- whether a complete request is at the front of bytes, which stay; or a fault, which is held from then on
abbrev pub ReadyOf : List ℕ → Outcome Found → Result Bool ReadFault → Held → Type 0
ReadyOf bytes (Ok (Some found)) result new = (result ≡ Ok true) × (new ≡ Ok bytes)
ReadyOf bytes (Ok None) result new = (result ≡ Ok false) × (new ≡ Ok bytes)
ReadyOf bytes (Err wrong) result new = (result ≡ Err (read_fault_of wrong)) × (new ≡ Err wrong)

-- whether a complete request is at the front of what is held
abbrev pub Ready : Held → Result Bool ReadFault → Held → Type 0
Ready (Ok bytes) result new = ReadyOf bytes (request bytes) result new
Ready (Err wrong) result new = (result ≡ Err (read_fault_of wrong)) × (new ≡ Err wrong)
