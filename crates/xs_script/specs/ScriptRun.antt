-- A script without IO of its own, and how it ends.
use Rattle.std.specs.Prelude.{◌≡◌, ℕ, ◌+◌, ◌<◌, ◌≤◌, true, false, ◌⊎◌, Bool, List, [], ◌∷◌, ◌++◌, length, take}
use Rattle.std.specs.Prelude.{Option, None, Result, Ok, Err}
use Rattle.xs_io.specs.Passing.{Passing, IsAtEnd}
use Rattle.std.specs.List.{flat_map, list_any}
use Rattle.xs_keys.specs.Event.{History}
use Rattle.xs_keys.specs.Content.{Content, IsContent}
use Rattle.xs_script.specs.declared.state.Script.{Script as State}
use Rattle.xs_script.specs.declared.state.Next.{Next}
use Rattle.xs_script.specs.declared.state.Next.TheVariants.{Ends}
use Rattle.xs_script.specs.declared.fault.ScriptFault.{ScriptFault}
use Rattle.xs_script.specs.declared.fault.ScriptFault.TheVariants.{Line, Read, Write, Memory}
use Rattle.xs_io.specs.Device.{counter_at}
use Rattle.xs_script.specs.Line.{is_line_end, script_lines, line_of, line_limit}
use Rattle.xs_script.specs.Cause.{Cause, itself, input, reader, writer}
use Rattle.xs_script.specs.Script.{Script, IsScript, with_end, AreLines}

-- the replies to these lines are sent, this many bytes
abbrev pub Sent : List (List ℕ) → List ℕ → ℕ → Type 0
Sent lines sent written = IsScript lines sent × (written ≡ counter_at (length sent))

-- a prefix of the replies to these lines is sent, this many bytes
abbrev pub PartSent : List (List ℕ) → List ℕ → ℕ → Type 0
PartSent lines sent written =
    (whole rest : List ℕ) × IsScript lines whole × (whole ≡ sent ++ rest) × (written ≡ counter_at (length sent))

-- these complete lines were read, then the line in hand as far as it was looked at, and then what follows it
abbrev pub IsInHand : List ℕ → List (List ℕ) → List ℕ → List ℕ → Type 0
IsInHand read lines line behind =
    (read ≡ flat_map with_end lines ++ (line ++ behind)) × AreLines lines × (list_any is_line_end line ≡ false)

-- the line in hand was read up to its LF, or to the end of the input, or above the limit
abbrev pub IsReadOut : List ℕ → List ℕ → Passing → Bool → Type 0
IsReadOut line behind rest ended =
    ((unused : List ℕ) × (behind ≡ 10 ∷ unused))
    ⊎ ((behind ≡ []) × (0 < length line) × IsAtEnd rest × (ended ≡ true)) ⊎ (line_limit < length line)

-- the most bytes of a read
abbrev pub piece : ℕ
piece = 65536

-- how a script ends that has read and sent these bytes, and whose reader has these left
abbrev pub ScriptEndsBy : ScriptFault → List ℕ → List ℕ → Passing → Bool → Type 0
ScriptEndsBy (Line number written) read sent rest ended =
    (lines : List (List ℕ)) × (line behind : List ℕ) × IsInHand read lines line behind
    × IsReadOut line behind rest ended
    × (line_of line ≡ None) × (number ≡ counter_at (length lines + 1)) × Sent lines sent written
ScriptEndsBy (Read written) read sent rest ended =
    (lines : List (List ℕ)) × (line : List ℕ) × IsInHand read lines line [] × Sent lines sent written
ScriptEndsBy (Write written) read sent rest ended =
    (lines after : List (List ℕ)) × (script_lines read ≡ lines ++ after) × PartSent lines sent written
ScriptEndsBy (Memory written) read sent rest ended =
    (lines : List (List ℕ)) × (line behind : List ℕ) × IsInHand read lines line behind × (length behind ≤ piece + 1)
    × Sent lines sent written

-- the complete script is answered, or it ended by a fault
abbrev pub Runs : Result ℕ ScriptFault → List ℕ → List ℕ → Passing → Bool → Type 0
Runs (Ok n) read sent rest ended = Sent (script_lines read) sent n
Runs (Err fault) read sent rest ended = ScriptEndsBy fault read sent rest ended

-- what was read is these lines, and then what isn't used yet
abbrev pub IsRead : List ℕ → List (List ℕ) → List ℕ → Type 0
IsRead read lines unused = (read ≡ flat_map with_end lines ++ unused) × AreLines lines

-- at most a piece follows the first line end
abbrev pub IsFew : List ℕ → Type 0
IsFew held = (line rest : List ℕ) → held ≡ line ++ 10 ∷ rest → list_any is_line_end line ≡ false → length rest ≤ piece

-- these lines are read and answered; some of the replies are written, and the others are unwritten
pub record ScriptIsAfter (read sent : List ℕ) (script : State) (keyspace : Content) : Type 0 where
  pub lines : List (List ℕ)
  pub past : History
  pub said : Script [] lines (sent ++ script.owed.items) past
  pub content : IsContent keyspace past
  pub is_read : IsRead read lines script.held
  pub few : IsFew script.held
  pub number : script.number ≡ counter_at (length lines)
  pub written : script.written ≡ counter_at (length sent)

-- nothing is read, answered or unwritten
pub record IsNewScript (script : State) : Type 0 where
  pub held : script.held ≡ []
  pub owed : script.owed.items ≡ []
  pub number : script.number ≡ 0
  pub written : script.written ≡ 0

-- why a script ended so
abbrev pub cause_of_script : Result ℕ ScriptFault → Cause
cause_of_script (Ok n) = input
cause_of_script (Err (Read written)) = reader
cause_of_script (Err (Write written)) = writer
cause_of_script _ = itself

-- the script ended so, for this cause, whatever is left of the input; if the cause is the end of the input, that was
-- reached
abbrev pub RunsBy : Cause → Result ℕ ScriptFault → List ℕ → List ℕ → Type 0
RunsBy cause result read sent =
    ((rest : Passing) (ended : Bool) → (cause ≡ input → IsAtEnd rest × (ended ≡ true))
    → Runs result read sent rest ended) × ((cause_of_script result ≡ itself) ⊎ (cause ≡ cause_of_script result))

-- no line is complete, nor is it above the limit
abbrev pub IsWaiting : List ℕ → Type 0
IsWaiting held = (list_any is_line_end held ≡ false) × (length held ≤ line_limit)

-- after a step a script is in this state, or it has ended
abbrev pub AfterStep : Next → Type 0 → (Result ℕ ScriptFault → Type 0) → Type 0
AfterStep (Ends end) Stands HasEnded = HasEnded end
AfterStep _ Stands HasEnded = Stands

-- a script ends so once all unwritten bytes are written; or as one whose writer failed, after a part of them
abbrev pub EndsOnceWritten : Cause → Result ℕ ScriptFault → List ℕ → List ℕ → State → Type 0
EndsOnceWritten cause end read sent script =
    RunsBy cause end read (sent ++ script.owed.items)
    × ((count : ℕ) → count < length script.owed.items
    → RunsBy writer (Err (Write (counter_at (script.written + count)))) read (sent ++ take count script.owed.items))

-- all that was unwritten is written
pub record IsWritten (old new : State) : Type 0 where
  pub held : new.held ≡ old.held
  pub owed : new.owed.items ≡ []
  pub number : new.number ≡ old.number
  pub written : new.written ≡ counter_at (old.written + length old.owed.items)
