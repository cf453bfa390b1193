-- What the program reports at its end.
use Rattle.std.specs.Prelude.{◌≡◌, ℕ, ◌⊎◌, Bool, true, List, [], ◌++◌, codes, decimal, Option, Result, Ok, Err}
use Rattle.xs_io.specs.Passing.{Passing}
use Rattle.xs_work.specs.Texts.{Says}
use Rattle.xs_script.specs.declared.fault.ScriptFault.{ScriptFault}
use Rattle.xs_script.specs.declared.fault.ScriptFault.TheVariants.{Line, Read, Write, Memory}
use Rattle.xs_work.specs.declared.fault.WorkFault.{WorkFault}
use Rattle.xs_work.specs.declared.fault.WorkFault.TheVariants as work
use Rattle.xs_desk.specs.declared.opening.DeskError.TheVariants as desk

-- the status of the program if a script ends before its end: 2 for a line that is not a script line, and 1 for a failed
-- device or out of memory
abbrev pub status_of : ScriptFault → ℕ
status_of (Line _ _) = 2
status_of (Read _) = 1
status_of (Write _) = 1
status_of (Memory _) = 1

-- the line for a line that is not a script line
abbrev pub line_text : ℕ → List ℕ
line_text number = codes "xs_server: line " ++ decimal number ++ codes " is not a script line\n"

-- the line for out of memory
abbrev pub memory_text : List ℕ
memory_text = codes "xs_server: out of memory\n"

-- the line for a port that can't be listened on
abbrev pub listening_text : List ℕ
listening_text = codes "xs_server: listening failed\n"

-- the line for work that gave no summary for another cause than memory
abbrev pub serving_text : List ℕ
serving_text = codes "xs_server: serving failed\n"

-- the line for a fault of work: out of memory, for the desk too, or anything else
abbrev pub work_text : WorkFault → List ℕ
work_text (work.Desk desk.Memory) = memory_text
work_text work.Memory = memory_text
work_text _ = serving_text

-- the line with the port on which the server listens
abbrev pub ready_text : ℕ → List ℕ
ready_text port = codes "listening 127.0.0.1:" ++ decimal port ++ codes "\n"

-- the line for a server that has ended before its work did, or whose work gave no outcome
abbrev pub IsServeCause : List ℕ → Type 0
IsServeCause line = (line ≡ memory_text) ⊎ (line ≡ listening_text) ⊎ (line ≡ serving_text)

-- the line for a script's fault
abbrev pub script_fault_text : ScriptFault → List ℕ
script_fault_text (Line number _) = line_text number
script_fault_text (Read _) = codes "xs_server: reading failed\n"
script_fault_text (Write _) = codes "xs_server: writing failed\n"
script_fault_text (Memory _) = memory_text

-- the status of the program, and what it reports after a script has run
abbrev pub status_of_run : Result ℕ ScriptFault → ℕ
status_of_run (Ok written) = 0
status_of_run (Err fault) = status_of fault

abbrev pub text_of_run : Result ℕ ScriptFault → List ℕ
text_of_run (Ok written) = []
text_of_run (Err fault) = script_fault_text fault

-- the status of the program after work, and what it reports: nothing after an outcome, else the line for the fault
abbrev pub ReportsWork :
    {W A B : Type 0} → (B → WorkFault) → Result A B → ℕ → W → W → Passing → Passing → Bool → Type 0
ReportsWork fault_of (Ok outcome) status old new held holds broken = (status ≡ 0) × (new ≡ old)
ReportsWork fault_of (Err failed) status old new held holds broken =
    (status ≡ 1) × Says (work_text (fault_of failed)) held holds broken
