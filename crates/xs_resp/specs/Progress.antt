-- How far the request at the front of some bytes is read.
use Rattle.std.specs.Prelude.{◌≡◌, ℕ, ◌<◌, ◌≤◌, List, ◌++◌, length, drop, Option, Some, None, Result, Ok, Err}
use Rattle.xs_resp.specs.declared.progress.Progress.{Progress}
use Rattle.xs_resp.specs.declared.read_fault.ProtocolFault.{ProtocolFault}
use Rattle.xs_resp.specs.Reading.{behind_words, words, request}

-- after these words, the bytes that follow decide what the request is
abbrev pub Passes : List ℕ → Progress → List (List ℕ) → Type 0
Passes bytes progress passed =
    (more : List ℕ) → request (bytes ++ more)
    ≡ behind_words passed progress.at (words progress.left (drop progress.at bytes ++ more))

-- some words were read, and are within the bytes
pub record IsProgressOf (bytes : List ℕ) (progress : Progress) : Type 0 where
  pub within : progress.at ≤ length bytes
  pub passed : List (List ℕ)
  pub passes : Passes bytes progress passed

-- the request after its header
abbrev pub Begins : List ℕ → Result (Option Progress) ProtocolFault → Type 0
Begins bytes (Ok (Some progress)) = IsProgressOf bytes progress
Begins bytes (Ok None) = request bytes ≡ Ok None
Begins bytes (Err wrong) = request bytes ≡ Err wrong

-- the words, as far as the bytes go
abbrev pub Goes : List ℕ → Result Progress ProtocolFault → Type 0
Goes bytes (Ok progress) = IsProgressOf bytes progress × (0 < progress.left → request bytes ≡ Ok None)
Goes bytes (Err wrong) = request bytes ≡ Err wrong

-- the header, and the words as far as the bytes go
abbrev pub Reaches : List ℕ → Result (Option Progress) ProtocolFault → Type 0
Reaches bytes (Ok (Some progress)) = IsProgressOf bytes progress × (0 < progress.left → request bytes ≡ Ok None)
Reaches bytes (Ok None) = request bytes ≡ Ok None
Reaches bytes (Err wrong) = request bytes ≡ Err wrong
