-- A new desk, and why there is none.
use Rattle.std.specs.Prelude.{◌≡◌, ℕ, ◌+◌, ◌<◌, ◌≤◌, ◌⊎◌, List, [], ◌∷◌}
use Rattle.xs_desk.specs.declared.opening.DeskError.{DeskError}
use Rattle.xs_desk.specs.declared.opening.DeskError.TheVariants.{Lanes, Depth, Memory}
use Rattle.xs_desk.specs.ServedCalls.{LaneOf}
use Rattle.xs_desk.specs.Callers.{Caller, IsSide}

-- lane k, which hasn't been used yet
pub record IsNewLane (k depth : ℕ) (lane : LaneOf) (client : Caller) : Type 0 where
  pub popped : lane.popped ≡ []
  pub sent : lane.sent ≡ []
  pub submitted : client.submitted ≡ []
  pub taken : client.taken ≡ []
  pub number : client.lane ≡ k
  pub depth_is : client.depth ≡ depth
  pub answer_depth_is : client.answer_depth ≡ depth
  pub side : IsSide lane client

-- lanes from number k on, which haven't been used yet, and their clients
abbrev pub AreNew : ℕ → ℕ → List LaneOf → List Caller → Type 0
AreNew k depth [] [] = Unit {0}
AreNew k depth (lane ∷ lanes) (client ∷ clients) = IsNewLane k depth lane client × AreNew (k + 1) depth lanes clients
AreNew k depth _ _ = ⊥

-- the numbers of lanes that a desk with at most this many may have, and the numbers of places
abbrev pub IsLaneCount : ℕ → ℕ → Type 0
IsLaneCount most n = (0 < n) × (n ≤ most)

abbrev pub IsDepth : ℕ → Type 0
IsDepth depth = (0 < depth) × (depth < 65537)

-- there are too many lanes or none; else too many places or none; else memory ran out
abbrev pub IsDeskError : ℕ → ℕ → ℕ → DeskError → Type 0
IsDeskError most n depth Lanes = (n ≡ 0) ⊎ (most < n)
IsDeskError most n depth Depth = IsLaneCount most n × ((depth ≡ 0) ⊎ (65536 < depth))
IsDeskError most n depth Memory = IsLaneCount most n × IsDepth depth
