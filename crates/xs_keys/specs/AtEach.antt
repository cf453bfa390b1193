-- Properties of a list of events that has the newest first: at each event, and at each time.
use Rattle.std.specs.Prelude.{◌≡◌, List, ◌∷◌, ◌++◌}

module _ {E : Type 0} where
  -- Holds is true of each event, given those before it
  abbrev pub AtEach : List E → (List E → E → Type 0) → Type 0
  AtEach events Holds =
      (later : List E) (event : E) (earlier : List E) → events ≡ later ++ event ∷ earlier → Holds earlier event

  -- Holds is true at each time, for the events up to then
  abbrev pub AtEachTime : List E → (List E → Type 0) → Type 0
  AtEachTime events Holds = (later earlier : List E) → events ≡ later ++ earlier → Holds earlier
