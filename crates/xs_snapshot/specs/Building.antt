-- What was read of a snapshot so far, and its pieces.
use Rattle.std.specs.Prelude.{List, [], ◌++◌, Option, Some, None}
use Rattle.xs_group.specs.GroupState.{GroupState}
use Rattle.xs_keys.specs.Event.{Bytes}
use Rattle.xs_keys.specs.Content.{KeyState, Content}
use Rattle.xs_replay.specs.Pieces.{Piece, pieces_of_group, pieces_of_key, pieces_of}

-- the pieces of a value, if there is one
abbrev pub pieces_if_there : {X : Type 0} → (X → List Piece) → Option X → List Piece
pieces_if_there pieces None = []
pieces_if_there pieces (Some x) = pieces x

-- a key that may get more entries and groups: what it has, without its last group, which may get more consumers and
-- rows
pub record KeySoFar : Type 0 where
  pub key : Bytes × KeyState
  pub group : Option (Bytes × GroupState)

abbrev pub pieces_of_key_so_far : KeySoFar → List Piece
pieces_of_key_so_far k = pieces_of_key k.key ++ pieces_if_there pieces_of_group k.group

-- a content that may get more keys: what it has, without its last key
pub record Building : Type 0 where
  pub content : Content
  pub key : Option KeySoFar

abbrev pub pieces_so_far : Building → List Piece
pieces_so_far b = pieces_of b.content ++ pieces_if_there pieces_of_key_so_far b.key
