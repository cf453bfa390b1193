-- How a reply reports entries, and what the first of some ids are. (Redis, XRANGE, XREADGROUP and XCLAIM, "RESP2
-- Reply".)
use Rattle.std.specs.Prelude.{◌≡◌, ◌⊎◌, ℕ, ◌≤◌, true, false, List, [], ◌∷◌, length, Option, Some}
use Rattle.xs_keys.specs.Terms.{flat_map, Id, Field, has_id, fields_at, Ascends, AllUpTo, Reply, NullArray}
use Rattle.xs_keys.specs.ReplyParts.{array, id_reply, field_replies}
use Rattle.xs_keys.specs.Event.{Entries}

-- an entry: its id, and the fields that it was added with
abbrev pub TellsEntry : Entries → Id → Reply → Type 0
TellsEntry added x answer =
    (fields : List Field) × (fields_at added x ≡ Some fields)
    × (answer ≡ array (id_reply x ∷ array (flat_map field_replies fields) ∷ []))

-- an entry that may have left the stream: then it has the null array in place of fields
abbrev pub TellsEntryOrNull : Entries → List Id → Id → Reply → Type 0
TellsEntryOrNull added present x answer =
    (has_id present x ≡ true → TellsEntry added x answer)
    × (has_id present x ≡ false → answer ≡ array (id_reply x ∷ NullArray ∷ []))

-- each of these ids in order, and no more
abbrev pub TellsEach : (Id → Reply → Type 0) → List Id → List Reply → Type 0
TellsEach Tells [] [] = Unit {0}
TellsEach Tells (x ∷ xs) (told ∷ more) = Tells x told × TellsEach Tells xs more
TellsEach Tells _ _ = ⊥

-- the first of the chosen ids, in their order: all, or as many as the limit, and then the others come later
pub record AreFirst (Chosen : Id → Type 0) (limit : Option ℕ) (ids : List Id) : Type 0 where
  pub ascend : Ascends ids
  pub chosen : (x : Id) → has_id ids x ≡ true → Chosen x
  pub in_full : (x : Id) → Chosen x → (has_id ids x ≡ true) ⊎ ((limit ≡ Some (length ids)) × AllUpTo x ids)
  pub at_most : (n : ℕ) → limit ≡ Some n → length ids ≤ n
