-- How entries are reported, and what the first of some ids are, by examples that are right and others that aren't.
-- (XREADGROUP and XRANGE, "RESP2 Reply", with COUNT and without.)
use Rattle.std.specs.Prelude.{◌≡◌, ℕ, true, List, [], ◌∷◌, codes, Option, Some, None}
use Rattle.xs_stream.specs.Examples.{at}
use Rattle.xs_keys.specs.Terms.{Id, Field, has_id, Reply, NullArray}
use Rattle.xs_keys.specs.ReplyParts.{array}
use Rattle.xs_keys.specs.Telling.{TellsEntry, TellsEntryOrNull, TellsEach, AreFirst}
use Rattle.xs_keys.specs.PlayedLines.{name, id, entry}

-- 1-0 and 2-0 were added, each with its field
abbrev pub given : List (Id × List Field)
given =
    (at 1 0, record { name = codes "f"; value = codes "v" } ∷ [])
    ∷ (at 2 0, record { name = codes "g"; value = codes "w" } ∷ []) ∷ []

-- 2-0 as it is reported
abbrev pub second : Reply
second = array (id 2 0 ∷ array (name (codes "g") ∷ name (codes "w") ∷ []) ∷ [])

-- these are the first of 1-0, 2-0 and 3-0
abbrev pub FirstOfThree : Option ℕ → List Id → Type 0
FirstOfThree limit ids = AreFirst (λ x. has_id (at 1 0 ∷ at 2 0 ∷ at 3 0 ∷ []) x ≡ true) limit ids

pub record Telling : Type 0 where
  pub by_its_own_fields : TellsEntry given (at 2 0) second
  pub not_without_its_fields : TellsEntry given (at 2 0) (array (id 2 0 ∷ array [] ∷ [])) → ⊥
  pub not_one_that_was_never_given : TellsEntry given (at 3 0) (entry 3 0) → ⊥
  pub in_the_stream : TellsEntryOrNull given (at 2 0 ∷ []) (at 2 0) second
  pub no_longer : TellsEntryOrNull given [] (at 2 0) (array (id 2 0 ∷ NullArray ∷ []))
  pub no_longer_with_fields : TellsEntryOrNull given [] (at 2 0) second → ⊥
  pub both_in_turn : TellsEach (TellsEntry given) (at 1 0 ∷ at 2 0 ∷ []) (entry 1 0 ∷ second ∷ [])
  pub not_the_first_alone : TellsEach (TellsEntry given) (at 1 0 ∷ at 2 0 ∷ []) (entry 1 0 ∷ []) → ⊥
  pub not_one_more : TellsEach (TellsEntry given) (at 1 0 ∷ []) (entry 1 0 ∷ second ∷ []) → ⊥

pub record Firsts : Type 0 where
  pub not_one_less : FirstOfThree (Some 2) (at 1 0 ∷ []) → ⊥
  pub not_all_but_one : FirstOfThree None (at 1 0 ∷ at 2 0 ∷ []) → ⊥
  pub not_one_that_comes_later : FirstOfThree (Some 2) (at 1 0 ∷ at 3 0 ∷ []) → ⊥
  pub not_out_of_order : FirstOfThree None (at 2 0 ∷ at 1 0 ∷ at 3 0 ∷ []) → ⊥
  pub not_more_than_asked_for : FirstOfThree (Some 1) (at 1 0 ∷ at 2 0 ∷ []) → ⊥
  pub not_another : FirstOfThree (Some 2) (at 1 0 ∷ at 2 1 ∷ []) → ⊥
  pub not_one_twice : FirstOfThree None (at 1 0 ∷ at 1 0 ∷ at 2 0 ∷ at 3 0 ∷ []) → ⊥
