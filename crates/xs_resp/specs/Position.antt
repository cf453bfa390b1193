-- How far a reply is written.
use Rattle.std.specs.Prelude.{◌≡◌, ℕ, ◌≤◌, true, false, List, [], length, take, drop}
use Rattle.xs_resp.specs.declared.encoder.Position.{Position}
use Rattle.xs_resp.specs.Token.{Token}
use Rattle.xs_resp.specs.LeftToWrite.{strings_of, HasString}

-- these bytes of tokens are gathered up to a position; none are gathered only if all tokens are written
pub record IsEncoding (gathered : List ℕ) (tokens : List Token) (position : Position) : Type 0 where
  pub within : position.taken ≤ length tokens
  pub strings : position.at ≡ length (strings_of (take position.taken tokens))
  pub string : position.is_lent ≡ true → HasString (drop position.taken tokens)
  pub all : gathered ≡ [] → position.is_lent ≡ false → drop position.taken tokens ≡ []
