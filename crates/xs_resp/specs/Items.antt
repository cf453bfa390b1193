-- The items of an array as contracts see them: in the order in which they are written, without nesting.
use Rattle.std.specs.Prelude.{ℕ, List}
use Rattle.xs_resp.specs.Token.{Token}

-- the items of an array: their number, and their tokens in order
pub record Items : Type 0 where
  pub count : ℕ
  pub tokens : List Token
