-- Tokens as they are stored: their strings are in one buffer, one after the other.
use Rattle.std.specs.Prelude.{ℕ, ◌+◌, List, [], ◌∷◌, take, drop}
use Rattle.xs_resp.specs.declared.mark.Mark.{Mark}
use Rattle.xs_resp.specs.declared.mark.Mark.TheVariants.{Simple, Error, ErrorText, Int, Bulk, NullBulk, Array, NullArray}
use Rattle.xs_resp.specs.Token as token

-- the number of bytes of a token's string
abbrev pub string_length : Mark → ℕ
string_length (ErrorText length) = length
string_length (Bulk length) = length
string_length other = 0

-- the token with this string
abbrev pub token_in : Mark → List ℕ → token.Token
token_in (Simple s) string = token.Simple s
token_in (Error f) string = token.Error f
token_in (ErrorText length) string = token.ErrorText string
token_in (Int n) string = token.Int n
token_in (Bulk length) string = token.Bulk string
token_in NullBulk string = token.NullBulk
token_in (Array n) string = token.Array n
token_in NullArray string = token.NullArray

-- the number of bytes of the strings of tokens
abbrev pub strings_length : List Mark → ℕ
strings_length [] = 0
strings_length (m ∷ ms) = string_length m + strings_length ms

-- the tokens whose strings are in these bytes
abbrev pub tokens_in : List Mark → List ℕ → List token.Token
tokens_in [] strings = []
tokens_in (m ∷ ms) strings =
    token_in m (take (string_length m) strings) ∷ tokens_in ms (drop (string_length m) strings)
