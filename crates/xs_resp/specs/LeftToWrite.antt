-- What is left to write of a reply, in pieces.
use Rattle.std.specs.Prelude.{ℕ, ◌<◌, Bool, true, false, List, [], ◌∷◌, ◌++◌, length}
use Rattle.std.specs.List.{flat_map}
use Rattle.xs_resp.specs.Token.{Token, ErrorText, Bulk}
use Rattle.xs_resp.specs.Line.{crlf}
use Rattle.xs_resp.specs.ReplyText.{token_text}

-- the bytes that are left to write: those of the next piece, and those after it
pub record Left : Type 0 where
  pub piece : List ℕ
  pub behind : List ℕ

-- all bytes that are left
abbrev pub bytes_left : Left → List ℕ
bytes_left bytes = bytes.piece ++ bytes.behind

-- the string of a token
abbrev pub string_of : Token → List ℕ
string_of (ErrorText bytes) = bytes
string_of (Bulk bytes) = bytes
string_of other = []

-- the strings of tokens, one after the other
abbrev pub strings_of : List Token → List ℕ
strings_of tokens = flat_map string_of tokens

-- what is left of these tokens; if the string of the first one is lent, its header is written
abbrev pub left_of : Bool → List Token → List ℕ
left_of false tokens = flat_map token_text tokens
left_of true [] = []
left_of true (t ∷ ts) = string_of t ++ crlf ++ flat_map token_text ts

-- the piece is what was gathered or, once that is written, the lent string
abbrev pub pieces : List ℕ → Bool → List Token → Left
pieces [] true [] = record { piece = []; behind = [] }
pieces [] true (t ∷ ts) = record { piece = string_of t; behind = crlf ++ flat_map token_text ts }
pieces [] false tokens = record { piece = []; behind = left_of false tokens }
pieces (b ∷ bs) lent tokens = record { piece = b ∷ bs; behind = left_of lent tokens }

-- the first of these tokens has a string
abbrev pub HasString : List Token → Type 0
HasString [] = ⊥
HasString (t ∷ ts) = 0 < length (string_of t)
