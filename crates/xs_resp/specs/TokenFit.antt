-- How much of a token is appended to a buffer.
use Rattle.std.specs.Prelude.{◌≡◌, ℕ, ◌<◌, List, ◌++◌, length}
use Rattle.xs_resp.specs.declared.encoder.Fit.{Fit}
use Rattle.xs_resp.specs.declared.encoder.Fit.TheVariants.{Whole, Header, Nothing}
use Rattle.xs_resp.specs.Line.{crlf}
use Rattle.xs_resp.specs.Token.{Token}
use Rattle.xs_resp.specs.ReplyText.{token_text}
use Rattle.xs_resp.specs.LeftToWrite.{string_of}

-- after its header a token has its string and the end of a line
abbrev pub Appends : Fit → List ℕ → List ℕ → Token → Type 0
Appends Whole old new token = new ≡ old ++ token_text token
Appends Header old new token =
    (0 < length new) × (0 < length (string_of token)) × (new ++ string_of token ++ crlf ≡ old ++ token_text token)
Appends Nothing old new token = (0 < length new) × (new ≡ old)
