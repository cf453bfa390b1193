-- The text of replies (RESP protocol specification, version 2).
use Rattle.std.specs.Prelude.{◌≡◌, ℕ, ⊤, List, ◌∷◌, ◌++◌, length, take, codes, Result, Ok, Err}
use Rattle.std.specs.declared.alloc.AllocError.{AllocError}
use Rattle.std.specs.List.{flat_map}
use Rattle.xs_resp.specs.declared.reply.Simple as simple
use Rattle.xs_resp.specs.declared.reply.Simple.TheVariants.{Okay, Pong, Stream, Nothing, Reset, Queued}
use Rattle.xs_resp.specs.declared.reply.Reply.{Reply}
use Rattle.xs_resp.specs.FaultText.{fault_text}
use Rattle.xs_resp.specs.Line.{crlf, line}
use Rattle.xs_resp.specs.Token.{Token, Simple, Error, ErrorText, Int, Bulk, NullBulk, Array, NullArray}
use Rattle.xs_resp.specs.ReplyItems.{tokens_of}

-- the text of a simple string
abbrev pub simple_text : simple.Simple → List ℕ
simple_text Okay = codes "OK"
simple_text Pong = codes "PONG"
simple_text Stream = codes "stream"
simple_text Nothing = codes "none"
simple_text Reset = codes "RESET"
simple_text Queued = codes "QUEUED"

-- the text of one token: the markers are + - : $ *
abbrev pub token_text : Token → List ℕ
token_text (Simple s) = 43 ∷ simple_text s ++ crlf
token_text (Error f) = 45 ∷ fault_text f ++ crlf
token_text (ErrorText bytes) = 45 ∷ bytes ++ crlf
token_text (Int n) = line 58 n
token_text (Bulk bytes) = line 36 (length bytes) ++ bytes ++ crlf
token_text NullBulk = codes "$-1" ++ crlf
token_text (Array n) = line 42 n
token_text NullArray = codes "*-1" ++ crlf

-- the text of a reply
unfoldable pub text : Reply → List ℕ
text reply = flat_map token_text (tokens_of reply)

-- a call that appends this text, or fails and leaves what was there before
abbrev pub Writes : Result ⊤ AllocError → List ℕ → List ℕ → List ℕ → Type 0
Writes (Ok _) old new written = new ≡ old ++ written
Writes (Err _) old new written = take (length old) new ≡ old
