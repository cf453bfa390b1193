-- Replies as tokens in order.
use Rattle.std.specs.Prelude.{List, [], ◌∷◌, length}
use Rattle.std.specs.List.{flat_map}
use Rattle.xs_resp.specs.declared.reply.Reply.{Reply}
use Rattle.xs_resp.specs.declared.reply.Reply.TheVariants.{Simple, Error, ErrorText, Int, Bulk, NullBulk, Array, Opening, NullArray}
use Rattle.xs_resp.specs.Token as token
use Rattle.xs_resp.specs.Items.{Items}

-- the tokens of a reply; of an array its header, and then the tokens of its items
abbrev pub tokens_of : Reply → List token.Token
tokens_of (Simple s) = token.Simple s ∷ []
tokens_of (Error f) = token.Error f ∷ []
tokens_of (ErrorText bytes) = token.ErrorText bytes ∷ []
tokens_of (Int n) = token.Int n ∷ []
tokens_of (Bulk bytes) = token.Bulk bytes ∷ []
tokens_of NullBulk = token.NullBulk ∷ []
tokens_of (Array items) = token.Array items.count ∷ items.tokens
tokens_of (Opening n) = token.Array n ∷ []
tokens_of NullArray = token.NullArray ∷ []

-- the items of an array of these replies
abbrev pub items_of : List Reply → Items
items_of replies = record { count = length replies; tokens = flat_map tokens_of replies }
