-- Lines of words at their moments, and the replies to them, one after the other from the empty keyspace.
use Rattle.std.specs.Prelude.{◌≡◌, ℕ, List, [], ◌∷◌, map, codes, decimal, Result, Ok, Err}
use Rattle.xs_bytes.specs.SortedMap.{empty}
use Rattle.xs_keys.specs.Terms.{Fault, Reply, Simple, Error, Int, Bulk, NullArray, Okay, Command}
use Rattle.xs_command.specs.Read.{command_of_words}
use Rattle.xs_command.specs.Examples.{line}
use Rattle.xs_keys.specs.Content.{Content}
use Rattle.xs_keys.specs.ContentAfter.{content_after}
use Rattle.xs_keys.specs.ReplyParts.{array, id_reply}
use Rattle.xs_keys.specs.Reply.{reply}
use Rattle.xs_keys.specs.Event.{Bytes}

-- a line of words at a moment, with its reply
pub record PlayedLine : Type 0 where
  pub now : ℕ
  pub words : Bytes
  pub answer : Reply

abbrev pub at : ℕ → Bytes → Reply → PlayedLine
at now words answer = record { now = now; words = words; answer = answer }

-- the reply to a reading of words, and the content after it
abbrev pub reply_and_content : Content → ℕ → Result Command Fault → Reply × Content
reply_and_content content now (Ok command) = (reply content now command, content_after content now command)
reply_and_content content now (Err fault) = (Error fault, content)

-- the replies from a content on
abbrev pub replies_to : Content → List PlayedLine → List Reply
replies_to content [] = []
replies_to content (x ∷ xs) =
    let one = reply_and_content content x.now (command_of_words (line x.words)) in one.0 ∷ replies_to one.1 xs

-- each line gets this reply
abbrev pub IsPlayed : List PlayedLine → Type 0
IsPlayed exchanges = replies_to empty exchanges ≡ map (λ x. x.answer) exchanges

-- ---- replies in short

abbrev pub ok : Reply
ok = Simple Okay

abbrev pub name : Bytes → Reply
name bytes = Bulk bytes

abbrev pub number : ℕ → Reply
number n = Bulk (decimal n)

abbrev pub id : ℕ → ℕ → Reply
id ms seq = id_reply (record { ms = ms; seq = seq })

-- an entry with the one field f of value v
abbrev pub entry : ℕ → ℕ → Reply
entry ms seq = array (id ms seq ∷ array (name (codes "f") ∷ name (codes "v") ∷ []) ∷ [])

-- an entry that is no longer in the stream
abbrev pub gone : ℕ → ℕ → Reply
gone ms seq = array (id ms seq ∷ NullArray ∷ [])

-- a stream with entries, in the reply to a read
abbrev pub stream : Bytes → List Reply → Reply
stream key entries = array (name key ∷ array entries ∷ [])

-- a pending entry
abbrev pub row : Reply → Bytes → ℕ → ℕ → Reply
row id consumer idle count = array (id ∷ name consumer ∷ Int idle ∷ Int count ∷ [])
