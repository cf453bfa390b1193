-- The texts of replies, by examples of the RESP protocol specification (version 2), each as a real Redis 7.0 sends it.
-- After their first word the texts of errors are this server's own.
use Rattle.std.specs.Prelude.{◌≡◌, ℕ, ◌==◌, List, [], ◌∷◌, codes, if◌then◌else◌}
use Rattle.std.specs.List.{flat_map}
use Rattle.xs_resp.specs.declared.fault.Fault.TheVariants.{UnknownCommand, Arity, Syntax, BadId, NotInteger, ZeroId}
use Rattle.xs_resp.specs.declared.fault.Fault.TheVariants.{SmallId, Exhausted, NoKey, MissingKey, Busy, NoGroup}
use Rattle.xs_resp.specs.declared.fault.Fault.TheVariants.{Unsupported, Memory, Protocol}
use Rattle.xs_resp.specs.declared.reply.Simple.TheVariants.{Okay, Pong, Stream, Nothing, Reset, Queued}
use Rattle.xs_resp.specs.declared.reply.Reply.{Reply}
use Rattle.xs_resp.specs.declared.reply.Reply.TheVariants.{Simple, Error, ErrorText, Int, Bulk, NullBulk, Array, Opening, NullArray}
use Rattle.xs_resp.specs.ReplyItems.{items_of}
use Rattle.xs_resp.specs.ReplyText.{text}
use Rattle.xs_resp.specs.Token as token
use Rattle.xs_resp.specs.Whole.{AreItems}

-- the bytes of a text in which `^` is the end of a line, CR LF
abbrev pub wire : List ℕ → List ℕ
wire text = flat_map (λ byte. if byte == 94 then 13 ∷ 10 ∷ [] else byte ∷ []) text

abbrev pub array : List Reply → Reply
array replies = Array (items_of replies)

pub record Replies : Type 0 where
  pub okay : text (Simple Okay) ≡ wire (codes "+OK^")
  pub pong : text (Simple Pong) ≡ wire (codes "+PONG^")
  pub stream : text (Simple Stream) ≡ wire (codes "+stream^")
  pub nothing : text (Simple Nothing) ≡ wire (codes "+none^")
  pub reset : text (Simple Reset) ≡ wire (codes "+RESET^")
  pub queued : text (Simple Queued) ≡ wire (codes "+QUEUED^")
  pub an_error : text (Error Syntax) ≡ wire (codes "-ERR syntax error^")
  pub an_error_with_a_text :
      text (ErrorText (codes "ERR unknown command 'GET'")) ≡ wire (codes "-ERR unknown command 'GET'^")
  pub zero : text (Int 0) ≡ wire (codes ":0^")
  pub a_number : text (Int 1000) ≡ wire (codes ":1000^")
  pub the_greatest_number : text (Int 9223372036854775807) ≡ wire (codes ":9223372036854775807^")
  pub bulk : text (Bulk (codes "hello")) ≡ wire (codes "$5^hello^")
  pub long_bulk : text (Bulk (codes "hello world")) ≡ wire (codes "$11^hello world^")
  pub empty_bulk : text (Bulk []) ≡ wire (codes "$0^^")
  pub null_bulk : text NullBulk ≡ wire (codes "$-1^")
  pub null_array : text NullArray ≡ wire (codes "*-1^")
  pub opening : text (Opening 2) ≡ wire (codes "*2^")
  pub empty_array : text (array []) ≡ wire (codes "*0^")
  pub two_bulks : text (array (Bulk (codes "hello") ∷ Bulk (codes "world") ∷ [])) ≡ wire (codes "*2^$5^hello^$5^world^")
  pub three_numbers : text (array (Int 1 ∷ Int 2 ∷ Int 3 ∷ [])) ≡ wire (codes "*3^:1^:2^:3^")
  pub mixed : text (array (Int 1 ∷ Bulk (codes "hello") ∷ NullBulk ∷ Simple Okay ∷ NullArray ∷ Error Arity ∷ []))
      ≡ wire (codes "*6^:1^$5^hello^$-1^+OK^*-1^-ERR wrong number of arguments^")
  pub arrays_in_an_array : text (array (array (Int 1 ∷ Int 2 ∷ []) ∷ array [] ∷ array (array (Int 3 ∷ []) ∷ []) ∷ []))
      ≡ wire (codes "*3^*2^:1^:2^*0^*1^*1^:3^")

pub record FaultTexts : Type 0 where
  pub unknown_command : text (Error UnknownCommand) ≡ wire (codes "-ERR unknown command^")
  pub arity : text (Error Arity) ≡ wire (codes "-ERR wrong number of arguments^")
  pub syntax : text (Error Syntax) ≡ wire (codes "-ERR syntax error^")
  pub bad_id :
      text (Error BadId) ≡ wire (codes "-ERR Invalid stream ID specified as stream command argument^")
  pub not_integer : text (Error NotInteger) ≡ wire (codes "-ERR value is not an integer or out of range^")
  pub zero_id : text (Error ZeroId) ≡ wire (codes "-ERR The ID specified in XADD must be greater than 0-0^")
  pub small_id : text (Error SmallId)
      ≡ wire (codes "-ERR The ID specified in XADD is equal or smaller than the target stream top item^")
  pub exhausted : text (Error Exhausted)
      ≡ wire (codes "-ERR The stream has exhausted the last possible ID, unable to add more items^")
  pub no_key : text (Error NoKey) ≡ wire (codes "-ERR The XGROUP subcommand requires the key to exist^")
  pub missing_key : text (Error MissingKey) ≡ wire (codes "-ERR no such key^")
  pub busy : text (Error Busy) ≡ wire (codes "-BUSYGROUP Consumer Group name already exists^")
  pub no_group : text (Error NoGroup) ≡ wire (codes "-NOGROUP No such key or consumer group^")
  pub unsupported : text (Error Unsupported) ≡ wire (codes "-ERR not supported by this server^")
  pub memory : text (Error Memory) ≡ wire (codes "-OOM out of memory^")
  pub protocol : text (Error Protocol) ≡ wire (codes "-ERR Protocol error^")

-- Which tokens are complete items.
pub record Wholeness : Type 0 where
  pub none : AreItems 0 []
  pub an_array : AreItems 1 (token.Array 2 ∷ token.Int 1 ∷ token.Int 2 ∷ [])
  pub arrays_in_arrays : AreItems 2 (token.Array 1 ∷ token.Array 1 ∷ token.Int 1 ∷ token.NullArray ∷ [])
  pub three_of_none : AreItems 3 [] → ⊥
  pub one_too_many : AreItems 2 (token.Int 1 ∷ []) → ⊥
  pub one_too_few : AreItems 1 (token.Int 1 ∷ token.Int 2 ∷ []) → ⊥
  pub an_inner_one_too_many : AreItems 1 (token.Array 2 ∷ token.Int 1 ∷ []) → ⊥
