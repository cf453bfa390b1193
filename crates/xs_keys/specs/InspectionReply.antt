-- Questions about the content, which don't change it: XINFO, EXISTS, TYPE and DBSIZE. (Redis, their pages, "RESP2
-- Reply".)
use Rattle.std.specs.Prelude.{ℕ, ◌+◌, List, [], ◌∷◌, length, if◌then◌else◌}
use Rattle.xs_command.specs.declared.command.Inspection.{Inspection}
use Rattle.xs_command.specs.declared.command.Inspection.TheVariants.{Stream as OfStream, StreamInFull, Groups, Consumers}
use Rattle.xs_command.specs.declared.command.Inspection.TheVariants.{Existence, KeyType, KeyCount}
use Rattle.xs_resp.specs.declared.reply.Simple.TheVariants.{Stream, Nothing}
use Rattle.xs_keys.specs.Terms.{option_map_or, get, has_key, Reply, Simple, Error, Int, MissingKey, NoGroup}
use Rattle.xs_keys.specs.Content.{Content}
use Rattle.xs_keys.specs.Event.{Bytes}
use Rattle.xs_keys.specs.Inspecting.{stream_reply, groups_reply, consumers_reply, number_reply}
use Rattle.xs_keys.specs.InspectingInFull.{whole_stream_reply}

-- EXISTS: the number of these keys that exist; one that is named twice counts twice
abbrev pub existing : List Bytes → Content → ℕ
existing [] content = 0
existing (name ∷ names) content = (if has_key content name then 1 else 0) + existing names content

-- the reply to each
abbrev pub inspection_reply : Content → ℕ → Inspection → Reply
inspection_reply content now (OfStream name) = option_map_or stream_reply (get content name) (Error MissingKey)
inspection_reply content now (StreamInFull name limit) =
    option_map_or (whole_stream_reply now limit) (get content name) (Error MissingKey)
inspection_reply content now (Groups name) = option_map_or groups_reply (get content name) (Error MissingKey)
inspection_reply content now (Consumers name group) =
    option_map_or (λ key. option_map_or (consumers_reply now) (get key.groups group) (Error NoGroup)) (get content name)
    (Error MissingKey)
inspection_reply content now (Existence names) = number_reply (existing names content)
inspection_reply content now (KeyType name) = Simple (if has_key content name then Stream else Nothing)
inspection_reply content now KeyCount = Int (length content.entries)
