-- Inspections of a content, by examples: the replies to XINFO, EXISTS, TYPE and DBSIZE, as a real Redis 7.0 gives them.
-- If that replies null, the lag is this server's own here (docs/COMMANDS.md).
use Rattle.std.specs.Prelude.{ℕ, ◌+◌, List, [], ◌∷◌, ◌++◌, codes}
use Rattle.xs_resp.specs.declared.fault.Fault.TheVariants.{MissingKey, NoGroup}
use Rattle.xs_resp.specs.declared.reply.Simple.TheVariants.{Stream, Nothing}
use Rattle.xs_keys.specs.Terms.{Reply, Simple, Error, Int, NullBulk}
use Rattle.xs_keys.specs.ReplyParts.{array}
use Rattle.xs_keys.specs.Event.{Bytes}
use Rattle.xs_keys.specs.PlayedLines.{PlayedLine, IsPlayed, at, ok, name, id, entry, stream}

-- a stream of three entries, of which the second is deleted; a group before them, one after them, and one between them
-- with a consumer that was given nothing
abbrev pub before : List PlayedLine
before =
    at 1 (codes "XADD s 1-0 f v") (id 1 0) ∷
    at 1 (codes "XADD s 2-0 f v") (id 2 0) ∷
    at 1 (codes "XADD s 3-0 f v") (id 3 0) ∷
    at 1 (codes "XGROUP CREATE s a 0") ok ∷
    at 1 (codes "XGROUP CREATE s h 9-0") ok ∷
    at 1 (codes "XGROUP CREATE s m 1-0") ok ∷
    at 5 (codes "XGROUP CREATECONSUMER s m c") (Int 1) ∷
    at 6 (codes "XDEL s 2-0") (Int 1) ∷
    []

-- b reads both entries that are left, one after the other
abbrev pub both_read : List PlayedLine
both_read =
    at 7 (codes "XREADGROUP GROUP a b COUNT 1 STREAMS s >") (array (stream (codes "s") (entry 1 0 ∷ []) ∷ [])) ∷
    at 9 (codes "XREADGROUP GROUP a b COUNT 1 STREAMS s >") (array (stream (codes "s") (entry 3 0 ∷ []) ∷ [])) ∷
    []

-- the part about the size of a stream
abbrev pub size : ℕ → ℕ → List Reply
size entries nodes =
    name (codes "length") ∷ Int entries
    ∷ name (codes "radix-tree-keys") ∷ Int nodes
    ∷ name (codes "radix-tree-nodes") ∷ Int (nodes + 1) ∷ []

-- the part about its past
abbrev pub past : Reply → Reply → ℕ → Reply → List Reply
past top deleted added first =
    name (codes "last-generated-id") ∷ top
    ∷ name (codes "max-deleted-entry-id") ∷ deleted
    ∷ name (codes "entries-added") ∷ Int added
    ∷ name (codes "recorded-first-entry-id") ∷ first ∷ []

-- the part about its groups and its ends
abbrev pub ends : ℕ → Reply → Reply → List Reply
ends groups first last =
    name (codes "groups") ∷ Int groups
    ∷ name (codes "first-entry") ∷ first
    ∷ name (codes "last-entry") ∷ last ∷ []

-- the part about the progress of a group
abbrev pub progress : Reply → Reply → ℕ → List Reply
progress cursor read lag =
    name (codes "last-delivered-id") ∷ cursor
    ∷ name (codes "entries-read") ∷ read
    ∷ name (codes "lag") ∷ Int lag ∷ []

-- a group, with its numbers of consumers and of pending entries
abbrev pub group : Bytes → ℕ → ℕ → Reply → Reply → ℕ → Reply
group named consumers pending cursor read lag =
    array (name (codes "name") ∷ name named
    ∷ name (codes "consumers") ∷ Int consumers
    ∷ name (codes "pending") ∷ Int pending ∷ progress cursor read lag)

-- a consumer, with its number of pending entries
abbrev pub consumer : Bytes → ℕ → ℕ → Reply
consumer named pending idle =
    array (name (codes "name") ∷ name named
    ∷ name (codes "pending") ∷ Int pending
    ∷ name (codes "idle") ∷ Int idle ∷ [])

-- a group with its pending rows and its consumers
abbrev pub whole_group : Bytes → Reply → Reply → ℕ → ℕ → List Reply → List Reply → Reply
whole_group named cursor read lag pending rows consumers =
    array ((name (codes "name") ∷ name named ∷ progress cursor read lag)
    ++ (name (codes "pel-count") ∷ Int pending
    ∷ name (codes "pending") ∷ array rows
    ∷ name (codes "consumers") ∷ array consumers ∷ []))

-- a consumer with its pending rows
abbrev pub whole_consumer : Bytes → ℕ → ℕ → List Reply → Reply
whole_consumer named seen pending rows =
    array (name (codes "name") ∷ name named
    ∷ name (codes "seen-time") ∷ Int seen
    ∷ name (codes "pel-count") ∷ Int pending
    ∷ name (codes "pending") ∷ array rows ∷ [])

-- the two groups that read nothing
abbrev pub idle_groups : List Reply
idle_groups =
    whole_group (codes "h") (id 9 0) NullBulk 0 0 [] []
    ∷ whole_group (codes "m") (id 1 0) NullBulk 1 0 [] (whole_consumer (codes "c") 5 0 [] ∷ []) ∷ []

pub record Inspections : Type 0 where
  -- a stream without entries
  pub an_empty_stream : IsPlayed (
      at 1 (codes "XINFO STREAM s") (Error MissingKey) ∷
      at 1 (codes "XGROUP CREATE s g 0 MKSTREAM") ok ∷
      at 1 (codes "XINFO STREAM s")
      (array (size 0 0 ++ (past (id 0 0) (id 0 0) 0 (id 0 0) ++ ends 1 NullBulk NullBulk))) ∷
      [])
  -- a deleted entry
  pub a_deleted_entry : IsPlayed (before ++ (
      at 7 (codes "XINFO STREAM s")
      (array (size 2 1 ++ (past (id 3 0) (id 2 0) 3 (id 1 0) ++ ends 3 (entry 1 0) (entry 3 0)))) ∷
      []))
  -- groups before, after and between the entries
  pub groups : IsPlayed (before ++ (
      at 7 (codes "XINFO GROUPS s")
      (array (group (codes "a") 0 0 (id 0 0) NullBulk 2 ∷ group (codes "h") 0 0 (id 9 0) NullBulk 0
      ∷ group (codes "m") 1 0 (id 1 0) NullBulk 1 ∷ [])) ∷
      at 7 (codes "XINFO GROUPS t") (Error MissingKey) ∷
      []))
  -- a group that has read one of three entries, of which none was deleted
  pub a_group_that_has_read_a_part : IsPlayed (
      at 1 (codes "XADD s 1-0 f v") (id 1 0) ∷
      at 1 (codes "XADD s 2-0 f v") (id 2 0) ∷
      at 1 (codes "XADD s 3-0 f v") (id 3 0) ∷
      at 1 (codes "XGROUP CREATE s a 0") ok ∷
      at 2 (codes "XREADGROUP GROUP a b COUNT 1 STREAMS s >") (array (stream (codes "s") (entry 1 0 ∷ []) ∷ [])) ∷
      at 3 (codes "XINFO GROUPS s") (array (group (codes "a") 1 1 (id 1 0) (Int 1) 2 ∷ [])) ∷
      [])
  -- a group that has read
  pub a_group_that_has_read : IsPlayed (before ++ (both_read ++ (
      at 9 (codes "XINFO GROUPS s")
      (array (group (codes "a") 1 2 (id 3 0) (Int 3) 0 ∷ group (codes "h") 0 0 (id 9 0) NullBulk 0
      ∷ group (codes "m") 1 0 (id 1 0) NullBulk 1 ∷ [])) ∷
      [])))
  -- consumers with and without pending entries
  pub consumers : IsPlayed (before ++ (both_read ++ (
      at 34 (codes "XINFO CONSUMERS s a") (array (consumer (codes "b") 2 25 ∷ [])) ∷
      at 34 (codes "XINFO CONSUMERS s m") (array (consumer (codes "c") 0 29 ∷ [])) ∷
      at 34 (codes "XINFO CONSUMERS s h") (array []) ∷
      at 34 (codes "XINFO CONSUMERS s x") (Error NoGroup) ∷
      at 34 (codes "XINFO CONSUMERS x x") (Error MissingKey) ∷
      [])))
  -- a stream with one entry of two
  pub in_full_with_a_limit : IsPlayed (before ++ (
      at 7 (codes "XINFO STREAM s FULL COUNT 1")
      (array (size 2 1 ++ (past (id 3 0) (id 2 0) 3 (id 1 0)
      ++ (name (codes "entries") ∷ array (entry 1 0 ∷ [])
      ∷ name (codes "groups") ∷ array (whole_group (codes "a") (id 0 0) NullBulk 2 0 [] [] ∷ idle_groups) ∷ [])))) ∷
      []))
  -- all entries, and all pending rows
  pub in_full : IsPlayed (before ++ (both_read ++ (
      at 11 (codes "XINFO STREAM s FULL")
      (array (size 2 1 ++ (past (id 3 0) (id 2 0) 3 (id 1 0)
      ++ (name (codes "entries") ∷ array (entry 1 0 ∷ entry 3 0 ∷ [])
      ∷ name (codes "groups") ∷ array (whole_group (codes "a") (id 3 0) (Int 3) 0 2
      (array (id 1 0 ∷ name (codes "b") ∷ Int 7 ∷ Int 1 ∷ [])
      ∷ array (id 3 0 ∷ name (codes "b") ∷ Int 9 ∷ Int 1 ∷ []) ∷ [])
      (whole_consumer (codes "b") 9 2
      (array (id 1 0 ∷ Int 7 ∷ Int 1 ∷ []) ∷ array (id 3 0 ∷ Int 9 ∷ Int 1 ∷ []) ∷ []) ∷ [])
      ∷ idle_groups) ∷ [])))) ∷
      [])))
  -- which keys exist, and their types
  pub keys : IsPlayed (
      at 1 (codes "XADD s 1-0 f v") (id 1 0) ∷
      at 1 (codes "XADD t 1-0 f v") (id 1 0) ∷
      at 1 (codes "EXISTS s t u s s") (Int 4) ∷
      at 1 (codes "TYPE s") (Simple Stream) ∷
      at 1 (codes "TYPE u") (Simple Nothing) ∷
      at 1 (codes "DBSIZE") (Int 2) ∷
      [])
