-- What the replies to additions, reads and claims report, by examples: the replies that a real Redis 7.0 gives after
-- the same lines (XADD, XREADGROUP, XCLAIM, XAUTOCLAIM), and others that it doesn't give.
use Rattle.std.specs.Prelude.{ℕ, List, [], ◌∷◌, codes}
use Rattle.xs_keys.specs.Event.{History, event_moment, event_command}
use Rattle.xs_command.specs.Read.{command_of_words}
use Rattle.xs_command.specs.Examples.{line}
use Rattle.xs_keys.specs.Terms.{Reply, Error, Int, NoGroup, SmallId, NullArray, NullBulk}
use Rattle.xs_keys.specs.ReplyParts.{array}
use Rattle.xs_keys.specs.RepliesTell.{IsReported}
use Rattle.xs_keys.specs.PlayedLines.{name, id, entry, stream}
use Rattle.xs_keys.specs.ExamplesHistory.{event, events, group_and}

-- the reply to the event of some words reports what was delivered or taken, after those lines
abbrev pub tells : History → List (List ℕ) → Reply → Type 0
tells [] lines answer = ⊥
tells (e ∷ es) lines answer = IsReported (events 5 lines) (event_moment e) (event_command e) answer

abbrev pub Tells : List (List ℕ) → List ℕ → Reply → Type 0
Tells lines words answer = tells (event 9 (command_of_words (line words))) lines answer

-- 2-0 as it was added
abbrev pub second : Reply
second = array (id 2 0 ∷ array (name (codes "g") ∷ name (codes "w") ∷ name (codes "h") ∷ name (codes "x") ∷ []) ∷ [])

-- two groups, of the keys s and t
abbrev pub two_groups : List (List ℕ)
two_groups = group_and (codes "XADD t 7-0 f v" ∷ codes "XGROUP CREATE t g 0" ∷ [])

-- the consumer a has read 2-0 and 3-0
abbrev pub read_by_a : List (List ℕ)
read_by_a = group_and (codes "XREADGROUP GROUP g a STREAMS s >" ∷ [])

pub record ReportedAdditions : Type 0 where
  pub added : Tells (group_and []) (codes "XADD s 9-0 f v") (id 9 0)
  pub added_and_trimmed : Tells (group_and []) (codes "XADD s MAXLEN 0 9-0 f v") (id 9 0)
  pub makes_the_key : Tells (group_and []) (codes "XADD t 9-0 f v") (id 9 0)
  pub refused : Tells (group_and []) (codes "XADD s 3-0 f v") (Error SmallId)
  pub without_a_key : Tells (group_and []) (codes "XADD t NOMKSTREAM 9-0 f v") NullBulk

-- and 2-0 was deleted
abbrev pub with_a_deleted_one : List (List ℕ)
with_a_deleted_one = group_and (codes "XREADGROUP GROUP g a STREAMS s >" ∷ codes "XDEL s 2" ∷ [])

pub record ReportedReads : Type 0 where
  pub new :
      Tells (group_and []) (codes "XREADGROUP GROUP g a STREAMS s >")
      (array (stream (codes "s") (second ∷ entry 3 0 ∷ []) ∷ []))
  pub own : Tells (group_and []) (codes "XREADGROUP GROUP g a STREAMS s 0") (array (stream (codes "s") [] ∷ []))
  pub own_pending :
      Tells read_by_a (codes "XREADGROUP GROUP g a STREAMS s 0")
      (array (stream (codes "s") (second ∷ entry 3 0 ∷ []) ∷ []))
  pub not_none_of_its_own :
      Tells read_by_a (codes "XREADGROUP GROUP g a STREAMS s 0") (array (stream (codes "s") [] ∷ [])) → ⊥
  pub own_pending_past_an_id :
      Tells read_by_a (codes "XREADGROUP GROUP g a STREAMS s 2") (array (stream (codes "s") (entry 3 0 ∷ []) ∷ []))
  pub own_pending_with_a_deleted_one :
      Tells with_a_deleted_one (codes "XREADGROUP GROUP g a COUNT 1 STREAMS s 0")
      (array (stream (codes "s") (array (id 2 0 ∷ NullArray ∷ []) ∷ []) ∷ []))
  pub own_and_new :
      Tells two_groups (codes "XREADGROUP GROUP g a STREAMS t s 0 >")
      (array (stream (codes "t") [] ∷ stream (codes "s") (second ∷ entry 3 0 ∷ []) ∷ []))
  pub in_the_order_written :
      Tells two_groups (codes "XREADGROUP GROUP g a STREAMS t s > >")
      (array (stream (codes "t") (entry 7 0 ∷ []) ∷ stream (codes "s") (second ∷ entry 3 0 ∷ []) ∷ []))
  pub nothing_new : Tells read_by_a (codes "XREADGROUP GROUP g b STREAMS s >") NullArray
  pub not_nothing : Tells (group_and []) (codes "XREADGROUP GROUP g a STREAMS s >") NullArray → ⊥
  pub refused : Tells read_by_a (codes "XREADGROUP GROUP h b STREAMS s >") (Error NoGroup)
  pub not_nothing_without_the_group : Tells read_by_a (codes "XREADGROUP GROUP h b STREAMS s >") NullArray → ⊥

pub record ReportedClaims : Type 0 where
  pub claimed : Tells read_by_a (codes "XCLAIM s g b 0 2") (array (second ∷ []))
  pub claimed_ids : Tells read_by_a (codes "XCLAIM s g b 0 2 JUSTID") (array (id 2 0 ∷ []))
  pub not_none_of_them : Tells read_by_a (codes "XCLAIM s g b 0 2") (array []) → ⊥
  pub no_claim : Tells read_by_a (codes "XCLAIM s h b 0 2") (Error NoGroup)
  pub scanned :
      Tells read_by_a (codes "XAUTOCLAIM s g b 0 2-1") (array (id 0 0 ∷ array (entry 3 0 ∷ []) ∷ array [] ∷ []))
  pub scanned_one :
      Tells read_by_a (codes "XAUTOCLAIM s g b 0 0 COUNT 1")
      (array (id 3 0 ∷ array (second ∷ []) ∷ array [] ∷ []))
  pub scanned_without_a_deleted_one :
      Tells with_a_deleted_one (codes "XAUTOCLAIM s g b 0 0")
      (array (id 0 0 ∷ array (entry 3 0 ∷ []) ∷ array (id 2 0 ∷ []) ∷ []))
  pub not_nothing_scanned : Tells read_by_a (codes "XAUTOCLAIM s g b 0 2-1") NullArray → ⊥
  pub no_scan : Tells read_by_a (codes "XAUTOCLAIM s h b 0 0") (Error NoGroup)

pub record ReportedNumbers : Type 0 where
  pub acknowledged : Tells read_by_a (codes "XACK s g 2 3 7") (Int 2)
  pub not_all_that_were_named : Tells read_by_a (codes "XACK s g 2 3 7") (Int 3) → ⊥
  pub acknowledged_in_no_group : Tells read_by_a (codes "XACK s h 2") (Int 0)
  pub deleted : Tells read_by_a (codes "XDEL s 2 9") (Int 1)
  pub deleted_of_no_key : Tells read_by_a (codes "XDEL t 2") (Int 0)
  pub trimmed : Tells read_by_a (codes "XTRIM s MAXLEN 1") (Int 2)
  pub all_in_the_stream : Tells with_a_deleted_one (codes "XLEN s") (Int 2)
  pub all_that_are_pending :
      Tells with_a_deleted_one (codes "XPENDING s g")
      (array (Int 2 ∷ id 2 0 ∷ id 3 0 ∷ array (array (name (codes "a") ∷ name (codes "2") ∷ []) ∷ []) ∷ []))
  pub anything_else : Tells read_by_a (codes "PING") NullArray
