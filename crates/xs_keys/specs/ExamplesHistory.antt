-- Keys and groups by looking back over histories, by examples of the Redis pages (Redis Streams, "Consumer groups";
-- XADD, XDEL, XTRIM, DEL, XGROUP, XREADGROUP), as a real Redis 7.0 shows and delivers them after such lines.
use Rattle.std.specs.Prelude.{◌≡◌, ℕ, ◌++◌, Bool, true, false, List, [], ◌∷◌, codes, Option, Some, None}
use Rattle.std.specs.Prelude.{Result, Ok, Err}
use Rattle.std.specs.Option.{option_map}
use Rattle.xs_stream.specs.declared.id.Id.{Id}
use Rattle.xs_stream.specs.StreamContent.{ids_of}
use Rattle.xs_stream.specs.Examples.{at}
use Rattle.xs_group.specs.declared.claims.ClaimTime.TheVariants as time
use Rattle.xs_group.specs.declared.claims.ClaimRule.{ClaimRule}
use Rattle.xs_resp.specs.declared.fault.Fault.{Fault}
use Rattle.xs_keys.specs.Event.{History, event_command}
use Rattle.xs_command.specs.declared.command.Command.{Command}
use Rattle.xs_command.specs.Read.{command_of_words}
use Rattle.xs_command.specs.Examples.{line}
use Rattle.xs_command.specs.ExamplesStreams.{field}
use Rattle.xs_keys.specs.Life.{StreamEvent, key_life, added_in, top, present_entries, stream_of}
use Rattle.xs_keys.specs.GroupEvent.{delivered_ids, cursor}
use Rattle.xs_keys.specs.GroupAsk.{claim, auto_claim}
use Rattle.xs_keys.specs.GroupLife.{GroupLife, group_life, ids_delivered_by}
use Rattle.xs_keys.specs.Headline.{OfEachLifeIn}
use Rattle.xs_keys.specs.Step.{takes_memory}
use Rattle.xs_keys.specs.Life.{added_at}
use Rattle.xs_keys.specs.RepliesTell.{scan_at}

-- an event, if the words spell a command
abbrev pub event : ℕ → Result Command Fault → History
event now (Ok command) = (now, command) ∷ []
event now (Err fault) = []

-- the events of these lines, all at one moment; the newest first
abbrev pub events : ℕ → List (List ℕ) → History
events now [] = []
events now (words ∷ lines) = events now lines ++ event now (command_of_words (line words))

-- a function of the open life of the key s
abbrev pub of_key : {A : Type 0} → List (List ℕ) → (List StreamEvent → A) → Option A
of_key lines said = option_map said (key_life (events 5 lines) (codes "s"))

-- a function of the open life of its group g
abbrev pub of_group : {A : Type 0} → List (List ℕ) → (GroupLife → A) → Option A
of_group lines said = option_map said (group_life (events 5 lines) (codes "s") (codes "g"))

abbrev pub given_ids : List StreamEvent → List Id
given_ids life = ids_of (added_in life)

abbrev pub live_ids : List StreamEvent → List Id
live_ids life = ids_of (present_entries life)

abbrev pub ids_of_life : GroupLife → List Id
ids_of_life life = delivered_ids life.start life.events

abbrev pub cursor_of : GroupLife → Id
cursor_of life = cursor life.start life.events

abbrev pub starts_at : GroupLife → Id
starts_at life = life.start

-- three entries, and these lines after them
abbrev pub three_and : List (List ℕ) → List (List ℕ)
three_and lines = codes "XADD s 1-0 f v" ∷ codes "XADD s 2-0 g w h x" ∷ codes "XADD s 3-0 f v" ∷ lines

-- a group that starts after the first of the three, and these lines
abbrev pub group_and : List (List ℕ) → List (List ℕ)
group_and lines = three_and (codes "XGROUP CREATE s g 1" ∷ lines)

pub record Keys : Type 0 where
  pub given : of_key (three_and []) given_ids ≡ Some (at 1 0 ∷ at 2 0 ∷ at 3 0 ∷ [])
  pub with_all_fields :
      of_key (three_and (codes "XDEL s 1-0 3-0" ∷ [])) present_entries
      ≡ Some ((at 2 0, field (codes "g") (codes "w") ∷ field (codes "h") (codes "x") ∷ []) ∷ [])
  pub deleted_ones_were_given :
      of_key (three_and (codes "XDEL s 1-0 3-0" ∷ [])) given_ids ≡ Some (at 1 0 ∷ at 2 0 ∷ at 3 0 ∷ [])
  pub a_deletion_leaves_the_top : of_key (three_and (codes "XDEL s 3-0" ∷ [])) top ≡ Some (at 3 0)
  pub keeps_the_greatest : of_key (three_and (codes "XTRIM s MAXLEN 1" ∷ [])) live_ids ≡ Some (at 3 0 ∷ [])
  pub drops_those_below : of_key (three_and (codes "XTRIM s MINID 2" ∷ [])) live_ids ≡ Some (at 2 0 ∷ at 3 0 ∷ [])
  pub adds_first : of_key (three_and (codes "XADD s MAXLEN 2 4-0 f v" ∷ [])) live_ids ≡ Some (at 3 0 ∷ at 4 0 ∷ [])
  pub and_trims_then : of_key (three_and (codes "XADD s MAXLEN 0 4-0 f v" ∷ [])) live_ids ≡ Some []
  pub its_own_entry_was_given : of_key (three_and (codes "XADD s MAXLEN 0 4-0 f v" ∷ [])) top ≡ Some (at 4 0)
  pub a_refused_addition_trims_nothing :
      of_key (three_and (codes "XADD s MAXLEN 0 3-0 f v" ∷ [])) live_ids ≡ Some (at 1 0 ∷ at 2 0 ∷ at 3 0 ∷ [])
  pub an_addition_behind_a_trim :
      of_key (three_and (codes "XTRIM s MAXLEN 0" ∷ codes "XADD s * f v" ∷ [])) live_ids ≡ Some (at 5 0 ∷ [])
  pub the_stream :
      option_map (λ kept. kept.top) (of_key (three_and (codes "XDEL s 3-0" ∷ [])) stream_of) ≡ Some (at 3 0)
  pub another_key :
      of_key (three_and (codes "XADD t 9-0 f v" ∷ codes "XDEL t 1-0" ∷ [])) live_ids
      ≡ Some (at 1 0 ∷ at 2 0 ∷ at 3 0 ∷ [])
  pub another_trim : of_key (three_and (codes "XTRIM t MAXLEN 0" ∷ [])) live_ids ≡ Some (at 1 0 ∷ at 2 0 ∷ at 3 0 ∷ [])
  pub nothing_yet : of_key [] top ≡ None
  pub not_by_nomkstream : of_key (codes "XADD s NOMKSTREAM 1-0 f v" ∷ []) top ≡ None
  pub not_by_a_deletion : of_key (codes "XDEL s 1-0" ∷ codes "XTRIM s MAXLEN 0" ∷ []) top ≡ None
  pub by_a_group : of_key (codes "XGROUP CREATE s g $ MKSTREAM" ∷ []) top ≡ Some (at 0 0)
  pub not_by_another_s_group : of_key (codes "XGROUP CREATE t g $ MKSTREAM" ∷ []) top ≡ None
  pub not_without_mkstream : of_key (codes "XGROUP CREATE s g $" ∷ []) top ≡ None
  pub ends : of_key (three_and (codes "DEL t s" ∷ [])) top ≡ None
  pub another_ends : of_key (three_and (codes "DEL t" ∷ [])) top ≡ Some (at 3 0)
  pub begins_anew : of_key (three_and (codes "DEL s" ∷ codes "XADD s 1-5 f v" ∷ [])) given_ids ≡ Some (at 1 5 ∷ [])

pub record Groups : Type 0 where
  pub at_an_id : of_group (group_and []) starts_at ≡ Some (at 1 0)
  pub at_the_top :
      of_group (three_and (codes "XDEL s 3-0" ∷ codes "XGROUP CREATE s g $" ∷ [])) starts_at ≡ Some (at 3 0)
  pub of_a_new_key : of_group (codes "XGROUP CREATE s g $ MKSTREAM" ∷ []) starts_at ≡ Some (at 0 0)
  pub of_no_key : of_group (codes "XGROUP CREATE s g 0" ∷ []) starts_at ≡ None
  pub of_another_key : of_group (three_and (codes "XGROUP CREATE t g 0 MKSTREAM" ∷ [])) starts_at ≡ None
  pub another_group : of_group (three_and (codes "XGROUP CREATE s h 0" ∷ [])) starts_at ≡ None
  pub is_there_already : of_group (group_and (codes "XGROUP CREATE s g 3" ∷ [])) starts_at ≡ Some (at 1 0)
  pub is_destroyed : of_group (group_and (codes "XGROUP DESTROY s g" ∷ [])) starts_at ≡ None
  pub another_is_destroyed :
      of_group (group_and (codes "XGROUP DESTROY s h" ∷ codes "XGROUP DESTROY t g" ∷ [])) starts_at ≡ Some (at 1 0)
  pub goes_with_its_key : of_group (group_and (codes "DEL t s" ∷ codes "XADD s 1-0 f v" ∷ [])) starts_at ≡ None
  pub lives_that_are_over_too :
      OfEachLifeIn (events 5 (codes "XGROUP CREATE s g $ MKSTREAM" ∷ codes "DEL s" ∷ [])) (λ life. ⊥) → ⊥
  pub another_key_goes : of_group (group_and (codes "DEL t" ∷ [])) starts_at ≡ Some (at 1 0)
  pub begins_anew :
      of_group (group_and (codes "XREADGROUP GROUP g c STREAMS s >" ∷ codes "XGROUP DESTROY s g"
      ∷ codes "XGROUP CREATE s g 0" ∷ []))
      cursor_of ≡ Some (at 0 0)

-- what is delivered after these lines
abbrev pub delivered_in : List (List ℕ) → Option (List Id)
delivered_in lines = of_group (group_and lines) ids_of_life

pub record Deliveries : Type 0 where
  pub nothing_yet : delivered_in [] ≡ Some []
  pub all_past_the_start : delivered_in (codes "XREADGROUP GROUP g a STREAMS s >" ∷ []) ≡ Some (at 2 0 ∷ at 3 0 ∷ [])
  pub at_most_one : delivered_in (codes "XREADGROUP GROUP g a COUNT 1 STREAMS s >" ∷ []) ≡ Some (at 2 0 ∷ [])
  pub each_once :
      delivered_in (codes "XREADGROUP GROUP g a COUNT 1 STREAMS s >" ∷ codes "XREADGROUP GROUP g b NOACK STREAMS s >"
      ∷ codes "XREADGROUP GROUP g a STREAMS s >" ∷ []) ≡ Some (at 2 0 ∷ at 3 0 ∷ [])
  pub not_a_deleted_one :
      delivered_in (codes "XDEL s 2-0" ∷ codes "XREADGROUP GROUP g a STREAMS s >" ∷ []) ≡ Some (at 3 0 ∷ [])
  pub not_by_an_id : delivered_in (codes "XREADGROUP GROUP g a STREAMS s 0" ∷ []) ≡ Some []
  pub not_in_another_group :
      delivered_in (codes "XGROUP CREATE s h 0" ∷ codes "XREADGROUP GROUP h a STREAMS s >" ∷ []) ≡ Some []
  pub of_two_streams :
      delivered_in (codes "XGROUP CREATE t g 0 MKSTREAM" ∷ codes "XREADGROUP GROUP g a STREAMS t s > >" ∷ [])
      ≡ Some (at 2 0 ∷ at 3 0 ∷ [])
  pub of_another_stream :
      delivered_in (codes "XGROUP CREATE t g 0 MKSTREAM" ∷ codes "XREADGROUP GROUP g a STREAMS t s > 0" ∷ []) ≡ Some []
  pub refused_whole : delivered_in (codes "XREADGROUP GROUP g a STREAMS s u > >" ∷ []) ≡ Some []
  pub the_cursor :
      of_group (group_and (codes "XREADGROUP GROUP g a COUNT 1 STREAMS s >" ∷ [])) cursor_of ≡ Some (at 2 0)
  pub the_cursor_with_noack :
      of_group (group_and (codes "XREADGROUP GROUP g a NOACK STREAMS s >" ∷ [])) cursor_of ≡ Some (at 3 0)

-- what the event of some words delivers after those lines
abbrev pub new_of : History → List (List ℕ) → List ℕ → List ℕ → List Id
new_of [] lines key group = []
new_of (e ∷ es) lines key group = ids_delivered_by (events 5 lines) (event_command e) key group

abbrev pub delivers_behind : List (List ℕ) → List ℕ → List ℕ → List ℕ → List Id
delivers_behind lines words key group = new_of (event 5 (command_of_words (line words))) lines key group

pub record Events : Type 0 where
  pub delivers_all :
      delivers_behind (group_and []) (codes "XREADGROUP GROUP g a STREAMS s >") (codes "s") (codes "g")
      ≡ at 2 0 ∷ at 3 0 ∷ []
  pub delivers_one :
      delivers_behind (group_and []) (codes "XREADGROUP GROUP g a COUNT 1 NOACK STREAMS s >") (codes "s") (codes "g")
      ≡ at 2 0 ∷ []
  pub delivers_the_rest :
      delivers_behind (group_and (codes "XREADGROUP GROUP g a COUNT 1 STREAMS s >" ∷ []))
      (codes "XREADGROUP GROUP g b STREAMS s >") (codes "s") (codes "g") ≡ at 3 0 ∷ []
  pub none_by_an_id :
      delivers_behind (group_and []) (codes "XREADGROUP GROUP g a STREAMS s 0") (codes "s") (codes "g") ≡ []
  pub none_of_another_group :
      delivers_behind (group_and (codes "XGROUP CREATE s h 0" ∷ [])) (codes "XREADGROUP GROUP h a STREAMS s >")
      (codes "s") (codes "g") ≡ []
  pub none_of_another_key :
      delivers_behind (group_and []) (codes "XREADGROUP GROUP g a STREAMS s >") (codes "t") (codes "g") ≡ []
  pub none_where_it_is_refused :
      delivers_behind (group_and []) (codes "XREADGROUP GROUP g a STREAMS s t > >") (codes "s") (codes "g") ≡ []
  pub none_by_another_command : delivers_behind (group_and []) (codes "XRANGE s - +") (codes "s") (codes "g") ≡ []

-- whether the command of some words takes memory
abbrev pub memory_for : History → Option Bool
memory_for [] = None
memory_for (e ∷ es) = Some (takes_memory (event_command e))

abbrev pub needs : List ℕ → Option Bool
needs words = memory_for (event 5 (command_of_words (line words)))

-- these commands take no memory, and the others may (this server's own)
pub record Memory : Type 0 where
  pub ping : needs (codes "PING") ≡ Some false
  pub ping_with_a_message : needs (codes "PING a") ≡ Some true
  pub quit : needs (codes "QUIT") ≡ Some false
  pub xadd : needs (codes "XADD s * f v") ≡ Some true
  pub xdel : needs (codes "XDEL s 1") ≡ Some false
  pub xtrim : needs (codes "XTRIM s MAXLEN 1") ≡ Some false
  pub xlen : needs (codes "XLEN s") ≡ Some false
  pub xrange : needs (codes "XRANGE s - +") ≡ Some true
  pub xrevrange : needs (codes "XREVRANGE s + -") ≡ Some true
  pub xgroup_create : needs (codes "XGROUP CREATE s g 0") ≡ Some true
  pub xgroup_destroy : needs (codes "XGROUP DESTROY s g") ≡ Some false
  pub xgroup_createconsumer : needs (codes "XGROUP CREATECONSUMER s g a") ≡ Some true
  pub xgroup_delconsumer : needs (codes "XGROUP DELCONSUMER s g a") ≡ Some false
  pub xreadgroup : needs (codes "XREADGROUP GROUP g a STREAMS s >") ≡ Some true
  pub xack : needs (codes "XACK s g 1") ≡ Some false
  pub xpending : needs (codes "XPENDING s g") ≡ Some true
  pub xpending_rows : needs (codes "XPENDING s g - + 1") ≡ Some true
  pub xclaim : needs (codes "XCLAIM s g a 0 1") ≡ Some true
  pub xautoclaim : needs (codes "XAUTOCLAIM s g a 0 0") ≡ Some true
  pub del : needs (codes "DEL s") ≡ Some false

abbrev pub any_idle_time : ClaimRule
any_idle_time = record { min_idle = 0; when = time.Now; retry = None; just_id = false }

-- what replies report
pub record Reported : Type 0 where
  pub all_that_was_given :
      ids_of (added_at (events 5 (three_and (codes "XDEL s 2-0" ∷ []))) (codes "s")) ≡ at 1 0 ∷ at 2 0 ∷ at 3 0 ∷ []
  pub nothing_of_another_key : added_at (events 5 (three_and [])) (codes "t") ≡ []
  pub claimed :
      (scan_at (events 5 (group_and (codes "XREADGROUP GROUP g a STREAMS s >" ∷ []))) 9 (codes "s") (codes "g")
      (claim (codes "b") any_idle_time (at 3 0 ∷ at 1 0 ∷ at 2 0 ∷ []))).claim.take ≡ at 3 0 ∷ at 2 0 ∷ []
  pub claimed_if_in_the_stream :
      (scan_at (events 5 (group_and (codes "XREADGROUP GROUP g a STREAMS s >" ∷ codes "XDEL s 3-0" ∷ []))) 9
      (codes "s") (codes "g") (claim (codes "b") any_idle_time (at 3 0 ∷ at 2 0 ∷ []))).claim.take ≡ at 2 0 ∷ []
  pub claimed_by_a_scan :
      (scan_at (events 5 (group_and (codes "XREADGROUP GROUP g a STREAMS s >" ∷ []))) 9 (codes "s") (codes "g")
      (auto_claim (codes "b") any_idle_time (at 0 0) 1)).claim.take ≡ at 2 0 ∷ []
  pub goes_on_at_the_next :
      (scan_at (events 5 (group_and (codes "XREADGROUP GROUP g a STREAMS s >" ∷ []))) 9 (codes "s") (codes "g")
      (auto_claim (codes "b") any_idle_time (at 0 0) 1)).cursor ≡ at 3 0
  pub came_to_the_end :
      (scan_at (events 5 (group_and (codes "XREADGROUP GROUP g a STREAMS s >" ∷ []))) 9 (codes "s") (codes "g")
      (auto_claim (codes "b") any_idle_time (at 0 0) 2)).cursor ≡ at 0 0
  pub nothing_of_a_missing_group :
      (scan_at (events 5 (group_and [])) 9 (codes "s") (codes "h")
      (claim (codes "b") any_idle_time (at 2 0 ∷ []))).claim.take ≡ []
