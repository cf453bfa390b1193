-- What a start finds in a folder, by examples. (Which files it reads is this server's own rule.)
use Rattle.std.specs.Prelude.{◌≡◌, ℕ, List, [], ◌∷◌, length, map, codes, Option, Some, None}
use Rattle.xs_bytes.specs.SortedMap.{empty, insert}
use Rattle.xs_stream.specs.declared.id.Id.{Id}
use Rattle.xs_stream.specs.declared.add.AddId.TheVariants.{Exact}
use Rattle.xs_stream.specs.Examples.{at}
use Rattle.xs_command.specs.ExamplesStreams.{adds, field}
use Rattle.xs_keys.specs.Event.{Event}
use Rattle.xs_replay.specs.After.{ServerState, new_server}
use Rattle.xs_replay.specs.Folder.{Folder, recovered, left_by, events_up_to, StandsFor, HasServed, put}

-- XADD k ID f v at a moment
abbrev pub adding : ℕ → Id → Event
adding now id = (now, adds None (Exact id))

-- the key k has these entries, the last of which is the top, and the last event was at this moment
abbrev pub with_entries : Id → List Id → ℕ → ServerState
with_entries top ids moment =
    record {
      content = insert empty (codes "k") (record {
        stream = record {
          top = top;
          entries = map (λ id. (id, field (codes "f") (codes "v") ∷ [])) ids;
          added = length ids;
          deleted = at 0 0;
        };
        groups = empty;
      });
      moment = Some moment;
    }

-- one event in the first log, two in the second, none in the third, one in the fourth, whose moment is earlier
abbrev pub served : ℕ → List Event
served =
    put 1 (adding 5 (at 1 0) ∷ []) (
    put 2 (adding 6 (at 2 0) ∷ adding 8 (at 3 0) ∷ []) (
    put 4 (adding 7 (at 4 0) ∷ []) (λ n. [])))

abbrev pub after_one : ServerState
after_one = with_entries (at 1 0) (at 1 0 ∷ []) 5

-- after two logs, and after three
abbrev pub after_two : ServerState
after_two = with_entries (at 3 0) (at 1 0 ∷ at 2 0 ∷ at 3 0 ∷ []) 8

abbrev pub after_four : ServerState
after_four = with_entries (at 4 0) (at 1 0 ∷ at 2 0 ∷ at 3 0 ∷ at 4 0 ∷ []) 7

abbrev pub no_snapshot : ℕ → Option ServerState
no_snapshot n = None

abbrev pub no_log : ℕ → Option (List Event)
no_log n = None

-- the fourth log
abbrev pub the_last_log : ℕ → Option (List Event)
the_last_log = put 4 (Some (served 4)) no_log

-- the third and the fourth
abbrev pub two_logs : ℕ → Option (List Event)
two_logs = put 3 (Some (served 3)) the_last_log

abbrev pub all_logs : ℕ → Option (List Event)
all_logs n = Some (served n)

abbrev pub folder : (ℕ → Option ServerState) → (ℕ → Option (List Event)) → Folder
folder snapshots logs = record { snapshots = snapshots; logs = logs }

pub record Starts : Type 0 where
  pub the_first_log : recovered (folder no_snapshot (put 1 (Some []) no_log)) 1 ≡ Some new_server
  pub all_logs_without_a_snapshot : recovered (folder no_snapshot all_logs) 4 ≡ Some after_four
  pub up_to_an_earlier_log : recovered (folder no_snapshot all_logs) 2 ≡ Some after_two
  pub a_snapshot_and_the_logs_from_its_number_on :
      recovered (folder (put 3 (Some after_two) no_snapshot) two_logs) 4 ≡ Some after_four
  pub the_log_of_its_number_is_read :
      recovered (folder (put 2 (Some after_one) no_snapshot) all_logs) 2 ≡ Some after_two
  pub the_greatest_snapshot :
      recovered (folder (put 2 (Some after_four) (put 3 (Some after_two) no_snapshot)) two_logs) 4 ≡ Some after_four
  pub no_log_below_is_read_again :
      recovered (folder (put 4 (Some after_two) no_snapshot) all_logs) 4 ≡ Some after_four
  pub the_moment_of_a_snapshot :
      recovered (folder (put 3 (Some after_two) no_snapshot) two_logs) 3 ≡ Some after_two
  pub no_snapshot_above_the_last_log :
      recovered (folder (put 3 (Some after_two) no_snapshot) all_logs) 1 ≡ Some after_one
  pub nothing_if_a_log_is_missing : recovered (folder (put 3 (Some after_two) no_snapshot) the_last_log) 4 ≡ None
  pub nothing_if_the_first_log_is_missing : recovered (folder no_snapshot two_logs) 4 ≡ None
  pub nothing_of_no_files : recovered (folder no_snapshot no_log) 1 ≡ None

pub record Left : Type 0 where
  pub by_no_log : left_by served 0 ≡ new_server
  pub by_two_logs : left_by served 2 ≡ after_two
  pub by_a_log_without_events : left_by served 3 ≡ after_two
  pub by_all : left_by served 4 ≡ after_four
  pub the_events :
      events_up_to served 4 ≡ adding 5 (at 1 0) ∷ adding 6 (at 2 0) ∷ adding 8 (at 3 0) ∷ adding 7 (at 4 0) ∷ []

pub record Standing : Type 0 where
  pub the_first_log_needs_no_snapshot : StandsFor served 0 None
  pub the_second_needs_one : StandsFor served 1 None → ⊥
  pub a_snapshot : StandsFor served 2 (Some after_two)
  pub not_named_one_log_too_low : StandsFor served 1 (Some after_two) → ⊥
  pub not_named_one_log_too_high : StandsFor served 2 (Some after_one) → ⊥
  pub not_without_its_moment : StandsFor served 2 (Some (record after_two { moment = None })) → ⊥
  pub all_logs_are_served : HasServed (folder no_snapshot all_logs) served 4
  pub those_from_the_snapshot_on : HasServed (folder (put 3 (Some after_two) no_snapshot) two_logs) served 4
  pub not_if_a_log_is_missing : HasServed (folder no_snapshot two_logs) served 4 → ⊥
  pub not_if_the_snapshot_s_log_is_missing :
      HasServed (folder (put 3 (Some after_two) no_snapshot) the_last_log) served 4 → ⊥
