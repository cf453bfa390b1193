-- The pieces of a content, and the content of pieces, by examples. (What the pieces are, and their order, is this
-- server's own.)
use Rattle.std.specs.Prelude.{◌≡◌, ℕ, List, [], ◌∷◌, codes}
use Rattle.xs_bytes.specs.SortedMap.{empty, insert, insert_by}
use Rattle.xs_stream.specs.declared.field.Field.{Field}
use Rattle.xs_stream.specs.Examples.{at}
use Rattle.xs_group.specs.GroupState.{RowState, GroupState, ids_total}
use Rattle.xs_command.specs.ExamplesStreams.{field}
use Rattle.xs_keys.specs.Content.{KeyState, Content}
use Rattle.xs_replay.specs.Pieces.{Piece, of_key, of_entry, of_group, of_consumer, of_row, pieces_of, content_of}

-- the two fields of an entry, of one name
abbrev pub fields : List Field
fields = field (codes "f") (codes "v") ∷ field (codes "f") (codes "w") ∷ []

-- pending with this consumer since 60, and delivered twice
abbrev pub row_of : List ℕ → RowState
row_of consumer = record { consumer = consumer; time = 60; count = 2 }

-- a group whose cursor is 3-0, with two consumers, each of which has an entry
abbrev pub workers : GroupState
workers =
    record {
      cursor = at 3 0;
      consumers = insert (insert empty (codes "d") 50) (codes "c") 40;
      rows =
          insert_by ids_total (insert_by ids_total empty (at 2 7) (row_of (codes "c")))
          (at 1 0) (row_of (codes "d"));
    }

-- a group to which nothing was delivered
abbrev pub auditors : GroupState
auditors = record { cursor = at 0 0; consumers = empty; rows = empty }

-- five entries were added, of which 1-0 and 3-0 are left; 4-0 was the last one, and 2-7 was deleted
abbrev pub jobs : KeyState
jobs =
    record {
      stream = record { top = at 4 0; entries = (at 1 0, fields) ∷ (at 3 0, []) ∷ []; added = 5; deleted = at 2 7 };
      groups = insert (insert empty (codes "w") workers) (codes "a") auditors;
    }

-- a stream whose only entry was deleted
abbrev pub spent : KeyState
spent = record { stream = record { top = at 9 9; entries = []; added = 1; deleted = at 9 9 }; groups = empty }

abbrev pub both_keys : Content
both_keys = insert (insert empty (codes "s") spent) (codes "j") jobs

abbrev pub pieces_of_jobs : List Piece
pieces_of_jobs =
    of_key (codes "j") (at 4 0) 5 (at 2 7)
    ∷ of_entry (at 1 0) fields
    ∷ of_entry (at 3 0) []
    ∷ of_group (codes "a") (at 0 0)
    ∷ of_group (codes "w") (at 3 0)
    ∷ of_consumer (codes "c") 40
    ∷ of_consumer (codes "d") 50
    ∷ of_row (at 1 0) (row_of (codes "d"))
    ∷ of_row (at 2 7) (row_of (codes "c"))
    ∷ of_key (codes "s") (at 9 9) 1 (at 9 9)
    ∷ []

pub record Written : Type 0 where
  pub nothing : pieces_of empty ≡ []
  pub two_keys : pieces_of both_keys ≡ pieces_of_jobs
  pub whichever_came_first : pieces_of (insert (insert empty (codes "j") jobs) (codes "s") spent) ≡ pieces_of_jobs

pub record Said : Type 0 where
  pub nothing : content_of [] ≡ empty
  pub two_keys : content_of pieces_of_jobs ≡ both_keys
  pub a_key_alone :
      content_of (of_key (codes "s") (at 9 9) 1 (at 9 9) ∷ []) ≡ insert empty (codes "s") spent
  pub entries_of_the_key_before :
      content_of (
      of_key (codes "j") (at 0 0) 0 (at 0 0) ∷ of_key (codes "s") (at 1 0) 1 (at 0 0) ∷ of_entry (at 1 0) fields ∷ [])
      ≡ insert (insert empty (codes "s") (record {
        stream = record { top = at 1 0; entries = (at 1 0, fields) ∷ []; added = 1; deleted = at 0 0 };
        groups = empty;
      }))
      (codes "j")
      (record { stream = record { top = at 0 0; entries = []; added = 0; deleted = at 0 0 }; groups = empty })
  pub consumers_of_the_group_before :
      content_of (
      of_key (codes "s") (at 9 9) 1 (at 9 9) ∷ of_group (codes "a") (at 0 0) ∷ of_group (codes "w") (at 3 0)
      ∷ of_consumer (codes "c") 40 ∷ of_consumer (codes "d") 50 ∷ of_row (at 1 0) (row_of (codes "d"))
      ∷ of_row (at 2 7) (row_of (codes "c")) ∷ [])
      ≡ insert empty (codes "s") (record {
        stream = record { top = at 9 9; entries = []; added = 1; deleted = at 9 9 };
        groups = insert (insert empty (codes "w") workers) (codes "a") auditors;
      })
