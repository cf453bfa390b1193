-- Pieces that are put one after the other.
use Rattle.std.proofs.Common.{◌≡◌, ℕ, ◌+◌, ◌<◌, ◌^◌, ◌-◌, false, List, [], ◌∷◌, ◌++◌, map, Option, sym, ap, ◌∙◌, subst, arith, append_assoc, append-nil, length-append}
use Rattle.std.specs.Prelude.{Result, Err}
use Rattle.std.specs.Result.{IsErrAnd}
use Rattle.std.proofs.lemmas.Result.{err_from_is_err_and}
use Rattle.std.specs.List.{AllByRecursion, flat_map}
use Rattle.xs_stream.specs.declared.id.Id.{Id}
use Rattle.xs_stream.specs.declared.field.Field.{Field}
use Rattle.xs_group.specs.declared.delivery.Touch.{Touch}
use Rattle.xs_group.specs.GroupState.{RowState}
use Rattle.xs_keys.specs.Content.{KeyState}
use Rattle.xs_keys.specs.KeysRoom.{KeyInMemory, key_state_of}
use Rattle.xs_replay.specs.Pieces.{Piece, of_entry, of_consumer, of_row, pieces_of_key}
use Rattle.xs_replay.specs.SnapshotWords.{values_of}
use Rattle.xs_log.specs.SnapshotPieces.{AreShort}
use Rattle.xs_log.specs.SnapshotWriting.{SnapshotWriting, HasPut}
use Rattle.xs_snapshot.specs.Restorable.{IsRestorableKey}
use Rattle.xs_snapshot.specs.Writing.{pieces_of_rows, pieces_of_consumers, pieces_of_entries, HasPutMore, CanBePut}

-- ---- what is put

-- nothing
none_put : (writer : SnapshotWriting) → writer.writing.broken ≡ false → HasPutMore writer writer []
none_put writer sound = record {
  puts = λ number closed moment pieces has. subst (HasPut number closed writer moment) (sym (append-nil pieces)) has;
  count_is = omega arith;
  sound = sound;
}

-- one piece
pub one_put : (old new : SnapshotWriting) (piece : Piece)
    → ((number : ℕ) (closed : List (List ℕ)) (moment : Option ℕ) (pieces : List Piece) → HasPut number closed old moment pieces → HasPut number closed new moment (pieces ++ piece ∷ []))
    → new.count ≡ old.count + 1 → new.writing.broken ≡ false → HasPutMore old new (piece ∷ [])
one_put old new piece puts count sound = record { puts = puts; count_is = count; sound = sound }

-- some, and others after them
pub both_put : (old between new : SnapshotWriting) (some more : List Piece) → HasPutMore old between some → HasPutMore between new more → HasPutMore old new (some ++ more)
both_put old between new some more first then = record {
  puts = λ number closed moment pieces has.
      subst (HasPut number closed new moment) (append_assoc pieces some more) (then.puts number closed moment (pieces ++ some) (first.puts number closed moment pieces has));
  count_is = omega (arith, first.count_is, then.count_is, length-append some more);
  sound = then.sound;
}

-- ---- what can be put

all-first : {X : Type 0} (P : X → Type 0) (xs ys : List X) → AllByRecursion P (xs ++ ys) → AllByRecursion P xs
all-first P [] ys all = tt
all-first P (x ∷ xs) ys all = (all.0, all-first P xs ys all.1)

all-rest : {X : Type 0} (P : X → Type 0) (xs ys : List X) → AllByRecursion P (xs ++ ys) → AllByRecursion P ys
all-rest P [] ys all = all
all-rest P (x ∷ xs) ys all = all-rest P xs ys all.1

-- the first of these
first_can : (before : ℕ) (first rest : List Piece) → CanBePut before (first ++ rest) → CanBePut before first
first_can before first rest can =
    record { short = all-first (λ piece. AreShort (values_of piece)) first rest can.short; few = omega (arith, can.few, length-append first rest) }

-- and the others, once those are put
pub rest_can : (old now : SnapshotWriting) (first rest : List Piece) → HasPutMore old now first → CanBePut old.count (first ++ rest) → CanBePut now.count rest
rest_can old now first rest has can =
    record { short = all-rest (λ piece. AreShort (values_of piece)) first rest can.short; few = omega (arith, can.few, has.count_is, length-append first rest) }

-- ---- halfway

-- of these pieces some are put, and these are ahead
pub record IsHalfway (old now : SnapshotWriting) (all ahead : List Piece) : Type 0 where
  pub done : List Piece
  pub all_are : done ++ ahead ≡ all
  pub has : HasPutMore old now done

pub at_start : (writer : SnapshotWriting) (all ahead : List Piece) → writer.writing.broken ≡ false → ahead ≡ all → IsHalfway writer writer all ahead
at_start writer all ahead sound is = record { done = []; all_are = is; has = none_put writer sound }

pub further : (old now new : SnapshotWriting) (all first ahead : List Piece) → IsHalfway old now all (first ++ ahead) → HasPutMore now new first → IsHalfway old new all ahead
further old now new all first ahead half more = record {
  done = half.done ++ first;
  all_are = append_assoc half.done first ahead ∙ half.all_are;
  has = both_put old now new half.done first half.has more;
}

-- the next ones can be put, if all can
pub next_can : (old now : SnapshotWriting) (all first ahead : List Piece) → IsHalfway old now all (first ++ ahead) → CanBePut old.count all → CanBePut now.count first
next_can old now all first ahead half can =
    first_can now.count first ahead (rest_can old now half.done (first ++ ahead) half.has (subst (CanBePut old.count) (sym half.all_are) can))

-- ---- one piece

-- one of the pieces that are ahead is put
pub one_further : (old now new : SnapshotWriting) (all : List Piece) (piece : Piece) (ahead here : List Piece) → IsHalfway old now all here → here ≡ piece ∷ ahead
    → ((number : ℕ) (closed : List (List ℕ)) (moment : Option ℕ) (pieces : List Piece) → HasPut number closed now moment pieces → HasPut number closed new moment (pieces ++ piece ∷ []))
    → new.count ≡ now.count + 1 → new.writing.broken ≡ false → IsHalfway old new all ahead
one_further old now new all piece ahead here half is puts count sound =
    further old now new all (piece ∷ []) ahead (subst (IsHalfway old now all) is half) (one_put now new piece puts count sound)

-- it is short, and can be counted
pub next_is_short : (old now : SnapshotWriting) (all : List Piece) (piece : Piece) (ahead here : List Piece) → IsHalfway old now all here → here ≡ piece ∷ ahead → CanBePut old.count all
    → AreShort (values_of piece) × (now.count < 2 ^ 64 - 1)
next_is_short old now all piece ahead here half is can =
    let one = next_can old now all (piece ∷ []) ahead (subst (IsHalfway old now all) is half) can in
    (one.short.0, omega (arith, one.few))

-- ---- at the exit of a `?`

-- an error is returned unchanged
pub given_on : {T U E : Type 0} (inner : Result T E) (outer : Result U E) (found fault : E) → inner ≡ Err found → IsErrAnd outer (λ e. e ≡ found) → outer ≡ Err fault → inner ≡ Err fault
given_on inner outer found fault was given is =
    let p = err_from_is_err_and outer given in
    let same : found ≡ fault = cc (p.1, p.2, is) in
    was ∙ ap (λ x. Err x) same

-- ---- what is next

-- the states of keys in memory
abbrev pub states_of : List (List ℕ × KeyInMemory) → List (List ℕ × KeyState)
states_of keys = map (λ e. (e.0, key_state_of e.1)) keys

abbrev pub pieces_of_keys : List (List ℕ × KeyInMemory) → List Piece
pieces_of_keys keys = flat_map pieces_of_key (states_of keys)

abbrev pub AreRestorableKeys : List (List ℕ × KeyInMemory) → Type 0
AreRestorableKeys keys = AllByRecursion (λ e. IsRestorableKey e.1) (states_of keys)

pub consumer_next : (here rest : List (List ℕ × ℕ)) (name text : List ℕ) (seen : ℕ) → here ≡ (name, seen) ∷ rest → text ≡ name → pieces_of_consumers here ≡ of_consumer text seen ∷ pieces_of_consumers rest
consumer_next here rest name text seen is same = cc

pub row_next : (here rest : List (Id × RowState)) (e : Id × RowState) (id : Id) (consumer : List ℕ) (touch : Touch) → here ≡ e ∷ rest → id ≡ e.0 → consumer ≡ e.1.consumer
    → touch ≡ record { time = e.1.time; count = e.1.count } → pieces_of_rows here ≡ of_row id (record { consumer = consumer; time = touch.time; count = touch.count }) ∷ pieces_of_rows rest
row_next here rest e id consumer touch is i c t =
    ap pieces_of_rows is ∙ (λ j. of_row (sym i j) (record { consumer = sym c j; time = (sym t j).time; count = (sym t j).count }) ∷ pieces_of_rows rest)

pub entry_next : (here rest : List (Id × List Field)) (e : Id × List Field) (id : Id) (fields : List Field) → here ≡ e ∷ rest → id ≡ e.0 → fields ≡ e.1 → pieces_of_entries here ≡ of_entry id fields ∷ pieces_of_entries rest
entry_next here rest e id fields is i f = cc
