-- Rows that are inserted.
use Rattle.xs_group.proofs.Terms.{◌≡◌, ℕ, suc, zero, Bool, true, false, cond, not, List, [], ◌∷◌, take}
use Rattle.xs_group.proofs.Terms.{Some, refl, false≢true, nat_list_cmp_total, get, remove, change}
use Rattle.xs_group.proofs.Terms.{insert_by, get-insert_by, get-remove, Id, has_id}
use Rattle.xs_group.proofs.Terms.{RowState, Rows, Consumers, ids_total, has_name, with_name, with_seen, with_rows, unless_acked}
use Rattle.xs_group.proofs.Terms.{unless_owned, rows_of, indexed_row, ConsumerIndex, AreFree, IsAgreed, IsNamed}
use Rattle.xs_group.proofs.Terms.{PendingList, AreAgreedBut, arith, eqb, length, is_any, ap, insert, nat_tests, ◌||◌, ◌&&◌}
use Rattle.xs_group.proofs.ByConsumer.{is_same_name-eq, is_same_name-refl, is_same_name-symm}
use Rattle.xs_group.proofs.Views.{same_rows, same_consumers, get-rows_of}
use Rattle.xs_group.proofs.Agreeing.{has_name-with_name, get-with_name, get-put, none-from_free}
use Rattle.xs_group.proofs.RemovedRows.{get-changed, change-nothing}

pub get-with_rows : (ids : List Id) (row : RowState) (rows : Rows) (q : Id) → get (with_rows ids row rows) q ≡ cond (has_id ids q) (Some row) (get rows q)
get-with_rows [] row rows q = refl
get-with_rows (x ∷ xs) row rows q =
    grind (arith, get-with_rows xs row (insert_by ids_total rows x row) q, get-insert_by ids_total rows x row q)

-- ---- one id after the other

-- ---- all of them

pub rows-all : (m n : List (Id × RowState)) (ids : List Id) (row : RowState) → ((x : Id) → indexed_row n x ≡ cond (has_id ids x) (Some row) (indexed_row m x)) → rows_of n ≡ with_rows ids row (rows_of m)
rows-all m n ids row is = same_rows _ _ (λ q.
    grind (arith, get-rows_of n q, is q, get-rows_of m q, get-with_rows ids row (rows_of m) q))

pub agreed-all : (m n : List (Id × RowState)) (b : ConsumerIndex) (name : List ℕ) (ids : List Id) (row : RowState) → row.consumer ≡ name → AreFree (rows_of m) ids
    → AreAgreedBut m b name ids → ((x : Id) → indexed_row n x ≡ cond (has_id ids x) (Some row) (indexed_row m x)) → IsAgreed n b
agreed-all m n b name ids row whose free but is q x =
    grind (arith, but q x, is x, none-from_free m x, free x, is_same_name-symm q name)

-- rows that are unchanged
pub agreed-but : (m n : List (Id × RowState)) (b : ConsumerIndex) (name : List ℕ) (ids : List Id) → AreAgreedBut m b name ids
    → ((x : Id) → indexed_row n x ≡ indexed_row m x) → AreAgreedBut n b name ids
agreed-but m n b name ids but is q x = grind (arith, but q x, is x)

pub among-take : (ids : List Id) (i : ℕ) (q : Id) → has_id (take i ids) q ≡ true → has_id ids q ≡ true
among-take [] zero q e = e
among-take [] (suc i) q e = e
among-take (x ∷ xs) zero q e = absurd (false≢true e)
among-take (x ∷ xs) (suc i) q e = grind (arith, among-take xs i q)

-- rows that are inserted at free ids, and removed again
pub out-again : (ids : List Id) (row : RowState) (rows : Rows) → AreFree rows ids → change (unless_acked ids) (with_rows ids row rows) ≡ rows
out-again ids row rows free = same_rows _ _ (λ q.
    grind (arith, get-changed (unless_acked ids) (with_rows ids row rows) q, get-with_rows ids row rows q, free q))

-- ---- a consumer that is inserted and removed again

pub out-consumers : (consumers : Consumers) (name : List ℕ) (now : ℕ) (given : Bool) → has_name consumers name ≡ false → remove (with_name consumers name now given) name ≡ consumers
out-consumers consumers name now given none = same_consumers _ _ (λ q. grind (
  arith,
  get-remove nat_list_cmp_total (with_name consumers name now given) name q,
  get-with_name consumers name now given q,
  is_same_name-eq q name,
))

-- a consumer that was there gets its moment back
pub seen-again : (consumers : Consumers) (name : List ℕ) (now seen : ℕ) (given : Bool) → get consumers name ≡ Some seen → with_seen (with_name consumers name now given) name seen ≡ consumers
seen-again consumers name now seen given was = same_consumers _ _ (λ q. grind (
  arith,
  get-put (with_name consumers name now given) name seen (has_name (with_name consumers name now given) name) q,
  has_name-with_name consumers name now given name,
  is_same_name-refl name,
  get-with_name consumers name now given q,
  is_same_name-eq q name,
))

-- a consumer that is in the group is given something
pub given-now : (consumers : Consumers) (name : List ℕ) (now : ℕ) → has_name consumers name ≡ true → with_seen consumers name now ≡ with_name consumers name now true
given-now consumers name now there = rw there refl

-- whether it is given something
pub given-any : (ids : List Id) (is_empty : Bool) → is_empty ≡ eqb (length ids) 0 → not is_empty ≡ is_any ids
given-any [] is_empty e = ap not e
given-any (x ∷ xs) is_empty e = grind (arith, nat_tests)

-- first inserted, then given something or nothing
pub given-then : (consumers : Consumers) (name : List ℕ) (now : ℕ) (given : Bool) → with_name (with_name consumers name now false) name now given ≡ with_name consumers name now given
given-then consumers name now given = same_consumers _ _ (λ q. grind (
  arith,
  get-with_name (with_name consumers name now false) name now given q,
  has_name-with_name consumers name now false name,
  is_same_name-refl name,
  get-with_name consumers name now false q,
  get-with_name consumers name now given q,
))

-- a consumer that isn't in the group has no rows
pub unowned-rows : (names : Consumers) (rows : Rows) (name : List ℕ) → IsNamed names rows → has_name names name ≡ false → change (unless_owned name) rows ≡ rows
unowned-rows names rows name named none =
    change-nothing (unless_owned name) rows (λ q. grind (arith, named name q))

-- without the consumer that was inserted, a group is as before
pub held-back : (held : PendingList) (name : List ℕ) (now : ℕ) (given : Bool) → change (unless_owned name) held.rows ≡ held.rows
    → true ≡ not (has_name held.consumers name)
    → ◌≡◌ {A = PendingList} (record { consumers = remove (with_name held.consumers name now given) name; rows = change (unless_owned name) held.rows }) held
held-back held name now given unowned new =
    let none : has_name held.consumers name ≡ false = grind arith in
    λ i. record { consumers = out-consumers held.consumers name now given none i; rows = unowned i }

pub name-there : (consumers : Consumers) (name : List ℕ) (now : ℕ) (given : Bool) → has_name (with_name consumers name now given) name ≡ true
name-there consumers name now given = grind (arith, has_name-with_name consumers name now given name, is_same_name-refl name)

pub was_there : (b : Bool) → false ≡ not b → b ≡ true
was_there b e = grind arith
