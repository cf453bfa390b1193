-- The two indexes still have the same pairs.
use Rattle.xs_group.proofs.Terms.{◌≡◌, ℕ, Bool, true, false, not, ◌&&◌, ◌||◌, List, [], Some, None, is_some, Result, Ok}
use Rattle.xs_group.proofs.Terms.{Err, OnErr, sym, ap, ◌∙◌, refl, UpdatesBy, BTreeSet, nat_cmp, slice_cmp}
use Rattle.xs_group.proofs.Terms.{nat_list_cmp_total, has_key, get-insert_by, Id, id_cmp, is_same_id, is_same_id-eq}
use Rattle.xs_group.proofs.Terms.{is_same_id-symm, RowState, Rows, Consumers, is_same_name, with_name, has_name, rows_of}
use Rattle.xs_group.proofs.Terms.{PendingList, ConsumerIndex, consumers_of, owner_at, seen_at, has_pending_id, is_owner, indexed_row}
use Rattle.xs_group.proofs.Terms.{IsAgreed, cond, get, insert, None, Owner, with_seen}
use Rattle.xs_group.proofs.Terms.{arith}
use Rattle.xs_group.proofs.ByConsumer.{Index, is_same_name-eq, is_same_name-symm}
use Rattle.xs_group.proofs.Views.{RowMap, get-consumers_of, same_consumers, consumers-same, get-rows_of}

-- ---- a consumer more

pub agreed-joined : (rows : List (Id × RowState)) (m n : Index) (name : List ℕ) (o : Owner) → IsAgreed rows m.entries
    → is_some (owner_at m.entries name) ≡ false → o.ids.keys ≡ [] → UpdatesBy (slice_cmp nat_cmp) (slice_cmp nat_cmp name) m n (Some o) → IsAgreed rows n.entries
agreed-joined rows m n name o agreed none nothing u q x = grind (arith, u.0 q, is_same_name-eq name q, agreed q x)

-- the moments of consumers after one is inserted again
pub get-put : (consumers : Consumers) (name : List ℕ) (now : ℕ) (put : Bool) (q : List ℕ) → get (cond put (insert consumers name now) consumers) q ≡ cond (is_same_name q name && put) (Some now) (get consumers q)
get-put consumers name now true q = grind (arith, get-insert_by nat_list_cmp_total consumers name now q)
get-put consumers name now false q = grind arith

pub get-with_name : (consumers : Consumers) (name : List ℕ) (now : ℕ) (given : Bool) (q : List ℕ)
    → get (with_name consumers name now given) q ≡ cond (is_same_name q name && (given || not (has_name consumers name))) (Some now) (get consumers q)
get-with_name consumers name now given q = get-put consumers name now (given || not (has_name consumers name)) q

pub has_name-with_name : (consumers : Consumers) (name : List ℕ) (now : ℕ) (given : Bool) (q : List ℕ) → has_name (with_name consumers name now given) q ≡ (is_same_name q name || has_name consumers q)
has_name-with_name consumers name now given q = grind (arith, get-with_name consumers name now given q, is_same_name-eq q name)

pub consumers-joined : (m n : Index) (name : List ℕ) (o : Owner) → is_some (owner_at m.entries name) ≡ false → UpdatesBy (slice_cmp nat_cmp) (slice_cmp nat_cmp name) m n (Some o)
    → consumers_of n.entries ≡ with_name (consumers_of m.entries) name o.seen false
consumers-joined m n name o none u = same_consumers _ _ (λ q. grind (
  arith,
  get-consumers_of n.entries q,
  get-consumers_of m.entries q,
  get-consumers_of m.entries name,
  get-with_name (consumers_of m.entries) name o.seen false q,
  u.0 q,
  is_same_name-symm name q,
))

-- a consumer gets another moment
module _ (m n : Index) (name : List ℕ) (o : Owner) (seen : ℕ) (e : owner_at m.entries name ≡ Some o)
    (u : UpdatesBy (slice_cmp nat_cmp) (slice_cmp nat_cmp name) m n (Some (record { seen = seen; ids = o.ids }))) where
  found : (q : List ℕ) → is_same_name name q ≡ true → owner_at m.entries q ≡ Some o
  found q t = ap (λ k. owner_at m.entries k) (sym (is_same_name-eq name q t)) ∙ e

  pub agreed-seen : (rows : List (Id × RowState)) → IsAgreed rows m.entries → IsAgreed rows n.entries
  agreed-seen rows agreed q x = grind (arith, u.0 q, found q, agreed q x)

  pub consumers-seen : consumers_of n.entries ≡ with_seen (consumers_of m.entries) name seen
  consumers-seen = same_consumers _ _ (λ q. grind (
    arith,
    get-consumers_of n.entries q,
    get-consumers_of m.entries q,
    get-consumers_of m.entries name,
    get-put (consumers_of m.entries) name seen (has_name (consumers_of m.entries) name) q,
    u.0 q,
    found q,
    is_same_name-symm name q,
  ))

-- a consumer that isn't in the group gets none
pub unseen : (consumers : Consumers) (name : List ℕ) (seen : ℕ) → get consumers name ≡ None → consumers ≡ with_seen consumers name seen
unseen consumers name seen none = rw none refl

-- a consumer that is in the group already
pub name-again : (consumers : Consumers) (name : List ℕ) (now : ℕ) → has_name consumers name ≡ true → with_name consumers name now false ≡ consumers
name-again consumers name now there = rw there refl

-- ---- a row less

pub agreed-taken : (m n : RowMap) (a b : ConsumerIndex) (id : Id) (row : RowState) → IsAgreed m.entries a → indexed_row m.entries id ≡ Some row
    → ((q : List ℕ) → (x : Id) → has_pending_id b q x ≡ (has_pending_id a q x && not (is_same_name q row.consumer && is_same_id x id)))
    → UpdatesBy id_cmp (id_cmp id) m n None → IsAgreed n.entries b
agreed-taken m n a b id row agreed found h u q x = h q x ∙ by (is_same_id id x) refl where
  by : (t : Bool) → is_same_id id x ≡ t → (has_pending_id a q x && not (is_same_name q row.consumer && is_same_id x id)) ≡ is_owner (indexed_row n.entries x) q
  by true t =
      grind (arith, agreed q x, u.0 x, is_same_id-eq id x t, is_same_id-symm id x, is_same_name-symm row.consumer q)
  by false t = grind (arith, agreed q x, u.2 x t, is_same_id-symm id x)

-- ---- what callers know of a row

pub none-from_free : (rows : List (Id × RowState)) (id : Id) → has_key (rows_of rows) id ≡ false → indexed_row rows id ≡ None
none-from_free rows id e = grind (arith, get-rows_of rows id)

pub held-again : (held : PendingList) (name : List ℕ) (now : ℕ) → has_name held.consumers name ≡ true → held ≡ record { consumers = with_name held.consumers name now false; rows = held.rows }
held-again held name now there = ap (λ consumers. record { consumers = consumers; rows = held.rows }) (sym (name-again held.consumers name now there))

pub held-by : (a b : Consumers) (p q : Rows) → a ≡ b → p ≡ q → ◌≡◌ {A = PendingList} (record { consumers = a; rows = p }) (record { consumers = b; rows = q })
held-by a b p q e f = λ i. record { consumers = e i; rows = f i }

-- the consumers and the rows that are left are the same
pub refused-as : {T E : Type 0} (r : Result T E) (a b : ConsumerIndex) (rows : Rows) (held : PendingList) → ((q : List ℕ) → seen_at a q ≡ seen_at b q)
    → ◌≡◌ {A = PendingList} (record { consumers = consumers_of b; rows = rows }) held → OnErr r (◌≡◌ {A = PendingList} (record { consumers = consumers_of a; rows = rows }) held)
refused-as (Ok x) a b rows held same is = tt
refused-as (Err e) a b rows held same is = held-by (consumers_of a) (consumers_of b) rows rows (consumers-same a b same) (λ i. rows) ∙ is
