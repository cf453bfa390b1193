-- A consumer's own ids.
use Rattle.xs_group.proofs.Terms.{◌≡◌, ℕ, List, [], Some, None, BTreeSet, IsStrictlySortedBy, Id, id_cmp, RowState}
use Rattle.xs_group.proofs.Terms.{ids_of_consumer, rows_of, ConsumerIndex, ids_at, IsAgreed, arith}
use Rattle.xs_group.proofs.Views.{get-rows_of}
use Rattle.xs_group.proofs.Ordered.{ids-owned, sorted-none}

-- none, if the consumer isn't in the group
pub owned-none : (rows : List (Id × RowState)) (a : ConsumerIndex) (name : List ℕ) → IsAgreed rows a → None ≡ ids_at a name → [] ≡ ids_of_consumer name (rows_of rows).entries
owned-none rows a name agreed none =
    ids-owned [] (rows_of rows) name sorted-none (λ x. grind (arith, agreed name x, get-rows_of rows x))

-- those of the index
pub owned-some : (rows : List (Id × RowState)) (a : ConsumerIndex) (name : List ℕ) (ids : BTreeSet Id) → IsAgreed rows a → Some ids ≡ ids_at a name → IsStrictlySortedBy id_cmp ids.keys
    → ids.keys ≡ ids_of_consumer name (rows_of rows).entries
owned-some rows a name ids agreed some sorted =
    ids-owned ids.keys (rows_of rows) name sorted (λ x. grind (arith, agreed name x, get-rows_of rows x))
