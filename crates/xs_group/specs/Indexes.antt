-- The consumers and the pending rows of a group, and how the two indexes of rows agree.
use Rattle.std.specs.Prelude.{◌≡◌, ℕ, Bool, true, false, List, map, Option, Some, None, refl}
use Rattle.std.specs.Coded.{Coded, code_by, coded×, coded_list, coded_ℕ}
use Rattle.std.specs.Map.{lookup}
use Rattle.std.specs.BTreeMap.{is_at}
use Rattle.std.specs.BTreeSet.{BTreeSet, contains}
use Rattle.std.specs.Ordering.{nat_cmp}
use Rattle.std.specs.Cmp.Lexicographic.{slice_cmp}
use Rattle.xs_bytes.specs.MapCode.{coded_map}
use Rattle.xs_bytes.specs.MapOf.{of_entries, from_entries}
use Rattle.xs_bytes.specs.SortedMap.{get, has_key}
use Rattle.xs_stream.specs.declared.id.Id.{Id}
use Rattle.xs_stream.specs.Id.{id_cmp, has_id}
use Rattle.xs_group.specs.declared.consumer_index.Owner.{Owner}
use Rattle.xs_group.specs.GroupState.{RowState, Rows, Consumers, GroupState, ids_total, is_same_name, has_name}

abbrev pub rows_of : List (Id × RowState) → Rows
rows_of entries = of_entries ids_total entries

pub record PendingList : Type 0 where
  pub consumers : Consumers
  pub rows : Rows

abbrev pub coded_id : Coded Id
coded_id =
    code_by (ℕ × ℕ) (coded× coded_ℕ coded_ℕ) (λ i. (i.ms, i.seq)) (λ p. record { ms = p.0; seq = p.1 }) (λ _. refl)

abbrev pub coded_row : Coded RowState
coded_row =
    code_by (List ℕ × (ℕ × ℕ)) (coded× (coded_list coded_ℕ) (coded× coded_ℕ coded_ℕ))
    (λ r. (r.consumer, (r.time, r.count)))
    (λ p. record { consumer = p.0; time = p.1.0; count = p.1.1 }) (λ _. refl)

abbrev pub coded_consumers : Coded Consumers
coded_consumers = coded_map (coded_list coded_ℕ) coded_ℕ

abbrev pub coded_rows : Coded Rows
coded_rows = coded_map coded_id coded_row

abbrev pub coded_pending_list : Coded PendingList
coded_pending_list =
    code_by (Consumers × Rows) (coded× coded_consumers coded_rows) (λ h. (h.consumers, h.rows))
    (λ p. record { consumers = p.0; rows = p.1 }) (λ _. refl)

abbrev pub coded_state : Coded GroupState
coded_state =
    code_by (Id × (Consumers × Rows)) (coded× coded_id (coded× coded_consumers coded_rows))
    (λ g. (g.cursor, (g.consumers, g.rows)))
    (λ p. record { cursor = p.0; consumers = p.1.0; rows = p.1.1 }) (λ _. refl)

-- the moment and the ids of each consumer
abbrev pub ConsumerIndex : Type 0
ConsumerIndex = List (List ℕ × Owner)

abbrev pub consumers_of : ConsumerIndex → Consumers
consumers_of owners = from_entries (map (λ e. (e.0, e.1.seen)) owners)

abbrev pub owner_at : ConsumerIndex → List ℕ → Option Owner
owner_at owners name = lookup (is_at (slice_cmp nat_cmp name)) owners

abbrev pub seen_of : Option Owner → Option ℕ
seen_of None = None
seen_of (Some owner) = Some owner.seen

abbrev pub ids_of_owner : Option Owner → Option (BTreeSet Id)
ids_of_owner None = None
ids_of_owner (Some owner) = Some owner.ids

abbrev pub seen_at : ConsumerIndex → List ℕ → Option ℕ
seen_at owners name = seen_of (owner_at owners name)

abbrev pub ids_at : ConsumerIndex → List ℕ → Option (BTreeSet Id)
ids_at owners name = ids_of_owner (owner_at owners name)

abbrev pub has_among : Option (BTreeSet Id) → Id → Bool
has_among None x = false
has_among (Some ids) x = contains id_cmp ids x

-- the index by consumer has the id with this name
abbrev pub has_pending_id : ConsumerIndex → List ℕ → Id → Bool
has_pending_id owners name x = has_among (ids_at owners name) x

abbrev pub is_owner : Option RowState → List ℕ → Bool
is_owner None name = false
is_owner (Some row) name = is_same_name row.consumer name

-- the index by id
abbrev pub indexed_row : List (Id × RowState) → Id → Option RowState
indexed_row rows x = lookup (is_at (id_cmp x)) rows

-- both indexes have the same pairs
abbrev pub IsAgreed : List (Id × RowState) → ConsumerIndex → Type 0
IsAgreed rows owners = (name : List ℕ) → (x : Id) → has_pending_id owners name x ≡ is_owner (indexed_row rows x) name

-- the consumer of each row is one of these
abbrev pub IsNamed : Consumers → Rows → Type 0
IsNamed consumers rows =
    (name : List ℕ) → (x : Id) → is_owner (get rows x) name ≡ true → has_name consumers name ≡ true

-- none of these ids is pending
abbrev pub AreFree : Rows → List Id → Type 0
AreFree rows ids = (x : Id) → has_id ids x ≡ true → has_key rows x ≡ false
