-- Codes of the values as which contracts see a keyspace, by which a proof distinguishes them.
use Rattle.std.specs.Prelude.{ℕ, List, refl}
use Rattle.xs_bytes.specs.SortedMap.{NameMap}
use Rattle.xs_bytes.specs.MapCode.{coded_map}
use Rattle.std.specs.Coded.{Coded, code_by, coded×, coded_list, coded_ℕ}
use Rattle.xs_group.specs.GroupState.{GroupState}
use Rattle.xs_group.specs.Indexes.{coded_id, coded_state}
use Rattle.xs_stream.specs.declared.id.Id.{Id}
use Rattle.xs_stream.specs.declared.field.Field.{Field}
use Rattle.xs_stream.specs.StreamContent.{StreamState, StreamInMemory, state_of}
use Rattle.xs_keys.specs.Content.{KeyState, Content}
use Rattle.xs_keys.specs.KeysRoom.{KeyInMemory}

abbrev pub coded_field : Coded Field
coded_field =
    code_by (List ℕ × List ℕ) (coded× (coded_list coded_ℕ) (coded_list coded_ℕ)) (λ f. (f.name, f.value))
    (λ p. record { name = p.0; value = p.1 }) (λ _. refl)

abbrev pub coded_kept : Coded StreamState
coded_kept =
    code_by ((Id × List (Id × List Field)) × (ℕ × Id))
    (coded× (coded× coded_id (coded_list (coded× coded_id (coded_list coded_field)))) (coded× coded_ℕ coded_id))
    (λ k. ((k.top, k.entries), (k.added, k.deleted)))
    (λ p. record { top = p.0.0; entries = p.0.1; added = p.1.0; deleted = p.1.1 }) (λ _. refl)

abbrev pub coded_key : Coded KeyState
coded_key =
    code_by (StreamState × NameMap GroupState) (coded× coded_kept (coded_map (coded_list coded_ℕ) coded_state))
    (λ k. (k.stream, k.groups)) (λ p. record { stream = p.0; groups = p.1 }) (λ _. refl)

abbrev pub coded_content : Coded Content
coded_content = coded_map (coded_list coded_ℕ) coded_key

abbrev pub coded_stream : Coded StreamInMemory
coded_stream =
    code_by (StreamState × ℕ) (coded× coded_kept coded_ℕ) (λ s. (state_of s, s.room))
    (λ p. record { top = p.0.top; entries = p.0.entries; added = p.0.added; deleted = p.0.deleted; room = p.1 })
    (λ _. refl)

abbrev pub coded_key_in_memory : Coded KeyInMemory
coded_key_in_memory =
    code_by (StreamInMemory × NameMap GroupState) (coded× coded_stream (coded_map (coded_list coded_ℕ) coded_state))
    (λ k. (k.stream, k.groups)) (λ p. record { stream = p.0; groups = p.1 }) (λ _. refl)
