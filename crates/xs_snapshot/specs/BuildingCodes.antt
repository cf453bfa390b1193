-- Codes of what was read so far, by which a proof distinguishes its values.
use Rattle.std.specs.Prelude.{Option, refl}
use Rattle.std.specs.Coded.{Coded, code_by, coded×, coded_list, coded_option, coded_ℕ}
use Rattle.xs_group.specs.GroupState.{GroupState}
use Rattle.xs_group.specs.Indexes.{coded_state}
use Rattle.xs_keys.specs.Event.{Bytes}
use Rattle.xs_keys.specs.Content.{KeyState, Content}
use Rattle.xs_keys.specs.Codes.{coded_key, coded_content}
use Rattle.xs_snapshot.specs.Building.{KeySoFar, Building}

abbrev pub coded_named_group : Coded (Bytes × GroupState)
coded_named_group = coded× (coded_list coded_ℕ) coded_state

abbrev pub coded_key_so_far : Coded KeySoFar
coded_key_so_far =
    code_by ((Bytes × KeyState) × Option (Bytes × GroupState))
    (coded× (coded× (coded_list coded_ℕ) coded_key) (coded_option coded_named_group)) (λ k. (k.key, k.group))
    (λ p. record { key = p.0; group = p.1 }) (λ _. refl)

abbrev pub coded_building : Coded Building
coded_building =
    code_by (Content × Option KeySoFar) (coded× coded_content (coded_option coded_key_so_far))
    (λ b. (b.content, b.key)) (λ p. record { content = p.0; key = p.1 }) (λ _. refl)
