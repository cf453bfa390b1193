-- Ids in words, and the ids next to one. (Redis Streams, "Entry IDs".)
use Rattle.std.specs.Prelude.{ℕ, ◌+◌, ◌-◌, ◌==◌, List, length, take, drop, nat_lt, nat_le, position}
use Rattle.std.specs.Prelude.{Option, Some, None, option_and_then, if◌then◌else◌}
use Rattle.std.specs.Option.{option_map}
use Rattle.xs_bytes.specs.Number.{number_of}
use Rattle.xs_stream.specs.declared.id.Id.{Id}
use Rattle.xs_stream.specs.Id.{greatest_number}

-- the least id above
abbrev pub next_id : Id → Option Id
next_id id =
    if nat_lt id.seq greatest_number then Some (record { ms = id.ms; seq = id.seq + 1 })
    else (if nat_lt id.ms greatest_number then Some (record { ms = id.ms + 1; seq = 0 }) else None)

-- the greatest id below
abbrev pub previous_id : Id → Option Id
previous_id id =
    if nat_lt 0 id.seq then Some (record { ms = id.ms; seq = id.seq - 1 })
    else (if nat_lt 0 id.ms then Some (record { ms = id.ms - 1; seq = greatest_number }) else None)

-- one to twenty digits, with a value below 2^64
abbrev pub id_number : List ℕ → Option ℕ
id_number text = if nat_le (length text) 20 then number_of text else None

-- the id of two numbers, if there are both
abbrev pub id_of_parts : Option ℕ → Option ℕ → Option Id
id_of_parts ms seq = option_and_then (λ m. option_map (λ s. record { ms = m; seq = s }) seq) ms

-- the numbers on both sides of a dash, or one number without a dash
abbrev pub parse_around : Option ℕ → List ℕ → ℕ → Option Id
parse_around None text missing = id_of_parts (id_number text) (Some missing)
parse_around (Some dash) text missing = id_of_parts (id_number (take dash text)) (id_number (drop (dash + 1) text))

-- `ms-seq`, or `ms` with the sequence that is then missing
abbrev pub parse_id : List ℕ → ℕ → Option Id
parse_id text missing = parse_around (position (λ byte. byte == 45) text) text missing
