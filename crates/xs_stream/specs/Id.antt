-- Entry ids: their order, their text, and the id that an added entry gets. (Redis Streams, "Entry IDs"; XADD.)
use Rattle.std.specs.Prelude.{ℕ, ◌+◌, ◌==◌, Bool, List, ◌∷◌, ◌++◌, decimal, nat_lt, Result, Ok, Err, if◌then◌else◌}
use Rattle.std.specs.List.{list_any}
use Rattle.std.specs.Ordering.{nat_cmp, ordering_then, is_lt, is_eq}
use Rattle.std.specs.declared.cmp.Ordering.{Ordering}
use Rattle.xs_stream.specs.declared.id.Id.{Id}
use Rattle.xs_stream.specs.declared.add.AddId.{AddId}
use Rattle.xs_stream.specs.declared.add.AddId.TheVariants.{Auto, AutoSeq, Exact}
use Rattle.xs_stream.specs.declared.add.AddError.{AddError}
use Rattle.xs_stream.specs.declared.add.AddError.TheVariants.{Small, Exhausted}

-- by milliseconds, then by sequence
abbrev pub id_cmp : Id → Id → Ordering
id_cmp a b = ordering_then (nat_cmp a.ms b.ms) (nat_cmp a.seq b.seq)

abbrev pub is_below : Id → Id → Bool
is_below a b = is_lt (id_cmp a b)

abbrev pub is_same_id : Id → Id → Bool
is_same_id a b = is_eq (id_cmp a b)

-- the id is one of these
abbrev pub has_id : List Id → Id → Bool
has_id ids id = list_any (is_same_id id) ids

-- the greatest number that an id has
abbrev pub greatest_number : ℕ
greatest_number = 18446744073709551615

abbrev pub zero_id : Id
zero_id = record { ms = 0; seq = 0 }

abbrev pub greatest_id : Id
greatest_id = record { ms = greatest_number; seq = greatest_number }

-- `ms-seq`
abbrev pub id_text : Id → List ℕ
id_text id = decimal id.ms ++ 45 ∷ decimal id.seq

-- the successor of an id that isn't the greatest
abbrev pub successor : Id → Id
successor id =
    if nat_lt id.seq greatest_number
    then record { ms = id.ms; seq = id.seq + 1 }
    else record { ms = id.ms + 1; seq = 0 }

-- the id of an addition, if the top isn't the greatest id
abbrev pub id_of_addition_above : ℕ → Id → AddId → Result Id AddError
id_of_addition_above now top Auto = Ok (if nat_lt top.ms now then record { ms = now; seq = 0 } else successor top)
id_of_addition_above now top (AutoSeq ms) =
    if ms == top.ms
    then (if nat_lt top.seq greatest_number then Ok (record { ms = ms; seq = top.seq + 1 }) else Err Small)
    else (if nat_lt top.ms ms then Ok (record { ms = ms; seq = 0 }) else Err Small)
id_of_addition_above now top (Exact id) = if is_below top id then Ok id else Err Small

-- the id that an addition at this moment gets in a stream with this top
abbrev pub id_of_addition : ℕ → Id → AddId → Result Id AddError
id_of_addition now top id = if is_same_id top greatest_id then Err Exhausted else id_of_addition_above now top id
