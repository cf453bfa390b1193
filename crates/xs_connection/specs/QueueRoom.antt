-- How many requests may wait for EXEC.
use Rattle.std.specs.Prelude.{ℕ, ◌+◌, Bool, ◌&&◌, nat_lt, nat_le, List, length, sum_by}

-- the bytes of a request's words
abbrev pub size_of : List (List ℕ) → ℕ
size_of words = sum_by length words

abbrev pub size_of_all : List (List (List ℕ)) → ℕ
size_of_all queue = sum_by size_of queue

-- at most 1,024 requests wait, whose words have at most 1 MiB
abbrev pub has_room : List (List (List ℕ)) → List (List ℕ) → Bool
has_room queue words = nat_lt (length queue) 1024 && nat_le (size_of_all queue + size_of words) 1048576
