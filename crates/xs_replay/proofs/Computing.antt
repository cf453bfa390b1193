-- What examples compute: maps by names, and numbers in decimal.
use Rattle.std.specs.Fmt.{digits}
use Rattle.xs_bytes.specs.SortedMap.{empty, get, insert_by, remove, change}

-- the definitions that examples compute
unfoldable pub example_functions : Type 0
unfolding digits empty get insert_by remove change
example_functions = Unit {0}
