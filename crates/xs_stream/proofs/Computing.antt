-- What examples compute.
use Rattle.std.specs.Fmt.{digits}

-- the definitions that examples compute
unfoldable pub example_functions : Type 0
unfolding digits
example_functions = Unit {0}
