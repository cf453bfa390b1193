-- The items of a trace.
use Rattle.std.specs.Prelude.{List, [], ◌∷◌, ◌++◌}
use Rattle.xs_trace.specs.declared.link.Link.{Link}
use Rattle.xs_trace.specs.declared.link.Link.TheVariants.{First, Next}

-- those before the last, and the last
abbrev pub items_of : {T : Type 0} → Link T (List T) → List T
items_of First = []
items_of (Next before item) = before.value ++ item.value ∷ []
