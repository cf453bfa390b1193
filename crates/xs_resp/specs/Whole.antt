-- Which tokens are complete items.
use Rattle.std.specs.Prelude.{ℕ, ◌+◌, zero, suc, List, [], ◌∷◌}
use Rattle.xs_resp.specs.Token.{Token, Array}

-- how many of the items that follow a token are its own
abbrev pub own_items : Token → ℕ
own_items (Array n) = n
own_items other = 0

-- these tokens are this many items, each of them complete
unfoldable pub AreItems : ℕ → List Token → Type 0
AreItems zero [] = Unit {0}
AreItems zero (t ∷ ts) = ⊥
AreItems (suc n) [] = ⊥
AreItems (suc n) (t ∷ ts) = AreItems (own_items t + n) ts
