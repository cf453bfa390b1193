-- Truth values.
use Rattle.std.proofs.Common.{◌≡◌, Bool, true, false, ◌&&◌, ◌||◌, refl}
use Rattle.std.proofs.lemmas.Bool.{and_parts}

pub first_of : (a b : Bool) → (a && b) ≡ true → a ≡ true
first_of a b e = (and_parts a b e).0

pub second_of : (a b : Bool) → (a && b) ≡ true → b ≡ true
second_of a b e = (and_parts a b e).1

pub none_or : (a b : Bool) → a ≡ false → (a || b) ≡ b
none_or a b e = rw e refl

pub or_none : (a b : Bool) → b ≡ false → (a || b) ≡ a
or_none true b e = refl
or_none false b e = e

pub or_false : (a : Bool) → (a || false) ≡ true → a ≡ true
or_false true e = refl
or_false false e = e
