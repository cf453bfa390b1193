-- A block that is put in front of the next one.
use Rattle.std.proofs.Common.{◌≡◌, ◌<◌, Bool, true, false, cond, List, [], ◌∷◌, ◌++◌, length, Some, sym, ap, ◌∙◌, refl}
use Rattle.std.proofs.Common.{arith, append_assoc, subst, length-append}
use Rattle.std.specs.Map.{lookup, lookup_key, remove_entry, set_value, keys_of}
use Rattle.xs_stream.specs.declared.id.Id.{Id}
use Rattle.xs_stream.specs.declared.field.Field.{Field}
use Rattle.xs_stream.specs.Id.{is_below, is_same_id}
use Rattle.xs_stream.specs.StreamContent.{ids_of, AllAbove, AllUpTo}
use Rattle.xs_stream.specs.Blocks.{entries_of_blocks, AreFiled}
use Rattle.xs_stream.proofs.Order.{is_same_id-eq, is_same_id-refl, is_same_id-symm, below-not_same, below-not_back}
use Rattle.xs_stream.proofs.Order.{below-irrefl}
use Rattle.xs_stream.proofs.Order.{below-trans, below-not_below}
use Rattle.xs_stream.proofs.InOrder.{up_to-higher}

abbrev Entries : Type 0
Entries = List (Id × List Field)

abbrev Blocks : Type 0
Blocks = List (Id × List (Id × List Field))

abbrev pub with_next : Id × Entries → Blocks → Blocks
with_next b [] = b ∷ []
with_next b (c ∷ cs) = (c.0, b.1 ++ c.1) ∷ cs

-- the blocks after the one under an id is put in front of the next one
abbrev pub joined : Id → Blocks → Blocks
joined under [] = []
joined under (b ∷ bs) = cond (is_same_id under b.0) (with_next b bs) (b ∷ joined under bs)

-- ---- the same entries

listed-with_next : (b : Id × Entries) (bs : Blocks) → entries_of_blocks (with_next b bs) ≡ b.1 ++ entries_of_blocks bs
listed-with_next b [] = refl
listed-with_next b (c ∷ cs) = append_assoc b.1 c.1 (entries_of_blocks cs)

pub listed-joined : (under : Id) (bs : Blocks) → entries_of_blocks (joined under bs) ≡ entries_of_blocks bs
listed-joined under [] = refl
listed-joined under (b ∷ bs) = by (listed-joined under bs) (is_same_id under b.0) where
  by : entries_of_blocks (joined under bs) ≡ entries_of_blocks bs → (t : Bool) → entries_of_blocks (cond t (with_next b bs) (b ∷ joined under bs)) ≡ b.1 ++ entries_of_blocks bs
  by rest true = listed-with_next b bs
  by rest false = ap (λ es. b.1 ++ es) rest

-- ---- filed as before

up_to-append : (x : Id) (es fs : Entries) → AllUpTo x (ids_of es) → AllUpTo x (ids_of fs) → AllUpTo x (ids_of (es ++ fs))
up_to-append x [] fs up more = more
up_to-append x (e ∷ es) fs up more = (up.0, up_to-append x es fs up.1 more)

-- a block is filed below the next one
below-next : (b c : Id × Entries) (cs : Blocks) (newest : Entries) → AreFiled (b ∷ (c ∷ cs)) newest → is_below b.0 c.0 ≡ true
below-next b c cs newest filed = by c.1 filed.1.0.has_entries filed.1.0.up_to_id filed.0.later_above where
  by : (es : Entries) → 0 < length es → AllUpTo c.0 (ids_of es) → AllAbove b.0 (ids_of ((es ++ entries_of_blocks cs) ++ newest)) → is_below b.0 c.0 ≡ true
  by [] some up above = absurd (omega arith)
  by (e ∷ es) some up above = below-not_below b.0 e.0 c.0 above.0 up.0

filed-with_next : (b : Id × Entries) (bs : Blocks) (newest : Entries) → AreFiled (b ∷ bs) newest → AreFiled (with_next b bs) newest
filed-with_next b [] newest filed = filed
filed-with_next b (c ∷ cs) newest filed = (
  record {
    has_entries = omega (arith, length-append b.1 c.1, filed.0.has_entries);
    up_to_id = up_to-append c.0 b.1 c.1 (up_to-higher (ids_of b.1) b.0 c.0 filed.0.up_to_id (below-next b c cs newest filed)) filed.1.0.up_to_id;
    later_above = filed.1.0.later_above;
  },
  filed.1.1,
)

pub filed-joined : (under : Id) (bs : Blocks) (newest : Entries) → AreFiled bs newest → AreFiled (joined under bs) newest
filed-joined under [] newest filed = tt
filed-joined under (b ∷ bs) newest filed = by (filed-joined under bs newest filed.1) (is_same_id under b.0) where
  by : AreFiled (joined under bs) newest → (t : Bool) → AreFiled (cond t (with_next b bs) (b ∷ joined under bs)) newest
  by rest true = filed-with_next b bs newest filed
  by rest false = (
    record {
      has_entries = filed.0.has_entries;
      up_to_id = filed.0.up_to_id;
      later_above = subst (λ es. AllAbove b.0 (ids_of (es ++ newest))) (sym (listed-joined under bs)) filed.0.later_above;
    },
    rest,
  )

keys-with_next : (top : Id) (b : Id × Entries) (bs : Blocks) → AllUpTo top (keys_of (b ∷ bs)) → AllUpTo top (keys_of (with_next b bs))
keys-with_next top b [] up = up
keys-with_next top b (c ∷ cs) up = up.1

pub keys-joined : (top under : Id) (bs : Blocks) → AllUpTo top (keys_of bs) → AllUpTo top (keys_of (joined under bs))
keys-joined top under [] up = tt
keys-joined top under (b ∷ bs) up = by (keys-joined top under bs up.1) (is_same_id under b.0) where
  by : AllUpTo top (keys_of (joined under bs)) → (t : Bool) → AllUpTo top (keys_of (cond t (with_next b bs) (b ∷ joined under bs)))
  by rest true = keys-with_next top b bs up
  by rest false = (up.0, rest)

-- ---- what is written one after the other

above-lower : (x y : Id) (ids : List Id) → is_below x y ≡ true → AllAbove y ids → AllAbove x ids
above-lower x y [] h a = tt
above-lower x y (z ∷ zs) h a = (below-trans x y z h a.0, above-lower x y zs h a.1)

-- a block is filed below all later ones
above-keys : (b : Id × Entries) (bs : Blocks) (newest : Entries) → AreFiled (b ∷ bs) newest → AllAbove b.0 (keys_of bs)
above-keys b [] newest filed = tt
above-keys b (c ∷ cs) newest filed =
    let below = below-next b c cs newest filed in
    (below, above-lower b.0 c.0 (keys_of cs) below (above-keys c cs newest filed.1))

found-above : (x k : Id) (bs : Blocks) (es : Entries) → AllAbove x (keys_of bs) → lookup (is_same_id k) bs ≡ Some es → is_below x k ≡ true
found-above x k [] es a h = let no = h in cc
found-above x k (b ∷ bs) es a h = by (found-above x k bs es a.1) (is_same_id k b.0) refl where
  by : (lookup (is_same_id k) bs ≡ Some es → is_below x k ≡ true) → (t : Bool) → is_same_id k b.0 ≡ t → is_below x k ≡ true
  by rest true is = subst (λ y. is_below x y ≡ true) (sym (is_same_id-eq k b.0 is)) a.0
  by rest false is = rest (rw is at h)

key-above : (x k : Id) (test : Id → Bool) (bs : Blocks) → AllAbove x (keys_of bs) → lookup_key test bs ≡ Some k → is_below x k ≡ true
key-above x k test [] a h = let no = h in cc
key-above x k test (b ∷ bs) a h = by (key-above x k test bs a.1) (test b.0) refl where
  by : (lookup_key test bs ≡ Some k → is_below x k ≡ true) → (t : Bool) → test b.0 ≡ t → is_below x k ≡ true
  by rest true is =
      let first : Some b.0 ≡ Some k = rw is at h in
      let same : b.0 ≡ k = cc in
      subst (λ y. is_below x y ≡ true) same a.0
  by rest false is = rest (rw is at h)

front-joined : (under next : Id) (own es : Entries) (bs : Blocks) (newest : Entries) → AreFiled ((under, own) ∷ bs) newest → lookup_key (λ k. is_below under k) bs ≡ Some next
    → lookup (is_same_id next) ((under, []) ∷ bs) ≡ Some es → remove_entry (is_same_id under) (set_value (is_same_id next) ((under, []) ∷ bs) (own ++ es)) ≡ with_next (under, own) bs
front-joined under next own es [] newest filed after second = let no = after in cc
front-joined under next own es (c ∷ cs) newest filed after second =
    let below = below-next (under, own) c cs newest filed in
    let first : Some c.0 ≡ Some next = rw below at after in
    let key : next ≡ c.0 = cc in
    let other : is_same_id c.0 under ≡ false = is_same_id-symm c.0 under ∙ below-not_same under c.0 below in
    let own_next : Some c.1 ≡ Some es = rw (key, other, is_same_id-refl c.0) at second in
    let same : es ≡ c.1 = cc in
    rw (key, other, is_same_id-refl c.0, is_same_id-refl under, same) refl

-- the next one has the entries of both, and the first one is removed
pub joined-is : (under next : Id) (bs : Blocks) (newest own es : Entries) → AreFiled bs newest → lookup (is_same_id under) bs ≡ Some own → lookup_key (λ k. is_below under k) bs ≡ Some next
    → lookup (is_same_id next) (set_value (is_same_id under) bs []) ≡ Some es → remove_entry (is_same_id under) (set_value (is_same_id next) (set_value (is_same_id under) bs []) (own ++ es)) ≡ joined under bs
joined-is under next [] newest own es filed first after second = let no = first in cc
joined-is under next (b ∷ bs) newest own es filed first after second = by (joined-is under next bs newest own es filed.1) (is_same_id under b.0) refl where
  by : (lookup (is_same_id under) bs ≡ Some own → lookup_key (λ k. is_below under k) bs ≡ Some next → lookup (is_same_id next) (set_value (is_same_id under) bs []) ≡ Some es
      → remove_entry (is_same_id under) (set_value (is_same_id next) (set_value (is_same_id under) bs []) (own ++ es)) ≡ joined under bs)
      → (t : Bool) → is_same_id under b.0 ≡ t → remove_entry (is_same_id under) (set_value (is_same_id next) (set_value (is_same_id under) (b ∷ bs) []) (own ++ es)) ≡ joined under (b ∷ bs)
  by rest true is =
      let key : b.0 ≡ under = sym (is_same_id-eq under b.0 is) in
      let found : Some b.1 ≡ Some own = rw is at first in
      let same : b.1 ≡ own = cc in
      let pair : b ≡ (under, own) = λ i. (key i, same i) in
      let passed : is_below under b.0 ≡ false = rw key (below-irrefl under) in
      let own_second : lookup (is_same_id next) ((under, []) ∷ bs) ≡ Some es = rw (is, key) at second in
      rw is (subst (λ (x : Id × Entries). remove_entry (is_same_id under) (set_value (is_same_id next) ((x.0, []) ∷ bs) (own ++ es)) ≡ with_next x bs) (sym pair)
      (front-joined under next own es bs newest (subst (λ (x : Id × Entries). AreFiled (x ∷ bs) newest) pair filed) (rw passed at after) own_second))
  by rest false is =
      let here : lookup (is_same_id under) bs ≡ Some own = rw is at first in
      let keys = above-keys b bs newest filed in
      let passed : is_below under b.0 ≡ false = below-not_back b.0 under (found-above b.0 under bs own keys here) in
      let later : lookup_key (λ k. is_below under k) bs ≡ Some next = rw passed at after in
      let other : is_same_id next b.0 ≡ false = is_same_id-symm next b.0 ∙ below-not_same b.0 next (key-above b.0 next (λ k. is_below under k) bs keys later) in
      rw (is, other, is) (ap (λ left. b ∷ left) (rest here later (rw (is, other) at second)))

-- what was removed is inserted again
pub restored : (under : Id) (bs : Blocks) (es : Entries) → lookup (is_same_id under) bs ≡ Some es → set_value (is_same_id under) (set_value (is_same_id under) bs []) es ≡ bs
restored under [] es h = refl
restored under (b ∷ bs) es h = by (restored under bs es) (is_same_id under b.0) refl where
  by : (lookup (is_same_id under) bs ≡ Some es → set_value (is_same_id under) (set_value (is_same_id under) bs []) es ≡ bs)
      → (t : Bool) → is_same_id under b.0 ≡ t → set_value (is_same_id under) (set_value (is_same_id under) (b ∷ bs) []) es ≡ b ∷ bs
  by rest true is =
      let first : Some b.1 ≡ Some es = rw is at h in
      let same : es ≡ b.1 = cc in
      rw (is, is, same) refl
  by rest false is = rw (is, is) (ap (λ left. b ∷ left) (rest (rw is at h)))

-- writing what was there changes nothing
pub rewritten : (under : Id) (bs : Blocks) (es : Entries) → lookup (is_same_id under) bs ≡ Some es → set_value (is_same_id under) bs es ≡ bs
rewritten under [] es h = refl
rewritten under (b ∷ bs) es h = by (rewritten under bs es) (is_same_id under b.0) refl where
  by : (lookup (is_same_id under) bs ≡ Some es → set_value (is_same_id under) bs es ≡ bs) → (t : Bool) → is_same_id under b.0 ≡ t → set_value (is_same_id under) (b ∷ bs) es ≡ b ∷ bs
  by rest true is =
      let first : Some b.1 ≡ Some es = rw is at h in
      let same : es ≡ b.1 = cc in
      rw (is, same) refl
  by rest false is = rw is (ap (λ left. b ∷ left) (rest (rw is at h)))

pub found-set : (under : Id) (bs : Blocks) (own es : Entries) → lookup (is_same_id under) bs ≡ Some own → lookup (is_same_id under) (set_value (is_same_id under) bs es) ≡ Some es
found-set under [] own es h = let no = h in cc
found-set under (b ∷ bs) own es h = by (found-set under bs own es) (is_same_id under b.0) refl where
  by : (lookup (is_same_id under) bs ≡ Some own → lookup (is_same_id under) (set_value (is_same_id under) bs es) ≡ Some es)
      → (t : Bool) → is_same_id under b.0 ≡ t → lookup (is_same_id under) (set_value (is_same_id under) (b ∷ bs) es) ≡ Some es
  by rest true is = rw (is, is) refl
  by rest false is = rw (is, is) (rest (rw is at h))

-- a filed block has entries
pub found-some : (under : Id) (bs : Blocks) (newest es : Entries) → AreFiled bs newest → lookup (is_same_id under) bs ≡ Some es → 0 < length es
found-some under [] newest es filed h = let no = h in absurd (cc)
found-some under (b ∷ bs) newest es filed h = by (found-some under bs newest es filed.1) (is_same_id under b.0) refl where
  by : (lookup (is_same_id under) bs ≡ Some es → 0 < length es) → (t : Bool) → is_same_id under b.0 ≡ t → 0 < length es
  by rest true is =
      let first : Some b.1 ≡ Some es = rw is at h in
      let same : b.1 ≡ es = cc in
      omega (arith, ap length same, filed.0.has_entries)
  by rest false is = rest (rw is at h)
