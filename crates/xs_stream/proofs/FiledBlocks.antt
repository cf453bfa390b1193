-- Lists of blocks that are filed under ids: which block has an entry, and the blocks after an addition and a removal.
use Rattle.std.proofs.Common.{◌≡◌, ◌+◌, ◌<◌, Bool, true, false, not, cond, List, [], ◌∷◌, ◌++◌, length, filter, Some}
use Rattle.std.proofs.Common.{None, sym, ap, ◌∙◌, refl, arith, append_assoc, subst, length-append}
use Rattle.std.specs.Bool.{◌==◌}
use Rattle.std.proofs.lemmas.Bool.{false≢true}
use Rattle.std.proofs.lemmas.Bool.Decides.{nat_tests}
use Rattle.std.proofs.lemmas.List.{append-nil, nil_from_length}
use Rattle.std.specs.Map.{lookup, lookup_key, lookup_entry, remove_entry, set_value, keys_of}
use Rattle.std.specs.Option.{option_map, unwrap_or}
use Rattle.std.specs.List.{slice_get}
use Rattle.std.specs.BTreeMap.{insert_entry}
use Rattle.std.specs.BTreeMap.Range.{range_contains, entries_between}
use Rattle.std.specs.Ordering.{is_le}
use Rattle.std.specs.declared.ops.Bound.TheVariants.{Included, Excluded, Unbounded}
use Rattle.xs_stream.specs.declared.id.Id.{Id}
use Rattle.xs_stream.specs.declared.field.Field.{Field}
use Rattle.xs_stream.specs.Id.{id_cmp, is_below, is_same_id}
use Rattle.xs_stream.specs.StreamContent.{ids_of, AllAbove, AllUpTo, fields_at}
use Rattle.xs_stream.specs.Blocks.{entries_of_blocks, AreFiled}
use Rattle.xs_stream.proofs.Order.{is_same_id-eq, is_same_id-refl, is_same_id-symm, below-not_same, below-irrefl}
use Rattle.xs_stream.proofs.Order.{up_to-below}
use Rattle.xs_stream.proofs.Order.{above-greater, below-not_below, le-not_below}
use Rattle.xs_stream.proofs.InOrder.{ids_of-append, above-push, and_yes}
use Rattle.xs_stream.proofs.PlacesInLists.{remove-none}

abbrev Entries : Type 0
Entries = List (Id × List Field)

abbrev Blocks : Type 0
Blocks = List (Id × List (Id × List Field))

-- ---- entries that aren't among others

not_same : (a b : Id) → is_below b a ≡ true → is_same_id a b ≡ false
not_same a b h = is_same_id-symm a b ∙ below-not_same b a h

-- none of those up to an id is one above it
pub none_up_to : (id under : Id) (es : Entries) → AllUpTo under (ids_of es) → is_below under id ≡ true → lookup (is_same_id id) es ≡ None
none_up_to id under [] up h = refl
none_up_to id under (e ∷ es) up h = rw (not_same id e.0 (up_to-below under e.0 id up.0 h)) (none_up_to id under es up.1 h)

-- none of those above an id is one up to it
pub none_above : (id under : Id) (es : Entries) → AllAbove under (ids_of es) → is_below under id ≡ false → lookup (is_same_id id) es ≡ None
none_above id under [] a h = refl
none_above id under (e ∷ es) a h = rw (below-not_same id e.0 (up_to-below under id e.0 h a.0)) (none_above id under es a.1 h)

module _ (test : Id → Bool) where
  lookup-skip : (es fs : Entries) → lookup test es ≡ None → lookup test (es ++ fs) ≡ lookup test fs
  lookup-skip [] fs h = refl
  lookup-skip (e ∷ es) fs h = by (lookup-skip es fs) (test e.0) refl where
    by : (lookup test es ≡ None → lookup test (es ++ fs) ≡ lookup test fs) → (t : Bool) → test e.0 ≡ t → lookup test (e ∷ (es ++ fs)) ≡ lookup test fs
    by rest true is = let no = rw is at h in cc
    by rest false is = rw is (rest (rw is at h))

  lookup-within : (es fs : Entries) → lookup test fs ≡ None → lookup test (es ++ fs) ≡ lookup test es
  lookup-within [] fs h = h
  lookup-within (e ∷ es) fs h = ap (λ rest. cond (test e.0) (Some e.1) rest) (lookup-within es fs h)

  remove-skip : (es fs : Entries) → lookup test es ≡ None → remove_entry test (es ++ fs) ≡ es ++ remove_entry test fs
  remove-skip [] fs h = refl
  remove-skip (e ∷ es) fs h = by (remove-skip es fs) (test e.0) refl where
    by : (lookup test es ≡ None → remove_entry test (es ++ fs) ≡ es ++ remove_entry test fs) → (t : Bool) → test e.0 ≡ t → remove_entry test (e ∷ (es ++ fs)) ≡ e ∷ (es ++ remove_entry test fs)
    by rest true is = let no = rw is at h in cc
    by rest false is = rw is (ap (λ left. e ∷ left) (rest (rw is at h)))

  remove-within : (es fs : Entries) → lookup test fs ≡ None → remove_entry test (es ++ fs) ≡ remove_entry test es ++ fs
  remove-within [] fs h = remove-none test fs h
  remove-within (e ∷ es) fs h = by (remove-within es fs h) (test e.0) refl where
    by : remove_entry test (es ++ fs) ≡ remove_entry test es ++ fs → (t : Bool) → test e.0 ≡ t → remove_entry test (e ∷ (es ++ fs)) ≡ remove_entry test (e ∷ es) ++ fs
    by rest true is = rw is refl
    by rest false is = rw is (ap (λ left. e ∷ left) rest)

  above-remove : (x : Id) (es : Entries) → AllAbove x (ids_of es) → AllAbove x (ids_of (remove_entry test es))
  above-remove x [] a = tt
  above-remove x (e ∷ es) a =
      elim (test e.0) as (λ t. AllAbove x (ids_of (cond t es (e ∷ remove_entry test es)))) [
        | true ↦ a.1
        | false ↦ (a.0, above-remove x es a.1)
      ]

  up_to-remove : (x : Id) (es : Entries) → AllUpTo x (ids_of es) → AllUpTo x (ids_of (remove_entry test es))
  up_to-remove x [] a = tt
  up_to-remove x (e ∷ es) a =
      elim (test e.0) as (λ t. AllUpTo x (ids_of (cond t es (e ∷ remove_entry test es)))) [
        | true ↦ a.1
        | false ↦ (a.0, up_to-remove x es a.1)
      ]

-- a block that is filed under another id
other_id : (id under other : Id) → is_below other id ≡ true → not (is_below under id) ≡ true → is_same_id under other ≡ false
other_id id under other h k = by (is_same_id under other) refl where
  by : (t : Bool) → is_same_id under other ≡ t → is_same_id under other ≡ false
  by false e = e
  by true e = absurd (false≢true (sym (ap not h) ∙ ap (λ x. not (is_below x id)) (sym (is_same_id-eq under other e)) ∙ k))

-- ---- the block of an id

-- an entry is in the first block that is filed under its id or above it, or else among the newest
pub fields-block : (id : Id) (bs : Blocks) (newest : Entries) → AreFiled bs newest → fields_at (entries_of_blocks bs ++ newest) id ≡ fields_at (unwrap_or (lookup (λ under. not (is_below under id)) bs) newest) id
fields-block id [] newest filed = refl
fields-block id (b ∷ bs) newest filed = rw append_assoc (by (fields-block id bs newest filed.1) (is_below b.0 id) refl) where
  by : fields_at (entries_of_blocks bs ++ newest) id ≡ fields_at (unwrap_or (lookup (λ under. not (is_below under id)) bs) newest) id
      → (t : Bool) → is_below b.0 id ≡ t → fields_at (b.1 ++ (entries_of_blocks bs ++ newest)) id ≡ fields_at (unwrap_or (lookup (λ under. not (is_below under id)) (b ∷ bs)) newest) id
  by rest true is = rw is (lookup-skip (is_same_id id) b.1 (entries_of_blocks bs ++ newest) (none_up_to id b.0 b.1 filed.0.up_to_id is) ∙ rest)
  by rest false is = rw is (lookup-within (is_same_id id) b.1 (entries_of_blocks bs ++ newest) (none_above id b.0 (entries_of_blocks bs ++ newest) filed.0.later_above is))

-- ---- what a walk through the blocks meets first

first-filtered : (p q : Id → Bool) → ((x : Id) → p x ≡ q x) → (bs : Blocks) (b : Id × Entries) (rest : Blocks) → filter (λ c. p c.0) bs ≡ b ∷ rest → lookup_entry q bs ≡ Some b
first-filtered p q same [] b rest h = let no = h in cc
first-filtered p q same (c ∷ cs) b rest h = by (first-filtered p q same cs b rest) (p c.0) refl where
  by : (filter (λ d. p d.0) cs ≡ b ∷ rest → lookup_entry q cs ≡ Some b) → (t : Bool) → p c.0 ≡ t → lookup_entry q (c ∷ cs) ≡ Some b
  by later true is = rw (← same c.0, is) (ap Some (let first = rw is at h in cc))
  by later false is = rw (← same c.0, is) (later (rw is at h))

none-filtered : (p q : Id → Bool) → ((x : Id) → p x ≡ q x) → (bs : Blocks) → filter (λ c. p c.0) bs ≡ [] → lookup_entry q bs ≡ None
none-filtered p q same [] h = refl
none-filtered p q same (c ∷ cs) h = by (none-filtered p q same cs) (p c.0) refl where
  by : (filter (λ d. p d.0) cs ≡ [] → lookup_entry q cs ≡ None) → (t : Bool) → p c.0 ≡ t → lookup_entry q (c ∷ cs) ≡ None
  by later true is = let no = rw is at h in cc
  by later false is = rw (← same c.0, is) (later (rw is at h))

-- the test of a map's range is the one here
from_id : (id x : Id) → range_contains id_cmp (Included id) Unbounded x ≡ not (is_below x id)
from_id id x = and_yes (is_le (id_cmp id x)) ∙ le-not_below id x

pub first-from : (id : Id) (bs : Blocks) (b : Id × Entries) (rest : Blocks) → entries_between id_cmp (Included id) Unbounded bs ≡ b ∷ rest → lookup_entry (λ under. not (is_below under id)) bs ≡ Some b
first-from id bs b rest h = first-filtered (range_contains id_cmp (Included id) Unbounded) (λ under. not (is_below under id)) (from_id id) bs b rest h

pub none-from : (id : Id) (bs : Blocks) → entries_between id_cmp (Included id) Unbounded bs ≡ [] → lookup_entry (λ under. not (is_below under id)) bs ≡ None
none-from id bs h = none-filtered (range_contains id_cmp (Included id) Unbounded) (λ under. not (is_below under id)) (from_id id) bs h

-- and so is that of a range after an id
behind_id : (id x : Id) → range_contains id_cmp (Excluded id) Unbounded x ≡ is_below id x
behind_id id x = and_yes (is_below id x)

pub first-after : (id : Id) (bs : Blocks) (b : Id × Entries) (rest : Blocks) → entries_between id_cmp (Excluded id) Unbounded bs ≡ b ∷ rest → lookup_entry (λ other. is_below id other) bs ≡ Some b
first-after id bs b rest h = first-filtered (range_contains id_cmp (Excluded id) Unbounded) (λ other. is_below id other) (behind_id id) bs b rest h

pub none-after : (id : Id) (bs : Blocks) → entries_between id_cmp (Excluded id) Unbounded bs ≡ [] → lookup_entry (λ other. is_below id other) bs ≡ None
none-after id bs h = none-filtered (range_contains id_cmp (Excluded id) Unbounded) (λ other. is_below id other) (behind_id id) bs h

module _ (test : Id → Bool) where
  pub lookup-entry : (bs : Blocks) → lookup test bs ≡ option_map (λ b. b.1) (lookup_entry test bs)
  lookup-entry [] = refl
  lookup-entry (b ∷ bs) = by (lookup-entry bs) (test b.0) refl where
    by : lookup test bs ≡ option_map (λ c. c.1) (lookup_entry test bs) → (t : Bool) → test b.0 ≡ t → lookup test (b ∷ bs) ≡ option_map (λ c. c.1) (lookup_entry test (b ∷ bs))
    by rest true is = rw is refl
    by rest false is = rw is rest

  pub key-entry : (bs : Blocks) → lookup_key test bs ≡ option_map (λ b. b.0) (lookup_entry test bs)
  key-entry [] = refl
  key-entry (b ∷ bs) = by (key-entry bs) (test b.0) refl where
    by : lookup_key test bs ≡ option_map (λ c. c.0) (lookup_entry test bs) → (t : Bool) → test b.0 ≡ t → lookup_key test (b ∷ bs) ≡ option_map (λ c. c.0) (lookup_entry test (b ∷ bs))
    by rest true is = rw is refl
    by rest false is = rw is rest

  -- there is a block under the key that is found
  pub entry-of_key : (bs : Blocks) (key : Id) → lookup_key test bs ≡ Some key → (es : Entries) × (lookup_entry test bs ≡ Some (key, es))
  entry-of_key [] key h = let no = h in absurd (cc)
  entry-of_key (b ∷ bs) key h = by (entry-of_key bs key) (test b.0) refl where
    by : (lookup_key test bs ≡ Some key → (es : Entries) × (lookup_entry test bs ≡ Some (key, es))) → (t : Bool) → test b.0 ≡ t → (es : Entries) × (lookup_entry test (b ∷ bs) ≡ Some (key, es))
    by later true is =
        let first : Some b.0 ≡ Some key = rw is at h in
        let same : b.0 ≡ key = cc in
        (b.1, rw is (ap (λ k. Some (k, b.1)) same))
    by later false is = let rest = later (rw is at h) in (rest.0, rw is rest.1)

  pub no_entry : (bs : Blocks) → lookup_key test bs ≡ None → lookup_entry test bs ≡ None
  no_entry [] h = refl
  no_entry (b ∷ bs) h = by (no_entry bs) (test b.0) refl where
    by : (lookup_key test bs ≡ None → lookup_entry test bs ≡ None) → (t : Bool) → test b.0 ≡ t → lookup_entry test (b ∷ bs) ≡ None
    by later true is = let no = rw is at h in cc
    by later false is = rw is (later (rw is at h))

  -- what is found passes the test
  pub entry-passes : (bs : Blocks) (b : Id × Entries) → lookup_entry test bs ≡ Some b → test b.0 ≡ true
  entry-passes [] b h = let no = h in cc
  entry-passes (c ∷ cs) b h = by (entry-passes cs b) (test c.0) refl where
    by : (lookup_entry test cs ≡ Some b → test b.0 ≡ true) → (t : Bool) → test c.0 ≡ t → test b.0 ≡ true
    by later true is = let first : Some c ≡ Some b = rw is at h in let same : c ≡ b = cc in sym (ap (λ (d : Id × Entries). test d.0) same) ∙ is
    by later false is = later (rw is at h)

-- the first of all entries is that of the first block
pub first-entry : (bs : Blocks) (b : Id × Entries) (newest : Entries) → AreFiled bs newest → slice_get bs 0 ≡ Some b → slice_get (entries_of_blocks bs ++ newest) 0 ≡ slice_get b.1 0
first-entry [] b newest filed h = let no = h in cc
first-entry (c ∷ cs) b newest filed h = by c.1 refl filed.0.has_entries where
  by : (es : Entries) → c.1 ≡ es → 0 < length c.1 → slice_get ((c.1 ++ entries_of_blocks cs) ++ newest) 0 ≡ slice_get b.1 0
  by [] is some = absurd (omega (arith, ap length is))
  by (e ∷ es) is some = let same : c ≡ b = cc in let own : b.1 ≡ e ∷ es = sym (ap (λ (d : Id × Entries). d.1) same) ∙ is in rw (is, own) refl

-- ---- a removal

-- the blocks after an entry is removed: its block is removed with its last entry
abbrev pub blocks_without : Id → Blocks → Blocks
blocks_without id [] = []
blocks_without id (b ∷ bs) =
    cond (is_below b.0 id) (b ∷ blocks_without id bs)
    (elim (remove_entry (is_same_id id) b.1) as (λ es. Blocks) [ [] ↦ bs | (e ∷ es) ↦ (b.0, e ∷ es) ∷ bs ])

module _ (id : Id) where
  -- the first block that is filed under an id or above it is the only one with its own id
  pub same-under : (bs : Blocks) (under : Id) (es : Entries) → lookup_entry (λ k. not (is_below k id)) bs ≡ Some (under, es) → lookup (is_same_id under) bs ≡ Some es
  same-under [] under es h = let no = h in cc
  same-under (b ∷ bs) under es h = by (same-under bs under es) (entry-passes (λ k. not (is_below k id)) bs (under, es)) (is_below b.0 id) refl where
    by : (lookup_entry (λ k. not (is_below k id)) bs ≡ Some (under, es) → lookup (is_same_id under) bs ≡ Some es)
        → (lookup_entry (λ k. not (is_below k id)) bs ≡ Some (under, es) → not (is_below under id) ≡ true)
        → (t : Bool) → is_below b.0 id ≡ t → lookup (is_same_id under) (b ∷ bs) ≡ Some es
    by rest passes true is =
        let later : lookup_entry (λ k. not (is_below k id)) bs ≡ Some (under, es) = rw is at h in
        rw (other_id id under b.0 is (passes later)) (rest later)
    by rest passes false is =
        let first : Some b ≡ Some (under, es) = rw is at h in
        let same : b ≡ (under, es) = cc in
        rw (same, is_same_id-refl under) refl

  -- the block of an entry with one entry less, if it has others
  pub set-without : (bs : Blocks) (under : Id) (es : Entries) (f : Id × List Field) (fs : Entries) → lookup_entry (λ k. not (is_below k id)) bs ≡ Some (under, es) → remove_entry (is_same_id id) es ≡ f ∷ fs
      → set_value (is_same_id under) bs (f ∷ fs) ≡ blocks_without id bs
  set-without [] under es f fs h left = let no = h in cc
  set-without (b ∷ bs) under es f fs h left = by (λ k. set-without bs under es f fs k left) (entry-passes (λ k. not (is_below k id)) bs (under, es)) (is_below b.0 id) refl where
    by : (lookup_entry (λ k. not (is_below k id)) bs ≡ Some (under, es) → set_value (is_same_id under) bs (f ∷ fs) ≡ blocks_without id bs)
        → (lookup_entry (λ k. not (is_below k id)) bs ≡ Some (under, es) → not (is_below under id) ≡ true)
        → (t : Bool) → is_below b.0 id ≡ t → set_value (is_same_id under) (b ∷ bs) (f ∷ fs) ≡ blocks_without id (b ∷ bs)
    by rest passes true is =
        let later : lookup_entry (λ k. not (is_below k id)) bs ≡ Some (under, es) = rw is at h in
        rw (other_id id under b.0 is (passes later), is) (ap (λ others. b ∷ others) (rest later))
    by rest passes false is =
        let first : Some b ≡ Some (under, es) = rw is at h in
        let same : b ≡ (under, es) = cc in
        let own : remove_entry (is_same_id id) b.1 ≡ f ∷ fs = ap (λ (c : Id × Entries). remove_entry (is_same_id id) c.1) same ∙ left in
        let key : b.0 ≡ under = ap (λ (c : Id × Entries). c.0) same in
        rw (is, own, key, is_same_id-refl under) refl

  -- or no block, if it has no others
  pub removed-without : (bs : Blocks) (under : Id) (es : Entries) → lookup_entry (λ k. not (is_below k id)) bs ≡ Some (under, es) → remove_entry (is_same_id id) es ≡ []
      → remove_entry (is_same_id under) (set_value (is_same_id under) bs []) ≡ blocks_without id bs
  removed-without [] under es h left = let no = h in cc
  removed-without (b ∷ bs) under es h left = by (λ k. removed-without bs under es k left) (entry-passes (λ k. not (is_below k id)) bs (under, es)) (is_below b.0 id) refl where
    by : (lookup_entry (λ k. not (is_below k id)) bs ≡ Some (under, es) → remove_entry (is_same_id under) (set_value (is_same_id under) bs []) ≡ blocks_without id bs)
        → (lookup_entry (λ k. not (is_below k id)) bs ≡ Some (under, es) → not (is_below under id) ≡ true)
        → (t : Bool) → is_below b.0 id ≡ t → remove_entry (is_same_id under) (set_value (is_same_id under) (b ∷ bs) []) ≡ blocks_without id (b ∷ bs)
    by rest passes true is =
        let later : lookup_entry (λ k. not (is_below k id)) bs ≡ Some (under, es) = rw is at h in
        let other = other_id id under b.0 is (passes later) in
        rw (other, other, is) (ap (λ others. b ∷ others) (rest later))
    by rest passes false is =
        let first : Some b ≡ Some (under, es) = rw is at h in
        let same : b ≡ (under, es) = cc in
        let own : remove_entry (is_same_id id) b.1 ≡ [] = ap (λ (c : Id × Entries). remove_entry (is_same_id id) c.1) same ∙ left in
        let key : b.0 ≡ under = ap (λ (c : Id × Entries). c.0) same in
        rw (is, own, key, is_same_id-refl under, is_same_id-refl under) refl

  -- the block that is lent under the key is that one
  pub lent-entry : (bs : Blocks) (under : Id) (es : Entries) → lookup_key (λ k. not (is_below k id)) bs ≡ Some under → Some es ≡ lookup (is_same_id under) bs → lookup_entry (λ k. not (is_below k id)) bs ≡ Some (under, es)
  lent-entry bs under es key lent =
      let entry = entry-of_key (λ k. not (is_below k id)) bs under key in
      let both : Some entry.0 ≡ Some es = sym (lent ∙ same-under bs under entry.0 entry.1) in
      let same : entry.0 ≡ es = cc in
      entry.1 ∙ ap (λ (fs : Entries). Some (under, fs)) same

  -- so what is left of it takes its place
  pub set-left : (bs : Blocks) (under : Id) (es left : Entries) → lookup_entry (λ k. not (is_below k id)) bs ≡ Some (under, es) → left ≡ remove_entry (is_same_id id) es → (length left == 0) ≡ false
      → set_value (is_same_id under) bs left ≡ blocks_without id bs
  set-left bs under es [] h is some = absurd (false≢true (sym some))
  set-left bs under es (f ∷ fs) h is some = set-without bs under es f fs h (sym is)

  pub removed-left : (bs : Blocks) (under : Id) (es left : Entries) → lookup_entry (λ k. not (is_below k id)) bs ≡ Some (under, es) → left ≡ remove_entry (is_same_id id) es → (length left == 0) ≡ true
      → remove_entry (is_same_id under) (set_value (is_same_id under) bs left) ≡ blocks_without id bs
  removed-left bs under es left h is none =
      let empty : left ≡ [] = nil_from_length left (none_counted left none) in
      rw empty (removed-without bs under es h (sym is ∙ empty)) where
        none_counted : (es : Entries) → (length es == 0) ≡ true → length es ≡ 0
        none_counted es h = grind (arith, nat_tests)

  -- as many are removed as from the block
  pub length-without : (bs : Blocks) (under : Id) (es : Entries) → lookup_entry (λ k. not (is_below k id)) bs ≡ Some (under, es)
      → length (entries_of_blocks (blocks_without id bs)) + length es ≡ length (entries_of_blocks bs) + length (remove_entry (is_same_id id) es)
  length-without [] under es h = let no = h in absurd (cc)
  length-without (b ∷ bs) under es h = by (length-without bs under es) (is_below b.0 id) refl where
    within : (left : Entries) → length (entries_of_blocks (elim left as (λ fs. Blocks) [ [] ↦ bs | (f ∷ fs) ↦ (b.0, f ∷ fs) ∷ bs ])) ≡ length left + length (entries_of_blocks bs)
    within [] = omega arith
    within (f ∷ fs) = length-append (f ∷ fs) (entries_of_blocks bs)

    by : (lookup_entry (λ k. not (is_below k id)) bs ≡ Some (under, es) → length (entries_of_blocks (blocks_without id bs)) + length es ≡ length (entries_of_blocks bs) + length (remove_entry (is_same_id id) es))
        → (t : Bool) → is_below b.0 id ≡ t → length (entries_of_blocks (blocks_without id (b ∷ bs))) + length es ≡ length (b.1 ++ entries_of_blocks bs) + length (remove_entry (is_same_id id) es)
    by rest true is =
        let later = rest (rw is at h) in
        rw is (omega (arith, length-append b.1 (entries_of_blocks (blocks_without id bs)), length-append b.1 (entries_of_blocks bs), later))
    by rest false is =
        let first : Some b ≡ Some (under, es) = rw is at h in
        let same : b ≡ (under, es) = cc in
        let own : b.1 ≡ es = ap (λ (c : Id × Entries). c.1) same in
        rw is (omega (arith, within (remove_entry (is_same_id id) b.1), ap (λ (fs : Entries). length (remove_entry (is_same_id id) fs)) own, ap length own, length-append b.1 (entries_of_blocks bs)))

  -- the entries are those without that one
  pub listed-without : (bs : Blocks) (newest : Entries) (b : Id × Entries) → lookup_entry (λ k. not (is_below k id)) bs ≡ Some b → AreFiled bs newest
      → entries_of_blocks (blocks_without id bs) ++ newest ≡ remove_entry (is_same_id id) (entries_of_blocks bs ++ newest)
  listed-without [] newest b h filed = let no = h in cc
  listed-without (c ∷ cs) newest b h filed = rw append_assoc (by (λ k. listed-without cs newest b k filed.1) (is_below c.0 id) refl) where
    within : (left : Entries) → remove_entry (is_same_id id) c.1 ≡ left → entries_of_blocks (elim left as (λ es. Blocks) [ [] ↦ cs | (e ∷ es) ↦ (c.0, e ∷ es) ∷ cs ]) ++ newest ≡ left ++ (entries_of_blocks cs ++ newest)
    within [] is = refl
    within (e ∷ es) is = append_assoc (e ∷ es) (entries_of_blocks cs) newest

    by : (lookup_entry (λ k. not (is_below k id)) cs ≡ Some b → entries_of_blocks (blocks_without id cs) ++ newest ≡ remove_entry (is_same_id id) (entries_of_blocks cs ++ newest))
        → (t : Bool) → is_below c.0 id ≡ t → entries_of_blocks (blocks_without id (c ∷ cs)) ++ newest ≡ remove_entry (is_same_id id) (c.1 ++ (entries_of_blocks cs ++ newest))
    by rest true is =
        let skip = remove-skip (is_same_id id) c.1 (entries_of_blocks cs ++ newest) (none_up_to id c.0 c.1 filed.0.up_to_id is) in
        rw is (append_assoc c.1 (entries_of_blocks (blocks_without id cs)) newest ∙ ap (λ others. c.1 ++ others) (rest (rw is at h)) ∙ sym skip)
    by rest false is =
        let here = remove-within (is_same_id id) c.1 (entries_of_blocks cs ++ newest) (none_above id c.0 (entries_of_blocks cs ++ newest) filed.0.later_above is) in
        rw is (within (remove_entry (is_same_id id) c.1) refl ∙ sym here)

  pub filed-without : (bs : Blocks) (newest : Entries) (b : Id × Entries) → lookup_entry (λ k. not (is_below k id)) bs ≡ Some b → AreFiled bs newest → AreFiled (blocks_without id bs) newest
  filed-without [] newest b h filed = tt
  filed-without (c ∷ cs) newest b h filed = by (λ k. filed-without cs newest b k filed.1) (λ k. listed-without cs newest b k filed.1) (is_below c.0 id) refl where
    within : (left : Entries) → remove_entry (is_same_id id) c.1 ≡ left → AreFiled (elim left as (λ es. Blocks) [ [] ↦ cs | (e ∷ es) ↦ (c.0, e ∷ es) ∷ cs ]) newest
    within [] is = filed.1
    within (e ∷ es) is = (
      record {
        has_entries = omega arith;
        up_to_id = subst (λ es. AllUpTo c.0 (ids_of es)) is (up_to-remove (is_same_id id) c.0 c.1 filed.0.up_to_id);
        later_above = filed.0.later_above;
      },
      filed.1,
    )

    by : (lookup_entry (λ k. not (is_below k id)) cs ≡ Some b → AreFiled (blocks_without id cs) newest)
        → (lookup_entry (λ k. not (is_below k id)) cs ≡ Some b → entries_of_blocks (blocks_without id cs) ++ newest ≡ remove_entry (is_same_id id) (entries_of_blocks cs ++ newest))
        → (t : Bool) → is_below c.0 id ≡ t → AreFiled (blocks_without id (c ∷ cs)) newest
    by rest list true is = rw is (
      record {
        has_entries = filed.0.has_entries;
        up_to_id = filed.0.up_to_id;
        later_above = subst (λ es. AllAbove c.0 (ids_of es)) (sym (list (rw is at h))) (above-remove (is_same_id id) c.0 (entries_of_blocks cs ++ newest) filed.0.later_above);
      },
      rest (rw is at h),
    )
    by rest list false is = rw is (within (remove_entry (is_same_id id) c.1) refl)

  -- the ids under which blocks are filed are some of those before
  pub keys-without : (top : Id) (bs : Blocks) → AllUpTo top (keys_of bs) → AllUpTo top (keys_of (blocks_without id bs))
  keys-without top [] up = tt
  keys-without top (c ∷ cs) up = by (keys-without top cs up.1) (is_below c.0 id) refl where
    within : (left : Entries) → AllUpTo top (keys_of (elim left as (λ es. Blocks) [ [] ↦ cs | (e ∷ es) ↦ (c.0, e ∷ es) ∷ cs ]))
    within [] = up.1
    within (e ∷ es) = up

    by : AllUpTo top (keys_of (blocks_without id cs)) → (t : Bool) → is_below c.0 id ≡ t → AllUpTo top (keys_of (blocks_without id (c ∷ cs)))
    by rest true is = rw is (up.0, rest)
    by rest false is = rw is (within (remove_entry (is_same_id id) c.1))

  -- if no block has the entry, it may be among the newest
  pub listed-newest : (bs : Blocks) (newest : Entries) → lookup_entry (λ k. not (is_below k id)) bs ≡ None → AreFiled bs newest
      → entries_of_blocks bs ++ remove_entry (is_same_id id) newest ≡ remove_entry (is_same_id id) (entries_of_blocks bs ++ newest)
  listed-newest [] newest h filed = refl
  listed-newest (c ∷ cs) newest h filed =
      append_assoc c.1 (entries_of_blocks cs) (remove_entry (is_same_id id) newest) ∙ by (λ k. listed-newest cs newest k filed.1) (is_below c.0 id) refl
      ∙ sym (ap (remove_entry (is_same_id id)) (append_assoc c.1 (entries_of_blocks cs) newest)) where
        by : (lookup_entry (λ k. not (is_below k id)) cs ≡ None → entries_of_blocks cs ++ remove_entry (is_same_id id) newest ≡ remove_entry (is_same_id id) (entries_of_blocks cs ++ newest))
            → (t : Bool) → is_below c.0 id ≡ t → c.1 ++ (entries_of_blocks cs ++ remove_entry (is_same_id id) newest) ≡ remove_entry (is_same_id id) (c.1 ++ (entries_of_blocks cs ++ newest))
        by rest true is = ap (λ others. c.1 ++ others) (rest (rw is at h)) ∙ sym (remove-skip (is_same_id id) c.1 (entries_of_blocks cs ++ newest) (none_up_to id c.0 c.1 filed.0.up_to_id is))
        by rest false is = let no = rw is at h in cc

  pub filed-newest : (bs : Blocks) (newest : Entries) → lookup_entry (λ k. not (is_below k id)) bs ≡ None → AreFiled bs newest → AreFiled bs (remove_entry (is_same_id id) newest)
  filed-newest [] newest h filed = tt
  filed-newest (c ∷ cs) newest h filed = by (λ k. filed-newest cs newest k filed.1) (λ k. listed-newest cs newest k filed.1) (is_below c.0 id) refl where
    by : (lookup_entry (λ k. not (is_below k id)) cs ≡ None → AreFiled cs (remove_entry (is_same_id id) newest))
        → (lookup_entry (λ k. not (is_below k id)) cs ≡ None → entries_of_blocks cs ++ remove_entry (is_same_id id) newest ≡ remove_entry (is_same_id id) (entries_of_blocks cs ++ newest))
        → (t : Bool) → is_below c.0 id ≡ t → AreFiled (c ∷ cs) (remove_entry (is_same_id id) newest)
    by rest list true is = (
      record {
        has_entries = filed.0.has_entries;
        up_to_id = filed.0.up_to_id;
        later_above = subst (λ es. AllAbove c.0 (ids_of es)) (sym (list (rw is at h))) (above-remove (is_same_id id) c.0 (entries_of_blocks cs ++ newest) filed.0.later_above);
      },
      rest (rw is at h),
    )
    by rest list false is = let no = rw is at h in cc

-- ---- an addition

above-later : (x : Id) (es : Entries) (f : Id × List Field) (fs : Entries) → AllAbove x (ids_of (es ++ f ∷ fs)) → is_below x f.0 ≡ true
above-later x [] f fs a = a.0
above-later x (e ∷ es) f fs a = above-later x es f fs a.1

up_to-later : (x : Id) (es : Entries) (f : Id × List Field) (fs : Entries) → AllUpTo x (ids_of (es ++ f ∷ fs)) → is_below x f.0 ≡ false
up_to-later x [] f fs a = a.0
up_to-later x (e ∷ es) f fs a = up_to-later x es f fs a.1

up_to-behind : (x : Id) (es fs : Entries) → AllUpTo x (ids_of (es ++ fs)) → AllUpTo x (ids_of fs)
up_to-behind x [] fs a = a
up_to-behind x (e ∷ es) fs a = up_to-behind x es fs a.1

-- a block that is filed under the top comes after the others
pub insert-newest : (top : Id) (bs : Blocks) (newest : Entries) → AreFiled bs newest → AllUpTo top (ids_of (entries_of_blocks bs ++ newest)) → (length newest ≡ 0 → ⊥) → insert_entry id_cmp bs top newest ≡ bs ++ (top, newest) ∷ []
insert-newest top bs [] filed up some = absurd (some refl)
insert-newest top bs (e ∷ es) filed up some = by bs filed up where
  by : (cs : Blocks) → AreFiled cs (e ∷ es) → AllUpTo top (ids_of (entries_of_blocks cs ++ e ∷ es)) → insert_entry id_cmp cs top (e ∷ es) ≡ cs ++ (top, e ∷ es) ∷ []
  by [] filed up = refl
  by (c ∷ cs) filed up =
      let under : is_below c.0 top ≡ true = below-not_below c.0 e.0 top (above-later c.0 (entries_of_blocks cs) e es filed.0.later_above) (up_to-later top (c.1 ++ entries_of_blocks cs) e es up) in
      rw (above-greater c.0 top under) (ap (λ rest. c ∷ rest) (by cs filed.1 (up_to-behind top c.1 (entries_of_blocks cs ++ e ∷ es) (rw append_assoc at up))))

pub listed-filed : (top : Id) (bs : Blocks) (newest : Entries) → entries_of_blocks (bs ++ (top, newest) ∷ []) ++ [] ≡ entries_of_blocks bs ++ newest
listed-filed top [] newest = append-nil (newest ++ []) ∙ append-nil newest
listed-filed top (b ∷ bs) newest = append_assoc b.1 (entries_of_blocks (bs ++ (top, newest) ∷ [])) [] ∙ ap (λ rest. b.1 ++ rest) (listed-filed top bs newest) ∙ sym (append_assoc b.1 (entries_of_blocks bs) newest)

pub filed-filed : (top : Id) (bs : Blocks) (newest : Entries) → AreFiled bs newest → AllUpTo top (ids_of (entries_of_blocks bs ++ newest)) → (length newest ≡ 0 → ⊥) → AreFiled (bs ++ (top, newest) ∷ []) []
filed-filed top [] newest filed up some = (record { has_entries = some_of newest some; up_to_id = up; later_above = tt }, tt) where
  some_of : (es : Entries) → (length es ≡ 0 → ⊥) → 0 < length es
  some_of es h = grind arith
filed-filed top (b ∷ bs) newest filed up some = (
  record {
    has_entries = filed.0.has_entries;
    up_to_id = filed.0.up_to_id;
    later_above = subst (λ es. AllAbove b.0 (ids_of es)) (sym (listed-filed top bs newest)) filed.0.later_above;
  },
  filed-filed top bs newest filed.1 (up_to-behind top b.1 (entries_of_blocks bs ++ newest) (rw append_assoc at up)) some,
)

-- what is filed under the top isn't above it
pub keys-filed : (top : Id) (bs : Blocks) (newest : Entries) → AllUpTo top (keys_of bs) → AllUpTo top (keys_of (bs ++ (top, newest) ∷ []))
keys-filed top [] newest up = (below-irrefl top, tt)
keys-filed top (b ∷ bs) newest up = (up.0, keys-filed top bs newest up.1)

-- an entry above the top, after the newest
pub filed-push : (top id : Id) (fields : List Field) (bs : Blocks) (newest : Entries) → AreFiled bs newest → AllUpTo top (keys_of bs) → is_below top id ≡ true → AreFiled bs (newest ++ (id, fields) ∷ [])
filed-push top id fields [] newest filed up h = tt
filed-push top id fields (b ∷ bs) newest filed up h =
    let ids : ids_of (entries_of_blocks bs ++ (newest ++ (id, fields) ∷ [])) ≡ ids_of (entries_of_blocks bs ++ newest) ++ id ∷ [] =
    ap ids_of (sym (append_assoc (entries_of_blocks bs) newest ((id, fields) ∷ []))) ∙ ids_of-append (entries_of_blocks bs ++ newest) ((id, fields) ∷ []) in (
      record {
        has_entries = filed.0.has_entries;
        up_to_id = filed.0.up_to_id;
        later_above = subst (AllAbove b.0) (sym ids) (above-push b.0 (ids_of (entries_of_blocks bs ++ newest)) id filed.0.later_above (up_to-below top b.0 id up.0 h));
      },
      filed-push top id fields bs newest filed.1 up.1 h,
    )
