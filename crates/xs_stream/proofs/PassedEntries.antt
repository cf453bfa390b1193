-- Entries that a walk skips, because their ids are below the one from which it looks on.
use Rattle.std.proofs.Common.{◌≡◌, ℕ, ◌+◌, ◌-◌, ◌≤◌, suc, zero, true, false, List, ◌∷◌, ◌++◌}
use Rattle.std.proofs.Common.{filter, take, drop, ap, ◌∙◌, refl, arith, add-one}
use Rattle.std.specs.Map.{remove_entry}
use Rattle.xs_stream.specs.declared.id.Id.{Id}
use Rattle.xs_stream.specs.declared.packed.walks.PackedEntries.{PackedEntries}
use Rattle.xs_stream.specs.declared.range.Range.{Range}
use Rattle.xs_stream.specs.Id.{is_below, is_same_id}
use Rattle.xs_stream.specs.StreamContent.{fields_at, is_within}
use Rattle.xs_stream.specs.Packed.{entry_id, entry_in, after_entry, packed_entries, after_entries}
use Rattle.xs_stream.specs.PassedEntries.{unpacked_entries, packed_ids, AllBelow}
use Rattle.xs_stream.specs.PackedText.{first_text}
use Rattle.xs_stream.proofs.Order.{below-not_same, is_same_id-symm}

module _ (base : ℕ) (low : Id) where
  below-suc : (n : ℕ) (bytes : List ℕ) → AllBelow low (packed_ids base n bytes) → is_below (entry_id base (after_entries n bytes)) low ≡ true → AllBelow low (packed_ids base (suc n) bytes)
  below-suc zero bytes all h = (h, tt)
  below-suc (suc n) bytes all h = (all.0, below-suc n (after_entry bytes) all.1 h)

  -- one more is passed
  pub below-more : (n : ℕ) (bytes : List ℕ) → AllBelow low (packed_ids base n bytes) → is_below (entry_id base (after_entries n bytes)) low ≡ true → AllBelow low (packed_ids base (n + 1) bytes)
  below-more n bytes all h = rw add-one (below-suc n bytes all h)

-- the id that is searched for is after them
module _ (base : ℕ) (names : List ℕ) (id : Id) where
  other : (x : Id) → is_below x id ≡ true → is_same_id id x ≡ false
  other x h = is_same_id-symm id x ∙ below-not_same x id h

  pub lookup-behind : (count n : ℕ) (bytes : List ℕ) → n ≤ count → AllBelow id (packed_ids base n bytes)
      → fields_at (packed_entries base names count bytes) id ≡ fields_at (packed_entries base names (count - n) (after_entries n bytes)) id
  lookup-behind count zero bytes h all = let e : count - 0 ≡ count = omega arith in rw e refl
  lookup-behind zero (suc n) bytes h all = absurd (omega arith)
  lookup-behind (suc count) (suc n) bytes h all =
      let e : suc count - suc n ≡ count - n = omega arith in
      rw (other (entry_id base bytes) all.0, e) (lookup-behind count n (after_entry bytes) (omega arith) all.1)

  pub removed-behind : (count n : ℕ) (bytes : List ℕ) → n ≤ count → AllBelow id (packed_ids base n bytes)
      → remove_entry (is_same_id id) (packed_entries base names count bytes)
      ≡ take n (packed_entries base names count bytes) ++ remove_entry (is_same_id id) (packed_entries base names (count - n) (after_entries n bytes))
  removed-behind count zero bytes h all = let e : count - 0 ≡ count = omega arith in rw e refl
  removed-behind zero (suc n) bytes h all = absurd (omega arith)
  removed-behind (suc count) (suc n) bytes h all =
      let e : suc count - suc n ≡ count - n = omega arith in
      rw (other (entry_id base bytes) all.0, e) (ap (λ es. entry_in base names bytes ∷ es) (removed-behind count n (after_entry bytes) (omega arith) all.1))

-- none of them is within a range from that id on
module _ (base : ℕ) (names : List ℕ) (range : Range) where
  outside : (x : Id) → is_below x range.low ≡ true → is_within range x ≡ false
  outside x h = rw h refl

  pub within-behind : (count n : ℕ) (bytes : List ℕ) → n ≤ count → AllBelow range.low (packed_ids base n bytes)
      → filter (λ e. is_within range e.0) (packed_entries base names count bytes) ≡ filter (λ e. is_within range e.0) (packed_entries base names (count - n) (after_entries n bytes))
  within-behind count zero bytes h all = let e : count - 0 ≡ count = omega arith in rw e refl
  within-behind zero (suc n) bytes h all = absurd (omega arith)
  within-behind (suc count) (suc n) bytes h all =
      let e : suc count - suc n ≡ count - n = omega arith in
      rw (outside (entry_id base bytes) all.0, e) (within-behind count n (after_entry bytes) (omega arith) all.1)

-- so a walk may begin after them
module _ (packed : PackedEntries) (n : ℕ) (rest : List ℕ) (few : n ≤ packed.count) (left : rest ≡ after_entries n (drop packed.start packed.bytes.now)) where
  pub lookup-start : (id : Id) → AllBelow id (packed_ids packed.base n (drop packed.start packed.bytes.now)) → fields_at (unpacked_entries packed) id ≡ fields_at (packed_entries packed.base (first_text packed.bytes.now) (packed.count - n) rest) id
  lookup-start id all = rw left (lookup-behind packed.base (first_text packed.bytes.now) id packed.count n (drop packed.start packed.bytes.now) few all)

  pub removed-start : (id : Id) → AllBelow id (packed_ids packed.base n (drop packed.start packed.bytes.now))
      → remove_entry (is_same_id id) (unpacked_entries packed)
      ≡ take n (unpacked_entries packed) ++ remove_entry (is_same_id id) (packed_entries packed.base (first_text packed.bytes.now) (packed.count - n) rest)
  removed-start id all = rw left (removed-behind packed.base (first_text packed.bytes.now) id packed.count n (drop packed.start packed.bytes.now) few all)

  pub within-start : (range : Range) → AllBelow range.low (packed_ids packed.base n (drop packed.start packed.bytes.now))
      → filter (λ e. is_within range e.0) (unpacked_entries packed) ≡ filter (λ e. is_within range e.0) (packed_entries packed.base (first_text packed.bytes.now) (packed.count - n) rest)
  within-start range all = rw left (within-behind packed.base (first_text packed.bytes.now) range packed.count n (drop packed.start packed.bytes.now) few all)
