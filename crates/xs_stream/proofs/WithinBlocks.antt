-- The entries of a range, in the blocks that a walk meets: those from the low end on, up to the first that is filed under the high end or above it.
use Rattle.std.proofs.Common.{◌≡◌, ℕ, ◌≤◌, suc, zero, Bool, true, false, not, ◌&&◌, cond, List, [], ◌∷◌, ◌++◌, length}
use Rattle.std.proofs.Common.{filter, take, reverse, Option, Some, None, sym, ap, ◌∙◌, refl, append_assoc, Ordering}
use Rattle.std.proofs.lemmas.List.{append-nil, take-append-le, reverse-append}
use Rattle.std.proofs.lemmas.List.Elements.{filter-append}
use Rattle.std.specs.Bool.{⊤}
use Rattle.std.specs.Map.{lookup_key}
use Rattle.std.specs.Bound.{MatchBound}
use Rattle.std.specs.BTreeMap.Range.{range_contains, entries_between, IsLeBy}
use Rattle.std.specs.Ordering.{is_le, is_lt, is_gt, ordering_reverse}
use Rattle.std.specs.declared.cmp.Ordering.TheVariants.{Less, Equal, Greater}
use Rattle.std.specs.declared.ops.Bound.TheVariants.{Included, Unbounded}
use Rattle.xs_stream.specs.declared.id.Id.{Id}
use Rattle.xs_stream.specs.declared.field.Field.{Field}
use Rattle.xs_stream.specs.declared.range.Range.{Range}
use Rattle.xs_stream.specs.Id.{id_cmp, is_below}
use Rattle.xs_stream.specs.StreamContent.{ids_of, AllAbove, AllUpTo, is_within}
use Rattle.xs_stream.specs.Blocks.{entries_of_blocks, AreFiled, end_under, end_at}
use Rattle.xs_stream.proofs.Order.{ids_total, below-irrefl, below-not_back, up_to-below, below-not_below}
use Rattle.xs_stream.proofs.Order.{not_above-trans, le-not_below}
use Rattle.xs_stream.proofs.InOrder.{and_yes, not_within}
use Rattle.xs_stream.proofs.FiledBlocks.{entry-of_key, entry-passes}

abbrev Entries : Type 0
Entries = List (Id × List Field)

abbrev Blocks : Type 0
Blocks = List (Id × List (Id × List Field))

-- the entries that are within a range
abbrev pub within : Range → Entries → Entries
within range es = filter (λ e. is_within range e.0) es

pub within-append : (range : Range) (es fs : Entries) → within range (es ++ fs) ≡ within range es ++ within range fs
within-append range es fs = filter-append (λ (e : Id × List Field). is_within range e.0) es fs

-- nothing is within a range whose low end is above its high end
pub within-none : (range : Range) → is_below range.high range.low ≡ true → (es : Entries) → within range es ≡ []
within-none range h [] = refl
within-none range h (e ∷ es) = rw (not_within range h e.0) (within-none range h es)

module _ (range : Range) where
  -- none of those up to an id below the low end is within
  none-up_to : (under : Id) (es : Entries) → AllUpTo under (ids_of es) → is_below under range.low ≡ true → within range es ≡ []
  none-up_to under [] up h = refl
  none-up_to under (e ∷ es) up h = rw (up_to-below under e.0 range.low up.0 h) (none-up_to under es up.1 h)

  -- none of those above an id that isn't below the high end is within
  pub none-above : (under : Id) (es : Entries) → AllAbove under (ids_of es) → is_below under range.high ≡ false → within range es ≡ []
  none-above under [] a h = refl
  none-above under (e ∷ es) a h = rw (outside e.0 (up_to-below under range.high e.0 h a.0)) (none-above under es a.1 h) where
    outside : (x : Id) → is_below range.high x ≡ true → is_within range x ≡ false
    outside x h = rw h (and_no (not (is_below x range.low))) where
      and_no : (t : Bool) → (t && false) ≡ false
      and_no true = refl
      and_no false = refl

-- an id below all entries is below those of some of the blocks too
pub above-some : (x : Id) (test : Id × Entries → Bool) (bs : Blocks) (newest : Entries) → AllAbove x (ids_of (entries_of_blocks bs ++ newest)) → AllAbove x (ids_of (entries_of_blocks (filter test bs) ++ newest))
above-some x test [] newest a = a
above-some x test (b ∷ bs) newest a = by (test b) (above-some x test bs newest (behind b.1 (entries_of_blocks bs ++ newest) all)) where
  behind : (es fs : Entries) → AllAbove x (ids_of (es ++ fs)) → AllAbove x (ids_of fs)
  behind [] fs a = a
  behind (e ∷ es) fs a = behind es fs a.1

  before : (es fs gs : Entries) → AllAbove x (ids_of (es ++ fs)) → AllAbove x (ids_of gs) → AllAbove x (ids_of (es ++ gs))
  before [] fs gs a rest = rest
  before (e ∷ es) fs gs a rest = (a.0, before es fs gs a.1 rest)

  all : AllAbove x (ids_of (b.1 ++ (entries_of_blocks bs ++ newest)))
  all = rw append_assoc at a

  by : (t : Bool) → AllAbove x (ids_of (entries_of_blocks (filter test bs) ++ newest)) → AllAbove x (ids_of (entries_of_blocks (cond t (b ∷ filter test bs) (filter test bs)) ++ newest))
  by true rest = rw append_assoc (before b.1 (entries_of_blocks bs ++ newest) (entries_of_blocks (filter test bs) ++ newest) all rest)
  by false rest = rest

pub not_true : (t : Bool) → not t ≡ true → t ≡ false
not_true true e = sym e
not_true false e = refl

-- some of the blocks are filed too
pub filed-some : (test : Id × Entries → Bool) (bs : Blocks) (newest : Entries) → AreFiled bs newest → AreFiled (filter test bs) newest
filed-some test [] newest filed = tt
filed-some test (b ∷ bs) newest filed = by (test b) (filed-some test bs newest filed.1) where
  by : (t : Bool) → AreFiled (filter test bs) newest → AreFiled (cond t (b ∷ filter test bs) (filter test bs)) newest
  by true rest = (
    record {
      has_entries = filed.0.has_entries;
      up_to_id = filed.0.up_to_id;
      later_above = above-some b.0 test bs newest filed.0.later_above;
    },
    rest,
  )
  by false rest = rest

module _ (range : Range) where
  -- a block that the walk meets, and one that it doesn't
  met : (b : Id × Entries) (bs cs : Blocks) (newest : Entries) → within range (entries_of_blocks cs ++ newest) ≡ within range (entries_of_blocks bs ++ newest) → within range (entries_of_blocks (b ∷ cs) ++ newest) ≡ within range (entries_of_blocks (b ∷ bs) ++ newest)
  met b bs cs newest rest =
      ap (within range) (append_assoc b.1 (entries_of_blocks cs) newest) ∙ within-append range b.1 (entries_of_blocks cs ++ newest) ∙ ap (λ es. within range b.1 ++ es) rest
      ∙ sym (ap (within range) (append_assoc b.1 (entries_of_blocks bs) newest) ∙ within-append range b.1 (entries_of_blocks bs ++ newest))

  unmet : (b : Id × Entries) (bs cs : Blocks) (newest : Entries) → within range b.1 ≡ [] → within range (entries_of_blocks cs ++ newest) ≡ within range (entries_of_blocks bs ++ newest) → within range (entries_of_blocks cs ++ newest) ≡ within range (entries_of_blocks (b ∷ bs) ++ newest)
  unmet b bs cs newest none rest =
      rest ∙ ap (λ es. es ++ within range (entries_of_blocks bs ++ newest)) (sym none) ∙ sym (ap (within range) (append_assoc b.1 (entries_of_blocks bs) newest) ∙ within-append range b.1 (entries_of_blocks bs ++ newest))

  -- a walk with no end
  pub walk-open : (bs : Blocks) (newest : Entries) → AreFiled bs newest → within range (entries_of_blocks (entries_between id_cmp (Included range.low) Unbounded bs) ++ newest) ≡ within range (entries_of_blocks bs ++ newest)
  walk-open [] newest filed = refl
  walk-open (b ∷ bs) newest filed = rw (and_yes (is_le (id_cmp range.low b.0)), le-not_below range.low b.0) (by (walk-open bs newest filed.1) (is_below b.0 range.low) refl) where
    by : within range (entries_of_blocks (entries_between id_cmp (Included range.low) Unbounded bs) ++ newest) ≡ within range (entries_of_blocks bs ++ newest) → (t : Bool) → is_below b.0 range.low ≡ t
        → within range (entries_of_blocks (cond (not t) (b ∷ entries_between id_cmp (Included range.low) Unbounded bs) (entries_between id_cmp (Included range.low) Unbounded bs)) ++ newest) ≡ within range (entries_of_blocks (b ∷ bs) ++ newest)
    by rest true is = unmet b bs (entries_between id_cmp (Included range.low) Unbounded bs) newest (none-up_to range b.0 b.1 filed.0.up_to_id is) rest
    by rest false is = met b bs (entries_between id_cmp (Included range.low) Unbounded bs) newest rest

  -- a walk that ends at the first block that is filed under the high end or above it
  walk-closed : (bs : Blocks) (newest : Entries) (end : Id) → AreFiled bs newest → is_below range.high range.low ≡ false → lookup_key (λ under. not (is_below under range.high)) bs ≡ Some end
      → within range (entries_of_blocks (entries_between id_cmp (Included range.low) (Included end) bs) ++ newest) ≡ within range (entries_of_blocks bs ++ newest)
  walk-closed [] newest end filed forward h = refl
  walk-closed (b ∷ bs) newest end filed forward h =
      rw (le-not_below range.low b.0) (by (walk-closed bs newest end filed.1 forward) (passes bs end) (is_below b.0 range.high) refl) where
        passes : (cs : Blocks) (key : Id) → lookup_key (λ under. not (is_below under range.high)) cs ≡ Some key → not (is_below key range.high) ≡ true
        passes cs key found =
            let entry = entry-of_key (λ under. not (is_below under range.high)) cs key found in
            entry-passes (λ under. not (is_below under range.high)) cs (key, entry.0) entry.1

        by : (lookup_key (λ under. not (is_below under range.high)) bs ≡ Some end → within range (entries_of_blocks (entries_between id_cmp (Included range.low) (Included end) bs) ++ newest) ≡ within range (entries_of_blocks bs ++ newest))
            → (lookup_key (λ under. not (is_below under range.high)) bs ≡ Some end → not (is_below end range.high) ≡ true)
            → (t : Bool) → is_below b.0 range.high ≡ t
            → within range (entries_of_blocks (cond (not (is_below b.0 range.low) && not (is_below end b.0)) (b ∷ entries_between id_cmp (Included range.low) (Included end) bs) (entries_between id_cmp (Included range.low) (Included end) bs)) ++ newest) ≡ within range (entries_of_blocks (b ∷ bs) ++ newest)
        by rest passed true is =
            let later : lookup_key (λ under. not (is_below under range.high)) bs ≡ Some end = rw is at h in
            let open_end : is_below end range.high ≡ false = not_true _ (passed later) in
            let before_end : is_below end b.0 ≡ false = below-not_back b.0 end (below-not_below b.0 range.high end is open_end) in
            rw before_end (start (is_below b.0 range.low) refl (rest later)) where
              start : (t : Bool) → is_below b.0 range.low ≡ t → within range (entries_of_blocks (entries_between id_cmp (Included range.low) (Included end) bs) ++ newest) ≡ within range (entries_of_blocks bs ++ newest)
                  → within range (entries_of_blocks (cond (not t && true) (b ∷ entries_between id_cmp (Included range.low) (Included end) bs) (entries_between id_cmp (Included range.low) (Included end) bs)) ++ newest) ≡ within range (entries_of_blocks (b ∷ bs) ++ newest)
              start true under others = unmet b bs (entries_between id_cmp (Included range.low) (Included end) bs) newest (none-up_to range b.0 b.1 filed.0.up_to_id under) others
              start false under others = met b bs (entries_between id_cmp (Included range.low) (Included end) bs) newest others
        by rest passed false is =
            let first : Some b.0 ≡ Some end = rw is at h in
            let same : b.0 ≡ end = cc in
            let from_low : is_below b.0 range.low ≡ false = not_above-trans b.0 range.high range.low is forward in
            let at_end : is_below end b.0 ≡ false = ap (λ x. is_below x b.0) (sym same) ∙ below-irrefl b.0 in
            let cs = entries_between id_cmp (Included range.low) (Included end) bs in
            let none_later = none-above range b.0 (entries_of_blocks bs ++ newest) filed.0.later_above is in
            let none_met = none-above range b.0 (entries_of_blocks cs ++ newest) (above-some b.0 (λ c. range_contains id_cmp (Included range.low) (Included end) c.0) bs newest filed.0.later_above) is in
            rw (from_low, at_end) (met b bs cs newest (none_met ∙ sym none_later))

  -- the walk of a range meets all that is within it, except the newest
  pub walk-within : (bs : Blocks) (newest : Entries) → AreFiled bs newest → is_below range.high range.low ≡ false
      → within range (entries_of_blocks (entries_between id_cmp (Included range.low) (end_at range.high bs) bs) ++ newest) ≡ within range (entries_of_blocks bs ++ newest)
  walk-within bs newest filed forward = by (lookup_key (λ under. not (is_below under range.high)) bs) refl where
    by : (key : Option Id) → lookup_key (λ under. not (is_below under range.high)) bs ≡ key → within range (entries_of_blocks (entries_between id_cmp (Included range.low) (end_under key) bs) ++ newest) ≡ within range (entries_of_blocks bs ++ newest)
    by None is = walk-open bs newest filed
    by (Some end) is = walk-closed bs newest end filed forward is

  -- and it doesn't run backwards
  pub walk-forward : (bs : Blocks) → is_below range.high range.low ≡ false → MatchBound (end_at range.high bs) (IsLeBy id_cmp range.low) (IsLeBy id_cmp range.low) ⊤
  walk-forward bs forward = by (lookup_key (λ under. not (is_below under range.high)) bs) refl where
    gt_turned : (r : Ordering) → is_gt r ≡ is_lt (ordering_reverse r)
    gt_turned Less = refl
    gt_turned Equal = refl
    gt_turned Greater = refl

    by : (key : Option Id) → lookup_key (λ under. not (is_below under range.high)) bs ≡ key → MatchBound (end_under key) (IsLeBy id_cmp range.low) (IsLeBy id_cmp range.low) ⊤
    by None is = tt
    by (Some end) is =
        let entry = entry-of_key (λ under. not (is_below under range.high)) bs end is in
        let up = entry-passes (λ under. not (is_below under range.high)) bs (end, entry.0) entry.1 in
        gt_turned (id_cmp range.low end) ∙ ap is_lt (sym (ids_total.antisymm end range.low)) ∙ not_above-trans end range.high range.low (not_true _ up) forward

-- ---- as many as the limit

-- more after what is cut off already
pub take-take_append : {X : Type 0} → (n : ℕ) (xs ys : List X) → take n (take n xs ++ ys) ≡ take n (xs ++ ys)
take-take_append zero xs ys = refl
take-take_append (suc n) [] ys = refl
take-take_append (suc n) (x ∷ xs) ys = ap (λ rest. x ∷ rest) (take-take_append n xs ys)

-- what follows the limit doesn't matter
pub take-full : {X : Type 0} → (n : ℕ) (xs ys zs : List X) → n ≤ length xs → take n (xs ++ ys) ≡ take n (xs ++ zs)
take-full n xs ys zs full = take-append-le n xs ys full ∙ sym (take-append-le n xs zs full)

pub listed-push : (bs : Blocks) (b : Id × Entries) → entries_of_blocks (bs ++ b ∷ []) ≡ entries_of_blocks bs ++ b.1
listed-push [] b = append-nil b.1
listed-push (c ∷ cs) b = ap (λ rest. c.1 ++ rest) (listed-push cs b) ∙ sym (append_assoc c.1 (entries_of_blocks cs) b.1)

module _ (range : Range) (n : ℕ) where
  -- one block more, from the low end up
  pub up-more : (es : Entries) (b : Id × Entries) (bs : Blocks) (newest : Entries)
      → take n (take n (es ++ within range b.1) ++ within range (entries_of_blocks bs ++ newest)) ≡ take n (es ++ within range (entries_of_blocks (b ∷ bs) ++ newest))
  up-more es b bs newest =
      take-take_append n (es ++ within range b.1) (within range (entries_of_blocks bs ++ newest))
      ∙ ap (take n) (append_assoc es (within range b.1) (within range (entries_of_blocks bs ++ newest))
      ∙ ap (λ rest. es ++ rest) (sym (ap (within range) (append_assoc b.1 (entries_of_blocks bs) newest) ∙ within-append range b.1 (entries_of_blocks bs ++ newest))))

  -- one block more, from the high end down
  pub down-more : (es : Entries) (bs : Blocks) (b : Id × Entries)
      → take n (take n (es ++ reverse (within range b.1)) ++ reverse (within range (entries_of_blocks bs))) ≡ take n (es ++ reverse (within range (entries_of_blocks (bs ++ b ∷ []))))
  down-more es bs b =
      take-take_append n (es ++ reverse (within range b.1)) (reverse (within range (entries_of_blocks bs)))
      ∙ ap (take n) (append_assoc es (reverse (within range b.1)) (reverse (within range (entries_of_blocks bs)))
      ∙ ap (λ rest. es ++ rest) (sym (ap (λ es. reverse (within range es)) (listed-push bs b) ∙ turned bs b.1))) where
        turned : (cs : Blocks) (es : Entries) → reverse (within range (entries_of_blocks cs ++ es)) ≡ reverse (within range es) ++ reverse (within range (entries_of_blocks cs))
        turned cs es = ap reverse (within-append range (entries_of_blocks cs) es) ∙ reverse-append (within range (entries_of_blocks cs)) (within range es)

  -- the newest come first, from the high end down
  pub down-newest : (bs : Blocks) (newest : Entries) → take n (take n (reverse (within range newest)) ++ reverse (within range (entries_of_blocks bs))) ≡ take n (reverse (within range (entries_of_blocks bs ++ newest)))
  down-newest bs newest =
      take-take_append n (reverse (within range newest)) (reverse (within range (entries_of_blocks bs)))
      ∙ ap (take n) (sym (ap reverse (within-append range (entries_of_blocks bs) newest) ∙ reverse-append (within range (entries_of_blocks bs)) (within range newest)))
