-- The number of entries with ids below one: all of the blocks that are filed below it, and some of the next block.
use Rattle.std.proofs.Common.{◌≡◌, ◌+◌, Bool, true, false, not, cond, List, [], ◌∷◌, ◌++◌, length, filter}
use Rattle.std.proofs.Common.{sym, ap, ◌∙◌, refl, append_assoc, arith, length-append}
use Rattle.std.proofs.lemmas.List.Elements.{filter-append}
use Rattle.std.specs.BTreeMap.Range.{entries_between}
use Rattle.std.specs.Ordering.{is_le}
use Rattle.std.specs.declared.ops.Bound.TheVariants.{Included, Excluded, Unbounded}
use Rattle.xs_stream.specs.declared.id.Id.{Id}
use Rattle.xs_stream.specs.declared.field.Field.{Field}
use Rattle.xs_stream.specs.Id.{id_cmp, is_below}
use Rattle.xs_stream.specs.StreamContent.{ids_of, AllUpTo}
use Rattle.xs_stream.specs.Blocks.{entries_of_blocks, AreFiled}
use Rattle.xs_stream.proofs.Order.{up_to-below, le-not_below}
use Rattle.xs_stream.proofs.InOrder.{and_yes}
use Rattle.xs_stream.proofs.Dropping.{counted-first}
use Rattle.xs_stream.proofs.CountedPast.{first-met}

abbrev Entries : Type 0
Entries = List (Id × List Field)

abbrev Blocks : Type 0
Blocks = List (Id × List (Id × List Field))

module _ (low : Id) where
  abbrev pub below : Entries → Entries
  below es = filter (λ e. is_below e.0 low) es

  -- the blocks that are filed below this id, and the others
  abbrev pub blocks_below : Blocks → Blocks
  blocks_below bs = entries_between id_cmp Unbounded (Excluded low) bs

  abbrev pub blocks_from : Blocks → Blocks
  blocks_from bs = entries_between id_cmp (Included low) Unbounded bs

  all-below : (under : Id) (es : Entries) → AllUpTo under (ids_of es) → is_below under low ≡ true → below es ≡ es
  all-below under [] up h = refl
  all-below under (e ∷ es) up h = rw (up_to-below under e.0 low up.0 h) (ap (λ others. e ∷ others) (all-below under es up.1 h))

  below-block : (b : Id × Entries) (bs : Blocks) (newest : Entries)
      → length (below (entries_of_blocks (b ∷ bs) ++ newest)) ≡ length (below b.1) + length (below (entries_of_blocks bs ++ newest))
  below-block b bs newest =
      ap length (ap below (append_assoc b.1 (entries_of_blocks bs) newest) ∙ filter-append (λ e. is_below e.0 low) b.1 (entries_of_blocks bs ++ newest))
      ∙ length-append (below b.1) (below (entries_of_blocks bs ++ newest))

  -- a count of the blocks that are filed below and a search of the others miss no entry
  pub below-walk : (bs : Blocks) (newest : Entries) → AreFiled bs newest
      → length (below (entries_of_blocks bs ++ newest)) ≡ length (entries_of_blocks (blocks_below bs)) + length (below (entries_of_blocks (blocks_from bs) ++ newest))
  below-walk [] newest filed = omega arith
  below-walk (b ∷ bs) newest filed = rw (and_yes (is_le (id_cmp low b.0)), le-not_below low b.0) (by (below-walk bs newest filed.1) (is_below b.0 low) refl) where
    by : length (below (entries_of_blocks bs ++ newest)) ≡ length (entries_of_blocks (blocks_below bs)) + length (below (entries_of_blocks (blocks_from bs) ++ newest))
        → (t : Bool) → is_below b.0 low ≡ t
        → length (below (entries_of_blocks (b ∷ bs) ++ newest))
        ≡ length (entries_of_blocks (cond (not (not t)) (b ∷ blocks_below bs) (blocks_below bs))) + length (below (entries_of_blocks (cond (not t) (b ∷ blocks_from bs) (blocks_from bs)) ++ newest))
    by rest true is = omega (arith, rest, below-block b bs newest, ap length (all-below b.0 b.1 filed.0.up_to_id is), length-append b.1 (entries_of_blocks (blocks_below bs)))
    by rest false is = omega (arith, rest, below-block b bs newest, below-block b (blocks_from bs) newest)

  -- among those others only the first block has any
  pub below-first : (bs : Blocks) (b : Id × Entries) (left : Blocks) (newest : Entries) → AreFiled (b ∷ left) newest → blocks_from bs ≡ b ∷ left
      → length (below (entries_of_blocks (blocks_from bs) ++ newest)) ≡ length (below b.1)
  below-first bs b left newest filed met =
      ap (λ cs. length (below (entries_of_blocks cs ++ newest))) met ∙ sym (counted-first low b.0 b.1 left newest filed.0.later_above (first-met low bs b left met))
