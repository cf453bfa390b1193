-- The entries that have an id or one above it are among the blocks that a walk from that id meets.
use Rattle.std.proofs.Common.{◌≡◌, suc, ◌+◌, Bool, true, false, not, cond, List, [], ◌∷◌, ◌++◌, length, filter, Some}
use Rattle.std.proofs.Common.{sym, ap, ◌∙◌, refl, append_assoc}
use Rattle.std.proofs.lemmas.List.Elements.{filter-append}
use Rattle.std.proofs.lemmas.List.Filters.{length-filter_both}
use Rattle.std.specs.BTreeMap.Range.{entries_between}
use Rattle.std.specs.Ordering.{is_le}
use Rattle.std.specs.declared.ops.Bound.TheVariants.{Included, Unbounded}
use Rattle.xs_stream.specs.declared.id.Id.{Id}
use Rattle.xs_stream.specs.declared.field.Field.{Field}
use Rattle.xs_stream.specs.Id.{id_cmp, is_below}
use Rattle.xs_stream.specs.IdText.{next_id}
use Rattle.xs_stream.specs.StreamContent.{ids_of, AllUpTo, count_above}
use Rattle.xs_stream.specs.ConsistentStream.{AllIds}
use Rattle.xs_stream.specs.Blocks.{entries_of_blocks, AreFiled}
use Rattle.xs_stream.proofs.Order.{up_to-below, le-not_below}
use Rattle.xs_stream.proofs.InOrder.{and_yes}
use Rattle.xs_stream.proofs.Past.{from-past}

abbrev Entries : Type 0
Entries = List (Id × List Field)

abbrev Blocks : Type 0
Blocks = List (Id × List (Id × List Field))

-- those with this id or one above it
abbrev pub from : Id → Entries → Entries
from low es = filter (λ e. not (is_below e.0 low)) es

-- the others are below it
pub from-split : (low : Id) (es : Entries) → length (filter (λ e. is_below e.0 low) es) + length (from low es) ≡ length es
from-split low es = length-filter_both (λ e. is_below e.0 low) (λ e. not (is_below e.0 low)) (λ e. refl) es

module _ (low : Id) where
  none-up_to : (under : Id) (es : Entries) → AllUpTo under (ids_of es) → is_below under low ≡ true → from low es ≡ []
  none-up_to under [] up h = refl
  none-up_to under (e ∷ es) up h = rw (up_to-below under e.0 low up.0 h) (none-up_to under es up.1 h)

  -- those of a block, and of what follows it
  from-block : (b : Id × Entries) (bs : Blocks) (newest : Entries) → from low (entries_of_blocks (b ∷ bs) ++ newest) ≡ from low b.1 ++ from low (entries_of_blocks bs ++ newest)
  from-block b bs newest = ap (from low) (append_assoc b.1 (entries_of_blocks bs) newest) ∙ filter-append (λ e. not (is_below e.0 low)) b.1 (entries_of_blocks bs ++ newest)

  -- the walk from this id on misses none
  pub from-walk : (bs : Blocks) (newest : Entries) → AreFiled bs newest → from low (entries_of_blocks (entries_between id_cmp (Included low) Unbounded bs) ++ newest) ≡ from low (entries_of_blocks bs ++ newest)
  from-walk [] newest filed = refl
  from-walk (b ∷ bs) newest filed = rw (and_yes (is_le (id_cmp low b.0)), le-not_below low b.0) (by (from-walk bs newest filed.1) (is_below b.0 low) refl) where
    by : from low (entries_of_blocks (entries_between id_cmp (Included low) Unbounded bs) ++ newest) ≡ from low (entries_of_blocks bs ++ newest) → (t : Bool) → is_below b.0 low ≡ t
        → from low (entries_of_blocks (cond (not t) (b ∷ entries_between id_cmp (Included low) Unbounded bs) (entries_between id_cmp (Included low) Unbounded bs)) ++ newest) ≡ from low (entries_of_blocks (b ∷ bs) ++ newest)
    by rest true is = rest ∙ ap (λ es. es ++ from low (entries_of_blocks bs ++ newest)) (sym (none-up_to b.0 b.1 filed.0.up_to_id is)) ∙ sym (from-block b bs newest)
    by rest false is = from-block b (entries_between id_cmp (Included low) Unbounded bs) newest ∙ ap (λ es. from low b.1 ++ es) rest ∙ sym (from-block b bs newest)

  -- the first block that it meets isn't filed below this id
  pub first-met : (bs : Blocks) (b : Id × Entries) (left : Blocks) → entries_between id_cmp (Included low) Unbounded bs ≡ b ∷ left → is_below b.0 low ≡ false
  first-met [] b left h = absurd cc
  first-met (c ∷ bs) b left h = by (first-met bs b left) (is_below c.0 low) refl (rw (and_yes (is_le (id_cmp low c.0)), le-not_below low c.0) at h) where
    by : (entries_between id_cmp (Included low) Unbounded bs ≡ b ∷ left → is_below b.0 low ≡ false) → (t : Bool) → is_below c.0 low ≡ t
        → cond (not t) (c ∷ entries_between id_cmp (Included low) Unbounded bs) (entries_between id_cmp (Included low) Unbounded bs) ≡ b ∷ left → is_below b.0 low ≡ false
    by rest true is k = rest k
    by rest false is k = let same : c ≡ b = cc in ap (λ x. is_below x.0 low) (sym same) ∙ is

-- an entry above a cursor has the id of the cursor's successor, or one above that
pub counted-past : (cursor low : Id) (es : Entries) → next_id cursor ≡ Some low → AllIds (ids_of es) → length (from low es) ≡ count_above cursor (ids_of es)
counted-past cursor low [] h fit = refl
counted-past cursor low (e ∷ es) h fit = rw (from-past cursor low e.0 h fit.0) (by (is_below cursor e.0) (counted-past cursor low es h fit.1)) where
  by : (t : Bool) → length (from low es) ≡ count_above cursor (ids_of es) → length (cond t (e ∷ from low es) (from low es)) ≡ length (cond t (e.0 ∷ filter (λ y. is_below cursor y) (ids_of es)) (filter (λ y. is_below cursor y) (ids_of es)))
  by true rest = ap suc rest
  by false rest = rest
