-- The entries of blocks follow their blocks: a change of the map of blocks is the same change of their lists of
-- entries.
use Rattle.std.proofs.Common.{◌≡◌, Bool, true, false, cond, List, [], ◌∷◌, ◌++◌, length, filter, Option, Some, None}
use Rattle.std.proofs.Common.{sym, ap, ◌∙◌, refl, suc, Ordering}
use Rattle.std.specs.Map.{lookup, remove_entry, set_value}
use Rattle.std.specs.Option.{option_map}
use Rattle.std.specs.BTreeMap.{insert_entry}
use Rattle.std.specs.BTreeMap.Range.{range_contains, entries_between}
use Rattle.std.specs.declared.ops.Bound.{Bound}
use Rattle.std.specs.Ordering.{match_ordering}
use Rattle.std.specs.declared.cmp.Ordering.TheVariants.{Less, Equal, Greater}
use Rattle.xs_stream.specs.declared.id.Id.{Id}
use Rattle.xs_stream.specs.declared.field.Field.{Field}
use Rattle.xs_stream.specs.Id.{id_cmp, is_same_id}
use Rattle.xs_stream.specs.BlockState.{BlockState}
use Rattle.xs_stream.specs.Blocks.{contents}

abbrev Filed : Type 0
Filed = List (Id × BlockState)

abbrev Blocks : Type 0
Blocks = List (Id × List (Id × List Field))

contents-cond : (t : Bool) (bs cs : Filed) → contents (cond t bs cs) ≡ cond t (contents bs) (contents cs)
contents-cond true bs cs = refl
contents-cond false bs cs = refl

pub contents-append : (bs cs : Filed) → contents (bs ++ cs) ≡ contents bs ++ contents cs
contents-append [] cs = refl
contents-append (b ∷ bs) cs = ap (λ rest. (b.0, b.1.entries) ∷ rest) (contents-append bs cs)

pub contents-length : (bs : Filed) → length (contents bs) ≡ length bs
contents-length [] = refl
contents-length (b ∷ bs) = ap suc (contents-length bs)

module _ (test : Id → Bool) where
  pub contents-filter : (bs : Filed) → contents (filter (λ b. test b.0) bs) ≡ filter (λ b. test b.0) (contents bs)
  contents-filter [] = refl
  contents-filter (b ∷ bs) =
      contents-cond (test b.0) (b ∷ filter (λ c. test c.0) bs) (filter (λ c. test c.0) bs)
      ∙ ap (λ rest. cond (test b.0) ((b.0, b.1.entries) ∷ rest) rest) (contents-filter bs)

  pub contents-set : (bs : Filed) (new : BlockState) → contents (set_value test bs new) ≡ set_value test (contents bs) new.entries
  contents-set [] new = refl
  contents-set (b ∷ bs) new =
      contents-cond (test b.0) ((b.0, new) ∷ bs) (b ∷ set_value test bs new)
      ∙ ap (λ rest. cond (test b.0) ((b.0, new.entries) ∷ contents bs) ((b.0, b.1.entries) ∷ rest)) (contents-set bs new)

  pub contents-remove : (bs : Filed) → contents (remove_entry test bs) ≡ remove_entry test (contents bs)
  contents-remove [] = refl
  contents-remove (b ∷ bs) =
      contents-cond (test b.0) bs (b ∷ remove_entry test bs)
      ∙ ap (λ rest. cond (test b.0) (contents bs) ((b.0, b.1.entries) ∷ rest)) (contents-remove bs)

  pub contents-lookup : (bs : Filed) → lookup test (contents bs) ≡ option_map (λ b. b.entries) (lookup test bs)
  contents-lookup [] = refl
  contents-lookup (b ∷ bs) = by (contents-lookup bs) (test b.0) where
    by : lookup test (contents bs) ≡ option_map (λ c. c.entries) (lookup test bs) → (t : Bool)
        → cond t (Some b.1.entries) (lookup test (contents bs)) ≡ option_map (λ (c : BlockState). c.entries) (cond t (Some b.1) (lookup test bs))
    by rest true = refl
    by rest false = rest

-- what a walk meets
pub contents-between : (low high : Bound Id) (bs : Filed) → entries_between id_cmp low high (contents bs) ≡ contents (entries_between id_cmp low high bs)
contents-between low high bs = sym (contents-filter (range_contains id_cmp low high) bs)

pub contents-insert : (bs : Filed) (key : Id) (new : BlockState) → contents (insert_entry id_cmp bs key new) ≡ insert_entry id_cmp (contents bs) key new.entries
contents-insert [] key new = refl
contents-insert (b ∷ bs) key new = by (contents-insert bs key new) (id_cmp key b.0) where
  by : contents (insert_entry id_cmp bs key new) ≡ insert_entry id_cmp (contents bs) key new.entries → (o : Ordering)
      → contents (match_ordering o ((key, new) ∷ b ∷ bs) ((b.0, new) ∷ bs) (b ∷ insert_entry id_cmp bs key new))
      ≡ match_ordering o ((key, new.entries) ∷ (b.0, b.1.entries) ∷ contents bs) ((b.0, new.entries) ∷ contents bs) ((b.0, b.1.entries) ∷ insert_entry id_cmp (contents bs) key new.entries)
  by rest Less = refl
  by rest Equal = refl
  by rest Greater = ap (λ cs. (b.0, b.1.entries) ∷ cs) rest

-- the block that is lent under a key has the entries of that key
pub contents-found : (under : Id) (bs : Filed) (block : BlockState) → Some block ≡ lookup (is_same_id under) bs → lookup (is_same_id under) (contents bs) ≡ Some block.entries
contents-found under bs block found = contents-lookup (is_same_id under) bs ∙ ap (option_map (λ (b : BlockState). b.entries)) (sym found)

-- if none is lent, there are none
pub contents-absent : (under : Id) (bs : Filed) → ◌≡◌ {A = Option BlockState} None (lookup (is_same_id under) bs) → lookup (is_same_id under) (contents bs) ≡ None
contents-absent under bs absent = contents-lookup (is_same_id under) bs ∙ ap (option_map (λ (b : BlockState). b.entries)) (sym absent)

-- a block that is written under a key
pub contents-written : (under : Id) (bs new : Filed) (block : BlockState) → new ≡ set_value (is_same_id under) bs block → contents new ≡ set_value (is_same_id under) (contents bs) block.entries
contents-written under bs new block written = ap contents written ∙ contents-set (is_same_id under) bs block
