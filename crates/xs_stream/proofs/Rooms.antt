-- The memory of filed blocks: how the sum changes if one is filed, removed or changed.
use Rattle.std.proofs.Common.{◌≡◌, ℕ, ◌+◌, ◌*◌, ◌^◌, ◌<◌, ◌≤◌, Bool, true, false, cond, List, [], ◌∷◌, ◌++◌, length, Some, suc}
use Rattle.std.proofs.Common.{◌-◌, sym, ap, ◌∙◌, refl, arith, length-append, Ordering, subst}
use Rattle.std.specs.Map.{lookup, remove_entry, set_value}
use Rattle.std.specs.BTreeMap.{insert_entry}
use Rattle.std.specs.Ordering.{match_ordering}
use Rattle.std.specs.declared.cmp.Ordering.TheVariants.{Less, Equal, Greater}
use Rattle.xs_stream.specs.declared.id.Id.{Id}
use Rattle.xs_stream.specs.declared.field.Field.{Field}
use Rattle.xs_stream.specs.Id.{id_cmp, is_same_id}
use Rattle.xs_stream.specs.BlockState.{BlockState}
use Rattle.xs_stream.specs.Blocks.{entries_of_blocks, AreFiled, room_of_blocks, place_room, AllFit, AreMeasured}

abbrev pub Filed : Type 0
Filed = List (Id × BlockState)

abbrev Entries : Type 0
Entries = List (Id × List Field)

-- the memory of this number of blocks can be added up
pub room-bound : (bs : Filed) → AllFit bs → room_of_blocks bs ≤ length bs * (2 ^ 63 + 128)
room-bound [] fit = omega arith
room-bound (b ∷ bs) fit = omega (arith, room-bound bs fit.1, fit.0)

-- each filed block has entries
pub few-blocks : (bs : List (Id × Entries)) (newest : Entries) → AreFiled bs newest → length bs ≤ length (entries_of_blocks bs ++ newest)
few-blocks [] newest filed = omega arith
few-blocks (b ∷ bs) newest filed =
    omega (arith, few-blocks bs newest filed.1, filed.0.has_entries, length-append b.1 (entries_of_blocks bs), length-append (b.1 ++ entries_of_blocks bs) newest, length-append (entries_of_blocks bs) newest)

module _ (test : Id → Bool) where
  -- a block that is removed
  pub room-removed : (bs : Filed) (block : BlockState) → lookup test bs ≡ Some block → room_of_blocks (remove_entry test bs) + (block.room + place_room) ≡ room_of_blocks bs
  room-removed [] block h = let no = h in absurd (cc)
  room-removed (b ∷ bs) block h = by (room-removed bs block) (test b.0) refl where
    by : (lookup test bs ≡ Some block → room_of_blocks (remove_entry test bs) + (block.room + place_room) ≡ room_of_blocks bs) → (t : Bool) → test b.0 ≡ t
        → room_of_blocks (remove_entry test (b ∷ bs)) + (block.room + place_room) ≡ room_of_blocks (b ∷ bs)
    by rest true is =
        let first : Some b.1 ≡ Some block = rw is at h in
        let same : b.1 ≡ block = cc in
        rw is (omega (arith, ap (λ (c : BlockState). c.room) same))
    by rest false is = rw is (omega (arith, rest (rw is at h)))

  -- a block that is replaced
  pub room-set : (bs : Filed) (block new : BlockState) → lookup test bs ≡ Some block → room_of_blocks (set_value test bs new) + block.room ≡ room_of_blocks bs + new.room
  room-set [] block new h = let no = h in absurd (cc)
  room-set (b ∷ bs) block new h = by (room-set bs block new) (test b.0) refl where
    by : (lookup test bs ≡ Some block → room_of_blocks (set_value test bs new) + block.room ≡ room_of_blocks bs + new.room) → (t : Bool) → test b.0 ≡ t
        → room_of_blocks (set_value test (b ∷ bs) new) + block.room ≡ room_of_blocks (b ∷ bs) + new.room
    by rest true is =
        let first : Some b.1 ≡ Some block = rw is at h in
        let same : b.1 ≡ block = cc in
        rw is (omega (arith, ap (λ (c : BlockState). c.room) same))
    by rest false is = rw is (omega (arith, rest (rw is at h)))

  pub fit-found : (bs : Filed) (block : BlockState) → AllFit bs → lookup test bs ≡ Some block → block.room < 2 ^ 63
  fit-found [] block fit h = let no = h in absurd (cc)
  fit-found (b ∷ bs) block fit h = by (fit-found bs block fit.1) (test b.0) refl where
    by : (lookup test bs ≡ Some block → block.room < 2 ^ 63) → (t : Bool) → test b.0 ≡ t → block.room < 2 ^ 63
    by rest true is =
        let first : Some b.1 ≡ Some block = rw is at h in
        let same : b.1 ≡ block = cc in
        omega (arith, ap (λ (c : BlockState). c.room) same, fit.0)
    by rest false is = rest (rw is at h)

  pub fit-removed : (bs : Filed) → AllFit bs → AllFit (remove_entry test bs)
  fit-removed [] fit = tt
  fit-removed (b ∷ bs) fit = by (fit-removed bs fit.1) (test b.0) where
    by : AllFit (remove_entry test bs) → (t : Bool) → AllFit (cond t bs (b ∷ remove_entry test bs))
    by rest true = fit.1
    by rest false = (fit.0, rest)

  pub fit-set : (bs : Filed) (new : BlockState) → new.room < 2 ^ 63 → AllFit bs → AllFit (set_value test bs new)
  fit-set [] new small fit = tt
  fit-set (b ∷ bs) new small fit = by (fit-set bs new small fit.1) (test b.0) where
    by : AllFit (set_value test bs new) → (t : Bool) → AllFit (cond t ((b.0, new) ∷ bs) (b ∷ set_value test bs new))
    by rest true = (small, fit.1)
    by rest false = (fit.0, rest)

  pub fewer-removed : (bs : Filed) → length (remove_entry test bs) ≤ length bs
  fewer-removed [] = omega arith
  fewer-removed (b ∷ bs) = by (fewer-removed bs) (test b.0) where
    by : length (remove_entry test bs) ≤ length bs → (t : Bool) → length (cond t bs (b ∷ remove_entry test bs)) ≤ suc (length bs)
    by rest true = omega arith
    by rest false = omega (arith, rest)

  pub as_many-set : (bs : Filed) (new : BlockState) → length (set_value test bs new) ≡ length bs
  as_many-set [] new = refl
  as_many-set (b ∷ bs) new = by (as_many-set bs new) (test b.0) where
    by : length (set_value test bs new) ≡ length bs → (t : Bool) → length (cond t ((b.0, new) ∷ bs) (b ∷ set_value test bs new)) ≡ suc (length bs)
    by rest true = refl
    by rest false = ap suc rest

module _ (key : Id) (new : BlockState) where
  -- a block more
  pub room-inserted : (bs : Filed) → length (insert_entry id_cmp bs key new) ≡ length bs + 1 → room_of_blocks (insert_entry id_cmp bs key new) ≡ room_of_blocks bs + (new.room + place_room)
  room-inserted [] more = omega arith
  room-inserted (b ∷ bs) more = by (room-inserted bs) (id_cmp key b.0) more where
    by : (length (insert_entry id_cmp bs key new) ≡ length bs + 1 → room_of_blocks (insert_entry id_cmp bs key new) ≡ room_of_blocks bs + (new.room + place_room)) → (o : Ordering)
        → length (match_ordering o ((key, new) ∷ b ∷ bs) ((b.0, new) ∷ bs) (b ∷ insert_entry id_cmp bs key new)) ≡ suc (length bs) + 1
        → room_of_blocks (match_ordering o ((key, new) ∷ b ∷ bs) ((b.0, new) ∷ bs) (b ∷ insert_entry id_cmp bs key new)) ≡ room_of_blocks (b ∷ bs) + (new.room + place_room)
    by rest Less more = omega arith
    by rest Equal more = absurd (omega (arith, more))
    by rest Greater more = let later : length (insert_entry id_cmp bs key new) ≡ length bs + 1 = omega (arith, more) in omega (arith, rest later)

  pub fit-inserted : (bs : Filed) → new.room < 2 ^ 63 → AllFit bs → AllFit (insert_entry id_cmp bs key new)
  fit-inserted [] small fit = (small, tt)
  fit-inserted (b ∷ bs) small fit = by (fit-inserted bs small fit.1) (id_cmp key b.0) where
    by : AllFit (insert_entry id_cmp bs key new) → (o : Ordering) → AllFit (match_ordering o ((key, new) ∷ b ∷ bs) ((b.0, new) ∷ bs) (b ∷ insert_entry id_cmp bs key new))
    by rest Less = (small, fit)
    by rest Equal = (small, fit.1)
    by rest Greater = (fit.0, rest)

-- ---- what is measured stays measured

-- one more sum is within the numbers
pub adds-up : (bs : Filed) (room : ℕ) → AreMeasured bs room → room + 2 ^ 64 + 2 ^ 64 < 2 ^ 128
adds-up bs room measured = omega (arith, room-bound bs measured.fit, measured.sum, measured.few)

-- the sum is far below the greatest number
pub sum-small : (bs : Filed) (room : ℕ) → AreMeasured bs room → room + 2 ^ 64 < 2 ^ 127
sum-small bs room measured = omega (arith, room-bound bs measured.fit, measured.sum, measured.few)

module _ (bs new : Filed) (room : ℕ) (measured : AreMeasured bs room) where
  module _ (under : Id) (block : BlockState) (found : Some block ≡ lookup (is_same_id under) bs) where
    -- the memory of a filed block is part of the sum
    pub room-within : block.room + place_room ≤ room
    room-within = omega (arith, room-removed (is_same_id under) bs block (sym found), measured.sum)

    pub measured-set : (left : BlockState) (after : ℕ) → new ≡ set_value (is_same_id under) bs left → left.room < 2 ^ 63 → after + block.room ≡ room + left.room → AreMeasured new after
    measured-set left after is small sum = rw is (record {
      sum = omega (arith, sum, measured.sum, room-set (is_same_id under) bs block left (sym found));
      fit = fit-set (is_same_id under) bs left small measured.fit;
      few = omega (arith, as_many-set (is_same_id under) bs left, measured.few);
    })

    -- a block that is unchanged
    pub measured-kept : new ≡ set_value (is_same_id under) bs block → AreMeasured new room
    measured-kept is = measured-set block room is (fit-found (is_same_id under) bs block measured.fit (sym found)) refl

    pub measured-removed : new ≡ remove_entry (is_same_id under) bs → AreMeasured new (room - (block.room + place_room))
    measured-removed is = rw is (record {
      sum = omega (arith, measured.sum, room-removed (is_same_id under) bs block (sym found));
      fit = fit-removed (is_same_id under) bs measured.fit;
      few = omega (arith, fewer-removed (is_same_id under) bs, measured.few);
    })

  -- the first block is removed
  module _ (first : Id × BlockState) (rest : Filed) (split : bs ≡ first ∷ rest) where
    pub first-room-within : first.1.room + place_room ≤ room
    first-room-within = omega (arith, ap room_of_blocks split, measured.sum)

    pub measured-popped : new ≡ rest → AreMeasured new (room - (first.1.room + place_room))
    measured-popped is = rw is (record {
      sum = omega (arith, ap room_of_blocks split, measured.sum);
      fit = (subst AllFit split measured.fit).1;
      few = omega (arith, ap length split, measured.few);
    })

  -- a block is inserted
  pub measured-inserted : (key : Id) (block : BlockState) → new ≡ insert_entry id_cmp bs key block → length new ≡ length bs + 1 → length new < 2 ^ 63 → block.room < 2 ^ 63 → AreMeasured new (room + (block.room + place_room))
  measured-inserted key block is more few small =
      let grown : length (insert_entry id_cmp bs key block) ≡ length bs + 1 = sym (ap length is) ∙ more in
      record {
        sum = omega (arith, measured.sum, ap room_of_blocks is, room-inserted key block bs grown);
        fit = subst AllFit (sym is) (fit-inserted key block bs small measured.fit);
        few = few;
      }
