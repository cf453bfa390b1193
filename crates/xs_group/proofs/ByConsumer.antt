-- The index by consumer.
use Rattle.xs_group.proofs.Terms.{◌≡◌, ℕ, Bool, true, false, not, ◌&&◌, ◌||◌, List, Some, None, sym, ap, ◌∙◌}
use Rattle.xs_group.proofs.Terms.{BTreeMap, UpdatesBy, BTreeSet, nat_cmp, is_eq, eq_by_cmp_equiv, slice_cmp}
use Rattle.xs_group.proofs.Terms.{nat_list_cmp_total, tied_itself, exact_bytes, Id, id_cmp, is_same_id, has_id}
use Rattle.xs_group.proofs.Terms.{equal-from, is_same_id-symm, is_same_name, owner_at, seen_at, has_pending_id, arith}
use Rattle.xs_group.proofs.Terms.{Owner}
use Rattle.std.specs.BTreeMap as tree
use Rattle.std.specs.BTreeSet as set

pub is_same_name-eq : (a b : List ℕ) → is_same_name a b ≡ true → a ≡ b
is_same_name-eq a b e = exact_bytes a b (equal-from _ e)

pub is_same_name-refl : (a : List ℕ) → is_same_name a a ≡ true
is_same_name-refl a = ap is_eq (tied_itself nat_list_cmp_total a)

pub is_same_name-symm : (a b : List ℕ) → is_same_name a b ≡ is_same_name b a
is_same_name-symm a b = (eq_by_cmp_equiv nat_list_cmp_total).symm a b

abbrev pub Index : Type 0
Index = BTreeMap (List ℕ) Owner

and_yes : (b : Bool) → b ≡ (b && true)
and_yes b = grind arith

-- the ids of a consumer are replaced
abbrev pub with_ids : Owner → BTreeSet Id → Owner
with_ids owner ids = record { seen = owner.seen; ids = ids }

module _ (m n : Index) (name : List ℕ) (o : Owner) (w : BTreeSet Id) (e : tree.get (slice_cmp nat_cmp) m name ≡ Some o)
    (u : UpdatesBy (slice_cmp nat_cmp) (slice_cmp nat_cmp name) m n (Some (with_ids o w))) where
  found : (q : List ℕ) → is_same_name name q ≡ true → owner_at m.entries q ≡ Some o
  found q t = ap (λ k. owner_at m.entries k) (sym (is_same_name-eq name q t)) ∙ e

  pub seen-written : (q : List ℕ) → seen_at n.entries q ≡ seen_at m.entries q
  seen-written q = grind (arith, u.0 q, found q)

  -- more ids in the set that is found
  pub holds-put : (ids : List Id) → ((x : Id) → set.contains id_cmp w x ≡ (set.contains id_cmp o.ids x || has_id ids x)) → (q : List ℕ) (x : Id)
      → has_pending_id n.entries q x ≡ (has_pending_id m.entries q x || (is_same_name q name && has_id ids x))
  holds-put ids v q x = grind (arith, u.0 q, found q, v x, is_same_name-symm name q)

  -- an id less
  pub holds-removed : (id : Id) → set.UpdatesBy id_cmp (id_cmp id) o.ids w false → (q : List ℕ) (x : Id) → has_pending_id n.entries q x ≡ (has_pending_id m.entries q x && not (is_same_name q name && is_same_id x id))
  holds-removed id v q x = grind (arith, u.0 q, found q, v.0 x, is_same_name-symm name q, is_same_id-symm id x)

-- nothing is removed from a consumer that isn't in the group
pub holds-absent : (m n : Index) (name : List ℕ) → n ≡ m → tree.get (slice_cmp nat_cmp) m name ≡ None → (id : Id) (q : List ℕ) (x : Id)
    → has_pending_id n.entries q x ≡ (has_pending_id m.entries q x && not (is_same_name q name && is_same_id x id))
holds-absent m n name e none id q x = grind (arith, is_same_name-eq q name)
