-- The map of entries as the code has it, and the map by names as which contracts see it.
use Rattle.std.proofs.Common.{◌≡◌, ℕ, true, cond, List, [], ◌∷◌, Option, Some, None, is_some, inl, inr, sym, ap, ◌∙◌}
use Rattle.std.proofs.Common.{refl, BTreeMap, MutBor, ◌+◌, length}
use Rattle.std.specs.Option.{ghost_name_of, option_copied_mut}
use Rattle.std.specs.FinMap.Entries.{find, same_entries, length_without}
use Rattle.xs_bytes.proofs.SortedMaps.{get-of_entries}
use Rattle.std.specs.Map.{lookup}
use Rattle.std.specs.BTreeMap as tree
use Rattle.std.specs.BTreeMap.{UpdatesBy, IsOrdered, is_at}
use Rattle.std.specs.Ordering.{nat_cmp}
use Rattle.std.specs.Cmp.{eq_by_cmp_equiv}
use Rattle.std.specs.Cmp.Lexicographic.{slice_cmp, nat_list_cmp_total}
use Rattle.xs_bytes.specs.MapOf.{from_entries}
use Rattle.xs_group.proofs.Ordered.{is_sorted-from}
use Rattle.xs_bytes.specs.SortedMap.{NameMap, get, has_key, insert, remove}
use Rattle.std.specs.List.{list_all}
use Rattle.xs_keys.specs.Terms.{is_same_name}
use Rattle.xs_keys.specs.NextName.{is_name_before, is_past_names}
use Rattle.xs_keys.proofs.NameMaps.{name_exact, same_map, get-insert, get-remove}
use borrow.Follows.Closed.{read_of}

module _ {X : Type 0} where
  find-lookup : (q : List ℕ) (es : List (List ℕ × X)) → find (slice_cmp nat_cmp) q es ≡ lookup (is_at (slice_cmp nat_cmp q)) es
  find-lookup q [] = refl
  find-lookup q (e ∷ es) = ap (cond (is_same_name q e.0) (Some e.1)) (find-lookup q es)

  -- a name is found in the value as it is found in the map
  pub get-entries : (m : BTreeMap (List ℕ) X) (q : List ℕ) → get (from_entries m.entries) q ≡ tree.get (slice_cmp nat_cmp) m q
  get-entries m q = get-of_entries nat_list_cmp_total m.entries q ∙ find-lookup q m.entries

  -- the value has the map's entries
  pub entries-entries : (m : BTreeMap (List ℕ) X) → IsOrdered (slice_cmp nat_cmp) m → (from_entries m.entries).entries ≡ m.entries
  unfolding get
  entries-entries m ordered =
      let made = from_entries m.entries in
      same_entries (slice_cmp nat_cmp) nat_list_cmp_total name_exact made.entries m.entries made.sorted (is_sorted-from (slice_cmp nat_cmp) m.entries ordered)
      (λ q. get-of_entries nat_list_cmp_total m.entries q)

  -- a name is above the same names
  pub past-entries : (m : BTreeMap (List ℕ) X) (name : List ℕ) → IsOrdered (slice_cmp nat_cmp) m → is_past_names name (from_entries m.entries) ≡ list_all (λ e. is_name_before e.0 name) m.entries
  past-entries m name ordered = ap (λ (es : List (List ℕ × X)). list_all (λ e. is_name_before e.0 name) es) (entries-entries m ordered)

-- removing a name leaves one entry less if it was there
pub length-remove : {X : Type 0} (m : NameMap X) (name : List ℕ) → cond (has_key m name) 1 0 + length (remove m name).entries ≡ length m.entries
unfolding get remove
length-remove m name = length_without (slice_cmp nat_cmp) nat_list_cmp_total name m.entries m.sorted

turned : (a b : List ℕ) → is_same_name a b ≡ is_same_name b a
turned a b = (eq_by_cmp_equiv nat_list_cmp_total).symm a b

module _ {X : Type 0} where
  -- a map with a new value at a name
  pub insert-entries : (m n : BTreeMap (List ℕ) X) (name : List ℕ) (x : X) → UpdatesBy (slice_cmp nat_cmp) (slice_cmp nat_cmp name) m n (Some x)
      → from_entries n.entries ≡ insert (from_entries m.entries) name x
  insert-entries m n name x u = same_map _ _ (λ q.
      get-entries n q ∙ u.0 q ∙ ap (λ b. cond b (Some x) (tree.get (slice_cmp nat_cmp) m q)) (turned name q)
      ∙ ap (cond (is_same_name q name) (Some x)) (sym (get-entries m q)) ∙ sym (get-insert (from_entries m.entries) name x q))

  -- a map without a name
  pub remove-entries : (m n : BTreeMap (List ℕ) X) (name : List ℕ) → UpdatesBy (slice_cmp nat_cmp) (slice_cmp nat_cmp name) m n None
      → from_entries n.entries ≡ remove (from_entries m.entries) name
  remove-entries m n name u = same_map _ _ (λ q.
      get-entries n q ∙ u.0 q ∙ ap (λ b. cond b None (tree.get (slice_cmp nat_cmp) m q)) (turned name q)
      ∙ ap (cond (is_same_name q name) None) (sym (get-entries m q)) ∙ sym (get-remove (from_entries m.entries) name q))

-- two definitions of the final value of a lender, which agree if a value is lent and if none is
pub same-loan : {D E : Type 0} (r : Option (MutBor E)) (lent : Option E) (F G : E → D) (v u : D) → option_copied_mut r ≡ lent
    → (is_some lent ≡ true → (w : E) → F w ≡ G w) → v ≡ u → read_of (ghost_name_of r) F v ≡ read_of (ghost_name_of r) G u
same-loan None lent F G v u e some none = ap inr none
same-loan (Some r) lent F G v u e some none = λ i. inl (r.ghost_name, λ w. some (sym (ap is_some e)) w i)
