-- What lookups in sorted maps return.
use Rattle.std.proofs.Common.{◌≡◌, Bool, true, false, cond, not, ◌&&◌, List, [], ◌∷◌, Option, Some, None}
use Rattle.std.proofs.Common.{option_and_then, sym, ap, subst, ◌∙◌, refl, Ordering}
use Rattle.std.proofs.Math.Dec.{T, T_prop}
use Rattle.std.specs.FinMap.Entries.{find, below_all, is_sorted, find-put, find-where_key, same_entries}
use Rattle.std.specs.FinMap.{IsAntisymmetric}
use Rattle.std.specs.Ordering.{eq_by_cmp, is_eq, is_lt}
use Rattle.std.specs.Cmp.{IsTotalOrder, eq_by_cmp_equiv}
use Rattle.std.proofs.lemmas.Cmp.{alike_right}
use Rattle.std.specs.declared.cmp.Ordering.TheVariants.{Less, Equal, Greater}
use Rattle.xs_bytes.specs.Each.{with_some, each}
use Rattle.xs_bytes.specs.SortedMap.{SortedMap, empty, get, insert_by, remove, change}
use Rattle.xs_bytes.specs.MapOf.{of_entries}

pub get-empty : {K X : Type 0} (R : K → K → Ordering) (q : K) → get (empty {X = X} {R = R}) q ≡ None
unfolding get empty
get-empty R q = refl

turned : {X : Type 0} (b : Bool) (x y : Option X) → cond (not b) x y ≡ cond b y x
turned true x y = refl
turned false x y = refl

module _ {K X : Type 0} {R : K → K → Ordering} where
  pub get-insert_by : (o : IsTotalOrder R) (m : SortedMap R X) (k : K) (x : X) (q : K) → get (insert_by o m k x) q ≡ cond (eq_by_cmp R q k) (Some x) (get m q)
  unfolding get insert_by
  get-insert_by o m k x q = find-put R o q k x m.entries

  pub get-remove : (o : IsTotalOrder R) (m : SortedMap R X) (k q : K) → get (remove m k) q ≡ cond (eq_by_cmp R q k) None (get m q)
  unfolding get remove
  get-remove o m k q = find-where_key R (λ x. not (eq_by_cmp R k x)) q (λ x t. ap (λ r. not (is_eq r)) (sym (alike_right o q x k t))) m.entries
      ∙ turned (eq_by_cmp R k q) (find R q m.entries) None ∙ ap (λ b. cond b None (find R q m.entries)) ((eq_by_cmp_equiv o).symm k q)

  pub get-of_entries : (o : IsTotalOrder R) (es : List (K × X)) (q : K) → get (of_entries o es) q ≡ find R q es
  get-of_entries o [] q = get-empty R q
  get-of_entries o (e ∷ es) q = get-insert_by o (of_entries o es) e.0 e.1 q ∙ ap (cond (eq_by_cmp R q e.0) (Some e.1)) (get-of_entries o es q)

  -- maps of the same entries are equal
  pub same_entries_map : (m n : SortedMap R X) → m.entries ≡ n.entries → m ≡ n
  same_entries_map m n e =
      subst (λ es. (s : T (is_sorted R es)) → m ≡ record { entries = es; sorted = s }) e (λ s i. record { entries = m.entries; sorted = T_prop _ m.sorted s i }) n.sorted

  -- maps that return the same value at each key are equal
  pub same_map : IsTotalOrder R → IsAntisymmetric R → (m n : SortedMap R X) → ((q : K) → get m q ≡ get n q) → m ≡ n
  unfolding get
  same_map o same m n is = same_entries_map m n (same_entries R o same m.entries n.entries m.sorted n.sorted is)

-- ---- the entries that are changed

kept-other : {K X : Type 0} (R : K → K → Ordering) (q k : K) (v : Option X) (es : List (K × X)) → eq_by_cmp R q k ≡ false → find R q (with_some k v es) ≡ find R q es
kept-other R q k None es e = refl
kept-other R q k (Some x) es e = rw e refl

kept-here : {K X : Type 0} (R : K → K → Ordering) (q k : K) (v : Option X) (es : List (K × X)) → eq_by_cmp R q k ≡ true → find R q es ≡ None → find R q (with_some k v es) ≡ v
kept-here R q k None es e none = none
kept-here R q k (Some x) es e none = rw e refl

less : (o : Ordering) → T (is_lt o) → o ≡ Less
less Less p = refl
less Equal p = absurd p
less Greater p = absurd p

equal : (r : Ordering) → is_eq r ≡ true → r ≡ Equal
equal Less p = cc
equal Equal p = refl
equal Greater p = cc

first : (a b : Bool) → T (a && b) → T a
first true b p = tt
first false b p = p

second : (a b : Bool) → T (a && b) → T b
second true b p = p
second false b p = absurd p

-- nothing is found at a key below all of them
find-below : {K X : Type 0} (R : K → K → Ordering) (k : K) (es : List (K × X)) → T (below_all R k es) → find R k es ≡ None
find-below R k [] h = refl
find-below R k (e ∷ es) h = ap (λ r. cond (is_eq r) (Some e.1) (find R k es)) (less _ (first _ _ h)) ∙ find-below R k es (second _ _ h)

module _ {K X : Type 0} {R : K → K → Ordering} where
  find-each : (o : IsTotalOrder R) → IsAntisymmetric R → (f : K → X → Option X) (q : K) (es : List (K × X)) → T (is_sorted R es)
      → find R q (each f es) ≡ option_and_then (f q) (find R q es)
  find-each o same f q [] h = refl
  find-each o same f q (e ∷ es) h = by (eq_by_cmp R q e.0) refl (find-each o same f q es (second _ _ h)) where
    by : (t : Bool) → eq_by_cmp R q e.0 ≡ t → find R q (each f es) ≡ option_and_then (f q) (find R q es)
        → find R q (with_some e.0 (f e.0 e.1) (each f es)) ≡ option_and_then (f q) (cond t (Some e.1) (find R q es))
    by true t rest =
        let is = same q e.0 (equal _ t) in
        let gone : find R q (each f es) ≡ None = rest ∙ ap (option_and_then (f q)) (ap (λ k. find R k es) is ∙ find-below R e.0 es (first _ _ h)) in
        kept-here R q e.0 (f e.0 e.1) (each f es) t gone ∙ ap (λ k. f k e.1) (sym is)
    by false t rest = kept-other R q e.0 (f e.0 e.1) (each f es) t ∙ rest

  pub get-change : (o : IsTotalOrder R) → IsAntisymmetric R → (f : K → X → Option X) (m : SortedMap R X) (q : K) → get (change f m) q ≡ option_and_then (f q) (get m q)
  unfolding get change
  get-change o same f m q = find-each o same f q m.entries m.sorted
