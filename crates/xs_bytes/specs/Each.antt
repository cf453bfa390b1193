-- A list of entries with each value changed or removed. A list in the order of its keys stays in that order.
use Rattle.std.specs.Prelude.{Bool, true, false, ◌&&◌, T, List, [], ◌∷◌, Option, Some, None}
use Rattle.std.specs.FinMap.Entries.{below_all, is_sorted}
use Rattle.std.specs.declared.cmp.Ordering.{Ordering}

module _ {K X : Type 0} where
  -- a value, if there is one, before the other entries
  abbrev pub with_some : K → Option X → List (K × X) → List (K × X)
  with_some k None es = es
  with_some k (Some x) es = (k, x) ∷ es

  -- the entries with each value changed by `f`; an entry for which `f` has no value is removed
  abbrev pub each : (K → X → Option X) → List (K × X) → List (K × X)
  each f [] = []
  each f (e ∷ es) = with_some e.0 (f e.0 e.1) (each f es)

parts : (a b : Bool) → T (a && b) → T a × T b
parts true b p = (tt, p)
parts false b p = absurd p

both : (a b : Bool) → T a → T b → T (a && b)
both true b p q = q
both false b p q = p

module _ {K X : Type 0} (R : K → K → Ordering) (f : K → X → Option X) where
  below-each : (x : K) (es : List (K × X)) → T (below_all R x es) → T (below_all R x (each f es))
  below-each x [] h = tt
  below-each x (e ∷ es) h = by (f e.0 e.1) (below-each x es (parts _ _ h).1) where
    by : (v : Option X) → T (below_all R x (each f es)) → T (below_all R x (with_some e.0 v (each f es)))
    by None rest = rest
    by (Some v) rest = both _ _ (parts _ _ h).0 rest

  pub is_sorted-each : (es : List (K × X)) → T (is_sorted R es) → T (is_sorted R (each f es))
  is_sorted-each [] h = tt
  is_sorted-each (e ∷ es) h = by (f e.0 e.1) (is_sorted-each es (parts _ _ h).1) where
    by : (v : Option X) → T (is_sorted R (each f es)) → T (is_sorted R (with_some e.0 v (each f es)))
    by None rest = rest
    by (Some v) rest = both _ _ (below-each e.0 es (parts _ _ h).0) rest
