-- The greatest of some ids doesn't depend on their order.
use Rattle.std.proofs.Common.{◌≡◌, ℕ, ◌+◌, Bool, true, false, not, ◌||◌, cond, List, [], ◌∷◌, ◌++◌, length, filter, refl, sym, ap, ◌∙◌, arith, Ordering}
use Rattle.std.specs.Map.{remove_entry}
use Rattle.std.specs.declared.cmp.Ordering.TheVariants.{Less, Equal, Greater}
use Rattle.std.specs.Ordering.{is_lt, ordering_reverse}
use Rattle.std.proofs.lemmas.Bool.{false≢true}
use Rattle.xs_stream.specs.declared.id.Id.{Id}
use Rattle.xs_stream.specs.declared.field.Field.{Field}
use Rattle.xs_stream.specs.Id.{id_cmp, is_below, is_same_id, has_id}
use Rattle.xs_stream.specs.StreamContent.{ids_of, greatest}
use Rattle.xs_stream.proofs.Order.{ids_total, same_id, is_same_id-eq, is_same_id-symm, below-irrefl, below-not_back, below-trans}
use Rattle.xs_stream.proofs.InOrder.{named-more}

-- the greater of two
abbrev pub greater : Id → Id → Id
greater a x = cond (is_below a x) x a

neither : (x y : Id) → is_below x y ≡ false → is_below y x ≡ false → x ≡ y
neither x y h k = by (id_cmp x y) refl where
  by : (r : Ordering) → id_cmp x y ≡ r → x ≡ y
  by Less e = absurd (false≢true (sym h ∙ ap is_lt e))
  by Equal e = same_id x y e
  by Greater e = absurd (false≢true (sym k ∙ ap is_lt (ids_total.antisymm y x ∙ ap ordering_reverse e)))

swapped : (a x y : Id) → greater (greater a x) y ≡ greater (greater a y) x
swapped a x y = by (is_below a x) (is_below a y) (is_below x y) (is_below y x) refl refl refl refl where
  by : (t u v w : Bool) → is_below a x ≡ t → is_below a y ≡ u → is_below x y ≡ v → is_below y x ≡ w → greater (greater a x) y ≡ greater (greater a y) x
  by true true true w e f g h = rw (e, f, g, below-not_back x y g) refl
  by true true false true e f g h = rw (e, f, g, h) refl
  by true true false false e f g h = rw (e, f, g, h) (neither x y g h)
  by true false true w e f g h = absurd (false≢true (sym f ∙ below-trans a x y e g))
  by true false false w e f g h = rw (e, f, g, e) refl
  by false true v true e f g h = absurd (false≢true (sym e ∙ below-trans a y x f h))
  by false true v false e f g h = rw (e, f, h) refl
  by false false v w e f g h = rw (e, f, e) refl

greatest-greater : (a x : Id) (ys : List Id) → greatest (greater a x) ys ≡ greater (greatest a ys) x
greatest-greater a x [] = refl
greatest-greater a x (y ∷ ys) = ap (λ b. greatest b ys) (swapped a x y) ∙ greatest-greater (greater a y) x ys

greater-again : (a x : Id) → greater (greater a x) x ≡ greater a x
greater-again a x = by (is_below a x) refl where
  by : (t : Bool) → is_below a x ≡ t → greater (greater a x) x ≡ greater a x
  by true e = rw (e, below-irrefl x) refl
  by false e = rw (e, e) refl

pub none-named : (xs : List Id) → filter (has_id []) xs ≡ []
none-named [] = refl
none-named (x ∷ xs) = none-named xs

-- one id more counts if it is among the ids that weren't named before
abbrev MoreCounts : List Id → Id → List Id → List Id → List Id → Id → Type 0
MoreCounts done id named others left a =
    greatest a named ≡ cond (has_id left id) (greater (greatest a others) id) (greatest a others)

abbrev named : List Id → Id → List Id → List Id
named done id all = filter (has_id (done ++ id ∷ [])) all

abbrev left : List Id → List Id → List Id
left done all = filter (λ x. not (has_id done x)) all

met : (done : List Id) (id x : Id) (xs : List Id) (a : Id) (t s : Bool) → is_same_id x id ≡ s
    → MoreCounts done id (named done id xs) (filter (has_id done) xs) (left done xs) a
    → MoreCounts done id (named done id xs) (filter (has_id done) xs) (left done xs) (greater a x)
    → MoreCounts done id (cond (t || s) (x ∷ named done id xs) (named done id xs)) (cond t (x ∷ filter (has_id done) xs) (filter (has_id done) xs))
    (cond (not t) (x ∷ left done xs) (left done xs)) a
met done id x xs a true s e rest more = more
met done id x xs a false false e rest more = rw (is_same_id-symm id x ∙ e) rest
met done id x xs a false true e rest more = rw (is_same_id-symm id x ∙ e) (more ∙ joined (has_id (left done xs) id)) where
  now : greatest (greater a x) (filter (has_id done) xs) ≡ greater (greatest a (filter (has_id done) xs)) id
  now = greatest-greater a x (filter (has_id done) xs) ∙ ap (greater (greatest a (filter (has_id done) xs))) (is_same_id-eq x id e)

  joined : (u : Bool) → cond u (greater (greatest (greater a x) (filter (has_id done) xs)) id) (greatest (greater a x) (filter (has_id done) xs)) ≡ greater (greatest a (filter (has_id done) xs)) id
  joined true = ap (λ b. greater b id) now ∙ greater-again (greatest a (filter (has_id done) xs)) id
  joined false = now

pub greatest-more : (done : List Id) (id : Id) (all : List Id) (a : Id)
    → greatest a (filter (has_id (done ++ id ∷ [])) all)
    ≡ cond (has_id (filter (λ x. not (has_id done x)) all) id) (greater (greatest a (filter (has_id done) all)) id) (greatest a (filter (has_id done) all))
greatest-more done id [] a = refl
greatest-more done id (x ∷ xs) a =
    rw (named-more done id x) (met done id x xs a (has_id done x) (is_same_id x id) refl (greatest-more done id xs a) (greatest-more done id xs (greater a x)))

-- ---- whether an entry was in the list

pub removed-length : (id : Id) (es : List (Id × List Field)) → length (remove_entry (is_same_id id) es) + cond (has_id (ids_of es) id) 1 0 ≡ length es
removed-length id [] = refl
removed-length id (e ∷ es) = by (is_same_id id e.0) (removed-length id es) where
  by : (t : Bool) → length (remove_entry (is_same_id id) es) + cond (has_id (ids_of es) id) 1 0 ≡ length es
      → length (cond t es (e ∷ remove_entry (is_same_id id) es)) + cond (t || has_id (ids_of es) id) 1 0 ≡ length (e ∷ es)
  by true rest = omega arith
  by false rest = omega (arith, rest)

pub same-bit : (s t : Bool) → ◌≡◌ {A = ℕ} (cond s 1 0) (cond t 1 0) → s ≡ t
same-bit true true e = refl
same-bit true false e = absurd (omega (arith, e))
same-bit false true e = absurd (omega (arith, e))
same-bit false false e = refl
