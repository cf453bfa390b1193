-- The order of ids.
use Rattle.std.proofs.Common.{◌≡◌, ℕ, ◌<◌, ◌≤◌, arith, Bool, true, false, not, Some, Ordering, sym, ap, ◌∙◌, refl}
use Rattle.std.specs.Cmp.{eq_by_cmp_equiv, IsTotalOrder, nat_cmp_is, nat_cmp_total, on_total, then_total}
use Rattle.std.specs.declared.cmp.Ordering.TheVariants.{Less, Equal, Greater}
use Rattle.std.specs.Ordering.{nat_cmp, is_lt, is_eq, is_le, is_some_and, ordering_reverse, ordering_then}
use Rattle.std.specs.Ordering.{partial_ordering_then}
use Rattle.std.proofs.lemmas.Cmp.{by_ranked, ranked, tied_itself}
use Rattle.std.proofs.lemmas.Bool.{false≢true}
use Rattle.xs_stream.specs.declared.id.Id.{Id}
use Rattle.xs_stream.specs.Id.{id_cmp, is_below, is_same_id}

pub ids_total : IsTotalOrder id_cmp
ids_total = then_total (on_total (λ s. s.ms) nat_cmp_total) (on_total (λ s. s.seq) nat_cmp_total)

pub less-from : (r : Ordering) → is_lt r ≡ true → r ≡ Less
less-from Less e = refl
less-from Equal e = absurd (false≢true e)
less-from Greater e = absurd (false≢true e)

pub equal-from : (r : Ordering) → is_eq r ≡ true → r ≡ Equal
equal-from Less e = absurd (false≢true e)
equal-from Equal e = refl
equal-from Greater e = absurd (false≢true e)

nat_same : (m n : ℕ) → nat_cmp m n ≡ Equal → m ≡ n
nat_same m n e = ranked m n Equal (sym e)

then_first : (r s : Ordering) → ordering_then r s ≡ Equal → r ≡ Equal
then_first Less s e = e
then_first Equal s e = refl
then_first Greater s e = e

then_second : (r s : Ordering) → ordering_then r s ≡ Equal → s ≡ Equal
then_second Less s e = cc
then_second Equal s e = e
then_second Greater s e = cc

-- ids that the order doesn't distinguish are equal
pub same_id : (a b : Id) → id_cmp a b ≡ Equal → a ≡ b
same_id a b e =
    let ms = nat_same a.ms b.ms (then_first _ _ e) in
    let seq = nat_same a.seq b.seq (then_second _ _ e) in
    λ i. record { ms = ms i; seq = seq i }

pub is_same_id-eq : (a b : Id) → is_same_id a b ≡ true → a ≡ b
is_same_id-eq a b e = same_id a b (equal-from _ e)

pub is_same_id-refl : (a : Id) → is_same_id a a ≡ true
is_same_id-refl a = ap is_eq (tied_itself ids_total a)

pub below-not_same : (a b : Id) → is_below a b ≡ true → is_same_id a b ≡ false
below-not_same a b e = ap is_eq (less-from _ e)

pub below-not_back : (a b : Id) → is_below a b ≡ true → is_below b a ≡ false
below-not_back a b e = ap is_lt (ids_total.antisymm b a ∙ ap ordering_reverse (less-from _ e))

-- what is no later, and has a lower sequence number if it isn't earlier
pub earlier-below : (a b : Id) → a.ms ≤ b.ms → (b.ms ≤ a.ms → a.seq < b.seq) → is_below a b ≡ true
earlier-below a b h k = by_ranked (a.ms < b.ms) (a.ms ≡ b.ms) (b.ms < a.ms) (nat_cmp a.ms b.ms) (ranked a.ms b.ms (nat_cmp a.ms b.ms) refl)
    (λ e lower. ap (λ r. is_lt (ordering_then r (nat_cmp a.seq b.seq))) e)
    (λ e same. ap (λ r. is_lt (ordering_then r (nat_cmp a.seq b.seq))) e ∙ ap is_lt (sym (nat_cmp_is a.seq b.seq Less (k (omega (arith, same))))))
    (λ e higher. absurd (omega (arith, h, higher)))

pub below-irrefl : (a : Id) → is_below a a ≡ false
below-irrefl a = ap is_lt (tied_itself ids_total a)

pub below-trans : (a b c : Id) → is_below a b ≡ true → is_below b c ≡ true → is_below a c ≡ true
below-trans a b c p q = ap is_lt (ids_total.trans a b c (less-from _ p) (less-from _ q))

up_to_by : (a b c : Id) (r : Ordering) → id_cmp a b ≡ r → is_lt r ≡ false → is_below a c ≡ true → is_below b c ≡ true
up_to_by a b c Less e h p = absurd (false≢true (sym h))
up_to_by a b c Equal e h p = ap is_lt (sym (ids_total.congr a b c e)) ∙ p
up_to_by a b c Greater e h p =
    let back : id_cmp b a ≡ Less = ids_total.antisymm b a ∙ ap ordering_reverse e in
    below-trans b a c (ap is_lt back) p

-- what is not above a is below all that a is below
pub up_to-below : (a b c : Id) → is_below a b ≡ false → is_below a c ≡ true → is_below b c ≡ true
up_to-below a b c h p = up_to_by a b c (id_cmp a b) refl h p

-- what is above is greater
pub above-greater : (a b : Id) → is_below a b ≡ true → id_cmp b a ≡ Greater
above-greater a b e = ids_total.antisymm b a ∙ ap ordering_reverse (less-from _ e)

-- not above c, and c below b, and so on: a chain of `≤` and `<`
pub not_above-trans : (a b c : Id) → is_below a b ≡ false → is_below b c ≡ false → is_below a c ≡ false
not_above-trans a b c h k = by (is_below a c) refl where
  by : (t : Bool) → is_below a c ≡ t → is_below a c ≡ false
  by false e = e
  by true e = absurd (false≢true (sym k ∙ up_to-below a b c h e))

pub is_same_id-symm : (a b : Id) → is_same_id a b ≡ is_same_id b a
is_same_id-symm a b = (eq_by_cmp_equiv ids_total).symm a b

-- what is above something not below low isn't below low either
pub not_below-above : (x low y : Id) → is_below x low ≡ false → is_below x y ≡ true → is_below y low ≡ false
not_below-above x low y h a = by (is_below y low) refl where
  by : (t : Bool) → is_below y low ≡ t → is_below y low ≡ false
  by false e = e
  by true e = absurd (false≢true (sym h ∙ below-trans x y low a e))

le_turned : (r : Ordering) → is_le (ordering_reverse r) ≡ not (is_lt r)
le_turned Less = refl
le_turned Equal = refl
le_turned Greater = refl

-- at or below is not above
pub le-not_below : (a b : Id) → is_le (id_cmp a b) ≡ not (is_below b a)
le-not_below a b = ap is_le (ids_total.antisymm a b) ∙ le_turned (id_cmp b a)

not_not : (t : Bool) → not (not t) ≡ t
not_not true = refl
not_not false = refl

pub not_le-below : (a b : Id) → not (is_le (id_cmp a b)) ≡ is_below b a
not_le-below a b = ap not (le-not_below a b) ∙ not_not (is_below b a)

-- what is at low or above is above all that is below low
pub below-not_below : (high low x : Id) → is_below high low ≡ true → is_below x low ≡ false → is_below high x ≡ true
below-not_below high low x h k = by (is_below high x) refl where
  by : (t : Bool) → is_below high x ≡ t → is_below high x ≡ true
  by true e = e
  by false e = absurd (false≢true (sym k ∙ up_to-below high x low e h))

-- the test of `<` is that of the order
pub partial-below : (r s : Ordering) → is_some_and is_lt (partial_ordering_then (Some r) (Some s)) ≡ is_lt (ordering_then r s)
partial-below Less s = refl
partial-below Equal s = refl
partial-below Greater s = refl

pub partial-le : (r s : Ordering) → is_some_and is_le (partial_ordering_then (Some r) (Some s)) ≡ is_le (ordering_then r s)
partial-le Less s = refl
partial-le Equal s = refl
partial-le Greater s = refl
