-- The ids above a cursor are those of a range.
use Rattle.std.proofs.Common.{◌≡◌, ℕ, zero, suc, ◌+◌, ◌*◌, ◌^◌, ◌<◌, ◌≤◌, Bool, true, false, not, ◌&&◌, ◌||◌, cond, ltb, eqb, List, [], ◌∷◌}
use Rattle.std.proofs.Common.{filter, take, Option, Some, None, sym, ap, ◌∙◌, refl, subst, arith}
use Rattle.std.proofs.lemmas.Bool.Decides.{nat_tests}
use Rattle.std.specs.Ordering.{nat_cmp, is_lt}
use Rattle.xs_stream.specs.declared.id.Id.{Id}
use Rattle.xs_stream.specs.declared.field.Field.{Field}
use Rattle.xs_stream.specs.Id.{is_below, greatest_number}
use Rattle.xs_stream.specs.IdText.{next_id}
use Rattle.xs_stream.specs.StreamContent.{ids_of, AllAbove, AllUpTo, Ascends, is_within, up_to_limit, entries_within}
use Rattle.xs_stream.specs.ConsistentStream.{IsId, AllIds, rank_of}
use Rattle.xs_stream.proofs.InOrder.{and_yes, ascends-filter, ids_of-filter}
use Rattle.xs_stream.proofs.Lending.{ids-within}

lt-ltb : (s t : ℕ) → is_lt (nat_cmp s t) ≡ ltb s t
lt-ltb s t = by (ltb s t) (eqb s t) refl refl where
  by : (a b : Bool) → ltb s t ≡ a → eqb s t ≡ b → is_lt (nat_cmp s t) ≡ a
  by true b e f = rw e refl
  by false true e f = rw (e, f) refl
  by false false e f = rw (e, f) refl

-- the order in numbers
below-is : (m s n t : ℕ) → is_below (record { ms = m; seq = s }) (record { ms = n; seq = t }) ≡ (ltb m n || (eqb m n && ltb s t))
below-is m s n t = by (ltb m n) (eqb m n) refl refl where
  by : (a b : Bool) → ltb m n ≡ a → eqb m n ≡ b → is_below (record { ms = m; seq = s }) (record { ms = n; seq = t }) ≡ (a || (b && ltb s t))
  by true b e f = rw e refl
  by false true e f = rw (e, f) (lt-ltb s t)
  by false false e f = rw (e, f) refl

rank-lower : (m s n t : ℕ) → s < 18446744073709551616 → (ltb m n || (eqb m n && ltb s t)) ≡ true → m * 18446744073709551616 + s + 1 ≤ n * 18446744073709551616 + t
rank-lower m s n t fits e = grind (arith, nat_tests)

-- what is below has a lower rank
pub rank-below : (a b : Id) → a.seq < 2 ^ 64 → is_below a b ≡ true → rank_of a + 1 ≤ rank_of b
rank-below a b fits e = rank-lower a.ms a.seq b.ms b.seq fits (sym (below-is a.ms a.seq b.ms b.seq) ∙ e)

after_next : (m s n t : ℕ) → not (ltb n m || (eqb n m && ltb t (s + 1))) ≡ (ltb m n || (eqb m n && ltb s t))
after_next m s n t = grind (arith, nat_tests)

after_last : (m s n t : ℕ) → ltb s greatest_number ≡ false → t < 18446744073709551616 → not (ltb n (m + 1) || (eqb n (m + 1) && ltb t 0)) ≡ (ltb m n || (eqb m n && ltb s t))
after_last m s n t e h = grind (arith, nat_tests)

none_after : (m s n t : ℕ) → ltb m greatest_number ≡ false → ltb s greatest_number ≡ false → n < 18446744073709551616 → t < 18446744073709551616 → (ltb m n || (eqb m n && ltb s t)) ≡ false
none_after m s n t e f h k = grind (arith, nat_tests)

-- what is above a cursor isn't below its successor
pub from-past : (cursor low x : Id) → next_id cursor ≡ Some low → IsId x → not (is_below x low) ≡ is_below cursor x
from-past cursor low x h fits =
    by (ltb cursor.seq greatest_number) (ltb cursor.ms greatest_number) refl h where
      by : (s m : Bool) → ltb cursor.seq greatest_number ≡ s
          → cond s (Some (record { ms = cursor.ms; seq = cursor.seq + 1 })) (cond m (Some (record { ms = cursor.ms + 1; seq = 0 })) None) ≡ Some low → not (is_below x low) ≡ is_below cursor x
      by true m e f =
          let next : record { ms = cursor.ms; seq = cursor.seq + 1 } ≡ low = cc in
          ap (λ l. not (is_below x l)) (sym next) ∙ ap not (below-is x.ms x.seq cursor.ms (cursor.seq + 1)) ∙ after_next cursor.ms cursor.seq x.ms x.seq
          ∙ sym (below-is cursor.ms cursor.seq x.ms x.seq)
      by false true e f =
          let next : record { ms = cursor.ms + 1; seq = 0 } ≡ low = cc in
          ap (λ l. not (is_below x l)) (sym next) ∙ ap not (below-is x.ms x.seq (cursor.ms + 1) 0) ∙ after_last cursor.ms cursor.seq x.ms x.seq e fits.1
          ∙ sym (below-is cursor.ms cursor.seq x.ms x.seq)
      by false false e f = let no = f in cc

-- if a cursor has no successor nothing is above it
none-above : (cursor x : Id) → next_id cursor ≡ None → IsId x → is_below cursor x ≡ false
none-above cursor x h fits = below-is cursor.ms cursor.seq x.ms x.seq ∙ by (ltb cursor.seq greatest_number) (ltb cursor.ms greatest_number) refl refl h where
  by : (s m : Bool) → ltb cursor.seq greatest_number ≡ s → ltb cursor.ms greatest_number ≡ m
      → cond {A = Option Id} s (Some (record { ms = cursor.ms; seq = cursor.seq + 1 })) (cond m (Some (record { ms = cursor.ms + 1; seq = 0 })) None) ≡ None
      → (ltb cursor.ms x.ms || (eqb cursor.ms x.ms && ltb cursor.seq x.seq)) ≡ false
  by true m e f g = let no = g in cc
  by false true e f g = let no = g in cc
  by false false e f g = none_after cursor.ms cursor.seq x.ms x.seq f e fits.0 fits.1

-- the ids up to a top that are above a cursor are those of the range between the two
past-within : (cursor low top : Id) (ids : List Id) → next_id cursor ≡ Some low → AllIds ids → AllUpTo top ids
    → filter (is_within (record { low = low; high = top })) ids ≡ filter (λ x. is_below cursor x) ids
past-within cursor low top [] h fit up = refl
past-within cursor low top (x ∷ xs) h fit up =
    rw (up.0, and_yes (not (is_below x low)), from-past cursor low x h fit.0)
    (ap (λ rest. cond (is_below cursor x) (x ∷ rest) rest) (past-within cursor low top xs h fit.1 up.1))

pub past-ids : (cursor low top : Id) (limit : Option ℕ) (es : List (Id × List Field)) → next_id cursor ≡ Some low → AllIds (ids_of es) → AllUpTo top (ids_of es)
    → ids_of (entries_within (record { low = low; high = top }) false limit es) ≡ up_to_limit limit (filter (λ x. is_below cursor x) (ids_of es))
past-ids cursor low top limit es h fit up =
    ids-within (record { low = low; high = top }) false limit es ∙ ap (up_to_limit limit) (past-within cursor low top (ids_of es) h fit up)

pub past-none : (cursor : Id) (ids : List Id) → next_id cursor ≡ None → AllIds ids → filter (λ x. is_below cursor x) ids ≡ []
past-none cursor [] h fit = refl
past-none cursor (x ∷ xs) h fit = rw (none-above cursor x h fit.0) (past-none cursor xs h fit.1)

-- ---- they ascend

above-take : (x : Id) (n : ℕ) (ids : List Id) → AllAbove x ids → AllAbove x (take n ids)
above-take x zero ids a = tt
above-take x (suc n) [] a = tt
above-take x (suc n) (y ∷ ys) a = (a.0, above-take x n ys a.1)

ascends-take : (n : ℕ) (ids : List Id) → Ascends ids → Ascends (take n ids)
ascends-take zero ids a = tt
ascends-take (suc n) [] a = tt
ascends-take (suc n) (y ∷ ys) a = (above-take y n ys a.0, ascends-take n ys a.1)

pub past-ascends : (limit : Option ℕ) (cursor : Id) (es : List (Id × List Field)) → Ascends (ids_of es) → Ascends (up_to_limit limit (filter (λ x. is_below cursor x) (ids_of es)))
past-ascends limit cursor es a = by limit where
  above : Ascends (filter (λ x. is_below cursor x) (ids_of es))
  above = subst Ascends (ids_of-filter (λ x. is_below cursor x) es) (ascends-filter (λ e. is_below cursor e.0) es a)

  by : (limit : Option ℕ) → Ascends (up_to_limit limit (filter (λ x. is_below cursor x) (ids_of es)))
  by None = above
  by (Some n) = ascends-take n _ above
