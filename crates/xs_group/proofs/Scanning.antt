-- The scanned part, one id after another.
use Rattle.xs_group.proofs.Terms.{◌≡◌, ℕ, ◌+◌, ◌*◌, Bool, true, false, cond, not, ◌&&◌, ◌||◌, leb, List, [], ◌∷◌, ◌++◌}
use Rattle.xs_group.proofs.Terms.{map, filter, length, drop, Some, sym, ap, ◌∙◌, refl, add-zero, arith, append_assoc, T}
use Rattle.xs_group.proofs.Terms.{below_all, is_sorted, AllByRecursion, entries_between, Included, Unbounded, Id}
use Rattle.xs_group.proofs.Terms.{id_cmp, is_same_id-symm, is_same_id-refl, le-not_below, Scan, Verdict, ClaimRule, row_at}
use Rattle.xs_group.proofs.Terms.{is_taken, is_removed, is_hit, from_start, prefixes, first_where, scanned_part}
use Rattle.xs_group.proofs.Terms.{first_or_zero, scan_of, RowState, is_taken_by, is_removed_by, with_taken}
use Rattle.xs_group.proofs.Terms.{with_removed, ids_scanned_after}
use Rattle.xs_group.proofs.Ordered.{first, second}

-- ---- the shortest prefix that is enough

first-mapped : (test : List Id → Bool) (x : Id) (other : List Id) (ls : List (List Id))
    → first_where test (x ∷ other) (map (λ ids. x ∷ ids) ls) ≡ x ∷ first_where (λ ids. test (x ∷ ids)) other ls
first-mapped test x other [] = refl
first-mapped test x other (l ∷ ls) = grind (arith, first-mapped test x other ls)

first-same : (p q : List Id → Bool) → ((ids : List Id) → p ids ≡ q ids) → (other : List Id) (ls : List (List Id)) → first_where p other ls ≡ first_where q other ls
first-same p q is other [] = refl
first-same p q is other (l ∷ ls) = λ i. cond (is l i) l (first-same p q is other ls i)

module _ (hit : Id → Bool) (limit : ℕ) where
  enough-more : (hits seen : ℕ) (x : Id) (ids : List Id)
      → (leb limit (hits + length (filter hit (x ∷ ids))) || leb (10 * limit) (seen + length (x ∷ ids)))
      ≡ (leb limit ((hits + cond (hit x) 1 0) + length (filter hit ids)) || leb (10 * limit) ((seen + 1) + length ids))
  enough-more hits seen x ids = grind arith

  scanned-from : (hits seen : ℕ) (ids : List Id)
      → first_where (λ p. leb limit (hits + length (filter hit p)) || leb (10 * limit) (seen + length p)) ids (prefixes ids) ≡ ids_scanned_after hit limit hits seen ids
  scanned-from hits seen [] = by (leb limit (hits + 0) || leb (10 * limit) (seen + 0)) where
    by : (t : Bool) → ◌≡◌ {A = List Id} (cond t [] []) []
    by true = refl
    by false = refl
  scanned-from hits seen (x ∷ xs) =
      let rest = first-mapped (λ p. leb limit (hits + length (filter hit p)) || leb (10 * limit) (seen + length p)) x xs (prefixes xs)
      ∙ ap (λ ids. x ∷ ids) (first-same _ _ (enough-more hits seen x) xs (prefixes xs) ∙ scanned-from (hits + cond (hit x) 1 0) (seen + 1) xs) in
      ap (λ more. cond (leb limit (hits + 0) || leb (10 * limit) (seen + 0)) [] more) rest
      ∙ (λ i. cond (leb limit (add-zero hits i) || leb (10 * limit) (add-zero seen i)) [] (x ∷ ids_scanned_after hit limit (hits + cond (hit x) 1 0) (seen + 1) xs))

  pub scanned-after : (ids : List Id) → scanned_part hit limit ids ≡ ids_scanned_after hit limit 0 0 ids
  scanned-after ids = first-same _ _ (λ p. grind arith) ids (prefixes ids) ∙ scanned-from 0 0 ids

  pub scanned-on : (hits seen : ℕ) (x : Id) (xs : List Id) → leb limit hits ≡ false → leb (10 * limit) seen ≡ false
      → ids_scanned_after hit limit hits seen (x ∷ xs) ≡ x ∷ ids_scanned_after hit limit (hits + cond (hit x) 1 0) (seen + 1) xs
  scanned-on hits seen x xs e f = grind arith

  pub scanned-enough : (hits seen : ℕ) (x : Id) (xs : List Id) → (leb limit hits || leb (10 * limit) seen) ≡ true → ids_scanned_after hit limit hits seen (x ∷ xs) ≡ []
  scanned-enough hits seen x xs e = λ i. cond (e i) [] (x ∷ ids_scanned_after hit limit (hits + cond (hit x) 1 0) (seen + 1) xs)

-- ---- the rows of a range are those of the map

abbrev pub AreFound : List (Id × RowState) → List (Id × RowState) → Type 0
AreFound rows es = AllByRecursion (λ e. Some e.1 ≡ row_at rows e.0) es

found-later : (e : Id × RowState) (rows es : List (Id × RowState)) → T (below_all id_cmp e.0 es) → AreFound rows es → AreFound (e ∷ rows) es
found-later e rows [] b a = tt
found-later e rows (f ∷ fs) b a = (
  grind (arith, a.0, is_same_id-symm f.0 e.0),
  found-later e rows fs (second _ _ b) a.1,
)

pub found-all : (rows : List (Id × RowState)) → T (is_sorted id_cmp rows) → AreFound rows rows
found-all [] s = tt
found-all (e ∷ es) s = (
  grind (arith, is_same_id-refl e.0),
  found-later e es es (first _ _ s) (found-all es (second _ _ s)),
)

pub found-filter : (rows es : List (Id × RowState)) (p : Id × RowState → Bool) → AreFound rows es → AreFound rows (filter p es)
found-filter rows [] p a = tt
found-filter rows (e ∷ es) p a = grind (arith, a.0, found-filter rows es p a.1)

and_yes : (t : Bool) → (t && not false) ≡ t
and_yes t = grind arith

pub keys-between : (start : Id) (rows : List (Id × RowState)) → map (λ e. e.0) (entries_between id_cmp (Included start) Unbounded rows) ≡ from_start start rows
keys-between start [] = refl
keys-between start (e ∷ es) = grind (arith, keys-between start es, le-not_below start e.0)

-- ---- the claim as it grows

pub taken-on : (v : Verdict) (p : Id → Bool) (ids : List Id) (x : Id) (part : List Id) → p x ≡ is_taken_by v → with_taken v ids x ++ filter p part ≡ ids ++ filter p (x ∷ part)
taken-on v p ids x part e = grind (arith, append_assoc ids (x ∷ []) (filter p part))

pub removed-on : (v : Verdict) (p : Id → Bool) (ids : List Id) (x : Id) (part : List Id) → p x ≡ is_removed_by v → with_removed v ids x ++ filter p part ≡ ids ++ filter p (x ∷ part)
removed-on v p ids x part e = grind (arith, append_assoc ids (x ∷ []) (filter p part))

module _ (rows : List (Id × RowState)) (present : List Id) (now : ℕ) (rule : ClaimRule) (start : Id) (limit : ℕ) where
  -- what a scan has found when it ends
  pub scan-ended : (cursor : Id) (take removed : List Id)
      → take ≡ filter (is_taken rows present now rule) (ids_scanned_after (is_hit rows present now rule) limit 0 0 (from_start start rows))
      → removed ≡ filter (is_removed rows present) (ids_scanned_after (is_hit rows present now rule) limit 0 0 (from_start start rows))
      → cursor ≡ first_or_zero (drop (length (ids_scanned_after (is_hit rows present now rule) limit 0 0 (from_start start rows))) (from_start start rows))
      → ◌≡◌ {A = Scan} (record { cursor = cursor; claim = record { take = take; removed = removed } }) (scan_of rows present now rule start limit)
  scan-ended cursor take removed t r c =
      let all = from_start start rows in
      let part = sym (scanned-after (is_hit rows present now rule) limit all) in
      (λ i. record { cursor = c i; claim = record { take = t i; removed = r i } })
      ∙ ap (λ p. record { cursor = first_or_zero (drop (length p) all); claim = record { take = filter (is_taken rows present now rule) p; removed = filter (is_removed rows present) p } }) part
