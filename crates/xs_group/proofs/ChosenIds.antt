-- The ids that a claim takes and removes.
use Rattle.xs_group.proofs.Terms.{◌≡◌, ◌≤◌, ℕ, Bool, cond, not, ◌||◌, List, [], ◌∷◌, ◌++◌, filter, Option, ap, ◌∙◌}
use Rattle.xs_group.proofs.Terms.{refl, arith, list_any-append, or-false, Id, is_same_id, has_id, Verdict, ClaimRule, row_at}
use Rattle.xs_group.proofs.Terms.{is_taken, is_removed, is_hit, without_repeats, RowState, Rows, is_taken_by}
use Rattle.xs_group.proofs.Terms.{is_removed_by, verdict_of, with_taken, with_removed, hits_of}
use Rattle.xs_bytes.specs.SortedMap.{get}

pub has-more : (ids : List Id) (id q : Id) → has_id (ids ++ id ∷ []) q ≡ (has_id ids q || is_same_id q id)
has-more ids id q = list_any-append (is_same_id q) ids (id ∷ []) ∙ ap (λ b. has_id ids q || b) (or-false (is_same_id q id))

pub filter-more : (p : Id → Bool) (ids : List Id) (id : Id) → filter p (ids ++ id ∷ []) ≡ cond (p id) (filter p ids ++ id ∷ []) (filter p ids)
filter-more p [] id = refl
filter-more p (x ∷ xs) id = grind (arith, filter-more p xs id)

-- ---- each id at its first place

pub without_repeats-more : (ids : List Id) (id : Id) → without_repeats (ids ++ id ∷ []) ≡ cond (has_id ids id) (without_repeats ids) (without_repeats ids ++ id ∷ [])
without_repeats-more [] id = refl
without_repeats-more (x ∷ xs) id =
    grind (arith, without_repeats-more xs id, filter-more (λ y. not (is_same_id y x)) (without_repeats xs) id)

-- ---- verdicts

pub row_at-get : (rows : Rows) (x : Id) → get rows x ≡ row_at rows.entries x
unfolding get
row_at-get rows x = refl

module _ (rows : List (Id × RowState)) (present : List Id) (now : ℕ) (rule : ClaimRule) where
  pub taken-verdict : (row : Option RowState) (x : Id) → row ≡ row_at rows x → is_taken rows present now rule x ≡ is_taken_by (verdict_of row (has_id present x) now rule)
  taken-verdict row x e = grind arith

  pub removed-verdict : (row : Option RowState) (x : Id) → row ≡ row_at rows x → is_removed rows present x ≡ is_removed_by (verdict_of row (has_id present x) now rule)
  removed-verdict row x e = grind arith

  pub hits-verdict : (row : Option RowState) (x : Id) → row ≡ row_at rows x → cond (is_hit rows present now rule x) 1 0 ≡ hits_of (verdict_of row (has_id present x) now rule)
  hits-verdict row x e = grind (arith, removed-verdict row x e, taken-verdict row x e)

  pub taken-more : (row : Option RowState) (x : Id) (ids : List Id) → row ≡ row_at rows x
      → with_taken (verdict_of row (has_id present x) now rule) (filter (is_taken rows present now rule) ids) x ≡ filter (is_taken rows present now rule) (ids ++ x ∷ [])
  taken-more row x ids e = grind (arith, taken-verdict row x e, filter-more (is_taken rows present now rule) ids x)

  pub removed-more : (row : Option RowState) (x : Id) (ids : List Id) → row ≡ row_at rows x
      → with_removed (verdict_of row (has_id present x) now rule) (filter (is_removed rows present) ids) x ≡ filter (is_removed rows present) (ids ++ x ∷ [])
  removed-more row x ids e = grind (arith, removed-verdict row x e, filter-more (is_removed rows present) ids x)

-- what an insertion returns about the ids before
pub had : (f b h t : Bool) → f ≡ not b → f ≡ t → b ≡ h → h ≡ not t
had f b h t e g k = grind arith

pub one_most : (v : Verdict) (n : ℕ) → n ≡ hits_of v → n ≤ 1
one_most v n e = grind arith
