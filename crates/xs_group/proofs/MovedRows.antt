-- Rows that move to another consumer.
use Rattle.xs_group.proofs.Terms.{◌≡◌, ℕ, Bool, true, false, cond, not, ◌&&◌, ◌||◌, List, [], ◌∷◌, ◌++◌, map, take}
use Rattle.xs_group.proofs.Terms.{Option, Some, option_and_then, ap, ◌∙◌, refl, UpdatesBy, Id, id_cmp, is_same_id}
use Rattle.xs_group.proofs.Terms.{has_id, is_same_id-eq, is_same_id-symm, ClaimRule, claimed_row, RowState, is_same_name}
use Rattle.xs_group.proofs.Terms.{ConsumerIndex, has_pending_id, is_owner, indexed_row, IsAgreed, row_after_move}
use Rattle.xs_group.proofs.Terms.{AreAgreedBut, AreSomeOf}
use Rattle.xs_group.proofs.Terms.{arith}
use Rattle.xs_group.proofs.ByConsumer.{is_same_name-eq, is_same_name-symm}
use Rattle.xs_group.proofs.Views.{RowMap}
use Rattle.xs_group.proofs.NewRows.{among-take}

-- ---- ids that are given back

-- once all are given back, the indexes agree
pub agreed-again : (rows : List (Id × RowState)) (a b : ConsumerIndex) (name : List ℕ) (done ids : List Id) → AreSomeOf done ids → AreAgreedBut rows a name done
    → ((q : List ℕ) → (x : Id) → has_pending_id b q x ≡ (has_pending_id a q x && not (is_same_name q name && (has_id ids x && not (is_owner (indexed_row rows x) name))))) → IsAgreed rows b
agreed-again rows a b name done ids some but h q x = grind (arith, h q x, but q x, some x, is_same_name-eq q name)

-- ---- one row

module _ (m n : RowMap) (a b : ConsumerIndex) (name : List ℕ) (id : Id) (rest : List Id) (but : AreAgreedBut m.entries a name (id ∷ rest)) where
  pub moved-some : (row new : RowState) → indexed_row m.entries id ≡ Some row → new.consumer ≡ name → UpdatesBy id_cmp (id_cmp id) m n (Some new)
      → ((q : List ℕ) → (x : Id) → has_pending_id b q x ≡ cond (is_same_name row.consumer name) (has_pending_id a q x) (has_pending_id a q x && not (is_same_name q row.consumer && is_same_id x id)))
      → AreAgreedBut n.entries b name rest
  moved-some row new found whose u h q x = h q x ∙ by (is_same_id x id) refl where
    by : (t : Bool) → is_same_id x id ≡ t
        → cond (is_same_name row.consumer name) (has_pending_id a q x)
        (has_pending_id a q x && not (is_same_name q row.consumer && is_same_id x id))
        ≡ (is_owner (indexed_row n.entries x) q || (is_same_name q name && has_id rest x))
    by true e = grind (
      arith,
      but q x,
      u.0 x,
      is_same_id-eq x id e,
      is_same_id-symm id x,
      is_same_name-eq row.consumer q,
      is_same_name-eq q name,
      is_same_name-symm q row.consumer,
      is_same_name-symm q name,
    )
    by false e = grind (arith, but q x, u.2 x, is_same_id-symm id x)

pub names-more : (name : List ℕ) (ids : List Id) (id : Id) → map (λ (x : Id). name) (ids ++ id ∷ []) ≡ map (λ (x : Id). name) ids ++ name ∷ []
names-more name [] id = refl
names-more name (x ∷ xs) id = ap (λ (rest : List (List ℕ)). name ∷ rest) (names-more name xs id)

pub some-take : (ids : List Id) (i : ℕ) → AreSomeOf (take i ids) ids
some-take ids i q e = among-take ids i q e

pub row-moved : (m n : RowMap) (id : Id) (row : RowState) (name : List ℕ) (now : ℕ) (rule : ClaimRule) → indexed_row m.entries id ≡ Some row
    → UpdatesBy id_cmp (id_cmp id) m n (Some (claimed_row name now rule row)) → (x : Id)
    → indexed_row n.entries x ≡ cond (is_same_id x id) (option_and_then (row_after_move name now rule (id ∷ []) x) (indexed_row m.entries x)) (indexed_row m.entries x)
row-moved m n id row name now rule found u x = grind (arith, u.0 x, is_same_id-symm id x, is_same_id-eq x id)

-- what the remaining ids still change in the rows is what all of them change
pub rows-left : (name : List ℕ) (now : ℕ) (rule : ClaimRule) (id : Id) (rest : List Id) (x : Id) (o p : Option RowState) → has_id rest id ≡ false
    → p ≡ cond (is_same_id x id) (option_and_then (row_after_move name now rule (id ∷ []) x) o) o
    → option_and_then (row_after_move name now rule rest x) p ≡ option_and_then (row_after_move name now rule (id ∷ rest) x) o
rows-left name now rule id rest x o p apart e = grind (arith, is_same_id-eq x id)

pub tails : (a b : List ℕ) (xs ys : List (List ℕ)) → a ∷ xs ≡ b ∷ ys → xs ≡ ys
tails a b xs ys e = cc
