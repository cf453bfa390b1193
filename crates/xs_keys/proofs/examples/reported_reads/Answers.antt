use Rattle.std.proofs.Common.{◌≡◌, ◌⊎◌, inl, inr, ℕ, Bool, true, length, is_some, List, [], ◌∷◌, ◌++◌, Some, None, refl}
use Rattle.std.proofs.Common.{sym, ap, ◌∙◌, subst, T, arith, codes}
use Rattle.std.proofs.lemmas.Bool.{false≢true}
use Rattle.xs_resp.specs.Token.{Token}
use Rattle.xs_resp.specs.Token as token
use Rattle.xs_keys.specs.Terms.{Reply, Array, Bulk, NullArray, Id, has_id}
use Rattle.xs_keys.specs.Life.{key_life}
use Rattle.xs_keys.specs.GroupLife.{present_in}
use Rattle.xs_keys.specs.Telling.{TellsEntryOrNull, TellsEach}
use Rattle.xs_keys.specs.Life.{added_at}
use Rattle.xs_keys.specs.ReplyParts.{array, array_or_null}
use Rattle.xs_keys.specs.PlayedLines.{id as id_told, entry, stream}
use Rattle.xs_keys.specs.ExamplesHistory.{events, group_and}
use Rattle.xs_keys.specs.ExamplesReplies.{second, two_groups, read_by_a, with_a_deleted_one}
use Rattle.xs_stream.specs.Examples.{at}
use Rattle.xs_keys.proofs.Computing.{example_functions}
use Rattle.xs_keys.proofs.Tellings.{shows-first}
use Rattle.xs_keys.proofs.examples.reported_reads.Goals as goal

-- distinguishes the null array from any other reply
kind : Reply → ℕ
kind NullArray = 0
kind _ = 1

-- if a part is reported, the reply isn't the null array
part_told : (told first rest : List Reply) (x : Reply) → NullArray ≡ array_or_null told → told ≡ first ++ rest → first ≡ x ∷ [] → rest ≡ [] → ⊥
unfolding kind
part_told told first rest x is_null all is_first is_rest =
    omega (arith, ap kind (is_null ∙ ap array_or_null (all ∙ ap (λ f. f ++ rest) is_first ∙ ap (λ r. (x ∷ []) ++ r) is_rest)))

-- the number of entries of the first stream of a reply
entries_in : Reply → ℕ
entries_in (Array items) = by items.tokens where
  by : List Token → ℕ
  by (stream ∷ key ∷ token.Array count ∷ more) = count
  by _ = 0
entries_in _ = 0

stream_told : (told first rest entries : List Reply) → array (stream (codes "s") [] ∷ []) ≡ array_or_null told → told ≡ first ++ rest → first ≡ array (Bulk (codes "s") ∷ array entries ∷ []) ∷ [] → 0 ≡ length entries
unfolding entries_in
stream_told told first rest entries is all is_first = ap entries_in (is ∙ ap array_or_null (all ∙ ap (λ f. f ++ rest) is_first))

-- without entries no id is reported
none_told : (Tells : Id → Reply → Type 0) (ids : List Id) (entries : List Reply) → 0 ≡ length entries → has_id ids (at 2 0) ≡ true → TellsEach Tells ids entries → ⊥
none_told Tells [] entries none has each = false≢true has
none_told Tells (x ∷ xs) [] none has each = each
none_told Tells (x ∷ xs) (first ∷ rest) none has each = omega (arith, none)

-- what has to be among all of its own is among them
all_own : {A : Type 0} (b : Bool) → (b ≡ true) ⊎ A → (A → ⊥) → b ≡ true
all_own b (inl e) other = e
all_own b (inr a) other = absurd (other a)

pub returns : goal.returns
unfolding entries_in kind example_functions
returns c = record {
  new = (λ h. (_, refl, (_, [], refl, (second ∷ entry 3 0 ∷ [], refl, ((_, refl, refl), ((_, refl, refl), tt))), refl)), λ h. absurd (subst T h tt));
  own = (λ h. (_, refl, (_, [], refl, (_, [], refl, shows-first (events 5 (group_and [])) (codes "s") (codes "g") _ refl (codes "a") (at 0 0) None, tt), refl)), λ h. absurd (subst T h tt));
  own_pending = (
    λ h. (
      _,
      refl,
      (
        _,
        [],
        refl,
        (
          _,
          second ∷ entry 3 0 ∷ [],
          refl,
          shows-first (events 5 read_by_a) (codes "s") (codes "g") _ refl (codes "a") (at 0 0) None,
          ((λ there. (_, refl, refl), λ gone. absurd (subst T gone tt)), ((λ there. (_, refl, refl), λ gone. absurd (subst T gone tt)), tt)),
        ),
        refl,
      ),
    ),
    λ h. absurd (subst T h tt),
  );
  not_none_of_its_own = λ h.
      let r = h.0 refl in
      none_told (TellsEntryOrNull (added_at (events 5 read_by_a) (codes "s")) (present_in (key_life (events 5 read_by_a) (codes "s")))) r.2.3.0 r.2.3.1
      (stream_told r.0 r.2.0 r.2.1 r.2.3.1 r.1 r.2.2 r.2.3.2) (all_own _ (r.2.3.3.in_full (at 2 0) (refl, refl)) (λ limited. false≢true (ap is_some limited.0))) r.2.3.4;
  own_pending_past_an_id = (
    λ h. (
      _,
      refl,
      (
        _,
        [],
        refl,
        (
          _,
          entry 3 0 ∷ [],
          refl,
          shows-first (events 5 read_by_a) (codes "s") (codes "g") _ refl (codes "a") (at 2 0) None,
          ((λ there. (_, refl, refl), λ gone. absurd (subst T gone tt)), tt),
        ),
        refl,
      ),
    ),
    λ h. absurd (subst T h tt),
  );
  own_pending_with_a_deleted_one = (
    λ h. (
      _,
      refl,
      (
        _,
        [],
        refl,
        (
          _,
          array (id_told 2 0 ∷ NullArray ∷ []) ∷ [],
          refl,
          shows-first (events 5 with_a_deleted_one) (codes "s") (codes "g") _ refl (codes "a") (at 0 0) (Some 1),
          ((λ there. absurd (subst T (sym there) tt), λ gone. refl), tt),
        ),
        refl,
      ),
    ),
    λ h. absurd (subst T h tt),
  );
  own_and_new = (
    λ h. (
      _,
      refl,
      (
        _,
        _,
        refl,
        (_, [], refl, shows-first (events 5 two_groups) (codes "t") (codes "g") _ refl (codes "a") (at 0 0) None, tt),
        (_, [], refl, (second ∷ entry 3 0 ∷ [], refl, ((_, refl, refl), ((_, refl, refl), tt))), refl),
      ),
    ),
    λ h. absurd (subst T h tt),
  );
  in_the_order_written = (
    λ h. (_, refl, (_, _, refl, (entry 7 0 ∷ [], refl, ((_, refl, refl), tt)), (_, [], refl, (second ∷ entry 3 0 ∷ [], refl, ((_, refl, refl), ((_, refl, refl), tt))), refl))),
    λ h. absurd (subst T h tt),
  );
  nothing_new = (λ h. ([], refl, ([], [], refl, refl, refl)), λ h. absurd (subst T h tt));
  not_nothing = λ h. let told = h.0 refl in part_told told.0 told.2.0 told.2.1 _ told.1 told.2.2 told.2.3.1 told.2.4;
  refused = (λ h. absurd (subst T (sym h) tt), λ h. refl);
  not_nothing_without_the_group = λ h. omega (arith, ap kind (h.1 refl));
}
