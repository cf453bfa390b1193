-- What claims take and remove, and how many a read delivers.
use Rattle.std.proofs.Common.{◌≡◌, ℕ, ◌≤◌, ◌-◌, ◌⊎◌, inl, inr, Bool, true, false, ◌&&◌, ◌||◌, not, List, [], ◌∷◌, ◌++◌}
use Rattle.std.proofs.Common.{length, take, drop, filter, Option, Some, None, is_some, sym, ap, ◌∙◌, refl, subst, arith}
use Rattle.std.proofs.Common.{take_all, ◌+◌, ◌*◌, map, cond}
use Rattle.std.proofs.lemmas.List.{length-take-le}
use Rattle.std.proofs.lemmas.Bool.{false≢true, and_from, or_left}
use Rattle.std.proofs.Math.Seq.{drop-append_seam, drop-length}
use Rattle.std.specs.Prelude.{nat_le}
use Rattle.std.proofs.lemmas.Bool.Decides.{nat_tests}
use Rattle.xs_stream.specs.Id.{is_below, is_same_id, has_id, zero_id}
use Rattle.xs_group.specs.declared.claims.Claim.{Claim}
use Rattle.xs_group.specs.declared.claims.ClaimTime.TheVariants as claim_time
use Rattle.xs_group.specs.GroupState.{RowState, idle_time, new_ids}
use Rattle.xs_group.specs.Claims.{row_at, is_idle, is_taken, is_removed, is_hit, is_enough, prefixes, first_where}
use Rattle.xs_group.specs.declared.claims.ClaimRule.{ClaimRule}
use Rattle.xs_group.specs.Claims.{without_repeats, scanned_part, from_start, first_or_zero, claim_among}
use Rattle.xs_group.specs.Verdict.{AreDistinct, ids_scanned_after}
use Rattle.xs_group.proofs.CarriedOutClaims.{apart-filter, apart-without_repeats}
use Rattle.xs_group.proofs.Scanning.{scanned-after}
use Rattle.xs_keys.specs.Terms.{option_map_or, Id, Ascends, AllAbove}
use Rattle.xs_keys.specs.Terms.{greatest}
use Rattle.xs_keys.specs.GroupAsk.{GroupAsk, read_new, read_own, acknowledge, create_consumer, delete_consumer, claim}
use Rattle.xs_keys.specs.GroupAsk.{auto_claim, claim_of_ask, scan_end_of_ask, rule_of, new_ids_of_ask}
use Rattle.xs_keys.specs.GroupEvent.{GroupEvent, delivered_ids, pending_row_at, rows, new_ids_of_event, cursor}
use Rattle.xs_keys.specs.Owner.{is_taken_by_claim, is_removed_by_claim, owner}
use Rattle.xs_keys.specs.ClaimsTake.{least_idle, MayBeTaken, MayBeRemoved, passes, is_scanned, is_asked_for, MayStop}
use Rattle.xs_keys.specs.ClaimsTake.{ClaimsWhatIsAsked, ClaimIsExact, ClaimsAreExact, IsWithinCount}
use Rattle.xs_keys.specs.EachDelivery.{DeliversInFull}
use Rattle.xs_keys.proofs.Truths.{first_of, second_of, or_false}
use Rattle.xs_keys.proofs.IdLists.{has_id-where, has_id-append, ascends-where, not_among}
use Rattle.xs_stream.proofs.Order.{not_above-trans}
use Rattle.xs_keys.proofs.Streams.{greatest-up, up_to-greatest}
use Rattle.xs_keys.proofs.GroupSteps.{cursor-step}
use Rattle.xs_keys.proofs.Deliveries.{PresentAscends, past-start}
use Rattle.xs_keys.proofs.IdsAtEvents.{above-has}
use Rattle.xs_keys.proofs.FirstIds.{limited-few}
use Rattle.xs_keys.proofs.Owners.{owner-row, row-found, of_row}
use Rattle.xs_keys.proofs.JobCounts.{ids-among, ascends-rows, ascends-same, same_truth, not_itself}
use Rattle.xs_keys.proofs.ScanParts.{Begins, scanned-begins, AreNotZero, above-not_zero, before-part, part-before}
use Rattle.xs_keys.proofs.TimesOfRows.{is-last-touched}

-- ---- the ids that a claim looks at

-- the ids that an ask looks at, among the rows that it meets
abbrev looked_at : GroupAsk → ℕ → List Id → List (Id × RowState) → List Id
looked_at (claim consumer rule ids) now present all = without_repeats ids
looked_at (auto_claim consumer rule from limit) now present all = scanned_part (is_hit all present now rule) limit (from_start from all)
looked_at _ now present all = []

-- the rule of a claim, or one that doesn't matter
abbrev rule_for : GroupAsk → ClaimRule
rule_for ask = option_map_or (λ rule. rule) (rule_of ask) (record { min_idle = 0; when = claim_time.Now; retry = None; just_id = false })

-- what is claimed is among those
looks : (ask : GroupAsk) (now : ℕ) (present : List Id) (all : List (Id × RowState))
    → (claim_of_ask ask now present all ≡ claim_among all present now (rule_for ask) (looked_at ask now present all)) × ((rule_for ask).min_idle ≡ least_idle ask)
looks (read_new consumer limit noack) now present all = (refl, refl)
looks (read_own consumer limit from) now present all = (refl, refl)
looks (acknowledge ids) now present all = (refl, refl)
looks (create_consumer consumer) now present all = (refl, refl)
looks (delete_consumer consumer) now present all = (refl, refl)
looks (claim consumer rule ids) now present all = (refl, refl)
looks (auto_claim consumer rule from limit) now present all = (refl, refl)

-- each id stays once
pub without_repeats-has : (ids : List Id) (x : Id) → has_id (without_repeats ids) x ≡ has_id ids x
without_repeats-has [] x = refl
without_repeats-has (y ∷ ys) x = by (is_same_id x y) refl (without_repeats-has ys x) where
  by : (t : Bool) → is_same_id x y ≡ t → has_id (without_repeats ys) x ≡ has_id ys x → (t || has_id (filter (λ z. not (is_same_id z y)) (without_repeats ys)) x) ≡ (t || has_id ys x)
  by true f rest = refl
  by false f rest = has_id-where (λ z. not (is_same_id z y)) (without_repeats ys) x ∙ (λ i. not (f i) && rest i)

-- ---- a scan

-- whether one of two is true
passes-or : (test : List Id → Bool) (other : List Id) (all : List (List Id)) → (test (first_where test other all) ≡ true) ⊎ (first_where test other all ≡ other)
passes-or test other [] = inr refl
passes-or test other (ids ∷ more) = by (test ids) refl (passes-or test other more) where
  by : (t : Bool) → test ids ≡ t → (test (first_where test other more) ≡ true) ⊎ (first_where test other more ≡ other)
      → (test (cond t ids (first_where test other more)) ≡ true) ⊎ (cond t ids (first_where test other more) ≡ other)
  by true e rest = inl e
  by false e rest = rest

hits-few : (r t : Id → Bool) (xs : List Id) → length (filter (λ x. r x || t x) xs) ≤ length (filter t xs) + length (filter r xs)
hits-few r t [] = omega arith
hits-few r t (x ∷ xs) = by (r x) (t x) (hits-few r t xs) where
  by : (a b : Bool) → length (filter (λ y. r y || t y) xs) ≤ length (filter t xs) + length (filter r xs)
      → length (cond (a || b) (x ∷ filter (λ y. r y || t y) xs) (filter (λ y. r y || t y) xs)) ≤ length (cond b (x ∷ filter t xs) (filter t xs)) + length (cond a (x ∷ filter r xs) (filter r xs))
  by true true h = omega (arith, h)
  by true false h = omega (arith, h)
  by false true h = omega (arith, h)
  by false false h = h

-- after some hits there are no more than the rest
few-after : (hit : Id → Bool) (limit hits seen : ℕ) (ids : List Id) → hits ≤ limit → hits + length (filter hit (ids_scanned_after hit limit hits seen ids)) ≤ limit
few-after hit limit hits seen [] few = omega (arith, few)
few-after hit limit hits seen (x ∷ xs) few =
    by (nat_le limit hits) refl (nat_le (10 * limit) seen) (few-after hit limit (hits + 1) (seen + 1) xs) (few-after hit limit (hits + 0) (seen + 1) xs) where
      by : (t : Bool) → nat_le limit hits ≡ t → (s : Bool)
          → (hits + 1 ≤ limit → hits + 1 + length (filter hit (ids_scanned_after hit limit (hits + 1) (seen + 1) xs)) ≤ limit)
          → (hits + 0 ≤ limit → hits + 0 + length (filter hit (ids_scanned_after hit limit (hits + 0) (seen + 1) xs)) ≤ limit)
          → hits + length (filter hit (cond (t || s) [] (x ∷ ids_scanned_after hit limit (hits + cond (hit x) 1 0) (seen + 1) xs))) ≤ limit
      by true e s one none = omega (arith, few)
      by false e true one none = omega (arith, few)
      by false e false one none = step (hit x) where
        step : (h : Bool) → hits + length (cond h (x ∷ filter hit (ids_scanned_after hit limit (hits + cond h 1 0) (seen + 1) xs)) (filter hit (ids_scanned_after hit limit (hits + cond h 1 0) (seen + 1) xs))) ≤ limit
        step true = let room : hits + 1 ≤ limit = grind (arith, nat_tests, e) in omega (arith, one room)
        step false = let room : hits + 0 ≤ limit = omega (arith, few) in omega (arith, none room)

-- no id is both taken and removed, so both together are hits
hits-many : (r t : Id → Bool) → ((x : Id) → r x ≡ true → t x ≡ true → ⊥) → (xs : List Id) → length (filter t xs) + length (filter r xs) ≤ length (filter (λ x. r x || t x) xs)
hits-many r t apart [] = omega arith
hits-many r t apart (x ∷ xs) = by (r x) refl (t x) refl (hits-many r t apart xs) where
  by : (a : Bool) → r x ≡ a → (b : Bool) → t x ≡ b → length (filter t xs) + length (filter r xs) ≤ length (filter (λ y. r y || t y) xs)
      → length (cond b (x ∷ filter t xs) (filter t xs)) + length (cond a (x ∷ filter r xs) (filter r xs)) ≤ length (cond (a || b) (x ∷ filter (λ y. r y || t y) xs) (filter (λ y. r y || t y) xs))
  by true e true f h = absurd (apart x e f)
  by true e false f h = omega (arith, h)
  by false e true f h = omega (arith, h)
  by false e false f h = h

ascends-first : (part rest : List Id) → Ascends (part ++ rest) → Ascends part
ascends-first [] rest asc = tt
ascends-first (p ∷ ps) rest asc = (above ps asc.0, ascends-first ps rest asc.1) where
  above : (ids : List Id) → AllAbove p (ids ++ rest) → AllAbove p ids
  above [] h = tt
  above (y ∷ ys) h = (h.0, above ys h.1)

-- rows in the order of their ids, none of which is 0-0
abbrev AreRows : List (Id × RowState) → Type 0
AreRows all = Ascends (map (λ e. e.0) all) × AreNotZero (map (λ e. e.0) all)

module _ (all : List (Id × RowState)) (are : AreRows all) (now : ℕ) (present : List Id) (consumer : List ℕ) (rule : ClaimRule) (from : Id) (limit : ℕ) where
  this : GroupEvent
  this = record { now = now; present = present; ask = auto_claim consumer rule from limit }

  hit : Id → Bool
  hit = is_hit all present now rule

  part : List Id
  part = scanned_part hit limit (from_start from all)

  begins : Begins part (from_start from all)
  unfolding hit part
  begins = scanned-begins hit limit (from_start from all)

  ascend : Ascends (part ++ begins.0)
  ascend = subst Ascends begins.1 (ascends-where (λ y. not (is_below y from)) (map (λ e. e.0) all) are.0)

  not_zero : AreNotZero (part ++ begins.0)
  not_zero = subst AreNotZero begins.1 (λ x h. are.1 x (second_of (not (is_below x from)) (has_id (map (λ e. e.0) all) x) (sym (has_id-where (λ y. not (is_below y from)) (map (λ e. e.0) all) x) ∙ h)))

  cursor-is : scan_end_of_ask (auto_claim consumer rule from limit) now present all ≡ first_or_zero begins.0
  unfolding hit part
  cursor-is = ap first_or_zero (ap (drop (length part)) begins.1 ∙ drop-append_seam part begins.0)

  part-from : (x : Id) → has_id part x ≡ true → has_id (from_start from all) x ≡ true
  part-from x h = ap (λ ids. has_id ids x) begins.1 ∙ has_id-append part begins.0 x ∙ or_left (has_id part x) (has_id begins.0 x) h

  -- it reaches what it scans
  part-come : (x : Id) → has_id part x ≡ true → is_scanned this all x ≡ true
  unfolding this
  part-come x h = and_from (not (is_below x from)) (passes (scan_end_of_ask (auto_claim consumer rule from limit) now present all) x)
      (first_of (not (is_below x from)) (has_id (map (λ e. e.0) all) x) (sym (has_id-where (λ y. not (is_below y from)) (map (λ e. e.0) all) x) ∙ part-from x h))
      (ap (λ c. passes c x) cursor-is ∙ before-part part begins.0 ascend x h)

  -- and scans the rows that it reaches
  come-part : (x : Id) → has_id (map (λ e. e.0) all) x ≡ true → is_scanned this all x ≡ true → has_id part x ≡ true
  unfolding this
  come-part x h comes = part-before part begins.0 ascend not_zero x
      (ap (λ ids. has_id ids x) (sym begins.1) ∙ has_id-where (λ y. not (is_below y from)) (map (λ e. e.0) all) x
      ∙ and_from (not (is_below x from)) (has_id (map (λ e. e.0) all) x) (first_of (not (is_below x from)) (passes (scan_end_of_ask (auto_claim consumer rule from limit) now present all) x) comes) h)
      (ap (λ c. passes c x) (sym cursor-is) ∙ second_of (not (is_below x from)) (passes (scan_end_of_ask (auto_claim consumer rule from limit) now present all) x) comes)

  part-is : part ≡ filter (λ x. is_scanned this all x) (map (λ e. e.0) all)
  part-is = ascends-same part (filter (λ x. is_scanned this all x) (map (λ e. e.0) all)) (ascends-first part begins.0 ascend) (ascends-where (λ x. is_scanned this all x) (map (λ e. e.0) all) are.0) (λ x.
      same_truth (has_id part x) (has_id (filter (λ y. is_scanned this all y) (map (λ e. e.0) all)) x)
      (λ h. has_id-where (λ y. is_scanned this all y) (map (λ e. e.0) all) x ∙ and_from (is_scanned this all x) (has_id (map (λ e. e.0) all) x) (part-come x h)
      (second_of (not (is_below x from)) (has_id (map (λ e. e.0) all) x) (sym (has_id-where (λ y. not (is_below y from)) (map (λ e. e.0) all) x) ∙ part-from x h)))
      (λ h. let is = sym (has_id-where (λ y. is_scanned this all y) (map (λ e. e.0) all) x) ∙ h in
      come-part x (second_of (is_scanned this all x) (has_id (map (λ e. e.0) all) x) is) (first_of (is_scanned this all x) (has_id (map (λ e. e.0) all) x) is)))

  stops : is_enough hit limit part ≡ true → MayStop this all
  unfolding this hit part
  stops e = by (nat_le limit (length (filter hit part))) refl e where
    few : length (filter hit part) ≤ length (filter (is_taken all present now rule) part) + length (filter (is_removed all present) part)
    few = hits-few (is_removed all present) (is_taken all present now rule) part

    by : (t : Bool) → nat_le limit (length (filter hit part)) ≡ t → (t || nat_le (10 * limit) (length part)) ≡ true → MayStop this all
    by true f g = inl (let le : limit ≤ length (filter hit part) = grind (arith, nat_tests, f) in omega (arith, le, few))
    by false f g = inr (subst (λ ids. 10 * limit ≤ length ids) part-is (grind (arith, nat_tests, g)))

  far-enough : (scan_end_of_ask (auto_claim consumer rule from limit) now present all ≡ zero_id) ⊎ MayStop this all
  unfolding this hit part
  far-enough = by (passes-or (is_enough hit limit) (from_start from all) (prefixes (from_start from all))) where
    by : (is_enough hit limit part ≡ true) ⊎ (part ≡ from_start from all) → (scan_end_of_ask (auto_claim consumer rule from limit) now present all ≡ zero_id) ⊎ MayStop this all
    by (inl e) = inr (stops e)
    by (inr e) = inl (ap (λ ids. first_or_zero (drop (length ids) (from_start from all))) e ∙ ap first_or_zero (drop-length (from_start from all)))

-- ---- every ask

-- an ask looks at the rows that it asks for
looked-asked : (ask : GroupAsk) (now : ℕ) (present : List Id) (all : List (Id × RowState)) → AreRows all → (x : Id) → has_id (looked_at ask now present all) x ≡ true
    → is_asked_for (record { now = now; present = present; ask = ask }) all x ≡ true
unfolding this hit part
looked-asked (read_new consumer limit noack) now present all are x h = absurd (false≢true h)
looked-asked (read_own consumer limit from) now present all are x h = absurd (false≢true h)
looked-asked (acknowledge ids) now present all are x h = absurd (false≢true h)
looked-asked (create_consumer consumer) now present all are x h = absurd (false≢true h)
looked-asked (delete_consumer consumer) now present all are x h = absurd (false≢true h)
looked-asked (claim consumer rule ids) now present all are x h = or_left (has_id ids x) false (sym (without_repeats-has ids x) ∙ h)
looked-asked (auto_claim consumer rule from limit) now present all are x h = part-come all are now present consumer rule from limit x h

asked-looked : (ask : GroupAsk) (now : ℕ) (present : List Id) (all : List (Id × RowState)) → AreRows all → (x : Id) → has_id (map (λ e. e.0) all) x ≡ true
    → is_asked_for (record { now = now; present = present; ask = ask }) all x ≡ true → has_id (looked_at ask now present all) x ≡ true
unfolding this hit part
asked-looked (read_new consumer limit noack) now present all are x row h = h
asked-looked (read_own consumer limit from) now present all are x row h = h
asked-looked (acknowledge ids) now present all are x row h = h
asked-looked (create_consumer consumer) now present all are x row h = h
asked-looked (delete_consumer consumer) now present all are x row h = h
asked-looked (claim consumer rule ids) now present all are x row h = without_repeats-has ids x ∙ or_false (has_id ids x) h
asked-looked (auto_claim consumer rule from limit) now present all are x row h = come-part all are now present consumer rule from limit x row h

ascends-apart : (ids : List Id) → Ascends ids → AreDistinct ids
ascends-apart [] asc = tt
ascends-apart (x ∷ xs) asc = (not_itself x xs asc.0, ascends-apart xs asc.1)

looked-apart : (ask : GroupAsk) (now : ℕ) (present : List Id) (all : List (Id × RowState)) → AreRows all → AreDistinct (looked_at ask now present all)
unfolding hit part
looked-apart (read_new consumer limit noack) now present all are = tt
looked-apart (read_own consumer limit from) now present all are = tt
looked-apart (acknowledge ids) now present all are = tt
looked-apart (create_consumer consumer) now present all are = tt
looked-apart (delete_consumer consumer) now present all are = tt
looked-apart (claim consumer rule ids) now present all are = apart-without_repeats ids
looked-apart (auto_claim consumer rule from limit) now present all are =
    ascends-apart (part all are now present consumer rule from limit)
    (ascends-first (part all are now present consumer rule from limit) (begins all are now present consumer rule from limit).0 (ascend all are now present consumer rule from limit))

goes-far : (ask : GroupAsk) (now : ℕ) (present : List Id) (all : List (Id × RowState)) → AreRows all
    → (scan_end_of_ask ask now present all ≡ zero_id) ⊎ MayStop (record { now = now; present = present; ask = ask }) all
unfolding this hit part
goes-far (read_new consumer limit noack) now present all are = inl refl
goes-far (read_own consumer limit from) now present all are = inl refl
goes-far (acknowledge ids) now present all are = inl refl
goes-far (create_consumer consumer) now present all are = inl refl
goes-far (delete_consumer consumer) now present all are = inl refl
goes-far (claim consumer rule ids) now present all are = inl refl
goes-far (auto_claim consumer rule from limit) now present all are = far-enough all are now present consumer rule from limit

-- a scan takes and removes no more than its COUNT
within : (all : List (Id × RowState)) (now : ℕ) (present : List Id) (rule : ClaimRule) (from : Id) (limit : ℕ)
    → length (filter (is_taken all present now rule) (scanned_part (is_hit all present now rule) limit (from_start from all)))
    + length (filter (is_removed all present) (scanned_part (is_hit all present now rule) limit (from_start from all))) ≤ limit
within all now present rule from limit =
    let ids = from_start from all in
    let hit : Id → Bool = is_hit all present now rule in
    let many = hits-many (is_removed all present) (is_taken all present now rule) apart (scanned_part hit limit ids) in
    let after = few-after hit limit 0 0 ids (omega arith) in
    let few : length (filter hit (scanned_part hit limit ids)) ≤ limit = subst (λ (part : List Id). length (filter hit part) ≤ limit) (sym (scanned-after hit limit ids)) (omega (arith, after)) in
    omega (arith, many, few) where
      apart : (x : Id) → is_removed all present x ≡ true → is_taken all present now rule x ≡ true → ⊥
      apart x r t = false≢true (sym (ap not (second_of (is_idle now rule (row_at all x)) (has_id present x) t)) ∙ second_of (is_some (row_at all x)) (not (has_id present x)) r)

within-count : (event : GroupEvent) (all : List (Id × RowState)) → IsWithinCount event all
within-count event all = λ consumer rule from limit asks.
    subst (λ (ask : GroupAsk). length (claim_of_ask ask event.now event.present all).take + length (claim_of_ask ask event.now event.present all).removed ≤ limit) (sym asks)
    (within all event.now event.present rule from limit)

-- ---- one claim

-- an id with a row is among theirs
pub row-listed : (es : List (Id × RowState)) (x : Id) → is_some (row_at es x) ≡ true → has_id (map (λ e. e.0) es) x ≡ true
row-listed [] x e = absurd (false≢true e)
row-listed (e ∷ es) x found = by (is_same_id x e.0) found (row-listed es x) where
  by : (t : Bool) → is_some (cond t (Some e.1) (row_at es x)) ≡ true → (is_some (row_at es x) ≡ true → has_id (map (λ e. e.0) es) x ≡ true) → (t || has_id (map (λ e. e.0) es) x) ≡ true
  by true f rest = refl
  by false f rest = rest f

module _ (start : Id) (past : List GroupEvent) (asc : PresentAscends past) (event : GroupEvent) (x : Id) where
  met : List (Id × RowState)
  met = rows start past

  asked_rule : ClaimRule
  asked_rule = rule_for event.ask

  looked : List Id
  looked = looked_at event.ask event.now event.present met

  are-rows : AreRows met
  unfolding met
  are-rows = (
    ascends-rows start past asc,
    λ y h. above-not_zero start y
        (above-has start (delivered_ids start past) y (past-start start past)
        (second_of (is_some (pending_row_at start past y)) (has_id (delivered_ids start past) y) (sym (has_id-where (λ z. is_some (pending_row_at start past z)) (delivered_ids start past) y) ∙ ap (λ l. has_id l y) (sym ids) ∙ h))),
  )
    where
      ids : map (λ e. e.0) (rows start past) ≡ filter (λ y. is_some (pending_row_at start past y)) (delivered_ids start past)
      ids = ids-among (λ y. pending_row_at start past y) (delivered_ids start past)

  -- an owner has a row, and a row an owner
  has-row : is_some (owner start past x) ≡ true → is_some (row_at met x) ≡ true
  unfolding met
  has-row owned = ap is_some (row-found start past x) ∙ by (pending_row_at start past x) (ap is_some (sym (owner-row start past x)) ∙ owned) where
    by : (row : Option RowState) → is_some (of_row row) ≡ true → is_some row ≡ true
    by None e = e
    by (Some row) e = refl

  has-owner : is_some (row_at met x) ≡ true → is_some (owner start past x) ≡ true
  unfolding met
  has-owner h = ap is_some (owner-row start past x ∙ sym (ap of_row (row-found start past x))) ∙ by (row_at (rows start past) x) h where
    by : (row : Option RowState) → is_some row ≡ true → is_some (of_row row) ≡ true
    by None e = absurd (false≢true e)
    by (Some row) e = refl

  -- an entry that may be taken is idle by its row
  idle-by-row : MayBeTaken start past event x → is_taken met event.present event.now asked_rule x ≡ true
  unfolding met asked_rule
  idle-by-row may = by (row_at (rows start past) x) refl where
    by : (row : Option RowState) → row_at (rows start past) x ≡ row → (is_idle event.now (rule_for event.ask) (row_at (rows start past) x) && has_id event.present x) ≡ true
    by None f = absurd (false≢true (ap is_some (sym f) ∙ has-row may.owned))
    by (Some row) f =
        let old : (rule_for event.ask).min_idle ≤ event.now - row.time =
        subst (λ (least : ℕ). least ≤ event.now - row.time) (sym (looks event.ask event.now event.present (rows start past)).1)
        (subst (λ (time : ℕ). least_idle event.ask ≤ event.now - time) (sym (is-last-touched start past x row f).0) may.idle) in
        and_from (is_idle event.now (rule_for event.ask) (row_at (rows start past) x)) (has_id event.present x) (ap (is_idle event.now (rule_for event.ask)) f ∙ grind (arith, nat_tests, old)) may.present

  idle-by-time : is_taken met event.present event.now asked_rule x ≡ true → MayBeTaken start past event x
  unfolding met asked_rule
  idle-by-time h = by (row_at (rows start past) x) refl h where
    by : (row : Option RowState) → row_at (rows start past) x ≡ row → (is_idle event.now (rule_for event.ask) row && has_id event.present x) ≡ true → MayBeTaken start past event x
    by None f t = absurd (false≢true t)
    by (Some row) f t =
        let test : nat_le (rule_for event.ask).min_idle (idle_time event.now row.time) ≡ true = first_of (nat_le (rule_for event.ask).min_idle (idle_time event.now row.time)) (has_id event.present x) t in
        let old : (rule_for event.ask).min_idle ≤ event.now - row.time = grind (arith, nat_tests, test) in
        record {
          owned = has-owner (ap is_some f);
          present = second_of (nat_le (rule_for event.ask).min_idle (idle_time event.now row.time)) (has_id event.present x) t;
          idle = subst (λ (time : ℕ). least_idle event.ask ≤ event.now - time) (is-last-touched start past x row f).0
              (subst (λ (least : ℕ). least ≤ event.now - row.time) (looks event.ask event.now event.present (rows start past)).1 old);
        }

  gone-by-row : MayBeRemoved start past event x → is_removed met event.present x ≡ true
  gone-by-row may = and_from (is_some (row_at met x)) (not (has_id event.present x)) (has-row may.owned) (ap not may.gone)

  gone-by-owner : is_removed met event.present x ≡ true → MayBeRemoved start past event x
  gone-by-owner h = record {
    owned = has-owner (first_of (is_some (row_at met x)) (not (has_id event.present x)) h);
    gone = by (has_id event.present x) (second_of (is_some (row_at met x)) (not (has_id event.present x)) h);
  }
    where
      by : (b : Bool) → not b ≡ true → b ≡ false
      by true e = absurd (false≢true e)
      by false e = refl

  takes-is : is_taken_by_claim start past event x ≡ (is_taken met event.present event.now asked_rule x && has_id looked x)
  unfolding met asked_rule looked
  takes-is = ap (λ c. has_id c.take x) (looks event.ask event.now event.present (rows start past)).0 ∙ has_id-where (is_taken (rows start past) event.present event.now (rule_for event.ask)) _ x

  removes-is : is_removed_by_claim start past event x ≡ (is_removed met event.present x && has_id looked x)
  unfolding met asked_rule looked
  removes-is = ap (λ c. has_id c.removed x) (looks event.ask event.now event.present (rows start past)).0 ∙ has_id-where (is_removed (rows start past) event.present) _ x

  asked-for : has_id looked x ≡ true → is_asked_for event met x ≡ true
  unfolding looked
  asked-for = looked-asked event.ask event.now event.present met are-rows x

  looked-for : is_asked_for event met x ≡ true → is_some (row_at met x) ≡ true → has_id looked x ≡ true
  unfolding looked
  looked-for asked row = asked-looked event.ask event.now event.present met are-rows x (row-listed met x row) asked

  as-asked : ClaimsWhatIsAsked start past event x
  unfolding met
  as-asked = record {
    takes_idle = λ h. idle-by-time (first_of _ (has_id looked x) (sym takes-is ∙ h));
    removes_gone = λ h. gone-by-owner (first_of _ (has_id looked x) (sym removes-is ∙ h));
    takes_asked = λ h. asked-for (second_of _ (has_id looked x) (sym takes-is ∙ h));
    removes_asked = λ h. asked-for (second_of _ (has_id looked x) (sym removes-is ∙ h));
    takes_all = λ asked may. takes-is ∙ and_from _ (has_id looked x) (idle-by-row may) (looked-for asked (has-row may.owned));
    removes_all = λ asked may. removes-is ∙ and_from _ (has_id looked x) (gone-by-row may) (looked-for asked (has-row may.owned));
  }

in-turn : (start : Id) (past : List GroupEvent) → PresentAscends past → (event : GroupEvent) → ClaimIsExact start past event
unfolding met asked_rule looked
in-turn start past asc event = record {
  as_asked = as-asked start past asc event;
  takes_once = subst (λ (c : Claim). AreDistinct c.take) (sym (looks event.ask event.now event.present (rows start past)).0)
      (apart-filter (is_taken (rows start past) event.present event.now (rule_for event.ask)) (looked_at event.ask event.now event.present (rows start past))
      (looked-apart event.ask event.now event.present (rows start past) (are-rows start past asc event zero_id)));
  removes_once = subst (λ (c : Claim). AreDistinct c.removed) (sym (looks event.ask event.now event.present (rows start past)).0)
      (apart-filter (is_removed (rows start past) event.present) (looked_at event.ask event.now event.present (rows start past))
      (looked-apart event.ask event.now event.present (rows start past) (are-rows start past asc event zero_id)));
  at_most = within-count event (rows start past);
  far_enough = goes-far event.ask event.now event.present (rows start past) (are-rows start past asc event zero_id);
}

present-earlier : (later : List GroupEvent) (event : GroupEvent) (earlier : List GroupEvent) → PresentAscends (later ++ event ∷ earlier) → PresentAscends earlier
present-earlier [] event earlier asc = asc.1
present-earlier (first ∷ later) event earlier asc = present-earlier later event earlier asc.1

pub claims-idle : (start : Id) (events : List GroupEvent) → PresentAscends events → ClaimsAreExact start events
claims-idle start events asc = λ later event earlier e. in-turn start earlier (present-earlier later event earlier (subst PresentAscends e asc)) event

-- ---- reads

-- if all above a cursor are delivered, none is left above it
none-left : (a : Id) (present : List Id) (x : Id) → has_id present x ≡ true → is_below (greatest a (filter (λ y. is_below a y) present)) x ≡ false
none-left a present x h = by (is_below a x) refl where
  above : List Id
  above = filter (λ y. is_below a y) present

  among : is_below a x ≡ true → has_id above x ≡ true
  among t = has_id-where (λ y. is_below a y) present x ∙ ap (λ b. b && has_id present x) t ∙ h

  passed : has_id above x ≡ true → (s : Bool) → is_below (greatest a above) x ≡ s → s ≡ false
  passed there false e = refl
  passed there true e = absurd (false≢true (sym (not_among (greatest a above) above x e (up_to-greatest a above)) ∙ there))

  by : (t : Bool) → is_below a x ≡ t → is_below (greatest a above) x ≡ false
  by false t = not_above-trans (greatest a above) a x (greatest-up a above) t
  by true t = passed (among t) (is_below (greatest a above) x) refl

-- what a read delivers is as many as it asks for, or all
full : (limit : Option ℕ) (a : Id) (present : List Id)
    → (limit ≡ Some (length (new_ids limit a present))) ⊎ ((x : Id) → has_id present x ≡ true → is_below (greatest a (new_ids limit a present)) x ≡ false)
full None a present = inr (none-left a present)
full (Some n) a present = by (nat_le n (length above)) refl where
  above : List Id
  above = filter (λ y. is_below a y) present

  by : (t : Bool) → nat_le n (length above) ≡ t
      → (Some n ≡ Some (length (take n above))) ⊎ ((x : Id) → has_id present x ≡ true → is_below (greatest a (take n above)) x ≡ false)
  by true t =
      let enough : n ≤ length above = grind (arith, nat_tests, t) in
      inl (ap Some (sym (length-take-le n above enough)))
  by false t =
      let few : length above ≤ n = grind (arith, nat_tests, t) in
      inr (λ x h. ap (λ ids. is_below (greatest a ids) x) (take_all n above few) ∙ none-left a present x h)

pub in-full : (start : Id) (events : List GroupEvent) → DeliversInFull start events
in-full start events = λ later event earlier e consumer limit noack asks.
    let a = cursor start earlier in
    let same : new_ids_of_event event a ≡ new_ids limit a event.present = ap (λ (ask : GroupAsk). new_ids_of_ask ask event.present a) asks in
    (by event earlier limit same (full limit a event.present), λ n is. subst (λ (ids : List Id). length ids ≤ n) (sym same) (limited-few (filter (λ y. is_below a y) event.present) limit n is)) where
      by : (event : GroupEvent) (earlier : List GroupEvent) (limit : Option ℕ) → new_ids_of_event event (cursor start earlier) ≡ new_ids limit (cursor start earlier) event.present
          → (limit ≡ Some (length (new_ids limit (cursor start earlier) event.present)))
          ⊎ ((x : Id) → has_id event.present x ≡ true → is_below (greatest (cursor start earlier) (new_ids limit (cursor start earlier) event.present)) x ≡ false)
          → (limit ≡ Some (length (new_ids_of_event event (cursor start earlier)))) ⊎ ((x : Id) → has_id event.present x ≡ true → is_below (cursor start (event ∷ earlier)) x ≡ false)
      by event earlier limit same (inl e) = inl (e ∙ ap (λ (ids : List Id). Some (length ids)) (sym same))
      by event earlier limit same (inr f) =
          inr (λ x h. ap (λ (c : Id). is_below c x) (cursor-step start event earlier ∙ ap (greatest (cursor start earlier)) same) ∙ f x h)
