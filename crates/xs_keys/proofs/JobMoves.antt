-- The place of an entry after a change of the stream and after a command.
use Rattle.std.proofs.Common.{◌≡◌, ◌⊎◌, inl, inr, ℕ, ◌+◌, ◌≤◌, Bool, true, false, cond, not, ◌&&◌, ◌||◌, List, [], ◌∷◌}
use Rattle.std.proofs.Common.{◌++◌, filter, Option, Some, None, is_some, Result, Ok, Err, is_ok, length, bytes_eq, sym}
use Rattle.std.proofs.Common.{ap, subst, ◌∙◌, refl, arith, length-append}
use Rattle.std.proofs.lemmas.Option.{same_Some}
use Rattle.std.specs.Prelude.{nat_le}
use Rattle.std.proofs.lemmas.List.{append-nil}
use Rattle.std.proofs.lemmas.List.Elements.{filter-append}
use Rattle.std.proofs.lemmas.Bool.Decides.{nat_tests}
use Rattle.xs_stream.specs.declared.trim.Trim.TheVariants.{MaxLen, MinId}
use Rattle.xs_keys.specs.Event.{History}
use Rattle.xs_command.specs.declared.command.AddCommand.{AddCommand}
use Rattle.std.proofs.lemmas.Bool.{false≢true, and_from, or_left, or_right}
use Rattle.std.specs.List.{list_all, list_any, IsDistinct}
use Rattle.xs_stream.specs.Id.{is_below, is_same_id, has_id, id_of_addition}
use Rattle.xs_stream.specs.StreamContent.{AllUpTo, ids_of, is_trimmed, count_above}
use Rattle.xs_group.specs.Claims.{row_at, is_idle, is_removed, is_taken, claim_among, without_repeats, from_start}
use Rattle.xs_group.specs.declared.claims.ClaimRule.{ClaimRule}
use Rattle.xs_group.specs.Claims.{is_hit, scanned_part}
use Rattle.xs_command.specs.WellFormed.{IsWellFormed, keys_of}
use Rattle.xs_command.specs.declared.command.ClaimCommand.{ClaimCommand}
use Rattle.xs_command.specs.declared.command.AutoClaimCommand.{AutoClaimCommand}
use Rattle.xs_keys.specs.Terms.{AddError, AddId, Field, GroupStart, Top, At, option_map, option_map_or, Id, Trim}
use Rattle.xs_keys.specs.Terms.{RowState, is_same_name, Command, Ping, Quit, Add, Delete, TrimTo, Len, Scan}
use Rattle.xs_keys.specs.Terms.{GroupCreate, GroupDestroy, ConsumerCreate, ConsumerDelete, ReadGroup, Ack, Pending}
use Rattle.xs_keys.specs.Terms.{PendingRows, Claim, AutoClaim, DropKeys, Inspect, GroupCreateCommand, ReadGroupCommand, ReadOne}
use Rattle.xs_keys.specs.Terms.{ReadFrom, New, After}
use Rattle.xs_keys.specs.Life.{StreamEvent, add_entry, delete_entries, trim_entries, is_listed, life_or_new}
use Rattle.xs_keys.specs.Life.{key_life_after, key_life, entry_of, entries_added_by, added_in, top, removes_id}
use Rattle.xs_keys.specs.Life.{is_present, present_entries}
use Rattle.xs_keys.specs.GroupAsk.{GroupAsk, create_consumer, delete_consumer, acknowledge, claim, auto_claim}
use Rattle.xs_keys.specs.GroupAsk.{new_ids_of_ask, claim_of_ask, consumer_of, reads_without_noack}
use Rattle.xs_keys.specs.GroupAsk.{is_acknowledgement_of}
use Rattle.xs_keys.specs.GroupAsk.{deletes_consumer}
use Rattle.xs_keys.specs.GroupEvent.{GroupEvent, delivered_ids, cursor, pending_row_at, rows}
use Rattle.xs_keys.specs.Owner.{last_assignee, owner}
use Rattle.xs_keys.specs.GroupLife.{GroupLife, present_in, starting_id, new_life, life_after_ask, ask_of_read}
use Rattle.xs_keys.specs.GroupLife.{life_after_reads, group_life_after, reads_of, read_group_of, group_life, is_new}
use Rattle.xs_keys.specs.GroupLife.{reads_new_entries}
use Rattle.xs_keys.specs.JobPlace.{Place, before_start, waiting, dropped, handed_out, pending, settled, place_of}
use Rattle.xs_keys.specs.JobPlace.{place_in, place_after}
use Rattle.xs_keys.specs.Effect.{deletes_entry, is_trimmed_after_addition, may_trim_entry, reads_new_entries_in}
use Rattle.xs_keys.specs.Effect.{has_noack}
use Rattle.xs_keys.specs.Effect.{claims_by_id, may_claim_entry, reader_or_claimer, acknowledges_entry}
use Rattle.xs_keys.specs.Effect.{removes_consumer, may_begin_job, ends_group}
use Rattle.xs_keys.specs.JobMove.{found_at, source, HasArrow, HasToMove, trims_new, IsFirstPlace, MovesAlong, is_final}
use Rattle.xs_keys.specs.JobMove as arrow
use Rattle.xs_keys.specs.JobMove.{NoneEndsGroup}
use Rattle.xs_keys.proofs.Truths.{first_of, second_of, or_false}
use Rattle.xs_keys.proofs.IdLists.{has_id-append, has_id-where}
use Rattle.xs_keys.proofs.Streams.{adds-not_new, up_to-present}
use Rattle.xs_stream.proofs.Order.{below-irrefl, is_same_id-eq, below-not_back, not_above-trans}
use Rattle.xs_stream.proofs.Assigning.{assigned-above}
use Rattle.xs_stream.proofs.InOrder.{ids_of-append}
use Rattle.xs_keys.proofs.Lives.{others-absent, not-read}
use Rattle.xs_keys.proofs.Owners.{owner-row, row-found, of_row}
use Rattle.xs_keys.proofs.ClaimedIds.{without_repeats-has}
use Rattle.xs_keys.proofs.IdsAtEvents.{SeesItsKey, sees-life, added-more, added-up_to, present-before, has_id-present}
use Rattle.xs_keys.proofs.IdsAtEvents.{delivered-added}
use Rattle.xs_keys.proofs.JobPlaces.{place_by, life_of, Went, stayed, was_handed_out, was_delivered, was_taken}
use Rattle.xs_keys.proofs.JobPlaces.{was_settled, went, settled-now, pending-owner, waiting-asked, owner-last}

-- ---- a change of the stream

-- how a change moves an entry that was added
data Altered (change : StreamEvent) (past : List StreamEvent) (x : Id) (here there : Place) : Type 0 where
  kept : there ≡ here → Altered change past x here there
  fell : removes_id change (top past) (ids_of (filter (λ e. is_present past e.0) (added_in past) ++ entries_added_by change (top past))) x ≡ true → here ≡ waiting → there ≡ dropped → Altered change past x here there

module _ (start : Id) (events : List GroupEvent) (change : StreamEvent) (past : List StreamEvent) (x : Id) (given : has_id (ids_of (added_in past)) x ≡ true) where
  -- what isn't in the stream any more was dropped
  pub was-dropped : has_id (ids_of (present_entries past)) x ≡ true → has_id (ids_of (present_entries (change ∷ past))) x ≡ false → removes_id change (top past) (ids_of (filter (λ e. is_present past e.0) (added_in past) ++ entries_added_by change (top past))) x ≡ true
  was-dropped v w =
      by (removes_id change (top past) (ids_of (filter (λ e. is_present past e.0) (added_in past) ++ entries_added_by change (top past))) x) refl
      (has_id (ids_of (entries_added_by change (top past))) x) (adds-not_new change (top past) x (added-up_to past x given))
      (is_present past x) (first_of (is_present past x) _ (sym (has_id-present past x) ∙ v))
      (sym w ∙ has_id-present (change ∷ past) x ∙ ap (λ b. is_present (change ∷ past) x && b) (added-more change past x given))
    where
      by : (d : Bool) → removes_id change (top past) (ids_of (filter (λ e. is_present past e.0) (added_in past) ++ entries_added_by change (top past))) x ≡ d → (n : Bool) → n ≡ false → (s : Bool) → s ≡ true
          → false ≡ (cond d false (cond n true s) && true) → d ≡ true
      by true e n f s g h = refl
      by false e true f s g h = absurd (false≢true (sym f))
      by false e false f true g h = absurd (false≢true h)
      by false e false f false g h = absurd (false≢true g)

  abbrev at : Bool → Bool → Bool → Place
  at above went there = place_by above went there (last_assignee start events x) (owner start events x)

  altered : Altered change past x (place_of (life_of start events) (ids_of (present_entries past)) x) (place_of (life_of start events) (ids_of (present_entries (change ∷ past))) x)
  altered = by (has_id (ids_of (present_entries past)) x) refl (has_id (ids_of (present_entries (change ∷ past))) x) refl (is_below start x) refl (has_id (delivered_ids start events) x) refl where
    by : (v : Bool) → has_id (ids_of (present_entries past)) x ≡ v → (w : Bool) → has_id (ids_of (present_entries (change ∷ past))) x ≡ w → (a : Bool) → is_below start x ≡ a → (d : Bool) → has_id (delivered_ids start events) x ≡ d
        → Altered change past x (place_of (life_of start events) (ids_of (present_entries past)) x) (place_of (life_of start events) (ids_of (present_entries (change ∷ past))) x)
    by true v true w a e d f = kept (ap (λ there. at (is_below start x) (has_id (delivered_ids start events) x) there) (w ∙ sym v))
    by false v false w a e d f = kept (ap (λ there. at (is_below start x) (has_id (delivered_ids start events) x) there) (w ∙ sym v))
    by false v true w a e d f = absurd (false≢true (sym v ∙ present-before change past x (added-up_to past x given) w))
    by true v false w false e d f = kept ((λ i. at (e i) (has_id (delivered_ids start events) x) (has_id (ids_of (present_entries (change ∷ past))) x)) ∙ sym (λ i. at (e i) (has_id (delivered_ids start events) x) (has_id (ids_of (present_entries past)) x)))
    by true v false w true e true f = kept ((λ i. at (e i) (f i) (has_id (ids_of (present_entries (change ∷ past))) x)) ∙ sym (λ i. at (e i) (f i) (has_id (ids_of (present_entries past)) x)))
    by true v false w true e false f =
        fell (was-dropped v w) (λ i. at (e i) (f i) (v i)) (λ i. at (e i) (f i) (w i))

none-life : (stream : Option (List StreamEvent)) (x : Id) → place_in stream None x ≡ None
none-life None x = refl
none-life (Some changes) x = refl

-- what is dropped now isn't in the stream
pub not-present : (change : StreamEvent) (past : List StreamEvent) (x : Id) → removes_id change (top past) (ids_of (filter (λ e. is_present past e.0) (added_in past) ++ entries_added_by change (top past))) x ≡ true
    → has_id (ids_of (present_entries (change ∷ past))) x ≡ false
not-present change past x d =
    has_id-present (change ∷ past) x
    ∙ ap (λ b. cond b false (cond (has_id (ids_of (entries_added_by change (top past))) x) true (is_present past x)) && has_id (ids_of (added_in (change ∷ past))) x) d

-- what is added now is new
new-now : (change : StreamEvent) (past : List StreamEvent) (x : Id) → has_id (ids_of (added_in past)) x ≡ false → has_id (ids_of (added_in (change ∷ past))) x ≡ true → has_id (ids_of (entries_added_by change (top past))) x ≡ true
new-now change past x g h =
    ap (λ b. b || has_id (ids_of (entries_added_by change (top past))) x) (sym g)
    ∙ sym (has_id-append (ids_of (added_in past)) (ids_of (entries_added_by change (top past))) x)
    ∙ ap (λ ids. has_id ids x) (sym (ids_of-append (added_in past) (entries_added_by change (top past)))) ∙ h

-- the command deletes or settles nothing here
record IsIdle (command : Command) (key group : List ℕ) (x : Id) : Type 0 where
  no_deletion : deletes_entry command key x ≡ false
  no_settling : (ids : List Id) (name : List ℕ) → (acknowledges_entry command key group x || (removes_consumer command key group name || (claims_by_id command key group x && not (has_id ids x)))) ≡ false

module _ (command : Command) (key group : List ℕ) (x : Id) where
  owes-nothing : IsIdle command key group x → (ids : List Id) (here there : Place) → HasToMove command key group ids x here there
  owes-nothing idle ids before_start there = tt
  owes-nothing idle ids waiting there = λ e. absurd (false≢true (sym idle.no_deletion ∙ e))
  owes-nothing idle ids dropped there = tt
  owes-nothing idle ids handed_out there = tt
  owes-nothing idle ids (pending name) there = λ e. absurd (false≢true (sym (idle.no_settling ids name) ∙ e))
  owes-nothing idle ids settled there = tt

  same : IsIdle command key group x → (ids : List Id) (p : Option Place) → MovesAlong command key group ids x p p
  same idle ids None = tt
  same idle ids (Some here) = (inl refl, owes-nothing idle ids here here)

  -- what is pending is settled along one of three arrows
  settles-along : (ids : List Id) (name : List ℕ) (here there : Place) → here ≡ pending name → there ≡ settled
      → (acknowledges_entry command key group x || (removes_consumer command key group name || (may_claim_entry command key group x && not (has_id ids x)))) ≡ true
      → HasArrow command key group ids x here there
  settles-along ids name here there e f = by (acknowledges_entry command key group x) refl (removes_consumer command key group name) refl where
    by : (a : Bool) → acknowledges_entry command key group x ≡ a → (r : Bool) → removes_consumer command key group name ≡ r
        → (a || (r || (may_claim_entry command key group x && not (has_id ids x)))) ≡ true → HasArrow command key group ids x here there
    by true a removes r s = (arrow.acknowledge name, e, f, a)
    by false a true r s = (arrow.remove_consumer name, e, f, r)
    by false a false r s = (arrow.find_deleted name, e, f, s)

  ended : (ids : List Id) (p : Option Place) → ends_group command key group ≡ true → MovesAlong command key group ids x p None
  ended ids None e = tt
  ended ids (Some here) e = e

  -- no life is open before and after
  unborn : (ids : List Id) (one other : Option (List StreamEvent)) → MovesAlong command key group ids x (place_in one None x) (place_in other None x)
  unborn ids one other = subst (λ p. MovesAlong command key group ids x p (place_in other None x)) (sym (none-life one x)) (subst (λ q. MovesAlong command key group ids x None q) (sym (none-life other x)) tt)

  -- the command accounts for what a change does
  record Changes (change : StreamEvent) (past : List StreamEvent) : Type 0 where
    may : removes_id change (top past) (ids_of (filter (λ e. is_present past e.0) (added_in past) ++ entries_added_by change (top past))) x ≡ true → (deletes_entry command key x || may_trim_entry command key (ids_of (present_entries past)) x) ≡ true
    must : deletes_entry command key x ≡ true → (ids : List Id) → removes_id change (top past) ids x ≡ true
    settles_none : (ids : List Id) (name : List ℕ) → (acknowledges_entry command key group x || (removes_consumer command key group name || (claims_by_id command key group x && not (has_id ids x)))) ≡ false
    comes : has_id (ids_of (entries_added_by change (top past))) x ≡ true
        → (may_begin_job command key group ≡ true) × ((life : GroupLife) (ids : List Id) → has_id (delivered_ids life.start life.events) x ≡ false → IsFirstPlace command ids x (place_of life (ids_of (present_entries (change ∷ past))) x))

  -- one change more
  goes-changed : (change : StreamEvent) (past : List StreamEvent) (life : Option GroupLife) → SeesItsKey (Some past) life → Changes change past
      → MovesAlong command key group (ids_of (present_entries past)) x (place_in (Some past) life x) (place_in (Some (change ∷ past)) life x)
  goes-changed change past None sees does = tt
  goes-changed change past (Some life) sees does = by (has_id (ids_of (added_in past)) x) refl (has_id (ids_of (added_in (change ∷ past))) x) refl where
    by : (g : Bool) → has_id (ids_of (added_in past)) x ≡ g → (h : Bool) → has_id (ids_of (added_in (change ∷ past))) x ≡ h
        → MovesAlong command key group (ids_of (present_entries past)) x (cond g (Some (place_of life (ids_of (present_entries past)) x)) None) (cond h (Some (place_of life (ids_of (present_entries (change ∷ past))) x)) None)
    by true g false h = absurd (false≢true (sym h ∙ added-more change past x g))
    by false g false h = tt
    by false g true h = let c = does.comes (new-now change past x g h) in (c.0, c.1 life (ids_of (present_entries past)) (not_yet (has_id (delivered_ids life.start life.events) x) refl)) where
      not_yet : (d : Bool) → has_id (delivered_ids life.start life.events) x ≡ d → d ≡ false
      not_yet false e = refl
      not_yet true e = absurd (false≢true (sym g ∙ delivered-added life.start past life.events x sees e))
    by true g true h = (how (altered life.start life.events change past x g), owes (place_of life (ids_of (present_entries past)) x) refl) where
      how : Altered change past x (place_of life (ids_of (present_entries past)) x) (place_of life (ids_of (present_entries (change ∷ past))) x)
          → (place_of life (ids_of (present_entries (change ∷ past))) x ≡ place_of life (ids_of (present_entries past)) x)
          ⊎ HasArrow command key group (ids_of (present_entries past)) x (place_of life (ids_of (present_entries past)) x) (place_of life (ids_of (present_entries (change ∷ past))) x)
      how (kept e) = inl e
      how (fell d e f) = inr (arrow.drop_entry, e, f, does.may d)

      owes : (here : Place) → place_of life (ids_of (present_entries past)) x ≡ here → HasToMove command key group (ids_of (present_entries past)) x here (place_of life (ids_of (present_entries (change ∷ past))) x)
      owes before_start e = tt
      owes waiting e = λ d.
          let asked = waiting-asked (is_below life.start x) (has_id (delivered_ids life.start life.events) x) (has_id (ids_of (present_entries past)) x) (last_assignee life.start life.events x) (owner life.start life.events x) e in
          let gone = not-present change past x (does.must d (ids_of (filter (λ e. is_present past e.0) (added_in past) ++ entries_added_by change (top past)))) in
          λ i. place_by (asked.0 i) (asked.1 i) (gone i) (last_assignee life.start life.events x) (owner life.start life.events x)
      owes dropped e = tt
      owes handed_out e = tt
      owes (pending name) e = λ s. absurd (false≢true (sym (does.settles_none (ids_of (present_entries past)) name) ∙ s))
      owes settled e = tt

-- ---- an ask of the group

-- the command accounts for what an ask does to an entry
record Causes (command : Command) (key group : List ℕ) (ids : List Id) (x : Id) (now : ℕ) (ask : GroupAsk) : Type 0 where
  hands_out : (a : Id) → has_id (new_ids_of_ask ask ids a) x ≡ true → reads_without_noack ask ≡ false → (reads_new_entries_in command key group && has_noack command) ≡ true
  delivers : (a : Id) → has_id (new_ids_of_ask ask ids a) x ≡ true → reads_without_noack ask ≡ true → ((reads_new_entries_in command key group && not (has_noack command)) ≡ true) × (reader_or_claimer command ≡ consumer_of ask)
  takes : (es : List (Id × RowState)) → has_id (claim_of_ask ask now ids es).take x ≡ true → ((may_claim_entry command key group x && has_id ids x) ≡ true) × (reader_or_claimer command ≡ consumer_of ask)
  settles : (es : List (Id × RowState)) (name : List ℕ) → (is_acknowledgement_of ask x || (deletes_consumer ask name || has_id (claim_of_ask ask now ids es).removed x)) ≡ true
      → (acknowledges_entry command key group x || (removes_consumer command key group name || (may_claim_entry command key group x && not (has_id ids x)))) ≡ true
  no_deletion : deletes_entry command key x ≡ false
  must : (es : List (Id × RowState)) → is_some (row_at es x) ≡ true → (name : List ℕ)
      → (acknowledges_entry command key group x || (removes_consumer command key group name || (claims_by_id command key group x && not (has_id ids x)))) ≡ true
      → (is_acknowledgement_of ask x || (deletes_consumer ask name || has_id (claim_of_ask ask now ids es).removed x)) ≡ true

-- an entry whose owner is known has a row
has-row : (start : Id) (events : List GroupEvent) (x : Id) (name : List ℕ) → owner start events x ≡ Some name → is_some (row_at (rows start events) x) ≡ true
has-row start events x name o = ap is_some (row-found start events x) ∙ by (pending_row_at start events x) (sym (owner-row start events x) ∙ o) where
  by : (r : Option RowState) → of_row r ≡ Some name → is_some r ≡ true
  by None e = ap is_some e
  by (Some row) e = refl

once-assigned : (a b : Bool) → (a || b) ≡ ((a && true) || b)
once-assigned true b = refl
once-assigned false b = refl

goes-asked : (command : Command) (key group : List ℕ) (x : Id) (now : ℕ) (ask : GroupAsk) (stream : Option (List StreamEvent)) (life : Option GroupLife) → Causes command key group (present_in stream) x now ask
    → MovesAlong command key group (present_in stream) x (place_in stream life x) (place_in stream (life_after_ask now (present_in stream) ask life) x)
goes-asked command key group x now ask None life causes = tt
goes-asked command key group x now ask (Some changes) None causes = tt
goes-asked command key group x now ask (Some changes) (Some life) causes = by (has_id (ids_of (added_in changes)) x) where
  how : Went life.start life.events (record { now = now; present = ids_of (present_entries changes); ask = ask }) x (place_of life (ids_of (present_entries changes)) x)
      (place_of (life_of life.start (record { now = now; present = ids_of (present_entries changes); ask = ask } ∷ life.events)) (ids_of (present_entries changes)) x)
      → (place_of (life_of life.start (record { now = now; present = ids_of (present_entries changes); ask = ask } ∷ life.events)) (ids_of (present_entries changes)) x ≡ place_of life (ids_of (present_entries changes)) x)
      ⊎ HasArrow command key group (ids_of (present_entries changes)) x (place_of life (ids_of (present_entries changes)) x)
      (place_of (life_of life.start (record { now = now; present = ids_of (present_entries changes); ask = ask } ∷ life.events)) (ids_of (present_entries changes)) x)
  how (stayed e) = inl e
  how (was_handed_out n k e f) = inr (arrow.hand_out, e, f, causes.hands_out (cursor life.start life.events) n k)
  how (was_delivered n k name c e f) =
      let d = causes.delivers (cursor life.start life.events) n k in
      inr (arrow.deliver name, e, f, (d.0, d.1 ∙ c))
  how (was_taken t one other c e f) =
      let d = causes.takes (rows life.start life.events) t in
      inr (arrow.claim one other, e, f, (d.0, d.1 ∙ c))
  how (was_settled s name l e f) =
      inr (settles-along command key group x (ids_of (present_entries changes)) name _ _ e f
      (causes.settles (rows life.start life.events) name
      (once-assigned (is_acknowledgement_of ask x) (deletes_consumer ask name || has_id (claim_of_ask ask now (ids_of (present_entries changes)) (rows life.start life.events)).removed x)
      ∙ ap (λ last. (is_acknowledgement_of ask x && is_some last) || (option_map_or (deletes_consumer ask) last false || has_id (claim_of_ask ask now (ids_of (present_entries changes)) (rows life.start life.events)).removed x)) (sym l) ∙ s)))

  owes : (here : Place) → place_of life (ids_of (present_entries changes)) x ≡ here
      → HasToMove command key group (ids_of (present_entries changes)) x here (place_of (life_of life.start (record { now = now; present = ids_of (present_entries changes); ask = ask } ∷ life.events)) (ids_of (present_entries changes)) x)
  owes before_start e = tt
  owes waiting e = λ d. absurd (false≢true (sym causes.no_deletion ∙ d))
  owes dropped e = tt
  owes handed_out e = tt
  owes (pending name) e = λ s.
      let o = pending-owner (is_below life.start x) (has_id (delivered_ids life.start life.events) x) (has_id (ids_of (present_entries changes)) x) (last_assignee life.start life.events x) (owner life.start life.events x) name e in
      let l = owner-last life.start life.events x name o in
      settled-now life.start life.events (record { now = now; present = ids_of (present_entries changes); ask = ask }) x (ids_of (present_entries changes)) refl name o
      (ap (λ last. (is_acknowledgement_of ask x && is_some last) || (option_map_or (deletes_consumer ask) last false || has_id (claim_of_ask ask now (ids_of (present_entries changes)) (rows life.start life.events)).removed x)) l
      ∙ sym (once-assigned (is_acknowledgement_of ask x) (deletes_consumer ask name || has_id (claim_of_ask ask now (ids_of (present_entries changes)) (rows life.start life.events)).removed x))
      ∙ causes.must (rows life.start life.events) (has-row life.start life.events x name o) name s)
  owes settled e = tt

  by : (g : Bool) → MovesAlong command key group (ids_of (present_entries changes)) x (cond g (Some (place_of life (ids_of (present_entries changes)) x)) None)
      (cond g (Some (place_of (life_of life.start (record { now = now; present = ids_of (present_entries changes); ask = ask } ∷ life.events)) (ids_of (present_entries changes)) x)) None)
  by false = tt
  by true = (
    how (went life.start life.events (record { now = now; present = ids_of (present_entries changes); ask = ask }) x (ids_of (present_entries changes)) refl),
    owes (place_of life (ids_of (present_entries changes)) x) refl,
  )

-- ---- what each command accounts for

join-causes : (k g consumer key group : List ℕ) (ids : List Id) (x : Id) (now : ℕ) → Causes (ConsumerCreate k g consumer) key group ids x now (create_consumer consumer)
join-causes k g consumer key group ids x now = record {
  hands_out = λ a e f. absurd (false≢true e);
  delivers = λ a e f. absurd (false≢true e);
  takes = λ es e. absurd (false≢true e);
  settles = λ es name e. absurd (false≢true e);
  no_deletion = refl;
  must = λ es found name e. absurd (false≢true e);
}

or_nothing : (a : Bool) → (a || (false || false)) ≡ true → a ≡ true
or_nothing true e = refl
or_nothing false e = e

ack-causes : (k g : List ℕ) (named : List Id) (key group : List ℕ) → (is_same_name key k && is_same_name group g) ≡ true → (ids : List Id) (x : Id) (now : ℕ) → Causes (Ack k g named) key group ids x now (acknowledge named)
ack-causes k g named key group here ids x now = record {
  hands_out = λ a e f. absurd (false≢true e);
  delivers = λ a e f. absurd (false≢true e);
  takes = λ es e. absurd (false≢true e);
  settles = λ es name e. or_left _ _ (and_from (is_same_name key k && is_same_name group g) (has_id named x) here (or_nothing (has_id named x) e));
  no_deletion = refl;
  must = λ es found name e. or_left _ _ (second_of (is_same_name key k && is_same_name group g) (has_id named x) (or_nothing _ e));
}

leave-causes : (k g consumer key group : List ℕ) → (is_same_name key k && is_same_name group g) ≡ true → (ids : List Id) (x : Id) (now : ℕ) → Causes (ConsumerDelete k g consumer) key group ids x now (delete_consumer consumer)
leave-causes k g consumer key group here ids x now = record {
  hands_out = λ a e f. absurd (false≢true e);
  delivers = λ a e f. absurd (false≢true e);
  takes = λ es e. absurd (false≢true e);
  settles = λ es name e. or_left _ _ (and_from (is_same_name key k && is_same_name group g) (is_same_name name consumer) here (or_false (is_same_name name consumer) e));
  no_deletion = refl;
  must = λ es found name e. or_left _ _ (second_of (is_same_name key k && is_same_name group g) (is_same_name name consumer) (or_false _ e));
}

among-taken : (es : List (Id × RowState)) (present : List Id) (now : ℕ) (rule : ClaimRule) (ids : List Id) (x : Id) → has_id (claim_among es present now rule ids).take x ≡ true → (has_id ids x ≡ true) × (has_id present x ≡ true)
among-taken es present now rule ids x e =
    let f = sym (has_id-where (is_taken es present now rule) ids x) ∙ e in
    (second_of (is_taken es present now rule x) (has_id ids x) f, second_of (is_idle now rule (row_at es x)) (has_id present x) (first_of (is_taken es present now rule x) (has_id ids x) f))

among-removed : (es : List (Id × RowState)) (present : List Id) (now : ℕ) (rule : ClaimRule) (ids : List Id) (x : Id) → has_id (claim_among es present now rule ids).removed x ≡ true → (has_id ids x ≡ true) × (not (has_id present x) ≡ true)
among-removed es present now rule ids x e =
    let f = sym (has_id-where (is_removed es present) ids x) ∙ e in
    (second_of (is_removed es present x) (has_id ids x) f, second_of (is_some (row_at es x)) (not (has_id present x)) (first_of (is_removed es present x) (has_id ids x) f))

claim-causes : (c : ClaimCommand) (key group : List ℕ) → (is_same_name key c.key && is_same_name group c.group) ≡ true → (ids : List Id) (x : Id) (now : ℕ) → Causes (Claim c) key group ids x now (claim c.consumer c.rule c.ids)
claim-causes c key group here ids x now = record {
  hands_out = λ a e f. absurd (false≢true e);
  delivers = λ a e f. absurd (false≢true e);
  takes = λ es e.
      let t = among-taken es ids now c.rule (without_repeats c.ids) x e in
      (and_from _ (has_id ids x) (and_from (is_same_name key c.key && is_same_name group c.group) (has_id c.ids x) here (sym (without_repeats-has c.ids x) ∙ t.0)) t.1, refl);
  settles = λ es name e.
      let t = among-removed es ids now c.rule (without_repeats c.ids) x e in
      and_from _ (not (has_id ids x)) (and_from (is_same_name key c.key && is_same_name group c.group) (has_id c.ids x) here (sym (without_repeats-has c.ids x) ∙ t.0)) t.1;
  no_deletion = refl;
  must = λ es found name e.
      let named = second_of (is_same_name key c.key && is_same_name group c.group) (has_id c.ids x) (first_of ((is_same_name key c.key && is_same_name group c.group) && has_id c.ids x) (not (has_id ids x)) e) in
      has_id-where (is_removed es ids) (without_repeats c.ids) x
      ∙ and_from (is_removed es ids x) (has_id (without_repeats c.ids) x)
      (and_from (is_some (row_at es x)) (not (has_id ids x)) found (second_of ((is_same_name key c.key && is_same_name group c.group) && has_id c.ids x) (not (has_id ids x)) e))
      (without_repeats-has c.ids x ∙ named);
}

auto_claim-causes : (c : AutoClaimCommand) (key group : List ℕ) → (is_same_name key c.key && is_same_name group c.group) ≡ true → (ids : List Id) (x : Id) (now : ℕ)
    → Causes (AutoClaim c) key group ids x now (auto_claim c.consumer c.rule c.start c.limit)
auto_claim-causes c key group here ids x now = record {
  hands_out = λ a e f. absurd (false≢true e);
  delivers = λ a e f. absurd (false≢true e);
  takes = λ es e. (and_from ((is_same_name key c.key && is_same_name group c.group) || false) (has_id ids x) (or_left _ _ here) (among-taken es ids now c.rule (scanned_part (is_hit es ids now c.rule) c.limit (from_start c.start es)) x e).1, refl);
  settles = λ es name e.
      and_from ((is_same_name key c.key && is_same_name group c.group) || false) (not (has_id ids x)) (or_left _ _ here) (among-removed es ids now c.rule (scanned_part (is_hit es ids now c.rule) c.limit (from_start c.start es)) x e).1;
  no_deletion = refl;
  must = λ es found name e. absurd (false≢true e);
}

read-causes : (read : ReadGroupCommand) (from : ReadFrom) (key group : List ℕ) → is_same_name group read.group ≡ true → (is_new from ≡ true → reads_new_entries (ReadGroup read) key ≡ true) → (ids : List Id) (x : Id) (now : ℕ)
    → Causes (ReadGroup read) key group ids x now (ask_of_read read from)
read-causes read New key group here asks ids x now = record {
  hands_out = λ a e f. and_from (is_same_name group read.group && reads_new_entries (ReadGroup read) key) read.noack (and_from (is_same_name group read.group) (reads_new_entries (ReadGroup read) key) here (asks refl)) (by read.noack f);
  delivers = λ a e f. (and_from (is_same_name group read.group && reads_new_entries (ReadGroup read) key) (not read.noack) (and_from (is_same_name group read.group) (reads_new_entries (ReadGroup read) key) here (asks refl)) f, refl);
  takes = λ es e. absurd (false≢true e);
  settles = λ es name e. absurd (false≢true e);
  no_deletion = refl;
  must = λ es found name e. absurd (false≢true e);
} where
  by : (t : Bool) → not t ≡ false → t ≡ true
  by true e = refl
  by false e = sym e
read-causes read (After id) key group here asks ids x now = record {
  hands_out = λ a e f. absurd (false≢true e);
  delivers = λ a e f. absurd (false≢true e);
  takes = λ es e. absurd (false≢true e);
  settles = λ es name e. absurd (false≢true e);
  no_deletion = refl;
  must = λ es found name e. absurd (false≢true e);
}

-- ---- reads

goes-read : (now : ℕ) (read : ReadGroupCommand) (key group : List ℕ) → is_same_name group read.group ≡ true → (stream : Option (List StreamEvent)) (life : Option GroupLife) (x : Id) (reads : List ReadOne) → IsDistinct bytes_eq (keys_of reads)
    → (list_any (λ one. is_same_name key one.key && is_new one.from) reads ≡ true → reads_new_entries (ReadGroup read) key ≡ true)
    → MovesAlong (ReadGroup read) key group (present_in stream) x (place_in stream life x) (place_in stream (life_after_reads now (present_in stream) read key reads life) x)
unfolding IsDistinct
goes-read now read key group here stream life x [] distinct asks = same (ReadGroup read) key group x (record { no_deletion = refl; no_settling = λ ids name. refl }) (present_in stream) (place_in stream life x)
goes-read now read key group here stream life x (one ∷ more) distinct asks =
    by (is_same_name key one.key) refl (goes-read now read key group here stream life x more distinct.1 (λ e. asks (or_right (is_same_name key one.key && is_new one.from) _ e)))
  where
    by : (t : Bool) → is_same_name key one.key ≡ t
        → MovesAlong (ReadGroup read) key group (present_in stream) x (place_in stream life x) (place_in stream (life_after_reads now (present_in stream) read key more life) x)
        → MovesAlong (ReadGroup read) key group (present_in stream) x (place_in stream life x) (place_in stream (life_after_reads now (present_in stream) read key more (cond t (life_after_ask now (present_in stream) (ask_of_read read one.from) life) life)) x)
    by false e rest = rest
    by true e rest =
        subst (λ l. MovesAlong (ReadGroup read) key group (present_in stream) x (place_in stream life x) (place_in stream l x))
        (sym (not-read now (present_in stream) read key more (life_after_ask now (present_in stream) (ask_of_read read one.from) life) (others-absent key one.key more e distinct.0)))
        (goes-asked (ReadGroup read) key group x now (ask_of_read read one.from) stream life
        (read-causes read one.from key group here (λ f. asks (or_left _ _ (and_from (is_same_name key one.key) (is_new one.from) e f))) (present_in stream) x now))

-- ---- an event

-- a command that asks the group, if it is this one
asks-group : (command : Command) (key group : List ℕ) (x : Id) (now : ℕ) (ask : GroupAsk) (stream : Option (List StreamEvent)) (life : Option GroupLife) (t : Bool)
    → (t ≡ true → Causes command key group (present_in stream) x now ask) → (t ≡ false → IsIdle command key group x)
    → MovesAlong command key group (present_in stream) x (place_in stream life x) (place_in stream (cond t (life_after_ask now (present_in stream) ask life) life) x)
asks-group command key group x now ask stream life true causes idle = goes-asked command key group x now ask stream life (causes refl)
asks-group command key group x now ask stream life false causes idle = same command key group x (idle refl) (present_in stream) (place_in stream life x)

-- a command that changes the stream, if it is this one
changes-stream : (command : Command) (key group : List ℕ) (x : Id) (change : StreamEvent) (stream : Option (List StreamEvent)) (life : Option GroupLife) (t : Bool) → SeesItsKey stream life
    → (t ≡ true → (past : List StreamEvent) → Changes command key group x change past) → (t ≡ false → IsIdle command key group x)
    → MovesAlong command key group (present_in stream) x (place_in stream life x) (place_in (cond t (option_map (λ changes. change ∷ changes) stream) stream) life x)
changes-stream command key group x change stream life false sees does idle = same command key group x (idle refl) (present_in stream) (place_in stream life x)
changes-stream command key group x change None life true sees does idle = tt
changes-stream command key group x change (Some past) life true sees does idle = goes-changed command key group x change past life sees (does refl past)

-- an addition that may create the stream
adds : (command : Command) (key group : List ℕ) (x : Id) (change : StreamEvent) (make : Bool) (stream : Option (List StreamEvent)) (life : Option GroupLife) (t : Bool) → SeesItsKey stream life
    → (t ≡ true → (past : List StreamEvent) → Changes command key group x change past) → (t ≡ false → IsIdle command key group x)
    → MovesAlong command key group (present_in stream) x (place_in stream life x) (place_in (cond t (option_map (λ changes. change ∷ changes) (life_or_new make stream)) stream) life x)
adds command key group x change make (Some past) life t sees does idle = changes-stream command key group x change (Some past) life t sees does idle
adds command key group x change make None None t sees does idle = unborn command key group x [] None (cond t (option_map (λ changes. change ∷ changes) (life_or_new make None)) None)
adds command key group x change make None (Some life) t sees does idle = absurd sees

-- what a trim drops after an addition
pub trimmed-below : (given : Result Id AddError) (fields : List Field) (trim : Option Trim) (es : List (Id × List Field)) (x : Id)
    → (is_ok given && option_map_or (λ t. is_trimmed t (ids_of (es ++ entry_of given fields)) x) trim false) ≡ true → option_map_or (λ t. is_trimmed_after_addition t (ids_of es) x) trim false ≡ true
trimmed-below (Err refusal) fields trim es x e = absurd (false≢true e)
trimmed-below (Ok id) fields None es x e = absurd (false≢true e)
trimmed-below (Ok id) fields (Some (MinId low)) es x e = e
trimmed-below (Ok id) fields (Some (MaxLen n)) es x e =
    fewer (count_above x (ids_of es)) (length (cond (is_below x id) (id ∷ []) [])) (at_most (is_below x id))
    (ap (nat_le n) (sym (ap (count_above x) (ids_of-append es ((id, fields) ∷ [])) ∙ ap length (filter-append (λ y. is_below x y) (ids_of es) (id ∷ [])) ∙ length-append (filter (λ y. is_below x y) (ids_of es)) (cond (is_below x id) (id ∷ []) []))) ∙ e)
  where
    at_most : (t : Bool) → length (cond t (id ∷ []) []) ≤ 1
    at_most true = omega arith
    at_most false = omega arith

    fewer : (a b : ℕ) → b ≤ 1 → nat_le n (a + b) ≡ true → nat_le n (a + 1) ≡ true
    fewer a b few h = grind (arith, nat_tests, few, h)

-- none of what is up to it is above it
none-above : (x : Id) (ids : List Id) → AllUpTo x ids → count_above x ids ≡ 0
none-above x [] up = refl
none-above x (y ∷ ys) up = rw up.0 (none-above x ys up.1)

-- what is up to an id is up to a greater one
up_to-next_count : (t x : Id) (ids : List Id) → is_below t x ≡ true → AllUpTo t ids → AllUpTo x ids
up_to-next_count t x [] above up = tt
up_to-next_count t x (y ∷ ys) above up = (not_above-trans x t y (below-not_back t x above) up.0, up_to-next_count t x ys above up.1)

-- what is added is above the top
added-above : (given : Result Id AddError) (fields : List Field) (t x : Id) → ((y : Id) → given ≡ Ok y → is_below t y ≡ true) → has_id (ids_of (entry_of given fields)) x ≡ true → is_below t x ≡ true
added-above (Err refusal) fields t x above new = absurd (false≢true new)
added-above (Ok id) fields t x above new = subst (λ y. is_below t y ≡ true) (sym (is_same_id-eq x id (or_false (is_same_id x id) new))) (above id refl)

-- a trim drops what was added with it only by its own rule
trims-own : (given : Result Id AddError) (fields : List Field) (trim : Trim) (es : List (Id × List Field)) (x : Id) → AllUpTo x (ids_of es) → has_id (ids_of (entry_of given fields)) x ≡ true
    → is_trimmed trim (ids_of (es ++ entry_of given fields)) x ≡ true → trims_new trim x ≡ true
trims-own (Err refusal) fields trim es x up new e = absurd (false≢true new)
trims-own (Ok id) fields (MinId low) es x up new e = e
trims-own (Ok id) fields (MaxLen n) es x up new e = ap (nat_le n) (sym count) ∙ e where
  itself : is_below x id ≡ false
  itself = ap (λ y. is_below y id) (is_same_id-eq x id (or_false (is_same_id x id) new)) ∙ below-irrefl id

  count : count_above x (ids_of (es ++ (id, fields) ∷ [])) ≡ 0
  count =
      ap (count_above x) (ids_of-append es ((id, fields) ∷ [])) ∙ ap length (filter-append (λ y. is_below x y) (ids_of es) (id ∷ []))
      ∙ length-append (filter (λ y. is_below x y) (ids_of es)) (cond (is_below x id) (id ∷ []) [])
      ∙ (λ i. none-above x (ids_of es) up i + length (cond (itself i) (id ∷ []) []))

-- what is added is in the stream, unless the addition's own trim drops it
trim-needed : (now : ℕ) (id : AddId) (fields : List Field) (trim : Option Trim) (past : List StreamEvent) (x : Id) → has_id (ids_of (entries_added_by (add_entry now id fields trim) (top past))) x ≡ true
    → has_id (ids_of (present_entries (add_entry now id fields trim ∷ past))) x ≡ false → option_map_or (λ t. trims_new t x) trim false ≡ true
trim-needed now id fields trim past x new gone =
    own trim (second_of (is_ok (id_of_addition now (top past) id)) _ (by (removes_id (add_entry now id fields trim) (top past) (ids_of (present_entries past ++ entry_of (id_of_addition now (top past) id) fields)) x) refl
    (sym gone ∙ has_id-present (add_entry now id fields trim ∷ past) x
    ∙ (λ i. cond (removes_id (add_entry now id fields trim) (top past) (ids_of (present_entries past ++ entry_of (id_of_addition now (top past) id) fields)) x) false (cond (new i) true (is_present past x)) && given i))))
  where
    given : has_id (ids_of (added_in (add_entry now id fields trim ∷ past))) x ≡ true
    given = ap (λ ids. has_id ids x) (ids_of-append (added_in past) (entries_added_by (add_entry now id fields trim) (top past)))
        ∙ has_id-append (ids_of (added_in past)) (ids_of (entries_added_by (add_entry now id fields trim) (top past))) x ∙ or_right _ _ new

    by : (d : Bool) → removes_id (add_entry now id fields trim) (top past) (ids_of (present_entries past ++ entry_of (id_of_addition now (top past) id) fields)) x ≡ d → false ≡ (cond d false true && true)
        → removes_id (add_entry now id fields trim) (top past) (ids_of (present_entries past ++ entry_of (id_of_addition now (top past) id) fields)) x ≡ true
    by true e h = e
    by false e h = absurd (false≢true h)

    own : (trim : Option Trim) → option_map_or (λ t. is_trimmed t (ids_of (present_entries past ++ entry_of (id_of_addition now (top past) id) fields)) x) trim false ≡ true → option_map_or (λ t. trims_new t x) trim false ≡ true
    own None h = h
    own (Some t) h =
        trims-own (id_of_addition now (top past) id) fields t (present_entries past) x
        (up_to-next_count (top past) x (ids_of (present_entries past)) (added-above (id_of_addition now (top past) id) fields (top past) x (λ y e. assigned-above now (top past) id y e) new) (up_to-present past)) new h

added-first : (now : ℕ) (add : AddCommand) (past : List StreamEvent) (x : Id) → has_id (ids_of (entries_added_by (add_entry now add.id add.fields add.trim) (top past))) x ≡ true
    → (life : GroupLife) (ids : List Id) → has_id (delivered_ids life.start life.events) x ≡ false → IsFirstPlace (Add add) ids x (place_of life (ids_of (present_entries (add_entry now add.id add.fields add.trim ∷ past))) x)
added-first now add past x new life ids d =
    by (is_below life.start x) (has_id (delivered_ids life.start life.events) x) d (has_id (ids_of (present_entries (add_entry now add.id add.fields add.trim ∷ past))) x) refl
  where
    by : (a d : Bool) → d ≡ false → (t : Bool) → has_id (ids_of (present_entries (add_entry now add.id add.fields add.trim ∷ past))) x ≡ t
        → IsFirstPlace (Add add) ids x (place_by a d t (last_assignee life.start life.events x) (owner life.start life.events x))
    by false d e t f = tt
    by true true e t f = absurd (false≢true (sym e))
    by true false e true f = tt
    by true false e false f = trim-needed now add.id add.fields add.trim past x new f

-- where a new group finds what was added
new-group : (start : GroupStart) (changes : List StreamEvent) (x : Id) → has_id (ids_of (added_in changes)) x ≡ true
    → place_of (life_of (starting_id start (top changes)) []) (ids_of (present_entries changes)) x ≡ found_at start (ids_of (present_entries changes)) x
new-group (At id) changes x given = refl
new-group Top changes x given = ap (λ b. place_by b false (has_id (ids_of (present_entries changes)) x) None None) (added-up_to changes x given)

opens : (create : GroupCreateCommand) (key group : List ℕ) (x : Id) → may_begin_job (GroupCreate create) key group ≡ true → (stream : Option (List StreamEvent))
    → MovesAlong (GroupCreate create) key group (present_in stream) x (place_in stream None x) (place_in (life_or_new create.make stream) (new_life create stream) x)
opens create key group x is stream =
    subst (λ p. MovesAlong (GroupCreate create) key group (present_in stream) x p (place_in (life_or_new create.make stream) (new_life create stream) x)) (sym (none-life stream x))
    (by (life_or_new create.make stream) (same_ids create.make stream))
  where
    same_ids : (make : Bool) (stream : Option (List StreamEvent)) → present_in (life_or_new make stream) ≡ present_in stream
    same_ids true None = refl
    same_ids false None = refl
    same_ids make (Some changes) = refl

    by : (now : Option (List StreamEvent)) → present_in now ≡ present_in stream
        → MovesAlong (GroupCreate create) key group (present_in stream) x None (place_in now (option_map (λ changes. life_of (starting_id create.start (top changes)) []) now) x)
    by None e = tt
    by (Some changes) e = given (has_id (ids_of (added_in changes)) x) refl where
      given : (g : Bool) → has_id (ids_of (added_in changes)) x ≡ g
          → MovesAlong (GroupCreate create) key group (present_in stream) x None (cond g (Some (place_of (life_of (starting_id create.start (top changes)) []) (ids_of (present_entries changes)) x)) None)
      given true g = (is, new-group create.start changes x g ∙ ap (λ ids. found_at create.start ids x) e)
      given false g = tt

pub goes-lived : (now : ℕ) (command : Command) (key group : List ℕ) (served : Bool) (stream : Option (List StreamEvent)) (life : Option GroupLife) (x : Id) → IsWellFormed command → SeesItsKey stream life
    → MovesAlong command key group (present_in stream) x (place_in stream life x) (place_in (key_life_after now command key stream) (group_life_after now command key group served stream life) x)
goes-lived now (Ping message) key group served stream life x formed sees = same (Ping message) key group x (record { no_deletion = refl; no_settling = λ ids name. refl }) (present_in stream) (place_in stream life x)
goes-lived now Quit key group served stream life x formed sees = same Quit key group x (record { no_deletion = refl; no_settling = λ ids name. refl }) (present_in stream) (place_in stream life x)
goes-lived now (Add add) key group served stream life x formed sees =
    adds (Add add) key group x (add_entry now add.id add.fields add.trim) add.make stream life (is_same_name key add.key) sees
    (λ here past. record {
      may = λ e. and_from (is_same_name key add.key) _ here (trimmed-below (id_of_addition now (top past) add.id) add.fields add.trim (present_entries past) x e);
      must = λ e. absurd (false≢true e);
      settles_none = λ ids name. refl;
      comes = λ e. (here, added-first now add past x e);
    })
    (λ away. record { no_deletion = refl; no_settling = λ ids name. refl })
goes-lived now (Delete k named) key group served stream life x formed sees =
    changes-stream (Delete k named) key group x (delete_entries named) stream life (is_same_name key k) sees
    (λ here past. record {
      may = λ e. or_left _ _ (and_from (is_same_name key k) (has_id named x) here e);
      must = λ e ids. second_of (is_same_name key k) (has_id named x) e;
      settles_none = λ ids name. refl;
      comes = λ e. absurd (false≢true e);
    })
    (λ away. record { no_deletion = ap (λ b. b && has_id named x) away; no_settling = λ ids name. refl })
goes-lived now (TrimTo k trim) key group served stream life x formed sees =
    changes-stream (TrimTo k trim) key group x (trim_entries trim) stream life (is_same_name key k) sees
    (λ here past. record { may = λ e. and_from (is_same_name key k) _ here (ap (λ es. is_trimmed trim (ids_of es) x) (sym (append-nil (present_entries past))) ∙ e); must = λ e. absurd (false≢true e); settles_none = λ ids name. refl; comes = λ e. absurd (false≢true e) })
    (λ away. record { no_deletion = refl; no_settling = λ ids name. refl })
goes-lived now (Len k) key group served stream life x formed sees = same (Len k) key group x (record { no_deletion = refl; no_settling = λ ids name. refl }) (present_in stream) (place_in stream life x)
goes-lived now (Inspect inspection) key group served stream life x formed sees = same (Inspect inspection) key group x (record { no_deletion = refl; no_settling = λ ids name. refl }) (present_in stream) (place_in stream life x)
goes-lived now (Scan scan) key group served stream life x formed sees = same (Scan scan) key group x (record { no_deletion = refl; no_settling = λ ids name. refl }) (present_in stream) (place_in stream life x)
goes-lived now (GroupCreate create) key group served stream None x formed sees = by (is_same_name key create.key && is_same_name group create.group) refl where
  by : (t : Bool) → (is_same_name key create.key && is_same_name group create.group) ≡ t
      → MovesAlong (GroupCreate create) key group (present_in stream) x (place_in stream None x)
      (place_in (cond (is_same_name key create.key) (life_or_new create.make stream) stream) (cond t (new_life create stream) None) x)
  by true e =
      subst (λ t. MovesAlong (GroupCreate create) key group (present_in stream) x (place_in stream None x) (place_in (cond t (life_or_new create.make stream) stream) (new_life create stream) x))
      (sym (first_of (is_same_name key create.key) (is_same_name group create.group) e)) (opens create key group x e stream)
  by false e = unborn (GroupCreate create) key group x (present_in stream) stream (cond (is_same_name key create.key) (life_or_new create.make stream) stream)
goes-lived now (GroupCreate create) key group served None (Some life) x formed sees = absurd sees
goes-lived now (GroupCreate create) key group served (Some changes) (Some life) x formed sees = by (is_same_name key create.key) (is_same_name group create.group) where
  by : (k g : Bool) → MovesAlong (GroupCreate create) key group (ids_of (present_entries changes)) x (place_in (Some changes) (Some life) x)
      (place_in (cond k (Some changes) (Some changes)) (cond (k && g) (Some life) (Some life)) x)
  by true true = same (GroupCreate create) key group x (record { no_deletion = refl; no_settling = λ ids name. refl }) (ids_of (present_entries changes)) (place_in (Some changes) (Some life) x)
  by true false = same (GroupCreate create) key group x (record { no_deletion = refl; no_settling = λ ids name. refl }) (ids_of (present_entries changes)) (place_in (Some changes) (Some life) x)
  by false g = same (GroupCreate create) key group x (record { no_deletion = refl; no_settling = λ ids name. refl }) (ids_of (present_entries changes)) (place_in (Some changes) (Some life) x)
goes-lived now (GroupDestroy k g) key group served stream life x formed sees = by (is_same_name key k && is_same_name group g) refl where
  by : (t : Bool) → (is_same_name key k && is_same_name group g) ≡ t → MovesAlong (GroupDestroy k g) key group (present_in stream) x (place_in stream life x) (place_in stream (cond t None life) x)
  by true e = subst (MovesAlong (GroupDestroy k g) key group (present_in stream) x (place_in stream life x)) (sym (none-life stream x)) (ended (GroupDestroy k g) key group x (present_in stream) (place_in stream life x) e)
  by false e = same (GroupDestroy k g) key group x (record { no_deletion = refl; no_settling = λ ids name. refl }) (present_in stream) (place_in stream life x)
goes-lived now (ConsumerCreate k g consumer) key group served stream life x formed sees =
    asks-group (ConsumerCreate k g consumer) key group x now (create_consumer consumer) stream life (is_same_name key k && is_same_name group g) (λ here. join-causes k g consumer key group (present_in stream) x now)
    (λ away. record { no_deletion = refl; no_settling = λ ids name. refl })
goes-lived now (ConsumerDelete k g consumer) key group served stream life x formed sees =
    asks-group (ConsumerDelete k g consumer) key group x now (delete_consumer consumer) stream life (is_same_name key k && is_same_name group g) (λ here. leave-causes k g consumer key group here (present_in stream) x now)
    (λ away. record { no_deletion = refl; no_settling = λ ids name. ap (λ b. (b && is_same_name name consumer) || false) away })
goes-lived now (ReadGroup read) key group served stream life x formed sees = by (is_same_name group read.group) refl served where
  by : (t : Bool) → is_same_name group read.group ≡ t → (s : Bool)
      → MovesAlong (ReadGroup read) key group (present_in stream) x (place_in stream life x) (place_in stream (cond (t && s) (life_after_reads now (present_in stream) read key read.reads life) life) x)
  by true e true = goes-read now read key group e stream life x read.reads formed.1 (λ f. f)
  by true e false = same (ReadGroup read) key group x (record { no_deletion = refl; no_settling = λ ids name. refl }) (present_in stream) (place_in stream life x)
  by false e s = same (ReadGroup read) key group x (record { no_deletion = refl; no_settling = λ ids name. refl }) (present_in stream) (place_in stream life x)
goes-lived now (Ack k g named) key group served stream life x formed sees =
    asks-group (Ack k g named) key group x now (acknowledge named) stream life (is_same_name key k && is_same_name group g) (λ here. ack-causes k g named key group here (present_in stream) x now)
    (λ away. record { no_deletion = refl; no_settling = λ ids name. ap (λ b. (b && has_id named x) || (false || false)) away })
goes-lived now (Pending k g) key group served stream life x formed sees = same (Pending k g) key group x (record { no_deletion = refl; no_settling = λ ids name. refl }) (present_in stream) (place_in stream life x)
goes-lived now (PendingRows p) key group served stream life x formed sees = same (PendingRows p) key group x (record { no_deletion = refl; no_settling = λ ids name. refl }) (present_in stream) (place_in stream life x)
goes-lived now (Claim c) key group served stream life x formed sees =
    asks-group (Claim c) key group x now (claim c.consumer c.rule c.ids) stream life (is_same_name key c.key && is_same_name group c.group) (λ here. claim-causes c key group here (present_in stream) x now)
    (λ away. record { no_deletion = refl; no_settling = λ ids name. ap (λ b. (b && has_id c.ids x) && not (has_id ids x)) away })
goes-lived now (AutoClaim c) key group served stream life x formed sees =
    asks-group (AutoClaim c) key group x now (auto_claim c.consumer c.rule c.start c.limit) stream life (is_same_name key c.key && is_same_name group c.group) (λ here. auto_claim-causes c key group here (present_in stream) x now)
    (λ away. record { no_deletion = refl; no_settling = λ ids name. refl })
goes-lived now (DropKeys keys) key group served stream life x formed sees = by (is_listed keys key) refl where
  by : (t : Bool) → is_listed keys key ≡ t → MovesAlong (DropKeys keys) key group (present_in stream) x (place_in stream life x) (place_in (cond t None stream) (cond t None life) x)
  by true e = ended (DropKeys keys) key group x (present_in stream) (place_in stream life x) e
  by false e = same (DropKeys keys) key group x (record { no_deletion = refl; no_settling = λ ids name. refl }) (present_in stream) (place_in stream life x)

pub goes-along : (past : History) (now : ℕ) (command : Command) (key group : List ℕ) (x : Id) → IsWellFormed command
    → MovesAlong command key group (present_in (key_life past key)) x (place_after past key group x) (place_after ((now, command) ∷ past) key group x)
goes-along past now command key group x formed =
    goes-lived now command key group (list_all (λ one. is_some (group_life past one.key (read_group_of command))) (reads_of command)) (key_life past key) (group_life past key group) x formed (sees-life past key group)

-- ---- final places

no_arrow : (command : Command) (key group : List ℕ) (ids : List Id) (x : Id) (here there : Place) → is_final here ≡ true → HasArrow command key group ids x here there → ⊥
no_arrow command key group ids x here there f h = leads_on h.0 (sym (ap is_final h.1) ∙ f) where
  leads_on : (one : arrow.Arrow) → is_final (source one) ≡ true → ⊥
  leads_on arrow.drop_entry e = false≢true e
  leads_on arrow.hand_out e = false≢true e
  leads_on (arrow.deliver name) e = false≢true e
  leads_on (arrow.claim one other) e = false≢true e
  leads_on (arrow.acknowledge name) e = false≢true e
  leads_on (arrow.remove_consumer name) e = false≢true e
  leads_on (arrow.find_deleted name) e = false≢true e

pub for-good : (later earlier : History) (key group : List ℕ) (x : Id) (here : Place) → NoneEndsGroup key group later → is_final here ≡ true → place_after earlier key group x ≡ Some here
    → place_after (later ++ earlier) key group x ≡ Some here
for-good [] earlier key group x here on final e = e
for-good (event ∷ later) earlier key group x here on final e =
    by (place_after (later ++ earlier) key group x) (for-good later earlier key group x here on.2 final e) (place_after (event ∷ (later ++ earlier)) key group x)
    (goes-along (later ++ earlier) event.0 event.1 key group x on.0)
  where
    still : (here there : Place) → is_final here ≡ true → (there ≡ here) ⊎ HasArrow event.1 key group (present_in (key_life (later ++ earlier) key)) x here there → there ≡ here
    still here there f (inl same) = same
    still here there f (inr leads) = absurd (no_arrow event.1 key group (present_in (key_life (later ++ earlier) key)) x here there f leads)

    by : (p : Option Place) → p ≡ Some here → (q : Option Place) → MovesAlong event.1 key group (present_in (key_life (later ++ earlier) key)) x p q → q ≡ Some here
    by None f q h = absurd (false≢true (ap is_some f))
    by (Some one) f None h = absurd (false≢true (sym on.1 ∙ h))
    by (Some one) f (Some there) h =
        let is : one ≡ here = same_Some one here f in
        ap Some (still one there (ap is_final is ∙ final) h.0 ∙ is)
