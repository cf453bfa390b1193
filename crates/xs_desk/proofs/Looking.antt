-- How a look at one lane changes the desk.
use Rattle.std.specs.Prelude.{◌≡◌, ◌⊎◌, ℕ, ◌+◌, ◌<◌, List, length, map, slice_get, slice_set, get_or, Some, refl}
use Rattle.std.proofs.Common.{sym, ◌∙◌, ap, subst, inl, inr}
use Rattle.std.proofs.Math.Seq.{map-set_same}
use Rattle.std.proofs.lemmas.List.{map-set}
use Rattle.std.proofs.lemmas.Option.{slice_get-map, slice_get_read}
use Rattle.std.specs.Option.{option_map}
use Rattle.xs_keys.specs.Event.{Event}
use Rattle.xs_keys.specs.Content.{Content}
use Rattle.xs_desk.specs.declared.lane_end.LaneEnd.{LaneEnd}
use Rattle.xs_desk.specs.ServedCalls.{Desk, ServedCall}
use Rattle.xs_desk.specs.KeeperTurns.{ServesCall, HasPlaces}
use Rattle.xs_desk.specs.LaneEnds.{lane_of, desk_of, handed_out, scene, Answers}
use Rattle.xs_desk.specs.Noting.{KeepsAtOnce}
use Rattle.xs_desk.specs.Durable.{NotesTurn}
use Rattle.xs_desk.proofs.Turning.{places-stay}
use Rattle.xs_desk.proofs.Notings.{turn-more}

pub lane_end-at : (all : List LaneEnd) (i : ℕ) (s : LaneEnd) → i < length all → s ≡ get_or all i s → slice_get (map lane_of all) i ≡ Some (lane_of s)
lane_end-at all i s lt e = slice_get-map lane_of all i ∙ ap (λ o. option_map lane_of o) (slice_get_read all (length all) i s refl lt e)

module _ {C J : Type 0} (gives : C → ℕ → C → Type 0) (has : J → List Event → ℕ → Type 0) (old : Desk) (clock : C) (before : J) (ends : List LaneEnd) (n : ℕ) (all : List LaneEnd) (i : ℕ) (s s' : LaneEnd)
    (c c' : Content) (p p' : ℕ) (k k' : C) (j j' : J) (b : Content) (lt : i < length all) (e : s ≡ get_or all i s) where
  -- nothing has changed
  rests-desk : scene s' c' p' k' j' ≡ scene s c p k j → desk_of (slice_set all i s') c' p' b ≡ desk_of all c p b
  rests-desk r =
      let lane : lane_of s' ≡ lane_of s = ap (λ x. x.lane) r in
      let lanes : map lane_of (slice_set all i s') ≡ map lane_of all = map-set_same lane_of all i s' s (lane ∙ ap lane_of e) in
      let keys : c' ≡ c = ap (λ x. x.keyspace) r in
      let place : p' ≡ p = ap (λ x. x.place) r in
      cc

  same-handed : handed_out s' ≡ handed_out s → map handed_out (slice_set all i s') ≡ map handed_out all
  same-handed r = map-set_same handed_out all i s' s (r ∙ ap handed_out e)

  pub rests-place : scene s' c' p' k' j' ≡ scene s c p k j → p' ≡ p
  rests-place r = ap (λ x. x.place) r

  pub rests-turns : (high : ℕ) → NotesTurn has gives old clock before ends n high (desk_of all c p b) k j all → scene s' c' p' k' j' ≡ scene s c p k j
      → NotesTurn has gives old clock before ends n high (desk_of (slice_set all i s') c' p' b) k' j' (slice_set all i s')
  rests-turns high t r =
      let same = same-handed (ap (λ x. x.handed) r) in
      let handed : NotesTurn has gives old clock before ends n high (desk_of all c p b) k j (slice_set all i s') =
      record { turns = t.turns; notes = t.notes; handed = elim t.handed [ inl h ↦ inl (same ∙ h) | inr h ↦ inr h ] } in
      subst (λ x. NotesTurn has gives old clock before ends n high x k' j' (slice_set all i s')) (sym (rests-desk r))
      (subst (λ x. NotesTurn has gives old clock before ends n high (desk_of all c p b) x j' (slice_set all i s')) (sym (ap (λ x. x.clock) r))
      (subst (λ x. NotesTurn has gives old clock before ends n high (desk_of all c p b) k x (slice_set all i s')) (sym (ap (λ x. x.journal) r)) handed))

  pub rests-places : HasPlaces (desk_of all c p b) → scene s' c' p' k' j' ≡ scene s c p k j → HasPlaces (desk_of (slice_set all i s') c' p' b)
  rests-places h r = subst HasPlaces (sym (rests-desk r)) h

  -- one call was answered
  call_of : Answers gives has (scene s c p k j) (scene s' c' p' k' j') → ServedCall
  call_of a = record { lane = i; command = a.command; answer = a.answer }

  serves-desk : (a : Answers gives has (scene s c p k j) (scene s' c' p' k' j')) → ServesCall (desk_of all c p b) (call_of a) (desk_of (slice_set all i s') c' p' b)
  unfolding call_of
  serves-desk a = record {
    lane = lane_of s;
    here = lane_end-at all i s lt e;
    lanes_are = map-set lane_of all i s' ∙ ap (λ x. slice_set (map lane_of all) i x) a.lane_is;
    ticket_is = a.ticket_is;
    place_is = a.place_is;
    next_is = a.next_is;
    start_is = refl;
    formed = a.formed;
    applied = a.applied;
  }

  pub answers-turns : NotesTurn has gives old clock before ends n i (desk_of all c p b) k j all → Answers gives has (scene s c p k j) (scene s' c' p' k' j')
      → NotesTurn has gives old clock before ends (n + 1) (i + 1) (desk_of (slice_set all i s') c' p' b) k' j' (slice_set all i s')
  unfolding call_of
  answers-turns t a =
      let handed : (map handed_out (slice_set all i s') ≡ map handed_out all) ⊎ KeepsAtOnce has = elim a.handed_is [ inl h ↦ inl (same-handed h) | inr h ↦ inr h ] in
      turn-more has gives old clock before ends n (desk_of all c p b) k j all (call_of a) (desk_of (slice_set all i s') c' p' b) k' j' (slice_set all i s') t (serves-desk a) a.moment a.noted handed

  pub answers-places : HasPlaces (desk_of all c p b) → Answers gives has (scene s c p k j) (scene s' c' p' k' j') → HasPlaces (desk_of (slice_set all i s') c' p' b)
  answers-places h a = places-stay (desk_of all c p b) (call_of a) (desk_of (slice_set all i s') c' p' b) h (serves-desk a)
