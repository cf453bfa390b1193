-- Lanes that haven't been used yet.
use Rattle.std.specs.Prelude.{◌≡◌, ℕ, zero, suc, ◌+◌, List, [], ◌∷◌, ◌++◌, length, map, slice_get, Some, refl}
use Rattle.std.proofs.Common.{sym, ◌∙◌, ap, subst, arith}
use Rattle.std.proofs.lemmas.List.{map-append, length-map}
use Rattle.xs_keys.specs.Content.{Content}
use Rattle.xs_keys.specs.Headline.{RunsOn}
use Rattle.xs_replay.proofs.Served.{nothing-runs}
use Rattle.xs_desk.specs.declared.lane_end.LaneEnd.{LaneEnd}
use Rattle.xs_desk.specs.ServedCalls.{LaneOf, AreCallsOf}
use Rattle.xs_desk.specs.LaneEnds.{lane_of, desk_of}
use Rattle.xs_desk.specs.Callers.{Caller}
use Rattle.xs_desk.specs.Opening.{IsNewLane, AreNew}

new-snoc : (k depth : ℕ) (ls : List LaneOf) (cs : List Caller) (l : LaneOf) (c : Caller) → AreNew k depth ls cs → IsNewLane (k + length ls) depth l c → AreNew k depth (ls ++ l ∷ []) (cs ++ c ∷ [])
new-snoc k depth [] [] l c a n = (subst (λ j. IsNewLane j depth l c) (omega arith) n, tt)
new-snoc k depth (x ∷ xs) [] l c a n = absurd a
new-snoc k depth [] (y ∷ ys) l c a n = absurd a
new-snoc k depth (x ∷ xs) (y ∷ ys) l c a n = (a.0, new-snoc (k + 1) depth xs ys l c a.1 (subst (λ j. IsNewLane j depth l c) (omega arith) n))

pub lane_ends_grow : (depth : ℕ) (all : List LaneEnd) (cs : List Caller) (s : LaneEnd) (c : Caller) → AreNew 0 depth (map lane_of all) cs → IsNewLane (length all) depth (lane_of s) c
    → AreNew 0 depth (map lane_of (all ++ s ∷ [])) (cs ++ c ∷ [])
lane_ends_grow depth all cs s c a n =
    subst (λ ls. AreNew 0 depth ls (cs ++ c ∷ [])) (sym (map-append lane_of all (s ∷ [])))
    (new-snoc 0 depth (map lane_of all) cs (lane_of s) c a (subst (λ j. IsNewLane j depth (lane_of s) c) (omega (arith, length-map all lane_of)) n))

new-lane : (k depth : ℕ) (ls : List LaneOf) (cs : List Caller) → AreNew k depth ls cs → (j : ℕ) (l : LaneOf) → slice_get ls j ≡ Some l → (l.popped ≡ []) × (l.sent ≡ [])
new-lane k depth [] [] a j l e = absurd (cc)
new-lane k depth (x ∷ xs) [] a j l e = absurd a
new-lane k depth [] (y ∷ ys) a j l e = absurd a
new-lane k depth (x ∷ xs) (y ∷ ys) a zero l e = let q : x ≡ l = cc in (ap (λ (z : LaneOf). z.popped) (sym q) ∙ a.0.popped, ap (λ (z : LaneOf). z.sent) (sym q) ∙ a.0.sent)
new-lane k depth (x ∷ xs) (y ∷ ys) a (suc j) l e = new-lane (k + 1) depth xs ys a.1 j l e

pub no_calls_of_new : (depth : ℕ) (all : List LaneEnd) (cs : List Caller) (keyspace start : Content) → start ≡ keyspace → AreNew 0 depth (map lane_of all) cs → AreCallsOf [] (desk_of all keyspace 0 start)
no_calls_of_new depth all cs keyspace start same a = record {
  places = λ i n e. absurd (cc);
  tickets = λ k i n e. absurd (cc);
  lanes = new-lane 0 depth (map lane_of all) cs a;
  within = λ k d lt. absurd (omega arith);
  formed = λ k d lt. absurd (omega arith);
  next = refl;
  runs = subst (λ c. RunsOn c [] [] keyspace) (sym same) (nothing-runs keyspace);
}
