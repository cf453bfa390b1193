-- The ends that come back from the workers of a desk.
use Rattle.std.specs.Prelude.{◌≡◌, ℕ, zero, suc, ◌+◌, ◌<◌, ◌≤◌, Bool, true, false, List, [], ◌∷◌, ◌++◌, length, map, slice_get, Some, ⊤, Result, Ok, Err, is_err, refl}
use Rattle.std.proofs.Common.{inl, inr, sym, ◌∙◌, ap, subst, arith, append_assoc}
use Rattle.std.specs.Result.{result_and}
use Rattle.std.proofs.lemmas.List.{append-nil, length-map, map-append}
use Rattle.xs_bytes.specs.SortedMap.{empty}
use Rattle.xs_keys.specs.Headline.{RunsOn}
use Rattle.xs_desk.specs.declared.summary.Summary.{Summary}
use Rattle.xs_desk.specs.Callers.{Caller, AreEndsOfLanes, HasEndOfLane}
use Rattle.xs_desk.specs.Closing.{SumUp}
use Rattle.xs_desk.specs.ServedCalls.{LaneOf, ServedCall, Desk, AreCallsOf, events_of, replies_of}
use Rattle.xs_desk.specs.KeptRings.{KeepsSide, KeepSides}
use Rattle.xs_desk.specs.Opening.{AreNew}
use Rattle.xs_desk.specs.Opening.{IsDeskError}
use Rattle.xs_desk.specs.declared.opening.DeskError.{DeskError}
use Rattle.xs_desk.specs.declared.opening.DeskError.TheVariants as desk
use Rattle.xs_work.specs.declared.fault.WorkFault.{WorkFault}
use Rattle.xs_work.specs.declared.worker.WorkerFault.{WorkerFault}
use Rattle.xs_work.specs.declared.fault.WorkFault.TheVariants as work
use Rattle.xs_work.specs.Gates.{GateTrace}
use Rattle.xs_work.specs.Workers.{Works, WorkEach}
use Rattle.xs_work.specs.WorkOutcome.{AreServed, IsClosed, IsUnused, IsWorkFault}
use Rattle.xs_work.proofs.AheadWork.{works-side, gate-lost}
use Rattle.xs_desk.proofs.Lists.{snoc-cases, still-at, last-at, some-at}

pub sides-none : KeepSides [] []
sides-none i end at = absurd (cc)

pub sides-more : (clients ends : List Caller) (client end : Caller) → length clients ≡ length ends → KeepSides clients ends → KeepsSide client end → KeepSides (clients ++ client ∷ []) (ends ++ end ∷ [])
sides-more clients ends client end same sides keeps i e at = elim (snoc-cases ends end i e at) [
  | inl p ↦ let s = sides i e p in (s.0, still-at clients client i s.0 s.1, s.2)
  | inr p ↦ (
    client,
    subst (λ (j : ℕ). slice_get (clients ++ client ∷ []) j ≡ Some client) (same ∙ sym p.0) (last-at clients client),
    subst (λ (x : Caller). KeepsSide client x) (sym p.1) keeps,
  )
]

-- client i of a new desk has the number of its lane
new-number : (k depth : ℕ) (lanes : List LaneOf) (clients : List Caller) → AreNew k depth lanes clients → (i : ℕ) (client : Caller) → slice_get clients i ≡ Some client → client.lane ≡ k + i
new-number k depth [] [] new i client at = absurd (cc)
new-number k depth (lane ∷ lanes) [] new i client at = absurd (cc)
new-number k depth [] (first ∷ clients) new i client at = absurd new
new-number k depth (lane ∷ lanes) (first ∷ clients) new zero client at =
    let same : first ≡ client = cc in ap (λ (c : Caller). c.lane) (sym same) ∙ new.0.number ∙ omega arith
new-number k depth (lane ∷ lanes) (first ∷ clients) new (suc i) client at = new-number (k + 1) depth lanes clients new.1 i client at ∙ omega arith

pub new-count : (k depth : ℕ) (lanes : List LaneOf) (clients : List Caller) → AreNew k depth lanes clients → length clients ≡ length lanes
new-count k depth [] [] new = refl
new-count k depth (lane ∷ lanes) [] new = absurd new
new-count k depth [] (first ∷ clients) new = absurd new
new-count k depth (lane ∷ lanes) (first ∷ clients) new = omega (arith, new-count (k + 1) depth lanes clients new.1)

-- an end for each client of a new desk is an end for each of its lanes
pub all-there : (depth : ℕ) (lanes : List LaneOf) (clients ends : List Caller) → AreNew 0 depth lanes clients → KeepSides clients ends → length ends ≡ length clients
    → (k : ℕ) → k < length lanes → HasEndOfLane ends k
all-there depth lanes clients ends new sides count k below =
    let there = some-at ends k (omega (arith, count, new-count 0 depth lanes clients new)) in
    let side = sides k there.0 there.1 in
    (k, there.0, there.1, side.2.0 ∙ new-number 0 depth lanes clients new k side.0 side.1 ∙ omega arith)

pub same-count : {A B X : Type 0} (f : A → X) (g : B → X) (xs : List A) (ys : List B) → map f xs ≡ map g ys → length xs ≡ length ys
same-count f g xs ys same = sym (length-map xs f) ∙ ap length same ∙ length-map ys g

-- what is wrong with as many gates as a desk may have is wrong with fewer
fewer-desk : (depth : ℕ) (n : ℕ) (error : DeskError) → n ≤ 64 → IsDeskError 1024 n depth error → IsDeskError 64 n depth error
fewer-desk depth n desk.Lanes few (inl none) = inl none
fewer-desk depth n desk.Lanes few (inr many) = absurd (omega (arith, few, many))
fewer-desk depth n desk.Depth few is = ((is.0.0, few), is.1)
fewer-desk depth n desk.Memory few is = ((is.0.0, few), is.1)

pub fewer_lanes : (depth : ℕ) (n : ℕ) (fault : WorkFault) → n ≤ 64 → IsWorkFault 1024 n depth fault → IsWorkFault 64 n depth fault
fewer_lanes depth n (work.Desk error) few is = fewer-desk depth n error few is
fewer_lanes depth n work.Start few is = ((is.0.0, few), is.1)
fewer_lanes depth n work.Gate few is = ((is.0.0, few), is.1)
fewer_lanes depth n work.Lane few is = ((is.0.0, few), is.1)
fewer_lanes depth n work.Close few is = is
fewer_lanes depth n work.Memory few is = ((is.0.0, few), is.1)

-- no worker has ended yet
pub work-none : WorkEach false [] [] [] []
work-none i end at = absurd (cc)

-- less is required of a worker that may have had a fault
works-loose : (faulty : Bool) (first last : Caller) (before now : GateTrace) → Works faulty first last before now → Works true first last before now
works-loose true first last before now w = w
works-loose false first last before now w = record { served = gate-lost first last before now w.served; over = λ no. absurd cc }

work-loose : (faulty : Bool) (clients ends : List Caller) (before now : List GateTrace) → WorkEach faulty clients ends before now → WorkEach true clients ends before now
work-loose faulty clients ends before now each i end at =
    let (client, first, last, ac, af, al, works) = each i end at in
    (client, first, last, ac, af, al, works-loose faulty client end first last works)

-- one more has
work-more : (faulty : Bool) (clients ends : List Caller) (before now : List GateTrace) (client end : Caller) (first last : GateTrace) → length clients ≡ length ends → length before ≡ length ends → length now ≡ length ends
    → WorkEach faulty clients ends before now → Works faulty client end first last → WorkEach faulty (clients ++ client ∷ []) (ends ++ end ∷ []) (before ++ first ∷ []) (now ++ last ∷ [])
work-more faulty clients ends before now client end first last cs bs ns each works i e at = elim (snoc-cases ends end i e at) [
  | inl p ↦
      let (c, f, l, ac, af, al, w) = each i e p in
      (c, f, l, still-at clients client i c ac, still-at before first i f af, still-at now last i l al, w)
  | inr p ↦ (
    client,
    first,
    last,
    subst (λ (j : ℕ). slice_get (clients ++ client ∷ []) j ≡ Some client) (cs ∙ sym p.0) (last-at clients client),
    subst (λ (j : ℕ). slice_get (before ++ first ∷ []) j ≡ Some first) (bs ∙ sym p.0) (last-at before first),
    subst (λ (j : ℕ). slice_get (now ++ last ∷ []) j ≡ Some last) (ns ∙ sym p.0) (last-at now last),
    subst (λ (x : Caller). Works faulty client x first last) (sym p.1) works,
  )
]

new-unused : (k depth : ℕ) (lanes : List LaneOf) (clients : List Caller) → AreNew k depth lanes clients → (i : ℕ) (client : Caller) → slice_get clients i ≡ Some client → IsUnused client
new-unused k depth [] [] new i client at = absurd (cc)
new-unused k depth (lane ∷ lanes) [] new i client at = absurd (cc)
new-unused k depth [] (first ∷ clients) new i client at = absurd new
new-unused k depth (lane ∷ lanes) (first ∷ clients) new zero client at =
    let same : first ≡ client = cc in subst IsUnused same (new.0.submitted, new.0.taken)
new-unused k depth (lane ∷ lanes) (first ∷ clients) new (suc i) client at = new-unused (k + 1) depth lanes clients new.1 i client at

-- workers over the clients of a new desk, one for each gate
pub served-gates : (faulty : Bool) (depth : ℕ) (lanes : List LaneOf) (clients ends : List Caller) (before now : List GateTrace) → AreNew 0 depth lanes clients → length lanes ≡ length before → length ends ≡ length clients
    → length now ≡ length clients → WorkEach faulty clients ends before now → AreServed faulty ends before now
served-gates faulty depth lanes clients ends before now new count es ns each = record {
  each = λ i end at.
      let (client, first, last, ac, af, al, works) = each i end at in
      let side = works-side faulty client end first last works in
      (client, first, last, side.0 ∙ new-number 0 depth lanes clients new i client ac ∙ omega arith, new-unused 0 depth lanes clients new i client ac, af, al, works);
  ends_count = es ∙ new-count 0 depth lanes clients new ∙ count;
  gates_count = ns ∙ new-count 0 depth lanes clients new ∙ count;
}

map-of-map : {A B C : Type 0} (f : B → C) (h : A → B) (xs : List A) → map f (map h xs) ≡ map (λ x. f (h x)) xs
map-of-map f h [] = refl
map-of-map f h (x ∷ xs) = ap (λ ys. f (h x) ∷ ys) (map-of-map f h xs)

work-and : (one other : Result ⊤ WorkerFault) (clients ends : List Caller) (before now : List GateTrace) (client end : Caller) (first last : GateTrace) → length clients ≡ length ends → length before ≡ length ends
    → length now ≡ length ends → WorkEach (is_err one) clients ends before now → Works (is_err other) client end first last
    → WorkEach (is_err (result_and one other)) (clients ++ client ∷ []) (ends ++ end ∷ []) (before ++ first ∷ []) (now ++ last ∷ [])
work-and (Ok done) (Ok also) clients ends before now client end first last cs bs ns each works = work-more false clients ends before now client end first last cs bs ns each works
work-and (Ok done) (Err fault) clients ends before now client end first last cs bs ns each works =
    work-more true clients ends before now client end first last cs bs ns (work-loose false clients ends before now each) works
work-and (Err fault) other clients ends before now client end first last cs bs ns each works =
    work-more true clients ends before now client end first last cs bs ns each (works-loose (is_err other) client end first last works)

-- one more was joined, whose end and gate are put after the others
pub joined-more : {G : Type 0} (trace : G → GateTrace) (one other result : Result ⊤ WorkerFault) (clients ends later : List Caller) (before : List GateTrace) (gates after : List G) (client end : Caller) (first : GateTrace) (gate : G)
    → length clients ≡ length ends → length before ≡ length ends → length gates ≡ length ends → later ≡ ends ++ end ∷ [] → after ≡ gates ++ gate ∷ [] → result ≡ result_and one other
    → WorkEach (is_err one) clients ends before (map trace gates) → Works (is_err other) client end first (trace gate)
    → WorkEach (is_err result) (clients ++ client ∷ []) later (before ++ first ∷ []) (map trace after)
joined-more trace one other result clients ends later before gates after client end first gate cs bs gs grown kept joined each works =
    let now : map trace after ≡ map trace gates ++ trace gate ∷ [] = ap (map trace) kept ∙ map-append trace gates (gate ∷ []) in
    let more = work-and one other clients ends before (map trace gates) client end first (trace gate) cs bs (length-map gates trace ∙ gs) each works in
    let firsts = clients ++ client ∷ [] in
    let befores = before ++ first ∷ [] in
    subst (λ (r : Result ⊤ WorkerFault). WorkEach (is_err r) firsts later befores (map trace after)) (sym joined)
    (subst (λ (es : List Caller). WorkEach (is_err (result_and one other)) firsts es befores (map trace after)) (sym grown)
    (subst (λ (ns : List GateTrace). WorkEach (is_err (result_and one other)) firsts (ends ++ end ∷ []) befores ns) (sym now) more))

-- the same if there is a worker for each client of a new desk and each gate
pub served-pool : {W G : Type 0} (client_of : W → Caller) (gate_of : W → G) (trace : G → GateTrace) (faulty : Bool) (depth : ℕ) (lanes : List LaneOf) (clients ends : List Caller) (gates later : List G)
    (workers : List W) → AreNew 0 depth lanes clients → length lanes ≡ length gates → map client_of workers ≡ clients → map gate_of workers ≡ gates → length ends ≡ length workers → length later ≡ length workers
    → WorkEach faulty (map client_of workers) ends (map (λ w. trace (gate_of w)) workers) (map trace later) → AreServed faulty ends (map trace gates) (map trace later)
served-pool client_of gate_of trace faulty depth lanes clients ends gates later workers new count cs gs es ls each =
    let n : length workers ≡ length clients = sym (length-map workers client_of) ∙ ap length cs in
    let traces : map (λ w. trace (gate_of w)) workers ≡ map trace gates = sym (map-of-map trace gate_of workers) ∙ ap (map trace) gs in
    let over = subst (λ (bs : List GateTrace). WorkEach faulty (map client_of workers) ends bs (map trace later)) traces each in
    served-gates faulty depth lanes clients ends (map trace gates) (map trace later) new (count ∙ sym (length-map gates trace)) (es ∙ n) (length-map later trace ∙ (ls ∙ n))
    (subst (λ (firsts : List Caller). WorkEach faulty firsts ends (map trace gates) (map trace later)) cs over)

-- a desk whose workers did this was closed
pub closed-desk : (faulty : Bool) (desk : Desk) (ends : List Caller) (before now : List GateTrace) (summary : Summary) → AreEndsOfLanes desk.lanes ends → SumUp desk.lanes ends (length desk.lanes) summary.lanes.items
    → ((calls : List ServedCall) × AreCallsOf calls desk × RunsOn empty (events_of calls) (replies_of calls) summary.keyspace) → length desk.lanes ≡ length before → AreServed faulty ends before now
    → IsClosed faulty before now summary
closed-desk faulty desk ends before now summary are lanes calls count served = record {
  desk = desk;
  ends = ends;
  calls = calls.0;
  count = count;
  are_ends = are;
  served = served;
  lanes = subst (λ (n : ℕ). SumUp desk.lanes ends n summary.lanes.items) count lanes;
  are_calls = calls.1;
  runs = calls.2;
}

-- the same gates have the same traces
pub same-traces : {A B G : Type 0} (trace : G → GateTrace) (f : A → G) (h : B → G) (xs : List A) (ys : List B) → map f xs ≡ map h ys → map (λ x. trace (f x)) xs ≡ map (λ y. trace (h y)) ys
same-traces trace f h xs ys same = sym (map-of-map trace f xs) ∙ ap (map trace) same ∙ map-of-map trace h ys

-- what is known of the first of a list, and of the others
pub none-mapped : {H X : Type 0} (f : H → X) (rest all : List H) → rest ≡ all → [] ++ map f rest ≡ map f all
none-mapped f rest all is = ap (map f) is

pub one-mapped : {H X : Type 0} (f : H → X) (told : List X) (one : H) (rest later all : List H) → told ++ map f rest ≡ map f all → rest ≡ one ∷ later → (told ++ f one ∷ []) ++ map f later ≡ map f all
one-mapped f told one rest later all are is = append_assoc told (f one ∷ []) (map f later) ∙ (ap (λ hs. told ++ map f hs) (sym is) ∙ are)

pub all-mapped : {H X : Type 0} (f : H → X) (told : List X) (rest all : List H) → told ++ map f rest ≡ map f all → rest ≡ [] → told ≡ map f all
all-mapped f told rest all are none = sym (append-nil told) ∙ (ap (λ hs. told ++ map f hs) (sym none) ∙ are)
