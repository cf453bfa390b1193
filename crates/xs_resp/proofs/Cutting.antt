-- The result doesn't depend on how the bytes are cut.
use Rattle.std.proofs.Common.{◌≡◌, ℕ, List, [], ◌∷◌, ◌++◌, drop, Some, None, Ok, Err, refl, sym, ap, ◌∙◌, subst}
use Rattle.std.proofs.Common.{append_assoc, ◌<◌, ◌≤◌, zero, suc, length, inl, inr, arith, length-drop}
use Rattle.std.proofs.lemmas.List.{length-take-le, drop-append-le, append-nil}
use Rattle.std.specs.List.{concat}
use Rattle.xs_resp.specs.Outcome.{Outcome, Keeps}
use Rattle.xs_resp.specs.Header.{header}
use Rattle.xs_resp.specs.Reading.{Found, request}
use Rattle.xs_resp.specs.HeldBytes.{Held, with_piece}
use Rattle.xs_resp.specs.Pieces.{Rests, Reads, ReadsHeld, ReadsPieces}
use Rattle.xs_resp.proofs.Outcomes.{cases-outcome}
use Rattle.xs_resp.proofs.Decisions.{request-keeps, request-read}

-- a complete request stays complete
request-later : (bytes more : List ℕ) (found : Found) → request bytes ≡ Ok (Some found) → request (bytes ++ more) ≡ Ok (Some found)
request-later bytes more found e = subst (λ o. Keeps o (request (bytes ++ more))) e (request-keeps bytes more)

-- the bytes that stay, with a piece more
rests-with-more : (outcome : Outcome Found) (bytes piece : List ℕ) (old new : Held) (first : List (List (List ℕ))) → Keeps outcome (request (bytes ++ piece)) → Rests outcome bytes old → ReadsHeld (with_piece old piece) first new → Reads (bytes ++ piece) first new
rests-with-more (Ok (Some found)) bytes piece old new first k r h = absurd r
rests-with-more (Ok None) bytes piece old new first k r h = subst (λ o. ReadsHeld (with_piece o piece) first new) r h
rests-with-more (Err wrong) bytes piece old new first k r h =
    let failed = subst (λ o. ReadsHeld (with_piece o piece) first new) r h in
    subst (λ ts. Reads (bytes ++ piece) ts new) (sym failed.0) (subst (λ o. Rests o (bytes ++ piece) new) (sym k) failed.1)

-- requests before a piece and after it
reads-with-more : (done : List (List (List ℕ))) (bytes piece : List ℕ) (old new : Held) (first : List (List (List ℕ))) → Reads bytes done old → ReadsHeld (with_piece old piece) first new → Reads (bytes ++ piece) (done ++ first) new
reads-with-more [] bytes piece old new first r h = rests-with-more (request bytes) bytes piece old new first (request-keeps bytes piece) r h
reads-with-more (words ∷ done) bytes piece old new first r h =
    let found : Found = record { words = words; end = r.0 } in
    let whole = (r.1).0 in
    let within = (request-read bytes found whole).within in (
      r.0,
      (
        request-later bytes piece found whole,
        subst (λ b. Reads b (done ++ first) new) (sym (drop-append-le r.0 bytes piece within)) (reads-with-more done (drop r.0 bytes) piece old new first (r.1).1 h),
      ),
    )

-- pieces after bytes
pub pieces-joined : (pieces : List (List ℕ)) (bytes : List ℕ) (done requests : List (List (List ℕ))) (old new : Held) → Reads bytes done old → ReadsPieces old pieces requests new → Reads (bytes ++ concat pieces) (done ++ requests) new
pieces-joined [] bytes done requests old new r h =
    subst (λ b. Reads b (done ++ requests) new) (sym (append-nil bytes))
    (subst (λ rs. Reads bytes rs new) (sym (ap (λ rs. done ++ rs) h.0 ∙ append-nil done)) (subst (λ o. Reads bytes done o) (sym h.1) r))
pieces-joined (piece ∷ pieces) bytes done requests old new r h =
    let more = pieces-joined pieces (bytes ++ piece) (done ++ h.first) h.others h.between new (reads-with-more done bytes piece old h.between h.first r h.reads) h.further in
    subst (λ b. Reads b (done ++ requests) new) (append_assoc bytes piece (concat pieces))
    (subst (λ rs. Reads ((bytes ++ piece) ++ concat pieces) rs new) (append_assoc done h.first h.others ∙ ap (λ rs. done ++ rs) (sym h.all)) more)

-- no requests are read from no bytes
pub nothing-read : Reads [] [] (Ok [])
unfolding request header
nothing-read = refl

-- the reading of bytes is unique
rests-only : (outcome : Outcome Found) (bytes : List ℕ) (held other : Held) → Rests outcome bytes held → Rests outcome bytes other → held ≡ other
rests-only (Ok (Some found)) bytes held other r s = absurd r
rests-only (Ok None) bytes held other r s = r ∙ sym s
rests-only (Err wrong) bytes held other r s = r ∙ sym s

rests-not : (bytes : List ℕ) (held : Held) (found : Found) → Rests (request bytes) bytes held → request bytes ≡ Ok (Some found) → ⊥
rests-not bytes held found r e = subst (λ o. Rests o bytes held) e r

pub reads-only : (requests others : List (List (List ℕ))) (bytes : List ℕ) (held other : Held) → Reads bytes requests held → Reads bytes others other → (requests ≡ others) × (held ≡ other)
reads-only [] [] bytes held other r s = (refl, rests-only (request bytes) bytes held other r s)
reads-only [] (names ∷ others) bytes held other r s = absurd (rests-not bytes held (record { words = names; end = s.0 }) r (s.1).0)
reads-only (words ∷ requests) [] bytes held other r s = absurd (rests-not bytes other (record { words = words; end = r.0 }) s (r.1).0)
reads-only (words ∷ requests) (names ∷ others) bytes held other r s =
    let one : Found = record { words = words; end = r.0 } in
    let two : Found = record { words = names; end = s.0 } in
    let same = sym (r.1).0 ∙ (s.1).0 in
    let is : one ≡ two = cc in
    let behind = subst (λ n. Reads (drop n bytes) others other) (sym (ap (λ (f : Found). f.end) is)) (s.1).1 in
    let more = reads-only requests others (drop r.0 bytes) held other (r.1).1 behind in
    (ap (λ ws. ws ∷ requests) (ap (λ (f : Found). f.words) is) ∙ ap (λ rs. names ∷ rs) more.0, more.1)

-- a request takes some bytes
some-taken : (bytes : List ℕ) (found : Found) → request bytes ≡ Ok (Some found) → 0 < found.end
some-taken bytes found e =
    let read = request-read bytes found e in
    let len = length-take-le found.end bytes read.within in
    elim (read.spells).spelled [
      | inl is ↦ omega (arith, len, ap length is)
      | inr is ↦ omega (arith, len, ap length is.1)
    ]

-- some bytes, no more than this many, are read
read-within : (most : ℕ) (bytes : List ℕ) → length bytes ≤ most → (requests : List (List (List ℕ))) × ((held : Held) × Reads bytes requests held)
read-within zero bytes h =
    elim (cases-outcome (request bytes)) [
      | inl none ↦ ([], (Ok bytes, subst (λ o. Rests o bytes (Ok bytes)) (sym none) refl))
      | inr decided ↦ elim decided [
        | inl found ↦ absurd (omega (arith, some-taken bytes found.0 found.1, (request-read bytes found.0 found.1).within))
        | inr wrong ↦ ([], (Err wrong.0, subst (λ o. Rests o bytes (Err wrong.0)) (sym wrong.1) refl))
      ]
    ]
read-within (suc most) bytes h =
    elim (cases-outcome (request bytes)) [
      | inl none ↦ ([], (Ok bytes, subst (λ o. Rests o bytes (Ok bytes)) (sym none) refl))
      | inr decided ↦ elim decided [
        | inl found ↦ (let end = (found.0).end in
            let rest = read-within most (drop end bytes) (omega (arith, length-drop end bytes, some-taken bytes found.0 found.1)) in
            ((found.0).words ∷ rest.0, ((rest.1).0, (end, (found.1, (rest.1).1)))))
        | inr wrong ↦ ([], (Err wrong.0, subst (λ o. Rests o bytes (Err wrong.0)) (sym wrong.1) refl))
      ]
    ]

pub all-read : (bytes : List ℕ) → (requests : List (List (List ℕ))) × ((held : Held) × Reads bytes requests held)
all-read bytes = read-within (length bytes) bytes (omega arith)
