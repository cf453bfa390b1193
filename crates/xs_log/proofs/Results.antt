-- Facts about results.
use Rattle.std.specs.Prelude.{◌⊎◌, Result, Ok, Err, IfOk, IfErr, OnErr, MatchResult}
use Rattle.std.proofs.Common.{inr}

pub match_parts : {A E : Type 0} (result : Result A E) (P : A → Type 0) (Q : E → Type 0) → IfOk result P → IfErr result Q → MatchResult result P Q
match_parts (Ok x) P Q p q = p
match_parts (Err e) P Q p q = q

pub if_ok_as : {A E : Type 0} (result : Result A E) (P Q : A → Type 0) → ((x : A) → P x → Q x) → IfOk result P → IfOk result Q
if_ok_as (Ok x) P Q f p = f x p
if_ok_as (Err e) P Q f p = tt

pub both_ok : {A E : Type 0} (result : Result A E) (P Q : A → Type 0) → IfOk result P → IfOk result Q → IfOk result (λ x. P x × Q x)
both_ok (Ok x) P Q p q = (p, q)
both_ok (Err e) P Q p q = tt

pub err_left : {A E : Type 0} (Wants : E → Type 0) (result : Result A E) (Wrong Left : Type 0) → OnErr result Wrong → (Wrong → Left) → IfErr result (λ fault. Wants fault ⊎ Left)
err_left Wants (Ok x) Wrong Left wrong left = tt
err_left Wants (Err fault) Wrong Left wrong left = inr (left wrong)
