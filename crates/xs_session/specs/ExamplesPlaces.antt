-- Places of answers, by examples: the rules are this server's own.
use Rattle.std.specs.Prelude.{◌≡◌, true, false, [], ◌∷◌, codes}
use Rattle.xs_resp.specs.declared.fault.Fault.TheVariants.{Arity, Memory}
use Rattle.xs_resp.specs.declared.reply.Reply.TheVariants.{Simple, Error, Int, Bulk}
use Rattle.xs_resp.specs.declared.reply.Simple.TheVariants.{Okay, Pong}
use Rattle.xs_session.specs.declared.places.Place.TheVariants.{Answer, Awaits, AwaitsKeys}
use Rattle.xs_session.specs.Places.{is_open, has_open, fill_first, places_of, IsSettled, NoneReady}

pub record Places : Type 0 where
  pub waited_for : is_open Awaits ≡ true
  pub keys_waited_for : is_open (AwaitsKeys (codes "loading:0")) ≡ true
  pub there : is_open (Answer (Int 1)) ≡ false
  pub no_place : has_open [] ≡ false
  pub all_there : has_open (Answer (Int 1) ∷ Answer (Error Arity) ∷ []) ≡ false
  pub one_waited_for : has_open (Answer (Int 1) ∷ Awaits ∷ Answer (Error Arity) ∷ []) ≡ true
  pub the_first_comes :
      fill_first (Int 2) (Answer (Int 1) ∷ Awaits ∷ Answer (Error Arity) ∷ Awaits ∷ [])
      ≡ Answer (Int 1) ∷ Answer (Int 2) ∷ Answer (Error Arity) ∷ Awaits ∷ []
  pub keys_come :
      fill_first (Int 0) (AwaitsKeys (codes "loading:0") ∷ Awaits ∷ []) ≡ Answer (Bulk (codes "loading:0")) ∷ Awaits ∷ []
  pub no_memory_for_keys :
      fill_first (Error Memory) (AwaitsKeys (codes "loading:0") ∷ []) ≡ Answer (Error Memory) ∷ []
  pub none_comes : fill_first (Int 2) (Answer (Int 1) ∷ []) ≡ Answer (Int 1) ∷ []
  pub in_order :
      places_of (Simple Okay ∷ Simple Pong ∷ []) (Awaits ∷ Answer (Error Memory) ∷ [])
      ≡ Answer (Simple Okay) ∷ Answer (Simple Pong) ∷ Awaits ∷ Answer (Error Memory) ∷ []
  pub settled : IsSettled (Awaits ∷ Answer (Error Memory) ∷ [])
  pub settled_without_any : IsSettled []
  pub an_error_left_behind : IsSettled (Answer (Error Memory) ∷ Awaits ∷ []) → ⊥
  pub none_ready : NoneReady (Awaits ∷ Answer (Int 1) ∷ [])
  pub none_ready_without_any : NoneReady []
  pub none_ready_before_keys : NoneReady (AwaitsKeys [] ∷ Answer (Int 1) ∷ [])
  pub one_ready : NoneReady (Answer (Int 1) ∷ Awaits ∷ []) → ⊥
