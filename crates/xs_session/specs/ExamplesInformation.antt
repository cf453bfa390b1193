-- INFO, by examples, as a real Redis 7.0.15 answers it. Redis queues it between MULTI and EXEC; here it is refused.
use Rattle.std.specs.Prelude.{◌≡◌, ℕ, Bool, true, false, List, [], ◌∷◌, codes, None}
use Rattle.xs_resp.specs.declared.fault.Fault.TheVariants.{Memory}
use Rattle.xs_resp.specs.declared.reply.Reply.TheVariants.{Error, Int, Bulk}
use Rattle.xs_resp.specs.Examples.{wire}
use Rattle.xs_command.specs.declared.command.Command.TheVariants as command
use Rattle.xs_command.specs.declared.command.Inspection.TheVariants as inspection
use Rattle.xs_command.specs.Examples.{line}
use Rattle.xs_connection.specs.declared.transaction.Transaction.TheVariants.{Closed, Open}
use Rattle.xs_session.specs.declared.manner.Manner.TheVariants.{Plain, Full}
use Rattle.xs_session.specs.declared.places.Place.TheVariants.{Answer, AwaitsKeys}
use Rattle.xs_session.specs.Answers.{Informs, Says, IsTaken, asked_of, answers_to}
use Rattle.xs_session.specs.Examples.{anyone}
use Rattle.xs_session.specs.ExamplesManners.{at, secret, who}
use Rattle.xs_session.specs.Information.{asks_keys, informed}

-- whether a line asks the number of keys
abbrev pub asks : List ℕ → Bool
asks text = asks_keys (at Closed) (line text)

pub record Sections : Type 0 where
  pub all_if_none_is_named : asks (codes "INFO") ≡ true
  pub by_its_name : asks (codes "info KeySpace") ≡ true
  pub the_default : asks (codes "INFO default") ≡ true
  pub all : asks (codes "INFO all") ≡ true
  pub everything : asks (codes "INFO everything") ≡ true
  pub beside_another : asks (codes "INFO server keyspace") ≡ true
  pub beside_an_unknown_one : asks (codes "INFO keyspace nosuch") ≡ true
  pub another : asks (codes "INFO server") ≡ false
  pub an_unknown_one : asks (codes "INFO nosuch") ≡ false
  pub another_command : asks (codes "ECHO keyspace") ≡ false
  pub no_words : asks_keys (at Closed) [] ≡ false
  pub not_in_a_transaction : asks_keys (at (Open [])) (line (codes "INFO")) ≡ false

-- the text of the section, with CR and LF at each `^`
abbrev pub tells : ℕ → List ℕ → Type 0
tells keys text = informed (wire (codes "# Keyspace^")) (Int keys) ≡ Bulk (wire text)

pub record Lines : Type 0 where
  pub no_key : tells 0 (codes "# Keyspace^")
  pub one_key : tells 1 (codes "# Keyspace^db0:keys=1,expires=0,avg_ttl=0^")
  pub twelve_keys : tells 12 (codes "# Keyspace^db0:keys=12,expires=0,avg_ttl=0^")
  pub no_memory : informed (codes "# Keyspace") (Error Memory) ≡ Error Memory

-- how it is taken
pub record Informing : Type 0 where
  pub it_asks : IsTaken (Full None) (at Closed) (line (codes "INFO")) (Informs (codes "loading:0")) (at Closed)
  pub by_a_call : asked_of (Informs (codes "loading:0") ∷ []) ≡ command.Inspect inspection.KeyCount ∷ []
  pub it_waits : answers_to (Informs (codes "loading:0") ∷ []) [] ≡ AwaitsKeys (codes "loading:0") ∷ []
  pub no_key : answers_to (Informs (codes "loading:0") ∷ []) (Int 0 ∷ []) ≡ Answer (Bulk (codes "loading:0")) ∷ []
  pub not_before_the_password :
      IsTaken (Full secret) (who false) (line (codes "INFO")) (Informs (codes "loading:0")) (who false) → ⊥
  pub not_plainly : IsTaken Plain anyone (line (codes "INFO")) (Informs (codes "loading:0")) anyone → ⊥
  pub not_of_other_sections :
      IsTaken (Full None) (at Closed) (line (codes "INFO server")) (Informs (codes "loading:0")) (at Closed) → ⊥
  pub never_without_a_call :
      IsTaken (Full None) (at Closed) (line (codes "INFO")) (Says (Bulk (codes "loading:0"))) (at Closed) → ⊥
