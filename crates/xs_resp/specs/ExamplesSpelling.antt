-- The grammar of requests, and requests in pieces, by examples of the RESP protocol specification (version 2).
use Rattle.std.specs.Prelude.{◌≡◌, ℕ, [], ◌∷◌, codes, Ok, Err, ◌++◌}
use Rattle.xs_resp.specs.declared.read_fault.ProtocolFault.TheVariants.{Length, Shape, Limit}
use Rattle.xs_resp.specs.Outcome.{Keeps}
use Rattle.xs_resp.specs.Grammar.{spelling, null_spelling, Spells, SpellsAll}
use Rattle.xs_resp.specs.Grammar.{HasNoCr, LacksCrlf, FaultIn, WordFault, IsOpen}
use Rattle.xs_resp.specs.Pieces.{Reads, ReadsPieces}
use Rattle.xs_resp.specs.Examples.{wire}
use Rattle.xs_resp.specs.ExamplesRequests.{found, undecided}

pub record Spellings : Type 0 where
  pub one_word : spelling (codes "PING" ∷ []) ≡ wire (codes "*1^$4^PING^")
  pub two_words : spelling (codes "LLEN" ∷ codes "mylist" ∷ []) ≡ wire (codes "*2^$4^LLEN^$6^mylist^")
  pub an_empty_word : spelling ([] ∷ []) ≡ wire (codes "*1^$0^^")
  pub no_words : spelling [] ≡ wire (codes "*0^")
  pub null : null_spelling ≡ wire (codes "*-1^")

pub record Spelled : Type 0 where
  pub one_word : Spells (wire (codes "*1^$4^PING^")) (codes "PING" ∷ [])
  pub no_words : Spells (wire (codes "*0^")) []
  pub null : Spells (wire (codes "*-1^")) []
  pub three_requests :
      SpellsAll (wire (codes "*1^$4^PING^*-1^*0^")) ((codes "PING" ∷ []) ∷ [] ∷ [] ∷ [])

pub record Pieces : Type 0 where
  pub two_and_a_part : Reads (wire (codes "*1^$4^PING^*0^*1")) ((codes "PING" ∷ []) ∷ [] ∷ []) (Ok (codes "*1"))
  pub none_of_a_part : Reads (codes "*1") [] (Ok (codes "*1"))
  pub until_a_fault : Reads (wire (codes "*0^x")) ([] ∷ []) (Err Shape)
  pub no_request_waits : Reads (wire (codes "*0^")) [] (Ok (wire (codes "*0^"))) → ⊥
  pub in_pieces :
      ReadsPieces (Ok []) (codes "*" ∷ wire (codes "0^*0") ∷ wire (codes "^") ∷ []) ([] ∷ [] ∷ []) (Ok [])
  pub of_a_failed_reader : ReadsPieces (Err Limit) (wire (codes "*0^") ∷ []) [] (Err Limit)

pub record Stays : Type 0 where
  pub a_request : Keeps (found [] 4) (found [] 4)
  pub no_other_request : Keeps (found [] 4) (found [] 5) → ⊥
  pub not_undecided_again : Keeps (found [] 4) undecided → ⊥
  pub undecided_may_be_a_request : Keeps undecided (found [] 4)
  pub a_fault : Keeps {A = ℕ} (Err Shape) (Err Shape)
  pub no_other_fault : Keeps {A = ℕ} (Err Shape) (Err Length) → ⊥

-- a fault of each kind, and bytes without one
pub record FaultKinds : Type 0 where
  pub no_cr : HasNoCr (codes "12")
  pub a_cr : HasNoCr (49 ∷ 13 ∷ []) → ⊥
  pub another_byte : LacksCrlf (codes "x")
  pub another_byte_behind_cr : LacksCrlf (13 ∷ codes "x")
  pub no_byte_yet : LacksCrlf [] → ⊥
  pub cr_alone : LacksCrlf (13 ∷ []) → ⊥
  pub a_line_end : LacksCrlf (13 ∷ 10 ∷ []) → ⊥
  pub no_marker : FaultIn (codes "PING") Shape
  pub no_lf : FaultIn (codes "*1" ++ 13 ∷ codes "x") Shape
  pub no_number : FaultIn (wire (codes "*x^")) Length
  pub too_great_a_number : FaultIn (wire (codes "*1048577^")) Limit
  pub too_long_a_header : FaultIn (codes "*111111111111111111111111111111") Limit
  pub no_line_end_behind_a_word : WordFault (wire (codes "$4^PINGx")) Shape
  pub a_request_first : IsOpen (wire (codes "*0^x")) → ⊥
  pub a_fault_first : IsOpen (codes "x") → ⊥
