-- Numbers, ids and the number of words of each command, by the pages of the commands and the replies of a real Redis
-- 7.0.
use Rattle.std.specs.Prelude.{◌≡◌, ℕ, [], codes, Some, None, Ok, Err}
use Rattle.xs_stream.specs.declared.add.AddId.TheVariants.{Auto, AutoSeq, Exact}
use Rattle.xs_stream.specs.Id.{zero_id}
use Rattle.xs_stream.specs.Examples.{at}
use Rattle.xs_resp.specs.declared.fault.Fault.TheVariants.{Arity, BadId, Syntax, ZeroId, UnknownCommand}
use Rattle.xs_command.specs.declared.integer.Integer.TheVariants.{Negative, Natural}
use Rattle.xs_command.specs.declared.command.Command.TheVariants as command
use Rattle.xs_command.specs.declared.refusal.Refusal.TheVariants.{Said, Memory}
use Rattle.xs_command.specs.Integer.{integer_of, at_least_zero}
use Rattle.xs_command.specs.AddId.{add_id_of}
use Rattle.xs_command.specs.WellFormed.{IsAddId}
use Rattle.xs_command.specs.Words.{Gives}
use Rattle.xs_command.specs.Examples.{Spells, HasFault}

pub record Integers : Type 0 where
  pub zero : integer_of (codes "0") ≡ Some (Natural 0)
  pub one_digit : integer_of (codes "7") ≡ Some (Natural 7)
  pub two_digits : integer_of (codes "10") ≡ Some (Natural 10)
  pub negative : integer_of (codes "-1") ≡ Some Negative
  pub negative_zero : integer_of (codes "-0") ≡ None
  pub plus : integer_of (codes "+5") ≡ None
  pub leading_zero : integer_of (codes "05") ≡ None
  pub negative_leading_zero : integer_of (codes "-05") ≡ None
  pub two_zeros : integer_of (codes "00") ≡ None
  pub no_digit : integer_of [] ≡ None
  pub a_sign_alone : integer_of (codes "-") ≡ None
  pub two_signs : integer_of (codes "--1") ≡ None
  pub a_letter : integer_of (codes "1x") ≡ None
  pub the_greatest : integer_of (codes "9223372036854775807") ≡ Some (Natural 9223372036854775807)
  pub past_the_greatest : integer_of (codes "9223372036854775808") ≡ None
  pub the_least : integer_of (codes "-9223372036854775808") ≡ Some Negative
  pub past_the_least : integer_of (codes "-9223372036854775809") ≡ None
  pub a_natural_stays : at_least_zero (Natural 7) ≡ 7
  pub below_zero_is_zero : at_least_zero Negative ≡ 0

-- the id of XADD
pub record AddIds : Type 0 where
  pub auto : add_id_of (codes "*") ≡ Ok Auto
  pub auto_sequence : add_id_of (codes "5-*") ≡ Ok (AutoSeq 5)
  pub auto_sequence_of_zero : add_id_of (codes "0-*") ≡ Ok (AutoSeq 0)
  pub auto_sequence_of_many_digits : add_id_of (codes "1526919030474-*") ≡ Ok (AutoSeq 1526919030474)
  pub written : add_id_of (codes "1526919030474-55") ≡ Ok (Exact (at 1526919030474 55))
  pub milliseconds_alone : add_id_of (codes "5") ≡ Ok (Exact (at 5 0))
  pub sequence_alone : add_id_of (codes "0-1") ≡ Ok (Exact (at 0 1))
  pub the_zero_id : add_id_of (codes "0-0") ≡ Err ZeroId
  pub zero_milliseconds_alone : add_id_of (codes "0") ≡ Err ZeroId
  pub no_milliseconds : add_id_of (codes "-*") ≡ Err BadId
  pub other_milliseconds : add_id_of (codes "x-*") ≡ Err BadId
  pub too_many_milliseconds : add_id_of (codes "18446744073709551616-*") ≡ Err BadId
  pub two_stars : add_id_of (codes "**") ≡ Err BadId
  pub a_star_first : add_id_of (codes "*-1") ≡ Err BadId
  pub a_dash : add_id_of (codes "-") ≡ Err BadId
  pub a_plus : add_id_of (codes "+") ≡ Err BadId
  pub the_top : add_id_of (codes "$") ≡ Err BadId
  pub no_word : add_id_of [] ≡ Err BadId
  pub formed : IsAddId (Exact (at 0 1))
  pub not_formed : IsAddId (Exact zero_id) → ⊥

-- one word too few, and one too many
pub record Counts : Type 0 where
  pub unknown : HasFault (codes "XADDS k * f v") UnknownCommand
  pub a_part_of_a_name : HasFault (codes "XAD k * f v") UnknownCommand
  pub ping_alone : Spells (codes "PING") (command.Ping None)
  pub quit_alone : Spells (codes "QUIT") command.Quit
  pub quit_and_more : Spells (codes "QUIT a b") command.Quit
  pub xadd : HasFault (codes "XADD k * f") Arity
  pub xadd_before_its_id : HasFault (codes "XADD k x f") Arity
  pub xadd_without_fields : HasFault (codes "XADD k NOMKSTREAM MAXLEN 3 *") Arity
  pub xdel : HasFault (codes "XDEL k") Arity
  pub xtrim : HasFault (codes "XTRIM k MAXLEN") Arity
  pub xlen : HasFault (codes "XLEN k l") Arity
  pub xrange : HasFault (codes "XRANGE k -") Arity
  pub xrevrange : HasFault (codes "XREVRANGE k +") Arity
  pub xgroup_create : HasFault (codes "XGROUP CREATE k g") Arity
  pub xgroup_destroy : HasFault (codes "XGROUP DESTROY k") Arity
  pub xgroup_createconsumer : HasFault (codes "XGROUP CREATECONSUMER k g c d") Arity
  pub xgroup_delconsumer : HasFault (codes "XGROUP DELCONSUMER k g c d") Arity
  pub xreadgroup : HasFault (codes "XREADGROUP GROUP g c STREAMS k") Arity
  pub xack : HasFault (codes "XACK k g") Arity
  pub xpending : HasFault (codes "XPENDING k") Arity
  pub xclaim : HasFault (codes "XCLAIM k g c 0") Arity
  pub xautoclaim : HasFault (codes "XAUTOCLAIM k g c 0") Arity

-- what a call that reads may return: what is read, the fault that is read, or out of memory (own)
pub record Given : Type 0 where
  pub what_is_read : Gives {A = ℕ} (Ok 5) (Ok 5)
  pub nothing_else : Gives {A = ℕ} (Ok 5) (Ok 6) → ⊥
  pub nothing_for_a_fault : Gives {A = ℕ} (Ok 5) (Err Syntax) → ⊥
  pub the_fault : Gives {A = ℕ} (Err (Said Syntax)) (Err Syntax)
  pub no_other_fault : Gives {A = ℕ} (Err (Said Syntax)) (Err Arity) → ⊥
  pub no_fault_for_what_is_read : Gives {A = ℕ} (Err (Said Syntax)) (Ok 5) → ⊥
  pub no_memory : Gives {A = ℕ} (Err Memory) (Ok 5)
