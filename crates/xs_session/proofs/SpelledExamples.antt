-- The bytes of the examples are requests.
use Rattle.std.specs.Prelude.{[], codes}
use Rattle.std.specs.Fmt.{digits}
use Rattle.std.proofs.Common.{refl, arith, inl, inr}
use Rattle.xs_resp.specs.Examples.{wire}
use Rattle.xs_resp.specs.Grammar.{Spells}
use Rattle.xs_command.specs.Examples.{line}
use Rattle.xs_session.specs.ExamplesSessions.{bytes_of_ping, bytes_of_len, bytes_of_get, bytes_of_quit, bytes_of_add}

pub spelled-ping : Spells bytes_of_ping (line (codes "PING"))
unfolding digits
spelled-ping = record { number = omega arith; sizes = (omega arith, tt); spelled = inl refl }

pub spelled-get : Spells bytes_of_get (line (codes "GET k"))
unfolding digits
spelled-get = record { number = omega arith; sizes = (omega arith, (omega arith, tt)); spelled = inl refl }

pub spelled-len : Spells bytes_of_len (line (codes "XLEN k"))
unfolding digits
spelled-len = record { number = omega arith; sizes = (omega arith, (omega arith, tt)); spelled = inl refl }

pub spelled-quit : Spells bytes_of_quit (line (codes "QUIT"))
unfolding digits
spelled-quit = record { number = omega arith; sizes = (omega arith, tt); spelled = inl refl }

pub spelled-add : Spells bytes_of_add (line (codes "XADD k 1-1 f v"))
unfolding digits
spelled-add = record { number = omega arith; sizes = (omega arith, (omega arith, (omega arith, (omega arith, (omega arith, tt))))); spelled = inl refl }

pub spelled-none : Spells (wire (codes "*0^")) []
unfolding digits
spelled-none = record { number = omega arith; sizes = tt; spelled = inl refl }

pub spelled-null : Spells (wire (codes "*-1^")) []
spelled-null = record { number = omega arith; sizes = tt; spelled = inr (refl, refl) }
