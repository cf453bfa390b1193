-- What the words of XINFO, EXISTS, TYPE and DBSIZE give is well formed.
use Rattle.std.proofs.Common.{◌≡◌, ℕ, ◌+◌, Bool, true, false, cond, List, [], ◌∷◌, length, Option, Some, None, Ok, Err, subst, codes}
use Rattle.std.specs.Prelude.{nat_lt}
use Rattle.xs_resp.specs.declared.fault.Fault.TheVariants.{Syntax, Arity}
use Rattle.xs_command.specs.declared.command.Command.{Command}
use Rattle.xs_command.specs.declared.command.Command.TheVariants as command
use Rattle.xs_command.specs.declared.command.Inspection.TheVariants as inspection
use Rattle.xs_command.specs.declared.xinfo.Subcommand.{Subcommand}
use Rattle.xs_command.specs.declared.xinfo.Subcommand.TheVariants.{Groups, Stream, Consumers}
use Rattle.xs_command.specs.WellFormed.{IsWellFormed}
use Rattle.xs_command.specs.Words.{Reading, word, integer, is_word}
use Rattle.xs_command.specs.CommandName.{is_within_bounds}
use Rattle.xs_command.specs.Xinfo.{xinfo, groups, consumers, stream, stream_form, stream_in_full, stream_counted, full_limit, subcommand_of}
use Rattle.xs_command.specs.Xinfo.{subcommand_word_counts, info_syntax, info_named}
use Rattle.xs_command.specs.Exists.{exists}
use Rattle.xs_command.specs.KeyType.{key_type}
use Rattle.xs_command.specs.Dbsize.{dbsize}
use Rattle.xs_command.proofs.Formed.{Always, after_any, only_is}

groups_formed : Always IsWellFormed groups
unfolding groups
groups_formed = after_any IsWellFormed word _ (λ key. only_is IsWellFormed (command.Inspect (inspection.Groups key)) Syntax tt)

consumers_formed : Always IsWellFormed consumers
unfolding consumers
consumers_formed = after_any IsWellFormed word _ (λ key. after_any IsWellFormed word _ (λ group. only_is IsWellFormed (command.Inspect (inspection.Consumers key group)) Syntax tt))

counted_formed : (key : List ℕ) → Always IsWellFormed (stream_counted key)
unfolding stream_counted
counted_formed key = after_any IsWellFormed integer _ (λ n. only_is IsWellFormed (command.Inspect (inspection.StreamInFull key (full_limit n))) Syntax tt)

-- after one word the rest is read, after another nothing
if_word : (b : Bool) (read : Reading Command) (words : List (List ℕ)) (y : Command) → Always IsWellFormed read → cond b (read words) (Err Syntax) ≡ Ok y → IsWellFormed y
if_word true read words y formed e = formed words y e
if_word false read words y formed e = absurd cc

in_full_formed : (key : List ℕ) → Always IsWellFormed (stream_in_full key)
unfolding stream_in_full
in_full_formed key [] y e = let same : command.Inspect (inspection.StreamInFull key (Some 10)) ≡ y = cc in subst IsWellFormed same tt
in_full_formed key (w ∷ words) y e = if_word (is_word (codes "count") w) (stream_counted key) words y (counted_formed key) e

form_formed : (key : List ℕ) → Always IsWellFormed (stream_form key)
unfolding stream_form
form_formed key [] y e = let same : command.Inspect (inspection.Stream key) ≡ y = cc in subst IsWellFormed same tt
form_formed key (w ∷ words) y e = if_word (is_word (codes "full") w) (stream_in_full key) words y (in_full_formed key) e

stream_formed : Always IsWellFormed stream
unfolding stream
stream_formed = after_any IsWellFormed word _ (λ key. form_formed key)

info_syntax_formed : (sub : Subcommand) → Always IsWellFormed (info_syntax sub)
info_syntax_formed Groups words y e = groups_formed words y e
info_syntax_formed Stream words y e = stream_formed words y e
info_syntax_formed Consumers words y e = consumers_formed words y e

info_counted : (sub : Subcommand) (b : Bool) (words : List (List ℕ)) (y : Command) → cond b (info_syntax sub words) (Err Arity) ≡ Ok y → IsWellFormed y
info_counted sub true words y e = info_syntax_formed sub words y e
info_counted sub false words y e = absurd cc

info_named_formed : (sub : Option Subcommand) → Always IsWellFormed (info_named sub)
info_named_formed None words y e = absurd cc
info_named_formed (Some sub) words y e = info_counted sub (is_within_bounds (subcommand_word_counts sub) (length words + 2)) words y e

pub xinfo_formed : Always IsWellFormed xinfo
unfolding xinfo
xinfo_formed = after_any IsWellFormed word _ (λ sub. info_named_formed (subcommand_of sub))

exists_test : (b : Bool) (keys : List (List ℕ)) (y : Command) → cond b (Ok (command.Inspect (inspection.Existence keys))) (Err Syntax) ≡ Ok y → IsWellFormed y
exists_test true keys y e = let same : command.Inspect (inspection.Existence keys) ≡ y = cc in subst IsWellFormed same tt
exists_test false keys y e = absurd cc

pub exists_formed : Always IsWellFormed exists
unfolding exists
exists_formed keys y e = exists_test (nat_lt 0 (length keys)) keys y e

pub key_type_formed : Always IsWellFormed key_type
unfolding key_type
key_type_formed = after_any IsWellFormed word _ (λ key. only_is IsWellFormed (command.Inspect (inspection.KeyType key)) Syntax tt)

pub dbsize_formed : Always IsWellFormed dbsize
unfolding dbsize
dbsize_formed = only_is IsWellFormed (command.Inspect inspection.KeyCount) Syntax tt
