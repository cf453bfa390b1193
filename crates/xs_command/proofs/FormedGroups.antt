-- What the words of the group commands give is well formed.
use Rattle.std.proofs.Common.{◌≡◌, ◌≢◌, ℕ, ◌+◌, Bool, true, false, cond, List, [], ◌∷◌, length, Option, Some, None, Ok}
use Rattle.std.proofs.Common.{Err, subst, codes}
use Rattle.std.specs.Prelude.{◌==◌, ◌||◌}
use Rattle.xs_stream.specs.declared.id.Id.{Id}
use Rattle.xs_resp.specs.declared.fault.Fault.TheVariants.{Syntax, BadId, Arity}
use Rattle.xs_command.specs.declared.command.Command.{Command}
use Rattle.xs_command.specs.declared.command.Command.TheVariants as command
use Rattle.xs_command.specs.declared.xgroup.Subcommand.{Subcommand}
use Rattle.xs_command.specs.declared.xgroup.Subcommand.TheVariants.{Create, Destroy, CreateConsumer, DelConsumer, SetId}
use Rattle.xs_command.specs.Integer.{at_least_zero}
use Rattle.xs_command.specs.WellFormed.{IsWellFormed}
use Rattle.xs_command.specs.Words.{Reading, is_word, word, low, high, integer}
use Rattle.xs_command.specs.Options.{many}
use Rattle.xs_command.specs.CommandName.{is_within_bounds}
use Rattle.xs_command.specs.Syntax.{ids}
use Rattle.xs_command.specs.Xgroup.{xgroup, group_named, group_syntax, subcommand_word_counts, create, destroy}
use Rattle.xs_command.specs.Xgroup.{create_consumer}
use Rattle.xs_command.specs.Xgroup.{delete_consumer, create_option, group_start, subcommand_of}
use Rattle.xs_command.specs.Xack.{xack}
use Rattle.xs_command.specs.Xpending.{xpending, form, with_word_count, idle_rows, pending_rows, optional}
use Rattle.xs_command.specs.Xclaim.{xclaim, claim_option, plain_rule}
use Rattle.xs_command.specs.Xautoclaim.{xautoclaim, auto_claim_option, no_claim_options}
use Rattle.xs_command.proofs.Formed.{Always, after_any, after_sure, only_is, ids_some}

-- ---- XGROUP

create_formed : Always IsWellFormed create
unfolding create
create_formed = after_any IsWellFormed word _ (λ key. after_any IsWellFormed word _ (λ group. after_any IsWellFormed group_start _ (λ start. after_any IsWellFormed (many create_option (record { make = false })) _ (λ options. only_is IsWellFormed (command.GroupCreate (record { key = key; group = group; start = start; make = options.make })) Syntax tt))))

destroy_formed : Always IsWellFormed destroy
unfolding destroy
destroy_formed = after_any IsWellFormed word _ (λ key. after_any IsWellFormed word _ (λ group. only_is IsWellFormed (command.GroupDestroy key group) Syntax tt))

create_consumer_formed : Always IsWellFormed create_consumer
unfolding create_consumer
create_consumer_formed = after_any IsWellFormed word _ (λ key. after_any IsWellFormed word _ (λ group. after_any IsWellFormed word _ (λ consumer. only_is IsWellFormed (command.ConsumerCreate key group consumer) Syntax tt)))

delete_consumer_formed : Always IsWellFormed delete_consumer
unfolding delete_consumer
delete_consumer_formed = after_any IsWellFormed word _ (λ key. after_any IsWellFormed word _ (λ group. after_any IsWellFormed word _ (λ consumer. only_is IsWellFormed (command.ConsumerDelete key group consumer) Syntax tt)))

group_syntax_formed : (sub : Subcommand) → Always IsWellFormed (group_syntax sub)
group_syntax_formed Create words y e = create_formed words y e
group_syntax_formed Destroy words y e = destroy_formed words y e
group_syntax_formed CreateConsumer words y e = create_consumer_formed words y e
group_syntax_formed DelConsumer words y e = delete_consumer_formed words y e
group_syntax_formed SetId words y e = absurd cc

group_counted : (sub : Subcommand) (b : Bool) (words : List (List ℕ)) (y : Command) → cond b (group_syntax sub words) (Err Arity) ≡ Ok y → IsWellFormed y
group_counted sub true words y e = group_syntax_formed sub words y e
group_counted sub false words y e = absurd cc

group_named_formed : (sub : Option Subcommand) → Always IsWellFormed (group_named sub)
group_named_formed None words y e = absurd cc
group_named_formed (Some sub) words y e = group_counted sub (is_within_bounds (subcommand_word_counts sub) (length words + 2)) words y e

pub xgroup_formed : Always IsWellFormed xgroup
unfolding xgroup
xgroup_formed = after_any IsWellFormed word _ (λ sub. group_named_formed (subcommand_of sub))

-- ---- XACK, XCLAIM, XAUTOCLAIM

pub xack_formed : Always IsWellFormed xack
unfolding xack
xack_formed = after_any IsWellFormed word _ (λ key. after_any IsWellFormed word _ (λ group. after_sure (λ (ids : List Id). ids ≢ []) IsWellFormed ids _ ids_some (λ ids some. only_is IsWellFormed (command.Ack key group ids) BadId some)))

pub xclaim_formed : Always IsWellFormed xclaim
unfolding xclaim
xclaim_formed = after_any IsWellFormed word _ (λ key. after_any IsWellFormed word _ (λ group. after_any IsWellFormed word _ (λ consumer. after_any IsWellFormed integer _ (λ idle. after_sure (λ (ids : List Id). ids ≢ []) IsWellFormed ids _ ids_some (λ ids some. after_any IsWellFormed (many claim_option (plain_rule (at_least_zero idle))) _ (λ rule. only_is IsWellFormed (command.Claim (record { key = key; group = group; consumer = consumer; rule = rule; ids = ids })) Syntax some))))))

pub xautoclaim_formed : Always IsWellFormed xautoclaim
unfolding xautoclaim
xautoclaim_formed = after_any IsWellFormed word _ (λ key. after_any IsWellFormed word _ (λ group. after_any IsWellFormed word _ (λ consumer. after_any IsWellFormed integer _ (λ idle. after_any IsWellFormed low _ (λ start. after_any IsWellFormed (many auto_claim_option no_claim_options) _ (λ options. only_is IsWellFormed _ Syntax tt))))))

-- ---- XPENDING

rows_formed : (key group : List ℕ) (min_idle : ℕ) → Always IsWellFormed (pending_rows key group min_idle)
unfolding pending_rows
rows_formed key group min_idle = after_any IsWellFormed low _ (λ low. after_any IsWellFormed high _ (λ high. after_any IsWellFormed integer _ (λ count. after_any IsWellFormed optional _ (λ consumer. only_is IsWellFormed _ Syntax tt))))

idle_rows_formed : (key group : List ℕ) → Always IsWellFormed (idle_rows key group)
unfolding idle_rows
idle_rows_formed key group = after_any IsWellFormed integer _ (λ idle. rows_formed key group (at_least_zero idle))

tested : (b : Bool) (rows : Reading Command) → Always IsWellFormed rows → (words : List (List ℕ)) (y : Command) → cond b (rows words) (Err Syntax) ≡ Ok y → IsWellFormed y
tested true rows h words y e = h words y e
tested false rows h words y e = absurd cc

counted_formed : (n m : ℕ) (rows : Reading Command) → Always IsWellFormed rows → Always IsWellFormed (with_word_count n m rows)
counted_formed n m rows h words y e = tested (length words == n || length words == m) rows h words y e

long_formed : (b : Bool) (key group first : List ℕ) (words : List (List ℕ)) (y : Command) → cond b (with_word_count 4 5 (idle_rows key group) words) (with_word_count 3 4 (pending_rows key group 0) (first ∷ words)) ≡ Ok y → IsWellFormed y
long_formed true key group first words y e = counted_formed 4 5 (idle_rows key group) (idle_rows_formed key group) words y e
long_formed false key group first words y e = counted_formed 3 4 (pending_rows key group 0) (rows_formed key group 0) (first ∷ words) y e

form_formed : (key group : List ℕ) → Always IsWellFormed (form key group)
unfolding form
form_formed key group [] y e = let same : command.Pending key group ≡ y = cc in subst IsWellFormed same tt
form_formed key group (first ∷ words) y e = long_formed (is_word (codes "idle") first) key group first words y e

pub xpending_formed : Always IsWellFormed xpending
unfolding xpending
xpending_formed = after_any IsWellFormed word _ (λ key. after_any IsWellFormed word _ (λ group. form_formed key group))
