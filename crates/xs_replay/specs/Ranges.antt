-- Events whose numbers are in range: those of ids below 2^64, moments and counts of deliveries below 2^63.
use Rattle.std.specs.Prelude.{◌^◌, ◌<◌, IfSome}
use Rattle.xs_stream.specs.declared.add.AddId.{AddId}
use Rattle.xs_stream.specs.declared.add.AddId.TheVariants.{Auto, AutoSeq, Exact}
use Rattle.xs_stream.specs.ConsistentStream.{IsId}
use Rattle.xs_group.specs.declared.claims.ClaimRule.{ClaimRule}
use Rattle.xs_command.specs.declared.command.Command.{Command}
use Rattle.xs_command.specs.declared.command.Command.TheVariants.{Add, GroupCreate, Claim, AutoClaim}
use Rattle.xs_command.specs.declared.command.GroupStart.{GroupStart}
use Rattle.xs_command.specs.declared.command.GroupStart.TheVariants.{Top, At}
use Rattle.xs_keys.specs.Event.{Event, event_moment, event_command}

-- the id of an addition
abbrev pub AddIdFits : AddId → Type 0
AddIdFits Auto = Unit {0}
AddIdFits (AutoSeq ms) = ms < 2 ^ 64
AddIdFits (Exact id) = IsId id

-- the id after which a group starts
abbrev pub StartFits : GroupStart → Type 0
StartFits Top = Unit {0}
StartFits (At id) = IsId id

-- the count that a claim sets
abbrev pub RuleFits : ClaimRule → Type 0
RuleFits rule = IfSome rule.retry (λ count. count < 2 ^ 63)

-- the numbers that a command may leave in a content; other numbers are only compared
abbrev pub CommandFits : Command → Type 0
CommandFits (Add add) = AddIdFits add.id
CommandFits (GroupCreate create) = StartFits create.start
CommandFits (Claim claim) = RuleFits claim.rule
CommandFits (AutoClaim claim) = RuleFits claim.rule
CommandFits _ = Unit {0}

abbrev pub EventFits : Event → Type 0
EventFits event = (event_moment event < 2 ^ 63) × CommandFits (event_command event)
