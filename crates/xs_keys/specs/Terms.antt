-- The names of the other crates in which the model is written.
pub use Rattle.std.specs.List.{flat_map, list_all, list_any}
pub use Rattle.std.specs.Option.{option_map, option_map_or, option_or}
pub use Rattle.xs_bytes.specs.Each.{with_some}
pub use Rattle.xs_bytes.specs.SortedMap.{NameMap, get, empty, has_key, insert, remove}
pub use Rattle.xs_stream.specs.declared.id.Id.{Id}
pub use Rattle.xs_stream.specs.declared.add.AddId.{AddId}
pub use Rattle.xs_stream.specs.declared.trim.Trim.{Trim}
pub use Rattle.xs_stream.specs.declared.field.Field.{Field}
pub use Rattle.xs_stream.specs.declared.add.AddError.{AddError}
pub use Rattle.xs_stream.specs.Id.{is_below, has_id, zero_id, id_text, id_of_addition}
pub use Rattle.xs_stream.specs.StreamContent.{StreamState}
pub use Rattle.xs_stream.specs.StreamContent.{ids_of, is_trimmed, entries_after_trim, without, fields_at, ids_within}
pub use Rattle.xs_stream.specs.StreamContent.{up_to_limit, greatest, new_stream, with_entry, with_deleted}
pub use Rattle.xs_stream.specs.StreamContent.{Ascends, AllUpTo, AllAbove}
pub use Rattle.xs_group.specs.GroupState.{is_same_name, is_any, RowState, GroupState, has_name, new_group, with_consumer}
pub use Rattle.xs_group.specs.GroupState.{unless_acked, group_after_ack}
pub use Rattle.xs_group.specs.GroupState.{unless_owned, without_consumer, new_ids, first_row, group_after_delivery}
pub use Rattle.xs_group.specs.GroupState.{reread_ids}
pub use Rattle.xs_group.specs.GroupState.{row_after_reread}
pub use Rattle.xs_group.specs.GroupState.{group_after_reread}
pub use Rattle.xs_group.specs.Claims.{claim_by_ids, scan_of, row_after_claim, group_after_claim}
pub use Rattle.xs_group.specs.declared.claims.ClaimRule.{ClaimRule}
pub use Rattle.xs_group.specs.declared.reports.ConsumerReport.{ConsumerReport}
pub use Rattle.xs_group.specs.declared.reports.OwnerCount.{OwnerCount}
pub use Rattle.xs_group.specs.declared.reports.GroupSummary.{GroupSummary}
pub use Rattle.xs_group.specs.declared.reports.PendingRow.{PendingRow}
pub use Rattle.xs_group.specs.Report.{owned_count, summary_of, pending_of, consumer_reports}
pub use Rattle.xs_command.specs.declared.command.Command.{Command}
pub use Rattle.xs_command.specs.declared.command.Command.TheVariants.{Ping, Quit, Add, Delete, TrimTo, Len, Scan}
pub use Rattle.xs_command.specs.declared.command.Command.TheVariants.{GroupCreate, GroupDestroy, ConsumerCreate}
pub use Rattle.xs_command.specs.declared.command.Command.TheVariants.{ConsumerDelete, ReadGroup, Ack, Pending}
pub use Rattle.xs_command.specs.declared.command.Command.TheVariants.{PendingRows, Claim, AutoClaim, DropKeys, Inspect}
pub use Rattle.xs_command.specs.declared.command.GroupStart.{GroupStart}
pub use Rattle.xs_command.specs.declared.command.GroupStart.TheVariants.{Top, At}
pub use Rattle.xs_command.specs.declared.command.GroupCreateCommand.{GroupCreateCommand}
pub use Rattle.xs_command.specs.declared.command.ReadGroupCommand.{ReadGroupCommand}
pub use Rattle.xs_command.specs.declared.command.ReadOne.{ReadOne}
pub use Rattle.xs_command.specs.declared.command.ReadFrom.{ReadFrom}
pub use Rattle.xs_command.specs.declared.command.ReadFrom.TheVariants.{New, After}
pub use Rattle.xs_resp.specs.declared.reply.Reply.{Reply}
pub use Rattle.xs_resp.specs.declared.reply.Reply.TheVariants.{Simple, Error, Int, Bulk, NullBulk, Array, NullArray}
pub use Rattle.xs_resp.specs.declared.reply.Simple.TheVariants.{Okay, Pong}
pub use Rattle.xs_resp.specs.declared.fault.Fault.{Fault}
pub use Rattle.xs_resp.specs.declared.fault.Fault.TheVariants.{SmallId, Exhausted, Memory, NoKey, MissingKey, Busy, NoGroup}
pub use Rattle.xs_resp.specs.ReplyItems.{items_of}
