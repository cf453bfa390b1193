-- The names of the standard library, of the crates below and of the definitions that proofs are written in.
pub use Rattle.std.proofs.Common.{◌≡◌, ℕ, Bool, true, false, cond, not, ◌&&◌, ◌||◌, List, [], Option, Some, None}
pub use Rattle.std.proofs.Common.{is_some, Result, Ok, Err, OnErr, sym, ap, ◌∙◌, refl, BTreeMap, ◌+◌, ◌*◌, inl, inr}
pub use Rattle.std.proofs.Common.{leb, ◌∷◌, map, filter, option_and_then, subst, Ordering, ◌≤◌, ◌++◌, arith, suc, zero}
pub use Rattle.std.proofs.Common.{take, length, ◌-◌, ◌<◌, append-nil, drop, add-zero, append_assoc, get_or, Vec, Global}
pub use Rattle.std.proofs.Common.{rules, IfOk, eqb, ltb}
pub use Rattle.std.proofs.Math.Bool.{or-false}
pub use Rattle.std.proofs.Math.Dec.{T}
pub use Rattle.std.proofs.lemmas.Bool.{false≢true}
pub use Rattle.std.proofs.lemmas.Bool.Decides.{nat_tests}
pub use Rattle.std.proofs.lemmas.Cmp.{tied_itself}
pub use Rattle.std.proofs.lemmas.Grind.{common_steps}
pub use Rattle.std.proofs.lemmas.List.{take_more}
pub use Rattle.std.proofs.lemmas.List.Folds.{list_any-append}
pub use Rattle.std.proofs.lemmas.Map.Keys.{sorted_head, sorted_tail}
pub use Rattle.std.proofs.lemmas.Map.Lookups.{exact_bytes}
pub use Rattle.std.proofs.lemmas.Map.Made.{is_some-lookup}
pub use Rattle.std.proofs.lemmas.Result.{on_ok_weaker, on_err_weaker}
pub use Rattle.std.specs.BTreeMap.{UpdatesBy, IsOrdered, is_at}
pub use Rattle.std.specs.BTreeMap.Range.{range_contains, entries_between}
pub use Rattle.std.specs.BTreeSet.{BTreeSet, contains}
pub use Rattle.std.specs.Cmp.{eq_by_cmp_equiv}
pub use Rattle.std.specs.Cmp.Lexicographic.{slice_cmp, nat_list_cmp_total}
pub use Rattle.std.specs.FinMap.Entries.{below_all, is_sorted, find, same_entries}
pub use Rattle.std.specs.List.{list_any, AllByRecursion, slice_get}
pub use Rattle.std.specs.List.Sorted.{IsStrictlySortedBy}
pub use Rattle.std.specs.Map.{keys_of, lookup}
pub use Rattle.std.specs.Option.{option_map}
pub use Rattle.std.specs.Ordering.{nat_cmp, is_eq, eq_by_cmp}
pub use Rattle.std.specs.Vec.Iter.{into_iter_items}
pub use Rattle.std.specs.declared.cmp.Ordering.TheVariants.{Less}
pub use Rattle.std.specs.declared.ops.Bound.TheVariants.{Included, Unbounded}
pub use Rattle.xs_bytes.proofs.SortedMaps.{get-insert_by, get-remove, get-of_entries, get-change, get-empty, same_map}
pub use Rattle.xs_bytes.specs.Each.{with_some, each}
pub use Rattle.xs_bytes.specs.SortedMap.{get, has_key, change, remove, insert, insert_by, empty, keys}
pub use Rattle.xs_stream.proofs.InOrder.{between-within, filter-filter, limited-none}
pub use Rattle.xs_stream.proofs.Lending.{is-lent}
pub use Rattle.xs_stream.proofs.Order.{is_same_id-eq, is_same_id-symm, equal-from, below-not_back, below-irrefl}
pub use Rattle.xs_stream.proofs.Order.{not_above-trans, same_id, below-not_below, is_same_id-refl, le-not_below}
pub use Rattle.xs_stream.proofs.Order.{partial-below, below-not_same, below-trans, above-greater}
pub use Rattle.xs_stream.specs.Id.{id_cmp, is_same_id, has_id, is_below}
pub use Rattle.xs_stream.specs.StreamContent.{AllAbove, Ascends, up_to_limit, is_within, ids_of, AreEntriesOf}
pub use Rattle.xs_stream.specs.StreamContent.{IsEntryOf}
pub use Rattle.xs_stream.specs.StreamContent.{fields_at}
pub use Rattle.xs_stream.specs.declared.id.Id.{Id}
pub use Rattle.xs_stream.specs.declared.range.Range.{Range}
pub use Rattle.xs_group.specs.Claims.{is_taken, is_hit, without_repeats, from_start, scanned_part}
pub use Rattle.xs_group.specs.declared.claims.ClaimRule.{ClaimRule}
pub use Rattle.xs_group.specs.Claims.{row_after_claim, claimed_row, row_at, is_removed, prefixes, first_where}
pub use Rattle.xs_group.specs.Claims.{first_or_zero, scan_of}
pub use Rattle.xs_group.specs.ConsistentGroup.{IsUpTo, IsConsistentGroup}
pub use Rattle.xs_group.specs.Deliveries.{touch_of, shown_row, shown_rows, touch_set, with_touch, row_after_touch}
pub use Rattle.xs_group.specs.Deliveries.{set_one}
pub use Rattle.xs_group.specs.Deliveries.{set_rows, row_ids, delivery_of, history_of, new_rows, kind_of}
pub use Rattle.xs_group.specs.Deliveries.{rows_taken_back}
pub use Rattle.xs_group.specs.Deliveries.{with_seen, with_consumer_before, list_without_delivery, IsDelivered, IsReread, IsMade}
pub use Rattle.xs_group.specs.GroupState.{RowState, Rows, Consumers, is_same_name, with_name, has_name, is_any, GroupState}
pub use Rattle.xs_group.specs.GroupState.{unless_acked, last_of, with_rows, ids_total, unless_owned, ids_of_consumer}
pub use Rattle.xs_group.specs.GroupState.{idle_time}
pub use Rattle.xs_group.specs.GroupState.{row_after_reread, new_ids, first_row, reread_ids, group_after_delivery}
pub use Rattle.xs_group.specs.GroupState.{group_after_reread}
pub use Rattle.xs_group.specs.Indexes.{rows_of, PendingList, ConsumerIndex, consumers_of, owner_at, seen_of, ids_of_owner, seen_at, ids_at, has_among}
pub use Rattle.xs_group.specs.Indexes.{has_pending_id}
pub use Rattle.xs_group.specs.Indexes.{is_owner, indexed_row, IsAgreed, AreFree, IsNamed}
pub use Rattle.xs_group.specs.Report.{first_id, last_id, pending_row, is_selected, counts_of_owners, consumer_reports}
pub use Rattle.xs_group.specs.Verdict.{row_after_move, ids_scanned_after, AreDistinct, IsClaimOn, is_taken_by}
pub use Rattle.xs_group.specs.Verdict.{is_removed_by}
pub use Rattle.xs_group.specs.Verdict.{verdict_of, with_taken, with_removed, hits_of, AreAgreedBut, AreSomeOf}
pub use Rattle.xs_group.specs.declared.claims.Claim.{Claim}
pub use Rattle.xs_group.specs.declared.claims.Scan.{Scan}
pub use Rattle.xs_group.specs.declared.claims.Verdict.{Verdict}
pub use Rattle.xs_group.specs.declared.consumer_index.Owner.{Owner}
pub use Rattle.xs_group.specs.declared.delivery.Delivery.{Delivery}
pub use Rattle.xs_group.specs.declared.delivery.DeliveryRow.{DeliveryRow}
pub use Rattle.xs_group.specs.declared.delivery.Touch.{Touch}
pub use Rattle.xs_group.specs.declared.reports.ConsumerReport.{ConsumerReport}
pub use Rattle.xs_group.specs.declared.reports.OwnerCount.{OwnerCount}
pub use Rattle.xs_group.specs.declared.reports.PendingRow.{PendingRow}
pub use Rattle.xs_group.specs.declared.reports.Selection.{Selection}
