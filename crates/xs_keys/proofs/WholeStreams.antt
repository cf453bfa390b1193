-- The replies to XINFO STREAM with FULL are complete.
use Rattle.std.proofs.Common.{ℕ, codes, List, [], ◌∷◌, ◌++◌, map, length, Option, Some, None}
use Rattle.xs_stream.specs.StreamContent.{StreamState}
use Rattle.xs_resp.specs.WholeReplies.{IsWholeReply, AreWhole}
use Rattle.xs_resp.proofs.Wholeness.{items-whole, all-whole}
use Rattle.xs_keys.specs.Terms.{Id, Field, GroupState, ConsumerReport, PendingRow, consumer_reports, Bulk, Int}
use Rattle.xs_keys.specs.ReplyParts.{id_reply, present_reply}
use Rattle.xs_keys.specs.Inspecting.{size_part, past_part, progress_part}
use Rattle.xs_keys.specs.InspectingInFull.{row_reply, own_row_reply, consumer_part, rows_part, listed_part, first_rows}
use Rattle.xs_keys.specs.InspectingInFull.{whole_consumer_reply, whole_group_reply}
use Rattle.xs_keys.proofs.WholeReplies.{present-whole, read-whole}

row-whole : (row : PendingRow) → IsWholeReply (row_reply row)
row-whole row = items-whole (id_reply row.id ∷ Bulk row.consumer ∷ Int row.time ∷ Int row.count ∷ []) (tt, (tt, (tt, (tt, tt))))

own-row-whole : (row : PendingRow) → IsWholeReply (own_row_reply row)
own-row-whole row = items-whole (id_reply row.id ∷ Int row.time ∷ Int row.count ∷ []) (tt, (tt, (tt, tt)))

module _ (now : ℕ) (limit : Option ℕ) where
  consumer-whole : (group : GroupState) (consumer : ConsumerReport) → IsWholeReply (whole_consumer_reply now limit group consumer)
  consumer-whole group consumer =
      let rows = first_rows now limit (Some consumer.consumer) group in
      items-whole (consumer_part consumer rows) (tt, (tt, (tt, (tt, (tt, (tt, (tt, (items-whole (map own_row_reply rows) (all-whole own_row_reply own-row-whole rows), tt))))))))

  pub group-whole : (stream : StreamState) (group : List ℕ × GroupState) → IsWholeReply (whole_group_reply now limit stream group)
  group-whole stream group =
      let rows = first_rows now limit None group.1 in
      let consumers = consumer_reports now group.1 in
      items-whole
      ((Bulk (codes "name") ∷ Bulk group.0 ∷ progress_part stream group.1.cursor)
      ++ (rows_part (length group.1.rows.entries) rows ++ listed_part (codes "consumers") (map (whole_consumer_reply now limit group.1) consumers))) (
        tt,
        (
          tt,
          (
            tt,
            (
              tt,
              (
                tt,
                (
                  read-whole stream group.1.cursor,
                  (
                    tt,
                    (
                      tt,
                      (
                        tt,
                        (
                          tt,
                          (
                            tt,
                            (
                              items-whole (map row_reply rows) (all-whole row_reply row-whole rows),
                              (
                                tt,
                                (items-whole (map (whole_consumer_reply now limit group.1) consumers) (all-whole (whole_consumer_reply now limit group.1) (consumer-whole group.1) consumers), tt),
                              ),
                            ),
                          ),
                        ),
                      ),
                    ),
                  ),
                ),
              ),
            ),
          ),
        ),
      )

  pub stream-whole : (entries shown : List (Id × List Field)) (stream : StreamState) (id : Id) (groups : List (List ℕ × GroupState))
      → AreWhole (size_part entries ++ (past_part stream id ++ (listed_part (codes "entries") (map present_reply shown) ++ listed_part (codes "groups") (map (whole_group_reply now limit stream) groups))))
  stream-whole entries shown stream id groups = (
    tt,
    (
      tt,
      (
        tt,
        (
          tt,
          (
            tt,
            (
              tt,
              (
                tt,
                (
                  tt,
                  (
                    tt,
                    (
                      tt,
                      (
                        tt,
                        (
                          tt,
                          (
                            tt,
                            (
                              tt,
                              (
                                tt,
                                (
                                  items-whole (map present_reply shown) (all-whole present_reply present-whole shown),
                                  (
                                    tt,
                                    (items-whole (map (whole_group_reply now limit stream) groups) (all-whole (whole_group_reply now limit stream) (group-whole stream) groups), tt),
                                  ),
                                ),
                              ),
                            ),
                          ),
                        ),
                      ),
                    ),
                  ),
                ),
              ),
            ),
          ),
        ),
      ),
    ),
  )
