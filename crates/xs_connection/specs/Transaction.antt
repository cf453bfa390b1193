-- What waits between MULTI and EXEC. (Redis, MULTI, EXEC, DISCARD.)
use Rattle.std.specs.Prelude.{ℕ, Bool, true, false, List, [], ◌∷◌, ◌++◌, length, codes, if◌then◌else◌}
use Rattle.xs_resp.specs.declared.reply.Reply.{Reply}
use Rattle.xs_resp.specs.declared.reply.Reply.TheVariants.{Simple, ErrorText, Opening}
use Rattle.xs_resp.specs.declared.reply.Simple.TheVariants.{Okay, Queued}
use Rattle.xs_connection.specs.QueueRoom.{has_room}
use Rattle.xs_connection.specs.declared.transaction.Transaction.{Transaction}
use Rattle.xs_connection.specs.declared.transaction.Transaction.TheVariants.{Closed, Open, Spoiled, Released}

-- whether requests wait for EXEC
abbrev pub is_queueing : Transaction → Bool
is_queueing (Open queue) = true
is_queueing Spoiled = true
is_queueing _ = false

-- after a request that is refused nothing waits any more, and EXEC will report it
abbrev pub spoiled : Transaction → Transaction
spoiled (Open queue) = Spoiled
spoiled transaction = transaction

-- the requests that are still to be served
abbrev pub released : List (List (List ℕ)) → Transaction
released [] = Closed
released queue = Released queue

abbrev pub released_of : Transaction → List (List (List ℕ))
released_of (Released queue) = queue
released_of _ = []

-- MULTI
abbrev pub begun : Transaction → Reply × Transaction
begun (Open queue) = (ErrorText (codes "ERR MULTI calls can not be nested"), Open queue)
begun Spoiled = (ErrorText (codes "ERR MULTI calls can not be nested"), Spoiled)
begun _ = (Simple Okay, Open [])

-- a request waits for EXEC
abbrev pub queued : Transaction → List (List ℕ) → Reply × Transaction
queued (Open queue) words =
    if has_room queue words then (Simple Queued, Open (queue ++ words ∷ []))
    else (ErrorText (codes "ERR a transaction holds at most 1024 commands of 1048576 bytes"), Spoiled)
queued transaction words = (Simple Queued, transaction)

-- EXEC: the requests are served now, and their replies are the items of its own
abbrev pub executed : Transaction → Reply × Transaction
executed (Open queue) = (Opening (length queue), released queue)
executed Spoiled = (ErrorText (codes "EXECABORT Transaction discarded because of previous errors."), Closed)
executed transaction = (ErrorText (codes "ERR EXEC without MULTI"), transaction)

-- DISCARD
abbrev pub discarded : Transaction → Reply × Transaction
discarded (Open queue) = (Simple Okay, Closed)
discarded Spoiled = (Simple Okay, Closed)
discarded transaction = (ErrorText (codes "ERR DISCARD without MULTI"), transaction)
