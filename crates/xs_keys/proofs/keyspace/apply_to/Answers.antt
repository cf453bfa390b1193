-- The commands that don't depend on the time are a step at any moment, and so at this one.
use Rattle.xs_keys.proofs.keyspace.apply_to.Goals as goal

pub returns-in-Ping : goal.returns-in-Ping
returns-in-Ping c = rw c.in-Ping.is (c.ping.ensures c.args.keys.now c.args.now)

pub returns-in-Delete : goal.returns-in-Delete
returns-in-Delete c = rw c.in-Delete.is (c.delete.ensures c.args.now)

pub returns-in-TrimTo : goal.returns-in-TrimTo
returns-in-TrimTo c = rw c.in-TrimTo.is (c.trim.ensures c.args.now)

pub returns-in-Len : goal.returns-in-Len
returns-in-Len c = rw c.in-Len.is (c.len.ensures c.args.now)

pub returns-in-Scan : goal.returns-in-Scan
returns-in-Scan c = rw c.in-Scan.is (c.range.ensures c.args.now)

pub returns-in-GroupCreate : goal.returns-in-GroupCreate
returns-in-GroupCreate c = rw c.in-GroupCreate.is (c.create.ensures c.args.now)

pub returns-in-GroupDestroy : goal.returns-in-GroupDestroy
returns-in-GroupDestroy c = rw c.in-GroupDestroy.is (c.destroy.ensures c.args.now)

pub returns-in-ConsumerDelete : goal.returns-in-ConsumerDelete
returns-in-ConsumerDelete c = rw c.in-ConsumerDelete.is (c.delete_consumer.ensures c.args.now)

pub returns-in-Ack : goal.returns-in-Ack
returns-in-Ack c = rw c.in-Ack.is (c.acknowledge.ensures c.args.now)

pub returns-in-Pending : goal.returns-in-Pending
returns-in-Pending c = rw c.in-Pending.is (c.summary.ensures c.args.now)

pub returns-in-DropKeys : goal.returns-in-DropKeys
returns-in-DropKeys c = rw c.in-DropKeys.is (c.delete-in-DropKeys.ensures c.args.now)
