-- Which ring an end belongs to.
use Rattle.std.specs.declared.alloc.Global.{Global}
use Rattle.rtrb.specs.declared.producer.Producer.{Producer}
use Rattle.rtrb.specs.declared.consumer.Consumer.{Consumer}
use Rattle.xs_desk.specs.ServedCalls.{Ring}

module _ {T P : Type 0} where
  abbrev pub producer_ring : Producer T Global P → Ring
  producer_ring p = record { words = p.end.words; slots = p.end.slots; names = p.end.names; heap = p.end.heap }

  abbrev pub consumer_ring : Consumer T Global P → Ring
  consumer_ring c = record { words = c.end.words; slots = c.end.slots; names = c.end.names; heap = c.end.heap }
