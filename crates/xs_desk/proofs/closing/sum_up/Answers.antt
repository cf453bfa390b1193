use Rattle.std.proofs.Common.{rules, arith, ◌≡◌, ◌++◌, length, sym, ap, ◌∙◌, length-append}
use Rattle.std.proofs.lemmas.List.{length-map}
use Rattle.rtrb.specs.Ring.{sent, received, known_items}
use Rattle.xs_desk.proofs.Lists.{prefix_map, prefix_more}
use Rattle.xs_desk.proofs.closing.sum_up.Goals as goal

pub returns-clause-summary : goal.returns-clause-summary
returns-clause-summary c =
    let lane_end = c.args.lane_end.now in
    let calls = lane_end.calls in
    let ring = lane_end.answers.ring in
    let held = lane_end.answers.held_back.items in
    let submitted = sent c.end.inside.calls in
    let taken = received c.end.inside.answers in
    let waiting = known_items c.slots_beside-left.new.self in
    let untaken = known_items c.slots_beside.new.self in
    let asked : received calls ++ waiting ≡ submitted =
    ap (λ r. r ++ waiting) (sym c.slots_beside-left.ensures.looked.1) ∙ c.slots_beside-left.ensures.fifo ∙ c.slots_beside-left.ensures.producer.1 in
    let answered : taken ++ untaken ≡ sent ring = ap (λ r. r ++ untaken) (sym c.slots_beside.ensures.looked.1) ∙ c.slots_beside.ensures.fifo ∙ c.slots_beside.ensures.producer.1 in
    let held_is : c.len.result ≡ length held = search rules in
    rw (← c.end.view_is) (record {
      calls = prefix_map (λ call. call.command) (received calls) submitted (waiting, asked);
      answers = prefix_more taken (sent ring) held (untaken, answered);
      even = c.requires.even;
      served = lane_end.counted ∙ c.requires.even;
      left = omega (
        arith,
        lane_end.counted,
        c.requires.even,
        c.slots_beside-left.ensures.value,
        length-map (received calls) (λ call. call.command),
        length-map submitted (λ call. call.command),
        ap length asked,
        length-append (received calls) waiting,
      );
      untaken = omega (arith, c.slots_beside.ensures.value, held_is, ap length answered, length-append taken untaken, length-append (sent ring) held);
    })
