-- How a job changes its client, step by step.
use Rattle.xs_desk.proofs.Sides.{side_again, ask_keeps_side}

-- the steps of a job
pub ruleset steps = (ask_keeps_side, side_again)
