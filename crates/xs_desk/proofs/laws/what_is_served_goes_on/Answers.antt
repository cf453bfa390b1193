use Rattle.xs_desk.proofs.laws.what_is_served_goes_on.Goals as goal

pub returns : goal.returns
returns c = λ desk calls past is content.
    let run = is.runs past content in
    (run.0, run.1, run.2)
