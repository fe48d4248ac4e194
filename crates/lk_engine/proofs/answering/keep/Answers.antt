use Rattle.lk_engine.proofs.answering.keep.Goals as goal

pub returns-then-cost-least : goal.returns-then-cost-least
returns-then-cost-least g c =
    let private = rw (c.left.ensures, c.last-top.ensures) at c.keep-kept.ensures.holds in
    let lasting = rw (c.left.ensures, c.last-top.ensures) at c.keep-kept.ensures.lasting in
    let staying = rw (c.left.ensures, c.last-top.ensures) at c.keep-kept.ensures.staying in
    record { private = private; lasting = lasting; staying = staying }
