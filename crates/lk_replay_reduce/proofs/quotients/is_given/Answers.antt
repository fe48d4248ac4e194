use Rattle.std.proofs.Common.{◌≡◌, Bool, true, false, refl, ◌∙◌}
use Rattle.lk_questions.specs.Tests.{test, passes}
use Rattle.lk_store.specs.Store.{contents_of}
use Rattle.lk_replay_reduce.proofs.quotients.is_given.Goals as goal

passed : (b : Bool) → b ≡ passes (test b)
passed true = refl
passed false = refl

pub returns-in-Some : goal.returns-in-Some
returns-in-Some g c =
    let basis = (g.L.Looks.sight (g.L.Terms.rest c.args.looks.now)).basis in
    let h = c.in-Some.ensures.given in
    rw (h.means, ← c.is_quotient.ensures (contents_of basis.library.tables) basis.library.units h.entry h.is) (passed c.is_quotient.result)
