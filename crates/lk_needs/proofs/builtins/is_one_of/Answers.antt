use Rattle.std.proofs.Common.{◌≡◌, true, false, refl}
use Rattle.lk_store.specs.Contents.{name_at}
use Rattle.lk_store.specs.Store.{contents_of}
use Rattle.lk_needs.proofs.Spelled.{found_in, not_yet, not_in}
use Rattle.lk_needs.proofs.builtins.is_one_of.Goals as goal

pub returns-then-is_spelled : goal.returns-then-is_spelled
returns-then-is_spelled c = (λ t. found_in (name_at (contents_of c.args.base.now) c.args.name) c.args.spellings.now c.loop-spelling.spelling-index _ c.loop-spelling-test.true (c.if-is_spelled.ensures.0 refl), λ h. refl)

pub loop-spelling-preserved : goal.loop-spelling-preserved
loop-spelling-preserved c = not_yet (name_at (contents_of c.args.base.now) c.args.name) c.args.spellings.now c.loop-spelling.spelling-index _ c.loop-spelling-test.true (λ e. let t : false ≡ true = c.if-is_spelled.ensures.1 e in cc) c.loop-spelling.invariant

pub returns : goal.returns
returns c = not_in (name_at (contents_of c.args.base.now) c.args.name) c.args.spellings.now c.loop-spelling.spelling-index c.loop-spelling-test.false c.loop-spelling.invariant
