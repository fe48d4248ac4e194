use Rattle.lk_sound.proofs.nothing_nested.Goals as goal
use Rattle.lk_sound.proofs.NoNested as none

pub returns : goal.returns
returns c = λ places b stated s st g e. none.nothing_nested places b stated s st g e
