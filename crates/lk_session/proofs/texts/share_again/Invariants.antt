use Rattle.std.proofs.Common.{◌≡◌, map, take}
use Rattle.lk_session.specs.Texts.{bytes_of}
use Rattle.lk_session.proofs.texts.share_again.Given as goal

abbrev pub invariant-loop-text : goal.invariant-loop-text
invariant-loop-text l = map bytes_of l.shared.items ≡ map bytes_of (take l.text-index l.texts)
