use Rattle.lk_book.proofs.Parting.{none_taken}
use Rattle.lk_book.proofs.texts.texts_in.Goals as goal

pub texts-init : goal.texts-init
texts-init c = none_taken c.args.bytes.now c.new-texts.result.items c.new-texts.ensures.items
